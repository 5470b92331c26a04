-- What a line makes of a view follows from the registers and the word that it reads: a view that shows no other word serves as well. Every case computes.
-- Assumes nothing.
use Prim.Native.Nat.{ℕ, zero, suc, ◌-◌}
use mathlib.Core.Bool.{Bool, true, false}
use mathlib.Core.List.{List, [], ◌∷◌}
use mathlib.Core.Path.{◌≡◌, refl}
use Rattle.reference.specs.Lists.{choose, if_zero}
use Rattle.reference.specs.State.{Token, Processor, Line, App, CI2, CI3, L1, L3, L4, L6, L7, L8, L9, L10, TL1, GT1, GT3, TL3, U1, H2, H3, H5, H6, H8, Y1, Y2, Y3, C2, no_token, nobody, same_token}
use Rattle.reference.specs.Step.{View, line, Action, go, lock, trylock, unlock, yield, exit, create, act, target, created_by}
use Rattle.reference.specs.Cause.{is_go}
use Rattle.reference.specs.History.{gains, drops}
use Rattle.reference.specs.Touch.{Word, none, count, token, queue, ready, birth, Touch, line_touch, act_touch}

-- a view by its parts
abbrev pub seen : ℕ → ℕ → Processor → ℕ → List ℕ → ℕ → Token → List ℕ → View
seen n p r c q k t z = record { self = p; proc = r; mutex = record { count = c; queue = q; owner = k; token = t }; ready = z; queues = n }

-- the value where the word is a count, a token, a queue, a ready queue; else nothing
abbrev pub if_count : Word → ℕ → ℕ
if_count none n = 0
if_count (count m) n = n
if_count (token m) n = 0
if_count (queue m) n = 0
if_count (ready q) n = 0
if_count (birth k) n = 0

abbrev pub if_token : Word → Token → Token
if_token none t = no_token
if_token (count m) t = no_token
if_token (token m) t = t
if_token (queue m) t = no_token
if_token (ready q) t = no_token
if_token (birth k) t = no_token

abbrev pub if_queue : Word → List ℕ → List ℕ
if_queue none l = []
if_queue (count m) l = []
if_queue (token m) l = []
if_queue (queue m) l = l
if_queue (ready q) l = []
if_queue (birth k) l = []

abbrev pub if_ready : Word → List ℕ → List ℕ
if_ready none l = []
if_ready (count m) l = []
if_ready (token m) l = []
if_ready (queue m) l = []
if_ready (ready q) l = l
if_ready (birth k) l = []

-- the view that shows the registers and one word
abbrev pub bare : Word → View → View
bare w v =
    seen v.queues v.self v.proc (if_count w v.mutex.count) (if_queue w v.mutex.queue) 0 (if_token w v.mutex.token) (if_ready w v.ready)

-- a word of mutex m or ready queue q, or the birth of thread i
abbrev pub Of : ℕ → ℕ → ℕ → Word → Type 0
Of m q i none = Unit {0}
Of m q i (count n) = n ≡ m
Of m q i (token n) = n ≡ m
Of m q i (queue n) = n ≡ m
Of m q i (ready n) = n ≡ q
Of m q i (birth n) = n ≡ i

-- the word that a line reads, whatever it finds
abbrev pub read_by : Line → ℕ → ℕ → Word
read_by l m q = (line_touch l m q (seen 0 0 nobody 0 [] 0 no_token [])).reads

-- from v, an action touches t, makes v', gains g and drops d; from b, which shows of v only the word w, it touches u, makes b', gains h and drops e
pub record Follows (m q i : ℕ) (w : Word) (t u : Touch) (v' b' : View) (g h d e : ℕ) : Type 0 where
  pub reads : t.reads ≡ w
  pub reads_of : Of m q i w
  pub writes_of : Of m q i t.writes
  pub touches : t ≡ u
  pub makes : bare t.writes v' ≡ bare t.writes b'
  pub gains : g ≡ h
  pub drops : d ≡ e

module _ {m q i : ℕ} {w : Word} {g h d e : ℕ} where
  by : {t u : Touch} {v b : View} → Of m q i w → Of m q i t.writes → t.reads ≡ w → t ≡ u → bare t.writes v ≡ bare t.writes b → g ≡ h → d ≡ e →
      Follows m q i w t u v b g h d e
  by a c r t k x y = record { reads = r; reads_of = a; writes_of = c; touches = t; makes = k; gains = x; drops = y }

  -- the branches of a line
  chosen : (x : Bool) {t t' u u' : Touch} {v v' b b' : View} → Follows m q i w t u v b g h d e → Follows m q i w t' u' v' b' g h d e →
      Follows m q i w (choose x t t') (choose x u u') (choose x v v') (choose x b b') g h d e
  chosen true a b = a
  chosen false a b = b

  zeroed : (n : ℕ) {t u : Touch} {v v' b b' : View} → Follows m q i w t u v b g h d e → Follows m q i w t u v' b' g h d e →
      Follows m q i w t u (if_zero n v v') (if_zero n b b') g h d e
  zeroed zero a b = a
  zeroed (suc n) a b = b

abbrev pub LineFollows : ℕ → ℕ → Line → View → Type 0
LineFollows m q l v =
    let b : View = bare (read_by l m q) v in
    Follows m q 0 (read_by l m q) (line_touch l m q v) (line_touch l m q b) (line l v) (line l b) (gains l v) (gains l b) (drops l v) (drops l b)

module _ (m w n p : ℕ) (r : Processor) (k : ℕ) where
  follows : (l : Line) (c : ℕ) (q : List ℕ) (t : Token) (z : List ℕ) → LineFollows m w l (seen n p r c q k t z)
  unfolding line line_touch gains drops
  follows App c q t z = by tt tt refl refl refl refl refl
  follows CI2 c q t [] = by refl tt refl refl refl refl refl
  follows CI2 c q t (x ∷ z) = by refl refl refl refl refl refl refl
  follows CI3 c q t z = by tt tt refl refl refl refl refl
  follows L1 zero q t z = by refl refl refl refl refl refl refl
  follows L1 (suc c) q t z = by refl refl refl refl refl refl refl
  follows L3 c q t z = by tt tt refl refl refl refl refl
  follows L4 c q t z = by refl refl refl refl refl refl refl
  follows L6 c q t z = zeroed t.processor (by refl tt refl refl refl refl refl) (by refl tt refl refl refl refl refl)
  follows L7 c [] t z = by refl tt refl refl refl refl refl
  follows L7 c (x ∷ q) t z = by refl tt refl refl refl refl refl
  follows L8 c q t z = chosen (same_token t r.observed) (by refl refl refl refl refl refl refl) (by refl tt refl refl refl refl refl)
  follows L9 c [] t z = by refl tt refl refl refl refl refl
  follows L9 c (x ∷ q) t z = by refl refl refl refl refl refl refl
  follows L10 c q t z = by tt tt refl refl refl refl refl
  follows TL1 zero q t z = by refl refl refl refl refl refl refl
  follows TL1 (suc c) q t z = by refl tt refl refl refl refl refl
  follows GT1 c q t z = zeroed t.processor (by refl tt refl refl refl refl refl) (by refl tt refl refl refl refl refl)
  follows GT3 c q t z = chosen (same_token t r.observed) (by refl refl refl refl refl refl refl) (by refl tt refl refl refl refl refl)
  follows TL3 c q t z = by refl refl refl refl refl refl refl
  follows U1 c q t z = zeroed (c - 1) (by refl refl refl refl refl refl refl) (by refl refl refl refl refl refl refl)
  follows H2 c [] t z = by refl tt refl refl refl refl refl
  follows H2 c (x ∷ q) t z = by refl refl refl refl refl refl refl
  follows H3 c q t z = by refl refl refl refl refl refl refl
  follows H5 c q t z = by tt refl refl refl refl refl refl
  follows H6 c [] t z = by refl tt refl refl refl refl refl
  follows H6 c (x ∷ q) t z = by refl tt refl refl refl refl refl
  follows H8 c q t z = chosen (same_token t (record { processor = p; sequence = r.sequence })) (by refl refl refl refl refl refl refl) (by refl tt refl refl refl refl refl)
  follows Y1 c q t [] = by refl tt refl refl refl refl refl
  follows Y1 c q t (x ∷ z) = by refl tt refl refl refl refl refl
  follows Y2 c q t z = by tt tt refl refl refl refl refl
  follows Y3 c q t z = by refl refl refl refl refl refl refl
  follows C2 c q t z = by refl refl refl refl refl refl refl

-- ---- an action

-- the word that it reads
abbrev pub read-act : Action → ℕ → Processor → ℕ → Word
read-act go o r q = read_by r.position r.mutex q
read-act lock o r q = none
read-act trylock o r q = none
read-act unlock o r q = none
read-act yield o r q = none
read-act exit o r q = none
read-act create o r q = birth o

-- the thread that by it becomes the owner of its mutex, and the one that gives it up; 0 for none
abbrev pub act-gains : Action → View → ℕ
act-gains c v = choose (is_go c) (gains v.proc.position v) 0

abbrev pub act-drops : Action → View → ℕ
act-drops c v = choose (is_go c) (drops v.proc.position v) 0

pub act_follows : (c : Action) (o q : ℕ) (v : View) →
    let r : Processor = v.proc in
    let w : Word = read-act c o r q in
    let b : View = bare w v in
    Follows (target c r.mutex o) q (created_by c o) w (act_touch c o r.mutex q v) (act_touch c o r.mutex q b) (act c o v) (act c o b) (act-gains c v) (act-gains c b) (act-drops c v)
    (act-drops c b)
unfolding act act_touch
act_follows go o q v =
    follows v.proc.mutex q v.queues v.self v.proc v.mutex.owner v.proc.position v.mutex.count v.mutex.queue v.mutex.token v.ready
act_follows lock o q v = by tt tt refl refl refl refl refl
act_follows trylock o q v = by tt tt refl refl refl refl refl
act_follows unlock o q v = by tt tt refl refl refl refl refl
act_follows yield o q v = by tt tt refl refl refl refl refl
act_follows exit o q v = by tt tt refl refl refl refl refl
act_follows create o q v = by refl refl refl refl refl refl refl
