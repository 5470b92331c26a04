-- What one line, or one call, keeps, seen from the processor that makes it: the part of the invariant that speaks of the view alone, and for
-- each sum of the invariant how far the view's share in it moves. Every case is linear arithmetic.
-- Assumes nothing.
use Prim.Native.Nat.{ℕ, suc, ◌+◌, ◌-◌, ◌*◌, ◌≤◌, ◌<◌}
use mathlib.Core.Bool.{Bool, true, false}
use mathlib.Core.List.{List, [], ◌∷◌, ◌++◌}
use mathlib.Core.Logic.{◌≢◌}
use mathlib.Core.Path.{◌≡◌, refl, ap, sym, subst}
use native.Mathlib.Omega.{arith}
use native.Mathlib.Nat.{mod-lt}
use lib.Dec.{eqb}
use lib.ListN.{length, length-append}
use borrow.Author.Tests.{eqb-true}
use Rattle.reference.specs.Lists.{sum, is, choose, in_range}
use Rattle.reference.specs.State.{Token, Processor, Mutex, Line, App, CI2, CI3, L1, L3, L4, L6, L7, L8, L9, L10, TL1, GT1, GT3, TL3, U1, H2, H3, H5, H6, H8, Y1, Y2, Y3, C2, row, probes, same_token}
use Rattle.reference.specs.Step.{View, line, own_token, unchanged, Action, go, lock, trylock, unlock, yield, exit, create, act, target, created_by, ended_by}
use Rattle.reference.specs.Cause.{is_go}
use Rattle.reference.specs.Safe.{In, one_if}
use Rattle.reference.proofs.Tests.{both_left, range_true, true_range}
use Rattle.reference.proofs.Same.{same_token_exact}
use Rattle.reference.proofs.Sums.{some, some_le, some_one, some_pos, sum_snoc, choose-by, if_zero-by, if_empty-by}

-- 0 for a thread, else 1
unfoldable pub out : ℕ → ℕ → ℕ
out T k = choose (in_range 1 T k) 0 1

pub out_in : (T k : ℕ) → out T k ≡ 0 → In T k
unfolding out
out_in T k = choose-by (λ n. n ≡ 0 → In T k) (in_range 1 T k) (λ e h. range_true 1 T k e) (λ e h. omega arith)

pub in_out : (T k : ℕ) → 1 ≤ k → k ≤ T → out T k ≡ 0
unfolding out
in_out T k h g = rw (true_range 1 T k h g)

pub token-processor : (t u : Token) → same_token t u ≡ true → t.processor ≡ u.processor
token-processor t u e = ap (λ (x : Token). x.processor) (same_token_exact.only t u e)

pub unchanged-processor : (v : View) → unchanged v ≡ true → v.mutex.token.processor ≡ v.proc.observed.processor
unchanged-processor v e = eqb-true _ _ (both_left (eqb v.mutex.token.processor v.proc.observed.processor) _ e)

pub token-self : (t : Token) → one_if (same_token t t) ≡ 1
token-self t = ap one_if (same_token_exact.itself t)

one_if_one : (b : Bool) → one_if b ≤ 1
one_if_one true = omega arith
one_if_one false = omega arith

-- the first of a queue is taken; f weighs threads
pub record FirstOf (T : ℕ) (f : ℕ → ℕ) (q : List ℕ) (x : ℕ) (xs : List ℕ) : Type 0 where
  pub long : length q ≡ suc (length xs)
  pub share : sum f q ≡ f x + sum f xs
  pub rest : sum (out T) xs ≡ 0
  pub low : 1 ≤ x
  pub high : x ≤ T
  pub some : some x ≡ 1

pub first_taken : (T : ℕ) (f : ℕ → ℕ) {q : List ℕ} {x : ℕ} {xs : List ℕ} → q ≡ x ∷ xs → sum (out T) q ≡ 0 → FirstOf T f q x xs
unfolding sum
first_taken T f {q} {x} {xs} e h =
    let d : sum (out T) q ≡ out T x + sum (out T) xs = ap (sum (out T)) e in
    let r : In T x = out_in T x (omega arith) in
    record { long = ap length e; share = ap (sum f) e; rest = omega arith; low = r.0; high = r.1; some = some_pos x r.0 }

-- a thread joins a queue
pub record Joined (T : ℕ) (f : ℕ → ℕ) (q : List ℕ) (x : ℕ) : Type 0 where
  pub long : length (q ++ x ∷ []) ≡ length q + 1
  pub share : sum f (q ++ x ∷ []) ≡ sum f q + f x
  pub rest : sum (out T) (q ++ x ∷ []) ≡ 0

pub joined : (T : ℕ) (f : ℕ → ℕ) (q : List ℕ) (x : ℕ) → sum (out T) q ≡ 0 → 1 ≤ x → x ≤ T → Joined T f q x
joined T f q x h low high =
    record { long = length-append q (x ∷ []); share = sum_snoc f q x; rest = omega (arith, sum_snoc (out T) q x, in_out T x low high) }

-- ---- what is known of the view, and what is to be shown

-- What a processor at a line owes to its mutex. uncounted: it owns and is not counted yet; carries: it is counted and not queued yet;
-- responsible: it has to hand the mutex on; holds: its current thread is the owner; looks, saw, offers: it will find the token, if it is still
-- there (any token, the one that it observed, its own); claims: it takes the token that it observed, to serve the queue; takes: it serves the queue.
pub record Duty : Type 0 where
  pub uncounted : ℕ
  pub carries : ℕ
  pub responsible : ℕ
  pub holds : ℕ
  pub looks : ℕ
  pub saw : ℕ
  pub offers : ℕ
  pub claims : ℕ
  pub takes : ℕ

abbrev duties : ℕ → ℕ → ℕ → ℕ → ℕ → ℕ → ℕ → ℕ → ℕ → Duty
duties u c r o l w f a t = record { uncounted = u; carries = c; responsible = r; holds = o; looks = l; saw = w; offers = f; claims = a; takes = t }

abbrev pub duty : Line → Duty
duty App = duties 0 0 0 0 0 0 0 0 0
duty CI2 = duties 0 0 0 0 0 0 0 0 0
duty CI3 = duties 0 0 0 0 0 0 0 0 0
duty L1 = duties 0 0 0 0 0 0 0 0 0
duty L3 = duties 0 1 0 0 0 0 0 0 0
duty L4 = duties 0 1 0 0 0 0 0 0 0
duty L6 = duties 0 0 0 0 1 0 0 0 0
duty L7 = duties 0 0 0 0 0 1 0 0 0
duty L8 = duties 0 0 0 0 0 1 0 1 0
duty L9 = duties 0 0 1 0 0 0 0 0 1
duty L10 = duties 0 0 0 0 0 0 0 0 0
duty TL1 = duties 0 0 0 0 0 0 0 0 0
duty GT1 = duties 0 0 0 0 0 0 0 0 0
duty GT3 = duties 0 0 0 0 0 0 0 0 0
duty TL3 = duties 1 0 0 1 0 0 0 0 0
duty U1 = duties 0 0 0 1 0 0 0 0 0
duty H2 = duties 0 0 1 0 0 0 0 0 0
duty H3 = duties 0 0 0 0 0 0 0 0 0
duty H5 = duties 0 0 1 0 0 0 0 0 0
duty H6 = duties 0 0 0 0 0 0 1 0 0
duty H8 = duties 0 0 0 0 0 0 1 0 0
duty Y1 = duties 0 0 0 0 0 0 0 0 0
duty Y2 = duties 0 0 0 0 0 0 0 0 0
duty Y3 = duties 0 0 0 0 0 0 0 0 0
duty C2 = duties 0 0 0 0 0 0 0 0 0

-- 1 if the processor, number p, will find the token t of its mutex
abbrev pub watch : Line → Token → ℕ → Processor → ℕ
watch l t p r = (duty l).looks + (duty l).saw * one_if (same_token t r.observed) + (duty l).offers * one_if (same_token t (record { processor = p; sequence = r.sequence }))

-- the registers of a processor at line l: in 1 .. their bound where the line's row has 1, else 0; N bounds its own sequence number
pub record Registers (P T M N : ℕ) (l : Line) (r : Processor) : Type 0 where
  pub answer : r.answer ≤ 2
  pub current-low : (row l).current ≤ r.current
  pub current-high : r.current ≤ T * (row l).current
  pub current-most : r.current ≤ T
  pub transit-low : (row l).transit ≤ r.transit
  pub transit-high : r.transit ≤ T * (row l).transit
  pub transit-most : r.transit ≤ T
  pub mutex-low : (row l).mutex ≤ r.mutex
  pub mutex-high : r.mutex ≤ M * (row l).mutex
  pub mutex-most : r.mutex ≤ M
  pub observed-low : (row l).observed ≤ r.observed.processor
  pub observed-high : r.observed.processor ≤ P * (row l).observed
  pub observed-most : r.observed.processor ≤ P
  pub observed_sequence-low : (row l).observed ≤ r.observed.sequence
  pub observed_sequence-high : r.observed.sequence ≤ 4000 * (row l).observed
  pub sequence : r.sequence ≤ N

-- and what its duties ask of them
pub record Table (P T M N : ℕ) (l : Line) (r : Processor) : Type 0 where
  pub registers : Registers P T M N l r
  pub responsible : (duty l).responsible ≤ r.mutex
  pub holds : (duty l).holds ≤ r.mutex
  pub holder : (duty l).holds ≤ r.current
  pub serves : (duty l).claims + (duty l).takes ≤ r.mutex
  pub serving : (duty l).takes ≤ (duty l).responsible
  pub claimed : (duty l).claims ≤ r.observed.processor
  pub carrier : (duty l).carries ≤ r.current + r.transit
  pub once : (duty l).carries ≤ 1

-- the probe, of r ready queues: 0 to r − 1, and 0 elsewhere than at CI2
pub record ProbeFits (r : ℕ) (l : Line) (n : ℕ) : Type 0 where
  pub most : n < r
  pub zero : n ≤ r * probes l

-- the ranges of a mutex; N bounds the sequence numbers
pub record Sound (P T N : ℕ) (x : Mutex) : Type 0 where
  pub queue : sum (out T) x.queue ≡ 0
  pub owner : x.owner ≤ T
  pub token : x.token.processor ≤ P
  pub token-low : some x.token.processor ≤ x.token.sequence
  pub token-zero : x.token.sequence ≤ 4000 * some x.token.processor
  pub token-high : x.token.sequence ≤ N

-- the line that an action is made at
abbrev pub from : Action → Line → Line
from a l = choose (is_go a) l App

-- what it means for a call that there is no cause
abbrev pub Allowed : ℕ → ℕ → Action → ℕ → View → Type 0
Allowed M T go o v = Unit {0}
Allowed M T lock o v = In M o
Allowed M T trylock o v = In M o
Allowed M T unlock o v = In M o × (v.mutex.owner ≡ v.proc.current)
Allowed M T yield o v = Unit {0}
Allowed M T exit o v = Unit {0}
Allowed M T create o v = In T o

-- where a processor weighs in a sum over those on a mutex, that mutex is m, before and after
abbrev pub Stays : ℕ → ℕ → ℕ → ℕ → ℕ → Type 0
Stays a b m i j = (k : ℕ) → (a * is k i ≡ a * is k m) × (b * is k j ≡ b * is k m)

-- the token t was there before, and the queue has not become shorter
abbrev pub Old : View → View → Token → Type 0
Old v v' t = (v.mutex.token.processor ≡ t.processor) × (v.mutex.token.sequence ≡ t.sequence) × (length v.mutex.queue ≤ length v'.mutex.queue)

module _ (P T M N : ℕ) (f : ℕ → ℕ) where
  -- before a move, of a view at line l; f weighs threads
  pub record Fit (l : Line) (v : View) : Type 0 where
    pub here : v.proc.position ≡ l
    pub table : Table P T M N l v.proc
    pub sound : Sound P T N v.mutex
    pub ready : sum (out T) v.ready ≡ 0
    pub probe : ProbeFits v.queues l v.proc.probe
    pub handed : some v.mutex.owner + some v.mutex.token.processor + (duty l).responsible ≤ some v.mutex.count
    pub holds : 1 ≤ (duty l).holds → v.proc.current ≡ v.mutex.owner
    pub claims : (duty l).claims * one_if (same_token v.mutex.token v.proc.observed) + (duty l).takes ≤ length v.mutex.queue
    pub self-low : 1 ≤ v.self
    pub self-high : v.self ≤ P
    pub early : N < 4000
    pub f_zero : f 0 ≡ 0
    pub f_current : (1 - (row l).current) * f v.proc.current ≡ 0
    pub f_transit : (1 - (row l).transit) * f v.proc.transit ≡ 0

  -- after a move from line l to line n on mutex m that creates i and ends j
  pub record Done' (l n : Line) (m i j : ℕ) (v v' : View) : Type 0 where
    pub table : Table P T M (suc N) n v'.proc
    pub sound : Sound P T (suc N) v'.mutex
    pub ready : sum (out T) v'.ready ≡ 0
    pub probe : ProbeFits v.queues n v'.proc.probe
    pub holds : 1 ≤ (duty n).holds → (v'.proc.current ≡ v'.mutex.owner) × (v'.proc.mutex ≡ m)
    pub counts : v.mutex.count + (duty l).uncounted + some v'.mutex.owner + length v'.mutex.queue + (duty n).carries ≡
        v'.mutex.count + (duty n).uncounted + some v.mutex.owner + length v.mutex.queue + (duty l).carries
    pub hands : some v.mutex.owner + some v.mutex.token.processor + (duty l).responsible + some v'.mutex.count ≡
        some v'.mutex.owner + some v'.mutex.token.processor + (duty n).responsible + some v.mutex.count
    pub uncounted : Stays (duty l).uncounted (duty n).uncounted m v.proc.mutex v'.proc.mutex
    pub carries : Stays (duty l).carries (duty n).carries m v.proc.mutex v'.proc.mutex
    pub responsible : Stays (duty l).responsible (duty n).responsible m v.proc.mutex v'.proc.mutex
    pub mutex : 1 ≤ (duty l).holds → v.proc.mutex ≡ m
    pub steady : some v.mutex.owner ≡ 1 → (duty l).holds ≡ 0 → v'.mutex.owner ≡ v.mutex.owner
    pub census : sum f v.ready + sum f v.mutex.queue + f v.proc.current + f v.proc.transit + f i ≡
        sum f v'.ready + sum f v'.mutex.queue + f v'.proc.current + f v'.proc.transit + f j
    pub idle : m ≡ 0 → sum f v'.mutex.queue ≡ sum f v.mutex.queue

  abbrev pub Done : Line → ℕ → ℕ → ℕ → View → View → Type 0
  Done l m i j v v' = Done' l v'.proc.position m i j v v'

  loads : {l : Line} (v : View) → Fit l v → (row l).current ≡ 1 → some v.proc.current ≡ 1
  loads v h e = some_pos v.proc.current (omega arith)

  line-done : (l : Line) (v : View) → Fit l v → Done l v.proc.mutex 0 0 v (line l v)
  unfolding line
  line-done App v h = subst (λ (n : Line). Done' App n v.proc.mutex 0 0 v v) (sym h.here) (omega arith)
  line-done CI2 v h =
      if_empty-by (Done CI2 v.proc.mutex 0 0 v) v.ready (λ e. omega (arith, mod-lt (suc v.proc.probe) {m = v.queues} (omega arith)))
      (λ x xs e. omega (arith, first_taken T f e h.ready))
  line-done CI3 v h = omega arith
  line-done L1 v h = if_zero-by (Done L1 v.proc.mutex 0 0 v) v.mutex.count (λ e. omega (arith, ap some e, loads v h refl)) (λ c e. omega (arith, ap some e))
  line-done L3 v h = omega arith
  line-done L4 v h = omega (arith, joined T f v.mutex.queue v.proc.transit h.sound.queue (omega arith) (omega arith))
  line-done L6 v h = if_zero-by (Done L6 v.proc.mutex 0 0 v) v.mutex.token.processor (λ e. omega arith) (λ c e. omega (arith, ap some e))
  line-done L7 v h = if_empty-by (Done L7 v.proc.mutex 0 0 v) v.mutex.queue (λ e. omega arith) (λ x xs e. omega arith)
  line-done L8 v h =
      choose-by (Done L8 v.proc.mutex 0 0 v) (unchanged v)
      (λ e. omega (arith, some_pos v.mutex.token.processor (omega (arith, unchanged-processor v e)), some_one v.mutex.count))
      (λ e. omega arith)
  line-done L9 v h =
      if_empty-by (Done L9 v.proc.mutex 0 0 v) v.mutex.queue (λ e. omega arith) (λ x xs e. omega (arith, first_taken T f e h.sound.queue, some_one v.mutex.count))
  line-done L10 v h = omega arith
  line-done TL1 v h = if_zero-by (Done TL1 v.proc.mutex 0 0 v) v.mutex.count (λ e. omega (arith, ap some e, loads v h refl)) (λ c e. omega arith)
  line-done GT1 v h = if_zero-by (Done GT1 v.proc.mutex 0 0 v) v.mutex.token.processor (λ e. omega arith) (λ c e. omega (arith, ap some e))
  line-done GT3 v h =
      choose-by (Done GT3 v.proc.mutex 0 0 v) (unchanged v)
      (λ e. omega (arith, some_pos v.mutex.token.processor (omega (arith, unchanged-processor v e)), some_one v.mutex.count, loads v h refl))
      (λ e. omega arith)
  line-done TL3 v h = omega (arith, h.holds (omega arith), some_one v.mutex.count, some_pos v.mutex.owner (omega (arith, h.holds (omega arith))))
  line-done U1 v h =
      if_zero-by (Done U1 v.proc.mutex 0 0 v) (v.mutex.count - 1)
      (λ e. omega (arith, ap some e, some_one v.mutex.count, some_le v.mutex.count, h.holds (omega arith), some_pos v.mutex.owner (omega (arith, h.holds (omega arith)))))
      (λ c e. omega (arith, ap some e, some_one v.mutex.count, some_le v.mutex.count, h.holds (omega arith), some_pos v.mutex.owner (omega (arith, h.holds (omega arith)))))
  line-done H2 v h =
      if_empty-by (Done H2 v.proc.mutex 0 0 v) v.mutex.queue (λ e. omega arith) (λ x xs e. omega (arith, first_taken T f e h.sound.queue, some_one v.mutex.count))
  line-done H3 v h = omega (arith, joined T f v.ready v.proc.transit h.ready (omega arith) (omega arith))
  line-done H5 v h = omega (arith, some_pos v.self (omega arith), some_one v.mutex.count)
  line-done H6 v h = if_empty-by (Done H6 v.proc.mutex 0 0 v) v.mutex.queue (λ e. omega arith) (λ x xs e. omega arith)
  line-done H8 v h =
      choose-by (Done H8 v.proc.mutex 0 0 v) (same_token v.mutex.token (own_token v))
      (λ e. omega (arith, some_pos v.mutex.token.processor (omega (arith, token-processor v.mutex.token (own_token v) e)), some_one v.mutex.count))
      (λ e. omega arith)
  line-done Y1 v h = if_empty-by (Done Y1 v.proc.mutex 0 0 v) v.ready (λ e. omega arith) (λ x xs e. omega arith)
  line-done Y2 v h = omega arith
  line-done Y3 v h = omega (arith, joined T f v.ready v.proc.transit h.ready (omega arith) (omega arith))
  line-done C2 v h = omega (arith, joined T f v.ready v.proc.transit h.ready (omega arith) (omega arith))

  -- ---- the calls

  pub act-done : (a : Action) (o : ℕ) (v : View) → Fit (from a v.proc.position) v → Allowed M T a o v →
      Done (from a v.proc.position) (target a v.proc.mutex o) (created_by a o) (ended_by a v.proc.current) v (act a o v)
  unfolding act
  act-done go o v h c = line-done v.proc.position v h
  act-done lock o v h c = omega arith
  act-done trylock o v h c = omega arith
  act-done unlock o v h c = omega arith
  act-done yield o v h c = omega arith
  act-done exit o v h c = omega arith
  act-done create o v h c = omega arith

  -- ---- the tokens

  -- what the move does to tokens, and to those that will find one
  pub record Handled' (l n : Line) (m : ℕ) (v v' : View) : Type 0 where
    pub sequence : v.proc.sequence ≤ v'.proc.sequence
    pub known : (R : ℕ → ℕ) → R v.self ≡ v'.proc.sequence → v.mutex.token.sequence ≤ R v.mutex.token.processor → v.proc.observed.sequence ≤ R v.proc.observed.processor →
        (v'.mutex.token.sequence ≤ R v'.mutex.token.processor) × (v'.proc.observed.sequence ≤ R v'.proc.observed.processor)
    pub watched : 1 ≤ some v'.mutex.token.processor → 1 ≤ length v'.mutex.queue → watch n v'.mutex.token v.self v'.proc ≡ 0 →
        (v'.mutex.token.processor ≡ v.mutex.token.processor) × (v'.mutex.token.sequence ≡ v.mutex.token.sequence) × (1 ≤ length v.mutex.queue) × (watch l v.mutex.token v.self v.proc ≡ 0)
    pub stood : (t : Token) → 1 ≤ watch l t v.self v.proc → v.proc.mutex ≡ m
    pub watches : 1 ≤ watch n v'.mutex.token v.self v'.proc → v'.proc.mutex ≡ m
    pub claims : (duty n).claims * one_if (same_token v'.mutex.token v'.proc.observed) + (duty n).takes ≤ length v'.mutex.queue
    pub claimed : 1 ≤ (duty n).claims + (duty n).takes → v'.proc.mutex ≡ m
    pub old_sequence : (t : Token) → 1 ≤ some v'.mutex.token.processor → v'.mutex.token.processor ≡ t.processor → v'.mutex.token.sequence ≡ t.sequence → t.sequence ≤ v.proc.sequence → Old v v' t
    pub old_other : (t : Token) → 1 ≤ some v'.mutex.token.processor → v'.mutex.token.processor ≡ t.processor → v'.mutex.token.sequence ≡ t.sequence → t.processor ≢ v.self → Old v v' t
    pub leaves : (duty l).responsible ≡ 0 → length v.mutex.queue ≤ length v'.mutex.queue

  abbrev pub Handled : Line → ℕ → View → View → Type 0
  Handled l m v v' = Handled' l v'.proc.position m v v'

  line_handled : (l : Line) (v : View) → Fit l v → Handled l v.proc.mutex v (line l v)
  unfolding line
  line_handled App v h = subst (λ (n : Line). Handled' App n v.proc.mutex v v) (sym h.here) (omega arith)
  line_handled CI2 v h = if_empty-by (Handled CI2 v.proc.mutex v) v.ready (λ e. omega arith) (λ x xs e. omega arith)
  line_handled CI3 v h = omega arith
  line_handled L1 v h = if_zero-by (Handled L1 v.proc.mutex v) v.mutex.count (λ e. omega (arith, ap some e)) (λ c e. omega (arith, ap some e))
  line_handled L3 v h = omega arith
  line_handled L4 v h = omega (arith, joined T f v.mutex.queue v.proc.transit h.sound.queue (omega arith) (omega arith))
  line_handled L6 v h =
      if_zero-by (Handled L6 v.proc.mutex v) v.mutex.token.processor (λ e. omega (arith, ap some e)) (λ c e. omega (arith, ap some e, token-self v.mutex.token))
  line_handled L7 v h =
      if_empty-by (Handled L7 v.proc.mutex v) v.mutex.queue (λ e. omega (arith, ap length e)) (λ x xs e. omega (arith, ap length e, one_if_one (same_token v.mutex.token v.proc.observed)))
  line_handled L8 v h =
      choose-by (Handled L8 v.proc.mutex v) (unchanged v)
      (λ e. omega (arith, ap one_if e, some_pos v.mutex.token.processor (omega (arith, unchanged-processor v e)), some_one v.mutex.count))
      (λ e. omega (arith, ap one_if e))
  line_handled L9 v h =
      if_empty-by (Handled L9 v.proc.mutex v) v.mutex.queue (λ e. omega (arith, ap length e)) (λ x xs e. omega (arith, first_taken T f e h.sound.queue, some_one v.mutex.count))
  line_handled L10 v h = omega arith
  line_handled TL1 v h = if_zero-by (Handled TL1 v.proc.mutex v) v.mutex.count (λ e. omega (arith, ap some e)) (λ c e. omega arith)
  line_handled GT1 v h = if_zero-by (Handled GT1 v.proc.mutex v) v.mutex.token.processor (λ e. omega arith) (λ c e. omega (arith, ap some e))
  line_handled GT3 v h =
      choose-by (Handled GT3 v.proc.mutex v) (unchanged v)
      (λ e. omega (arith, some_pos v.mutex.token.processor (omega (arith, unchanged-processor v e)), some_one v.mutex.count))
      (λ e. omega arith)
  line_handled TL3 v h = omega (arith, h.holds (omega arith), some_one v.mutex.count, some_pos v.mutex.owner (omega (arith, h.holds (omega arith))))
  line_handled U1 v h =
      if_zero-by (Handled U1 v.proc.mutex v) (v.mutex.count - 1)
      (λ e. omega (arith, ap some e, some_one v.mutex.count, some_le v.mutex.count, h.holds (omega arith), some_pos v.mutex.owner (omega (arith, h.holds (omega arith)))))
      (λ c e. omega (arith, ap some e, some_one v.mutex.count, some_le v.mutex.count, h.holds (omega arith), some_pos v.mutex.owner (omega (arith, h.holds (omega arith)))))
  line_handled H2 v h =
      if_empty-by (Handled H2 v.proc.mutex v) v.mutex.queue (λ e. omega (arith, ap length e)) (λ x xs e. omega (arith, first_taken T f e h.sound.queue, some_one v.mutex.count))
  line_handled H3 v h = omega arith
  line_handled H5 v h =
      omega (arith, some_pos v.self (omega arith), some_one v.mutex.count, token-self (record { processor = v.self; sequence = suc v.proc.sequence }))
  line_handled H6 v h = if_empty-by (Handled H6 v.proc.mutex v) v.mutex.queue (λ e. omega (arith, ap length e)) (λ x xs e. omega (arith, ap length e))
  line_handled H8 v h =
      choose-by (Handled H8 v.proc.mutex v) (same_token v.mutex.token (own_token v))
      (λ e. omega (arith, some_pos v.mutex.token.processor (omega (arith, token-processor v.mutex.token (own_token v) e)), some_one v.mutex.count))
      (λ e. omega (arith, ap one_if e))
  line_handled Y1 v h = if_empty-by (Handled Y1 v.proc.mutex v) v.ready (λ e. omega arith) (λ x xs e. omega arith)
  line_handled Y2 v h = omega arith
  line_handled Y3 v h = omega arith
  line_handled C2 v h = omega arith

  pub act_handled : (a : Action) (o : ℕ) (v : View) → Fit (from a v.proc.position) v → Allowed M T a o v →
      Handled (from a v.proc.position) (target a v.proc.mutex o) v (act a o v)
  unfolding act
  act_handled go o v h c = line_handled v.proc.position v h
  act_handled lock o v h c = omega arith
  act_handled trylock o v h c = omega arith
  act_handled unlock o v h c = omega arith
  act_handled yield o v h c = omega arith
  act_handled exit o v h c = omega arith
  act_handled create o v h c = omega arith
