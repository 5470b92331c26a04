-- On the whole state: what a move does follows from its processor's registers and the word that it reads.
-- Assumes nothing.
use Prim.Native.Nat.{ℕ, zero, suc, ◌+◌, ◌*◌, ◌≤◌, ◌<◌}
use mathlib.Core.Bool.{Bool, true, false}
use mathlib.Core.List.{List, []}
use mathlib.Core.Logic.{◌≢◌, inl, inr}
use mathlib.Core.Path.{◌≡◌, refl, ap, sym, subst, ◌∙◌}
use native.Mathlib.Decide.{ℕ_discrete}
use native.Mathlib.Omega.{arith}
use lib.Dec.{eqb}
use lib.ListN.{length}
use borrow.Author.Tests.{eqb-true, eqb-false}
use Rattle.reference.specs.Lists.{at, put, is, around, choose}
use Rattle.reference.specs.State.{Processor, Mutex, Life, live, terminated, State, Line, probes, nobody, free_mutex, no_token, queues, processor_at, mutex_at, queue_at, life_at}
use Rattle.reference.specs.Step.{View, line, Action, go, lock, trylock, unlock, yield, exit, create, act, target, works_on, view, does, created_by, ended_by, Move, action_of, next}
use Rattle.reference.specs.Start.{Config}
use Rattle.reference.specs.Cause.{cause}
use Rattle.reference.specs.History.{gains, drops}
use Rattle.reference.specs.Safe.{In, end}
use Rattle.reference.specs.Touch.{Word, none, count, token, queue, ready, birth, Touch, act_touch, touch}
use Rattle.reference.specs.Frame.{Same}
use Rattle.reference.proofs.Sums.{at-put-same, at-put-other, length-put, put_same}
use Rattle.reference.proofs.Legal.{legal}
use Rattle.reference.proofs.Lives.{is_new}
use Rattle.reference.proofs.Invariant.{Good, go-fit}
use Rattle.reference.proofs.Owners.{event}
use Rattle.reference.proofs.Laws.{good, sized}
use Rattle.independence.specs.Depends.{LeftOrSame, Shows, DoesAlike, Depends}
use Rattle.independence.proofs.Slots.{put_alike}
use Rattle.independence.proofs.Views.{seen, bare, Of, read-act, act-gains, act-drops, act_follows}

-- ---- a move of processor p, whose registers are r, where there are n ready queues

module _ (n p : ℕ) (r : Processor) (c : Action) (o : ℕ) where
  -- the mutex and the ready queue that it works on, the thread that it creates and the one that it ends
  abbrev on : ℕ
  on = target c r.mutex o

  abbrev its_queue : ℕ
  its_queue = around n (p + probes r.position * r.probe)

  abbrev born : ℕ
  born = created_by c o

  abbrev over : ℕ
  over = ended_by c r.current

  abbrev view_with : State → View
  view_with s = record { self = p; proc = r; mutex = mutex_at s on; ready = queue_at s its_queue; queues = n }

  abbrev touch_with : State → Touch
  touch_with s = act_touch c o r.mutex its_queue (view_with s)

  abbrev does_with : State → State
  does_with s =
      record {
        P = s.P;
        T = s.T;
        M = s.M;
        stealing = s.stealing;
        ready = put s.ready its_queue (act c o (view_with s)).ready;
        processors = put s.processors p (act c o (view_with s)).proc;
        mutexes = put s.mutexes on (act c o (view_with s)).mutex;
        lives = put (put s.lives born live) over terminated;
        applied = suc s.applied;
      }

  module _ (s t : State) (ps : length s.processors ≡ length t.processors) (ms : length s.mutexes ≡ length t.mutexes)
      (ls : length s.lives ≡ length t.lives) (rs : length s.ready ≡ length t.ready) where
    -- the two views show the same, if the word is the same in both states
    bare_same : (w : Word) → Of on its_queue born w → Same w s t → bare w (view_with s) ≡ bare w (view_with t)
    bare_same none e h = refl
    bare_same (count i) e h = let k : (mutex_at s on).count ≡ (mutex_at t on).count = rw e at h in (λ i. seen n p r (k i) [] 0 no_token [])
    bare_same (token i) e h = let k : (mutex_at s on).token ≡ (mutex_at t on).token = rw e at h in (λ i. seen n p r 0 [] 0 (k i) [])
    bare_same (queue i) e h = let k : (mutex_at s on).queue ≡ (mutex_at t on).queue = rw e at h in (λ i. seen n p r 0 (k i) 0 no_token [])
    bare_same (ready i) e h = let k : queue_at s its_queue ≡ queue_at t its_queue = rw e at h in (λ i. seen n p r 0 [] 0 no_token (k i))
    bare_same (birth i) e h = refl

    -- ---- lives

    abbrev after : List Life → ℕ → Life
    after l k = at (put (put l born live) over terminated) k live

    over_alike : after s.lives over ≡ after t.lives over
    over_alike =
        put_alike (λ (l : Life). l) (put s.lives born live) (put t.lives born live) over terminated terminated live
        (length-put s.lives born live ∙ ls ∙ sym (length-put t.lives born live)) refl

    born_alike : after s.lives born ≡ after t.lives born
    born_alike =
        elim (ℕ_discrete born over) [
          | yes e ↦ subst (λ (k : ℕ). after s.lives k ≡ after t.lives k) (sym e) over_alike
          | no d ↦ at-put-other (put s.lives born live) over born terminated live d ∙ put_alike (λ (l : Life). l) s.lives t.lives born live live live ls refl ∙
              sym (at-put-other (put t.lives born live) over born terminated live d)
        ]

    pub lives_alike : (k : ℕ) → LeftOrSame (life_at s k) (after s.lives k) (life_at t k) (after t.lives k)
    lives_alike k =
        elim (ℕ_discrete k over) [
          | yes e ↦ inr (subst (λ (k : ℕ). after s.lives k ≡ after t.lives k) (sym e) over_alike)
          | no d ↦ elim (ℕ_discrete k born) [
            | yes e ↦ inr (subst (λ (k : ℕ). after s.lives k ≡ after t.lives k) (sym e) born_alike)
            | no f ↦ inl (left s.lives d f, left t.lives d f)
          ]
        ]
      where
        left : (l : List Life) → k ≢ over → k ≢ born → after l k ≡ at l k live
        left l d f = at-put-other (put l born live) over k terminated live d ∙ at-put-other l born k live live f

    -- ---- the word that is written, as the two views have it afterwards

    word_alike : (w : Word) → Of on its_queue born w → bare w (act c o (view_with s)) ≡ bare w (act c o (view_with t)) → Same w (does_with s) (does_with t)
    word_alike none e h = tt
    word_alike (count i) e h = rw e (put_alike (λ (x : Mutex). x.count) s.mutexes t.mutexes on _ _ free_mutex ms (ap (λ (v : View). v.mutex.count) h))
    word_alike (token i) e h = rw e (put_alike (λ (x : Mutex). x.token) s.mutexes t.mutexes on _ _ free_mutex ms (ap (λ (v : View). v.mutex.token) h))
    word_alike (queue i) e h = rw e (put_alike (λ (x : Mutex). x.queue) s.mutexes t.mutexes on _ _ free_mutex ms (ap (λ (v : View). v.mutex.queue) h))
    word_alike (ready i) e h = rw e (put_alike (λ (x : List ℕ). x) s.ready t.ready its_queue _ _ [] rs (ap (λ (v : View). v.ready) h))
    word_alike (birth i) e h = rw e (ap is_new born_alike)

    module _ (h : Same (read-act c o r its_queue) s t) where
      same_view : bare (read-act c o r its_queue) (view_with s) ≡ bare (read-act c o r its_queue) (view_with t)
      same_view = bare_same (read-act c o r its_queue) (act_follows c o its_queue (view_with s)).reads_of h

      pub touches_alike : touch_with s ≡ touch_with t
      touches_alike =
          (act_follows c o its_queue (view_with s)).touches ∙ ap (λ (b : View). act_touch c o r.mutex its_queue b) same_view ∙
          sym (act_follows c o its_queue (view_with t)).touches

      makes_alike : bare (touch_with s).writes (act c o (view_with s)) ≡ bare (touch_with s).writes (act c o (view_with t))
      makes_alike =
          (act_follows c o its_queue (view_with s)).makes ∙ ap (λ (b : View). bare (touch_with s).writes (act c o b)) same_view ∙
          subst (λ (x : Touch). bare x.writes (act c o (bare (read-act c o r its_queue) (view_with t))) ≡ bare x.writes (act c o (view_with t))) (sym touches_alike)
          (sym (act_follows c o its_queue (view_with t)).makes)

      pub registers_alike : processor_at (does_with s) p ≡ processor_at (does_with t) p
      registers_alike = put_alike (λ (x : Processor). x) s.processors t.processors p _ _ nobody ps (ap (λ (v : View). v.proc) makes_alike)

      pub written_alike : Same (touch_with s).writes (does_with s) (does_with t)
      written_alike = word_alike (touch_with s).writes (act_follows c o its_queue (view_with s)).writes_of makes_alike

      pub gains_alike : act-gains c (view_with s) ≡ act-gains c (view_with t)
      gains_alike = (act_follows c o its_queue (view_with s)).gains ∙ ap (act-gains c) same_view ∙ sym (act_follows c o its_queue (view_with t)).gains

      pub drops_alike : act-drops c (view_with s) ≡ act-drops c (view_with t)
      drops_alike = (act_follows c o its_queue (view_with s)).drops ∙ ap (act-drops c) same_view ∙ sym (act_follows c o its_queue (view_with t)).drops

-- ---- the owner of mutex j

-- by a gain of g and a drop of d, each 0 for none, an owner x becomes y
pub record Owning (g d x y : ℕ) : Type 0 where
  pub got : 1 ≤ g → (y ≡ g) × (x ≡ 0)
  pub lost : 1 ≤ d → (y ≡ 0) × (x ≡ d)
  pub kept : g ≡ 0 → d ≡ 0 → y ≡ x

-- the thread that becomes the owner, and the one that gives the mutex up
abbrev gain_with : ℕ → ℕ → Processor → Action → ℕ → State → ℕ → ℕ
gain_with n p r c o s j = choose (eqb j (target c r.mutex o)) (act-gains c (view_with n p r c o s)) 0

abbrev drop_with : ℕ → ℕ → Processor → Action → ℕ → State → ℕ → ℕ
drop_with n p r c o s j = choose (eqb j (target c r.mutex o)) (act-drops c (view_with n p r c o s)) 0

abbrev pub gained : State → Move → ℕ → ℕ
gained s a j = gain_with (length s.ready) a.processor (processor_at s a.processor) (action_of a.action) a.operand s j

abbrev pub dropped : State → Move → ℕ → ℕ
dropped s a j = drop_with (length s.ready) a.processor (processor_at s a.processor) (action_of a.action) a.operand s j

-- nobody gains or drops it
unowned : (b : Bool) (x y : ℕ) → y ≡ x → Owning (choose b 0 0) (choose b 0 0) x y
unowned true x y e = record { got = λ h. absurd (omega arith); lost = λ h. absurd (omega arith); kept = λ g d. e }
unowned false x y e = record { got = λ h. absurd (omega arith); lost = λ h. absurd (omega arith); kept = λ g d. e }

picked : (b : Bool) (g d x y : ℕ) → (b ≡ true → Owning g d x y) → (b ≡ false → y ≡ x) → Owning (choose b g 0) (choose b d 0) x y
picked true g d x y h k = h refl
picked false g d x y h k = unowned false x y (k refl)

module _ (s : State) (g : Good s) (p : ℕ) (rp : In s.P p) (early : s.applied < 4000) (j : ℕ) (rj : In s.M j) where
  abbrev owner : ℕ
  owner = (mutex_at s j).owner

  abbrev line_at : Line
  line_at = (processor_at s p).position

  abbrev sees : View
  sees = view s p (processor_at s p).mutex

  here : j ≡ (processor_at s p).mutex → Owning (gains line_at sees) (drops line_at sees) owner (mutex_at (does s p go 0) j).owner
  unfolding act
  here e =
      let v = event s.P s.T s.M s.applied (is 1) line_at sees (go-fit s g p rp early 1 (omega arith)) in
      let stored = at-put-same s.mutexes (processor_at s p).mutex (line line_at sees).mutex free_mutex (omega (arith, g.mutexes)) in
      subst (λ (k : ℕ). Owning (gains line_at sees) (drops line_at sees) (mutex_at s k).owner (mutex_at (does s p go 0) k).owner) (sym e)
      (subst (λ (x : Mutex). Owning (gains line_at sees) (drops line_at sees) sees.mutex.owner x.owner) (sym stored)
      (record { got = v.got; lost = v.lost; kept = v.kept }))

  -- a call puts back the mutex that it looked at
  after_call : (i : ℕ) → (at (put s.mutexes i (mutex_at s i)) j free_mutex).owner ≡ owner
  after_call i = ap (λ (xs : List Mutex). (at xs j free_mutex).owner) (put_same s.mutexes i free_mutex)

  does-owning : (c : Action) (o : ℕ) →
      Owning (gain_with (length s.ready) p (processor_at s p) c o s j) (drop_with (length s.ready) p (processor_at s p) c o s j) owner (mutex_at (does s p c o) j).owner
  unfolding act
  does-owning go o =
      picked (eqb j (processor_at s p).mutex) (gains line_at sees) (drops line_at sees) owner _ (λ e. here (eqb-true j (processor_at s p).mutex e))
      (λ e. ap (λ (x : Mutex). x.owner) (at-put-other s.mutexes (processor_at s p).mutex j (line line_at sees).mutex free_mutex (eqb-false j (processor_at s p).mutex e)))
  does-owning lock o = unowned (eqb j o) owner _ (after_call o)
  does-owning trylock o = unowned (eqb j o) owner _ (after_call o)
  does-owning unlock o = unowned (eqb j o) owner _ (after_call o)
  does-owning yield o = unowned (eqb j (processor_at s p).mutex) owner _ (after_call (processor_at s p).mutex)
  does-owning exit o = unowned (eqb j (processor_at s p).mutex) owner _ (after_call (processor_at s p).mutex)
  does-owning create o = unowned (eqb j (processor_at s p).mutex) owner _ (after_call (processor_at s p).mutex)

pub owning : (s : State) (a : Move) → Good s → cause s a ≡ 0 → (j : ℕ) → In s.M j →
    Owning (gained s a j) (dropped s a j) (mutex_at s j).owner (mutex_at (next s a) j).owner
unfolding next
owning s a g e j rj = let h = legal s a e in does-owning s g a.processor h.processor h.room j rj (action_of a.action) a.operand

pub as_in : {g h d e x y : ℕ} → g ≡ h → d ≡ e → Owning g d x y → Owning h e x y
as_in {g} {h} {d} {e} {x} {y} i j k = subst (λ (n : ℕ). Owning n e x y) i (subst (λ (n : ℕ). Owning g n x y) j k)

-- with the same gain and drop an owner is left in both states, or made the same
left_or_same : (g d x x' y y' : ℕ) → Owning g d x x' → Owning g d y y' → LeftOrSame x x' y y'
left_or_same zero zero x x' y y' h k = inl (h.kept refl refl, k.kept refl refl)
left_or_same zero (suc d) x x' y y' h k = inr ((h.lost (omega arith)).0 ∙ sym (k.lost (omega arith)).0)
left_or_same (suc g) d x x' y y' h k = inr ((h.got (omega arith)).0 ∙ sym (k.got (omega arith)).0)

-- ---- two states of one configuration that show a move the same

pub record SameSizes (s t : State) : Type 0 where
  pub P : s.P ≡ t.P
  pub T : s.T ≡ t.T
  pub M : s.M ≡ t.M
  pub stealing : s.stealing ≡ t.stealing

-- what a move touches, by its registers
touch_is : (s : State) (p : ℕ) (c : Action) (o : ℕ) →
    touch_with (length s.ready) p (processor_at s p) c o s ≡ act_touch c o (processor_at s p).mutex (works_on s p) (view s p (processor_at s p).mutex)
unfolding act_touch
touch_is s p go o = refl
touch_is s p lock o = refl
touch_is s p trylock o = refl
touch_is s p unlock o = refl
touch_is s p yield o = refl
touch_is s p exit o = refl
touch_is s p create o = refl

module _ (s t : State) (a : Move) (gs : Good s) (gt : Good t) (z : SameSizes s t) (h : Shows s t a (touch s a).reads) where
  abbrev p : ℕ
  p = a.processor

  abbrev c : Action
  c = action_of a.action

  abbrev o : ℕ
  o = a.operand

  abbrev r : Processor
  r = processor_at s p

  abbrev n : ℕ
  n = length s.ready

  ps : length s.processors ≡ length t.processors
  ps = gs.processors ∙ z.P ∙ sym gt.processors

  ms : length s.mutexes ≡ length t.mutexes
  ms = gs.mutexes ∙ z.M ∙ sym gt.mutexes

  ls : length s.lives ≡ length t.lives
  ls = gs.lives ∙ z.T ∙ sym gt.lives

  rs : length s.ready ≡ length t.ready
  rs = gs.queues ∙ (λ i. queues (z.stealing i) (z.P i)) ∙ sym gt.queues

  read : Same (read-act c o r (its_queue n p r c o)) s t
  read =
      subst (λ (w : Word). Same w s t)
      (sym (ap (λ (x : Touch). x.reads) (touch_is s p c o)) ∙ (act_follows c o (its_queue n p r c o) (view_with n p r c o s)).reads)
      h.word

  -- the other state's move, with the registers of this one
  moved : does_with n p r c o t ≡ next t a
  unfolding next
  moved = λ i. does_with (rs i) p (h.registers i) c o t

  pub same-touch : touch s a ≡ touch t a
  same-touch =
      sym (touch_is s p c o) ∙ touches_alike n p r c o s t ps ms ls rs read ∙ (λ i. touch_with (rs i) p (h.registers i) c o t) ∙ touch_is t p c o

  pub same-gains : (j : ℕ) → gained s a j ≡ gained t a j
  same-gains j =
      ap (λ (k : ℕ). choose (eqb j (target c r.mutex o)) k 0) (gains_alike n p r c o s t ps ms ls rs read) ∙ (λ i. gain_with (rs i) p (h.registers i) c o t j)

  pub same-drops : (j : ℕ) → dropped s a j ≡ dropped t a j
  same-drops j =
      ap (λ (k : ℕ). choose (eqb j (target c r.mutex o)) k 0) (drops_alike n p r c o s t ps ms ls rs read) ∙ (λ i. drop_with (rs i) p (h.registers i) c o t j)

  pub does_alike : cause s a ≡ 0 → cause t a ≡ 0 → DoesAlike s t a
  unfolding next
  does_alike es et =
      record {
        touches = same-touch;
        registers = registers_alike n p r c o s t ps ms ls rs read ∙ ap (λ (x : State). processor_at x p) moved;
        word =
            subst (λ (x : State). Same (touch s a).writes (next s a) x) moved
            (subst (λ (x : Touch). Same x.writes (does_with n p r c o s) (does_with n p r c o t)) (touch_is s p c o) (written_alike n p r c o s t ps ms ls rs read));
        owner = λ m i.
            left_or_same (gained s a m) (dropped s a m) _ _ _ _ (owning s a gs es m i)
            (as_in (sym (same-gains m)) (sym (same-drops m)) (owning t a gt et m (subst (λ (k : ℕ). In k m) z.M i)));
        life = λ k. subst (λ (x : State). LeftOrSame (life_at s k) (life_at (next s a) k) (life_at t k) (life_at x k)) moved (lives_alike n p r c o s t ps ms ls rs k);
        others = λ q d. (at-put-other s.processors p q _ nobody d, at-put-other t.processors p q _ nobody d);
      }

pub same_sizes : (c : Config) (ms ns : List Move) → SameSizes (end c ms) (end c ns)
same_sizes c ms ns =
    let x = sized c ms in
    let y = sized c ns in
    record { P = x.0 ∙ sym y.0; T = x.1 ∙ sym y.1; M = x.2 ∙ sym y.2; stealing = x.3 ∙ sym y.3 }

pub depends : Depends
depends c ms ns a e ok ok' z z' h = does_alike (end c ms) (end c ns) a (good c e ms ok) (good c e ns ok') (same_sizes c ms ns) h z z'
