-- What the code's lines and calls make of a view of the record is what the reference machine's make of the view of the state.
-- Assumes nothing.
use Prim.Native.Nat.{ℕ, zero, suc, ◌-◌, ◌≤◌, ◌<◌}
use mathlib.Core.Bool.{Bool, true, false}
use mathlib.Core.List.{List, [], ◌∷◌}
use Rattle.std.proofs.Common.{Option, Some, None}
use mathlib.Core.Path.{◌≡◌, refl, ap, sym}
use native.Mathlib.Numerals.{add-one}
use native.Mathlib.Omega.{arith}
use lib.Dec.{eqb}
use lib.ListN.{length, get_or}
use borrow.Author.Tests.{lt-ltb, ne_eqb}
use Rattle.state.specs.declared.Mutex.{Mutex}
use Rattle.state.specs.declared.queues.Front.{Front}
use Rattle.state.specs.Association.{encode, processor_record, mutex_record, token_record, queue_at}
use Rattle.step.specs.declared.View as code
use Rattle.step.specs.declared.Effect.{Effect}
use Rattle.step.specs.declared.Transfer.TheVariants.{Stay}
use Rattle.step.specs.Model.Moves as model
use Rattle.step.specs.Model.Moves.{up_to, on_taken, effects, stay, at_CI2, at_CI3, at_L1, at_L3, at_L4, at_L6, at_L7, at_L8, at_L9, at_L10, at_TL1, at_GT1, at_GT3, at_TL3, at_U1, at_H2, at_H3, at_H5, at_H6, at_H8, at_Y1, at_Y2, at_Y3, at_C2, line_effect, lock_call, trylock_call, unlock_call, yield_call, exit_call, create_call, act_effect, carried}
use Rattle.reference.specs.Lists.{choose, if_zero, if_empty}
use Rattle.reference.specs.State as reference
use Rattle.reference.specs.State.{Line, App, CI2, CI3, L1, L3, L4, L6, L7, L8, L9, L10, TL1, GT1, GT3, TL3, U1, H2, H3, H5, H6, H8, Y1, Y2, Y3, C2, row, same_token, processor_at, mutex_at}
use Rattle.reference.specs.Step.{View, view, works_on, line, own_token, put_back, act, Action, go, lock, trylock, unlock, yield, exit, create, action_of, target, created_by, ended_by}
use Rattle.reference.specs.Cause.{is_go, operand_fits}
use Rattle.reference.specs.Picture.{first}
use Rattle.reference.specs.Safe.{In}
use Rattle.reference.proofs.Tests.{range_true}
use Rattle.state.proofs.Numbers.{queue-mutex}
use Rattle.association.proofs.Transfers as transfers
use Rattle.association.proofs.Transfers.{Frame, number}
use Rattle.shown.proofs.Regular.{Regular, Registers}
use Rattle.agreement.proofs.Index.{next-is}

-- what taking from a queue finds
abbrev pub found : List ℕ → Option Front
found q = if_empty q None (λ k rest. Some (record { thread = k; rest = first rest }))

-- what the code sees of the record of s
abbrev pub seen : reference.State → ℕ → ℕ → code.View
seen s p m =
    record {
      number = p;
      proc = processor_record (processor_at s p);
      mutex = mutex_record (mutex_at s m);
      queue = found (queue_at s m);
      ready = found (reference.queue_at s (works_on s p));
      index = number s p;
      queues = length s.ready;
    }

-- the effect is what the view w that is put back has, and the chains go with it
pub record Agree (s : reference.State) (p m i j : ℕ) (e : Effect) (w : View) : Type 0 where
  pub proc : e.proc ≡ processor_record w.proc
  pub mutex : e.mutex ≡ mutex_record w.mutex
  pub chains : Frame s p m i j w → carried (encode s).chains p e.transfer ≡ (encode (put_back s p m i j w)).chains

-- ---- the branches

module _ {A B : Type 0} (R : A → B → Type 0) where
  by_zero : (n : ℕ) {a b : A} {x y : B} → (n ≡ 0 → R a x) → (1 ≤ n → R b y) → R (choose (eqb n 0) a b) (if_zero n x y)
  by_zero zero h k = h refl
  by_zero (suc n) {a} {b} {x} {y} h k = rw (ne_eqb (suc n) 0 (omega arith)) (k (omega arith))

  by_test : (t : Bool) {a b : A} {x y : B} → R a x → R b y → R (choose t a b) (choose t x y)
  by_test true h k = h
  by_test false h k = k

  by-queue : (q o : List ℕ) → o ≡ q → {a : A} (f : ℕ → ℕ → A) {x : B} {g : ℕ → List ℕ → B} → R a x → ((k : ℕ) (rest : List ℕ) → q ≡ k ∷ rest → R (f k (first rest)) (g k rest)) →
      R (on_taken (found o) a f) (if_empty q x g)
  by-queue [] o e f h k = rw e h
  by-queue (y ∷ q) o e f h k = rw e (k y q refl)

up_one : (most n : ℕ) → n < most → up_to most n ≡ suc n
up_one most n h = rw (lt-ltb n most h) (add-one n)

module _ (s : reference.State) (g : Regular s) (p : ℕ) where
  -- no thread moves
  stays : (m : ℕ) {e : Effect} {w : View} → e.proc ≡ processor_record w.proc → e.mutex ≡ mutex_record w.mutex → e.transfer ≡ Stay → w.ready ≡ reference.queue_at s (works_on s p) →
      w.mutex.queue ≡ (mutex_at s m).queue → w.proc.current ≡ (processor_at s p).current → w.proc.transit ≡ (processor_at s p).transit → Agree s p m 0 0 e w
  stays m {e} {w} a b d h q c t = record { proc = a; mutex = b; chains = λ f. rw d (sym (transfers.stay s p m w f h q c t)) }

  -- ---- the lines

  abbrev m : ℕ
  m = (processor_at s p).mutex

  abbrev v : View
  v = view s p m

  abbrev c : code.View
  c = seen s p m

  abbrev R : Effect → View → Type 0
  R = Agree s p m 0 0

  abbrev x : reference.Mutex
  x = mutex_at s m

  -- the ready queue that it works on
  abbrev ready : List ℕ
  ready = reference.queue_at s (works_on s p)

  abbrev counts : ℕ → ℕ → Mutex
  counts k n = record { count = n; owner = k; token = token_record x.token }

  module _ (l : Line) (h : Registers s.P s.T s.M l (processor_at s p)) (o : (row l).mutex ≡ 1) where
    its_queue : queue_at s m ≡ x.queue
    its_queue = queue-mutex s m (omega (arith, g.m_range))

    count_up : up_to 255 x.count ≡ suc x.count
    count_up = up_one 255 x.count (omega (arith, g.t_range, g.mutex m (omega arith)))

  line-agrees : (processor_at s p).probe < length s.ready → (l : Line) → Registers s.P s.T s.M l (processor_at s p) → R (get_or effects (row l).number stay c) (line l v)
  unfolding line at_CI2 at_CI3 at_L1 at_L3 at_L4 at_L6 at_L7 at_L8 at_L9 at_L10 at_TL1 at_GT1 at_GT3 at_TL3 at_U1 at_H2 at_H3 at_H5 at_H6 at_H8 at_Y1 at_Y2 at_Y3 at_C2
  line-agrees k App h = stays m refl refl refl refl refl refl refl
  line-agrees k CI2 h =
      by-queue R ready ready refl _
      (stays m (ap (λ (n : ℕ). model.away 1 (model.probing n c.proc)) (next-is (length s.ready) (processor_at s p).probe k)) refl refl refl refl refl refl)
      (λ k rest e. record { proc = refl; mutex = refl; chains = λ f. sym (transfers.take-ready s p m _ f k refl rest e refl refl (omega arith) refl) })
  line-agrees k CI3 h = record { proc = refl; mutex = refl; chains = λ f. sym (transfers.load s p m _ f _ (omega arith) refl refl (omega arith) refl refl) }
  line-agrees k L1 h =
      by_zero R x.count
      (λ e. stays m refl (ap (counts (processor_at s p).current) (count_up L1 h refl)) refl refl refl refl refl)
      (λ e. stays m refl (ap (counts x.owner) (count_up L1 h refl)) refl refl refl refl refl)
  line-agrees k L3 h = record { proc = refl; mutex = refl; chains = λ f. sym (transfers.unload s p m _ f _ (omega arith) refl refl refl (omega arith) refl) }
  line-agrees k L4 h =
      record { proc = refl; mutex = refl; chains = λ f. sym (transfers.join_queue s p m _ f _ refl (omega arith) refl (omega arith) refl refl) }
  line-agrees k L6 h = by_zero R x.token.processor (λ e. stays m refl refl refl refl refl refl refl) (λ e. stays m refl refl refl refl refl refl refl)
  line-agrees k L7 h =
      by-queue R x.queue (queue_at s m) (its_queue L7 h refl) _ (stays m refl refl refl refl refl refl refl) (λ k rest e. stays m refl refl refl refl refl refl refl)
  line-agrees k L8 h =
      by_test R (same_token x.token (processor_at s p).observed) (stays m refl refl refl refl refl refl refl) (stays m refl refl refl refl refl refl refl)
  line-agrees k L9 h =
      by-queue R x.queue (queue_at s m) (its_queue L9 h refl) _ (stays m refl refl refl refl refl refl refl)
      (λ k rest e. record { proc = refl; mutex = refl; chains = λ f. sym (transfers.take-queue s p m _ f k refl rest (omega arith) e refl refl (omega arith) refl) })
  line-agrees k L10 h = record { proc = refl; mutex = refl; chains = λ f. sym (transfers.load s p m _ f _ (omega arith) refl refl (omega arith) refl refl) }
  line-agrees k TL1 h = by_zero R x.count (λ e. stays m refl refl refl refl refl refl refl) (λ e. stays m refl refl refl refl refl refl refl)
  line-agrees k GT1 h = by_zero R x.token.processor (λ e. stays m refl refl refl refl refl refl refl) (λ e. stays m refl refl refl refl refl refl refl)
  line-agrees k GT3 h =
      by_test R (same_token x.token (processor_at s p).observed) (stays m refl refl refl refl refl refl refl) (stays m refl refl refl refl refl refl refl)
  line-agrees k TL3 h = stays m refl (ap (counts x.owner) (count_up TL3 h refl)) refl refl refl refl refl
  line-agrees k U1 h = by_zero R (x.count - 1) (λ e. stays m refl refl refl refl refl refl refl) (λ e. stays m refl refl refl refl refl refl refl)
  line-agrees k H2 h =
      by-queue R x.queue (queue_at s m) (its_queue H2 h refl) _ (stays m refl refl refl refl refl refl refl)
      (λ k rest e. record { proc = refl; mutex = refl; chains = λ f. sym (transfers.take-queue s p m _ f k refl rest (omega arith) e refl refl (omega arith) refl) })
  line-agrees k H3 h = record { proc = refl; mutex = refl; chains = λ f. sym (transfers.join_ready s p m _ f _ refl (omega arith) refl refl refl) }
  line-agrees k H5 h =
      let u : up_to 65535 (processor_at s p).sequence ≡ suc (processor_at s p).sequence = up_one 65535 (processor_at s p).sequence (omega arith) in
      stays m (λ i. model.on_mutex 19 (model.sequenced (u i) c.proc)) (λ i. model.tokened (model.token p (u i)) c.mutex) refl refl refl refl refl
  line-agrees k H6 h =
      by-queue R x.queue (queue_at s m) (its_queue H6 h refl) _ (stays m refl refl refl refl refl refl refl) (λ k rest e. stays m refl refl refl refl refl refl refl)
  line-agrees k H8 h = by_test R (same_token x.token (own_token v)) (stays m refl refl refl refl refl refl refl) (stays m refl refl refl refl refl refl refl)
  line-agrees k Y1 h =
      by-queue R ready ready refl _ (stays m refl refl refl refl refl refl refl) (λ k rest e. stays m refl refl refl refl refl refl refl)
  line-agrees k Y2 h = record { proc = refl; mutex = refl; chains = λ f. sym (transfers.unload s p m _ f _ (omega arith) refl refl refl (omega arith) refl) }
  line-agrees k Y3 h = record { proc = refl; mutex = refl; chains = λ f. sym (transfers.join_ready s p m _ f _ refl (omega arith) refl refl refl) }
  line-agrees k C2 h = record { proc = refl; mutex = refl; chains = λ f. sym (transfers.join_ready s p m _ f _ refl (omega arith) refl refl refl) }

-- ---- the calls

-- an action by its number
pub by-action : (Q : ℕ → Action → Type 0) → Q 0 go → Q 1 lock → Q 2 trylock → Q 3 unlock → Q 4 yield → Q 5 exit → Q 6 create → (n : ℕ) → n ≤ 6 → Q n (action_of n)
unfolding action_of
by-action Q g l t u y x c zero h = g
by-action Q g l t u y x c (suc zero) h = l
by-action Q g l t u y x c (suc (suc zero)) h = t
by-action Q g l t u y x c (suc (suc (suc zero))) h = u
by-action Q g l t u y x c (suc (suc (suc (suc zero)))) h = y
by-action Q g l t u y x c (suc (suc (suc (suc (suc zero))))) h = x
by-action Q g l t u y x c (suc (suc (suc (suc (suc (suc zero)))))) h = c
by-action Q g l t u y x c (suc (suc (suc (suc (suc (suc (suc n))))))) h = absurd (omega arith)

module _ (s : reference.State) (g : Regular s) (p : ℕ) (rp : In s.P p) (o : ℕ) where
  abbrev r : reference.Processor
  r = processor_at s p

  -- what a call finds at App
  abbrev Fit : Action → Type 0
  Fit a = (is_go a ≡ false → r.position ≡ App) × (operand_fits s a o ≡ true)

  at-App : r.position ≡ App → Registers s.P s.T s.M App r
  at-App e = rw e at (g.registers p rp)

  pub act-agrees : (n : ℕ) → n ≤ 6 → Fit (action_of n) →
      Agree s p (target (action_of n) r.mutex o) (created_by (action_of n) o) (ended_by (action_of n) r.current)
      (act_effect n o (seen s p (target (action_of n) r.mutex o))) (act (action_of n) o (view s p (target (action_of n) r.mutex o)))
  unfolding act act_effect line_effect lock_call trylock_call unlock_call yield_call exit_call create_call
  act-agrees =
      by-action
      (λ n a. Fit a → Agree s p (target a r.mutex o) (created_by a o) (ended_by a r.current) (act_effect n o (seen s p (target a r.mutex o))) (act a o (view s p (target a r.mutex o))))
      (λ f. line-agrees s g p (g.probe p rp).most r.position (g.registers p rp))
      (λ f. stays s g p o refl refl refl refl refl refl refl)
      (λ f. stays s g p o refl refl refl refl refl refl refl)
      (λ f. stays s g p o refl refl refl refl refl refl refl)
      (λ f. stays s g p r.mutex refl refl refl refl refl refl refl)
      (λ f.
      let h = at-App (f.0 refl) in
      record { proc = refl; mutex = refl; chains = λ k. sym (transfers.terminate s p r.mutex _ r.current k (omega arith) refl refl refl refl) })
      (λ f.
      let h = at-App (f.0 refl) in
      record { proc = refl; mutex = refl; chains = λ k. sym (transfers.create s p r.mutex _ o k (range_true 1 s.T o f.1) refl refl refl (omega arith) refl) })
