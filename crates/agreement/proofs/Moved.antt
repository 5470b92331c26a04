-- The model of the code's move on the record of an allowed state is the reference machine's move.
-- Assumes nothing.
use Prim.Native.Nat.{ℕ, zero, suc, ◌+◌, ◌≤◌, ◌<◌}
use mathlib.Core.Bool.{Bool, true, false}
use mathlib.Core.Path.{◌≡◌, refl, ap, sym, subst, ◌∙◌}
use native.Mathlib.Omega.{arith}
use lib.Dec.{eqb}
use borrow.Author.Tests.{lt-ltb, eqb-true, ne_eqb}
use Rattle.state.specs.declared.State.{State}
use Rattle.state.specs.Record.{zero_mutex, processor_of, Sized}
use Rattle.state.specs.Association.{encode, decode, mutex_record}
use Rattle.state.specs.Model.Access.{with_processor, with_mutex, with_chains, with_applied}
use Rattle.state.specs.Rules.{state_ok}
use Rattle.state.specs.Allowed.{Allowed}
use Rattle.step.specs.declared.View as code
use Rattle.step.specs.declared.Effect.{Effect}
use Rattle.step.specs.Model.Moves.{Moved, up_to, target_of, view_of, act_effect, put_effect, stepped_of, step_breaks_of, refusal_of, moved_of}
use Rattle.reference.specs.Refusal.{bad_record, refuse}
use Rattle.reference.specs.Lists.{choose, if_zero}
use Rattle.reference.specs.State as reference
use Rattle.reference.specs.State.{processor_at, mutex_at}
use Rattle.reference.specs.Step.{View, view, put_back, act, Action, action_of, target, created_by, ended_by, Move, next}
use Rattle.reference.specs.Cause.{cause}
use Rattle.reference.specs.Break.{step_breaks}
use Rattle.reference.proofs.Tests.{passed}
use Rattle.reference.proofs.Legal.{legal}
use Rattle.association.proofs.Transfers.{Frame, record_after}
use Rattle.shown.proofs.Regular.{Regular, regular_fits, allowed_regular}
use Rattle.shown.proofs.Encode.{encode-decode, decode-allowed}
use Rattle.agreement.proofs.View.{seen, Agree, by-action, act-agrees}
use Rattle.agreement.proofs.Lines.{Same}
use Rattle.agreement.proofs.Fields.{move-moves, next_regular}
use Rattle.agreement.proofs.Causes.{cause-shows, view-shows, mutex-shows, breaks_show}

applied_up : (s : reference.State) → s.applied < 4000 → up_to 65535 (encode s).applied ≡ (encode s).applied + 1
unfolding encode
applied_up s h = rw (lt-ltb s.applied 65535 (omega arith))

-- ---- an effect that agrees is put back

module _ (s : reference.State) (p m i j : ℕ) (w : View) (f : Frame s p m i j w) where
  -- mutex 0 is none, and stays so
  none : Same w.mutex (mutex_at s m) → m ≡ 0 → mutex_record w.mutex ≡ zero_mutex
  none h e =
      let x : mutex_at s m ≡ mutex_at s 0 = ap (mutex_at s) e in
      λ i.
      record {
        count = (h.count ∙ ap (λ (x : reference.Mutex). x.count) x) i;
        owner = (h.owner ∙ ap (λ (x : reference.Mutex). x.owner) x) i;
        token =
            record {
              processor = (h.processor ∙ ap (λ (x : reference.Mutex). x.token.processor) x) i;
              sequence = (h.sequence ∙ ap (λ (x : reference.Mutex). x.token.sequence) x) i;
            };
      }

  effect-shows : (e : Effect) → Agree s p m i j e w → (m ≡ 0 → Same w.mutex (mutex_at s m)) → s.applied < 4000 →
      put_effect (encode s) p m e ≡ encode (put_back s p m i j w)
  effect-shows e a idle room =
      (λ i. with_applied (applied_up s room i) (with_processor p (a.proc i) (with_mutex m (a.mutex i) (with_chains (a.chains f i) (encode s))))) ∙
      sym (record_after s p m i j w f (λ z. none (idle z) z) refl)

-- ---- a move

-- why a move is refused: its cause, else 15 where the step would break a rule; 0 where it is not
abbrev pub refusal : reference.State → Move → ℕ
refusal s a = if_zero (cause s a) (refuse (step_breaks s a) bad_record 0) (cause s a)

-- a move that is not refused has no cause and breaks nothing
pub not-refused : (s : reference.State) (a : Move) → refusal s a ≡ 0 → (cause s a ≡ 0) × (step_breaks s a ≡ false)
not-refused s a = by (cause s a) refl
  where
    by : (c : ℕ) → cause s a ≡ c → if_zero c (refuse (step_breaks s a) bad_record 0) c ≡ 0 → (cause s a ≡ 0) × (step_breaks s a ≡ false)
    by zero e z = (e, (passed (step_breaks s a) _ _ z).0)
    by (suc c) e z = absurd (omega arith)

-- the answer to a move: the number, and the record after it
abbrev moved : ℕ → State → Moved
moved k r = record { refusal = k; state = r }

pub taken_if : {A : Type 0} (b : Bool) {x y : A} (z : A) → (b ≡ true → x ≡ y) → choose b x z ≡ choose b y z
taken_if true z h = h refl
taken_if false z h = refl

module _ (s : reference.State) (h : Allowed s) (a : Move) where
  abbrev p : ℕ
  p = a.processor

  abbrev n : ℕ
  n = a.action

  abbrev o : ℕ
  o = a.operand

  abbrev x : Action
  x = action_of n

  abbrev m : ℕ
  m = target x (processor_at s p).mutex o

  g : Regular s
  g = allowed_regular s h

  target-shows : n ≤ 6 → target_of n (processor_of (encode s) p).mutex o ≡ m
  target-shows l =
      ap (λ (k : ℕ). target_of n k o) (mutex-shows s (regular_fits s g) p) ∙
      by-action (λ n x. target_of n (processor_at s p).mutex o ≡ target x (processor_at s p).mutex o) refl refl refl refl refl refl refl n l

  pub stepped_shows : cause s a ≡ 0 → step_breaks s a ≡ false → stepped_of (encode s) p n o ≡ encode (next s a)
  unfolding stepped_of next
  stepped_shows e b =
      let l = legal s a e in
      let w = move-moves s a e b g in
      ap (λ (k : ℕ). put_effect (encode s) p k (act_effect n o (view_of (encode s) p k))) (target-shows l.action) ∙
      ap (λ (v : code.View). put_effect (encode s) p m (act_effect n o v)) (view-shows s g p m l.processor) ∙
      effect-shows s p m (created_by x o) (ended_by x (processor_at s p).current) (act x o (view s p m))
      (record { before = regular_fits s g; after = (next_regular s a e b g).placed; processor = l.processor; mutex = w.mutex })
      (act_effect n o (seen s p m)) (act-agrees s g p l.processor o n l.action (l.here.call, l.operand)) (λ z. ((w.after 1 (omega arith)).idle z).1) l.room

  pub refusal-shows : refusal_of (encode s) p n o ≡ refusal s a
  unfolding refusal_of
  refusal-shows = rw (cause-shows s (regular_fits s g) a) (by (cause s a) refl)
    where
      by : (c : ℕ) → cause s a ≡ c → choose (eqb c 0) (choose (step_breaks_of (encode s) p n) 15 0) c ≡ if_zero c (refuse (step_breaks s a) bad_record 0) c
      by zero e = rw (breaks_show s g a e)
      by (suc c) e = rw (ne_eqb (suc c) 0 (omega arith))

  pub moved-shows : moved_of (encode s) p n o ≡ record { refusal = refusal s a; state = choose (eqb (refusal s a) 0) (encode (next s a)) (encode s) }
  unfolding moved_of
  moved-shows =
      ap (λ (k : ℕ). moved k (choose (eqb k 0) (stepped_of (encode s) p n o) (encode s))) refusal-shows ∙
      ap (moved (refusal s a)) (taken_if (eqb (refusal s a) 0) (encode s) (λ e. let z = not-refused s a (eqb-true (refusal s a) 0 e) in stepped_shows z.0 z.1))

-- ---- the same of a record that keeps the rules

module _ (r : State) (z : Sized r) (k : state_ok r ≡ true) (a : Move) where
  pub moved-valid : moved_of r a.processor a.action a.operand ≡
      record { refusal = refusal (decode r) a; state = choose (eqb (refusal (decode r) a) 0) (encode (next (decode r) a)) r }
  moved-valid =
      subst (λ (q : State). moved_of q a.processor a.action a.operand ≡ moved (refusal (decode r) a) (choose (eqb (refusal (decode r) a) 0) (encode (next (decode r) a)) q))
      (encode-decode r z k) (moved-shows (decode r) (decode-allowed r z k) a)
