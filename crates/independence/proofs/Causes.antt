-- A move that has no cause in one state has none in another of the same configuration that shows its registers, its thread's mutexes and a new thread the same.
-- Assumes nothing.
use Prim.Native.Nat.{ℕ, ◌<◌}
use mathlib.Core.Bool.{true, false, not, true≢false}
use mathlib.Core.Logic.{◌⊎◌, inl, inr}
use mathlib.Core.Path.{◌≡◌, refl, ap, sym, subst, ◌∙◌}
use lib.Dec.{eqb}
use borrow.Author.Tests.{eqb-true, eq-eqb}
use Rattle.reference.specs.Lists.{in_range, each}
use Rattle.reference.specs.State.{Processor, State, App, new, same_line, processor_at, mutex_at, life_at}
use Rattle.reference.specs.Step.{Action, go, lock, trylock, unlock, yield, exit, create, Move, action_of}
use Rattle.reference.specs.Cause.{operand_fits, is_go, is_unlock, is_create, is_exit, owns_none, cause}
use Rattle.reference.specs.Safe.{In}
use Rattle.reference.proofs.Each.{each_agree}
use Rattle.reference.proofs.Same.{same_life_exact}
use Rattle.reference.proofs.Legal.{Legal, no_cause}
use Rattle.reference.proofs.Lives.{is_new}
use Rattle.independence.proofs.Depends.{SameSizes}

fits-same : (s t : State) → SameSizes s t → (c : Action) (o : ℕ) → operand_fits s c o ≡ operand_fits t c o
fits-same s t z go o = refl
fits-same s t z lock o = ap (λ (n : ℕ). in_range 1 n o) z.M
fits-same s t z trylock o = ap (λ (n : ℕ). in_range 1 n o) z.M
fits-same s t z unlock o = ap (λ (n : ℕ). in_range 1 n o) z.M
fits-same s t z yield o = refl
fits-same s t z exit o = refl
fits-same s t z create o = ap (λ (n : ℕ). in_range 1 n o) z.T

-- only a call looks at owners
call_or_not : (c : Action) → (is_go c ≡ false) ⊎ ((is_unlock c ≡ false) × (is_exit c ≡ false))
call_or_not go = inr (refl, refl)
call_or_not lock = inl refl
call_or_not trylock = inl refl
call_or_not unlock = inl refl
call_or_not yield = inl refl
call_or_not exit = inl refl
call_or_not create = inl refl

unlock-calls : (c : Action) → is_unlock c ≡ true → is_go c ≡ false
unlock-calls c e = elim (call_or_not c) [ inl h ↦ h | inr h ↦ absurd (true≢false (sym e ∙ h.0)) ]

exit-calls : (c : Action) → is_exit c ≡ true → is_go c ≡ false
exit-calls c e = elim (call_or_not c) [ inl h ↦ h | inr h ↦ absurd (true≢false (sym e ∙ h.1)) ]

module _ (s t : State) (a : Move) (h : Legal s a) (z : SameSizes s t) (e : processor_at s a.processor ≡ processor_at t a.processor) (room : t.applied < 4000) (k : ℕ)
    (is-k : (processor_at t a.processor).current ≡ k) where
  abbrev c : Action
  c = action_of a.action

  was_k : (processor_at s a.processor).current ≡ k
  was_k = ap (λ (r : Processor). r.current) e ∙ is-k

  -- thread k owns the same at a call, and the operand of a create is new in both
  pub still_accepted : (is_go c ≡ false → (m : ℕ) → eqb (mutex_at t m).owner k ≡ eqb (mutex_at s m).owner k) →
      (is_create c ≡ true → is_new (life_at t a.operand) ≡ is_new (life_at s a.operand)) → cause t a ≡ 0
  still_accepted owns births =
      no_cause t a
      (record {
        processor = subst (λ (n : ℕ). In n a.processor) z.P h.processor;
        action = h.action;
        operand = sym (fits-same s t z c a.operand) ∙ h.operand;
        room = room;
        here = record {
          call = λ x. sym (ap (λ (r : Processor). r.position) e) ∙ h.here.call x;
          away = λ x. sym (ap (λ (r : Processor). same_line r.position App) e) ∙ h.here.away x;
          owner = λ x. eqb-true _ k (owns (unlock-calls c x) a.operand ∙ eq-eqb _ k (h.here.owner x ∙ was_k)) ∙ sym is-k;
          unborn = λ x. same_life_exact.only (life_at t a.operand) new (births x ∙ ap is_new (h.here.unborn x));
          owns_none = λ x. ap (owns_none t) is-k ∙ none (owns (exit-calls c x)) ∙ sym (ap (owns_none s) was_k) ∙ h.here.owns_none x;
        };
      })
    where
      none : ((m : ℕ) → eqb (mutex_at t m).owner k ≡ eqb (mutex_at s m).owner k) → owns_none t k ≡ owns_none s k
      none f =
          ap (each (λ m. not (eqb (mutex_at t m).owner k)) 1) (sym z.M) ∙
          each_agree (λ m. not (eqb (mutex_at t m).owner k)) (λ m. not (eqb (mutex_at s m).owner k)) 1 s.M (λ m l. ap not (f m))
