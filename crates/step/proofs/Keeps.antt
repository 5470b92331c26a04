-- Where nothing says that a line or a call may change its mutex, its effect leaves the mutex as it was.
-- Assumes nothing.
use Prim.Native.Nat.{ℕ, zero, suc, ◌<◌}
use mathlib.Core.Bool.{Bool, true, false, not, ◌&&◌, true≢false}
use mathlib.Core.List.{List, [], ◌∷◌}
use Rattle.std.proofs.Common.{Option, Some, None}
use mathlib.Core.Path.{◌≡◌, refl}
use lib.Dec.{eqb}
use lib.ListN.{get_or}
use native.Mathlib.Omega.{arith}
use borrow.Author.Tests.{le-leb, lt-leb}
use Rattle.reference.specs.Lists.{choose, in_range}
use Rattle.state.specs.declared.Mutex.{Mutex}
use Rattle.state.specs.declared.queues.Front.{Front}
use Rattle.step.specs.declared.View.{View}
use Rattle.step.specs.declared.Effect.{Effect}
use Rattle.step.specs.Model.Moves.{on_taken, effects, stay, writers, line_effect, act_effect, act_outcome, at_CI2, at_CI3, at_L3, at_L4, at_L6, at_L7, at_L10, at_GT1, at_H3, at_H6, at_Y1, at_Y2, at_Y3, at_C2, lock_call, trylock_call, unlock_call, yield_call, exit_call, create_call}

-- on both ways of a case
by-taken : (q : Option Front) (e : Effect) (f : ℕ → ℕ → Effect) (x : Mutex) → e.mutex ≡ x → ((k rest : ℕ) → (f k rest).mutex ≡ x) → (on_taken q e f).mutex ≡ x
by-taken None e f x h i = h
by-taken (Some q) e f x h i = i q.thread q.rest

by_test : (b : Bool) (e f : Effect) (x : Mutex) → e.mutex ≡ x → f.mutex ≡ x → (choose b e f).mutex ≡ x
by_test true e f x h i = h
by_test false e f x h i = i

◌and◌ : {A B : Type 0} → A → B → A × B
a and b = (a, b)

infixr 4 ◌and◌
-- of each line that may not change its mutex
abbrev Keep : List Bool → List (View → Effect) → Type 0
Keep ws [] = Unit {0}
Keep [] (f ∷ fs) = ⊥
Keep (w ∷ ws) (f ∷ fs) = (w ≡ false → (v : View) → (f v).mutex ≡ v.mutex) × Keep ws fs

keep_at : (ws : List Bool) (fs : List (View → Effect)) → Keep ws fs → (n : ℕ) → get_or ws n false ≡ false → (v : View) → (get_or fs n stay v).mutex ≡ v.mutex
keep_at ws [] k n e v = refl
keep_at [] (f ∷ fs) k n e v = absurd k
keep_at (w ∷ ws) (f ∷ fs) k zero e v = k.0 e v
keep_at (w ∷ ws) (f ∷ fs) k (suc n) e v = keep_at ws fs k.1 n e v

may : {A : Type 0} → true ≡ false → A
may e = absurd (true≢false e)

lines_keep : Keep writers effects
unfolding at_CI2 at_CI3 at_L3 at_L4 at_L6 at_L7 at_L10 at_GT1 at_H3 at_H6 at_Y1 at_Y2 at_Y3 at_C2
lines_keep =
    (λ e v. refl) and
    (λ e v. by-taken v.ready _ _ v.mutex refl (λ k rest. refl)) and
    (λ e v. refl) and
    (λ e v. may e) and
    (λ e v. refl) and
    (λ e v. refl) and
    (λ e v. by_test (eqb v.mutex.token.processor 0) _ _ v.mutex refl refl) and
    (λ e v. by-taken v.queue _ _ v.mutex refl (λ k rest. refl)) and
    (λ e v. may e) and
    (λ e v. may e) and
    (λ e v. refl) and
    (λ e v. may e) and
    (λ e v. by_test (eqb v.mutex.token.processor 0) _ _ v.mutex refl refl) and
    (λ e v. may e) and
    (λ e v. may e) and
    (λ e v. may e) and
    (λ e v. may e) and
    (λ e v. refl) and
    (λ e v. may e) and
    (λ e v. by-taken v.queue _ _ v.mutex refl (λ k rest. refl)) and
    (λ e v. may e) and
    (λ e v. by-taken v.ready _ _ v.mutex refl (λ k rest. refl)) and
    (λ e v. refl) and
    (λ e v. refl) and
    (λ e v. refl) and
    tt

line_keeps : (v : View) → get_or writers v.proc.position false ≡ false → (line_effect v).mutex ≡ v.mutex
unfolding line_effect
line_keeps v e = keep_at writers effects lines_keep v.proc.position e v

-- no call has a number above 6
beyond : (n x : ℕ) → n < x → in_range 1 n x ≡ false
beyond n x h = rw (le-leb 1 x (omega arith), lt-leb x n h)

-- past a call
went : (b w : Bool) → b ≡ false → not b && w ≡ false → w ≡ false
went true w h e = may h
went false w h e = e

pub keeps : (t a o : ℕ) (v : View) → (act_outcome t a o v).writes ≡ false → (act_effect a o v).mutex ≡ v.mutex
unfolding act_outcome act_effect lock_call trylock_call unlock_call yield_call exit_call create_call
keeps t zero o v e = line_keeps v e
keeps t (suc zero) o v e = refl
keeps t (suc (suc zero)) o v e = refl
keeps t (suc (suc (suc zero))) o v e = refl
keeps t (suc (suc (suc (suc zero)))) o v e = refl
keeps t (suc (suc (suc (suc (suc zero))))) o v e = refl
keeps t (suc (suc (suc (suc (suc (suc zero)))))) o v e = refl
keeps t (suc (suc (suc (suc (suc (suc (suc a))))))) o v e = line_keeps v (went _ _ (beyond 6 (suc (suc (suc (suc (suc (suc (suc a))))))) (omega arith)) e)
