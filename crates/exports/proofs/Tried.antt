-- One refusal after another, and how large a refusal's number can be.
-- Assumes nothing.
use Prim.Native.Nat.{ℕ, zero, suc, ◌≤◌}
use mathlib.Core.Path.{◌≡◌, refl, sym}
use native.Mathlib.Omega.{arith}
use Rattle.state.specs.declared.refusal.Refusal.{Refusal}
use Rattle.state.specs.declared.refusal.Refusal.TheVariants as case
use Rattle.state.specs.Refusal.{number}
use Rattle.session.specs.Contract.{or_later}

-- what is there of two is what is there of the two and a later one
pub later_first : (a b x n : ℕ) → n ≡ or_later a b → (n ≡ 0 → ⊥) → or_later a (or_later b x) ≡ n
later_first zero zero x n e h = absurd (h e)
later_first zero (suc b) x n e h = sym e
later_first (suc a) b x n e h = sym e

pub none_first : (a b : ℕ) → or_later a b ≡ 0 → (a ≡ 0) × (b ≡ 0)
none_first zero b e = (refl, e)
none_first (suc a) b e = absurd (omega arith)

pub number_most : (e : Refusal) → number e ≤ 21
unfolding number
number_most case.BadConfig = omega arith
number_most case.NoProcessor = omega arith
number_most case.BadOperand = omega arith
number_most case.CallAway = omega arith
number_most case.GoAtApp = omega arith
number_most case.NotOwner = omega arith
number_most case.NotNew = omega arith
number_most case.Full = omega arith
number_most case.NoStep = omega arith
number_most case.TooShort = omega arith
number_most case.BadLength = omega arith
number_most case.BadField = omega arith
number_most case.BadChain = omega arith
number_most case.BadHolder = omega arith
number_most case.BadRecord = omega arith
number_most case.BadJournal = omega arith
number_most case.BadScript = omega arith
number_most case.StillOwner = omega arith
