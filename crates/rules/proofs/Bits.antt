-- A set of numbers below 64 as the bits of a number: a bit set later, and no other, is found.
-- Assumes nothing.
use Prim.Native.Nat.{ℕ, zero, suc, ◌+◌, ◌-◌, ◌*◌, ◌/◌, ◌%◌, ◌^◌, ◌<◌, ◌≤◌}
use mathlib.Core.Path.{◌≡◌, refl, ap, sym, ◌∙◌}
use mathlib.Core.Bool.{Bool, true, false, ◌||◌, true≢false}
use mathlib.Core.List.{List, [], ◌∷◌, ◌++◌}
use native.Mathlib.Nat.{div-eq_of_lt, div_self, zero-div, mul-mod_right, pow-succ', one-mul, div-div-eq-div-mul}
use native.Mathlib.Decide.{dec_lt}
use native.Mathlib.Omega.{arith}
use borrow.Author.Tests.{eqb-true, eqb-false, lt-ltb}
use lib.Dec.{eqb}
use lib.Pow.{pow_pos, pow-lt, pow_mono, pow-add, shl-shr, shl_exact}
use lib.Bits.{bit_or, or_shr, or_mod, or_zero_r}
use Rattle.rules.specs.Walk.{has_bit, Bits}
use Rattle.rules.specs.Model.Chain.{with_bit}
use Rattle.rules.proofs.Members.{stands_none, stands_last}

abbrev bit_of : ℕ → ℕ → ℕ
bit_of n k = n / 2 ^ k % 2

or_one : (b : ℕ) → b < 2 → bit_or b 1 ≡ 1
or_one zero h = refl
or_one (suc zero) h = refl
or_one (suc (suc n)) h = absurd (omega arith)

-- a power's other bits are clear
low : (j d : ℕ) → 2 ^ (suc d + j) / 2 ^ j % 2 ≡ 0
low j d = rw (pow-add, shl-shr, pow-succ', mul-mod_right)

other : (k j : ℕ) → (j ≡ k → ⊥) → Dec (j < k) → bit_of (2 ^ k) j ≡ 0
other k j h (yes p) = let e : k ≡ suc (k - j - 1) + j = omega arith in ap (λ (i : ℕ). 2 ^ i / 2 ^ j % 2) e ∙ low j (k - j - 1)
other k j h (no p) = let q : k < j = omega arith in ap (λ (i : ℕ). i % 2) (div-eq_of_lt (pow-lt q))

own : (k : ℕ) → bit_of (2 ^ k) k ≡ 1
own k = ap (λ (i : ℕ). i % 2) (div_self (pow_pos k))

split : (n m j : ℕ) → bit_of (bit_or n m) j ≡ bit_or (bit_of n j) (bit_of m j)
split n m j = ap (λ (i : ℕ). i % 2) (or_shr n m j) ∙ or_mod (n / 2 ^ j) (m / 2 ^ j) 1

or_bit : (n k j : ℕ) → (b : Bool) → eqb j k ≡ b → eqb (bit_of (bit_or n (2 ^ k)) j) 1 ≡ b || eqb (bit_of n j) 1
or_bit n k j true e =
    let h : bit_of (bit_or n (2 ^ k)) j ≡ 1 = split n (2 ^ k) j ∙ rw (eqb-true j k e, own k, or_one (bit_of n k) (omega arith)) in
    rw h
or_bit n k j false e =
    let h : bit_of (bit_or n (2 ^ k)) j ≡ bit_of n j = split n (2 ^ k) j ∙ rw (other k j (eqb-false j k e) (dec_lt j k), or_zero_r) in
    rw h

-- what `1 << k` gives
pub shl_one : (k : ℕ) → k < 64 → 1 * 2 ^ k % 2 ^ 64 ≡ 2 ^ k
shl_one k h = shl_exact {a = 1} 1 k 64 (omega arith) (omega arith) ∙ one-mul (2 ^ k)

pub has_past : (n k : ℕ) → n < 2 ^ 64 → 64 ≤ k → has_bit n k ≡ false
unfolding has_bit
has_past n k f h = let g : n < 2 ^ k = omega (arith, f, pow_mono h) in rw (div-eq_of_lt g)

has_none : (j : ℕ) → has_bit 0 j ≡ false
unfolding has_bit
has_none j = rw (zero-div (2 ^ j))

-- a number is found exactly if it was set now or before
has_with : (n k j : ℕ) → k < 64 → has_bit (with_bit n k) j ≡ eqb j k || has_bit n j
unfolding has_bit with_bit
has_with n k j h = rw (lt-ltb k 64 h) (or_bit n k j (eqb j k) refl)

-- ---- the set bits as a list

pub bits_none : Bits 0 []
bits_none j = has_none j ∙ sym (stands_none j)

pub bits_with : (met k : ℕ) (l : List ℕ) → k < 64 → Bits met l → Bits (with_bit met k) (l ++ (k ∷ []))
bits_with met k l h b j = has_with met k j h ∙ rw (b j) (sym (stands_last j l k))

-- ---- a number is its set bits

halved : (n k : ℕ) → has_bit (n / 2) k ≡ has_bit n (suc k)
unfolding has_bit
halved n k = rw (div-div-eq-div-mul, pow-succ')

-- two numbers below 2 with the same answer to whether they are 1
same_digit : (a b : ℕ) → a < 2 → b < 2 → (t u : Bool) → eqb a 1 ≡ t → eqb b 1 ≡ u → t ≡ u → a ≡ b
same_digit a b h g true true x y e = eqb-true a 1 x ∙ sym (eqb-true b 1 y)
same_digit a b h g true false x y e = absurd (true≢false e)
same_digit a b h g false true x y e = absurd (true≢false (sym e))
same_digit a b h g false false x y e =
    let n = eqb-false a 1 x in
    let m = eqb-false b 1 y in
    omega arith

pub one_number_of : (m a b : ℕ) → a < 2 ^ m → b < 2 ^ m → ((k : ℕ) → has_bit a k ≡ has_bit b k) → a ≡ b
unfolding has_bit
one_number_of zero a b f g h = omega arith
one_number_of (suc m) a b f g h =
    let p : 2 ^ suc m ≡ 2 * 2 ^ m = pow-succ' 2 m in
    let x : a / 1 ≡ a = omega arith in
    let y : b / 1 ≡ b = omega arith in
    let d : a % 2 ≡ b % 2 = same_digit (a % 2) (b % 2) (omega arith) (omega arith) (eqb (a % 2) 1) (eqb (b % 2) 1) refl refl (rw (x, y) at (h 0)) in
    let t : a / 2 ≡ b / 2 = one_number_of m (a / 2) (b / 2) (omega arith) (omega arith) (λ k. halved a k ∙ h (suc k) ∙ sym (halved b k)) in
    omega arith
