-- Buffers of zeros.
use Prim.Native.Nat.{ℕ, ◌≤◌}
use native.Mathlib.Nat.{le_of_eq}
use mathlib.Core.Path.{◌≡◌, sym, ap, ◌∙◌}
use mathlib.Core.List.{List}
use lib.ListN.{length, replicate, length-replicate}
use Rattle.course.specs.Answers.{zeros}

pub zeros-long : (n : ℕ) → length (zeros n) ≡ n
unfolding zeros
zeros-long n = length-replicate n 0

-- a buffer of zeros, counted without being written out
pub counted : (n : ℕ) (l : List ℕ) → l ≡ replicate n 0 → n ≡ length l
counted n l e = sym (ap length e ∙ length-replicate n 0)

pub roomy : (n : ℕ) (l : List ℕ) → l ≡ replicate n 0 → n ≤ length l
roomy n l e = le_of_eq (counted n l e)
