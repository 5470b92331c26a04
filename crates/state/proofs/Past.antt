-- An array at an index past its end: a read gives the default, and a write does nothing.
-- Assumes nothing.
use Prim.Native.Nat.{ℕ, ◌≤◌}
use mathlib.Core.Path.{◌≡◌, sym}
use mathlib.Core.List.{List}
use native.Mathlib.Omega.{arith}
use lib.ListN.{length, get_or, set, get_or-eq_default}
use lib.Seq.{set_out}

module _ {A : Type 0} (l : List A) (n k : ℕ) (size : length l ≡ n) (past : n ≤ k) where
  pub read_past : (d : A) → d ≡ get_or l k d
  read_past d = sym (get_or-eq_default l d (omega arith))

  pub write_past : (a : A) → l ≡ set l k a
  write_past a = sym (set_out l k a (omega arith))
