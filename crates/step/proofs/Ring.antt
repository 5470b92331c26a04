-- The ready queue that a processor works on, by its index in the record.
-- Assumes nothing.
use Prim.Native.Nat.{ℕ, ◌+◌, ◌-◌, ◌%◌, ◌≤◌, ◌<◌}
use mathlib.Core.Bool.{true, ◌&&◌}
use mathlib.Core.Path.{◌≡◌}
use native.Mathlib.Nat.{mod-eq_of_lt, mod-eq-sub-mod}
use native.Mathlib.Omega.{arith}
use lib.Dec.{ltb}
use borrow.Author.Tests.{ltb-true}
use Rattle.reference.specs.Lists.{in_range}
use Rattle.reference.proofs.Tests.{◌and◌, range_true}
use Rattle.step.specs.Model.Moves.{on_ring}

-- what the test of on-ring says
pub record OnRing (n p l : ℕ) : Type 0 where
  pub low : 1 ≤ n
  pub most : n ≤ 8
  pub there : 1 ≤ p
  pub within : p ≤ n
  pub probe : l < n

module _ (n p l : ℕ) (e : (in_range 1 8 n && in_range 1 n p) && ltb l n ≡ true) where
  pub on_ring_tests : OnRing n p l
  on_ring_tests =
      let t = (range_true 1 8 n and range_true 1 n p and ltb-true l n) e in
      record { low = t.0.0.0; most = t.0.0.1; there = t.0.1.0; within = t.0.1.1; probe = t.1 }

  -- p + l stays on the ring, or is past its end by less than a whole turn
  pub on_ring-within : p + l ≤ n → 8 + (p + l) ≡ on_ring n p l
  on_ring-within h =
      let t = on_ring_tests in
      let w : (p + l - 1) % n ≡ p + l - 1 = mod-eq_of_lt {n = p + l - 1} {m = n} (omega (arith, t)) in
      rw e (omega (arith, t, w))

  pub on_ring_past : n < p + l → 8 + (p + l - n) ≡ on_ring n p l
  on_ring_past h =
      let t = on_ring_tests in
      let w : (p + l - 1) % n ≡ (p + l - 1 - n) % n = mod-eq-sub-mod {n = p + l - 1} {m = n} (omega (arith, t)) in
      let z : (p + l - 1 - n) % n ≡ p + l - 1 - n = mod-eq_of_lt {n = p + l - 1 - n} {m = n} (omega (arith, t)) in
      rw e (omega (arith, t, w, z))
