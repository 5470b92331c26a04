-- A run in two parts: the moves of a list are those of its front, then those of the rest.
-- Assumes nothing.
use Prim.Native.Nat.{ℕ, zero, suc, ◌+◌, ◌-◌, ◌*◌, ◌/◌, ◌≤◌, ◌<◌}
use mathlib.Core.Bool.{Bool, true, false}
use mathlib.Core.List.{List}
use mathlib.Core.Path.{◌≡◌, refl, sym, ap, ◌∙◌}
use native.Mathlib.Omega.{arith}
use lib.Dec.{eqb}
use lib.ListN.{length, get_or, take, drop, length-take, length-drop}
use lib.Seq.{get_or-drop, get_or-take}
use borrow.Author.Tests.{eqb-false}
use Rattle.reference.specs.Lists.{choose}
use Rattle.state.specs.declared.State.{State}
use Rattle.step.specs.Model.Moves.{Run, Moved, moved_of, moved_at, ran, run_from, run_of, noted_at, counted_from, counted_of}

-- two runs end alike: the same refusal, the same state, the same counts
pub record Alike (x y : Run) (c d : List ℕ) : Type 0 where
  pub refusal : x.refusal ≡ y.refusal
  pub state : x.state ≡ y.state
  pub counts : c ≡ d

alike_then : {x y z : Run} {c d e : List ℕ} → Alike x y c d → Alike y z d e → Alike x z c e
alike_then a b = record { refusal = a.refusal ∙ b.refusal; state = a.state ∙ b.state; counts = a.counts ∙ b.counts }

alike_back : {x y : Run} {c d : List ℕ} → Alike x y c d → Alike y x d c
alike_back a = record { refusal = sym a.refusal; state = sym a.state; counts = sym a.counts }

-- ---- a list that has the moves of another from move d + 1 on

-- the bytes of l are those of j from byte 3d on, as far as n moves go
abbrev pub Part : List ℕ → List ℕ → ℕ → ℕ → Type 0
Part l j d n = (x : ℕ) → x < 3 * n → get_or l x 0 ≡ get_or j (3 * d + x) 0

module _ (l j : List ℕ) (d m : ℕ) (part : Part l j d m) where
  byte_at : (i x : ℕ) → i < m → x < 3 → get_or l (3 * i + x) 0 ≡ get_or j (3 * (d + i) + x) 0
  byte_at i x h k = part (3 * i + x) (omega arith) ∙ ap (λ (n : ℕ). get_or j n 0) (omega arith)

  first-at : (i : ℕ) → i < m → get_or l (3 * i) 0 ≡ get_or j (3 * (d + i)) 0
  first-at i h = part (3 * i) (omega arith) ∙ ap (λ (n : ℕ). get_or j n 0) (omega arith)

  moved-there : (s : State) (i : ℕ) → i < m → moved_at s l i ≡ moved_at s j (d + i)
  moved-there s i h = λ e. moved_of s (first-at i h e) (byte_at i 1 h (omega arith) e) (byte_at i 2 h (omega arith) e)

  noted-there : (s : State) (i : ℕ) (calls : List ℕ) → i < m → noted_at s l i calls ≡ noted_at s j (d + i) calls
  noted-there s i calls h = rw (first-at i h, byte_at i 1 h (omega arith))

  shifted : (n i : ℕ) (s : State) (calls : List ℕ) → i + n ≤ m →
      Alike (run_from l n i s) (run_from j n (d + i) s) (counted_from l n i s calls) (counted_from j n (d + i) s calls)
  unfolding run_from counted_from
  shifted zero i s calls h = record { refusal = refl; state = refl; counts = refl }
  shifted (suc n) i s calls h =
      let next : d + (i + 1) ≡ d + i + 1 = omega arith in
      let on = shifted n (i + 1) (moved_at s j (d + i)).state (noted_at s j (d + i) calls) (omega arith) in
      rw (moved-there s i (omega arith), noted-there s i calls (omega arith)) (by (eqb (moved_at s j (d + i)).refusal 0) (rw next at on))
    where
      here : Moved
      here = moved_at s j (d + i)

      by : (b : Bool) {x y : Run} {c c' : List ℕ} → Alike x y c c' →
          Alike (choose b x (ran here.refusal i s)) (choose b y (ran here.refusal (d + i) s)) (choose b c calls) (choose b c' calls)
      by true a = a
      by false a = record { refusal = refl; state = refl; counts = refl }

-- ---- n moves, then m more

module _ (j : List ℕ) (m : ℕ) where
  -- the first n are all made
  goes_on : (n i : ℕ) (s : State) (calls : List ℕ) → (run_from j n i s).refusal ≡ 0 →
      Alike (run_from j (n + m) i s) (run_from j m (i + n) (run_from j n i s).state) (counted_from j (n + m) i s calls)
      (counted_from j m (i + n) (run_from j n i s).state (counted_from j n i s calls))
  unfolding run_from counted_from
  goes_on zero i s calls z =
      let e : i + 0 ≡ i = omega arith in
      let m-is : 0 + m ≡ m = omega arith in
      rw (e, m-is) (record { refusal = refl; state = refl; counts = refl })
  goes_on (suc n) i s calls z =
      let e : i + suc n ≡ i + 1 + n = omega arith in
      let m-is : suc n + m ≡ suc (n + m) = omega arith in
      rw (e, m-is) (by (eqb (moved_at s j i).refusal 0) refl z (goes_on n (i + 1) (moved_at s j i).state (noted_at s j i calls)))
    where
      here : Moved
      here = moved_at s j i

      rest : Run
      rest = run_from j n (i + 1) here.state

      counts : List ℕ
      counts = counted_from j n (i + 1) here.state (noted_at s j i calls)

      by : (b : Bool) → eqb here.refusal 0 ≡ b → (choose {A = Run} b rest (ran here.refusal i s)).refusal ≡ 0 →
          (rest.refusal ≡ 0 →
          Alike (run_from j (n + m) (i + 1) here.state) (run_from j m (i + 1 + n) rest.state)
          (counted_from j (n + m) (i + 1) here.state (noted_at s j i calls)) (counted_from j m (i + 1 + n) rest.state counts)) →
          Alike (choose b (run_from j (n + m) (i + 1) here.state) (ran here.refusal i s))
          (run_from j m (i + 1 + n) (choose {A = Run} b rest (ran here.refusal i s)).state)
          (choose b (counted_from j (n + m) (i + 1) here.state (noted_at s j i calls)) calls)
          (counted_from j m (i + 1 + n) (choose {A = Run} b rest (ran here.refusal i s)).state (choose b counts calls))
      by true t z on = on z
      by false t z on = absurd (eqb-false here.refusal 0 t z)

  -- one of them is refused
  stops : (n i : ℕ) (s : State) (calls : List ℕ) → ((run_from j n i s).refusal ≡ 0 → ⊥) →
      Alike (run_from j (n + m) i s) (run_from j n i s) (counted_from j (n + m) i s calls) (counted_from j n i s calls)
  unfolding run_from counted_from
  stops zero i s calls z = absurd (z refl)
  stops (suc n) i s calls z =
      let m-is : suc n + m ≡ suc (n + m) = omega arith in
      rw m-is (by (eqb (moved_at s j i).refusal 0) z (stops n (i + 1) (moved_at s j i).state (noted_at s j i calls)))
    where
      here : Moved
      here = moved_at s j i

      rest : ℕ → Run
      rest k = run_from j k (i + 1) here.state

      counts : ℕ → List ℕ
      counts k = counted_from j k (i + 1) here.state (noted_at s j i calls)

      by : (b : Bool) → ((choose {A = Run} b (rest n) (ran here.refusal i s)).refusal ≡ 0 → ⊥) →
          (((rest n).refusal ≡ 0 → ⊥) → Alike (rest (n + m)) (rest n) (counts (n + m)) (counts n)) →
          Alike (choose b (rest (n + m)) (ran here.refusal i s)) (choose b (rest n) (ran here.refusal i s)) (choose b (counts (n + m)) calls) (choose b (counts n) calls)
      by true z on = on z
      by false z on = record { refusal = refl; state = refl; counts = refl }

-- ---- the front of a list of bytes: its first k moves, and those after them up to n

module _ (j : List ℕ) (k n : ℕ) (within : k ≤ n) (size : 3 * n ≤ length j) (s : State) (calls : List ℕ) where
  abbrev pub whole : List ℕ
  whole = take (3 * n) j

  abbrev pub front : List ℕ
  front = take (3 * k) j

  abbrev pub rest : List ℕ
  rest = take (3 * n - 3 * k) (drop (3 * k) j)

  -- the first i moves of j, run from it
  front_alike : (i : ℕ) → i ≤ n → (e : State) (c : List ℕ) → Alike (run_of e (take (3 * i) j)) (run_from j i 0 e) (counted_of e (take (3 * i) j) c) (counted_from j i 0 e c)
  front_alike i h e c =
      let size_is : length (take (3 * i) j) / 3 ≡ i = omega (arith, length-take (3 * i) j) in
      rw size_is (shifted (take (3 * i) j) j 0 i (λ x l. get_or-take (3 * i) j x 0 l ∙ ap (λ (m : ℕ). get_or j m 0) (omega arith)) i 0 e c (omega arith))

  rest_alike : (e : State) (c : List ℕ) → Alike (run_of e rest) (run_from j (n - k) k e) (counted_of e rest c) (counted_from j (n - k) k e c)
  rest_alike e c =
      let size_is : length rest / 3 ≡ n - k = omega (arith, length-take (3 * n - 3 * k) (drop (3 * k) j), length-drop (3 * k) j) in
      let there : k + 0 ≡ k = omega arith in
      let a = shifted rest j k (n - k) (λ x l. get_or-take (3 * n - 3 * k) (drop (3 * k) j) x 0 (omega arith) ∙ get_or-drop (3 * k) j x 0) (n - k) 0 e c (omega arith) in
      rw size_is (rw there at a)

  sum_is : k + (n - k) ≡ n
  sum_is = omega arith

  zero_is : 0 + k ≡ k
  zero_is = omega arith

  -- all of the front are made: the whole ends where the rest does
  pub both-made : (run_of s front).refusal ≡ 0 →
      Alike (run_of s whole) (run_of (run_of s front).state rest) (counted_of s whole calls) (counted_of (run_of s front).state rest (counted_of s front calls))
  both-made z =
      let f = front_alike k within s calls in
      let on = goes_on j (n - k) k 0 s calls (sym f.refusal ∙ z) in
      let on' : Alike (run_from j n 0 s) (run_from j (n - k) k (run_from j k 0 s).state) (counted_from j n 0 s calls) (counted_from j (n - k) k (run_from j k 0 s).state (counted_from j k 0 s calls)) =
      rw (sum_is, zero_is) at on in
      alike_then (front_alike n (omega arith) s calls)
      (alike_then on'
      (alike_back (rw (f.state, f.counts) (rest_alike (run_from j k 0 s).state (counted_from j k 0 s calls)))))

  -- one of the front is refused: the whole ends there
  pub front-refused : ((run_of s front).refusal ≡ 0 → ⊥) → Alike (run_of s whole) (run_of s front) (counted_of s whole calls) (counted_of s front calls)
  front-refused z =
      let f = front_alike k within s calls in
      let on = stops j (n - k) k 0 s calls (λ e. z (f.refusal ∙ e)) in
      let on' : Alike (run_from j n 0 s) (run_from j k 0 s) (counted_from j n 0 s calls) (counted_from j k 0 s calls) = rw sum_is at on in
      alike_then (front_alike n (omega arith) s calls) (alike_then on' (alike_back f))
