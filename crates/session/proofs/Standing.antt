-- Moves in a journal: reading them back, and writing one more.
-- Assumes nothing.
use Prim.Native.Nat.{ℕ, zero, suc, ◌+◌, ◌*◌, ◌-◌, ◌≤◌}
use mathlib.Core.Bool.{true}
use mathlib.Core.List.{List, [], ◌∷◌, ◌++◌}
use mathlib.Core.Path.{◌≡◌, refl, sym, ap, ◌∙◌, subst}
use native.Mathlib.Omega.{arith}
use native.Mathlib.Numerals.{add-one, add-two}
use lib.ListN.{length, get_or, take, drop, set, length-append, length-drop, take-append-drop}
use lib.Seq.{sets-eq, take_at, drop_at, drop-drop, length-take-le}
use Rattle.reference.specs.State.{State}
use Rattle.reference.specs.Step.{Move, move_of}
use Rattle.reference.specs.Cause.{accepted}
use Rattle.reference.specs.Session.{bytes, moves}
use Rattle.reference.proofs.Moves.{accepted-take}
use Rattle.session.specs.Contract.{written_at}
use Rattle.session.specs.Model.Replay.{stored}

pub length-bytes : (ms : List Move) → length (bytes ms) ≡ 3 * length ms
unfolding bytes
length-bytes [] = refl
length-bytes (a ∷ ms) = omega (arith, length-bytes ms)

pub bytes_snoc : (ms : List Move) (a : Move) → bytes (ms ++ a ∷ []) ≡ bytes ms ++ bytes (a ∷ [])
unfolding bytes
bytes_snoc [] a = refl
bytes_snoc (b ∷ ms) a = rw (bytes_snoc ms a)

moves-bytes : (ms : List Move) (j : List ℕ) → moves (length ms) (bytes ms ++ j) ≡ ms
unfolding bytes moves
moves-bytes [] j = refl
moves-bytes (a ∷ ms) j = ap (λ (r : List Move). a ∷ r) (moves-bytes ms j)

-- the moves of a list are read back from a journal that begins with them
pub moves_front : (ms : List Move) (j : List ℕ) → take (3 * length ms) j ≡ bytes ms → moves (length ms) j ≡ ms
moves_front ms j e =
    subst (λ (l : List ℕ). moves (length ms) l ≡ ms)
    (ap (λ (r : List ℕ). r ++ drop (3 * length ms) j) (sym e) ∙ take-append-drop (3 * length ms) j)
    (moves-bytes ms (drop (3 * length ms) j))

-- a journal that is long enough begins with its first moves
pub bytes-moves : (n : ℕ) (j : List ℕ) → 3 * n ≤ length j → take (3 * n) j ≡ bytes (moves n j)
unfolding bytes moves
bytes-moves zero j h = refl
bytes-moves (suc n) [] h = absurd (omega arith)
bytes-moves (suc n) (a ∷ []) h = absurd (omega arith)
bytes-moves (suc n) (a ∷ b ∷ []) h = absurd (omega arith)
bytes-moves (suc n) (a ∷ b ∷ c ∷ j) h =
    let triple : 3 * suc n ≡ suc (suc (suc (3 * n))) = omega arith in
    ap (λ (k : ℕ). take k (a ∷ b ∷ c ∷ j)) triple ∙ ap (λ (l : List ℕ). a ∷ b ∷ c ∷ l) (bytes-moves n j (omega arith))

-- the first of a journal's moves
pub moves-take : (n k : ℕ) (j : List ℕ) → n ≤ k → take n (moves k j) ≡ moves n j
unfolding moves
moves-take zero k j h = refl
moves-take (suc n) zero j h = absurd (omega arith)
moves-take (suc n) (suc k) j h = ap (λ (l : List Move). move_of (get_or j 0 0) (get_or j 1 0) (get_or j 2 0) ∷ l) (moves-take n k (drop 3 j) (omega arith))

pub accepted-within : (n k : ℕ) (j : List ℕ) (s : State) → n ≤ k → accepted s (moves k j) ≡ true → accepted s (moves n j) ≡ true
accepted-within n k j s h e = subst (λ (l : List Move). accepted s l ≡ true) (moves-take n k j h) (accepted-take n (moves k j) s e)

-- ---- a move written into a journal

module _ (j : List ℕ) (n : ℕ) (a : Move) (room : 3 * n + 3 ≤ length j) where
  head_length : length (take (3 * n) j ++ bytes (a ∷ [])) ≡ 3 * n + 3
  head_length = length-append (take (3 * n) j) (bytes (a ∷ [])) ∙ omega (arith, length-take-le (3 * n) j (omega arith), length-bytes (a ∷ []))

  pub written-length : length (written_at n a j) ≡ length j
  unfolding written_at
  written-length = length-append (take (3 * n) j ++ bytes (a ∷ [])) (drop (3 * n + 3) j) ∙ omega (arith, head_length, length-drop (3 * n + 3) j)

  -- what three stores make of it
  pub sets-written : stored j n a ≡ written_at n a j
  unfolding written_at bytes
  sets-written =
      ap (λ (k : ℕ). set (set (set j (3 * n) a.processor) (3 * n + 1) a.action) k a.operand) (add-two (3 * n)) ∙
      ap (λ (k : ℕ). set (set (set j (3 * n) a.processor) k a.action) (suc (suc (3 * n))) a.operand) (add-one (3 * n)) ∙
      sets-eq (a.processor ∷ a.action ∷ a.operand ∷ []) j (3 * n) room

  pub written-front : (k : ℕ) → k ≡ 3 * n + 3 → take k (written_at n a j) ≡ take (3 * n) j ++ bytes (a ∷ [])
  unfolding written_at
  written-front k e = take_at (take (3 * n) j ++ bytes (a ∷ [])) (drop (3 * n + 3) j) k (head_length ∙ sym e)

  pub written_rest : (k : ℕ) → 3 * n + 3 ≤ k → drop k (written_at n a j) ≡ drop k j
  unfolding written_at
  written_rest k h =
      let d : ℕ = k - (3 * n + 3) in
      let e : k ≡ 3 * n + 3 + d = omega arith in
      let w : List ℕ = written_at n a j in
      ap (λ (i : ℕ). drop i w) e ∙ sym (drop-drop d (3 * n + 3) w) ∙
      ap (drop d) (drop_at (take (3 * n) j ++ bytes (a ∷ [])) (drop (3 * n + 3) j) (3 * n + 3) head_length) ∙
      drop-drop d (3 * n + 3) j ∙ ap (λ (i : ℕ). drop i j) (sym e)
