-- Setting a thread's script in the buffer of t threads' scripts: what it answers, the buffer after it, and what comes of that.
-- `x` is the buffer, `k` the thread, `c` the bytes of the calls: for each an action and an operand.
-- Assumes nothing.
use Rattle.std.specs.Prelude.{ℕ, ◌+◌, ◌-◌, ◌*◌, ◌/◌, ◌%◌, ◌≤◌, ◌<◌, Bool, true, ◌&&◌, not, List, ◌∷◌, ◌++◌, ◌≡◌, eqb, leb, length, get_or, take, drop, replicate}
use Rattle.reference.specs.Refusal.{bad_operand, bad_script, refuse}
use Rattle.reference.specs.Lists.{choose, in_range, each}
use Rattle.reference.specs.Script.{script_byte, script_length, script_action, script_operand, scripts_ok}

-- at most 6 whole calls, with actions 1 to 6
unfoldable pub calls_ok : List ℕ → Bool
calls_ok c = leb (length c) 12 && eqb (length c % 2) 0 && each (λ i. in_range 1 6 (get_or c (2 * i) 0)) 0 (length c / 2)

-- 3 where there is no thread k; 19 where the buffer is too short or the calls are none
unfoldable pub set_refusal : ℕ → List ℕ → ℕ → List ℕ → ℕ
set_refusal t x k c =
    refuse (not (in_range 1 t k)) bad_operand (refuse (not (leb (13 * t) (length x) && calls_ok c)) bad_script 0)

-- the 13 bytes of a script: how many calls, the calls, zeros
abbrev pub script_bytes : List ℕ → List ℕ
script_bytes c = length c / 2 ∷ (c ++ replicate (12 - length c) 0)

-- accepted, thread k's bytes are those; refused, all stay
unfoldable pub scripts_after : ℕ → List ℕ → ℕ → List ℕ → List ℕ
scripts_after t x k c =
    choose (eqb (set_refusal t x k c) 0) (take (13 * (k - 1)) x ++ script_bytes c ++ drop (13 * k) x) x

-- what comes of it
pub record Sets (t : ℕ) (x : List ℕ) (k : ℕ) (c : List ℕ) : Type 0 where
  -- accepted, thread k has just these calls;
  pub count : set_refusal t x k c ≡ 0 → script_length (scripts_after t x k c) k ≡ length c / 2
  pub action : set_refusal t x k c ≡ 0 → (i : ℕ) → i < 6 → script_action (scripts_after t x k c) k i ≡ get_or c (2 * i) 0
  pub operand : set_refusal t x k c ≡ 0 → (i : ℕ) → i < 6 → script_operand (scripts_after t x k c) k i ≡ get_or c (2 * i + 1) 0
  -- every other thread's script has the bytes it had, and the buffer its length;
  pub others : (j : ℕ) → 1 ≤ j → (j ≡ k → ⊥) → (i : ℕ) → i < 13 → script_byte (scripts_after t x k c) j i ≡ script_byte x j i
  pub long : length (scripts_after t x k c) ≡ length x
  -- scripts that are in order stay so
  pub in_order : scripts_ok t x ≡ true → scripts_ok t (scripts_after t x k c) ≡ true

-- 416 zeros are scripts of up to 32 threads, all of them empty
abbrev pub Empty : Type 0
Empty = (t : ℕ) → t ≤ 32 → (scripts_ok t (replicate 416 0) ≡ true) × ((k : ℕ) → script_length (replicate 416 0) k ≡ 0)
