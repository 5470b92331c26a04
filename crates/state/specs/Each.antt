-- What a test of each of some numbers answers.
-- Assumes nothing.
use Rattle.std.specs.Prelude.{ℕ, ◌+◌, ◌<◌, ◌≤◌, Bool, ◌≡◌}
use Rattle.reference.specs.Lists.{each}

-- r says whether the test holds of the n numbers from lo on, none of them above 255, where `Answers i b` says that the test of i may answer b
abbrev pub IsEach : (ℕ → Bool → Type 0) → ℕ → ℕ → Bool → Type 0
IsEach Answers lo n r =
    (test : ℕ → Bool) → ((i : ℕ) → i < 256 → (b : Bool) → Answers i b → b ≡ test i) → lo + n ≤ 256 → r ≡ each test lo n
