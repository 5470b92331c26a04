-- What rows put on a page one after the other make of it.
-- Assumes nothing.
use Rattle.std.specs.Borrow.{MutBor}
use Rattle.std.specs.Prelude.{ℕ, ◌+◌, ◌<◌, ◌≤◌, ◌≡◌, List}
use Rattle.command.specs.declared.printing.Page.{Page}
use Rattle.command.specs.Printing.{written}
use Rattle.view.specs.Words.{rows}

-- q is the page p with a row of each of the n numbers from lo on, none above 255, where `Puts x i y` says that the row of i may leave the page x as y
abbrev pub PutsEach : (MutBor Page → ℕ → MutBor Page → Type 0) → ℕ → ℕ → Page → Page → Type 0
PutsEach Puts lo n p q =
    (f : ℕ → List ℕ) → ((i : ℕ) → i < 256 → (x y : MutBor Page) → Puts x i y → y.now ≡ written x.now (f i)) → lo + n ≤ 256 → q ≡ written p (rows f lo n)
