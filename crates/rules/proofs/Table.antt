-- The register table: a column of the code is that column of the rows, at each line and past them.
-- Assumes nothing.
use Prim.Native.Nat.{ℕ}
use mathlib.Core.Path.{◌≡◌}
use mathlib.Core.List.{List, map}
use lib.ListN.{get_or, get_or-map}
use Rattle.reference.specs.State.{Row, App, row, lines, line_of}

-- a column of the table
abbrev pub of : (Row → ℕ) → List ℕ
of f = map (λ l. f (row l)) lines

column : (f : Row → ℕ) (n : ℕ) → get_or (of f) n (f (row App)) ≡ f (row (line_of n))
unfolding line_of
column f n = get_or-map (λ l. f (row l)) lines n App

pub current_column : (n : ℕ) → get_or (of (λ r. r.current)) n 1 ≡ (row (line_of n)).current
current_column = column (λ r. r.current)

pub transit_column : (n : ℕ) → get_or (of (λ r. r.transit)) n 0 ≡ (row (line_of n)).transit
transit_column = column (λ r. r.transit)

pub mutex_column : (n : ℕ) → get_or (of (λ r. r.mutex)) n 0 ≡ (row (line_of n)).mutex
mutex_column = column (λ r. r.mutex)

pub observed_column : (n : ℕ) → get_or (of (λ r. r.observed)) n 0 ≡ (row (line_of n)).observed
observed_column = column (λ r. r.observed)
