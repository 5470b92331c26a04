-- `exports::words::put_words` meets its contract.
-- Assumes nothing.
use mathlib.Core.Path.{◌≡◌}
use lib.ListN.{length}
use Rattle.exports.proofs.Touched.{Going}
use Rattle.exports.proofs.words.put_words.Given as goal

abbrev pub invariant-loop-i : goal.invariant-loop-i
invariant-loop-i l = (length l.words ≡ length l.initial.words) × Going l.initial.state l.moves l.initial.words l.i l.state l.words
