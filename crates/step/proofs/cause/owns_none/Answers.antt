-- `step::cause::owns_none` meets its contract: the eight tests are those of the numbers 1 to 8.
-- Assumes nothing.
use mathlib.Core.Bool.{true}
use mathlib.Core.Path.{sym}
use Rattle.reference.proofs.Each.{each_none, each_next}
use Rattle.step.proofs.cause.owns_none.Goals as goal

pub returns : goal.returns
returns c = each_next _ 7 _ _ (each_next _ 6 _ _ (each_next _ 5 _ _ (each_next _ 4 _ _ (each_next _ 3 _ _ (each_next _ 2 _ _ (each_next _ 1 _ _ (each_next _ 0 true _ (sym (each_none _ 1)) c.unowned.ensures) c.unowned-2.ensures) c.unowned-3.ensures) c.unowned-4.ensures) c.unowned-5.ensures) c.unowned-6.ensures) c.unowned-7.ensures) c.unowned-8.ensures
