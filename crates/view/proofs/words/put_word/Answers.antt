-- `view::words::put_word` meets its contract.
use Rattle.std.proofs.Common.{arith, ap, ◌∙◌}
use Rattle.command.specs.Printing.{written}
use Rattle.view.proofs.Names.{byte_times, cut_word, word_more, word_end, word_space}
use Rattle.view.proofs.words.put_word.Goals as goal

pub overflow_mul-begin : goal.overflow_mul-begin
overflow_mul-begin c = omega (arith, byte_times c.args.width c.args.n (omega arith) (omega arith))

pub loop-b-preserved : goal.loop-b-preserved
loop-b-preserved c = word_more _ _ _ _ _ c.loop-b.invariant (omega arith) c.if-b-eq32.false c.push.ensures

pub returns-after-loop-b : goal.returns-after-loop-b
returns-after-loop-b c =
    let a = c.args in
    word_end _ _ _ _ c.loop-b.invariant c.loop-b-test.false ∙ ap (written _) (cut_word a.width a.n a.table.now _ _ c.min-from.ensures c.min-upto.ensures)

pub returns-then-b-eq32 : goal.returns-then-b-eq32
returns-then-b-eq32 c =
    let a = c.args in
    word_space _ _ _ _ c.loop-b.invariant (omega arith) c.if-b-eq32.true ∙ ap (written _) (cut_word a.width a.n a.table.now _ _ c.min-from.ensures c.min-upto.ensures)
