-- `chart::row::Row::put` meets its contract.
use mathlib.Core.Path.{ap, ◌∙◌}
use borrow.Author.Rules.{rules}
use Rattle.command.specs.Printing.{text, written, line_feed}
use Rattle.command.proofs.Put.{written_twice}
use Rattle.command.specs.declared.printing.Page.{Page}
use Rattle.chart.specs.Chart.{owner_change, token_change, queue_change, with_owner, with_token, with_joined, with_departed, row}
use Rattle.chart.proofs.Rows.{row_noted}
use Rattle.chart.proofs.row.Row.put.Goals as goal

pub returns : goal.returns
unfolding with_owner with_token with_joined with_departed row text
returns c =
    let p = c.args.page.now in
    let n = c.args.self.now.count in
    let before = c.processor-before.result in
    let after = c.processor-after.result in
    let owner = row_noted p _ _ _ n _ (owner_change before.mutex c.at-y.result) c.made.ensures c.note.ensures.none (λ t. let k = c.note.ensures.change t in search rules) in
    let token = row_noted p _ _ _ n _ (token_change before.mutex c.at-y.result) owner c.note-2.ensures.none (λ t. let k = c.note-2.ensures.change t in search rules) in
    let joined = row_noted p _ _ _ n _ (queue_change (text ": +") c.at-joined.result before.transit) token c.note-3.ensures.none (λ t. let k = c.note-3.ensures.change t in search rules) in
    let left = row_noted p _ _ _ n _ (queue_change (text ": -") c.at-left.result after.transit) joined c.note-4.ensures.none (λ t. let k = c.note-4.ensures.change t in search rules) in
    c.push.ensures ∙ ap (λ (q : Page). written q line_feed) left ∙ written_twice p _ line_feed
    ∙ rw (c.queued-2.ensures, c.queued.ensures, c.ne.ensures, c.at-left.ensures, c.at-joined.ensures, c.at-y.ensures, c.at-x.ensures, c.processor-after.ensures, c.processor-before.ensures)
