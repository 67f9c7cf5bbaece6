use Rattle.std.proofs.Common.{sym, ◌∙◌}
use Rattle.panel_files.proofs.KeyLaws.{row-of-known, row-of-new}
use Rattle.panel_files.proofs.keys.KeyTable.row_after.Goals as goal

pub returns-then-contains_key : goal.returns-then-contains_key
returns-then-contains_key c =
    row-of-known (λ k. k.items) c.args.key.now c.self.inside.rows.entries c.args.self.now c.args.row_no c.self.view_is
    (sym c.contains_key.ensures ∙ c.if-contains_key.true)

pub returns-else-contains_key : goal.returns-else-contains_key
returns-else-contains_key c =
    row-of-new (λ k. k.items) c.args.key.now c.self.inside.rows.entries c.args.self.now c.args.row_no c.self.view_is
    (sym c.contains_key.ensures ∙ c.if-contains_key.false)
