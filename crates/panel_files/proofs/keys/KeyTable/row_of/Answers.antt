use Rattle.std.proofs.Common.{None, Some, ap, sym, ◌∙◌}
use Rattle.std.specs.Option.{option_copied}
use Rattle.panel_files.proofs.KeyLaws.{row-told}
use Rattle.panel_files.proofs.keys.KeyTable.row_of.Goals as goal

pub returns-in-Some : goal.returns-in-Some
returns-in-Some c =
    row-told (λ k. k.items) c.args.key.now c.self.inside.rows.entries c.args.self.now (Some c.in-Some.row.now) c.self.view_is
    (ap option_copied (sym c.in-Some.is) ∙ c.get.ensures.value)

pub returns-in-None : goal.returns-in-None
returns-in-None c =
    row-told (λ k. k.items) c.args.key.now c.self.inside.rows.entries c.args.self.now None c.self.view_is
    (ap option_copied (sym c.in-None.is) ∙ c.get.ensures.value)
