use Rattle.std.proofs.Common.{arith}
use Rattle.edit_model.proofs.RowLaws.{field-within, row-length, row-set}
use Rattle.edit_model.specs.Rows.{IsRow}
use Rattle.edit_model.proofs.row.Row.set.Goals as goal

pub index_mut-requires : goal.index_mut-requires
index_mut-requires c =
    let are : IsRow c.args.survey.now.fields c.self.inside.values.items = rw c.self.view_is c.requires.row in
    omega (arith, field-within c.args.survey.now.fields c.args.field _ c.requires.kind, row-length c.args.survey.now.fields c.self.inside.values.items are)

pub returns-clause-row : goal.returns-clause-row
returns-clause-row c = row-set c.args.survey.now.fields c.self.inside.values.items c.args.field c.args.value (rw c.self.view_is c.requires.row) c.requires.kind
