use Rattle.edit_model.proofs.RowLaws.{row-length}
use Rattle.panel_files.proofs.JoinedLaws.{both-row, given-long}
use Rattle.panel_files.specs.LastFields.{last_fields, own_fields}
use Rattle.panel_files.proofs.rows.both_values.Goals as goal

pub joined_values-requires-clause-own : goal.joined_values-requires-clause-own
joined_values-requires-clause-own c =
    rw (c.values.ensures, c.fields.ensures.fields) (row-length (own_fields c.args.survey.now.fields c.args.set) c.args.own.now c.requires.own)

pub joined_values-requires-clause-last : goal.joined_values-requires-clause-last
joined_values-requires-clause-last c =
    rw c.fields.ensures.fields (given-long (λ row. row.now) (last_fields c.args.survey.now.fields c.args.set) c.args.last c.requires.last)

pub new-requires : goal.new-requires
new-requires c =
    rw (c.in_ok-values.ensures, c.values.ensures, c.fields.ensures.fields)
    (both-row (λ row. row.now) c.args.survey.now.fields c.args.set c.args.own.now c.args.last c.requires.own c.requires.last)

pub returns-clause-row : goal.returns-clause-row
returns-clause-row c = rw c.new.ensures (new-requires c.before)
