use Rattle.std.proofs.Common.{◌<◌, List, length, subst, sym, arith}
use Rattle.edit_model.specs.declared.value.Value.{Value}
use Rattle.edit_model.proofs.RowLaws.{row-length}
use Rattle.donor_search.specs.CleanRows.{row_at}
use Rattle.donor_search.proofs.CleanLaws.{is_row_at}
use Rattle.donor_search.proofs.index.slot.Goals as goal

pub value-requires : goal.value-requires
value-requires c =
    let fields = c.args.survey.now.fields in
    let rows = c.args.sheet.now.rows in
    let donor = c.args.donor in
    let l = row-length fields (row_at rows donor) (is_row_at fields rows donor c.requires.rows c.requires.donor) in
    subst (λ (r : List Value). c.args.field < length r) (sym c.row.ensures) (omega (arith, l, c.requires.field))
