use Rattle.std.proofs.Common.{ℕ, ◌<◌, List, [], All, length}
use Rattle.std.specs.List.{AllByRecursion}
use Rattle.std.proofs.lemmas.List.Elements.{All-from_recursion}
use Rattle.edit_model.specs.CleanRecords.{is_clean}
use Rattle.edit_model.specs.Parts.{SurveyParts}
use Rattle.edit_model.specs.Rows.{IsRow}
use Rattle.edit_model.specs.declared.field.Field.{Field}
use Rattle.edit_model.specs.declared.value.Value.{Value}
use Rattle.donor_search.specs.CleanRows.{IsCleanRow, donors_of, row_at}
use Rattle.donor_search.proofs.PlaceLaws.{each-passing}

-- The clean rows of a sheet.

pub is_row_at : (fields : List Field) (rows : List (List Value)) (i : ℕ) → AllByRecursion (IsRow fields) rows → i < length rows → IsRow fields (row_at rows i)
is_row_at fields rows i are below = All-from_recursion (IsRow fields) rows are i [] below

-- each donor is the number of a clean row
pub donors_clean : (survey : SurveyParts) (rows : List (List Value)) → All (IsCleanRow survey rows) (donors_of survey rows)
donors_clean survey rows = each-passing (is_clean survey) (IsCleanRow survey rows) rows [] (λ k below clean. (below, clean))
