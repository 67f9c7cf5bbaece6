-- What the texts say of all records together.
use Rattle.std.specs.Prelude.{◌≡◌, ℕ, true, List, [], ◌∷◌, Some, is_some, length}
use Rattle.std.specs.List.{filter}
use Rattle.edit_model.specs.declared.field.Field.{Field}
use Rattle.back_subst.specs.declared.gift.Gift.{Gift}
use Rattle.edit_report.specs.Ends.{IsEnd, changed_fields, path_found}
use Rattle.edit_report.specs.Reasons.{reasons_of}
use Rattle.edit_report.specs.Released.{released_rows, released_of}
use Rattle.edit_report.specs.Summaries.{keeps_all, is_unresolved}
use Rattle.edit_report.specs.declared.end.RowEnd.{RowEnd}

-- there is one released row for each record that was given values
abbrev pub ReleasedCountLaw : Type 0
ReleasedCountLaw =
    (fields : List Field) (columns : List ℕ) (row_texts : List (List (List ℕ))) (ends : List RowEnd) → length row_texts ≡ length ends
    → length (released_rows fields columns row_texts ends) ≡ length (filter (λ end. is_some end.gift) ends)

-- a clean record is released as it was read, and the reasons file has no line of it
abbrev pub CleanLaw : Type 0
CleanLaw =
    (fields : List Field) (columns : List ℕ) (number : ℕ) (texts : List (List ℕ)) (end : RowEnd) → keeps_all end ≡ true
    → (released_of fields columns texts end ≡ texts ∷ []) × (reasons_of fields columns number texts end ≡ [])

-- a record that was given values has one line for each field that is changed
abbrev pub ChangedCountLaw : Type 0
ChangedCountLaw =
    (fields : List Field) (columns : List ℕ) (number : ℕ) (texts : List (List ℕ)) (end : RowEnd) (gift : Gift)
    → IsEnd fields end → end.gift ≡ Some gift
    → length (reasons_of fields columns number texts end) ≡ length (changed_fields fields (path_found end.proof.outcome))

-- a record that was given none is not released, and has one line
abbrev pub UnresolvedLaw : Type 0
UnresolvedLaw =
    (fields : List Field) (columns : List ℕ) (number : ℕ) (texts : List (List ℕ)) (end : RowEnd) → is_unresolved end ≡ true
    → (released_of fields columns texts end ≡ []) × (length (reasons_of fields columns number texts end) ≡ 1)
