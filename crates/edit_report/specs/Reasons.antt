-- The reasons file.
use Rattle.std.specs.Prelude.{ℕ, suc, List, [], ◌∷◌, ◌++◌, Option, Some, None, codes, decimal, map, slice_index_or}
use Rattle.edit_line.specs.declared.place.Place.{Place}
use Rattle.edit_line.specs.declared.place.Place.TheVariants as place
use Rattle.edit_model.specs.Parts.{SurveyParts}
use Rattle.edit_model.specs.declared.field.Field.{Field}
use Rattle.edit_model.specs.declared.value.Value.{Value}
use Rattle.bound_cert.specs.Paths.{named, path_text}
use Rattle.bound_cert.specs.declared.outcome.Event.{Event}
use Rattle.bound_cert.specs.declared.outcome.Event.TheVariants.{Step, Test}
use Rattle.bound_cert.specs.declared.outcome.GiftFault.{GiftFault}
use Rattle.bound_cert.specs.declared.outcome.GiftFault.TheVariants as gift_fault
use Rattle.bound_cert.specs.declared.outcome.Outcome.{Outcome}
use Rattle.bound_cert.specs.declared.outcome.Outcome.TheVariants.{Budget, Change, Contradictory, Overflow}
use Rattle.bound_cert.specs.declared.outcome.RowProof.{RowProof}
use Rattle.back_subst.specs.declared.gift.Gift.{Gift}
use Rattle.back_subst.specs.declared.gift.How.{How}
use Rattle.back_subst.specs.declared.gift.How.TheVariants.{Default, Donor, Nearest}
use Rattle.record_text.specs.Sheets.{SheetParts, text_at}
use Rattle.record_text.specs.Texts.{records_text}
use Rattle.edit_report.specs.Ends.{changed_fields, path_found}
use Rattle.edit_report.specs.Released.{given_text}
use Rattle.edit_report.specs.declared.end.RowEnd.{RowEnd}

-- ---- parts of a line

-- the field's name
abbrev pub name_of : List Field → ℕ → List ℕ
name_of fields f = slice_index_or (map (λ (field : Field). field.name) fields) f []

-- the name of a place among the numbers of a line: that of its field, or of the constant
abbrev pub place_text : List Field → Place → List ℕ
place_text fields (place.Field f) = name_of fields f
place_text fields place.Constant = codes "constant"

-- the word for how a value was found
abbrev pub how_text : How → List ℕ
how_text Donor = codes "donor"
how_text Default = codes "default"
how_text Nearest = codes "nearest"

-- the donor's number, nothing where there is none
abbrev pub donor_text : Option ℕ → List ℕ
donor_text None = []
donor_text (Some donor) = named donor

-- ---- why a record is not released

-- the word for the cause
abbrev pub cause_text : Outcome → List ℕ
cause_text (Change path weight cert) = codes "overflow"
cause_text (Budget path work) = codes "budget"
cause_text (Overflow path event) = codes "overflow"
cause_text (Contradictory cert) = codes "contradictory"

-- the lines at which a number left the range in the search, and the field there
abbrev pub event_text : List Field → Event → List ℕ
event_text fields (Step first second at) =
    codes " lines " ++ (named first ++ (codes " " ++ (named second ++ (codes " at " ++ place_text fields at))))
event_text fields (Test line field) = codes " line " ++ (named line ++ (codes " at " ++ name_of fields field))

-- where a number left the range when values were given
abbrev pub giving_text : List Field → Option GiftFault → List ℕ
giving_text fields None = []
giving_text fields (Some (gift_fault.Bound field line)) = codes "giving " ++ (name_of fields field ++ (codes " line " ++ named line))
giving_text fields (Some (gift_fault.Test rule)) = codes "giving rule " ++ named rule

-- where the search or the giving of values ended
abbrev pub detail_text : List Field → Outcome → Option GiftFault → List ℕ
detail_text fields (Change path weight cert) fault = giving_text fields fault
detail_text fields (Budget path work) fault = codes "path " ++ (path_text path ++ (codes " work " ++ decimal work))
detail_text fields (Overflow path event) fault = codes "path " ++ (path_text path ++ event_text fields event)
detail_text fields (Contradictory cert) fault = []

-- ---- the lines of a record

-- the line of a record that is not released: its number, the cause, and the detail
abbrev pub cause_line : ℕ → List ℕ → List ℕ → List (List ℕ)
cause_line number cause detail = named number ∷ cause ∷ [] ∷ [] ∷ [] ∷ [] ∷ detail ∷ []

-- the line of a record that is not released, by what was found of it
abbrev pub unresolved_line : List Field → ℕ → RowProof → List (List ℕ)
unresolved_line fields number found = cause_line number (cause_text found.outcome) (detail_text fields found.outcome found.gift)

-- the texts of the line of a changed field: the record's number, the field's name, the text that was read, that of the new
-- value, the donor's number, and how the value was found
abbrev pub line_texts : List ℕ → List ℕ → List ℕ → List ℕ → List ℕ → List ℕ → List (List ℕ)
line_texts number name before after donor how = number ∷ codes "changed" ∷ name ∷ before ∷ after ∷ donor ∷ how ∷ []

-- the line of a changed field
abbrev pub changed_line : List Field → List ℕ → ℕ → List (List ℕ) → Option ℕ → List Value → ℕ → How → List (List ℕ)
changed_line fields columns number texts donor new f how =
    line_texts (named number) (name_of fields f) (text_at columns texts f) (given_text fields new f) (donor_text donor)
    (how_text how)

-- the lines of the changed fields, each with how its value was found
abbrev pub changed_lines : List Field → List ℕ → ℕ → List (List ℕ) → Option ℕ → List Value → List ℕ → List How → List (List (List ℕ))
changed_lines fields columns number texts donor new (f ∷ changed) (how ∷ hows) =
    changed_line fields columns number texts donor new f how
    ∷ changed_lines fields columns number texts donor new changed hows
changed_lines fields columns number texts donor new _ _ = []

-- the lines of a record, by whether it was given values
abbrev pub lines_with : List Field → List ℕ → ℕ → List (List ℕ) → RowProof → Option ℕ → Option Gift → List (List (List ℕ))
lines_with fields columns number texts found donor None = unresolved_line fields number found ∷ []
lines_with fields columns number texts found donor (Some gift) =
    changed_lines fields columns number texts donor gift.row (changed_fields fields (path_found found.outcome)) gift.how

-- the lines of a record: one for each field that is changed, in path order, and one for a record that is not released
abbrev pub reasons_of : List Field → List ℕ → ℕ → List (List ℕ) → RowEnd → List (List (List ℕ))
reasons_of fields columns number texts end = lines_with fields columns number texts end.proof end.donor end.gift

-- ---- the file

-- the names of the columns
abbrev pub reasons_header : List (List ℕ)
reasons_header = codes "record" ∷ codes "cause" ∷ codes "field" ∷ codes "before" ∷ codes "after" ∷ codes "donor" ∷ codes "detail" ∷ []

-- the lines of the records from this number on, in order
abbrev pub reasons_from : List Field → List ℕ → ℕ → List (List (List ℕ)) → List RowEnd → List (List (List ℕ))
reasons_from fields columns number (texts ∷ row_texts) (end ∷ ends) =
    reasons_of fields columns number texts end ++ reasons_from fields columns (suc number) row_texts ends
reasons_from fields columns number _ _ = []

-- the reasons file: the header and the lines of all records, as csv writes them
abbrev pub reasons_text_of : SurveyParts → SheetParts → List RowEnd → List ℕ
reasons_text_of survey sheet ends = records_text (reasons_header ∷ reasons_from survey.fields sheet.columns 0 sheet.row_texts ends)
