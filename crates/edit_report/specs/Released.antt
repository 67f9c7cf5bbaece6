-- The released file.
use Rattle.std.specs.Prelude.{ℕ, suc, if◌then◌else◌, Bool, List, [], ◌∷◌, ◌++◌, Option, Some, None, slice_get, slice_index_or}
use Rattle.fraction128.specs.Spelling.{spelling}
use Rattle.edit_model.specs.Parts.{SurveyParts}
use Rattle.edit_model.specs.Rows.{value_of}
use Rattle.edit_model.specs.declared.field.Field.{Field}
use Rattle.edit_model.specs.declared.field.Kind.{Kind}
use Rattle.edit_model.specs.declared.field.Kind.TheVariants as kind
use Rattle.edit_model.specs.declared.value.Value.{Value}
use Rattle.edit_model.specs.declared.value.Value.TheVariants.{Code, Number}
use Rattle.bound_cert.specs.Paths.{changes}
use Rattle.back_subst.specs.declared.gift.Gift.{Gift}
use Rattle.record_text.specs.Sheets.{SheetParts}
use Rattle.record_text.specs.Texts.{records_text}
use Rattle.edit_report.specs.Ends.{path_found}
use Rattle.edit_report.specs.Layouts.{field_in}
use Rattle.edit_report.specs.declared.end.RowEnd.{RowEnd}

-- the text of a value: a number's canonical spelling, a code's own bytes
abbrev pub value_text : Kind → Value → List ℕ
value_text k (Number x) = spelling x
value_text (kind.Code codes) (Code c) = slice_index_or codes c []
value_text k v = []

-- the text of a value at a field, if there is one
abbrev pub text_by : Option Field → Value → List ℕ
text_by None v = []
text_by (Some field) v = value_text field.kind v

-- the text of a record's value at the field of this number
abbrev pub given_text : List Field → List Value → ℕ → List ℕ
given_text fields row f = text_by (slice_get fields f) (value_of row f)

-- the text of a column afterwards: that of the new value, where the field that stands there is changed, and else the one
-- that was read
abbrev pub column_text : List Field → (ℕ → Bool) → List Value → Option ℕ → List ℕ → List ℕ
column_text fields changed new None read = read
column_text fields changed new (Some f) read = if changed f then given_text fields new f else read

-- the texts of the columns from number j on
abbrev pub texts_from : List Field → List ℕ → (ℕ → Bool) → List Value → ℕ → List (List ℕ) → List (List ℕ)
texts_from fields columns changed new j [] = []
texts_from fields columns changed new j (text ∷ texts) =
    column_text fields changed new (field_in columns j) text ∷ texts_from fields columns changed new (suc j) texts

-- a released row, column by column
abbrev pub released_texts : List Field → List ℕ → List Bool → List Value → List (List ℕ) → List (List ℕ)
released_texts fields columns path new texts = texts_from fields columns (changes fields path) new 0 texts

-- the row of a record that was given values, none of another
abbrev pub row_with : List Field → List ℕ → List (List ℕ) → List Bool → Option Gift → List (List (List ℕ))
row_with fields columns texts path None = []
row_with fields columns texts path (Some gift) = released_texts fields columns path gift.row texts ∷ []

-- what is released of a record
abbrev pub released_of : List Field → List ℕ → List (List ℕ) → RowEnd → List (List (List ℕ))
released_of fields columns texts end = row_with fields columns texts (path_found end.proof.outcome) end.gift

-- the released rows, in order: one for each record that was given values
abbrev pub released_rows : List Field → List ℕ → List (List (List ℕ)) → List RowEnd → List (List (List ℕ))
released_rows fields columns (texts ∷ row_texts) (end ∷ ends) =
    released_of fields columns texts end ++ released_rows fields columns row_texts ends
released_rows fields columns _ _ = []

-- the released file: the header and the released rows, as csv writes them
abbrev pub released_text_of : SurveyParts → SheetParts → List RowEnd → List ℕ
released_text_of survey sheet ends = records_text (sheet.header ∷ released_rows survey.fields sheet.columns sheet.row_texts ends)
