-- What a released row gives of the record that was read.
use Rattle.std.specs.Prelude.{◌≡◌, ℕ, suc, ◌==◌, ◌&&◌, ◌||◌, Bool, true, false, List, [], ◌∷◌, Some, ◌*ℤ◌}
use Rattle.std.specs.Ordering.{int_eq}
use Rattle.std.specs.Str.{bytes_eq}
use Rattle.fraction128.specs.Spelling.{spelling}
use Rattle.edit_model.specs.CleanRecords.{is_clean}
use Rattle.edit_model.specs.Parts.{SurveyParts}
use Rattle.edit_model.specs.declared.field.Field.{Field}
use Rattle.edit_model.specs.declared.field.Kind.{Kind}
use Rattle.edit_model.specs.declared.field.Kind.TheVariants as kind
use Rattle.edit_model.specs.declared.value.Value.{Value}
use Rattle.edit_model.specs.declared.value.Value.TheVariants.{Code, Number}
use Rattle.record_text.specs.Sheets.{text_at}
use Rattle.record_text.specs.Values.{code_number}

-- ---- values

-- the text of a value that was given: the canonical spelling of a fraction, or the bytes of a code
abbrev pub IsGivenText : Kind → List ℕ → Value → Type 0
IsGivenText (kind.Number scale) text (Number x) = text ≡ spelling x
IsGivenText (kind.Code codes) text (Code c) = code_number codes text ≡ Some c
IsGivenText k text v = ⊥

-- whether two values are the same code, or the same number
abbrev pub is_same : Value → Value → Bool
is_same (Code a) (Code b) = a == b
is_same (Number x) (Number y) = int_eq (x.numerator *ℤ y.denominator) (y.numerator *ℤ x.denominator)
is_same a b = false

-- the value of a field: where it is kept the one that was read, and else another one, by its text
abbrev pub IsValueOf : Bool → Kind → List ℕ → Value → Value → Type 0
IsValueOf false k text read v = v ≡ read
IsValueOf true k text read v = IsGivenText k text v × (is_same v read ≡ false)

-- the values of the fields from number i on: each is the one that was read, or another one, by its text
abbrev pub AreValuesFrom : (ℕ → Bool) → (ℕ → List ℕ) → ℕ → List Field → List Value → List Value → Type 0
AreValuesFrom changed text i [] [] [] = Unit {0}
AreValuesFrom changed text i (field ∷ fields) (read ∷ row) (v ∷ new) =
    IsValueOf (changed i) field.kind (text i) read v × AreValuesFrom changed text (suc i) fields row new
AreValuesFrom changed text i _ _ _ = ⊥

-- ---- texts

-- whether a changed field, of those from number i on, stands in the column j
abbrev pub stands_changed : (ℕ → Bool) → ℕ → List ℕ → ℕ → Bool
stands_changed changed i [] j = false
stands_changed changed i (column ∷ columns) j = (changed i && (column == j)) || stands_changed changed (suc i) columns j

-- whether the text of column j may be this one, where the other was read: it is the same, or that of a changed field
abbrev pub may_be_released : (ℕ → Bool) → List ℕ → ℕ → List ℕ → List ℕ → Bool
may_be_released changed columns j read text = bytes_eq text read || stands_changed changed 0 columns j

-- whether each text, from column j on, may be released where the other was read
abbrev pub same_from : (ℕ → Bool) → List ℕ → ℕ → List (List ℕ) → List (List ℕ) → Bool
same_from changed columns j [] [] = true
same_from changed columns j (read ∷ reads) (text ∷ texts) =
    may_be_released changed columns j read text && same_from changed columns (suc j) reads texts
same_from changed columns j _ _ = false

-- ---- a row

-- the texts of a row are released for a record of which some fields are changed: these are its values, the fields that are kept
-- have the bytes that were read, and so has each other column; with these values the record is clean
pub record IsReleasedAs (survey : SurveyParts) (columns : List ℕ) (changed : ℕ → Bool)
    (reads : List (List ℕ)) (row : List Value) (texts : List (List ℕ)) (new : List Value) : Type 0 where
  pub values : AreValuesFrom changed (text_at columns texts) 0 survey.fields row new
  pub elsewhere : same_from changed columns 0 reads texts ≡ true
  pub clean : is_clean survey new ≡ true
