-- Which values the rows of a released file have. A new number is written as it is printed, which may be longer than a numeral of a record
-- file is.
use Rattle.std.specs.Prelude.{◌≡◌, ◌≢◌, ℕ, List, [], length, slice_index_or}
use Rattle.std.specs.List.{AllZip, range_with_len}
use Rattle.fraction128.specs.Spelling.{spelling}
use Rattle.fraction128.specs.declared.fraction.Fraction.{Fraction}
use Rattle.edit_model.specs.declared.field.Kind.{Kind}
use Rattle.edit_model.specs.declared.field.Kind.TheVariants as kind
use Rattle.edit_model.specs.declared.value.Value.{Value}
use Rattle.edit_model.specs.declared.value.Value.TheVariants.{Bad, Code, Number}
use Rattle.record_text.specs.Sheets.{SheetParts, text_at}
use Rattle.page_counts.specs.Columns.{value_at}

-- the bytes of a field in the row of this number
abbrev pub text_in : SheetParts → ℕ → ℕ → List ℕ
text_in sheet f number = text_at sheet.columns (slice_index_or sheet.row_texts number []) f

-- the number whose printed spelling the text is, and Bad where it is that of no number
abbrev pub IsPrinted : List ℕ → Value → Type 0
IsPrinted text (Number x) = spelling x ≡ text
IsPrinted text (Code c) = ⊥
IsPrinted text Bad = (x : Fraction) → spelling x ≢ text

-- the value of a released text that a record file reads as `read`: what is read; but of a numerical field without a value the number that
-- is printed so
abbrev pub IsReleasedAs : Kind → List ℕ → Value → Value → Type 0
IsReleasedAs (kind.Number scale) text Bad v = IsPrinted text v
IsReleasedAs k text read v = v ≡ read

-- the value of a field in the released row of this number, and no other is
pub record IsReleasedValue (released : SheetParts) (k : Kind) (f number : ℕ) (v : Value) : Type 0 where
  pub is : IsReleasedAs k (text_in released f number) (value_at released.rows f number) v
  pub only : (other : Value) → IsReleasedAs k (text_in released f number) (value_at released.rows f number) other → other ≡ v

-- the values of a field in all released rows
abbrev pub AreReleasedValues : SheetParts → Kind → ℕ → List Value → Type 0
AreReleasedValues released k f values = AllZip (IsReleasedValue released k f) (range_with_len 0 (length released.rows)) values
