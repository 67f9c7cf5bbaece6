-- Which values the texts of rows stand for.
use Rattle.std.specs.Prelude.{◌≡◌, ℕ, List, [], ◌∷◌, Option, Some, None, position, slice_index_or}
use Rattle.std.specs.Str.{bytes_eq}
use Rattle.edit_model.specs.declared.field.Field.{Field}
use Rattle.edit_model.specs.declared.field.Kind.{Kind}
use Rattle.edit_model.specs.declared.field.Kind.TheVariants as kind
use Rattle.edit_model.specs.declared.value.Value.{Value}
use Rattle.edit_model.specs.declared.value.Value.TheVariants.{Code, Number, Bad}
use Rattle.fraction128.specs.declared.fraction.Fraction.{Fraction}
use Rattle.record_text.specs.Numerals.{IsNumeral}
use Rattle.record_text.specs.Trimming.{trimmed}

-- the number of the code that is the text, if one is
abbrev pub code_number : List (List ℕ) → List ℕ → Option ℕ
code_number codes text = position (λ code. bytes_eq code text) codes

-- what a field's text stands for, without blanks at its ends: the fraction that it spells, or the number of its code, and a
-- Bad value where it is no numeral or no code
abbrev pub IsValueText : Kind → List ℕ → Value → Type 0
IsValueText (kind.Number scale) text (Number x) = IsNumeral (trimmed text) x
IsValueText (kind.Number scale) text (Code c) = ⊥
IsValueText (kind.Number scale) text Bad = (x : Fraction) → ¬ IsNumeral (trimmed text) x
IsValueText (kind.Code codes) text (Number x) = ⊥
IsValueText (kind.Code codes) text (Code c) = code_number codes (trimmed text) ≡ Some c
IsValueText (kind.Code codes) text Bad = code_number codes (trimmed text) ≡ None

-- the value of each field, in declared order, from the row's text in the field's column
abbrev pub AreValues : List Field → List ℕ → List (List ℕ) → List Value → Type 0
AreValues [] [] raw [] = Unit {0}
AreValues (field ∷ fields) (column ∷ columns) raw (v ∷ values) =
    IsValueText field.kind (slice_index_or raw column []) v × AreValues fields columns raw values
AreValues _ _ raw _ = ⊥

-- the values of each row
abbrev pub AreRows : List Field → List ℕ → List (List (List ℕ)) → List (List Value) → Type 0
AreRows fields columns [] [] = Unit {0}
AreRows fields columns (raw ∷ row_texts) (row ∷ rows) = AreValues fields columns raw row × AreRows fields columns row_texts rows
AreRows fields columns _ _ = ⊥
