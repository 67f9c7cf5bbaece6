use Rattle.std.proofs.Common.{◌≡◌, refl, ℕ, zero, suc, ◌<◌, List, [], ◌∷◌, ◌++◌, length, take, get_or, arith}
use Rattle.std.proofs.lemmas.List.Quantifiers.{position-Some}
use Rattle.std.specs.List.{AllByRecursion}
use Rattle.std.specs.Str.{bytes_eq}
use Rattle.edit_model.specs.Rows.{IsOfKind, IsRow}
use Rattle.edit_model.specs.declared.field.Field.{Field}
use Rattle.edit_model.specs.declared.field.Kind.{Kind}
use Rattle.edit_model.specs.declared.field.Kind.TheVariants as kind
use Rattle.edit_model.specs.declared.value.Value.{Value}
use Rattle.edit_model.specs.declared.value.Value.TheVariants.{Code, Number, Bad}
use Rattle.record_text.specs.Trimming.{trimmed}
use Rattle.record_text.specs.Values.{AreRows, AreValues, IsValueText}

-- ---- one row

-- the value of one field more
pub values_more : (fields : List Field) (columns : List ℕ) (raw : List (List ℕ)) (values : List Value) (i : ℕ) (field : Field) (v : Value) → i < length fields
    → length columns ≡ length fields
    → field ≡ get_or fields i field → AreValues (take i fields) (take i columns) raw values → IsValueText field.kind (get_or raw (get_or columns i 0) []) v
    → AreValues (take (suc i) fields) (take (suc i) columns) raw (values ++ v ∷ [])
values_more [] columns raw values i field v lt same e h value = absurd (omega arith)
values_more (f ∷ fields) [] raw values i field v lt same e h value = absurd (omega arith)
values_more (f ∷ fields) (c ∷ columns) raw [] zero field v lt same e h value = (rw e at value, tt)
values_more (f ∷ fields) (c ∷ columns) raw (w ∷ values) zero field v lt same e h value = absurd h
values_more (f ∷ fields) (c ∷ columns) raw [] (suc i) field v lt same e h value = absurd h
values_more (f ∷ fields) (c ∷ columns) raw (w ∷ values) (suc i) field v lt same e h value =
    (h.0, values_more fields columns raw values i field v (omega arith) (omega arith) e h.1 value)

-- the value of a text is of the field's kind, or Bad
value_is_of_kind : (k : Kind) (text : List ℕ) (v : Value) → IsValueText k text v → IsOfKind k v
value_is_of_kind (kind.Number scale) text (Number x) is = tt
value_is_of_kind (kind.Number scale) text (Code c) is = absurd is
value_is_of_kind (kind.Number scale) text Bad is = tt
value_is_of_kind (kind.Code codes) text (Number x) is = absurd is
value_is_of_kind (kind.Code codes) text (Code c) is = (position-Some (λ code. bytes_eq code (trimmed text)) codes c [] is).0
value_is_of_kind (kind.Code codes) text Bad is = tt

-- the values of a row's texts are a record of the survey
pub values_are_row : (fields : List Field) (columns : List ℕ) (raw : List (List ℕ)) (values : List Value) → AreValues fields columns raw values
    → IsRow fields values
values_are_row [] [] raw [] h = tt
values_are_row [] [] raw (v ∷ values) h = absurd h
values_are_row [] (c ∷ columns) raw values h = absurd h
values_are_row (f ∷ fields) [] raw values h = absurd h
values_are_row (f ∷ fields) (c ∷ columns) raw [] h = absurd h
values_are_row (f ∷ fields) (c ∷ columns) raw (v ∷ values) h = (value_is_of_kind f.kind (get_or raw c []) v h.0, values_are_row fields columns raw values h.1)

-- ---- all rows

-- a row more
pub rows_more : (fields : List Field) (columns : List ℕ) (row_texts : List (List (List ℕ))) (rows : List (List Value)) (raw : List (List ℕ))
    (values : List Value)
    → AreRows fields columns row_texts rows → AreValues fields columns raw values → AreRows fields columns (row_texts ++ raw ∷ []) (rows ++ values ∷ [])
rows_more fields columns [] [] raw values h row = (row, tt)
rows_more fields columns [] (w ∷ rows) raw values h row = absurd h
rows_more fields columns (r ∷ row_texts) [] raw values h row = absurd h
rows_more fields columns (r ∷ row_texts) (w ∷ rows) raw values h row = (h.0, rows_more fields columns row_texts rows raw values h.1 row)

-- there are as many texts as values
pub rows_length : (fields : List Field) (columns : List ℕ) (row_texts : List (List (List ℕ))) (rows : List (List Value)) → AreRows fields columns row_texts rows
    → length row_texts ≡ length rows
rows_length fields columns [] [] h = refl
rows_length fields columns [] (w ∷ rows) h = absurd h
rows_length fields columns (r ∷ row_texts) [] h = absurd h
rows_length fields columns (r ∷ row_texts) (w ∷ rows) h = omega (arith, rows_length fields columns row_texts rows h.1)

-- the texts and the values of the row of a number belong together
pub values_at : (fields : List Field) (columns : List ℕ) (row_texts : List (List (List ℕ))) (rows : List (List Value)) (i : ℕ)
    → AreRows fields columns row_texts rows → i < length rows
    → AreValues fields columns (get_or row_texts i []) (get_or rows i [])
values_at fields columns [] [] i h lt = absurd (omega arith)
values_at fields columns [] (row ∷ rows) i h lt = absurd h
values_at fields columns (raw ∷ row_texts) [] i h lt = absurd h
values_at fields columns (raw ∷ row_texts) (row ∷ rows) zero h lt = h.0
values_at fields columns (raw ∷ row_texts) (row ∷ rows) (suc i) h lt = values_at fields columns row_texts rows i h.1 (omega arith)

-- each row is a record of the survey
pub all_are_rows : (fields : List Field) (columns : List ℕ) (row_texts : List (List (List ℕ))) (rows : List (List Value))
    → AreRows fields columns row_texts rows → AllByRecursion (IsRow fields) rows
all_are_rows fields columns [] [] h = tt
all_are_rows fields columns [] (row ∷ rows) h = absurd h
all_are_rows fields columns (raw ∷ row_texts) [] h = absurd h
all_are_rows fields columns (raw ∷ row_texts) (row ∷ rows) h = (values_are_row fields columns raw row h.0, all_are_rows fields columns row_texts rows h.1)
