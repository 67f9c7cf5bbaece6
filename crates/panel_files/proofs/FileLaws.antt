-- What a file as it was read gives to those who join its rows.
use Rattle.std.proofs.Common.{◌≡◌, ◌<◌, ℕ, All, List, [], ◌∷◌, get_or, length, arith}
use Rattle.std.proofs.lemmas.List.Elements.{All-from_recursion, All-weaker}
use Rattle.edit_model.specs.Rows.{IsRow}
use Rattle.edit_model.specs.declared.field.Field.{Field}
use Rattle.record_text.proofs.ColumnLaws.{column_is}
use Rattle.record_text.proofs.SheetLaws.{row_texts_as_long_as_header, rows_are_records}
use Rattle.record_text.specs.Columns.{columns_of}
use Rattle.record_text.specs.Sheets.{IsSheet, SheetParts}

module _ (fields : List Field) (bytes : List ℕ) (sheet : SheetParts) (is : IsSheet fields bytes sheet) where
  -- the one column of a key is within each row
  pub key-within : (key : List ℕ) (column : ℕ) → columns_of key sheet.header ≡ column ∷ [] → All (λ texts. column < length texts) sheet.row_texts
  key-within key column one =
      let below = (column_is sheet.header key column one).0 in
      All-weaker (λ (texts : List (List ℕ)). length texts ≡ length sheet.header) (λ (texts : List (List ℕ)). column < length texts)
      (λ texts long. omega (arith, below, long)) sheet.row_texts
      (All-from_recursion (λ (texts : List (List ℕ)). length texts ≡ length sheet.header) sheet.row_texts (row_texts_as_long_as_header fields bytes sheet is))

  -- the row of a number is a record
  pub row-is : (n : ℕ) → n < length sheet.rows → IsRow fields (get_or sheet.rows n [])
  row-is n below = All-from_recursion (IsRow fields) sheet.rows (rows_are_records fields bytes sheet is) n [] below
