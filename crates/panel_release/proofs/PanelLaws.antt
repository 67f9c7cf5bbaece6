-- What is known of a panel whose files were read.
use Rattle.std.proofs.Common.{◌≡◌, ◌<◌, ◌∙◌, All, ℕ, List, [], ap, arith, get_or, length}
use Rattle.std.proofs.lemmas.List.{get_or_default}
use Rattle.edit_model.specs.declared.field.Field.{Field}
use Rattle.record_text.specs.Sheets.{IsSheet, SheetParts}
use Rattle.edit_report.proofs.SheetLaws.{raw-long}

module _ (fields : List Field) (bytes : List ℕ) (sheet : SheetParts) (is : IsSheet fields bytes sheet) where
  -- each row has a text in each column
  pub texts-within : (column : ℕ) → column < length sheet.header → All (λ (texts : List (List ℕ)). column < length texts) sheet.row_texts
  texts-within column below k d within =
      let long : length (get_or sheet.row_texts k d) ≡ length sheet.header =
      ap (λ (texts : List (List ℕ)). length texts) (get_or_default sheet.row_texts k d [] within)
      ∙ raw-long fields bytes sheet k is within in
      omega (arith, long, below)
