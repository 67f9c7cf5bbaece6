-- Where the fields of a sheet stand, and how long its rows are.
use Rattle.std.proofs.Common.{◌≡◌, ℕ, ◌<◌, List, [], get_or, length, sym, ap, ◌∙◌, subst}
use Rattle.std.specs.List.{AllByRecursion}
use Rattle.std.proofs.lemmas.List.{get_or_default}
use Rattle.edit_model.specs.declared.field.Field.{Field}
use Rattle.record_text.specs.Sheets.{SheetParts, IsSheet}
use Rattle.record_text.proofs.ColumnLaws.{one_column_each}
use Rattle.record_text.proofs.FaultLaws.{faultless_parts, rows_equally_long}
use Rattle.record_text.proofs.HeaderLaws.{header_length}
use Rattle.edit_report.specs.Layouts.{IsLayout, LayoutParts}
use Rattle.edit_report.proofs.WrittenLaws.{each-at}

-- where a sheet's fields stand
pub sheet-layout : (fields : List Field) (bytes : List ℕ) (sheet : SheetParts) (layout : LayoutParts) → IsSheet fields bytes sheet → layout.width
    ≡ length sheet.header → layout.columns ≡ sheet.columns → IsLayout fields layout
sheet-layout fields bytes sheet layout is width columns =
    record { one_each = ap length columns ∙ one_column_each fields sheet.header sheet.columns is.columns }

-- the rows of a sheet are as long as its header
pub raw-long : (fields : List Field) (bytes : List ℕ) (sheet : SheetParts) (i : ℕ) → IsSheet fields bytes sheet → i < length sheet.row_texts
    → length (get_or sheet.row_texts i []) ≡ length sheet.header
raw-long fields bytes sheet i is below =
    let long = subst (λ (n : ℕ). AllByRecursion (λ (raw : List (List ℕ)). length raw ≡ n) sheet.row_texts) (sym (ap length is.header ∙ header_length is.first))
    (rows_equally_long 0 (length is.first) sheet.row_texts (faultless_parts fields is.first sheet.row_texts is.faultless).2) in
    each-at (λ (raw : List (List ℕ)). length raw ≡ length sheet.header) sheet.row_texts i (get_or sheet.row_texts i []) long below
    (get_or_default sheet.row_texts i [] _ below)
