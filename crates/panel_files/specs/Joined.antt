-- The rows of two files as one, by their keys.
use Rattle.std.specs.Prelude.{ℕ, suc, Bool, true, false, if◌then◌else◌, List, [], ◌∷◌, Option, None, Some, map, slice_index_or}
use Rattle.std.specs.Str.{bytes_eq}
use Rattle.edit_model.specs.declared.field.Field.{Field}
use Rattle.edit_model.specs.declared.value.Value.{Value}
use Rattle.edit_model.specs.declared.value.Value.TheVariants.{Bad}
use Rattle.record_text.specs.Sheets.{SheetParts}
use Rattle.record_text.specs.Trimming.{trimmed}
use Rattle.panel_files.specs.LastFields.{flags_of, last_fields}

-- the records and the rows of the last period as they were read, and the column of the key in both
pub record PanelFiles : Type 0 where
  pub own : SheetParts
  pub last : SheetParts
  pub own_key : ℕ
  pub last_key : ℕ

-- these records and rows of the last period, with these columns of the key
abbrev pub files_by_key : SheetParts → ℕ → SheetParts → ℕ → PanelFiles
files_by_key own own_key last last_key = record { own = own; last = last; own_key = own_key; last_key = last_key }

-- ---- rows by their keys

-- the key of a row: its text in this column, without blanks at its ends
abbrev pub key_of : ℕ → List (List ℕ) → List ℕ
key_of column texts = trimmed (slice_index_or texts column [])

-- the numbers of the rows, from number i on, that have this key
abbrev pub rows_from : ℕ → ℕ → List ℕ → List (List (List ℕ)) → List ℕ
rows_from i column key [] = []
rows_from i column key (texts ∷ row_texts) =
    if bytes_eq (key_of column texts) key then i ∷ rows_from (suc i) column key row_texts else rows_from (suc i) column key row_texts

-- the one number of a list
abbrev pub only : List ℕ → Option ℕ
only (i ∷ []) = Some i
only _ = None

-- the one row that has this key; none where no row has it, or several have
abbrev pub row_with_key : ℕ → List ℕ → List (List (List ℕ)) → Option ℕ
row_with_key column key row_texts = only (rows_from 0 column key row_texts)

-- the row of the last period for a record with these texts: the one that has its key; none where no row has it, or several have
abbrev pub last_row : PanelFiles → List (List ℕ) → Option ℕ
last_row files texts = row_with_key files.last_key (key_of files.own_key texts) files.last.row_texts

-- the rows of the last period for all records, in order
abbrev pub last_rows : PanelFiles → List (Option ℕ)
last_rows files = map (last_row files) files.own.row_texts

-- ---- what is joined

-- both lists as one: the next of the last ones where the flag is set, and the next of the own ones where it is not
abbrev pub joined : {A : Type 0} → List Bool → List A → List A → List A
joined (true ∷ flags) own (x ∷ last) = x ∷ joined flags own last
joined (false ∷ flags) (x ∷ own) last = x ∷ joined flags own last
joined _ _ _ = []

-- the values of the last fields: those of the row of this number, and Bad ones where there is none
abbrev pub last_values : List Field → List (List Value) → Option ℕ → List Value
last_values fields rows None = map (λ field. Bad) fields
last_values fields rows (Some j) = slice_index_or rows j []

-- the values of a record at all fields, where those of the set are the last fields: its own and those of the last period
abbrev pub both_values : List Field → ℕ → PanelFiles → List (List ℕ) → List Value → List Value
both_values fields set files texts own =
    joined (flags_of set fields) own (last_values (last_fields fields set) files.last.rows (last_row files texts))

-- the same of records with these texts, in order
abbrev pub both_rows_of : List Field → ℕ → PanelFiles → List (List (List ℕ)) → List (List Value) → List (List Value)
both_rows_of fields set files (texts ∷ row_texts) (own ∷ rows) =
    both_values fields set files texts own ∷ both_rows_of fields set files row_texts rows
both_rows_of fields set files _ _ = []

-- the values of all records, in order
abbrev pub both_rows : List Field → ℕ → PanelFiles → List (List Value)
both_rows fields set files = both_rows_of fields set files files.own.row_texts files.own.rows

-- the column of each field in the rows of the records. One past the last column is said of the last fields, which stand in none
abbrev pub both_columns : List Field → ℕ → List ℕ → ℕ → List ℕ
both_columns fields set columns past = joined (flags_of set fields) columns (map (λ field. past) (last_fields fields set))
