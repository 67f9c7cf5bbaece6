-- A panel whose files were read.
use Rattle.std.specs.Prelude.{◌<◌, ℕ, List, Option, [], length, slice_index_or}
use Rattle.edit_model.specs.declared.value.Value.{Value}
use Rattle.record_text.specs.Sheets.{IsSheet}
use Rattle.panel_files.specs.Joined.{both_rows, both_values, last_row}
use Rattle.panel_files.specs.LastFields.{AreLastFields, last_fields, own_fields}
use Rattle.panel_release.specs.PanelReleases.{PanelCase}

-- the set has the last fields, the files are those of the other fields and of these, and both have a column of keys
pub record IsRead (panel : PanelCase) : Type 0 where
  pub set : AreLastFields panel.survey.fields panel.set
  pub own : (bytes : List ℕ) × IsSheet (own_fields panel.survey.fields panel.set) bytes panel.files.own
  pub last : (bytes : List ℕ) × IsSheet (last_fields panel.survey.fields panel.set) bytes panel.files.last
  pub own_key : panel.files.own_key < length panel.files.own.header
  pub last_key : panel.files.last_key < length panel.files.last.header

-- the row of the last period for the record of this number
abbrev pub last_row_at : PanelCase → ℕ → Option ℕ
last_row_at panel n = last_row panel.files (slice_index_or panel.files.own.row_texts n [])

-- the values of the record of this number at all fields
abbrev pub both_at : PanelCase → ℕ → List Value
both_at panel n =
    both_values panel.survey.fields panel.set panel.files (slice_index_or panel.files.own.row_texts n [])
    (slice_index_or panel.files.own.rows n [])

-- the values of all records at all fields, in order
abbrev pub rows_of : PanelCase → List (List Value)
rows_of panel = both_rows panel.survey.fields panel.set panel.files
