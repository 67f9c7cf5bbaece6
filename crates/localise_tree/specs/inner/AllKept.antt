-- The outcome of a record at which all lines hold.
use Rattle.std.specs.Prelude.{ℕ, ◌&&◌, not, Bool, false, List, [], Result, Ok, Err, map, replicate}
use Rattle.std.specs.List.{list_all, list_any}
use Rattle.edit_model.specs.RowPoints.{code_in}
use Rattle.edit_model.specs.Rows.{is_bad, value_of}
use Rattle.edit_model.specs.declared.value.Value.{Value}
use Rattle.edit_line.specs.EditSets.{base_lines}
use Rattle.edit_line.specs.Lines.{LineParts}
use Rattle.edit_line.specs.Reductions.{reduce_derived}
use Rattle.edit_line.specs.Sets.{are_codes_in}
use Rattle.edit_line.specs.Shapes.{code_fields}
use Rattle.edit_line.specs.Sums.{fails_at}
use Rattle.edit_line.specs.declared.derived.Derived.{Derived}
use Rattle.bound_cert.specs.declared.cert.LeafWhy.TheVariants as why
use Rattle.bound_cert.specs.declared.outcome.Outcome.{Outcome}
use Rattle.bound_cert.specs.declared.outcome.Outcome.TheVariants as outcome
use Rattle.edit_paths.specs.Cases.{SearchCase}
use Rattle.edit_paths.specs.Certificates.{leaf}

-- the record's codes at these fields
abbrev pub codes_of_row : List ℕ → List Value → List ℕ
codes_of_row fields row = map (λ f. code_in (value_of row f)) fields

-- whether each of the record's codes is in the line's set for it, so that the line asks something of the record
abbrev pub is_for : List Value → LineParts → Bool
is_for row line = are_codes_in line.sets (codes_of_row (code_fields line.shape) row)

-- whether a line holds, by whether its linear part fails, and whether the codes are in its sets; not where its sum leaves the range
abbrev pub holds_by : Result Bool ℕ → Bool → Bool
holds_by (Ok failed) for_codes = not (failed && for_codes)
holds_by (Err f) for_codes = false

-- whether the line holds at the record, and its sum stays in range
abbrev pub holds_at : List Value → LineParts → Bool
holds_at row line = holds_by (fails_at line row) (is_for row line)

-- whether all lines hold at the record, and their sums stay in range
abbrev pub all_hold_at : List Value → List Derived → Bool
all_hold_at row lines = list_all (λ (d : Derived). holds_at row d.line) lines

-- whether each field of the case's record has a value, and all its lines hold there
abbrev pub holds_throughout : SearchCase → Bool
holds_throughout c = not (list_any is_bad c.row) && all_hold_at c.row (reduce_derived (base_lines c.edits))

-- the path that keeps this number of fields
abbrev pub kept_path : ℕ → List Bool
kept_path count = replicate count false

-- the outcome by which this number of fields is kept: nothing is changed, and there is nothing to prove
abbrev pub all_kept : ℕ → Outcome
all_kept count = outcome.Change (kept_path count) 0 (record { leaves = leaf [] why.Bound })
