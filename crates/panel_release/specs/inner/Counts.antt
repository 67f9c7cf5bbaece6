-- What is counted of the records.
use Rattle.std.specs.Prelude.{◌≡◌, ◌≤◌, ◌*◌, ◌^◌, Bool, true, false, List, [], ◌∷◌, ◌++◌, length}
use Rattle.std.specs.List.{filter, sum_by}
use Rattle.foundation.specs.Limits.{most_records}
use Rattle.edit_model.specs.declared.field.Field.{Field}
use Rattle.bound_cert.specs.Paths.{path_weight}
use Rattle.bound_cert.specs.Trees.{all_kept}
use Rattle.edit_report.specs.Summaries.{is_changed, is_unresolved, keeps_all, weight_of}
use Rattle.edit_report.specs.declared.end.RowEnd.{RowEnd}
use Rattle.panel_release.specs.declared.counts.Counts.{Counts}
use Rattle.panel_release.specs.declared.counts.Resolution.{Resolution}
use Rattle.panel_release.specs.declared.counts.Resolution.TheVariants as resolution

-- a record that ended so is counted as clean, as changed, with what its change weighs, or as unresolved
abbrev pub IsResolution : List Field → RowEnd → Resolution → Type 0
IsResolution fields end resolution.Clean = (keeps_all end ≡ true) × (is_changed end ≡ false) × (is_unresolved end ≡ false)
IsResolution fields end (resolution.Changed weight) =
    (keeps_all end ≡ false) × (is_changed end ≡ true) × (is_unresolved end ≡ false) × (weight ≡ weight_of fields end)
IsResolution fields end resolution.Unresolved = (keeps_all end ≡ false) × (is_changed end ≡ false) × (is_unresolved end ≡ true)

-- a record that was given the values of this path is counted in this way
abbrev pub IsPathResolution : List Field → List Bool → Resolution → Type 0
IsPathResolution fields path resolution.Clean = all_kept path ≡ true
IsPathResolution fields path (resolution.Changed weight) = (all_kept path ≡ false) × (weight ≡ path_weight fields path)
IsPathResolution fields path resolution.Unresolved = ⊥

-- these are the counts of records that ended so
pub record AreCountsOf (fields : List Field) (ends : List RowEnd) (counts : Counts) : Type 0 where
  pub records : counts.records ≡ length ends
  pub clean : counts.clean ≡ length (filter keeps_all ends)
  pub changed : counts.changed ≡ length (filter is_changed ends)
  pub unresolved : counts.unresolved ≡ length (filter is_unresolved ends)
  pub weight : counts.weight ≡ sum_by (weight_of fields) (filter is_changed ends)

-- a record more that ended so is counted
abbrev pub CountsOne : List Field → RowEnd → Counts → Counts → Type 0
CountsOne fields end before after =
    (ends : List RowEnd) → AreCountsOf fields ends before → AreCountsOf fields (ends ++ end ∷ []) after

-- there are no more records than a file has, and no count is beyond what these can have
pub record AreFew (counts : Counts) : Type 0 where
  pub records : counts.records ≤ most_records
  pub clean : counts.clean ≤ counts.records
  pub changed : counts.changed ≤ counts.records
  pub unresolved : counts.unresolved ≤ counts.records
  pub weight : counts.weight ≤ counts.records * 2 ^ 64
