-- How many donors a ranking measures.
use Rattle.std.specs.Prelude.{◌==◌, ◌&&◌, ◌-◌, ℕ, suc, Bool, if◌then◌else◌, List, [], ◌∷◌, Option, Some, None, is_some, length, nat_le, nat_lt, slice_index_or}
use Rattle.std.specs.List.{count_by}
use Rattle.edit_model.specs.FieldSets.{has_number}
use Rattle.edit_model.specs.Rows.{value_of}
use Rattle.edit_model.specs.declared.value.Value.{Value}
use Rattle.donor_measure.specs.Distances.{bucket_gap}
use Rattle.donor_measure.specs.Yardsticks.{yardstick_at}
use Rattle.donor_measure.specs.declared.yardstick.Yardstick.{Yardstick}
use Rattle.donor_search.specs.CleanRows.{row_at}
use Rattle.donor_search.specs.Rankings.{distance_to}

-- the first kept numerical field, from number i on
abbrev pub index_field_from : ℕ → List Yardstick → ℕ → Option ℕ
index_field_from i [] kept = None
index_field_from i (yardstick ∷ yardsticks) kept =
    if has_number kept i && is_some yardstick.scale then Some i else index_field_from (suc i) yardsticks kept

-- the index field: the first kept numerical field
abbrev pub index_field : List Yardstick → ℕ → Option ℕ
index_field yardsticks kept = index_field_from 0 yardsticks kept

-- how many whole buckets lie between a record and a donor at a field, times the weight of the field
abbrev pub gap_to : List Yardstick → List (List Value) → List Value → ℕ → ℕ → ℕ
gap_to yardsticks rows row field donor =
    bucket_gap (yardstick_at yardsticks field) (value_of row field) (value_of (row_at rows donor) field)

-- whether the bucket gap is at most a distance
abbrev pub is_within : List Yardstick → List (List Value) → List Value → ℕ → ℕ → ℕ → Bool
is_within yardsticks rows row field distance donor = nat_le (gap_to yardsticks rows row field donor) distance

-- how far the last donor of a ranking is
abbrev pub last_distance : List Yardstick → List (List Value) → List Value → ℕ → ℕ → List ℕ → ℕ
last_distance yardsticks rows row kept near ranking = distance_to yardsticks rows row kept (slice_index_or ranking (near - 1) 0)

-- how many donors a ranking may measure: where it is as long as was asked for, those whose bucket gap at the index field is at most
-- the distance of the last of it; else, and where no numerical field is kept, all
abbrev pub most_asked : List Yardstick → List (List Value) → List ℕ → List Value → ℕ → ℕ → Option ℕ → List ℕ → ℕ
most_asked yardsticks rows donors row kept near None ranking = length donors
most_asked yardsticks rows donors row kept near (Some field) ranking =
    if nat_lt 0 near && (length ranking == near)
    then count_by (is_within yardsticks rows row field (last_distance yardsticks rows row kept near ranking)) donors
    else length donors
