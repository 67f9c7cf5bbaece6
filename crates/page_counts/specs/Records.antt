-- What becomes of records, by the reasons of an edit.
use Rattle.std.specs.Prelude.{ℕ, ◌==◌, ◌||◌, not, Bool, true, false, List, filter}
use Rattle.std.specs.List.{count_by, list_any, range_with_len}
use Rattle.reason_lines.specs.declared.entry.Cause.{Cause}
use Rattle.reason_lines.specs.declared.entry.Cause.TheVariants.{Budget, Overflow, Contradictory, NoLast, NoCorrection}
use Rattle.reason_lines.specs.declared.entry.Change.{Change}
use Rattle.reason_lines.specs.declared.entry.LeftOut.{LeftOut}

-- whether some field of the record was changed
abbrev pub is_changed : List Change → ℕ → Bool
is_changed changes number = list_any (λ (c : Change). c.record == number) changes

-- whether the record was left out
abbrev pub is_left_out : List LeftOut → ℕ → Bool
is_left_out left_out number = list_any (λ (l : LeftOut). l.record == number) left_out

-- whether the record was neither changed nor left out
abbrev pub is_clean : List Change → List LeftOut → ℕ → Bool
is_clean changes left_out number = not (is_changed changes number || is_left_out left_out number)

-- how many of so many records were neither changed nor left out
abbrev pub clean_count : ℕ → List Change → List LeftOut → ℕ
clean_count rows changes left_out = count_by (is_clean changes left_out) (range_with_len 0 rows)

-- how many of so many records have a changed field
abbrev pub changed_count : ℕ → List Change → ℕ
changed_count rows changes = count_by (is_changed changes) (range_with_len 0 rows)

-- the records that were released, in rising order: row k of the released file is the k-th of them
abbrev pub released_rows : ℕ → List LeftOut → List ℕ
released_rows rows left_out = filter (λ number. not (is_left_out left_out number)) (range_with_len 0 rows)

-- ---- why records were left out

-- whether two causes are one
abbrev pub is_cause : Cause → Cause → Bool
is_cause Budget Budget = true
is_cause Overflow Overflow = true
is_cause Contradictory Contradictory = true
is_cause NoLast NoLast = true
is_cause NoCorrection NoCorrection = true
is_cause _ _ = false

-- how many records were left out by this cause
abbrev pub left_out_count : Cause → List LeftOut → ℕ
left_out_count cause left_out = count_by (λ (l : LeftOut). is_cause cause l.cause) left_out
