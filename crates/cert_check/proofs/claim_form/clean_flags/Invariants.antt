use Rattle.std.proofs.Common.{◌≡◌, map, take}
use Rattle.edit_model.specs.CleanRecords.{is_clean}
use Rattle.cert_check.proofs.claim_form.clean_flags.Given as goal

abbrev pub invariant-loop-row_no : goal.invariant-loop-row_no
invariant-loop-row_no l = l.flags.items ≡ map (is_clean l.survey) (take l.row_no l.records.rows)
