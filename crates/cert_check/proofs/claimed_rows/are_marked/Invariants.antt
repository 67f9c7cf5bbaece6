use Rattle.std.proofs.Common.{◌≡◌, ◌<◌, ℕ, Some, false, slice_get, slice_index_or, true}
use Rattle.bound_cert.specs.declared.outcome.RowProof.{RowProof}
use Rattle.bound_cert.specs.Claims.{claims_donor}
use Rattle.cert_check.proofs.claimed_rows.are_marked.Given as goal

abbrev pub invariant-loop-row_no : goal.invariant-loop-row_no
invariant-loop-row_no l = (i : ℕ) (said : RowProof) → i < l.row_no → slice_get l.saids i ≡ Some said → claims_donor said.outcome ≡ true
    → slice_index_or l.marks i false ≡ true
