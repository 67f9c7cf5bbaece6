use Rattle.std.proofs.Common.{◌≡◌, ◌<◌, ℕ, false, get_or, nat_eq}
use Rattle.cert_check.proofs.claim_form.are_distinct.Given as goal

abbrev pub invariant-loop-place : goal.invariant-loop-place
invariant-loop-place l = (j k d : ℕ) → j < k → k < l.place → nat_eq (get_or l.ranking j d) (get_or l.ranking k d) ≡ false
