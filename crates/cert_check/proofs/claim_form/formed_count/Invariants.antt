use Rattle.std.proofs.Common.{List, take}
use Rattle.std.specs.List.{AllByRecursion}
use Rattle.edit_model.specs.Parts.{SurveyParts}
use Rattle.edit_model.specs.declared.value.Value.{Value}
use Rattle.cert_check.specs.Claims.{IsClaim}
use Rattle.cert_check.specs.inner.ClaimChecks.{AreCleanFlags}
use Rattle.cert_check.proofs.claim_form.formed_count.Given as goal

abbrev pub invariant-loop-place : goal.invariant-loop-place
invariant-loop-place l = (survey : SurveyParts) (rows : List (List Value)) → AreCleanFlags survey rows l.clean
    → AllByRecursion (IsClaim survey rows l.said) (take l.place l.said.claims)
