use Rattle.std.proofs.Common.{◌≡◌, List, map, ap, refl, ◌∙◌}
use Rattle.derivation.specs.declared.step.Step.{Step}
use Rattle.derivation.specs.SharedLines.{is_same, place_in, with_step}
use Rattle.proof_sharing.specs.inner.Tables.{step_of}
use Rattle.proof_sharing.specs.declared.line_step.LineStep.{LineStep}
use Rattle.proof_sharing.specs.declared.line_step.LineStep.TheVariants as key
use Rattle.proof_sharing.specs.contracts.line_step.LineStepPartialEq.TheImpl as derived
use Rattle.proof_sharing.proofs.TableLaws.{place-same, put-same}
use Rattle.proof_sharing.proofs.line_table.LineTable.find_or_put.Goals as goal

same : (x y : LineStep) → derived.eq-value.it x y ≡ is_same (step_of x) (step_of y)
same (key.Given i) (key.Given j) = refl
same (key.Given i) (key.Combine a m b n g) = refl
same (key.Combine a m b n g) (key.Given i) = refl
same (key.Combine a m b n g) (key.Combine c k d l h) = refl

pub returns-clause-table : goal.returns-clause-table
returns-clause-table c =
    ap (λ (keys : List LineStep). map step_of keys) c.in_ok-place.ensures.keys ∙ put-same _ same c.args.step c.self.inside.steps.keys
    ∙ ap (λ (table : List Step). with_step table (step_of c.args.step)) c.self.view_is

pub returns-clause-place : goal.returns-clause-place
returns-clause-place c =
    c.in_ok-place.ensures.index ∙ place-same _ same c.args.step c.self.inside.steps.keys ∙ ap (λ (table : List Step). place_in table (step_of c.args.step))
    c.self.view_is
