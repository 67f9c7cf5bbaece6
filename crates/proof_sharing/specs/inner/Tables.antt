-- The parts of a table of steps. Private contracts alone cite this page.
use Rattle.derivation.specs.declared.step.Step.{Step}
use Rattle.derivation.specs.declared.step.Step.TheVariants as step
use Rattle.proof_sharing.specs.declared.line_step.LineStep.{LineStep}
use Rattle.proof_sharing.specs.declared.line_step.LineStep.TheVariants as key

-- the step that a key stands for
abbrev pub step_of : LineStep → Step
step_of (key.Given place) = step.Given place
step_of (key.Combine a m b n g) = step.Combine a m b n g
