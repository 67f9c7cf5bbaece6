use Rattle.std.proofs.Common.{◌≡◌, Err, refl, ap, ◌∙◌}
use Rattle.std.proofs.lemmas.Result.{IfOk-weaker}
use Rattle.edit_line.specs.Shapes.{shape_of}
use Rattle.derivation.specs.Premises.{premises_of}
use Rattle.derivation.specs.ValidSteps.{last_proved}
use Rattle.derivation.specs.declared.fault.StepsFault.{StepsFault}
use Rattle.derivation.specs.declared.fault.StepsFault.TheVariants.{Bad}
use Rattle.derivation.proofs.Places.{place-steps_result}
use Rattle.derivation.proofs.Soundness.{steps-shown}
use Rattle.derivation.proofs.check.check_steps.Goals as goal

pub returns-in-Ok-clause-shown : goal.returns-in-Ok-clause-shown
returns-in-Ok-clause-shown c =
    let fields = c.args.survey.now.fields in
    let p = premises_of (shape_of fields) c.args.given.now c.args.usable.now c.args.row.now c.args.kept in
    IfOk-weaker c.last_known.result _ _
    (λ x last. (steps-shown p fields c.args.steps.now x refl c.requires.row c.requires.kept c.requires.over
    (ap last_proved c.in-Ok.ensures.proved ∙ last)).0) c.last_known.ensures.proved

pub returns-in-Ok-clause-over : goal.returns-in-Ok-clause-over
returns-in-Ok-clause-over c =
    let fields = c.args.survey.now.fields in
    let p = premises_of (shape_of fields) c.args.given.now c.args.usable.now c.args.row.now c.args.kept in
    IfOk-weaker c.last_known.result _ _
    (λ x last. (steps-shown p fields c.args.steps.now x refl c.requires.row c.requires.kept c.requires.over
    (ap last_proved c.in-Ok.ensures.proved ∙ last)).1) c.last_known.ensures.proved

pub returns-in-Ok-clause-named : goal.returns-in-Ok-clause-named
returns-in-Ok-clause-named c =
    let p = premises_of (shape_of c.args.survey.now.fields) c.args.given.now c.args.usable.now c.args.row.now c.args.kept in
    λ place is. place-steps_result p c.args.steps.now place (ap last_proved c.in-Ok.ensures.proved ∙ c.last_known.ensures.bad place is)

pub returns-in-Err-clause-named : goal.returns-in-Err-clause-named
returns-in-Err-clause-named c =
    let p = premises_of (shape_of c.args.survey.now.fields) c.args.given.now c.args.usable.now c.args.row.now c.args.kept in
    λ place is. let same : c.in-Err.fault ≡ Bad place = cc in place-steps_result p c.args.steps.now place
    (ap last_proved (c.in-Err.ensures.bad place (ap (λ (f : StepsFault). Err f) same)))
