use Rattle.std.proofs.Common.{◌≡◌, ℕ, Bool, List, None, sym, ◌∙◌, subst}
use Rattle.std.specs.Arc.{arc_value}
use Rattle.edit_paths.proofs.ChoiceLaws.{change-choice}
use Rattle.edit_paths.proofs.LeastLaws.{choice-first, choice-least}
use Rattle.edit_model.specs.Corrections.{IsLeastWeight}
use Rattle.edit_model.specs.Parts.{SurveyParts}
use Rattle.edit_model.specs.declared.value.Value.{Value}
use Rattle.bound_cert.specs.declared.outcome.Outcome.TheVariants as outcome
use Rattle.edit_paths.specs.Cases.{IsCase, TellCorrections, case_of}
use Rattle.edit_paths.specs.Outcomes.{outcome_of}
use Rattle.edit_report.specs.declared.end.RowEnd.{RowEnd}
use Rattle.record_ends.specs.Said.{Says}
use Rattle.back_subst.proofs.ChangeLaws.{change-given, change-needed, change-whole}
use Rattle.record_ends.proofs.CorrectedLaws.{corrected}
use Rattle.record_ends.proofs.row_ends.with_values.Goals as goal
use Rattle.edit_line.specs.EditSets.{EditsParts}
use Rattle.bound_cert.specs.declared.cert.Cert.{Cert}

pub changed_set-changed-requires : goal.changed_set-changed-requires
changed_set-changed-requires g c = record {
  whole =
      rw c.letters.ensures
      (change-whole c.args.rest.now.survey
      (arc_value c.args.rest.now.edits) c.args.row.now c.args.rest.now.budget c.args.change.path c.args.change.weight c.args.change.cert
      c.case_known.ensures.case c.requires.found);
}

pub give-requires-clause-path : goal.give-requires-clause-path
give-requires-clause-path g c =
    change-given c.args.rest.now.survey
    (arc_value c.args.rest.now.edits) c.args.row.now c.args.rest.now.budget c.args.change.path c.args.change.weight c.args.change.cert
    c.case_known.ensures.case c.requires.found (c.requires.rest.same c.args.row.now) c.changed_set-changed.result
    (c.changed_set-changed.ensures.path ∙ c.letters.ensures)
    c.requires.rest.shape c.requires.rest.budget

pub returns-in-Ok-clause-says : goal.returns-in-Ok-clause-says
returns-in-Ok-clause-says g c =
    let survey = c.args.rest.now.survey in
    let edits = arc_value c.args.rest.now.edits in
    let same = c.requires.rest.same c.args.row.now in
    let path_is = c.changed_set-changed.ensures.path ∙ c.letters.ensures in
    let choice = change-choice
    (case_of survey edits c.args.row.now) c.case_known.ensures.case c.args.rest.now.budget c.args.change.path c.args.change.weight
    c.args.change.cert c.requires.found in
    let needed = change-needed survey edits c.args.row.now c.args.rest.now.budget c.args.change.path c.args.change.weight c.args.change.cert
    c.case_known.ensures.case c.requires.found same c.changed_set-changed.result path_is in
    let (point, completes) = c.in-Ok.ensures.consistent in
    rw c.proof_of.ensures.outcome
    (corrected survey c.args.row.now c.in-Ok.gift.row c.changed_set-changed.result _ point c.requires.row c.in-Ok.ensures.imputed completes
    (λ f there. c.in-Ok.ensures.differs needed point f completes there) c.args.change.path c.args.change.weight path_is choice.1
    (subst (λ n. IsLeastWeight survey c.args.row.now n) (sym choice.1)
    (choice-least survey edits c.args.row.now c.case_known.ensures.case same c.args.change.path choice.0))
    (choice-first survey edits c.args.row.now c.case_known.ensures.case same c.args.change.path choice.0))

-- where no values are given, the weight is the least all the same, and the path the first
least-says : (survey : SurveyParts) (edits : EditsParts) (row : List Value) (budget : ℕ) (path : List Bool) (weight : ℕ) (cert : Cert) (end : RowEnd)
    → IsCase (case_of survey edits row)
    → outcome_of (case_of survey edits row) budget ≡ outcome.Change path weight cert → TellCorrections survey edits row
    → end.proof.outcome ≡ outcome.Change path weight cert → end.gift ≡ None
    → Says survey edits budget row end
least-says survey edits row budget path weight cert end is found same told none =
    let choice = change-choice (case_of survey edits row) is budget path weight cert found in
    rw (told, none) (
      subst (λ n. IsLeastWeight survey row n) (sym choice.1) (choice-least survey edits row is same path choice.0),
      choice-first survey edits row is same path choice.0,
    )

pub returns-in-Err-Bound-clause-says : goal.returns-in-Err-Bound-clause-says
returns-in-Err-Bound-clause-says g c =
    let rest = c.args.rest.now in
    least-says rest.survey (arc_value rest.edits) c.args.row.now rest.budget c.args.change.path c.args.change.weight c.args.change.cert c.without_values.result
    c.case_known.ensures.case c.requires.found (c.requires.rest.same c.args.row.now) c.without_values.ensures.outcome c.without_values.ensures.none.1

pub returns-in-Err-Test-clause-says : goal.returns-in-Err-Test-clause-says
returns-in-Err-Test-clause-says g c =
    let rest = c.args.rest.now in
    least-says rest.survey
    (arc_value rest.edits) c.args.row.now rest.budget c.args.change.path c.args.change.weight c.args.change.cert c.without_values-in-Err-Test.result
    c.case_known.ensures.case c.requires.found
    (c.requires.rest.same c.args.row.now) c.without_values-in-Err-Test.ensures.outcome c.without_values-in-Err-Test.ensures.none.1

pub returns-in-Ok-clause-change : goal.returns-in-Ok-clause-change
returns-in-Ok-clause-change g c = c.proof_of.ensures.outcome

pub returns-in-Err-Bound-clause-change : goal.returns-in-Err-Bound-clause-change
returns-in-Err-Bound-clause-change g c = c.without_values.ensures.outcome

pub returns-in-Err-Bound-clause-donor : goal.returns-in-Err-Bound-clause-donor
returns-in-Err-Bound-clause-donor g c = c.without_values.ensures.none.0

pub returns-in-Err-Test-clause-change : goal.returns-in-Err-Test-clause-change
returns-in-Err-Test-clause-change g c = c.without_values-in-Err-Test.ensures.outcome

pub returns-in-Err-Test-clause-donor : goal.returns-in-Err-Test-clause-donor
returns-in-Err-Test-clause-donor g c = c.without_values-in-Err-Test.ensures.none.0
