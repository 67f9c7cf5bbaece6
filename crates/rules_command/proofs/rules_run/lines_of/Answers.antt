use Rattle.std.proofs.Common.{◌≡◌, ◌∙◌, List, Result, Ok, Err, IfOk, subst, sym}
use Rattle.edit_model.specs.Parts.{SurveyParts}
use Rattle.edit_line.specs.Lines.{AreOver, LineParts}
use Rattle.edit_line.specs.Shapes.{shape_of}
use Rattle.edit_normal.specs.RuleLines.{normal_lines_of}
use Rattle.edit_normal.proofs.NormalLines.{normal-over}
use Rattle.redundancy.specs.Verdicts.{AreEqualities, AreNeeded}
use Rattle.redundancy.specs.declared.verdict.Verdict.{Verdict}
use Rattle.pruned_rules.specs.Pruned.{rule_verdicts}
use Rattle.rules_command.proofs.rules_run.lines_of.Goals as goal

-- what is said of needed lines, by the lines and the verdicts that were made
needed-of : {A E : Type 0} (r : Result A E) (survey : SurveyParts) (lines : List LineParts) (verdicts : List Verdict) → lines ≡ normal_lines_of survey
    → verdicts ≡ rule_verdicts survey
    → AreNeeded survey.fields lines verdicts → IfOk r (λ a. AreNeeded survey.fields (normal_lines_of survey) (rule_verdicts survey))
needed-of (Ok a) survey lines verdicts are told needed =
    subst (λ (ls : List LineParts). AreNeeded survey.fields ls (rule_verdicts survey)) are
    (subst (λ (vs : List Verdict). AreNeeded survey.fields lines vs) told needed)
needed-of (Err e) survey lines verdicts are told needed = tt

-- and of equalities
equalities-of : {A E : Type 0} (r : Result A E) (survey : SurveyParts) (lines : List LineParts) (verdicts : List Verdict) → lines ≡ normal_lines_of survey
    → verdicts ≡ rule_verdicts survey
    → AreEqualities lines verdicts → IfOk r (λ a. AreEqualities (normal_lines_of survey) (rule_verdicts survey))
equalities-of (Ok a) survey lines verdicts are told equal =
    subst (λ (ls : List LineParts). AreEqualities ls (rule_verdicts survey)) are (subst (λ (vs : List Verdict). AreEqualities lines vs) told equal)
equalities-of (Err e) survey lines verdicts are told equal = tt

pub report-requires : goal.report-requires
report-requires c = record {
  over = subst (λ (ls : List LineParts). AreOver (shape_of c.args.survey.now.fields) ls) (sym (c.deref.ensures.value ∙ c.in_ok-pruned.ensures.lines))
      (normal-over c.args.survey.now);
}

pub returns-clause-needed : goal.returns-clause-needed
returns-clause-needed c =
    needed-of c.report.result c.args.survey.now c.in_ok-pruned.pruned.lines.items c.in_ok-pruned.pruned.verdicts.items
    c.in_ok-pruned.ensures.lines c.in_ok-pruned.ensures.verdicts c.in_ok-pruned.ensures.needed

pub returns-clause-equalities : goal.returns-clause-equalities
returns-clause-equalities c =
    equalities-of c.report.result c.args.survey.now c.in_ok-pruned.pruned.lines.items c.in_ok-pruned.pruned.verdicts.items
    c.in_ok-pruned.ensures.lines c.in_ok-pruned.ensures.verdicts c.in_ok-pruned.ensures.equalities
