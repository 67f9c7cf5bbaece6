use Rattle.std.proofs.Common.{ℕ, ◌≤◌, ◌↔◌, ◌∙◌, List, ap, length, map, subst, sym}
use Rattle.edit_model.specs.Points.{HasCodesFrom, IsConsistent}
use Rattle.edit_line.specs.EditSets.{AreEdits, EditsParts, edits_of}
use Rattle.edit_line.specs.Lines.{AllHold, LineParts}
use Rattle.edit_line.specs.Shapes.{shape_of}
use Rattle.edit_normal.proofs.NormalLines.{normal-few, normal-over}
use Rattle.edit_normal.specs.RuleLines.{normal_lines_of}
use Rattle.pruned_rules.specs.Pruned.{rule_flags}
use Rattle.pruned_rules.proofs.KeptLaws.{kept-are, kept-mean, taken-edits, verdict-each}
use Rattle.pruned_rules.proofs.pruned.PrunedRules.kept_edits.Goals as goal

pub kept_of-requires-clause-count : goal.kept_of-requires-clause-count
kept_of-requires-clause-count c = verdict-each c.args.survey.now c.deref.result.now c.deref-2.result.now (c.deref.ensures.value ∙ c.requires.lines)
    (c.deref-2.ensures.value ∙ c.requires.verdicts)

pub kept_of-requires-clause-few : goal.kept_of-requires-clause-few
kept_of-requires-clause-few c = subst (λ (ls : List LineParts). length ls ≤ 1000) (sym (c.deref.ensures.value ∙ c.requires.lines))
    (normal-few c.args.survey.now c.rules-rules.ensures.well_formed)

pub new-requires : goal.new-requires
new-requires c =
    let survey = c.args.survey.now in
    let are = kept-are survey c.deref.result.now c.deref-2.result.now c.in_ok-kept.kept.items (c.deref.ensures.value ∙ c.requires.lines)
    (c.deref-2.ensures.value ∙ c.requires.verdicts) c.in_ok-kept.ensures in
    subst (λ (es : List (ℕ × LineParts)). AreEdits (shape_of survey.fields) es) (sym are) (taken-edits (shape_of survey.fields) (normal_lines_of survey)
    (rule_flags survey) (normal-over survey))

pub returns-clause-edits : goal.returns-clause-edits
returns-clause-edits c =
    let survey = c.args.survey.now in
    let are = kept-are survey c.deref.result.now c.deref-2.result.now c.in_ok-kept.kept.items (c.deref.ensures.value ∙ c.requires.lines)
    (c.deref-2.ensures.value ∙ c.requires.verdicts) c.in_ok-kept.ensures in
    c.in_ok-edits.ensures ∙ ap (λ (es : List (ℕ × LineParts)). edits_of (shape_of survey.fields) es) are

pub returns-clause-same : goal.returns-clause-same
returns-clause-same c p =
    let survey = c.args.survey.now in
    let are = kept-are survey c.deref.result.now c.deref-2.result.now c.in_ok-kept.kept.items (c.deref.ensures.value ∙ c.requires.lines)
    (c.deref-2.ensures.value ∙ c.requires.verdicts) c.in_ok-kept.ensures in
    subst (λ (es : List (ℕ × LineParts)). (HasCodesFrom 0 survey.fields p × AllHold (map (λ (e : ℕ × LineParts). e.1) es) p) ↔ IsConsistent survey p)
    (sym (ap (λ (e : EditsParts). e.lines) c.in_ok-edits.ensures ∙ are)) (kept-mean survey c.rules-rules.ensures.well_formed p)
