use Rattle.std.proofs.Common.{◌≡◌, ◌∙◌, All, List, false, sym, ap, subst}
use Rattle.std.specs.List.{list_any}
use Rattle.edit_model.specs.Rows.{is_bad}
use Rattle.edit_model.specs.Surveys.{IsRule}
use Rattle.edit_model.specs.declared.rule.Rule.{Rule}
use Rattle.edit_model.specs.declared.value.Value.{Value}
use Rattle.edit_model.proofs.CleanLaws.{can_try-all}
use Rattle.edit_model.proofs.clean.is_clean.Goals as goal

pub hold_all-requires : goal.hold_all-requires
hold_all-requires c =
    let none : list_any is_bad c.args.row.now ≡ false = ap (λ (vs : List Value). list_any is_bad vs) (sym c.values.ensures) ∙ sym c.has_bad.ensures
    ∙ c.if-not-has_bad.true in
    let fit : All (IsRule c.args.survey.now.fields) c.rules.result.now = subst (λ (rules : List Rule). All (IsRule c.args.survey.now.fields) rules)
    (sym c.rules.ensures.rules) c.rules.ensures.well_formed.rules in
    can_try-all c.args.survey.now.fields c.args.row.now c.rules.result.now c.requires none fit
