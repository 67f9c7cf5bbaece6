use Rattle.std.proofs.Common.{◌≡◌, Some, List, ap, arith, length, slice_get, subst}
use Rattle.edit_model.specs.Surveys.{IsRule}
use Rattle.edit_model.specs.declared.rule.Rule.{Rule}
use Rattle.edit_line.proofs.Members.{in-all, in-get}
use Rattle.back_subst.specs.GiveFaults.{IsFirstOut}
use Rattle.back_subst.proofs.FinalTests.{can-try, get-there, rule-below, rules-more, tried}
use Rattle.back_subst.proofs.final_test.test_rules.Goals as goal
use Rattle.back_subst.proofs.final_test.test_rules.Goals.{After-rule-item}

module _ (c : After-rule-item) where
  there : slice_get c.args.survey.now.rules c.loop-i.i ≡ Some c.rule-item.result
  there =
      subst (λ rs. slice_get rs c.loop-i.i ≡ Some c.rule-item.result) c.rules-rule-items.ensures.rules
      (get-there c.rules-rule-items.result.now c.loop-i.i c.rule-item.result c.loop-i-test.true c.rule-item.is)

  fits : IsRule c.args.survey.now.fields c.rule-item.result
  fits =
      in-all (λ (r : Rule). IsRule c.args.survey.now.fields r) c.rule-item.result c.args.survey.now.rules c.rules-rule-items.ensures.well_formed.rules
      (in-get c.rule-item.result c.args.survey.now.rules c.loop-i.i there)

pub holds-requires : goal.holds-requires
holds-requires c =
    can-try c.args.survey.now c.args.row.now c.requires.row c.requires.consistent.0 c.requires.consistent.1 c.rule-item.result
    (fits (goal.at.holds-requires c).After-rule-item)

pub returns-in-Err-clause-test : goal.returns-in-Err-clause-test
returns-in-Err-clause-test c = λ rule told.
    let same : c.loop-i.i ≡ rule = cc in
    subst (λ n. IsFirstOut c.args.survey.now c.args.row.now n) same
    (record {
      tested = c.rule-item.result;
      there = there (goal.at.returns-in-Err-clause-test c).After-rule-item;
      out = c.in-Err.ensures.overflow;
      before =
          c.loop-i.invariant;
    })

pub loop-i-preserved : goal.loop-i-preserved
loop-i-preserved c =
    let at = (goal.at.loop-i-preserved c).After-rule-item in
    rules-more c.args.survey.now.rules c.args.row.now c.loop-i.i c.rule-item.result (there at)
    (tried c.args.survey.now c.args.row.now c.requires.row c.requires.consistent.0 c.requires.consistent.1 c.rule-item.result c.loop-i.i c.in-Ok.field-0
    (there at)
    (can-try c.args.survey.now c.args.row.now c.requires.row c.requires.consistent.0 c.requires.consistent.1 c.rule-item.result (fits at))
    c.in-Ok.ensures.in_range) c.loop-i.invariant

pub returns-clause-held : goal.returns-clause-held
returns-clause-held c = λ k rule there.
    c.loop-i.invariant k rule (omega (
      arith,
      rule-below c.args.survey.now.rules k rule there,
      c.loop-i-test.false,
      ap (λ (rs : List Rule). length rs)
          c.rules-rule-items.ensures.rules,
    )) there
