use Rattle.std.proofs.Common.{◌≡◌, ◌∙◌, ◌++◌, ℕ, List, [], Ok, Err, ap, option_copied, reverse, subst, sym}
use Rattle.std.specs.List.{filter}
use Rattle.std.specs.Arc.{arc_value}
use Rattle.edit_model.specs.Corrections.{code_fields, number_fields}
use Rattle.edit_model.specs.FieldSets.{has_number}
use Rattle.edit_model.specs.Parts.{SurveyParts}
use Rattle.edit_model.specs.declared.value.Value.{Value}
use Rattle.edit_model.proofs.OrderLaws.{numbers-below}
use Rattle.edit_line.specs.EditSets.{EditsParts}
use Rattle.edit_line.specs.declared.derived.Derived.{Derived}
use Rattle.linear_elim.specs.Systems.{system_of}
use Rattle.back_subst.specs.Given.{giving_order, target_of}
use Rattle.back_subst.specs.inner.Systems.{start_lines}
use Rattle.back_subst.specs.inner.UnderWay.{AreOrders, IsUnderWay}
use Rattle.back_subst.specs.declared.gift.GiveFault.TheVariants.{Bound, Test}
use Rattle.back_subst.proofs.GiftLaws.{chosen-read, imputed-from, order-parts, orders-are, orders-with, stops-from, whole-computed}
use Rattle.back_subst.proofs.ReadyLaws.{over, system-made}
use Rattle.back_subst.proofs.imputation.impute.Goals as goal
use Rattle.back_subst.proofs.imputation.impute.Goals.{After-give_numbers-arg-2-1}

pub chosen_backwards-requires : goal.chosen_backwards-requires
chosen_backwards-requires g c = numbers-below _ 64 c.args.task.now.survey.now.fields c.codes.result.now c.requires.few c.codes.ensures

pub chosen_backwards-requires-2 : goal.chosen_backwards-requires-2
chosen_backwards-requires-2 g c = numbers-below _ 64 c.args.task.now.survey.now.fields c.numbers.result.now c.requires.few c.numbers.ensures

pub with_codes-requires-clause-order : goal.with_codes-requires-clause-order
with_codes-requires-clause-order g c =
    let survey = c.args.task.now.survey.now in
    let fields = survey.fields in
    let changed = c.args.task.now.changed in
    let codes_are = chosen-read changed c.deref.result.now c.in_ok-codes.codes.items c.codes.result.now (code_fields fields) c.deref.ensures.value
    c.in_ok-codes.ensures c.codes.ensures in
    let numbers_are = chosen-read changed c.deref-2.result.now c.in_ok-numbers.numbers.items c.numbers.result.now (number_fields fields)
    c.deref-2.ensures.value c.in_ok-numbers.ensures c.numbers.ensures in
    orders-with fields changed c.deref.result.now c.deref-2.result.now c.requires.few codes_are numbers_are

pub give_numbers-requires-clause-over : goal.give_numbers-requires-clause-over
give_numbers-requires-clause-over g c =
    over c.args.task.now.survey.now (arc_value c.args.task.now.edits.now) c.args.task.now.row.now c.args.task.now.changed c.requires.case c.requires.path

-- the orders in which values are given, and what is under way when it is the numbers' turn
module _ (g : _) (c : After-give_numbers-arg-2-1 g) where
  abbrev survey : SurveyParts
  survey = c.args.task.now.survey.now

  abbrev e : EditsParts
  e = arc_value c.args.task.now.edits.now

  abbrev target : ℕ → Value
  target = target_of (option_copied c.args.task.now.donor)

  abbrev codes : List ℕ
  codes = c.deref.result.now

  abbrev numbers : List ℕ
  numbers = c.deref-3.result.now

  codes-are : codes ≡ reverse (filter (has_number c.args.task.now.changed) (code_fields survey.fields))
  codes-are =
      chosen-read c.args.task.now.changed codes c.in_ok-codes.codes.items c.codes.result.now (code_fields survey.fields) c.deref.ensures.value
      c.in_ok-codes.ensures c.codes.ensures

  numbers-are : numbers ≡ reverse (filter (has_number c.args.task.now.changed) (number_fields survey.fields))
  numbers-are =
      chosen-read c.args.task.now.changed numbers c.in_ok-numbers.numbers.items c.numbers.result.now (number_fields survey.fields) c.deref-3.ensures.value
      c.in_ok-numbers.ensures c.numbers.ensures

  orders : AreOrders survey.fields codes numbers
  orders = orders-are survey.fields c.args.task.now.changed codes numbers c.requires.few codes-are numbers-are

  parts : giving_order survey.fields c.args.task.now.changed ≡ codes ++ numbers
  parts = order-parts survey.fields c.args.task.now.changed codes numbers codes-are numbers-are

  made : (lines : List Derived) × (system_of e.lines (reverse numbers) ≡ Ok lines)
  made = system-made survey e c.args.task.now.row.now c.args.task.now.changed c.requires.case c.requires.path numbers numbers-are

  way : IsUnderWay survey (start_lines e) target c.args.task.now.row.now codes numbers c.in_ok-new.new
  way =
      subst (λ fs. IsUnderWay survey (start_lines e) target c.args.task.now.row.now codes fs c.in_ok-new.new)
      (c.deref-2.ensures.value ∙ sym c.deref-3.ensures.value) c.in_ok-new.ensures.given

  -- a record that all numbers are given to, after these codes
  all-given : (new : List Value) → IsUnderWay survey (start_lines e) target c.args.task.now.row.now (codes ++ numbers) [] new
      → IsUnderWay survey (start_lines e) target c.args.task.now.row.now (giving_order survey.fields c.args.task.now.changed) [] new
  all-given new given = subst (λ fs. IsUnderWay survey (start_lines e) target c.args.task.now.row.now fs [] new) (sym parts) given

pub give_numbers-requires-clause-in_range : goal.give_numbers-requires-clause-in_range
give_numbers-requires-clause-in_range g c = made g (goal.at.give_numbers-requires-clause-in_range g c).After-give_numbers-arg-2-1

pub give_numbers-requires-clause-order : goal.give_numbers-requires-clause-order
give_numbers-requires-clause-order g c = (c.deref.result.now, orders g (goal.at.give_numbers-requires-clause-order g c).After-give_numbers-arg-2-1)

pub returns-in-Err-clause-bound : goal.returns-in-Err-clause-bound
returns-in-Err-clause-bound g c = λ field line told.
    let at = (goal.at.returns-in-Err-clause-bound g c).After-give_numbers-arg-2-1 in
    let is : c.in-Err.fault ≡ Bound field line = cc in
    stops-from c.args.task.now.survey.now c.args.task.now.row.now c.args.task.now.changed (option_copied c.args.task.now.donor)
    (arc_value c.args.task.now.edits.now) c.deref.result.now c.deref-3.result.now field line (orders g at) (parts g at) (made g at)
    (c.in-Err.ensures.bound field line c.args.task.now.row.now c.deref.result.now (ap Err is) (way g at))

pub test_rules-requires-clause-consistent : goal.test_rules-requires-clause-consistent
test_rules-requires-clause-consistent g c =
    let at = (goal.at.test_rules-requires-clause-consistent g c).After-give_numbers-arg-2-1 in
    let given = c.in-Ok.ensures.given c.args.task.now.row.now c.deref.result.now (way g at) in
    (given.point, given.completes)

pub returns-in-Ok-test_rules-clause-given : goal.returns-in-Ok-test_rules-clause-given
returns-in-Ok-test_rules-clause-given g c =
    let at = (goal.at.returns-in-Ok-test_rules-clause-given g c).After-give_numbers-arg-2-1 in
    all-given g at c.give_numbers.new.new (c.in-Ok.ensures.given c.args.task.now.row.now c.deref.result.now (way g at))

pub returns-in-Ok-test_rules-clause-computed : goal.returns-in-Ok-test_rules-clause-computed
returns-in-Ok-test_rules-clause-computed g c =
    let at = (goal.at.returns-in-Ok-test_rules-clause-computed g c).After-give_numbers-arg-2-1 in
    whole-computed c.args.task.now.survey.now c.args.task.now.row.now c.args.task.now.changed (option_copied c.args.task.now.donor)
    (arc_value c.args.task.now.edits.now) c.deref.result.now c.deref-3.result.now c.give_numbers.new.new
    (c.in-Ok.ensures.given c.args.task.now.row.now c.deref.result.now (way g at)).is_row (orders g at) (parts g at) (made g at) c.in-Ok.ensures.computed

pub returns-clause-test : goal.returns-clause-test
returns-clause-test g c = λ rule told.
    let at = (goal.at.returns-clause-test g c).After-give_numbers-arg-2-1 in
    let given = all-given g at c.give_numbers.new.new (c.in-Ok.ensures.given c.args.task.now.row.now c.deref.result.now (way g at)) in
    let is : c.in-Err-test_rules.fault ≡ Test rule = cc in
    record {
      new = c.give_numbers.new.new;
      imputed =
          imputed-from c.args.task.now.survey.now c.args.task.now.row.now c.args.task.now.changed (option_copied c.args.task.now.donor)
          (start_lines (arc_value c.args.task.now.edits.now)) c.give_numbers.new.new given;
      computed =
          whole-computed c.args.task.now.survey.now c.args.task.now.row.now c.args.task.now.changed (option_copied c.args.task.now.donor)
          (arc_value c.args.task.now.edits.now) c.deref.result.now c.deref-3.result.now c.give_numbers.new.new given.is_row
          (orders g at) (parts g at) (made g at) c.in-Ok.ensures.computed;
      first = c.in-Err-test_rules.ensures.test rule (ap Err is);
    }
