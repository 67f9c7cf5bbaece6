use Rattle.std.proofs.Common.{ℕ, List, true, [], ◌∙◌, sym, ap, ◌++◌, ◌+◌, ◌≡◌, suc, Err, drop, get_or, option_copied, subst, take, arith}
use Rattle.std.specs.Arc.{arc_value}
use Rattle.std.proofs.lemmas.List.{append-nil, drop_all, take_all}
use Rattle.edit_model.specs.FieldSets.{has_number}
use Rattle.edit_model.specs.Parts.{SurveyParts}
use Rattle.edit_model.specs.declared.value.Value.{Value}
use Rattle.edit_line.specs.EditSets.{EditsParts}
use Rattle.edit_line.specs.Shapes.{has_field, number_fields, shape_of}
use Rattle.linear_elim.specs.Systems.{AreNumerical}
use Rattle.back_subst.specs.Given.{number_in, target_of}
use Rattle.back_subst.specs.NumberWalk.{number_result}
use Rattle.back_subst.specs.inner.Systems.{start_lines, system_left}
use Rattle.back_subst.specs.inner.UnderWay.{AreComputedBy, IsUnderWay, StopsAmong}
use Rattle.back_subst.specs.declared.gift.GiveFault.TheVariants.{Bound}
use Rattle.back_subst.proofs.NumberTurns.{blank-here, computed-turned, kind-here, left-here, number-stopped, number-turned, numbers-end}
use Rattle.back_subst.proofs.NumberTurns.{numerical-here, system-here}
use Rattle.back_subst.proofs.OrderLaws.{left-numerical, parted}
use Rattle.back_subst.proofs.UnderWayLaws.{donor-within, number-below}
use Rattle.back_subst.proofs.giving.give_numbers.Goals as goal
use Rattle.back_subst.proofs.giving.give_numbers.Goals.{After-without-left}

pub set_of-left-requires : goal.set_of-left-requires
set_of-left-requires g c = c.requires.order.1.numbers_small

pub loop-field-init : goal.loop-field-init
loop-field-init g c = (
  λ e h. h,
  λ f h. h,
  c.set_of-left.ensures,
  λ row given way. subst (λ fs. IsUnderWay c.args.task.now.survey.now (start_lines (arc_value c.args.task.now.edits.now))
      (target_of (option_copied c.args.task.now.donor)) row fs c.args.order.now c.args.new.now) (sym (append-nil given)) way,
  tt,
  omega (arith),
)

-- what is known of the field when it is left no more
module _ (g : _) (c : After-without-left g) where
  abbrev survey : SurveyParts
  survey = c.args.task.now.survey.now

  abbrev e : EditsParts
  e = arc_value c.args.task.now.edits.now

  abbrev order : List ℕ
  order = c.args.order.now

  abbrev i : ℕ
  i = c.loop-field.field-index

  abbrev target : ℕ → Value
  target = target_of (option_copied c.args.task.now.donor)

  way : IsUnderWay survey (start_lines e) target c.requires.way.0 (c.requires.way.1 ++ take i order) (drop i order) c.loop-field.new
  way = c.loop-field.invariant.3 c.requires.way.0 c.requires.way.1 c.requires.way.2

  numerical : has_field (number_fields (shape_of survey.fields)) (get_or order i 0) ≡ true
  numerical =
      numerical-here survey e c.requires.order.0 order c.requires.order.1 i c.loop-field-test.true target c.requires.way.0 c.loop-field.new c.requires.way.1 way

  left-is : (k : ℕ) → has_number c.without-left.result k ≡ has_field (drop (suc i) order) k
  left-is =
      left-here survey e c.requires.order.0 order c.requires.order.1 i c.loop-field-test.true target c.requires.way.0 c.loop-field.new c.requires.way.1 way
      c.loop-field.left c.without-left.result c.loop-field.invariant.2
      c.without-left.ensures.out c.without-left.ensures.others

pub number_for-requires-clause-donor : goal.number_for-requires-clause-donor
number_for-requires-clause-donor g c =
    let at = (goal.at.number_for-requires-clause-donor g c).After-without-left in
    donor-within (survey g at) (option_copied c.args.task.now.donor) (get_or (order g at) (i g at) 0) c.requires.donor
    (number-below (survey g at).fields _ (numerical g at))

pub number_for-requires-clause-row : goal.number_for-requires-clause-row
number_for-requires-clause-row g c = (way g (goal.at.number_for-requires-clause-row g c).After-without-left).is_row

pub number_for-requires-clause-field : goal.number_for-requires-clause-field
number_for-requires-clause-field g c = numerical g (goal.at.number_for-requires-clause-field g c).After-without-left

pub number_for-requires-clause-blank : goal.number_for-requires-clause-blank
number_for-requires-clause-blank g c =
    let at = (goal.at.number_for-requires-clause-blank g c).After-without-left in
    blank-here (survey g at) (e g at) c.requires.order.0 (order g at) c.requires.order.1 (i g at) c.loop-field-test.true (target g at) c.requires.way.0
    c.loop-field.new c.requires.way.1 (way g at)

pub number_for-requires-clause-numerical : goal.number_for-requires-clause-numerical
number_for-requires-clause-numerical g c =
    let at = (goal.at.number_for-requires-clause-numerical g c).After-without-left in
    let order = c.args.order.now in
    let i = c.loop-field.field-index in
    subst (λ sh. AreNumerical sh c.without-left.result) (sym c.requires.shape)
    (left-numerical (survey g at).fields c.requires.order.0 order (take i order) (drop (suc i) order) (get_or order i 0) c.requires.order.1
    (parted order i c.loop-field-test.true) c.without-left.result (left-is g at))

pub number_for-requires-clause-served : goal.number_for-requires-clause-served
number_for-requires-clause-served g c = c.loop-field.invariant.0 _ c.requires.served

pub number_for-requires-clause-in_range : goal.number_for-requires-clause-in_range
number_for-requires-clause-in_range g c =
    let at = (goal.at.number_for-requires-clause-in_range g c).After-without-left in
    system-here (survey g at) (e g at) c.requires.order.0 (order g at) c.requires.order.1 (i g at) c.loop-field-test.true (target g at) c.requires.way.0
    c.loop-field.new c.requires.way.1 (way g at)
    c.requires.shape c.without-left.result (left-is g at) c.requires.in_range.0 c.requires.in_range.1

pub set-requires-clause-row : goal.set-requires-clause-row
set-requires-clause-row g c = (way g (goal.at.set-requires-clause-row g c).After-without-left).is_row

pub set-requires-clause-kind : goal.set-requires-clause-kind
set-requires-clause-kind g c =
    let at = (goal.at.set-requires-clause-kind g c).After-without-left in
    kind-here (survey g at) (e g at) c.requires.order.0 (order g at) c.requires.order.1 (i g at) c.loop-field-test.true (target g at) c.requires.way.0
    c.loop-field.new c.requires.way.1 (way g at) c.in-Ok.x

pub loop-field-preserved : goal.loop-field-preserved
loop-field-preserved g c =
    let at = (goal.at.loop-field-preserved g c).After-without-left in
    let survey = c.args.task.now.survey.now in
    let e = arc_value c.args.task.now.edits.now in
    let order = c.args.order.now in
    let i = c.loop-field.field-index in
    let target = target_of (option_copied c.args.task.now.donor) in
    let next : suc i ≡ i + 1 = omega arith in (
      λ d h. c.number_for.ensures.serves d (c.loop-field.invariant.0 d h),
      λ f h. c.number_for.ensures.keeps f (c.loop-field.invariant.1 f h),
      λ k. left-is g at k ∙ ap (λ n. has_field (drop n order) k) next,
      λ row given start.
          subst (λ r. IsUnderWay survey (start_lines e) target row (given ++ take (i + 1) order) (drop (i + 1) order) r) (sym c.set.ensures.set)
          (number-turned survey e c.requires.order.0 order c.requires.order.1 i c.loop-field-test.true target row c.loop-field.new given
          (c.loop-field.invariant.3 row given start) c.requires.shape c.without-left.result (left-is g at)
          c.requires.over c.in-Ok.x c.in-Ok.ensures.number),
      subst (λ r. AreComputedBy (start_lines e) target r (take (i + 1) order) (drop (i + 1) order)) (sym c.set.ensures.set)
          (computed-turned survey e c.requires.order.0 order c.requires.order.1 i c.loop-field-test.true target c.requires.way.0 c.loop-field.new
          c.requires.way.1 (way g at) c.requires.shape c.without-left.result (left-is g at)
          c.requires.over c.in-Ok.x c.in-Ok.ensures.number c.loop-field.invariant.4),
      omega (arith, c.loop-field.invariant.5, c.number_for.ensures.counts),
    )

pub returns-in-Err-clause-bound : goal.returns-in-Err-clause-bound
returns-in-Err-clause-bound g c = λ f line row given told start.
    let at = (goal.at.returns-in-Err-clause-bound g c).After-without-left in
    let survey = c.args.task.now.survey.now in
    let e = arc_value c.args.task.now.edits.now in
    let order = c.args.order.now in
    let i = c.loop-field.field-index in
    let target = target_of (option_copied c.args.task.now.donor) in
    let is : c.in-Err.fault ≡ Bound f line = cc in
    let (same, out) = c.in-Err.ensures.bound f line (ap Err is) in
    subst (λ n. StopsAmong survey (start_lines e) target row given order n line) (sym same)
    (number-stopped survey e c.requires.order.0 order c.requires.order.1 i c.loop-field-test.true target row c.loop-field.new given
    (c.loop-field.invariant.3 row given start) c.requires.shape c.without-left.result (left-is g at) line c.loop-field.invariant.4 out)

pub returns-clause-given : goal.returns-clause-given
returns-clause-given g c = λ row given start.
    numbers-end c.args.task.now.survey.now (arc_value c.args.task.now.edits.now) (target_of (option_copied c.args.task.now.donor)) row c.loop-field.new
    given c.args.order.now c.loop-field.field-index (take_all c.loop-field.field-index c.args.order.now c.loop-field-test.false)
    (drop_all c.loop-field.field-index c.args.order.now c.loop-field-test.false) (c.loop-field.invariant.3 row given start)

pub returns-clause-computed : goal.returns-clause-computed
returns-clause-computed g c =
    let order = c.args.order.now in
    let i = c.loop-field.field-index in
    subst (λ fs. AreComputedBy (start_lines (arc_value c.args.task.now.edits.now)) (target_of (option_copied c.args.task.now.donor)) c.loop-field.new fs
    []) (take_all i order c.loop-field-test.false)
    (subst (λ fs. AreComputedBy (start_lines (arc_value c.args.task.now.edits.now)) (target_of (option_copied c.args.task.now.donor)) c.loop-field.new
    (take i order) fs) (drop_all i order c.loop-field-test.false) c.loop-field.invariant.4)

pub returns-in-Err-clause-serves : goal.returns-in-Err-clause-serves
returns-in-Err-clause-serves g c = λ d h. c.number_for.ensures.serves d (c.loop-field.invariant.0 d h)

pub returns-in-Err-clause-keeps : goal.returns-in-Err-clause-keeps
returns-in-Err-clause-keeps g c = λ f h. c.number_for.ensures.keeps f (c.loop-field.invariant.1 f h)
