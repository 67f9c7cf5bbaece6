use Rattle.std.proofs.Common.{◌∙◌, List, option_copied, reverse, sym, ap, subst}
use Rattle.std.proofs.lemmas.Bool.Decides.{Decides-eqb}
use Rattle.std.proofs.lemmas.List.{nil_from_length}
use Rattle.std.specs.Arc.{arc_value}
use Rattle.std.specs.List.{filter}
use Rattle.edit_model.specs.Corrections.{number_fields}
use Rattle.edit_model.specs.FieldSets.{has_number}
use Rattle.edit_line.specs.Reductions.{lines_of}
use Rattle.edit_line.specs.Shapes.{Domain}
use Rattle.linear_elim.specs.Systems.{AreNumerical, chosen_fields, system, system_of}
use Rattle.back_subst.specs.Given.{target_of}
use Rattle.back_subst.specs.inner.Systems.{start_lines}
use Rattle.back_subst.proofs.OrderLaws.{all-numerical, chosen-all}
use Rattle.back_subst.proofs.ReadyLaws.{codes-given, codes-ready, no-codes, system-made}
use Rattle.back_subst.proofs.SystemLines.{no-overflow, system-lines}
use Rattle.back_subst.proofs.imputation.with_codes.Goals as goal

pub system-requires-clause-numerical : goal.system-requires-clause-numerical
system-requires-clause-numerical g c =
    let survey = c.args.task.now.survey.now in
    subst (λ (sh : List Domain). AreNumerical sh c.set_of.result) (sym c.requires.path.shape)
    (all-numerical survey.fields c.args.codes.now c.args.numbers.now c.requires.order.0 c.set_of.result c.set_of.ensures)

pub give_codes-requires-clause-ready : goal.give_codes-requires-clause-ready
give_codes-requires-clause-ready g c =
    let survey = c.args.task.now.survey.now in
    let e = arc_value c.args.task.now.edits.now in
    let orders = c.requires.order.0 in
    let chosen = ap (λ sh. chosen_fields sh c.set_of.result) c.requires.path.shape
    ∙ chosen-all survey.fields c.args.codes.now c.args.numbers.now orders c.set_of.result c.set_of.ensures in
    let made = system-lines c.system-in-Ok.result.now e c.set_of.result c.lines.result.now c.lines.ensures.lines
    (ap (λ t. t.edits) c.system-in-Ok.ensures ∙ c.in-Ok.ensures.edits) (ap (λ t. t.fields) c.system-in-Ok.ensures ∙ c.in-Ok.ensures.fields)
    c.lines.ensures.system c.lines.ensures.over in
    codes-ready survey e c.args.task.now.row.now c.args.task.now.changed c.requires.case c.requires.path c.args.numbers.now
    (orders.numbers_are ∙ ap (λ n. reverse (filter (has_number n) (number_fields survey.fields))) c.requires.order.1) c.args.codes.now orders
    c.requires.order.1 (target_of (option_copied c.args.task.now.donor))
    c.in_ok-new.new c.in_ok-new.ensures.row c.in_ok-new.ensures.blank c.in_ok-new.ensures.kept (lines_of c.lines.result.now)
    (made.0 ∙ ap (λ fs. system (start_lines e) fs) chosen)

pub unreachable-requires : goal.unreachable-requires
unreachable-requires g c =
    let survey = c.args.task.now.survey.now in
    let e = arc_value c.args.task.now.edits.now in
    let orders = c.requires.order.0 in
    let chosen = ap (λ sh. chosen_fields sh c.set_of.result) c.requires.path.shape
    ∙ chosen-all survey.fields c.args.codes.now c.args.numbers.now orders c.set_of.result c.set_of.ensures in
    let (lines, made) = system-made survey e c.args.task.now.row.now c.args.task.now.changed c.requires.case c.requires.path c.args.numbers.now
    (orders.numbers_are ∙ ap (λ n. reverse (filter (has_number n) (number_fields survey.fields))) c.requires.order.1) in
    no-overflow c.in-Err-Overflow.field-0 _ _ _ _ (system_of e.lines (chosen_fields e.shape c.set_of.result)) lines c.in-Err-Overflow.field-0-is
    c.in-Err-Overflow.ensures.exact (ap (λ fs. system_of e.lines fs) chosen ∙ made)

pub returns-in_ok-give_codes-in-Ok-clause-given : goal.returns-in_ok-give_codes-in-Ok-clause-given
returns-in_ok-give_codes-in-Ok-clause-given g c =
    let survey = c.args.task.now.survey.now in
    let e = arc_value c.args.task.now.edits.now in
    let orders = c.requires.order.0 in
    let chosen = ap (λ sh. chosen_fields sh c.set_of.result) c.requires.path.shape
    ∙ chosen-all survey.fields c.args.codes.now c.args.numbers.now orders c.set_of.result c.set_of.ensures in
    let made = system-lines c.system-in-Ok.result.now e c.set_of.result c.lines.result.now c.lines.ensures.lines
    (ap (λ t. t.edits) c.system-in-Ok.ensures ∙ c.in-Ok.ensures.edits) (ap (λ t. t.fields) c.system-in-Ok.ensures ∙ c.in-Ok.ensures.fields)
    c.lines.ensures.system c.lines.ensures.over in
    codes-given survey e c.args.task.now.row.now c.args.task.now.changed c.requires.case c.requires.path c.args.numbers.now
    (orders.numbers_are ∙ ap (λ n. reverse (filter (has_number n) (number_fields survey.fields))) c.requires.order.1) c.args.codes.now orders
    c.requires.order.1 (target_of (option_copied c.args.task.now.donor))
    c.in_ok-new.new c.in_ok-new.ensures.row c.in_ok-new.ensures.blank c.in_ok-new.ensures.kept (lines_of c.lines.result.now)
    (made.0 ∙ ap (λ fs. system (start_lines e) fs) chosen) _ c.in_ok-give_codes-in-Ok.ensures

pub returns-then-is_empty-clause-given : goal.returns-then-is_empty-clause-given
returns-then-is_empty-clause-given g c =
    let survey = c.args.task.now.survey.now in
    let orders = c.requires.order.0 in
    no-codes survey (arc_value c.args.task.now.edits.now) c.args.task.now.row.now c.args.task.now.changed c.requires.case c.requires.path
    c.args.numbers.now (orders.numbers_are ∙ ap (λ n. reverse (filter (has_number n) (number_fields survey.fields))) c.requires.order.1)
    c.args.codes.now orders c.requires.order.1 (target_of (option_copied c.args.task.now.donor))
    c.in_ok-new.new c.in_ok-new.ensures.row c.in_ok-new.ensures.blank c.in_ok-new.ensures.kept
    (nil_from_length c.args.codes.now ((Decides-eqb _ _).0 (sym c.if-is_empty.ensures)))
