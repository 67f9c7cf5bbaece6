use Rattle.std.proofs.Common.{◌≡◌, ◌++◌, ◌∷◌, [], ℕ, List, ap, append-nil, arith, length, subst, sym, true, false, ◌∙◌}
use Rattle.edit_line.specs.Lines.{LineParts}
use Rattle.edit_line.specs.Negations.{never}
use Rattle.edit_line.specs.Sets.{none_is_empty}
use Rattle.edit_line.specs.Shapes.{code_fields, place_in, shape_of, whole_sets}
use Rattle.edit_line.specs.inner.SetBounds.{AreWithin}
use Rattle.edit_line.proofs.ShapeLaws.{code_fields-same, length-wholes, number_fields-same, place-within}
use Rattle.edit_normal.specs.RuleEdits.{placed_from}
use Rattle.edit_normal.proofs.Pushes.{never-is, never-line}
use Rattle.panel_link.proofs.PinParts.{code-full, code-none, others, others-are, others-within}
use Rattle.panel_link.proofs.pins.push_code_pin.Goals as goal

pub remove_code-requires-clause-place : goal.remove_code-requires-clause-place
remove_code-requires-clause-place c =
    let shape = shape_of c.args.survey.now.fields in
    let sets_are = c.in_ok-sets.ensures ∙ ap whole_sets c.of-shape.ensures in
    let place_is = c.place_among.ensures ∙ ap (λ (fs : List ℕ). place_in fs c.args.field) (c.codes.ensures ∙ sym (code_fields-same c.args.survey.now.fields)) in
    omega (arith, place_is, place-within (code_fields shape) c.args.field c.requires.field, length-wholes 0 shape, ap length sets_are)

pub over-requires : goal.over-requires
over-requires c =
    let shape = shape_of c.args.survey.now.fields in
    let place_is = c.place_among.ensures ∙ ap (λ (fs : List ℕ). place_in fs c.args.field) (c.codes.ensures ∙ sym (code_fields-same c.args.survey.now.fields)) in
    let sets_is : c.remove_code.new.sets.items ≡ others shape c.args.field c.args.code = others-are shape c.args.field c.args.code c.in_ok-sets.sets.items
    c.remove_code.new.sets.items c.place_among.result (c.in_ok-sets.ensures ∙ ap whole_sets c.of-shape.ensures) place_is c.remove_code.ensures in
    let full : none_is_empty c.remove_code.new.sets.items ≡ true = ap (λ (ss : List ℕ). none_is_empty ss) (sym c.deref.ensures.value)
    ∙ sym c.have_codes.ensures ∙ c.if-have_codes.true in
    never-line _ shape c.remove_code.new.sets.items c.numbers.result.now c.in_ok-factors.factors.items c.of-shape.ensures
    (c.numbers.ensures ∙ sym (number_fields-same c.args.survey.now.fields)) (c.in_ok-factors.ensures.items_if_clones_equal (λ y e. e)) full
    (subst (λ (ss : List ℕ). AreWithin ss (whole_sets shape)) (sym sets_is) (others-within shape c.args.field c.args.code))

pub returns-in_ok-push_line : goal.returns-in_ok-push_line
returns-in_ok-push_line c =
    let shape = shape_of c.args.survey.now.fields in
    let before = c.args.lines.now.items in
    let place_is = c.place_among.ensures ∙ ap (λ (fs : List ℕ). place_in fs c.args.field) (c.codes.ensures ∙ sym (code_fields-same c.args.survey.now.fields)) in
    let sets_is : c.remove_code.new.sets.items ≡ others shape c.args.field c.args.code = others-are shape c.args.field c.args.code c.in_ok-sets.sets.items
    c.remove_code.new.sets.items c.place_among.result (c.in_ok-sets.ensures ∙ ap whole_sets c.of-shape.ensures) place_is c.remove_code.ensures in
    let full : none_is_empty c.remove_code.new.sets.items ≡ true = ap (λ (ss : List ℕ). none_is_empty ss) (sym c.deref.ensures.value)
    ∙ sym c.have_codes.ensures ∙ c.if-have_codes.true in
    let line_is = c.over.ensures
    ∙ never-is _ shape c.remove_code.new.sets.items c.numbers.result.now c.in_ok-factors.factors.items c.of-shape.ensures
    (c.numbers.ensures ∙ sym (number_fields-same c.args.survey.now.fields)) (c.in_ok-factors.ensures.items_if_clones_equal (λ y e. e))
    ∙ ap (λ (ss : List ℕ). never shape ss) sets_is in
    c.in_ok-push_line.ensures ∙ ap (λ (l : LineParts). before ++ (length before, l) ∷ []) line_is
    ∙ ap (λ (ls : List LineParts). before ++ placed_from (length before) ls)
    (sym (code-full shape c.args.field c.args.code (ap (λ (ss : List ℕ). none_is_empty ss) (sym sets_is) ∙ full)))

pub returns-else-have_codes : goal.returns-else-have_codes
returns-else-have_codes c =
    let shape = shape_of c.args.survey.now.fields in
    let before = c.args.lines.now.items in
    let place_is = c.place_among.ensures ∙ ap (λ (fs : List ℕ). place_in fs c.args.field) (c.codes.ensures ∙ sym (code_fields-same c.args.survey.now.fields)) in
    let sets_is : c.remove_code.new.sets.items ≡ others shape c.args.field c.args.code = others-are shape c.args.field c.args.code c.in_ok-sets.sets.items
    c.remove_code.new.sets.items c.place_among.result (c.in_ok-sets.ensures ∙ ap whole_sets c.of-shape.ensures) place_is c.remove_code.ensures in
    let empty : none_is_empty c.remove_code.new.sets.items ≡ false = ap (λ (ss : List ℕ). none_is_empty ss) (sym c.deref.ensures.value)
    ∙ sym c.have_codes.ensures ∙ c.if-have_codes.false in
    sym (append-nil before)
    ∙ ap (λ (ls : List LineParts). before ++ placed_from (length before) ls)
    (sym (code-none shape c.args.field c.args.code (ap (λ (ss : List ℕ). none_is_empty ss) (sym sets_is) ∙ empty)))
