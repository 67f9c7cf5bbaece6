use Rattle.std.proofs.Common.{◌∙◌, ◌%◌, ◌*◌, ◌^◌, ℕ, ℤ, List, ap, arith, length, negsuc, slice_set, subst, sym}
use Rattle.edit_line.specs.Lines.{IsLine, LineParts, parts_of}
use Rattle.edit_line.specs.declared.relation.Relation.TheVariants.{AtLeast}
use Rattle.edit_line.specs.Shapes.{code_fields, number_fields, place_in, shape_of, whole_sets}
use Rattle.edit_line.proofs.NegationLines.{zeros-are}
use Rattle.edit_line.proofs.ShapeLaws.{code_fields-same, length-wholes, number_fields-same, place-within}
use Rattle.deduce_fill.proofs.CodeLines.{power-fits}
use Rattle.deduce_fill.proofs.test_line.other_line.Goals as goal

pub index_mut-requires : goal.index_mut-requires
index_mut-requires c =
    let shape = shape_of c.args.survey.now.fields in
    let sets_are = c.in_ok-sets.ensures ∙ ap whole_sets c.of.ensures in
    let place_is = c.place_among-place.ensures ∙ ap (λ fs. place_in fs c.args.field) (c.codes.ensures ∙ sym (code_fields-same c.args.survey.now.fields)) in
    omega (arith, place_is, place-within (code_fields shape) c.args.field c.requires.field, length-wholes 0 shape, ap length sets_are, c.in_ok-sets.sets.ok)

pub new-requires : goal.new-requires
new-requires c =
    let shape = shape_of c.args.survey.now.fields in
    let sets_are = c.in_ok-sets.ensures ∙ ap whole_sets c.of.ensures in
    let place_is = c.place_among-place.ensures ∙ ap (λ fs. place_in fs c.args.field) (c.codes.ensures ∙ sym (code_fields-same c.args.survey.now.fields)) in
    let zeros = c.in_ok-factors.ensures.items_if_clones_equal (λ y e. e)
    ∙ zeros-are (number_fields shape) (length c.numbers.result.now) (ap length (c.numbers.ensures ∙ sym (number_fields-same c.args.survey.now.fields))) in
    subst (λ (l : LineParts). IsLine l)
    (sym (ap (λ (ss : List ℕ). parts_of shape
    (slice_set ss c.place_among-place.result (1 * 2 ^ c.args.code % 18446744073709551616)) c.in_ok-factors.factors.items (negsuc 0) AtLeast) sets_are
    ∙ ap (λ n. parts_of shape (slice_set (whole_sets shape) n (1 * 2 ^ c.args.code % 18446744073709551616)) c.in_ok-factors.factors.items (negsuc 0) AtLeast)
    place_is
    ∙ ap (λ n. parts_of shape (slice_set (whole_sets shape) (place_in (code_fields shape) c.args.field) n) c.in_ok-factors.factors.items (negsuc 0) AtLeast)
    (power-fits c.args.code c.requires.code)
    ∙ ap (λ (fs : List ℤ). parts_of shape (slice_set (whole_sets shape) (place_in (code_fields shape) c.args.field) (2 ^ c.args.code)) fs (negsuc 0) AtLeast)
    zeros))
    c.requires.line

pub returns : goal.returns
returns c =
    let shape = shape_of c.args.survey.now.fields in
    let sets_are = c.in_ok-sets.ensures ∙ ap whole_sets c.of.ensures in
    let place_is = c.place_among-place.ensures ∙ ap (λ fs. place_in fs c.args.field) (c.codes.ensures ∙ sym (code_fields-same c.args.survey.now.fields)) in
    let zeros = c.in_ok-factors.ensures.items_if_clones_equal (λ y e. e)
    ∙ zeros-are (number_fields shape) (length c.numbers.result.now) (ap length (c.numbers.ensures ∙ sym (number_fields-same c.args.survey.now.fields))) in
    c.new.ensures
    ∙ ap (λ (ss : List ℕ). parts_of shape (slice_set ss c.place_among-place.result (1 * 2 ^ c.args.code % 18446744073709551616)) c.in_ok-factors.factors.items
    (negsuc 0) AtLeast) sets_are
    ∙ ap (λ n. parts_of shape (slice_set (whole_sets shape) n (1 * 2 ^ c.args.code % 18446744073709551616)) c.in_ok-factors.factors.items (negsuc 0) AtLeast)
    place_is
    ∙ ap (λ n. parts_of shape (slice_set (whole_sets shape) (place_in (code_fields shape) c.args.field) n) c.in_ok-factors.factors.items (negsuc 0) AtLeast)
    (power-fits c.args.code c.requires.code)
    ∙ ap (λ (fs : List ℤ). parts_of shape (slice_set (whole_sets shape) (place_in (code_fields shape) c.args.field) (2 ^ c.args.code)) fs (negsuc 0) AtLeast)
    zeros
