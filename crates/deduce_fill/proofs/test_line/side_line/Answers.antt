use Rattle.std.proofs.Common.{◌==◌, ◌∙◌, ℤ, FitsSigned, List, ap, if◌then◌else◌, map, pos, refl, rules, sym}
use Rattle.std.proofs.lemmas.Int.{to_z-of_z}
use Rattle.std.proofs.lemmas.List.{take_all}
use mir.Syntax.{w128}
use Rattle.edit_line.specs.Lines.{parts_of}
use Rattle.edit_line.specs.declared.relation.Relation.TheVariants.{Above}
use Rattle.edit_line.specs.Shapes.{shape_of, whole_sets}
use Rattle.edit_line.proofs.ShapeLaws.{number_fields-same}
use Rattle.deduce_fill.proofs.FieldLoops.{map-turn}
use Rattle.deduce_fill.proofs.TestFits.{side-line}
use Rattle.deduce_fill.proofs.test_line.side_line.Goals as goal

pub loop-other-preserved : goal.loop-other-preserved
loop-other-preserved c =
    let fits : FitsSigned w128 c.factor_at.result = search rules in
    let value = simp (to_z-of_z, c.ranges.factor) at c.factor_at.ensures in
    let inv = simp (to_z-of_z, c.ranges.factor) at c.loop-other.invariant in
    simp (to_z-of_z, c.ranges.factor)
    (map-turn (λ g. if g == c.args.field then c.args.factor else pos 0) c.numbers-other-items.result.now c.loop-other.other-index c.loop-other.factors.items
    c.push.new.self.items _ c.loop-other-test.true inv c.in_ok-push.ensures.items
    (to_z-of_z w128 c.factor_at.result fits ∙ value))

pub new-requires : goal.new-requires
new-requires c =
    let inv = simp (to_z-of_z, c.ranges.factor) at c.loop-other.invariant in
    side-line c.args.survey.now.fields c.fields-fields.ensures.well_formed.fields c.args.field c.args.factor c.args.constant _ c.requires.factor
    c.requires.constant (c.in_ok-sets.ensures ∙ ap whole_sets c.of.ensures) refl
    (inv ∙ ap (map (λ g. if g == c.args.field then c.args.factor else pos 0))
    (take_all c.loop-other.other-index c.numbers-other-items.result.now c.loop-other-test.false ∙ c.numbers-other-items.ensures
    ∙ sym (number_fields-same c.args.survey.now.fields)))
    (to_z-of_z w128 c.args.constant c.ranges.constant)

pub returns : goal.returns
returns c =
    let inv = simp (to_z-of_z, c.ranges.factor) at c.loop-other.invariant in
    c.new.ensures
    ∙ ap (λ (z : ℤ). parts_of (shape_of c.args.survey.now.fields) c.in_ok-sets.sets.items c.loop-other.factors.items z Above)
    (to_z-of_z w128 c.args.constant c.ranges.constant)
    ∙ ap (λ ss. parts_of (shape_of c.args.survey.now.fields) ss c.loop-other.factors.items c.args.constant Above)
    (c.in_ok-sets.ensures ∙ ap whole_sets c.of.ensures)
    ∙ ap (λ (fs : List ℤ). parts_of (shape_of c.args.survey.now.fields) (whole_sets (shape_of c.args.survey.now.fields)) fs c.args.constant Above)
    (inv ∙ ap (map (λ g. if g == c.args.field then c.args.factor else pos 0))
    (take_all c.loop-other.other-index c.numbers-other-items.result.now c.loop-other-test.false ∙ c.numbers-other-items.ensures
    ∙ sym (number_fields-same c.args.survey.now.fields)))
