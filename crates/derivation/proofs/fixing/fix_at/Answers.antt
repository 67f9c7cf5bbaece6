use Rattle.std.proofs.Common.{◌<◌, ℕ, Some, ap, false, true, length, refl, rules, slice_set, subst, sym, ◌∙◌, arith}
use Rattle.edit_line.specs.Boxes.{BoxParts}
use Rattle.edit_line.specs.Sets.{AreSets}
use Rattle.edit_line.specs.Shapes.{code_fields, shape_of, whole_sets}
use Rattle.derivation.specs.declared.proved.Proved.{Proved}
use Rattle.derivation.specs.declared.proved.Proved.TheVariants.{Box}
use Rattle.derivation.proofs.CodePlaces.{fixed-by, place-wholes, there-has, whole-made}
use Rattle.derivation.proofs.FieldNumbers.{code-within}
use Rattle.derivation.proofs.WholeBoxes.{whole-fits, within-box}
use Rattle.std.proofs.lemmas.Grind.{common_steps}
use Rattle.derivation.proofs.fixing.fix_at.Goals as goal

pub offset_bounds-sets-place : goal.offset_bounds-sets-place
offset_bounds-sets-place c =
    let shape = shape_of c.args.basis.now.survey.now.fields in
    let below : c.args.place < length c.sets.result.now =
    within-box shape _ c.args.place _ c.sets.result.now (place-wholes shape c.args.field c.args.place c.requires.place) c.requires.over c.sets.ensures.fit
    c.sets.ensures.sets in
    search rules

pub bounds-sets-place : goal.bounds-sets-place
bounds-sets-place c =
    let shape = shape_of c.args.basis.now.survey.now.fields in
    within-box shape _ c.args.place _ c.sets.result.now (place-wholes shape c.args.field c.args.place c.requires.place) c.requires.over c.sets.ensures.fit
    c.sets.ensures.sets

pub value-requires : goal.value-requires
value-requires c =
    let fields = c.args.basis.now.survey.now.fields in
    code-within fields c.args.basis.now.row.now c.args.field c.requires.basis.row (there-has (code_fields (shape_of fields)) c.args.field c.args.place
    c.requires.place).0

pub whole_at-requires : goal.whole_at-requires
whole_at-requires c = place-wholes (shape_of c.args.basis.now.survey.now.fields) c.args.field c.args.place c.requires.place

pub new-code_box-requires : goal.new-code_box-requires
new-code_box-requires c =
    let shape = shape_of c.args.basis.now.survey.now.fields in
    subst (λ (w : ℕ). AreSets (slice_set c.in_ok-sets.sets.items c.args.place w) (whole_sets shape)) (sym c.in_ok-whole.ensures) (
    whole-fits shape c.args.field c.args.place (whole_sets shape) c.requires.place refl c.args.code_box.now.shape c.args.code_box.now.sets
    c.in_ok-sets.sets.items c.requires.over c.sets-2.ensures.fit (c.in_ok-sets.ensures.items ∙ c.sets-2.ensures.sets)
    )

pub returns-then-not-has_value : goal.returns-then-not-has_value
returns-then-not-has_value c =
    let shape = shape_of c.args.basis.now.survey.now.fields in
    sym (fixed-by shape c.args.field c.args.place c.args.code_box.now.sets c.requires.place _ c.value.result.now c.sets.result.now false c.value.ensures
    c.sets.ensures.sets (sym c.has_value.ensures ∙ c.if-not-has_value.true))

pub returns : goal.returns
returns c =
    let shape = shape_of c.args.basis.now.survey.now.fields in
    let sets = c.args.code_box.now.sets in
    ap (λ (x : Proved). Some x) (c.in_ok-of_box.ensures ∙ ap (λ (b : BoxParts). Box b) c.new-code_box.ensures
    ∙ whole-made shape c.args.field c.args.place sets c.requires.place c.in_ok-sets.sets.items c.in_ok-whole.whole
    (c.in_ok-sets.ensures.items ∙ c.sets-2.ensures.sets) c.in_ok-whole.ensures)
    ∙ sym (fixed-by shape c.args.field c.args.place sets c.requires.place _ c.value.result.now c.sets.result.now true c.value.ensures
    c.sets.ensures.sets (sym c.has_value.ensures ∙ c.if-not-has_value.false))

pub index_mut-requires : goal.index_mut-requires
index_mut-requires c = grind (arith, common_steps)
