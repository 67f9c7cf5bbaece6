use Rattle.std.proofs.Common.{◌≡◌, ◌<◌, ℕ, true, length, refl, rules, ap, subst, sym, slice_set, ◌∙◌}
use Rattle.edit_line.specs.Sets.{AreSets, none_is_empty}
use Rattle.edit_line.specs.Shapes.{shape_of, whole_sets}
use Rattle.derivation.proofs.CodePlaces.{place-wholes}
use Rattle.derivation.proofs.WholeBoxes.{common-fits, within-sets}
use Rattle.derivation.proofs.covering.cover_at.Goals as goal

pub whole_at-requires : goal.whole_at-requires
whole_at-requires c = place-wholes (shape_of c.args.basis.now.survey.now.fields) c.args.field c.args.place c.requires.place

pub index_mut-requires : goal.index_mut-requires
index_mut-requires c =
    let shape = shape_of c.args.basis.now.survey.now.fields in
    let below : c.args.place < length c.args.common.items = within-sets shape c.args.field c.args.place (whole_sets shape) c.requires.place refl
    c.args.common.items c.requires.within in
    search rules

pub new-code_box-requires : goal.new-code_box-requires
new-code_box-requires c =
    let shape = shape_of c.args.basis.now.survey.now.fields in
    let told : none_is_empty (slice_set c.args.common.items c.args.place c.in_ok-whole.whole) ≡ true = ap none_is_empty (sym c.deref.ensures.value)
    ∙ sym c.has_codes.ensures ∙ c.if-has_codes.true in
    let full = ap (λ (w : ℕ). none_is_empty (slice_set c.args.common.items c.args.place w)) (sym c.in_ok-whole.ensures) ∙ told in
    subst (λ (w : ℕ). AreSets (slice_set c.args.common.items c.args.place w) (whole_sets shape)) (sym c.in_ok-whole.ensures)
    (common-fits shape c.args.field c.args.place (whole_sets shape) c.requires.place refl c.args.common.items c.requires.within full)
