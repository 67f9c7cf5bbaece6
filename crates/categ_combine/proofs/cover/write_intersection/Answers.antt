use Rattle.std.proofs.Common.{◌≡◌, ◌++◌, ◌<◌, ℕ, List, length, rules, ap, arith, subst, sym, slice_set, ◌∙◌}
use Rattle.edit_line.specs.Sets.{AreSets, none_is_empty}
use Rattle.edit_line.specs.Shapes.{Domain, whole_sets}
use Rattle.edit_line.specs.Combinations.{in_both}
use Rattle.edit_line.proofs.SetLaws.{AreSets-length}
use Rattle.categ_combine.proofs.SpotLaws.{common-sets, common-within}
use Rattle.categ_combine.proofs.cover.write_intersection.Goals as goal
use Rattle.categ_combine.proofs.cover.write_intersection.Goals.{After-narrow}

pub narrow-requires : goal.narrow-requires
narrow-requires c =
    let filled : c.extend_from_slice.new.self.items ≡ c.args.cover.now.code_box.sets = c.in_ok-extend_from_slice.ensures.items
    ∙ ap (λ (ss : List ℕ). ss ++ c.sets.result.now) c.clear.ensures.items ∙ c.sets.ensures.sets in
    omega (
      arith,
      ap length filled,
      ap length c.sets-2.ensures.sets,
      AreSets-length _ _ c.sets.ensures.fit,
      AreSets-length _ _ c.sets-2.ensures.fit,
      ap (λ (s : List Domain). length (whole_sets s)) c.requires.cover,
      ap (λ (s : List Domain). length (whole_sets s)) c.requires.other,
    )

module _ (c : After-narrow) where
  joined : c.narrow.new.sets.items ≡ in_both c.args.cover.now.code_box.sets c.args.b.now.code_box.sets
  joined =
      let filled : c.extend_from_slice.new.self.items ≡ c.args.cover.now.code_box.sets = c.in_ok-extend_from_slice.ensures.items
      ∙ ap (λ (ss : List ℕ). ss ++ c.sets.result.now) c.clear.ensures.items ∙ c.sets.ensures.sets in
      c.narrow.ensures ∙ ap (λ (ss : List ℕ). in_both ss c.sets-2.result.now) filled
      ∙ ap (λ (ss : List ℕ). in_both c.args.cover.now.code_box.sets ss) c.sets-2.ensures.sets

pub index_mut-requires : goal.index_mut-requires
index_mut-requires c =
    let at = (goal.at.index_mut-requires c).After-narrow in
    let within = common-within _ _ _ c.args.cover.now.code_box.sets c.args.b.now.code_box.sets c.args.spot.now.place c.args.spot.now.whole
    c.args.spot.now.stands c.requires.cover c.requires.other c.sets.ensures.fit c.sets-2.ensures.fit in
    let below : c.args.spot.now.place < length c.narrow.new.sets.items = omega (arith, within, ap length (joined at)) in
    search rules

pub returns-clause-fit : goal.returns-clause-fit
returns-clause-fit c = λ told.
    let at = (goal.at.returns-clause-fit c).After-narrow in
    let place = c.args.spot.now.place in
    let whole = c.args.spot.now.whole in
    let cover = c.args.cover.now.code_box in
    let other = c.args.b.now.code_box in
    let some = ap (λ (ss : List ℕ). none_is_empty (slice_set ss place whole)) (sym (joined at)) ∙ told in
    let are = common-sets _ _ _ cover.sets other.sets place whole c.args.spot.now.stands c.requires.cover c.requires.other c.sets.ensures.fit
    c.sets-2.ensures.fit some in
    subst (λ (ss : List ℕ). AreSets (slice_set ss place whole) (whole_sets cover.shape)) (sym (joined at)) are
