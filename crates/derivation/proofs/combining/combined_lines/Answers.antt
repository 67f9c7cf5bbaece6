use Rattle.std.proofs.Common.{◌≡◌, ◌<ℤ◌, FitsSigned, List, true, length, pos, rules, ap, sym, subst, ◌∙◌, ℤ}
use Rattle.std.proofs.lemmas.Int.{to_z-of_z}
use mir.Syntax.{w128}
use Rattle.edit_line.specs.Combinations.{all_meet, divides}
use Rattle.edit_line.specs.Divisors.{divided_by}
use Rattle.edit_line.specs.Lines.{LineParts}
use Rattle.edit_line.specs.Sets.{AreSets}
use Rattle.edit_line.specs.Shapes.{Domain, whole_sets}
use Rattle.edit_line.proofs.SetLaws.{same-sets}
use Rattle.derivation.specs.ValidSteps.{only_if}
use Rattle.derivation.specs.declared.proved.Proved.TheVariants as proved
use Rattle.derivation.proofs.CombineSteps.{above-divisor, in-range, overflowing}
use Rattle.derivation.proofs.combining.combined_lines.Goals as goal

pub all_meet-requires : goal.all_meet-requires
all_meet-requires c =
    let second = subst (λ (shape : List Domain). AreSets c.args.t.now.sets (whole_sets shape)) c.requires c.sets-else-not-are_allowed.ensures.fit in
    ap length c.sets.ensures.sets ∙ same-sets c.args.s.now.sets c.args.t.now.sets (whole_sets c.args.s.now.shape) c.sets.ensures.fit second
    ∙ sym (ap length c.sets-else-not-are_allowed.ensures.sets)

pub returns-in-Some : goal.returns-in-Some
returns-in-Some c =
    let by = c.args.by in
    let m_fits : FitsSigned w128 by.first = search rules in
    let n_fits : FitsSigned w128 by.second = search rules in
    let place_is = simp to_z-of_z at c.write_sum.ensures.place in
    let allowed = sym c.are_allowed.ensures ∙ c.if-not-are_allowed.false in
    let meet : all_meet c.args.s.now.sets c.args.t.now.sets
    ≡ true = sym (c.all_meet.ensures ∙ (λ i. all_meet (c.sets.ensures.sets i) (c.sets-else-not-are_allowed.ensures.sets i))) ∙ c.if-not-all_meet.false in
    overflowing by.first by.second by.divisor c.args.s.now c.args.t.now allowed meet c.in-Some.field-0 (sym place_is ∙ c.in-Some.is)

pub exact_quotient-requires : goal.exact_quotient-requires
exact_quotient-requires c =
    let by = c.args.by in
    let g_fits : FitsSigned w128 by.divisor = search rules in
    let allowed = sym c.are_allowed.ensures ∙ c.if-not-are_allowed.false in
    subst (λ (z : ℤ). pos 0 <ℤ z) (sym (to_z-of_z w128 by.divisor g_fits)) (above-divisor by.first by.second by.divisor c.args.s.now c.args.t.now allowed)

pub returns-in-None : goal.returns-in-None
returns-in-None c =
    let by = c.args.by in
    let m_fits : FitsSigned w128 by.first = search rules in
    let n_fits : FitsSigned w128 by.second = search rules in
    let g_fits : FitsSigned w128 by.divisor = search rules in
    let place_is = simp to_z-of_z at c.write_sum.ensures.place in
    let sum_is = simp to_z-of_z at (c.write_sum.ensures.sum c.in-None.is) in
    let told = simp to_z-of_z at c.exact_quotient.ensures in
    let allowed = sym c.are_allowed.ensures ∙ c.if-not-are_allowed.false in
    let meet : all_meet c.args.s.now.sets c.args.t.now.sets
    ≡ true = sym (c.all_meet.ensures ∙ (λ i. all_meet (c.sets.ensures.sets i) (c.sets-else-not-are_allowed.ensures.sets i))) ∙ c.if-not-all_meet.false in
    told ∙ ap (λ (line : LineParts). only_if (divides by.divisor line) (proved.Line (divided_by by.divisor line))) sum_is
    ∙ in-range by.first by.second by.divisor c.args.s.now c.args.t.now allowed meet (sym place_is ∙ c.in-None.is)
