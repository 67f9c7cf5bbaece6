use Rattle.std.proofs.Common.{◌≡◌, ◌∙◌, FitsSigned, List, length, refl, rules, ap, sym, subst}
use Rattle.std.proofs.lemmas.Int.{to_z-of_z}
use mir.Syntax.{w128}
use Rattle.edit_line.specs.Combinations.{combined, in_both, joined}
use Rattle.edit_line.specs.Lines.{LineParts}
use Rattle.edit_line.specs.Sets.{AreSets}
use Rattle.edit_line.specs.Domains.{domains}
use Rattle.edit_line.specs.Shapes.{Domain, whole_sets}
use Rattle.edit_line.proofs.LineSums.{no-place, place-first, place-last, sum-is, sum-line}
use Rattle.edit_line.proofs.SetLaws.{same-sets}
use Rattle.edit_line.proofs.line.Line.write_sum.Goals as goal

pub copy_from_slice-requires : goal.copy_from_slice-requires
copy_from_slice-requires c =
    let shape = c.requires.s_over ∙ sym (ap (λ (l : LineParts). l.shape) c.self.view_is) in
    let same : length c.self.inside.sets.items ≡ length c.sets.result.now = sym (
    ap length c.sets.ensures.sets
    ∙ same-sets c.args.s.now.sets c.self.inside.sets.items (whole_sets c.args.s.now.shape) c.sets.ensures.fit
    (subst (λ (sh : List Domain). AreSets c.self.inside.sets.items (whole_sets sh)) (sym shape) c.self.invariant.sets)
    ) in
    search rules

pub narrow-requires : goal.narrow-requires
narrow-requires c =
    let shape = c.requires.t_over ∙ sym c.requires.s_over in
    let first = c.sets.ensures in
    let second = c.sets-in-Some-sum_of_products.ensures in
    ap length second.sets
    ∙ same-sets c.args.t.now.sets c.args.s.now.sets (whole_sets c.args.t.now.shape) second.fit
    (subst (λ (sh : List Domain). AreSets c.args.s.now.sets (whole_sets sh)) (sym shape) first.fit)
    ∙ sym (ap length (c.copy_from_slice.ensures.items ∙ first.sets))

pub returns-in-Some-clause-place : goal.returns-in-Some-clause-place
returns-in-Some-clause-place c =
    let m_fits = c.ranges.m in
    let n_fits = c.ranges.n in
    let told = simp to_z-of_z at c.in-Some.ensures in
    place-first c.args.m c.args.n c.args.s.now c.args.t.now c.factors.result.now c.factors-2.result.now c.factors.ensures.factors c.factors-2.ensures.factors
    (search rules) c.in-Some.place told.place

pub returns-in-None-sum_of_products-clause-place : goal.returns-in-None-sum_of_products-clause-place
returns-in-None-sum_of_products-clause-place c =
    let m_fits = c.ranges.m in
    let n_fits = c.ranges.n in
    let a_fits : FitsSigned w128 c.constant.result = search rules in
    let b_fits : FitsSigned w128 c.constant-in-None.result = search rules in
    let told = simp to_z-of_z at c.in-None.ensures in
    let sum_is = simp to_z-of_z at c.sum_of_products.ensures in
    place-last c.args.m c.args.n c.args.s.now c.args.t.now c.factors.result.now c.factors-2.result.now c.factors.ensures.factors c.factors-2.ensures.factors
    (search rules) told.place
    c.constant.result c.constant-in-None.result _ c.constant.ensures.constant c.constant-in-None.ensures.constant sum_is c.len.result (search rules)
    c.in-None-sum_of_products.is

pub returns-in-Some-sum_of_products-clause-place : goal.returns-in-Some-sum_of_products-clause-place
returns-in-Some-sum_of_products-clause-place c =
    let m_fits = c.ranges.m in
    let n_fits = c.ranges.n in
    let a_fits : FitsSigned w128 c.constant.result = search rules in
    let b_fits : FitsSigned w128 c.constant-in-None.result = search rules in
    let told = simp to_z-of_z at c.in-None.ensures in
    let sum_is = simp to_z-of_z at c.sum_of_products.ensures in
    let is =
    no-place c.args.m c.args.n c.args.s.now c.args.t.now c.factors.result.now c.factors-2.result.now c.factors.ensures.factors c.factors-2.ensures.factors
    (search rules) told.place
    c.constant.result c.constant-in-None.result _ c.constant.ensures.constant c.constant-in-None.ensures.constant sum_is c.in-Some-sum_of_products.constant
    c.in-Some-sum_of_products.is in
    is.0

pub returns-in-Some-sum_of_products-clause-sum : goal.returns-in-Some-sum_of_products-clause-sum
returns-in-Some-sum_of_products-clause-sum c = λ _.
    let s = c.args.s.now in
    let t = c.args.t.now in
    let m_fits = c.ranges.m in
    let n_fits = c.ranges.n in
    let a_fits : FitsSigned w128 c.constant.result = search rules in
    let b_fits : FitsSigned w128 c.constant-in-None.result = search rules in
    let z_fits : FitsSigned w128 c.in-Some-sum_of_products.constant = search rules in
    let told = simp to_z-of_z at c.in-None.ensures in
    let sum_is = simp to_z-of_z at c.sum_of_products.ensures in
    let is =
    no-place c.args.m c.args.n s t c.factors.result.now c.factors-2.result.now c.factors.ensures.factors c.factors-2.ensures.factors (search rules) told.place
    c.constant.result c.constant-in-None.result _ c.constant.ensures.constant c.constant-in-None.ensures.constant sum_is c.in-Some-sum_of_products.constant
    c.in-Some-sum_of_products.is in
    let shape = sym (ap (λ (l : LineParts). l.shape) c.self.view_is) in
    let sets_are = c.narrow.ensures
    ∙ (λ i. in_both ((c.copy_from_slice.ensures.items ∙ c.sets.ensures.sets) i) (c.sets-in-Some-sum_of_products.ensures.sets i)) in
    let factors_are = told.sums refl ∙ (λ i. combined c.args.m c.args.n (c.factors.ensures.factors i) (c.factors-2.ensures.factors i)) in
    let relation_is = c.sum_relation-self-inside.ensures ∙ (λ i. joined (c.relation.ensures i) (c.relation-in-Some-sum_of_products.ensures i)) in
    sum-is (domains c.self.inside.shape) c.args.m c.args.n _ s t c.narrow.new.sets.items c.write_sums.new.sums.items c.sum_relation-self-inside.result
    (c.requires.s_over ∙ shape) sets_are factors_are
    (to_z-of_z w128 c.in-Some-sum_of_products.constant z_fits ∙ is.1) relation_is

pub invariant_of-self-in-Some-sum_of_products : goal.invariant_of-self-in-Some-sum_of_products
invariant_of-self-in-Some-sum_of_products c =
    let s = c.args.s.now in
    let t = c.args.t.now in
    let m_fits = c.ranges.m in
    let n_fits = c.ranges.n in
    let a_fits : FitsSigned w128 c.constant.result = search rules in
    let b_fits : FitsSigned w128 c.constant-in-None.result = search rules in
    let z_fits : FitsSigned w128 c.in-Some-sum_of_products.constant = search rules in
    let told = simp to_z-of_z at c.in-None.ensures in
    let sum_is = simp to_z-of_z at c.sum_of_products.ensures in
    let is =
    no-place c.args.m c.args.n s t c.factors.result.now c.factors-2.result.now c.factors.ensures.factors c.factors-2.ensures.factors (search rules) told.place
    c.constant.result c.constant-in-None.result _ c.constant.ensures.constant c.constant-in-None.ensures.constant sum_is c.in-Some-sum_of_products.constant
    c.in-Some-sum_of_products.is in
    let shape = sym (ap (λ (l : LineParts). l.shape) c.self.view_is) in
    let sets_are = c.narrow.ensures
    ∙ (λ i. in_both ((c.copy_from_slice.ensures.items ∙ c.sets.ensures.sets) i) (c.sets-in-Some-sum_of_products.ensures.sets i)) in
    let relation_is = c.sum_relation-self-inside.ensures ∙ (λ i. joined (c.relation.ensures i) (c.relation-in-Some-sum_of_products.ensures i)) in
    simp to_z-of_z (sum-line (domains c.self.inside.shape) c.in-Some-sum_of_products.constant s t c.narrow.new.sets.items c.write_sums.new.sums.items
    c.sum_relation-self-inside.result (c.requires.s_over ∙ shape) (c.requires.t_over ∙ shape) sets_are relation_is c.sets.ensures.line
    c.sets-in-Some-sum_of_products.ensures.line c.requires.meet (told.count ∙ c.self.invariant.factors) told.in_range is.2)
