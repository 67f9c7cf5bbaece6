use Rattle.std.proofs.Common.{◌≡◌, ℕ, ◌≤◌, Bool, false, List, [], ◌∷◌, Some, None, Option, IsSomeAnd, inl, inr, refl, sym, ap, ◌∙◌, subst, arith}
use Rattle.std.specs.List.{AllByRecursion}
use Rattle.edit_model.specs.Corrections.{change_weight, differs_from, path_order, word_of}
use Rattle.edit_model.specs.Points.{HasCodesFrom, Point}
use Rattle.edit_model.specs.Rows.{IsRow, value_of}
use Rattle.edit_model.specs.declared.value.Value.{Value}
use Rattle.edit_line.specs.Lines.{AllHold, AreOver}
use Rattle.edit_line.specs.Reductions.{IsIn}
use Rattle.edit_line.specs.Sets.{AreCodesIn}
use Rattle.edit_line.specs.Shapes.{Domain, HasCodes, codes_at, shape_of, whole_sets}
use Rattle.edit_line.proofs.Members.{in-map-out}
use Rattle.edit_line.proofs.PointCodes.{wholes-inside}
use Rattle.edit_line.proofs.BoolLaws.{both_true}
use Rattle.edit_line.proofs.SetLaws.{is_inside-Decides}
use Rattle.edit_line.proofs.ShapeLaws.{HasCodes-shape}
use Rattle.derivation.specs.Premises.{AgreesAt, usable_lines}
use Rattle.derivation.specs.ValidSteps.{AreValidSteps}
use Rattle.derivation.specs.declared.proved.Proved.{Proved}
use Rattle.derivation.specs.declared.proved.Proved.TheVariants as proved
use Rattle.derivation.specs.declared.step.Step.{Step}
use Rattle.derivation.proofs.FailLaws.{failed-outside}
use Rattle.derivation.proofs.Soundness.{steps-shown}
use Rattle.bound_cert.specs.Paths.{kept_set, path_weight}
use Rattle.bound_cert.specs.ValidTrees.{TreeCase, IsValidLeaf, IsValidTree, NoneIsLighter, Refutes, premises_at}
use Rattle.bound_cert.specs.declared.cert.Leaf.{Leaf}
use Rattle.bound_cert.specs.declared.cert.LeafWhy.{LeafWhy}
use Rattle.bound_cert.specs.declared.cert.LeafWhy.TheVariants as why
use Rattle.bound_cert.proofs.Letters.{kept_in}
use Rattle.bound_cert.proofs.PathLaws.{agreeing-weighs, bad-there, kept-agrees, kept-held, kept-there}
use Rattle.bound_cert.proofs.TreeLaws.{Agree, one-agrees}

-- What a valid tree shows.

module _ (c : TreeCase) (are : IsRow c.survey.fields c.row) (over : AreOver (shape_of c.survey.fields) c.given) where
  module _ (p : Point) (held : HasCodesFrom 0 c.survey.fields p) (hold : AllHold (usable_lines c.given c.usable) p) (path : List Bool)
      (agrees : Agree path (word_of c.survey c.row p)) where
    agrees-there : (f : ℕ) → IsIn f (kept_in (path_order c.survey.fields) path) → differs_from (value_of c.row f) p f ≡ false
    agrees-there f there = kept-agrees (λ g. differs_from (value_of c.row g) p g) (path_order c.survey.fields) path agrees f there

    agrees-kept : AgreesAt c.row (kept_set c.survey.fields c.row path) p
    agrees-kept f has = agrees-there f (kept-there c.survey.fields c.row path f has).0

    shaped : HasCodes 0 (shape_of c.survey.fields) p
    shaped = HasCodes-shape 0 c.survey.fields p held

    inside : (sets : List ℕ) → sets ≡ whole_sets (shape_of c.survey.fields) → AreCodesIn sets (codes_at (shape_of c.survey.fields) p)
    inside sets whole = subst (λ (ss : List ℕ). AreCodesIn ss (codes_at (shape_of c.survey.fields) p)) (sym whole)
        ((is_inside-Decides _ _).0 (wholes-inside (shape_of c.survey.fields) p shaped))

    -- a path that is refuted has no such point
    not-refuted : (steps : List Step) (last : Proved) → AreValidSteps (premises_at c path) steps last → Refutes (premises_at c path) last → ⊥
    not-refuted steps (proved.Box code_box) valid whole =
        let (shown, of_shape) = steps-shown (premises_at c path) c.survey.fields steps (proved.Box code_box) refl are (kept-held c.survey.fields c.row path)
        over valid in
        shown p shaped agrees-kept hold (inside code_box.sets whole)
    not-refuted steps (proved.Line line) valid (whole, fails) =
        let (shown, of_shape) = steps-shown (premises_at c path) c.survey.fields steps (proved.Line line) refl are (kept-held c.survey.fields c.row path) over
        valid in
        let (kept, false_there) = both_true _ _ fails in
        failed-outside c.survey.fields c.row (kept_set c.survey.fields c.row path) line are (kept-held c.survey.fields c.row path) of_shape kept false_there p
        agrees-kept (shown p hold)
        (subst (λ (s : List Domain). AreCodesIn line.sets (codes_at s p)) (sym of_shape) (inside line.sets whole))

    -- a valid leaf weighs enough
    leaf-weighs : (reason : LeafWhy) → IsValidLeaf c path reason → IsSomeAnd c.weight (λ w. w ≤ change_weight c.survey c.row p)
    leaf-weighs why.Bound valid = by c.weight valid
      where
        by : (weight : Option ℕ) → IsSomeAnd weight (λ w. w ≤ path_weight c.survey.fields path) → IsSomeAnd weight (λ w. w ≤ change_weight c.survey c.row p)
        by None none = none
        by (Some w) enough = omega (arith, enough, agreeing-weighs c.survey c.row p path are agrees)
    leaf-weighs why.BadKept valid =
        let (f, there, bad) = bad-there c.survey.fields c.row path valid in
        absurd (cc (sym (ap (λ (v : Value). differs_from v p f) bad) ∙ agrees-there f there))
    leaf-weighs (why.Line steps) (line, valid, refutes) = absurd (not-refuted steps (proved.Line line) valid refutes)
    leaf-weighs (why.Box steps) (code_box, valid, refutes) = absurd (not-refuted steps (proved.Box code_box) valid refutes)

  -- a valid tree shows its weight
  pub tree-shows : (leaves : List Leaf) → IsValidTree c leaves → NoneIsLighter c
  tree-shows leaves valid p held hold =
      let (path, there, agrees) = one-agrees valid.full.0 (word_of c.survey c.row p) in
      let (leaf, found, same) = in-map-out (λ (l : Leaf). l.path) path leaves (subst (λ (ps : List (List Bool)). IsIn path ps) (sym valid.full.1) there) in
      leaf-weighs p held hold leaf.path (subst (λ (q : List Bool). Agree q (word_of c.survey c.row p)) same agrees) leaf.why
      (in-each leaves valid.each leaf found)
    where
      in-each : (ls : List Leaf) → AllByRecursion (λ (leaf : Leaf). IsValidLeaf c leaf.path leaf.why) ls → (leaf : Leaf) → IsIn leaf ls
          → IsValidLeaf c leaf.path leaf.why
      in-each [] each leaf found = absurd found
      in-each (l ∷ ls) each leaf (inl same) = subst (λ (x : Leaf). IsValidLeaf c x.path x.why) (sym same) each.0
      in-each (l ∷ ls) each leaf (inr found) = in-each ls each.1 leaf found
