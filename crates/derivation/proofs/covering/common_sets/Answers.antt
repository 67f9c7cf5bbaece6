use Rattle.std.proofs.Common.{List, ℕ, Option, option_map, Bor, map, sym, ap, subst, ◌∙◌}
use Rattle.std.proofs.lemmas.List.{drop_all}
use Rattle.edit_line.specs.inner.SetBounds.{AreWithin}
use Rattle.edit_line.specs.Shapes.{shape_of, whole_sets}
use Rattle.edit_line.proofs.SetLaws.{AreWithin-wholes}
use Rattle.derivation.specs.inner.Meanings.{meaning}
use Rattle.derivation.specs.ValidSteps.{common_from}
use Rattle.derivation.proofs.CoverLaws.{common-missing, common-more}
use Rattle.derivation.proofs.WholeBoxes.{as-many, still-within}
use Rattle.derivation.proofs.covering.common_sets.Goals as goal

pub loop-code-init : goal.loop-code-init
loop-code-init c =
    let wholes = whole_sets (shape_of c.args.basis.now.survey.now.fields) in
    let is = c.in_ok-common.ensures ∙ ap whole_sets c.of.ensures in (
      ap (λ (sets : List ℕ). common_from (map meaning c.args.known.now) c.args.place 0 c.args.parts.now sets) is,
      subst (λ (sets : List ℕ). AreWithin sets wholes) (sym is) (AreWithin-wholes wholes),
    )

pub narrow-requires : goal.narrow-requires
narrow-requires c =
    let shape = shape_of c.args.basis.now.survey.now.fields in
    as-many (whole_sets shape) c.loop-code.common.items c.in-Some.sets.now c.loop-code.invariant.1 (c.in-Some.ensures.fit shape c.requires.over)

pub loop-code-preserved : goal.loop-code-preserved
loop-code-preserved c =
    let shape = shape_of c.args.basis.now.survey.now.fields in (
      common-more (map meaning c.args.known.now) c.args.place c.loop-code.code c.args.parts.now c.loop-code.common.items c.in-Some.sets.now
          c.narrow.new.sets.items _ c.loop-code-test.true
          (sym (ap (λ (o : Option (Bor (List ℕ))). option_map (λ s. s.now) o) c.in-Some.is) ∙ c.part_with.ensures.part) c.narrow.ensures
          c.loop-code.invariant.0,
      still-within (whole_sets shape) c.loop-code.common.items c.in-Some.sets.now c.narrow.new.sets.items c.loop-code.invariant.1
          (c.in-Some.ensures.fit shape c.requires.over) c.narrow.ensures,
    )

pub returns-in_default-clause-common : goal.returns-in_default-clause-common
returns-in_default-clause-common c =
    common-missing (map meaning c.args.known.now) c.args.place c.loop-code.code c.args.parts.now c.loop-code.common.items _ c.loop-code-test.true
    c.in_default.ensures.part c.loop-code.invariant.0

pub returns-clause-common : goal.returns-clause-common
returns-clause-common c =
    ap (λ (ps : List ℕ). common_from (map meaning c.args.known.now) c.args.place c.loop-code.code ps c.loop-code.common.items)
    (sym (drop_all c.loop-code.code c.args.parts.now c.loop-code-test.false)) ∙ c.loop-code.invariant.0
