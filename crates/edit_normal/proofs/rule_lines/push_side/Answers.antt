use Rattle.std.proofs.Common.{◌≡◌, ◌++◌, [], ◌∷◌, true, sym, ap, ◌∙◌, List, ℕ}
use Rattle.edit_line.specs.Lines.{LineParts}
use Rattle.edit_line.specs.Sets.{none_is_empty}
use Rattle.edit_line.specs.Shapes.{whole_sets}
use Rattle.edit_line.proofs.SetLaws.{AreSets-within}
use Rattle.edit_normal.specs.inner.Sides.{side_line}
use Rattle.edit_normal.proofs.Pushes.{pushed, side_line-sets, skipped}
use Rattle.edit_normal.proofs.rule_lines.push_side.Goals as goal

pub side_line-requires : goal.side_line-requires
side_line-requires c = record {
  fit = AreSets-within c.args.test.now.sets.now (whole_sets c.args.fields.now) (sym c.have_codes.ensures ∙ c.if-have_codes.true)
      c.requires.within;
  whole = c.requires.whole;
}

pub returns-in_ok-push : goal.returns-in_ok-push
returns-in_ok-push c =
    let line = side_line c.args.fields.now c.args.test.now.sets.now c.args.test.now.linear.now c.args.side in
    let full : none_is_empty line.sets ≡ true = ap (λ (ss : List ℕ). none_is_empty ss)
    (side_line-sets c.args.fields.now c.args.test.now.sets.now c.args.test.now.linear.now c.args.side) ∙ sym c.have_codes.ensures ∙ c.if-have_codes.true in
    pushed c.args.lines.now.items c.push.new.self.items c.args.rule line full
    (c.in_ok-push.ensures.items ∙ ap (λ (l : LineParts). c.args.lines.now.items ++ record { rule = c.args.rule; line = l } ∷ []) c.in_ok-line.ensures)

pub returns-else-have_codes : goal.returns-else-have_codes
returns-else-have_codes c =
    let line = side_line c.args.fields.now c.args.test.now.sets.now c.args.test.now.linear.now c.args.side in
    skipped c.args.lines.now.items c.args.rule line
    (ap (λ (ss : List ℕ). none_is_empty ss) (side_line-sets c.args.fields.now c.args.test.now.sets.now c.args.test.now.linear.now c.args.side)
    ∙ sym c.have_codes.ensures ∙ c.if-have_codes.false)
