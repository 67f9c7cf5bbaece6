use Rattle.std.proofs.Common.{◌≡◌, drop}
use Rattle.edit_line.specs.inner.SetBounds.{AreWithin}
use Rattle.edit_line.specs.Shapes.{whole_sets}
use Rattle.edit_normal.specs.NormalForm.{implied_lines}
use Rattle.edit_normal.proofs.rule_lines.push_implied.Given as goal

abbrev pub invariant-loop-condition : goal.invariant-loop-condition
invariant-loop-condition l = record {
  same : implied_lines l.fields l.sets.items (drop l.condition-index l.numbered.rule.now.conditions) l.numbered.rule.now.conclusion
      ≡ implied_lines l.fields (whole_sets l.fields) l.numbered.rule.now.conditions l.numbered.rule.now.conclusion;
  within : AreWithin l.sets.items (whole_sets l.fields);
  unchanged : l.lines.items ≡ l.fn.lines.items;
}
