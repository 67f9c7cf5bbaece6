use Rattle.std.proofs.Common.{◌∙◌, List, ℕ, ap, sym, subst}
use Rattle.edit_line.specs.EditSets.{AreEdits, base_lines}
use Rattle.edit_line.specs.Lines.{LineParts}
use Rattle.edit_line.specs.Reductions.{reduce_derived}
use Rattle.edit_line.specs.Shapes.{Domain}
use Rattle.edit_line.proofs.ReductionLaws.{all-reduced}
use Rattle.edit_line.specs.Lines.{IsLine}
use Rattle.edit_line.proofs.edits.Edits.new.Goals as goal

pub invariant_of-result : goal.invariant_of-result
invariant_of-result c =
    let base = c.in_ok-base_lines.field-0.items in
    let base_is = c.in_ok-base_lines.ensures.base ∙ ap (λ (ls : List (ℕ × LineParts)). base_lines ls) c.deref.ensures.value in
    record {
      edits = subst (λ (sh : List Domain). AreEdits sh c.args.lines.items) (sym c.of.ensures) c.requires;
      lines_are = c.in_ok-reduced.ensures.exact ∙ ap reduce_derived base_is;
      are_lines = all-reduced (λ line. IsLine line) base c.in_ok-reduced.reduced.items c.in_ok-reduced.ensures.exact c.in_ok-base_lines.ensures.lines;
    }
