use Rattle.std.proofs.Common.{List, All, sym, subst, ap, ◌∙◌}
use Rattle.std.specs.Arc.{arc_value}
use Rattle.edit_line.specs.EditSets.{EditsParts, base_lines}
use Rattle.edit_line.specs.Lines.{HasShape}
use Rattle.edit_line.specs.Reductions.{reduce_derived}
use Rattle.edit_line.specs.Shapes.{shape_of}
use Rattle.edit_line.specs.declared.derived.Derived.{Derived}
use Rattle.edit_paths.specs.Cases.{case_of}
use Rattle.localise_tree.proofs.HoldingLaws.{lines-over}
use Rattle.localise_tree.proofs.all_kept.holds_throughout.Goals as goal

pub all_hold-requires-clause-over : goal.all_hold-requires-clause-over
all_hold-requires-clause-over c =
    subst (λ (ds : List Derived). All (λ (d : Derived). HasShape (shape_of c.args.survey.now.fields) d.line) ds)
    (sym (c.reduced.ensures.exact ∙ ap (λ (e : EditsParts). reduce_derived (base_lines e.lines)) c.deref.ensures))
    (lines-over (case_of c.args.survey.now (arc_value c.args.edits.now) c.args.row.now) c.requires.case)
