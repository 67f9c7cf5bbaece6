use Rattle.std.proofs.Common.{List, Ok, ap, sym, ◌∙◌}
use Rattle.edit_line.specs.Shapes.{shape_of}
use Rattle.edit_line.specs.declared.derived.Derived.{Derived}
use Rattle.edit_paths.specs.Paths.{changed_numbers}
use Rattle.edit_paths.proofs.CaseSystems.{system-over}
use Rattle.path_walk.specs.Problems.{case_in}
use Rattle.path_walk.proofs.HistoryLaws.{line-shapes}
use Rattle.path_walk.proofs.histories.first_boxes.Goals as goal

pub boxes_of_lines-requires-clause-shape : goal.boxes_of_lines-requires-clause-shape
boxes_of_lines-requires-clause-shape g c =
    line-shapes (shape_of (case_in c.args.problem.now).survey.fields) c.lines.result.now
    (system-over (case_in c.args.problem.now) c.requires.problem.case (changed_numbers (case_in c.args.problem.now) c.args.letters.now) c.lines.result.now
    (c.in-Ok.ensures.exact ∙ ap (λ (ls : List Derived). Ok ls) (sym (c.lines.ensures.lines ∙ ap (λ s. s.lines) c.system.ensures))))
