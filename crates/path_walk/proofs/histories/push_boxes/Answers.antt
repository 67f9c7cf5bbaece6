use Rattle.std.proofs.Common.{refl, ap, ◌∙◌}
use Rattle.std.specs.Arc.{arc_value}
use Rattle.edit_paths.specs.declared.levels.Level.TheVariants.{Boxes}
use Rattle.path_walk.specs.Lists.{boxes_in}
use Rattle.path_walk.specs.Problems.{case_in}
use Rattle.path_walk.proofs.BoxTurns.{last-lists}
use Rattle.path_walk.proofs.histories.push_boxes.Goals as goal

pub path_boxes-requires-clause-before : goal.path_boxes-requires-clause-before
path_boxes-requires-clause-before c = c.last_boxes.ensures ∙ ap (λ levels. boxes_in levels) c.deref.ensures.value ∙ c.requires.before.along

pub returns-clause-boxes : goal.returns-clause-boxes
returns-clause-boxes c =
    last-lists (case_in c.args.problem.now) c.args.path.letters.now c.requires.many c.requires.fit c.args.levels.now.items c.push.new.self.items
    (Boxes c.path_field-field.result c.in_ok-boxes.boxes) c.path_field-field.result (arc_value c.in_ok-boxes.boxes)
    c.requires.before c.in_ok-push.ensures.items refl refl c.path_field-field.ensures.field c.in_ok-boxes.ensures.boxes
