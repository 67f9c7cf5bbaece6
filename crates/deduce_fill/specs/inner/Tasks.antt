use Rattle.std.specs.Prelude.{◌≡◌, ◌<◌, ◌≤◌, ◌^◌, length}
use Rattle.std.specs.Arc.{arc_value}
use Rattle.foundation.specs.Limits.{most_fields}
use Rattle.edit_line.specs.EditSets.{EditsParts}
use Rattle.edit_paths.specs.Cases.{SearchCase, case_of}
use Rattle.deduce_fill.specs.Laws.{IsRuleCase}
use Rattle.deduce_fill.specs.Tests.{most_edits, own_path}
use Rattle.deduce_fill.specs.declared.task.Task.{Task}

-- the edits of the task
abbrev pub task_edits : Task → EditsParts
task_edits t = arc_value t.edits.now

-- the case of its record
abbrev pub task_case : Task → SearchCase
task_case t = case_of t.survey.now (task_edits t) t.row.now

-- the edits say what the rules say, and can be numbered with one more; the path is the record's own, and the budget is
-- a number of 64 bits
pub record IsTask (t : Task) : Type 0 where
  pub case : IsRuleCase t.survey.now (task_edits t) t.row.now
  pub few_fields : length t.survey.now.fields ≤ most_fields
  pub few_edits : length (task_edits t).lines ≤ most_edits
  pub path : t.path.now ≡ own_path t.survey.now.fields t.row.now
  pub budget : t.budget < 2 ^ 64
