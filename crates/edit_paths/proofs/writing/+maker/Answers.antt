use Rattle.edit_paths.proofs.HistoryLists.{maker-here}
use Rattle.edit_paths.proofs.writing.+maker.Goals as goal

pub returns-in-None : goal.returns-in-None
returns-in-None t c = maker-here c.args.levels.now c.in-Some.before.now c.in-Some.level.now c.args.place c.in-Some.ensures.cases.0 c.in-None.ensures
