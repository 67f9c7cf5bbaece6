use Rattle.edit_paths.proofs.BudgetLaws.{always-change, enough-budget}
use Rattle.edit_paths.proofs.CertificateTrees.{change-tree, contradiction-tree}
use Rattle.edit_paths.proofs.ChoiceLaws.{change-choice, contradictory}
use Rattle.edit_paths.proofs.LeastLaws.{choice-first, choice-least}
use Rattle.edit_paths.proofs.laws.outcome_laws.Goals as goal

pub returns-clause-change : goal.returns-clause-change
returns-clause-change c d budget is path weight cert e = change-choice d is budget path weight cert e

pub returns-clause-least : goal.returns-clause-least
returns-clause-least c survey edits row path is same choice = (
  choice-least survey edits row is same path choice,
  choice-first survey edits row is same path
      choice,
)

pub returns-clause-contradiction : goal.returns-clause-contradiction
returns-clause-contradiction c d budget is cert e p meets = contradictory d is budget cert e p meets

pub returns-clause-budget : goal.returns-clause-budget
returns-clause-budget c d budget enough path work e = enough-budget d budget enough path work e

pub returns-clause-found : goal.returns-clause-found
returns-clause-found c d budget is p meets enough fits = always-change d is budget p meets enough fits

pub returns-clause-change_tree : goal.returns-clause-change_tree
returns-clause-change_tree c d budget is path weight cert e given usable are = change-tree d is given usable are budget path weight cert e

pub returns-clause-contradiction_tree : goal.returns-clause-contradiction_tree
returns-clause-contradiction_tree c d budget is cert e given usable are = contradiction-tree d is given usable are budget cert e
