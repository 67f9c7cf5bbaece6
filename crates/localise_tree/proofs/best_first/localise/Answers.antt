use Rattle.std.specs.Arc.{arc_value}
use Rattle.localise_tree.proofs.ModelLaws.{told-choice, told-contradictory, told-enough, told-found, told-least, told-refuted, told-tree}
use Rattle.localise_tree.proofs.best_first.localise.Goals as goal

pub returns-clause-choice : goal.returns-clause-choice
returns-clause-choice g c =
    told-choice c.args.survey.now (arc_value c.args.edits.now) c.args.row.now c.args.budget c.case_known.ensures.case c.find_outcome.result
    c.find_outcome.ensures.exact

pub returns-clause-least : goal.returns-clause-least
returns-clause-least g c =
    told-least c.args.survey.now (arc_value c.args.edits.now) c.args.row.now c.args.budget c.case_known.ensures.case c.find_outcome.result
    c.find_outcome.ensures.exact

pub returns-clause-certified : goal.returns-clause-certified
returns-clause-certified g c =
    told-tree c.args.survey.now (arc_value c.args.edits.now) c.args.row.now c.args.budget c.case_known.ensures.case c.find_outcome.result
    c.find_outcome.ensures.exact

pub returns-clause-contradictory : goal.returns-clause-contradictory
returns-clause-contradictory g c =
    told-contradictory c.args.survey.now (arc_value c.args.edits.now) c.args.row.now c.args.budget c.case_known.ensures.case c.find_outcome.result
    c.find_outcome.ensures.exact

pub returns-clause-refuted : goal.returns-clause-refuted
returns-clause-refuted g c =
    told-refuted c.args.survey.now (arc_value c.args.edits.now) c.args.row.now c.args.budget c.case_known.ensures.case c.find_outcome.result
    c.find_outcome.ensures.exact

pub returns-clause-enough : goal.returns-clause-enough
returns-clause-enough g c =
    told-enough c.args.survey.now (arc_value c.args.edits.now) c.args.row.now c.args.budget c.case_known.ensures.case c.find_outcome.result
    c.find_outcome.ensures.exact

pub returns-clause-found : goal.returns-clause-found
returns-clause-found g c =
    told-found c.args.survey.now (arc_value c.args.edits.now) c.args.row.now c.args.budget c.case_known.ensures.case c.find_outcome.result
    c.find_outcome.ensures.exact
