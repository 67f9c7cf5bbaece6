use Rattle.std.proofs.Common.{◌≤◌, length, subst, sym}
use Rattle.edit_line.specs.EditSets.{EditsParts}
use Rattle.edit_normal.specs.RuleLines.{normal_lines_of}
use Rattle.deduce_fill.specs.Tests.{ArePlacedFrom, most_edits}
use Rattle.filled_release.proofs.ForcedLaws.{filled-answer, filled-written}
use Rattle.filled_release.proofs.PlacedRules.{are-placed, few-edits}
use Rattle.filled_release.proofs.filled_file.answer_for.Goals as goal

pub fill-requires-clause-placed : goal.fill-requires-clause-placed
fill-requires-clause-placed g c =
    subst (λ (e : EditsParts). ArePlacedFrom 0 e.lines) (sym c.requires.edits) (are-placed 0 (normal_lines_of c.args.survey.now))

pub fill-requires-clause-few : goal.fill-requires-clause-few
fill-requires-clause-few g c =
    subst (λ (e : EditsParts). length e.lines ≤ most_edits) (sym c.requires.edits) (few-edits c.args.survey.now c.rules-rules.ensures.well_formed)

pub returns-clause-answer : goal.returns-clause-answer
returns-clause-answer g c =
    filled-answer c.args.survey.now c.args.budget c.args.row.now _ c.fill.result c.requires.edits
    c.fill.ensures.exact c.fill.ensures.forced c.fill.ensures.blocked c.fill.ensures.shown

pub returns-clause-written : goal.returns-clause-written
returns-clause-written g c =
    filled-written c.args.survey.now c.args.row.now c.fill.result c.requires.row c.rules-rules.ensures.well_formed.few_fields c.fill.ensures.forced
