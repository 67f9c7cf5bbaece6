use Rattle.std.proofs.Common.{◌≡◌, IfOk, rules}
use Rattle.std.specs.Arc.{arc_value}
use Rattle.edit_line.specs.EditSets.{lines_without}
use Rattle.deduce_fill.specs.Filled.{IsFilled}
use Rattle.deduce_fill.specs.Laws.{FillsForced, HasNoCompletion, IsRuleCase, IsShown}
use Rattle.deduce_fill.specs.declared.filled.Filled.{Filled}
use Rattle.deduce_fill.specs.declared.filled.Filled.TheVariants as filled
use Rattle.deduce_fill.proofs.OpenEnds.{of-answer}
use Rattle.deduce_fill.proofs.filling.fill.Goals as goal

pub returns-then-is_empty-clause-forced : goal.returns-then-is_empty-clause-forced
returns-then-is_empty-clause-forced g c =
    let edits = arc_value c.args.edits.now in
    let case : IsRuleCase c.args.survey.now edits c.args.row.now =
    record { case = c.case_known.ensures.case; shape = c.requires.shape; rules = c.requires.rules; placed = c.requires.placed } in
    let told : IsFilled c.args.survey.now edits c.args.row.now c.args.budget (filled.Done c.in_ok-copy.field-0 c.from_vec.result) = search rules in
    (c.fill_laws.ensures.filled c.args.survey.now edits c.args.row.now c.args.budget (filled.Done c.in_ok-copy.field-0 c.from_vec.result) case told).0

pub returns-clause-due : goal.returns-clause-due
returns-clause-due g c =
    let edits = arc_value c.args.edits.now in
    let case : IsRuleCase c.args.survey.now edits c.args.row.now =
    record { case = c.case_known.ensures.case; shape = c.requires.shape; rules = c.requires.rules; placed = c.requires.placed } in
    let told : IfOk c.fill_fields.result (IsFilled c.args.survey.now edits c.args.row.now c.args.budget) = search rules in
    of-answer (IsFilled c.args.survey.now edits c.args.row.now c.args.budget)
    (λ (answer : Filled). (due : Filled) → IsFilled c.args.survey.now edits c.args.row.now c.args.budget due → answer ≡ due)
    c.fill_fields.result (λ answer is due also. c.fill_laws.ensures.one c.args.survey.now edits c.args.row.now c.args.budget due answer case also is) told

pub returns-clause-forced : goal.returns-clause-forced
returns-clause-forced g c =
    let edits = arc_value c.args.edits.now in
    let case : IsRuleCase c.args.survey.now edits c.args.row.now =
    record { case = c.case_known.ensures.case; shape = c.requires.shape; rules = c.requires.rules; placed = c.requires.placed } in
    let told : IfOk c.fill_fields.result (IsFilled c.args.survey.now edits c.args.row.now c.args.budget) = search rules in
    of-answer (IsFilled c.args.survey.now edits c.args.row.now c.args.budget) (FillsForced c.args.survey.now c.args.row.now)
    c.fill_fields.result (λ answer is. (c.fill_laws.ensures.filled c.args.survey.now edits c.args.row.now c.args.budget answer case is).0) told

pub returns-clause-blocked : goal.returns-clause-blocked
returns-clause-blocked g c =
    let edits = arc_value c.args.edits.now in
    let case : IsRuleCase c.args.survey.now edits c.args.row.now =
    record { case = c.case_known.ensures.case; shape = c.requires.shape; rules = c.requires.rules; placed = c.requires.placed } in
    let told : IfOk c.fill_fields.result (IsFilled c.args.survey.now edits c.args.row.now c.args.budget) = search rules in
    of-answer (IsFilled c.args.survey.now edits c.args.row.now c.args.budget) (HasNoCompletion c.args.survey.now c.args.row.now)
    c.fill_fields.result (λ answer is. (c.fill_laws.ensures.filled c.args.survey.now edits c.args.row.now c.args.budget answer case is).1) told

pub returns-clause-shown : goal.returns-clause-shown
returns-clause-shown g c =
    let edits = arc_value c.args.edits.now in
    let case : IsRuleCase c.args.survey.now edits c.args.row.now =
    record { case = c.case_known.ensures.case; shape = c.requires.shape; rules = c.requires.rules; placed = c.requires.placed } in
    let told : IfOk c.fill_fields.result (IsFilled c.args.survey.now edits c.args.row.now c.args.budget) = search rules in
    of-answer (IsFilled c.args.survey.now edits c.args.row.now c.args.budget) (IsShown c.args.survey.now (lines_without edits.lines) c.args.row.now)
    c.fill_fields.result (λ answer is. (c.fill_laws.ensures.filled c.args.survey.now edits c.args.row.now c.args.budget answer case is).2) told
