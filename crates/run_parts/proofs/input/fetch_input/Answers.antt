use Rattle.std.proofs.Common.{◌∷◌, [], ◌++◌, List, inl, subst, sym}
use Rattle.edit_desk.specs.Desk.{Asked, fetched}
use Rattle.run_parts.specs.Readings.{HoldsRules}
use Rattle.run_parts.specs.Parts.{RefusesRecords}
use Rattle.run_parts.specs.Run.{AreCallsTo}
use Rattle.run_parts.proofs.CallLaws.{all-calls, less-calls, records-calls, rules-calls, then-calls}
use Rattle.run_parts.proofs.InputLaws.{records-due, records-refuse, rules-refuse-input, told-read-due}
use Rattle.run_parts.proofs.ToldLaws.{both-told, handed, where-told}
use Rattle.run_parts.proofs.input.fetch_input.Goals as goal

pub returns-in_err-survey-clause-asked : goal.returns-in_err-survey-clause-asked
returns-in_err-survey-clause-asked g c =
    let f = c.in_err-survey.field-0.0 in
    let rules = c.args.rules.now in
    let records = c.args.records.now in
    let before = g.D.Desk.calls c.args.desk.now in
    rw (handed c.from_residual.result _ c.from_residual.ensures.1)
    (less-calls before _ (AreCallsTo (fetched rules ∷ fetched records ∷ []) f)
    (λ calls h. rules-calls rules (fetched records ∷ []) calls f c.in_err-survey.ensures.kind h) c.in_err-survey.ensures.asked)

pub returns-in_err-survey-clause-cause : goal.returns-in_err-survey-clause-cause
returns-in_err-survey-clause-cause g c =
    rw (handed c.from_residual.result _ c.from_residual.ensures.1)
    (rules-refuse-input c.args.rules.now c.args.records.now (g.D.Desk.files c.args.desk.now) c.in_err-survey.field-0.0
    c.in_err-survey.ensures.kind c.in_err-survey.ensures.cause)

pub returns-in_err-sheet-clause-cause : goal.returns-in_err-sheet-clause-cause
returns-in_err-sheet-clause-cause g c =
    rw (handed c.from_residual-in_err-sheet.result _ c.from_residual-in_err-sheet.ensures.1)
    (records-refuse c.args.rules.now c.args.records.now (g.D.Desk.files c.args.desk.now) c.in_ok-survey.survey c.in_ok-survey.ensures.read
    c.in_err-sheet.field-0.0 c.in_err-sheet.ensures.kind (rw c.in_ok-survey.ensures.unchanged at c.in_err-sheet.ensures.cause))

pub returns-in_err-sheet-clause-due : goal.returns-in_err-sheet-clause-due
returns-in_err-sheet-clause-due g c =
    let f = c.in_err-sheet.field-0.0 in
    let rules = c.args.rules.now in
    let records = c.args.records.now in
    let before = g.D.Desk.files c.args.desk.now in
    rw (handed c.from_residual-in_err-sheet.result _ c.from_residual-in_err-sheet.ensures.1)
    (both-told before (λ o hr why s due. records-due rules records o c.in_ok-survey.survey hr f c.in_err-sheet.ensures.kind why s (inl due))
    (where-told before (λ o. HoldsRules o rules c.in_ok-survey.survey) c.in_ok-survey.ensures.read)
    (where-told before (λ o. RefusesRecords records c.in_ok-survey.survey.fields o f)
    (rw c.in_ok-survey.ensures.unchanged at c.in_err-sheet.ensures.cause)))

pub returns-in_err-sheet-clause-asked : goal.returns-in_err-sheet-clause-asked
returns-in_err-sheet-clause-asked g c =
    let f = c.in_err-sheet.field-0.0 in
    let rules = c.args.rules.now in
    let records = c.args.records.now in
    let AreCalls : List Asked → Type 0 = AreCallsTo (fetched rules ∷ fetched records ∷ []) f in
    rw (handed c.from_residual-in_err-sheet.result _ c.from_residual-in_err-sheet.ensures.1)
    (then-calls (g.D.Desk.calls c.args.desk.now) _ _ AreCalls
    (λ x y e h. subst (λ (l : List Asked). AreCalls (l ++ y)) (sym e) (records-calls rules records [] y f c.in_err-sheet.ensures.kind h))
    c.in_ok-survey.ensures.asked c.in_err-sheet.ensures.asked)

pub returns-clause-asked : goal.returns-clause-asked
returns-clause-asked g c =
    all-calls (g.D.Desk.calls c.args.desk.now) _ _ (fetched c.args.rules.now ∷ []) (fetched c.args.records.now ∷ [])
    c.in_ok-survey.ensures.asked c.in_ok-sheet.ensures.asked

pub returns-clause-due : goal.returns-clause-due
returns-clause-due g c =
    told-read-due c.args.rules.now c.args.records.now (g.D.Desk.files c.args.desk.now) c.in_ok-survey.survey c.in_ok-sheet.sheet
    c.in_ok-survey.ensures.read (rw c.in_ok-survey.ensures.unchanged at c.in_ok-sheet.ensures.read) _
