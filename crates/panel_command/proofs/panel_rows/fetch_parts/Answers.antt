use Rattle.std.proofs.Common.{◌≡◌, ◌∷◌, [], ◌++◌, List, ap, subst, sym}
use Rattle.edit_desk.specs.Desk.{Asked, PutsOnRecord, fetched}
use Rattle.command_words.specs.Asked.{PanelAsked}
use Rattle.command_words.specs.declared.panel_words.PanelWords.TheInside.{Inside}
use Rattle.command_words.proofs.AskedLaws.{panel_of}
use Rattle.run_parts.specs.Readings.{HoldsRules}
use Rattle.run_parts.specs.Run.{AreCallsTo}
use Rattle.run_parts.proofs.CallLaws.{all-calls, last-calls, less-calls, records-calls, then-calls}
use Rattle.run_parts.proofs.ToldLaws.{handed}
use Rattle.panel_command.specs.PanelInput.{RefusesPanel}
use Rattle.panel_command.proofs.InputParts.{last-refuse, of-last, own-refuse, reads_of}
use Rattle.panel_command.proofs.panel_rows.fetch_parts.Goals as goal

-- what these words ask for
abbrev asked_in : Inside → PanelAsked
asked_in w = panel_of w.rules.now w.records.now w.last.now w.released.now w.reasons.now w.proof.now w.key.now w.budget

-- ---- the records are refused

pub returns-in_err-own-clause-cause : goal.returns-in_err-own-clause-cause
returns-in_err-own-clause-cause g c =
    let f = c.in_err-own.field-0.0 in
    let before = g.D.Desk.files c.args.desk.now in
    let (survey, rules, (set, are, parts)) = c.requires.parts in
    let read = subst (λ (a : PanelAsked). HoldsRules before a.rules survey) (sym c.asked.view_is) rules in
    rw (handed c.from_residual.result _ c.from_residual.ensures.1)
    (subst (λ (a : PanelAsked). RefusesPanel a before f) c.asked.view_is
    (own-refuse (asked_in c.asked.inside) before survey set read are
    f c.in_err-own.ensures.kind (rw parts.own at c.in_err-own.ensures.cause)))

pub returns-in_err-own-clause-asked : goal.returns-in_err-own-clause-asked
returns-in_err-own-clause-asked g c =
    let f = c.in_err-own.field-0.0 in
    let w = c.asked.inside in
    let before = g.D.Desk.calls c.args.desk.now in
    rw (handed c.from_residual.result _ c.from_residual.ensures.1)
    (subst (λ (a : PanelAsked). PutsOnRecord before (g.D.Desk.calls c.fetch_own_rows.new.desk)
    (λ calls. AreCallsTo (reads_of a) f (fetched a.rules ∷ calls))) c.asked.view_is
    (less-calls before _ _
    (λ calls h. records-calls w.rules.now w.records.now (fetched w.last.now ∷ []) calls f c.in_err-own.ensures.kind h)
    c.in_err-own.ensures.asked))

-- ---- the file of the last period is refused

pub returns-in_err-last-clause-kind : goal.returns-in_err-last-clause-kind
returns-in_err-last-clause-kind g c =
    rw (handed c.from_residual-in_err-last.result _ c.from_residual-in_err-last.ensures.1)
    (of-last c.asked.inside.last.now c.in_err-last.field-0.0 c.in_err-last.ensures.kind)

pub returns-in_err-last-clause-cause : goal.returns-in_err-last-clause-cause
returns-in_err-last-clause-cause g c =
    let f = c.in_err-last.field-0.0 in
    let before = g.D.Desk.files c.args.desk.now in
    let (survey, rules, (set, are, parts)) = c.requires.parts in
    let read = subst (λ (a : PanelAsked). HoldsRules before a.rules survey) (sym c.asked.view_is) rules in
    rw (handed c.from_residual-in_err-last.result _ c.from_residual-in_err-last.ensures.1)
    (subst (λ (a : PanelAsked). RefusesPanel a before f) c.asked.view_is
    (last-refuse (asked_in c.asked.inside) before survey set read are
    c.in_ok-own.own c.in_ok-own.own_key (rw parts.own at c.in_ok-own.ensures.read)
    f c.in_err-last.ensures.kind (rw (parts.last, c.in_ok-own.ensures.unchanged) at c.in_err-last.ensures.cause)))

pub returns-in_err-last-clause-asked : goal.returns-in_err-last-clause-asked
returns-in_err-last-clause-asked g c =
    let f = c.in_err-last.field-0.0 in
    let w = c.asked.inside in
    let before = g.D.Desk.calls c.args.desk.now in
    let AreCalls : List Asked → Type 0 = λ calls. AreCallsTo (reads_of (asked_in w)) f (fetched w.rules.now ∷ calls) in
    rw (handed c.from_residual-in_err-last.result _ c.from_residual-in_err-last.ensures.1)
    (subst (λ (a : PanelAsked). PutsOnRecord before (g.D.Desk.calls c.fetch_last_rows.new.desk)
    (λ calls. AreCallsTo (reads_of a) f (fetched a.rules ∷ calls))) c.asked.view_is
    (then-calls before _ _ AreCalls
    (λ x y e h. subst (λ (l : List Asked). AreCalls (l ++ y)) (sym e)
    (last-calls w.rules.now w.records.now w.last.now [] y f c.in_err-last.ensures.kind h))
    c.in_ok-own.ensures.asked c.in_err-last.ensures.asked))

pub returns-in_err-last-clause-faults : goal.returns-in_err-last-clause-faults
returns-in_err-last-clause-faults g c =
    rw (handed c.from_residual-in_err-last.result _ c.from_residual-in_err-last.ensures.1)
    (rw c.in_ok-own.ensures.faults at c.in_err-last.ensures.faults)

-- ---- both were read

pub returns-clause-asked : goal.returns-clause-asked
returns-clause-asked g c =
    let w = c.asked.inside in
    let before = g.D.Desk.calls c.args.desk.now in
    subst (λ (a : PanelAsked). PutsOnRecord before (g.D.Desk.calls c.fetch_last_rows.new.desk)
    (λ calls. fetched a.rules ∷ calls ≡ reads_of a)) c.asked.view_is
    (less-calls before _ _ (λ calls e. ap (λ (l : List Asked). fetched w.rules.now ∷ l) e)
    (all-calls before _ _ (fetched w.records.now ∷ []) (fetched w.last.now ∷ []) c.in_ok-own.ensures.asked c.in_ok-last.ensures.asked))
