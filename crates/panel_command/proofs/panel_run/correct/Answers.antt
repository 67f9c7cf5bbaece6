use Rattle.std.proofs.Common.{◌∷◌, [], List, ap, ◌∙◌}
use Rattle.edit_desk.specs.Desk.{Asked, stored}
use Rattle.command_words.specs.Asked.{PanelAsked}
use Rattle.run_parts.specs.Faults.{fault_status}
use Rattle.run_parts.specs.Run.{AreCallsTo, faults_by}
use Rattle.run_parts.proofs.CallLaws.{all-calls, behind-calls, less-calls, of-stores}
use Rattle.run_parts.proofs.CommandLaws.{stores-stopped}
use Rattle.run_parts.proofs.ToldLaws.{from-told, handed}
use Rattle.panel_command.specs.PanelRun.{made_of, panel_calls, panel_command}
use Rattle.panel_command.proofs.InputParts.{panel-calls, reads_of}
use Rattle.panel_command.proofs.PanelLaws.{made-due}
use Rattle.panel_command.proofs.panel_run.correct.Goals as goal

-- the calls by which the files are stored
abbrev stores_of : PanelAsked → List Asked
stores_of asked = stored asked.proof ∷ stored asked.reasons ∷ stored asked.released ∷ []

-- ---- nothing is made

pub returns-in_err-release-clause-asked : goal.returns-in_err-release-clause-asked
returns-in_err-release-clause-asked g c =
    let f = c.in_err-release.field-0.0 in
    let asked = c.args.asked.now in
    rw (handed c.from_residual.result _ c.from_residual.ensures.1)
    (less-calls (g.D.Desk.calls c.args.desk.now) _ (AreCallsTo (panel_calls asked) f)
    (λ calls h. panel-calls asked (stores_of asked) calls f c.in_err-release.ensures.kind h)
    c.in_err-release.ensures.asked)

pub returns-in_err-release-clause-cause : goal.returns-in_err-release-clause-cause
returns-in_err-release-clause-cause g c = rw (handed c.from_residual.result _ c.from_residual.ensures.1) c.in_err-release.ensures.cause

pub returns-in_err-release-clause-due : goal.returns-in_err-release-clause-due
returns-in_err-release-clause-due g c = rw (handed c.from_residual.result _ c.from_residual.ensures.1) c.in_err-release.ensures.due

pub returns-in_err-release-clause-faults : goal.returns-in_err-release-clause-faults
returns-in_err-release-clause-faults g c = rw (handed c.from_residual.result _ c.from_residual.ensures.1) c.in_err-release.ensures.faults

-- ---- a store ends in a fault

pub returns-in_err-store_release-clause-due : goal.returns-in_err-store_release-clause-due
returns-in_err-store_release-clause-due g c =
    rw (handed c.from_residual-in_err-store_release.result _ c.from_residual-in_err-store_release.ensures.1)
    (made-due c.args.asked.now (g.D.Desk.files c.args.desk.now) _ c.in_ok-release.ensures.made
    (fault_status c.in_err-store_release.field-0.0))

pub returns-in_err-store_release-clause-files : goal.returns-in_err-store_release-clause-files
returns-in_err-store_release-clause-files g c =
    let f = c.in_err-store_release.field-0.0 in
    let asked = c.args.asked.now in
    let before = g.D.Desk.files c.args.desk.now in
    rw (handed c.from_residual-in_err-store_release.result _ c.from_residual-in_err-store_release.ensures.1)
    (stores-stopped (panel_command asked) before (g.D.Desk.files c.store_release.new.desk) (made_of asked c.in_ok-release.release)
    c.in_ok-release.ensures.made f c.in_err-store_release.ensures.kind (rw c.in_ok-release.ensures.unchanged at c.in_err-store_release.ensures.files))

pub returns-in_err-store_release-clause-asked : goal.returns-in_err-store_release-clause-asked
returns-in_err-store_release-clause-asked g c =
    let f = c.in_err-store_release.field-0.0 in
    let asked = c.args.asked.now in
    rw (handed c.from_residual-in_err-store_release.result _ c.from_residual-in_err-store_release.ensures.1)
    (behind-calls (g.D.Desk.calls c.args.desk.now) _ _ (reads_of asked) (stores_of asked) [] f
    (of-stores f c.in_err-store_release.ensures.kind) c.in_ok-release.ensures.asked c.in_err-store_release.ensures.asked)

pub returns-in_err-store_release-clause-faults : goal.returns-in_err-store_release-clause-faults
returns-in_err-store_release-clause-faults g c =
    rw (handed c.from_residual-in_err-store_release.result _ c.from_residual-in_err-store_release.ensures.1)
    (c.in_err-store_release.ensures.faults ∙ ap (faults_by c.in_err-store_release.field-0.0) c.in_ok-release.ensures.faults)

-- ---- all was done

pub returns-clause-due : goal.returns-clause-due
returns-clause-due g c =
    made-due c.args.asked.now (g.D.Desk.files c.args.desk.now) _ c.in_ok-release.ensures.made
    (made_of c.args.asked.now c.in_ok-release.release).status

pub returns-clause-files : goal.returns-clause-files
returns-clause-files g c =
    from-told (g.D.Desk.files c.args.desk.now) (g.D.Desk.files c.store_release.new.desk) (λ x y is all. (is, all)) c.in_ok-release.ensures.made
    (rw c.in_ok-release.ensures.unchanged at c.in_ok-store_release.ensures.written)

pub returns-clause-asked : goal.returns-clause-asked
returns-clause-asked g c =
    let asked = c.args.asked.now in
    all-calls (g.D.Desk.calls c.args.desk.now) _ _ (reads_of asked) (stores_of asked) c.in_ok-release.ensures.asked
    c.in_ok-store_release.ensures.asked

pub returns-clause-faults : goal.returns-clause-faults
returns-clause-faults g c = c.in_ok-store_release.ensures.faults ∙ c.in_ok-release.ensures.faults
