use Rattle.std.proofs.Common.{◌∙◌, subst, sym}
use Rattle.std.proofs.lemmas.Result.{IfErr-weaker, IfOk-weaker}
use Rattle.command_words.specs.Asked.{PanelAsked}
use Rattle.panel_release.specs.PanelReleases.{IsPanelRelease}
use Rattle.run_parts.specs.Parts.{done_end}
use Rattle.run_parts.proofs.CallLaws.{memory-calls, memory-faults}
use Rattle.panel_command.proofs.InputParts.{reads_of, told-panel-due}
use Rattle.panel_command.proofs.PanelLaws.{panel_made}
use Rattle.run_parts.proofs.ToldLaws.{handed}
use Rattle.panel_command.proofs.panel_run.make_release.Goals as goal

pub returns-in_err-input : goal.returns-in_err-input
returns-in_err-input g c =
    rw (handed c.from_residual.result _ c.from_residual.ensures.1)
    (record {
      made = tt;
      kind = c.in_err-input.ensures.kind;
      cause = c.in_err-input.ensures.cause;
      due = c.in_err-input.ensures.due;
      asked = c.in_err-input.ensures.asked;
      faults = c.in_err-input.ensures.faults;
      unchanged = c.in_err-input.ensures.unchanged;
    })

pub returns-clause-made : goal.returns-clause-made
returns-clause-made g c =
    let asked = c.args.asked.now in
    let panel = c.in_ok-input.input in
    IfOk-weaker c.correct_records.result _ _
    (λ release is. panel_made asked (g.D.Desk.files c.args.desk.now) panel release c.in_ok-input.ensures.held c.in_ok-input.ensures.well_formed
    (subst (λ (a : PanelAsked). IsPanelRelease panel a.budget release) c.asked.view_is is))
    c.correct_records.ensures.released

pub returns-clause-kind : goal.returns-clause-kind
returns-clause-kind g c = IfErr-weaker c.correct_records.result _ _ (λ f is. rw is tt) c.correct_records.ensures.memory

pub returns-clause-cause : goal.returns-clause-cause
returns-clause-cause g c = IfErr-weaker c.correct_records.result _ _ (λ f is. rw is tt) c.correct_records.ensures.memory

pub returns-clause-due : goal.returns-clause-due
returns-clause-due g c =
    told-panel-due c.args.asked.now (g.D.Desk.files c.args.desk.now) c.in_ok-input.input c.in_ok-input.ensures.held
    (done_end c.correct_records.result)

pub returns-clause-asked : goal.returns-clause-asked
returns-clause-asked g c =
    memory-calls (g.D.Desk.calls c.args.desk.now) _ (reads_of c.args.asked.now) c.correct_records.result c.correct_records.ensures.memory
    c.in_ok-input.ensures.asked

pub returns-clause-faults : goal.returns-clause-faults
returns-clause-faults g c =
    c.in_ok-input.ensures.faults ∙ sym (memory-faults c.correct_records.result _ c.correct_records.ensures.memory)

pub returns-clause-unchanged : goal.returns-clause-unchanged
returns-clause-unchanged g c = c.in_ok-input.ensures.unchanged
