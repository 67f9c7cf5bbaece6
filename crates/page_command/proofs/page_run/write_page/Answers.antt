use Rattle.std.proofs.Common.{◌≡◌, ◌∙◌, ◌∷◌, [], ap, subst, take}
use Rattle.edit_desk.specs.Desk.{PutsOnRecord, Told}
use Rattle.command_words.specs.Asked.{PageAsked}
use Rattle.run_parts.specs.Faults.{fault_status}
use Rattle.run_parts.specs.Run.{AreCallsTo, AreStored, LeavesOf, faults_by}
use Rattle.run_parts.specs.declared.status.Status.TheVariants as status
use Rattle.run_parts.proofs.CallLaws.{all-calls, behind-calls, of-stores}
use Rattle.run_parts.proofs.CommandLaws.{stores-done, stores-stopped}
use Rattle.run_parts.proofs.ToldLaws.{each-told, handed, where-told}
use Rattle.page_command.specs.PageRun.{page_calls, page_command}
use Rattle.page_command.specs.PageSources.{HoldsSources}
use Rattle.page_command.specs.inner.PageParts.{made_by}
use Rattle.page_command.proofs.DueLaws.{rows_refused}
use Rattle.page_command.proofs.RefusalLaws.{of-read, of-rows, page_of, rows-calls, rows-cause, rows-faults, stores-cause, stores-kind}
use Rattle.page_command.proofs.RunLaws.{page_made, read-ends, told_fit_due}
use Rattle.page_command.proofs.page_run.write_page.Goals as goal

-- ---- the four files are refused

pub returns-in_err-sources-clause-kind : goal.returns-in_err-sources-clause-kind
returns-in_err-sources-clause-kind g c =
    rw (handed c.from_residual.result _ c.from_residual.ensures.1) (of-read c.in_err-sources.field-0.0 c.in_err-sources.ensures.kind)

pub returns-in_err-sources-clause-files : goal.returns-in_err-sources-clause-files
returns-in_err-sources-clause-files g c =
    rw (handed c.from_residual.result _ c.from_residual.ensures.1)
    (read-ends c.args.asked.now (g.D.Desk.files c.args.desk.now) (g.D.Desk.files c.fetch_sources.new.desk) c.in_err-sources.field-0.0
    c.in_err-sources.ensures.kind c.in_err-sources.ensures.unchanged)

pub returns-in_err-sources-clause-due : goal.returns-in_err-sources-clause-due
returns-in_err-sources-clause-due g c = rw (handed c.from_residual.result _ c.from_residual.ensures.1) c.in_err-sources.ensures.due

-- ---- the rows do not fit, or memory is refused as the page is made

pub returns-in_err-file-clause-kind : goal.returns-in_err-file-clause-kind
returns-in_err-file-clause-kind g c =
    let r = c.in_err-file.field-0.0 in
    rw (handed c.from_residual-in_err-file.result _ c.from_residual-in_err-file.ensures.1)
    (of-read r (of-rows c.in_ok-sources.sources r c.in_err-file.ensures.refused))

pub returns-in_err-file-clause-cause : goal.returns-in_err-file-clause-cause
returns-in_err-file-clause-cause g c =
    rw (handed c.from_residual-in_err-file.result _ c.from_residual-in_err-file.ensures.1)
    (rows-cause c.args.asked.now (g.D.Desk.files c.args.desk.now) c.in_ok-sources.sources c.in_ok-sources.ensures.held
    c.in_err-file.field-0.0 c.in_err-file.ensures.refused)

pub returns-in_err-file-clause-due : goal.returns-in_err-file-clause-due
returns-in_err-file-clause-due g c =
    let asked = c.args.asked.now in
    let sources = c.in_ok-sources.sources in
    let before = g.D.Desk.files c.args.desk.now in
    rw (handed c.from_residual-in_err-file.result _ c.from_residual-in_err-file.ensures.1)
    (each-told before (λ o h. rows_refused asked o sources h c.in_err-file.field-0.0 c.in_err-file.ensures.refused)
    (where-told before (λ o. HoldsSources o asked sources) c.in_ok-sources.ensures.held))

pub returns-in_err-file-clause-files : goal.returns-in_err-file-clause-files
returns-in_err-file-clause-files g c =
    let r = c.in_err-file.field-0.0 in
    rw (handed c.from_residual-in_err-file.result _ c.from_residual-in_err-file.ensures.1)
    (read-ends c.args.asked.now (g.D.Desk.files c.args.desk.now) (g.D.Desk.files c.fetch_sources.new.desk) r
    (of-rows c.in_ok-sources.sources r c.in_err-file.ensures.refused) c.in_ok-sources.ensures.unchanged)

pub returns-in_err-file-clause-asked : goal.returns-in_err-file-clause-asked
returns-in_err-file-clause-asked g c =
    rw (handed c.from_residual-in_err-file.result _ c.from_residual-in_err-file.ensures.1)
    (rows-calls c.args.asked.now (g.D.Desk.calls c.args.desk.now) (g.D.Desk.calls c.fetch_sources.new.desk) c.in_ok-sources.sources
    c.in_err-file.field-0.0 c.in_err-file.ensures.refused c.in_ok-sources.ensures.asked)

pub returns-in_err-file-clause-faults : goal.returns-in_err-file-clause-faults
returns-in_err-file-clause-faults g c =
    rw (handed c.from_residual-in_err-file.result _ c.from_residual-in_err-file.ensures.1)
    (rows-faults c.in_ok-sources.sources c.in_err-file.field-0.0 (g.D.Desk.faults c.args.desk.now) (g.D.Desk.faults c.fetch_sources.new.desk)
    c.in_err-file.ensures.refused c.in_ok-sources.ensures.faults)

-- ---- the store ends in a fault

pub returns-in_err-store_file-clause-kind : goal.returns-in_err-store_file-clause-kind
returns-in_err-store_file-clause-kind g c =
    rw (handed c.from_residual-in_err-store_file.result _ c.from_residual-in_err-store_file.ensures.1)
    (stores-kind c.in_err-store_file.field-0.0 c.in_err-store_file.ensures.kind)

pub returns-in_err-store_file-clause-cause : goal.returns-in_err-store_file-clause-cause
returns-in_err-store_file-clause-cause g c =
    rw (handed c.from_residual-in_err-store_file.result _ c.from_residual-in_err-store_file.ensures.1)
    (stores-cause c.args.asked.now (g.D.Desk.files c.args.desk.now) c.in_err-store_file.field-0.0 c.in_err-store_file.ensures.kind)

pub returns-in_err-store_file-clause-due : goal.returns-in_err-store_file-clause-due
returns-in_err-store_file-clause-due g c =
    rw (handed c.from_residual-in_err-store_file.result _ c.from_residual-in_err-store_file.ensures.1)
    (told_fit_due c.args.asked.now (g.D.Desk.files c.args.desk.now) c.in_ok-sources.sources c.in_ok-sources.ensures.held
    c.in_ok-file.ensures.rows (fault_status c.in_err-store_file.field-0.0))

pub returns-in_err-store_file-clause-files : goal.returns-in_err-store_file-clause-files
returns-in_err-store_file-clause-files g c =
    let f = c.in_err-store_file.field-0.0 in
    let asked = c.args.asked.now in
    let before = g.D.Desk.files c.args.desk.now in
    let after = g.D.Desk.files c.store_file.new.desk in
    let file = c.in_ok-file.file in
    let is = page_made asked before c.in_ok-sources.sources c.in_ok-sources.ensures.held c.in_ok-file.ensures.rows file
    c.in_ok-sources.ensures.well_formed c.in_ok-file.ensures.page c.in_ok-file.ensures.line in
    rw (handed c.from_residual-in_err-store_file.result _ c.from_residual-in_err-store_file.ensures.1)
    (stores-stopped (page_command asked) before after (made_by asked file) is f c.in_err-store_file.ensures.kind
    (subst (λ (a : PageAsked). Told before after (LeavesOf ((a.page, file.page.items) ∷ []) f)) c.asked.view_is
    (rw (c.deref.ensures.value, c.in_ok-sources.ensures.unchanged) at c.in_err-store_file.ensures.files)))

pub returns-in_err-store_file-clause-asked : goal.returns-in_err-store_file-clause-asked
returns-in_err-store_file-clause-asked g c =
    let f = c.in_err-store_file.field-0.0 in
    let asked = c.args.asked.now in
    let between = g.D.Desk.calls c.fetch_sources.new.desk in
    let after = g.D.Desk.calls c.store_file.new.desk in
    rw (handed c.from_residual-in_err-store_file.result _ c.from_residual-in_err-store_file.ensures.1)
    (behind-calls (g.D.Desk.calls c.args.desk.now) between after (take 4 (page_calls asked)) (page_of asked) [] f
    (of-stores f c.in_err-store_file.ensures.kind) c.in_ok-sources.ensures.asked
    (subst (λ (a : PageAsked). PutsOnRecord between after (AreCallsTo (page_of a) f)) c.asked.view_is c.in_err-store_file.ensures.asked))

pub returns-in_err-store_file-clause-faults : goal.returns-in_err-store_file-clause-faults
returns-in_err-store_file-clause-faults g c =
    rw (handed c.from_residual-in_err-store_file.result _ c.from_residual-in_err-store_file.ensures.1)
    (c.in_err-store_file.ensures.faults ∙ ap (faults_by c.in_err-store_file.field-0.0) c.in_ok-sources.ensures.faults)

-- ---- all was done

pub returns-clause-due : goal.returns-clause-due
returns-clause-due g c =
    told_fit_due c.args.asked.now (g.D.Desk.files c.args.desk.now) c.in_ok-sources.sources c.in_ok-sources.ensures.held
    c.in_ok-file.ensures.rows status.Done

pub returns-clause-files : goal.returns-clause-files
returns-clause-files g c =
    let asked = c.args.asked.now in
    let before = g.D.Desk.files c.args.desk.now in
    let after = g.D.Desk.files c.store_file.new.desk in
    let file = c.in_ok-file.file in
    let is = page_made asked before c.in_ok-sources.sources c.in_ok-sources.ensures.held c.in_ok-file.ensures.rows file
    c.in_ok-sources.ensures.well_formed c.in_ok-file.ensures.page c.in_ok-file.ensures.line in
    stores-done (page_command asked) before after (made_by asked file) is (tt, tt)
    (subst (λ (a : PageAsked). Told before after (AreStored ((a.page, file.page.items) ∷ []))) c.asked.view_is
    (rw (c.deref.ensures.value, c.in_ok-sources.ensures.unchanged) at c.in_ok-store_file.ensures.files))

pub returns-clause-asked : goal.returns-clause-asked
returns-clause-asked g c =
    let asked = c.args.asked.now in
    let between = g.D.Desk.calls c.fetch_sources.new.desk in
    let after = g.D.Desk.calls c.store_file.new.desk in
    all-calls (g.D.Desk.calls c.args.desk.now) between after (take 4 (page_calls asked)) (page_of asked) c.in_ok-sources.ensures.asked
    (subst (λ (a : PageAsked). PutsOnRecord between after (λ calls. calls ≡ page_of a)) c.asked.view_is c.in_ok-store_file.ensures.asked)
