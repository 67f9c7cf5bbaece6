use Rattle.std.proofs.Common.{◌≡◌, ◌∷◌, [], List, Ok, IfSome, subst}
use Rattle.edit_desk.specs.Desk.{Asked, PutsOnRecord, Told, fetched, stored}
use Rattle.command_words.specs.Asked.{FillAsked}
use Rattle.command_words.specs.declared.fill_words.FillWords.TheInside.{Inside}
use Rattle.command_words.proofs.AskedLaws.{fill_of}
use Rattle.run_parts.specs.CommandParts.{CommandEnds}
use Rattle.run_parts.specs.Commands.{Leaves}
use Rattle.run_parts.specs.Faults.{fault_status}
use Rattle.run_parts.specs.Readings.{AnswersDue, RefusesInput}
use Rattle.run_parts.specs.Run.{AreCallsTo}
use Rattle.run_parts.specs.declared.fault.Fault.TheVariants as fault
use Rattle.run_parts.proofs.CallLaws.{all-calls, behind-calls, input-calls, less-calls, of-input, of-stores}
use Rattle.run_parts.proofs.CommandLaws.{stores-done, stores-stopped, unstored}
use Rattle.run_parts.proofs.InputLaws.{stores-refuse, told-read-due}
use Rattle.run_parts.proofs.ToldLaws.{handed}
use Rattle.fill_command.specs.FillRun.{IsFillDue, fill_calls, fill_command, made_of}
use Rattle.fill_command.proofs.FillLaws.{filling}
use Rattle.fill_command.proofs.fill_run.fill.Goals as goal

-- what these words ask for
abbrev asked_in : Inside → FillAsked
asked_in w = fill_of w.rules.now w.records.now w.released.now w.budget

-- the calls by which files are read, and by which one is stored
abbrev reads_in : Inside → List Asked
reads_in w = fetched w.rules.now ∷ fetched w.records.now ∷ []

abbrev stores_in : Inside → List Asked
stores_in w = stored w.released.now ∷ []

-- ---- the rules or the records are refused

pub returns-in_err-input-clause-kind : goal.returns-in_err-input-clause-kind
returns-in_err-input-clause-kind g c =
    rw (handed c.from_residual.result _ c.from_residual.ensures.1) (of-input c.in_err-input.field-0.0 c.in_err-input.ensures.kind)

pub returns-in_err-input-clause-files : goal.returns-in_err-input-clause-files
returns-in_err-input-clause-files g c =
    let f = c.in_err-input.field-0.0 in
    rw (handed c.from_residual.result _ c.from_residual.ensures.1)
    (unstored (fill_command c.args.asked.now) (g.D.Desk.files c.args.desk.now) (g.D.Desk.files c.fetch_input.new.desk) f
    c.in_err-input.ensures.kind c.in_err-input.ensures.unchanged)

pub returns-in_err-input-clause-asked : goal.returns-in_err-input-clause-asked
returns-in_err-input-clause-asked g c =
    let f = c.in_err-input.field-0.0 in
    let w = c.asked.inside in
    let before = g.D.Desk.calls c.args.desk.now in
    rw (handed c.from_residual.result _ c.from_residual.ensures.1)
    (subst (λ (a : FillAsked). PutsOnRecord before (g.D.Desk.calls c.fetch_input.new.desk) (AreCallsTo (fill_calls a) f)) c.asked.view_is
    (less-calls before _ (AreCallsTo (fill_calls (asked_in w)) f)
    (λ calls h. input-calls w.rules.now w.records.now (stores_in w) calls f c.in_err-input.ensures.kind h) c.in_err-input.ensures.asked))

-- ---- memory is refused as the records are filled

pub returns-in_default-clause-due : goal.returns-in_default-clause-due
returns-in_default-clause-due g c =
    let w = c.asked.inside in
    let before = g.D.Desk.files c.args.desk.now in
    rw c.out_of_memory.ensures
    (subst (λ (a : FillAsked). IfSome before (λ o. AnswersDue (IsFillDue a o) (fault_status fault.OutOfMemory))) c.asked.view_is
    (told-read-due w.rules.now w.records.now before c.in_ok-input.input.0 c.in_ok-input.input.1 c.in_ok-input.ensures.rules
    c.in_ok-input.ensures.records (fault_status fault.OutOfMemory)))

pub returns-in_default-clause-files : goal.returns-in_default-clause-files
returns-in_default-clause-files g c =
    rw c.out_of_memory.ensures
    (unstored (fill_command c.args.asked.now) (g.D.Desk.files c.args.desk.now) (g.D.Desk.files c.fetch_input.new.desk) fault.OutOfMemory
    tt c.in_ok-input.ensures.unchanged)

pub returns-in_default-clause-asked : goal.returns-in_default-clause-asked
returns-in_default-clause-asked g c =
    let w = c.asked.inside in
    let before = g.D.Desk.calls c.args.desk.now in
    rw c.out_of_memory.ensures
    (subst (λ (a : FillAsked). PutsOnRecord before (g.D.Desk.calls c.fetch_input.new.desk) (AreCallsTo (fill_calls a) fault.OutOfMemory))
    c.asked.view_is
    (less-calls before _ (AreCallsTo (fill_calls (asked_in w)) fault.OutOfMemory) (λ x e. (2, e)) c.in_ok-input.ensures.asked))

-- ---- the store ends in a fault

pub returns-in_err-store_file-clause-cause : goal.returns-in_err-store_file-clause-cause
returns-in_err-store_file-clause-cause g c =
    let f = c.in_err-store_file.field-0.0 in
    let w = c.asked.inside in
    let before = g.D.Desk.files c.args.desk.now in
    rw (handed c.from_residual-in_err-store_file.result _ c.from_residual-in_err-store_file.ensures.1)
    (subst (λ (a : FillAsked). RefusesInput a.rules a.records before f) c.asked.view_is
    (stores-refuse w.rules.now w.records.now before f c.in_err-store_file.ensures.kind))

pub returns-in_err-store_file-clause-due : goal.returns-in_err-store_file-clause-due
returns-in_err-store_file-clause-due g c =
    let f = c.in_err-store_file.field-0.0 in
    let w = c.asked.inside in
    let before = g.D.Desk.files c.args.desk.now in
    rw (handed c.from_residual-in_err-store_file.result _ c.from_residual-in_err-store_file.ensures.1)
    (subst (λ (a : FillAsked). IfSome before (λ o. AnswersDue (IsFillDue a o) (fault_status f))) c.asked.view_is
    (told-read-due w.rules.now w.records.now before c.in_ok-input.input.0 c.in_ok-input.input.1 c.in_ok-input.ensures.rules
    c.in_ok-input.ensures.records (fault_status f)))

pub returns-in_err-store_file-clause-files : goal.returns-in_err-store_file-clause-files
returns-in_err-store_file-clause-files g c =
    let f = c.in_err-store_file.field-0.0 in
    let asked = asked_in c.asked.inside in
    let before = g.D.Desk.files c.args.desk.now in
    let after = g.D.Desk.files c.store_file.new.desk in
    let made = made_of asked c.in-Ok.file in
    let is = filling asked before c.in_ok-input.input.0 c.in_ok-input.input.1 c.in-Ok.file c.in_ok-input.ensures.rules
    c.in_ok-input.ensures.well_formed c.in_ok-input.ensures.records c.in-Ok.ensures.filled in
    rw (handed c.from_residual-in_err-store_file.result _ c.from_residual-in_err-store_file.ensures.1)
    (subst (λ (a : FillAsked). Told before after (Leaves (fill_command a) f)) c.asked.view_is
    (stores-stopped (fill_command asked) before after made is f c.in_err-store_file.ensures.kind
    (rw (c.deref.ensures.value, c.in_ok-input.ensures.unchanged) at c.in_err-store_file.ensures.files)))

pub returns-in_err-store_file-clause-asked : goal.returns-in_err-store_file-clause-asked
returns-in_err-store_file-clause-asked g c =
    let f = c.in_err-store_file.field-0.0 in
    let w = c.asked.inside in
    let before = g.D.Desk.calls c.args.desk.now in
    rw (handed c.from_residual-in_err-store_file.result _ c.from_residual-in_err-store_file.ensures.1)
    (subst (λ (a : FillAsked). PutsOnRecord before (g.D.Desk.calls c.store_file.new.desk) (AreCallsTo (fill_calls a) f)) c.asked.view_is
    (behind-calls before _ _ (reads_in w) (stores_in w) [] f (of-stores f c.in_err-store_file.ensures.kind) c.in_ok-input.ensures.asked
    c.in_err-store_file.ensures.asked))

-- ---- all was done

pub returns-clause-due : goal.returns-clause-due
returns-clause-due g c =
    let w = c.asked.inside in
    let before = g.D.Desk.files c.args.desk.now in
    subst (λ (a : FillAsked). IfSome before (λ o. AnswersDue (IsFillDue a o) (made_of a c.in-Ok.file).status)) c.asked.view_is
    (told-read-due w.rules.now w.records.now before c.in_ok-input.input.0 c.in_ok-input.input.1 c.in_ok-input.ensures.rules
    c.in_ok-input.ensures.records (made_of (asked_in w) c.in-Ok.file).status)

pub returns-clause-files : goal.returns-clause-files
returns-clause-files g c =
    let asked = asked_in c.asked.inside in
    let before = g.D.Desk.files c.args.desk.now in
    let after = g.D.Desk.files c.store_file.new.desk in
    let file = c.in-Ok.file in
    let is = filling asked before c.in_ok-input.input.0 c.in_ok-input.input.1 file c.in_ok-input.ensures.rules
    c.in_ok-input.ensures.well_formed c.in_ok-input.ensures.records c.in-Ok.ensures.filled in
    subst (λ (a : FillAsked). Told before after (CommandEnds (fill_command a) (made_of a) (Ok file))) c.asked.view_is
    (stores-done (fill_command asked) before after (made_of asked file) is (tt, tt)
    (rw (c.deref.ensures.value, c.in_ok-input.ensures.unchanged) at c.in_ok-store_file.ensures.files))

pub returns-clause-asked : goal.returns-clause-asked
returns-clause-asked g c =
    let w = c.asked.inside in
    let before = g.D.Desk.calls c.args.desk.now in
    subst (λ (a : FillAsked). PutsOnRecord before (g.D.Desk.calls c.store_file.new.desk) (λ calls. calls ≡ fill_calls a)) c.asked.view_is
    (all-calls before _ _ (reads_in w) (stores_in w) c.in_ok-input.ensures.asked c.in_ok-store_file.ensures.asked)
