use Rattle.std.proofs.Common.{◌≡◌, ◌∙◌, ◌∷◌, [], List, Ok, IfSome, ap, option_copied, subst, sym}
use Rattle.edit_desk.specs.Desk.{Asked, PutsOnRecord, Told, fetched, stored}
use Rattle.edit_release.specs.Releases.{IsReleaseOf, written_in}
use Rattle.command_words.specs.Asked.{EditAsked}
use Rattle.command_words.specs.declared.edit_words.EditWords.TheInside.{Inside}
use Rattle.command_words.proofs.AskedLaws.{edit_of}
use Rattle.edit_command.specs.Edits.{terms_asked}
use Rattle.edit_command.specs.EditRun.{edit_calls}
use Rattle.edit_command.specs.inner.EditParts.{edit_status, release_files, release_made}
use Rattle.edit_command.specs.inner.EitherRun.{IsEitherDue, RefusesEither, either_command}
use Rattle.run_parts.specs.CommandParts.{CommandEnds}
use Rattle.run_parts.specs.Commands.{Leaves}
use Rattle.run_parts.specs.Faults.{fault_status}
use Rattle.run_parts.specs.Parts.{store_calls}
use Rattle.run_parts.specs.Readings.{AnswersDue}
use Rattle.run_parts.specs.Run.{AreCallsTo, faults_by}
use Rattle.run_parts.specs.declared.fault.Fault.TheVariants as fault
use Rattle.run_parts.proofs.CallLaws.{all-calls, behind-calls, less-calls, of-stores}
use Rattle.run_parts.proofs.CommandLaws.{stores-done, stores-stopped}
use Rattle.run_parts.proofs.ToldLaws.{handed}
use Rattle.edit_command.proofs.ClassLaws.{class_within}
use Rattle.edit_command.proofs.EndLaws.{editing}
use Rattle.edit_command.proofs.InputLaws.{either-calls, of-either, stores-either, stores-refuse-either, told-memory-due, told-read-due}
use Rattle.edit_command.proofs.RunLaws.{either-unstored}
use Rattle.edit_command.proofs.WrittenLaws.{own-names}
use Rattle.edit_command.proofs.edit_run.edit_and_store.Goals as goal

-- what these words ask for
abbrev asked_in : Inside → EditAsked
asked_in w = edit_of w.rules.now w.records.now w.released.now w.reasons.now w.proof.now w.workers w.budget w.limit w.near

-- the calls by which files are read, and by which they are stored
abbrev reads_in : Inside → List Asked
reads_in w = fetched w.rules.now ∷ fetched w.records.now ∷ []

abbrev stores_in : Inside → List Asked
stores_in w = stored w.proof.now ∷ stored w.reasons.now ∷ stored w.released.now ∷ []

-- ---- what was read, and the class field, which is one of the fields

pub release_of-requires-clause-read : goal.release_of-requires-clause-read
release_of-requires-clause-read g c κs within = c.in_ok-input.ensures.sheet

pub release_of-requires-clause-plain : goal.release_of-requires-clause-plain
release_of-requires-clause-plain g c κs within = c.in_ok-input.ensures.plain

pub release_of-requires-clause-field : goal.release_of-requires-clause-field
release_of-requires-clause-field g c κs within =
    class_within c.in_ok-input.input.survey.fields (option_copied c.args.class) c.in_ok-input.input.class_field c.in_ok-input.ensures.held.classes

-- ---- the rules, the class field or the records are refused

pub returns-in_err-input : goal.returns-in_err-input
returns-in_err-input g c =
    let f = c.in_err-input.field-0.0 in
    let w = c.asked.inside in
    rw (handed c.from_residual.result _ c.from_residual.ensures.1)
    (record {
      kind = of-either (option_copied c.args.class) c.in_err-input.field-0.0 c.in_err-input.ensures.kind;
      cause =
          let before = g.D.Desk.files c.args.desk.now in
          subst (λ (a : EditAsked). RefusesEither a.names.rules a.names.records (option_copied c.args.class) before f) c.asked.view_is
          c.in_err-input.ensures.cause;
      due =
          let before = g.D.Desk.files c.args.desk.now in
          subst (λ (a : EditAsked). IfSome before (λ o. AnswersDue (IsEitherDue a.names.rules a.names.records (option_copied c.args.class) o) (fault_status f)))
          c.asked.view_is c.in_err-input.ensures.due;
      files =
          either-unstored (either_command c.args.asked.now (option_copied c.args.class)) (option_copied c.args.class) (g.D.Desk.files c.args.desk.now)
          (g.D.Desk.files c.fetch_edit.new.desk) c.in_err-input.field-0.0 c.in_err-input.ensures.kind c.in_err-input.ensures.unchanged;
      asked =
          let before = g.D.Desk.calls c.args.desk.now in
          subst (λ (a : EditAsked). PutsOnRecord before (g.D.Desk.calls c.fetch_edit.new.desk) (AreCallsTo (edit_calls a) f)) c.asked.view_is
          (less-calls before _ (AreCallsTo (edit_calls (asked_in w)) f)
          (λ calls h. either-calls (option_copied c.args.class) w.rules.now w.records.now (stores_in w) calls f c.in_err-input.ensures.kind h)
          c.in_err-input.ensures.asked);
      faults = c.in_err-input.ensures.faults;
    })

-- ---- memory is refused as the records are edited

pub returns-in_default : goal.returns-in_default
returns-in_default g c =
    let w = c.asked.inside in
    let before = g.D.Desk.calls c.args.desk.now in
    rw c.out_of_memory.ensures
    (record {
      kind = stores-either (option_copied c.args.class) fault.OutOfMemory tt;
      cause =
          stores-refuse-either c.args.asked.now.names.rules c.args.asked.now.names.records (g.D.Desk.files c.args.desk.now) (option_copied c.args.class)
          fault.OutOfMemory tt;
      due = told-memory-due c.args.asked.now.names.rules c.args.asked.now.names.records (option_copied c.args.class) (g.D.Desk.files c.args.desk.now);
      files =
          either-unstored (either_command c.args.asked.now (option_copied c.args.class)) (option_copied c.args.class) (g.D.Desk.files c.args.desk.now)
          (g.D.Desk.files c.fetch_edit.new.desk) fault.OutOfMemory tt c.in_ok-input.ensures.unchanged;
      asked =
          subst (λ (a : EditAsked). PutsOnRecord before (g.D.Desk.calls c.fetch_edit.new.desk) (AreCallsTo (edit_calls a) fault.OutOfMemory))
          c.asked.view_is
          (less-calls before _ (AreCallsTo (edit_calls (asked_in w)) fault.OutOfMemory) (λ x e. (2, e)) c.in_ok-input.ensures.asked);
      faults = c.in_ok-input.ensures.faults;
    })

-- ---- a store ends in a fault

pub returns-in_err-store_release-clause-kind : goal.returns-in_err-store_release-clause-kind
returns-in_err-store_release-clause-kind g c =
    rw (handed c.from_residual-in_err-store_release.result _ c.from_residual-in_err-store_release.ensures.1)
    (stores-either (option_copied c.args.class) c.in_err-store_release.field-0.0 c.in_err-store_release.ensures.kind)

pub returns-in_err-store_release-clause-cause : goal.returns-in_err-store_release-clause-cause
returns-in_err-store_release-clause-cause g c =
    let f = c.in_err-store_release.field-0.0 in
    let w = c.asked.inside in
    let before = g.D.Desk.files c.args.desk.now in
    rw (handed c.from_residual-in_err-store_release.result _ c.from_residual-in_err-store_release.ensures.1)
    (subst (λ (a : EditAsked). RefusesEither a.names.rules a.names.records (option_copied c.args.class) before f) c.asked.view_is
    (stores-refuse-either w.rules.now w.records.now before (option_copied c.args.class) f c.in_err-store_release.ensures.kind))

pub returns-in_err-store_release-clause-due : goal.returns-in_err-store_release-clause-due
returns-in_err-store_release-clause-due g c =
    let f = c.in_err-store_release.field-0.0 in
    let w = c.asked.inside in
    let before = g.D.Desk.files c.args.desk.now in
    rw (handed c.from_residual-in_err-store_release.result _ c.from_residual-in_err-store_release.ensures.1)
    (subst (λ (a : EditAsked). IfSome before (λ o. AnswersDue (IsEitherDue a.names.rules a.names.records (option_copied c.args.class) o) (fault_status f)))
    c.asked.view_is
    (told-read-due w.rules.now w.records.now (option_copied c.args.class) before c.in_ok-input.input.survey c.in_ok-input.ensures.held.read_rules
    c.in_ok-input.input.class_field c.in_ok-input.ensures.held.classes c.in_ok-input.input.sheet c.in_ok-input.ensures.held.read_records (fault_status f)))

pub returns-in_err-store_release-clause-files : goal.returns-in_err-store_release-clause-files
returns-in_err-store_release-clause-files g c =
    let f = c.in_err-store_release.field-0.0 in
    let asked = asked_in c.asked.inside in
    let before = g.D.Desk.files c.args.desk.now in
    let after = g.D.Desk.files c.store_release.new.desk in
    let survey = c.in_ok-input.input.survey in
    let sheet = c.in_ok-input.input.sheet in
    let release = c.in-Ok.release in
    let class = option_copied c.args.class in
    let class_field = c.in_ok-input.input.class_field in
    let edit =
    subst (λ (a : EditAsked). IsReleaseOf survey sheet (terms_asked a class_field) a.workers release) (sym c.asked.view_is) c.in-Ok.ensures.edit in
    let is = editing asked class survey class_field sheet release c.in_ok-input.ensures.well_formed edit before c.in_ok-input.ensures.held in
    rw (handed c.from_residual-in_err-store_release.result _ c.from_residual-in_err-store_release.ensures.1)
    (subst (λ (a : EditAsked). Told before after (Leaves (either_command a class) f)) c.asked.view_is
    (stores-stopped (either_command asked class) before after (release_made asked release) is f c.in_err-store_release.ensures.kind
    (rw (← c.asked.view_is, c.in_ok-input.ensures.unchanged) at c.in_err-store_release.ensures.files)))

pub returns-in_err-store_release-clause-asked : goal.returns-in_err-store_release-clause-asked
returns-in_err-store_release-clause-asked g c =
    let f = c.in_err-store_release.field-0.0 in
    let w = c.asked.inside in
    let before = g.D.Desk.calls c.args.desk.now in
    let between = g.D.Desk.calls c.fetch_edit.new.desk in
    let after = g.D.Desk.calls c.store_release.new.desk in
    let release = c.in-Ok.release in
    rw (handed c.from_residual-in_err-store_release.result _ c.from_residual-in_err-store_release.ensures.1)
    (subst (λ (a : EditAsked). PutsOnRecord before after (AreCallsTo (edit_calls a) f)) c.asked.view_is
    (behind-calls before _ _ (reads_in w) (stores_in w) [] f (of-stores _ c.in_err-store_release.ensures.kind) c.in_ok-input.ensures.asked
    (subst (λ (a : EditAsked). PutsOnRecord between after (AreCallsTo (store_calls (release_files a release)) f)) (sym c.asked.view_is)
    c.in_err-store_release.ensures.asked)))

pub returns-in_err-store_release-clause-faults : goal.returns-in_err-store_release-clause-faults
returns-in_err-store_release-clause-faults g c =
    rw (handed c.from_residual-in_err-store_release.result _ c.from_residual-in_err-store_release.ensures.1)
    (c.in_err-store_release.ensures.faults ∙ ap (faults_by c.in_err-store_release.field-0.0) c.in_ok-input.ensures.faults)

-- ---- all was done

pub returns-clause-due : goal.returns-clause-due
returns-clause-due g c =
    let w = c.asked.inside in
    let before = g.D.Desk.files c.args.desk.now in
    let answer = edit_status c.in-Ok.release in
    subst (λ (a : EditAsked). IfSome before (λ o. AnswersDue (IsEitherDue a.names.rules a.names.records (option_copied c.args.class) o) answer)) c.asked.view_is
    (told-read-due w.rules.now w.records.now (option_copied c.args.class) before c.in_ok-input.input.survey c.in_ok-input.ensures.held.read_rules
    c.in_ok-input.input.class_field c.in_ok-input.ensures.held.classes c.in_ok-input.input.sheet c.in_ok-input.ensures.held.read_records answer)

pub returns-clause-files : goal.returns-clause-files
returns-clause-files g c =
    let asked = asked_in c.asked.inside in
    let before = g.D.Desk.files c.args.desk.now in
    let after = g.D.Desk.files c.store_release.new.desk in
    let survey = c.in_ok-input.input.survey in
    let sheet = c.in_ok-input.input.sheet in
    let release = c.in-Ok.release in
    let class = option_copied c.args.class in
    let class_field = c.in_ok-input.input.class_field in
    let edit =
    subst (λ (a : EditAsked). IsReleaseOf survey sheet (terms_asked a class_field) a.workers release) (sym c.asked.view_is) c.in-Ok.ensures.edit in
    let is = editing asked class survey class_field sheet release c.in_ok-input.ensures.well_formed edit before c.in_ok-input.ensures.held in
    subst (λ (a : EditAsked). Told before after (CommandEnds (either_command a class) (release_made a) (Ok release))) c.asked.view_is
    (stores-done (either_command asked class) before after (release_made asked release) is
    (own-names asked (written_in release) c.asked.invariant.0)
    (rw (← c.asked.view_is, c.in_ok-input.ensures.unchanged) at c.in_ok-store_release.ensures.files))

pub returns-clause-asked : goal.returns-clause-asked
returns-clause-asked g c =
    let w = c.asked.inside in
    let before = g.D.Desk.calls c.args.desk.now in
    let between = g.D.Desk.calls c.fetch_edit.new.desk in
    let after = g.D.Desk.calls c.store_release.new.desk in
    let release = c.in-Ok.release in
    subst (λ (a : EditAsked). PutsOnRecord before after (λ calls. calls ≡ edit_calls a)) c.asked.view_is
    (all-calls before _ _ (reads_in w) (stores_in w) c.in_ok-input.ensures.asked
    (subst (λ (a : EditAsked). PutsOnRecord between after (λ calls. calls ≡ store_calls (release_files a release))) (sym c.asked.view_is)
    c.in_ok-store_release.ensures.asked))

pub returns-clause-faults : goal.returns-clause-faults
returns-clause-faults g c = c.in_ok-store_release.ensures.faults ∙ c.in_ok-input.ensures.faults
