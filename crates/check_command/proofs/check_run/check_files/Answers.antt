use Rattle.std.proofs.Common.{◌∷◌, [], ◌++◌, IfErr, IfOk, IfSome, List, subst, sym}
use Rattle.edit_desk.specs.Desk.{Asked, PutsOnRecord, fetched}
use Rattle.cert_check.specs.Releases.{Audit, audit_of}
use Rattle.command_words.specs.Asked.{CheckAsked}
use Rattle.command_words.specs.declared.check_words.CheckWords.TheInside.{Inside}
use Rattle.command_words.proofs.AskedLaws.{check_of}
use Rattle.run_parts.specs.Faults.{fault_status}
use Rattle.run_parts.specs.Limits.{most_bytes, most_proof_bytes}
use Rattle.run_parts.specs.Parts.{AreCallsOf, RefusesLong, done_end}
use Rattle.run_parts.specs.Readings.{AnswersDue, HoldsRecords, HoldsRelease, HoldsRules, IsCheckDue, RefusesCheck, RefusesInput}
use Rattle.run_parts.specs.Run.{AreCallsTo}
use Rattle.run_parts.proofs.CallLaws.{all-calls, behind-calls, input-calls, less-calls, of-fetch}
use Rattle.run_parts.proofs.ToldLaws.{both-told, each-told, handed, three-told, where-told}
use Rattle.check_command.specs.CheckRun.{check_calls}
use Rattle.check_command.specs.inner.CheckParts.{Accepts}
use Rattle.check_command.proofs.AuditLaws.{accepted, all-held, audit-calls, audit-due, audit-faults, audit-kind, audit-refuse}
use Rattle.check_command.proofs.AuditLaws.{input-due, input-kind, input-refuse, proof-due, proof-refuse, released-due, released-refuse}
use Rattle.check_command.proofs.check_run.check_files.Goals as goal

-- what these words ask for
abbrev asked_in : Inside → CheckAsked
asked_in w = check_of w.rules.now w.records.now w.released.now w.proof.now

-- the calls for the rules and the records, for the released file, and for the proof
abbrev input_calls : Inside → List Asked
input_calls w = fetched w.rules.now ∷ fetched w.records.now ∷ []

abbrev released_call : Inside → List Asked
released_call w = fetched w.released.now ∷ []

abbrev proof_call : Inside → List Asked
proof_call w = fetched w.proof.now ∷ []

-- ---- the rules or the records are refused

pub returns-in_err-input-clause-kind : goal.returns-in_err-input-clause-kind
returns-in_err-input-clause-kind g c =
    rw (handed c.from_residual.result _ c.from_residual.ensures.1) (input-kind c.in_err-input.field-0.0 c.in_err-input.ensures.kind)

pub returns-in_err-input-clause-cause : goal.returns-in_err-input-clause-cause
returns-in_err-input-clause-cause g c =
    let f = c.in_err-input.field-0.0 in
    let w = c.asked.inside in
    let before = g.D.Desk.files c.args.desk.now in
    rw (handed c.from_residual.result _ c.from_residual.ensures.1)
    (subst (λ (a : CheckAsked). RefusesCheck a before f) c.asked.view_is
    (input-refuse (asked_in w) before f c.in_err-input.ensures.kind c.in_err-input.ensures.cause))

pub returns-in_err-input-clause-due : goal.returns-in_err-input-clause-due
returns-in_err-input-clause-due g c =
    let f = c.in_err-input.field-0.0 in
    let w = c.asked.inside in
    let before = g.D.Desk.files c.args.desk.now in
    rw (handed c.from_residual.result _ c.from_residual.ensures.1)
    (subst (λ (a : CheckAsked). IfSome before (λ o. AnswersDue (IsCheckDue a o) (fault_status f))) c.asked.view_is
    (both-told before (λ o why due. input-due (asked_in w) o f c.in_err-input.ensures.kind why due)
    (where-told before (λ o. RefusesInput w.rules.now w.records.now o f) c.in_err-input.ensures.cause) c.in_err-input.ensures.due))

pub returns-in_err-input-clause-asked : goal.returns-in_err-input-clause-asked
returns-in_err-input-clause-asked g c =
    let f = c.in_err-input.field-0.0 in
    let w = c.asked.inside in
    let before = g.D.Desk.calls c.args.desk.now in
    rw (handed c.from_residual.result _ c.from_residual.ensures.1)
    (subst (λ (a : CheckAsked). PutsOnRecord before (g.D.Desk.calls c.fetch_input.new.desk) (AreCallsTo (check_calls a) f)) c.asked.view_is
    (less-calls before _ (AreCallsTo (check_calls (asked_in w)) f)
    (λ calls h. input-calls w.rules.now w.records.now (released_call w ++ proof_call w) calls f c.in_err-input.ensures.kind h)
    c.in_err-input.ensures.asked))

-- ---- the released file is refused

pub returns-in_err-released-clause-cause : goal.returns-in_err-released-clause-cause
returns-in_err-released-clause-cause g c =
    let f = c.in_err-released.field-0.0 in
    let w = c.asked.inside in
    let before = g.D.Desk.files c.args.desk.now in
    rw (handed c.from_residual-in_err-released.result _ c.from_residual-in_err-released.ensures.1)
    (subst (λ (a : CheckAsked). RefusesCheck a before f) c.asked.view_is
    (released-refuse (asked_in w) before c.in_ok-input.input.0 c.in_ok-input.input.1 c.in_ok-input.ensures.rules c.in_ok-input.ensures.records
    f c.in_err-released.ensures.kind (rw c.in_ok-input.ensures.unchanged at c.in_err-released.ensures.cause)))

pub returns-in_err-released-clause-due : goal.returns-in_err-released-clause-due
returns-in_err-released-clause-due g c =
    let f = c.in_err-released.field-0.0 in
    let w = c.asked.inside in
    let survey = c.in_ok-input.input.0 in
    let sheet = c.in_ok-input.input.1 in
    let before = g.D.Desk.files c.args.desk.now in
    rw (handed c.from_residual-in_err-released.result _ c.from_residual-in_err-released.ensures.1)
    (subst (λ (a : CheckAsked). IfSome before (λ o. AnswersDue (IsCheckDue a o) (fault_status f))) c.asked.view_is
    (three-told before (λ o hr hs why. released-due (asked_in w) o survey sheet hr hs f c.in_err-released.ensures.kind why)
    (where-told before (λ o. HoldsRules o w.rules.now survey) c.in_ok-input.ensures.rules)
    (where-told before (λ o. HoldsRecords o w.records.now survey.fields sheet) c.in_ok-input.ensures.records)
    (where-told before (λ o. RefusesLong most_bytes o f) (rw c.in_ok-input.ensures.unchanged at c.in_err-released.ensures.cause))))

pub returns-in_err-released-clause-asked : goal.returns-in_err-released-clause-asked
returns-in_err-released-clause-asked g c =
    let f = c.in_err-released.field-0.0 in
    let w = c.asked.inside in
    let before = g.D.Desk.calls c.args.desk.now in
    rw (handed c.from_residual-in_err-released.result _ c.from_residual-in_err-released.ensures.1)
    (subst (λ (a : CheckAsked). PutsOnRecord before (g.D.Desk.calls c.fetch_file.new.desk) (AreCallsTo (check_calls a) f)) c.asked.view_is
    (behind-calls before _ _ (input_calls w) (released_call w) (proof_call w) f (of-fetch _ _ c.in_err-released.ensures.kind)
    c.in_ok-input.ensures.asked c.in_err-released.ensures.asked))

-- ---- the proof is refused

pub returns-in_err-proof-clause-cause : goal.returns-in_err-proof-clause-cause
returns-in_err-proof-clause-cause g c =
    let f = c.in_err-proof.field-0.0 in
    let w = c.asked.inside in
    let before = g.D.Desk.files c.args.desk.now in
    rw (handed c.from_residual-in_err-proof.result _ c.from_residual-in_err-proof.ensures.1)
    (subst (λ (a : CheckAsked). RefusesCheck a before f) c.asked.view_is
    (proof-refuse (asked_in w) before c.in_ok-input.input.0 c.in_ok-input.input.1 c.in_ok-input.ensures.rules c.in_ok-input.ensures.records
    c.in_ok-released.released.items f (rw c.in_ok-input.ensures.unchanged at c.in_ok-released.ensures.bytes) c.in_err-proof.ensures.kind
    (rw (c.in_ok-released.ensures.unchanged, c.in_ok-input.ensures.unchanged) at c.in_err-proof.ensures.cause)))

pub returns-in_err-proof-clause-due : goal.returns-in_err-proof-clause-due
returns-in_err-proof-clause-due g c =
    let f = c.in_err-proof.field-0.0 in
    let w = c.asked.inside in
    let survey = c.in_ok-input.input.0 in
    let sheet = c.in_ok-input.input.1 in
    let before = g.D.Desk.files c.args.desk.now in
    rw (handed c.from_residual-in_err-proof.result _ c.from_residual-in_err-proof.ensures.1)
    (subst (λ (a : CheckAsked). IfSome before (λ o. AnswersDue (IsCheckDue a o) (fault_status f))) c.asked.view_is
    (three-told before (λ o hr hs why. proof-due (asked_in w) o survey sheet hr hs f c.in_err-proof.ensures.kind why)
    (where-told before (λ o. HoldsRules o w.rules.now survey) c.in_ok-input.ensures.rules)
    (where-told before (λ o. HoldsRecords o w.records.now survey.fields sheet) c.in_ok-input.ensures.records)
    (where-told before (λ o. RefusesLong most_proof_bytes o f)
    (rw (c.in_ok-released.ensures.unchanged, c.in_ok-input.ensures.unchanged) at c.in_err-proof.ensures.cause))))

pub returns-in_err-proof-clause-asked : goal.returns-in_err-proof-clause-asked
returns-in_err-proof-clause-asked g c =
    let f = c.in_err-proof.field-0.0 in
    let w = c.asked.inside in
    let before = g.D.Desk.calls c.args.desk.now in
    rw (handed c.from_residual-in_err-proof.result _ c.from_residual-in_err-proof.ensures.1)
    (subst (λ (a : CheckAsked). PutsOnRecord before (g.D.Desk.calls c.fetch_file-2.new.desk) (AreCallsTo (check_calls a) f)) c.asked.view_is
    (behind-calls before _ _ (input_calls w ++ released_call w) (proof_call w) [] f (of-fetch _ _ c.in_err-proof.ensures.kind)
    (all-calls before _ _ (input_calls w) (released_call w) c.in_ok-input.ensures.asked c.in_ok-released.ensures.asked) c.in_err-proof.ensures.asked))

-- ---- the release is audited

pub returns-clause-kind : goal.returns-clause-kind
returns-clause-kind g c =
    audit-kind (audit_of c.in_ok-input.input.0 c.in_ok-input.input.1 c.in_ok-released.released.items c.in_ok-proof.proof.items)
    c.check_release.result c.check_release.ensures.refused

pub returns-clause-accepted : goal.returns-clause-accepted
returns-clause-accepted g c =
    let w = c.asked.inside in
    let before = g.D.Desk.files c.args.desk.now in
    let audit : Audit = audit_of c.in_ok-input.input.0 c.in_ok-input.input.1 c.in_ok-released.released.items c.in_ok-proof.proof.items in
    let held = all-held (asked_in w) before audit c.in_ok-input.ensures.unchanged c.in_ok-released.ensures.unchanged
    c.in_ok-input.ensures.rules c.in_ok-input.ensures.records c.in_ok-released.ensures.bytes c.in_ok-proof.ensures.bytes in
    subst (λ (a : CheckAsked). IfOk c.check_release.result (λ line. Accepts a before line.items)) c.asked.view_is
    (accepted (asked_in w) before audit held c.check_release.result c.check_release.ensures.valid)

pub returns-clause-cause : goal.returns-clause-cause
returns-clause-cause g c =
    let w = c.asked.inside in
    let before = g.D.Desk.files c.args.desk.now in
    let audit : Audit = audit_of c.in_ok-input.input.0 c.in_ok-input.input.1 c.in_ok-released.released.items c.in_ok-proof.proof.items in
    let held = all-held (asked_in w) before audit c.in_ok-input.ensures.unchanged c.in_ok-released.ensures.unchanged
    c.in_ok-input.ensures.rules c.in_ok-input.ensures.records c.in_ok-released.ensures.bytes c.in_ok-proof.ensures.bytes in
    subst (λ (a : CheckAsked). IfErr c.check_release.result (λ f. RefusesCheck a before f)) c.asked.view_is
    (audit-refuse (asked_in w) before audit held c.check_release.result c.check_release.ensures.refused)

pub returns-clause-due : goal.returns-clause-due
returns-clause-due g c =
    let w = c.asked.inside in
    let before = g.D.Desk.files c.args.desk.now in
    let audit : Audit = audit_of c.in_ok-input.input.0 c.in_ok-input.input.1 c.in_ok-released.released.items c.in_ok-proof.proof.items in
    let held = all-held (asked_in w) before audit c.in_ok-input.ensures.unchanged c.in_ok-released.ensures.unchanged
    c.in_ok-input.ensures.rules c.in_ok-input.ensures.records c.in_ok-released.ensures.bytes c.in_ok-proof.ensures.bytes in
    subst (λ (a : CheckAsked). IfSome before (λ o. AnswersDue (IsCheckDue a o) (done_end c.check_release.result))) c.asked.view_is
    (each-told before (λ o h. audit-due (asked_in w) o audit h c.check_release.result c.check_release.ensures.valid c.check_release.ensures.refused)
    (where-told before (λ o. HoldsRelease o (asked_in w) audit) held))

pub returns-clause-asked : goal.returns-clause-asked
returns-clause-asked g c =
    let w = c.asked.inside in
    let before = g.D.Desk.calls c.args.desk.now in
    let audit : Audit = audit_of c.in_ok-input.input.0 c.in_ok-input.input.1 c.in_ok-released.released.items c.in_ok-proof.proof.items in
    subst (λ (a : CheckAsked). PutsOnRecord before (g.D.Desk.calls c.fetch_file-2.new.desk) (AreCallsOf (check_calls a) c.check_release.result))
    c.asked.view_is
    (audit-calls audit before _ (check_calls (asked_in w)) c.check_release.result c.check_release.ensures.refused
    (all-calls before _ _ (input_calls w ++ released_call w) (proof_call w)
    (all-calls before _ _ (input_calls w) (released_call w) c.in_ok-input.ensures.asked c.in_ok-released.ensures.asked) c.in_ok-proof.ensures.asked))

pub returns-clause-faults : goal.returns-clause-faults
returns-clause-faults g c =
    let audit : Audit = audit_of c.in_ok-input.input.0 c.in_ok-input.input.1 c.in_ok-released.released.items c.in_ok-proof.proof.items in
    rw (c.in_ok-proof.ensures.faults, c.in_ok-released.ensures.faults, c.in_ok-input.ensures.faults)
    (sym (audit-faults audit c.check_release.result (g.D.Desk.faults c.args.desk.now) c.check_release.ensures.refused))
