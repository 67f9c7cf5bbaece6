use Rattle.std.proofs.Common.{◌≡◌, ◌∙◌, ◌∷◌, [], ◌++◌, List, Err, Result, subst}
use Rattle.edit_desk.specs.Desk.{Asked, PutsOnRecord, stored}
use Rattle.edit_release.specs.declared.release.Release.{Release}
use Rattle.command_words.specs.Asked.{EditAsked}
use Rattle.command_words.specs.declared.edit_words.EditWords.TheInside.{Inside}
use Rattle.edit_command.specs.inner.EditParts.{release_files}
use Rattle.run_parts.specs.Run.{AreCallsTo}
use Rattle.run_parts.specs.Parts.{store_calls}
use Rattle.run_parts.specs.declared.fault.Fault.{Fault}
use Rattle.run_parts.proofs.CallLaws.{all-calls, behind-calls, calls-between, less-calls, of-stores}
use Rattle.run_parts.proofs.StoreLaws.{Texts, stores-both, stores-first, stores-then}
use Rattle.run_parts.proofs.ToldLaws.{handed}
use Rattle.edit_command.proofs.edit_run.store_release.Goals as goal

-- the files of a release, each by itself
abbrev proof_of : Inside → Release → Texts
proof_of w release = (w.proof.now, release.proof.items) ∷ []

abbrev reasons_of : Inside → Release → Texts
reasons_of w release = (w.reasons.now, release.reasons.items) ∷ []

abbrev released_of : Inside → Release → Texts
released_of w release = (w.released.now, release.released.items) ∷ []

-- the calls that store them
abbrev proof_call : Inside → List Asked
proof_call w = stored w.proof.now ∷ []

abbrev reasons_call : Inside → List Asked
reasons_call w = stored w.reasons.now ∷ []

abbrev released_call : Inside → List Asked
released_call w = stored w.released.now ∷ []

pub returns-in_err-store_file : goal.returns-in_err-store_file
returns-in_err-store_file g c =
    let w = c.asked.inside in
    let release = c.args.release.now in
    let f = c.in_err-store_file.field-0.0 in
    let before = g.D.Desk.calls c.args.desk.now in
    let after = g.D.Desk.calls c.store_file.new.desk in
    rw (handed c.from_residual.result _ c.from_residual.ensures.1)
    (record {
      kind = c.in_err-store_file.ensures.kind;
      files =
          rw (← c.asked.view_is)
          (stores-first (proof_of w release) (reasons_of w release ++ released_of w release) c.in_err-store_file.field-0.0 _ _
          c.in_err-store_file.ensures.kind (rw c.deref.ensures.value at c.in_err-store_file.ensures.files));
      asked =
          subst (λ (a : EditAsked). PutsOnRecord before after (AreCallsTo (store_calls (release_files a c.args.release.now)) f)) c.asked.view_is
          (less-calls before _ _
          (λ calls h. calls-between [] (proof_call w) (reasons_call w ++ released_call w) calls f (of-stores _ c.in_err-store_file.ensures.kind) h)
          c.in_err-store_file.ensures.asked);
      faults = c.in_err-store_file.ensures.faults;
    })

pub returns-in_err-store_file-2 : goal.returns-in_err-store_file-2
returns-in_err-store_file-2 g c =
    let w = c.asked.inside in
    let release = c.args.release.now in
    let r : Result (Unit {0}) Fault = Err c.in_err-store_file-2.field-0.0 in
    let f = c.in_err-store_file-2.field-0.0 in
    let before = g.D.Desk.calls c.args.desk.now in
    let after = g.D.Desk.calls c.store_file-2.new.desk in
    rw (handed c.from_residual-in_err-store_file-2.result _ c.from_residual-in_err-store_file-2.ensures.1)
    (record {
      kind = c.in_err-store_file-2.ensures.kind;
      files =
          rw (← c.asked.view_is)
          (stores-first (proof_of w release ++ reasons_of w release) (released_of w release) c.in_err-store_file-2.field-0.0 _ _
          c.in_err-store_file-2.ensures.kind
          (stores-then (proof_of w release) (reasons_of w release) r _ _ _ c.in_err-store_file-2.ensures.kind
          (rw c.deref.ensures.value at c.in_ok-store_file.ensures.files) (rw c.deref-2.ensures.value at c.in_err-store_file-2.ensures.files)));
      asked =
          subst (λ (a : EditAsked). PutsOnRecord before after (AreCallsTo (store_calls (release_files a c.args.release.now)) f)) c.asked.view_is
          (behind-calls before _ _ (proof_call w) (reasons_call w) (released_call w) f (of-stores _ c.in_err-store_file-2.ensures.kind)
          c.in_ok-store_file.ensures.asked c.in_err-store_file-2.ensures.asked);
      faults = rw c.in_ok-store_file.ensures.faults at c.in_err-store_file-2.ensures.faults;
    })

pub returns-in_err-store_file-3 : goal.returns-in_err-store_file-3
returns-in_err-store_file-3 g c =
    let w = c.asked.inside in
    let release = c.args.release.now in
    let r : Result (Unit {0}) Fault = Err c.in_err-store_file-3.field-0.0 in
    let f = c.in_err-store_file-3.field-0.0 in
    let before = g.D.Desk.calls c.args.desk.now in
    let after = g.D.Desk.calls c.store_file-3.new.desk in
    rw (handed c.from_residual-in_err-store_file-3.result _ c.from_residual-in_err-store_file-3.ensures.1)
    (record {
      kind = c.in_err-store_file-3.ensures.kind;
      files =
          rw (← c.asked.view_is)
          (stores-then (proof_of w release ++ reasons_of w release) (released_of w release) r _ _ _ c.in_err-store_file-3.ensures.kind
          (stores-both (proof_of w release) (reasons_of w release) _ _ _
          (rw c.deref.ensures.value at c.in_ok-store_file.ensures.files) (rw c.deref-2.ensures.value at c.in_ok-store_file-2.ensures.files))
          (rw c.deref-3.ensures.value at c.in_err-store_file-3.ensures.files));
      asked =
          subst (λ (a : EditAsked). PutsOnRecord before after (AreCallsTo (store_calls (release_files a c.args.release.now)) f)) c.asked.view_is
          (behind-calls before _ _ (proof_call w ++ reasons_call w) (released_call w) [] f (of-stores _ c.in_err-store_file-3.ensures.kind)
          (all-calls _ _ _ (proof_call w) (reasons_call w) c.in_ok-store_file.ensures.asked c.in_ok-store_file-2.ensures.asked)
          c.in_err-store_file-3.ensures.asked);
      faults = rw (c.in_ok-store_file-2.ensures.faults, c.in_ok-store_file.ensures.faults) at c.in_err-store_file-3.ensures.faults;
    })

pub returns-clause-files : goal.returns-clause-files
returns-clause-files g c =
    let w = c.asked.inside in
    let release = c.args.release.now in
    rw (← c.asked.view_is)
    (stores-both (proof_of w release ++ reasons_of w release) (released_of w release) _ _ _
    (stores-both (proof_of w release) (reasons_of w release) _ _ _
    (rw c.deref.ensures.value at c.in_ok-store_file.ensures.files) (rw c.deref-2.ensures.value at c.in_ok-store_file-2.ensures.files))
    (rw c.deref-3.ensures.value at c.in_ok-store_file-3.ensures.files))

pub returns-clause-asked : goal.returns-clause-asked
returns-clause-asked g c =
    let w = c.asked.inside in
    let before = g.D.Desk.calls c.args.desk.now in
    let after = g.D.Desk.calls c.store_file-3.new.desk in
    subst (λ (a : EditAsked). PutsOnRecord before after (λ calls. calls ≡ store_calls (release_files a c.args.release.now))) c.asked.view_is
    (all-calls before _ _ (proof_call w ++ reasons_call w) (released_call w)
    (all-calls _ _ _ (proof_call w) (reasons_call w) c.in_ok-store_file.ensures.asked c.in_ok-store_file-2.ensures.asked)
    c.in_ok-store_file-3.ensures.asked)

pub returns-clause-faults : goal.returns-clause-faults
returns-clause-faults g c = c.in_ok-store_file-3.ensures.faults ∙ (c.in_ok-store_file-2.ensures.faults ∙ c.in_ok-store_file.ensures.faults)
