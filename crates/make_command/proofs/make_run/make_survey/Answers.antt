use Rattle.std.proofs.Common.{[], append-nil, refl, subst, sym}
use Rattle.edit_desk.specs.Desk.{PutsOnRecord, Told}
use Rattle.command_words.specs.Asked.{MakeAsked}
use Rattle.make_command.specs.MakeRun.{AreMade, make_calls, make_files}
use Rattle.run_parts.specs.Run.{AreCallsTo, LeavesOf}
use Rattle.command_words.proofs.AskedLaws.{make_of}
use Rattle.make_command.proofs.MakeLaws.{all-made}
use Rattle.run_parts.proofs.ToldLaws.{handed, less-told}
use Rattle.run_parts.proofs.WordLaws.{told-same}
use Rattle.make_command.proofs.make_run.make_survey.Goals as goal

pub returns-in_default-clause-asked : goal.returns-in_default-clause-asked
returns-in_default-clause-asked g c =
    let before = g.D.Desk.calls c.args.desk.now in
    rw c.out_of_memory.ensures (told-same before before _ refl (λ calls. ([], sym (append-nil calls), (0, refl))))

pub returns-in_err-store_survey-clause-files : goal.returns-in_err-store_survey-clause-files
returns-in_err-store_survey-clause-files g c =
    let f = c.in_err-store_survey.field-0.0 in
    rw (handed c.from_residual.result _ c.from_residual.ensures.1)
    (subst (λ (a : MakeAsked). Told (g.D.Desk.files c.args.desk.now) (g.D.Desk.files c.store_survey.new.desk) (LeavesOf (make_files a) f)) c.asked.view_is
    (rw (c.in-Ok.ensures.rules, c.in-Ok.ensures.records) at c.in_err-store_survey.ensures.files))

pub returns-in_err-store_survey-clause-asked : goal.returns-in_err-store_survey-clause-asked
returns-in_err-store_survey-clause-asked g c =
    let f = c.in_err-store_survey.field-0.0 in
    rw (handed c.from_residual.result _ c.from_residual.ensures.1)
    (subst (λ (a : MakeAsked). PutsOnRecord (g.D.Desk.calls c.args.desk.now) (g.D.Desk.calls c.store_survey.new.desk) (AreCallsTo (make_calls a) f))
    c.asked.view_is
    c.in_err-store_survey.ensures.asked)

pub returns-clause-files : goal.returns-clause-files
returns-clause-files g c =
    let w = c.asked.inside in
    let asked = make_of w.rules.now w.records.now w.start w.rows in
    subst (λ (a : MakeAsked). Told (g.D.Desk.files c.args.desk.now) (g.D.Desk.files c.store_survey.new.desk) (AreMade a)) c.asked.view_is
    (less-told (g.D.Desk.files c.args.desk.now) _ (λ old new h. all-made asked old new c.asked.invariant h)
    (rw (c.in-Ok.ensures.rules, c.in-Ok.ensures.records) at c.in_ok-store_survey.ensures.files))
