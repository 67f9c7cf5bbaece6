use Rattle.std.proofs.Common.{◌≡◌, IfOk, subst, sym}
use Rattle.edit_model.specs.FieldSets.{with_number}
use Rattle.edit_line.specs.EditSets.{EditsParts}
use Rattle.edit_line.specs.Shapes.{IsNumerical}
use Rattle.linear_elim.specs.Answers.{Answers}
use Rattle.linear_elim.specs.Helds.{system_held}
use Rattle.linear_elim.specs.Systems.{system_at}
use Rattle.linear_elim.specs.Told.{told_system}
use Rattle.shared_edits.proofs.KeepLaws.{answered-keeps}
use Rattle.record_workers.proofs.KeepLaws.{still-keeps}
use Rattle.record_workers.proofs.source.WorkerSourceSystems.system_after.Goals as goal

pub obtain_after-requires-clause-edits : goal.obtain_after-requires-clause-edits
obtain_after-requires-clause-edits g c = c.requires.served.0

pub obtain_after-requires-clause-numerical : goal.obtain_after-requires-clause-numerical
obtain_after-requires-clause-numerical g c =
    subst (λ (e : EditsParts). IsNumerical e.shape c.args.field) c.requires.served.0 c.requires.numerical

pub obtain_after-requires-clause-reader : goal.obtain_after-requires-clause-reader
obtain_after-requires-clause-reader g c = c.requires.served.1

pub returns-clause-edits : goal.returns-clause-edits
returns-clause-edits g c =
    subst (λ (e : EditsParts). IfOk c.obtain_after.result (λ h. (system_held h).edits ≡ e)) (sym c.requires.served.0) c.obtain_after.ensures.edits

pub returns-clause-fields : goal.returns-clause-fields
returns-clause-fields g c = c.obtain_after.ensures.fields

pub returns-clause-exact : goal.returns-clause-exact
returns-clause-exact g c =
    subst (λ (e : EditsParts). Answers (λ h. (system_held h).lines) told_system c.obtain_after.result
    (system_at e (with_number c.args.before.now.fields c.args.field))) (sym c.requires.served.0) c.obtain_after.ensures.exact

pub returns-clause-few : goal.returns-clause-few
returns-clause-few g c = c.obtain_after.ensures.few

pub returns-clause-counts : goal.returns-clause-counts
returns-clause-counts g c = c.obtain_after.ensures.counts

pub returns-clause-serves : goal.returns-clause-serves
returns-clause-serves g c e served = (served.0, c.obtain_after.ensures.reader, served.2, served.3)

pub returns-clause-keeps : goal.returns-clause-keeps
returns-clause-keeps g c =
    let said = c.obtain_after.ensures in
    still-keeps c.args.self.now.source.pool.now (with_number c.args.before.now.fields c.args.field) c.args.self.now.source.reader.now
    c.obtain_after.new.reader c.obtain_after.result said.obtained said.refused

pub returns-clause-kept : goal.returns-clause-kept
returns-clause-kept g c =
    let said = c.obtain_after.ensures in
    answered-keeps c.args.self.now.source.pool.now
    (with_number c.args.before.now.fields c.args.field) c.args.self.now.source.reader.now c.obtain_after.new.reader c.obtain_after.result
    said.reader said.edits said.fields said.exact said.obtained
