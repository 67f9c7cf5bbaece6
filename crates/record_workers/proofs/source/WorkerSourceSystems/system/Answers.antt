use Rattle.std.proofs.Common.{◌≡◌, ◌+◌, ◌≤◌, IfOk, subst, sym}
use Rattle.edit_line.specs.EditSets.{EditsParts}
use Rattle.linear_elim.specs.Answers.{Answers}
use Rattle.linear_elim.specs.Helds.{system_held}
use Rattle.linear_elim.specs.Systems.{AreNumerical, pairs_at, system_at}
use Rattle.linear_elim.specs.Told.{told_system}
use Rattle.shared_edits.proofs.KeepLaws.{answered-keeps}
use Rattle.record_workers.proofs.KeepLaws.{still-keeps}
use Rattle.record_workers.proofs.source.WorkerSourceSystems.system.Goals as goal

pub obtain-requires-clause-numerical : goal.obtain-requires-clause-numerical
obtain-requires-clause-numerical g c =
    subst (λ (e : EditsParts). AreNumerical e.shape c.args.fields) c.requires.served.0 c.requires.numerical

pub obtain-requires-clause-reader : goal.obtain-requires-clause-reader
obtain-requires-clause-reader g c = c.requires.served.1

pub returns-clause-edits : goal.returns-clause-edits
returns-clause-edits g c =
    subst (λ (e : EditsParts). IfOk c.obtain.result (λ h. (system_held h).edits ≡ e)) (sym c.requires.served.0) c.obtain.ensures.edits

pub returns-clause-fields : goal.returns-clause-fields
returns-clause-fields g c = c.obtain.ensures.fields

pub returns-clause-exact : goal.returns-clause-exact
returns-clause-exact g c =
    subst (λ (e : EditsParts). Answers (λ h. (system_held h).lines) told_system c.obtain.result (system_at e c.args.fields)) (sym c.requires.served.0)
    c.obtain.ensures.exact

pub returns-clause-few : goal.returns-clause-few
returns-clause-few g c =
    subst (λ (e : EditsParts). c.obtain.new.steps ≤ c.args.steps.now + pairs_at e c.args.fields) (sym c.requires.served.0) c.obtain.ensures.few

pub returns-clause-counts : goal.returns-clause-counts
returns-clause-counts g c = c.obtain.ensures.counts

pub returns-clause-serves : goal.returns-clause-serves
returns-clause-serves g c e served = (served.0, c.obtain.ensures.reader, served.2, served.3)

pub returns-clause-keeps : goal.returns-clause-keeps
returns-clause-keeps g c =
    let said = c.obtain.ensures in
    still-keeps c.args.self.now.source.pool.now c.args.fields c.args.self.now.source.reader.now c.obtain.new.reader c.obtain.result said.obtained said.refused

pub returns-clause-kept : goal.returns-clause-kept
returns-clause-kept g c =
    let said = c.obtain.ensures in
    answered-keeps c.args.self.now.source.pool.now c.args.fields c.args.self.now.source.reader.now c.obtain.new.reader c.obtain.result said.reader
    said.edits said.fields said.exact said.obtained
