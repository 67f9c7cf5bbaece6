use Rattle.edit_model.specs.FieldSets.{with_number}
use Rattle.shared_edits.proofs.KeepLaws.{answered-keeps}
use Rattle.shared_edits.proofs.source.PoolSourceSystems.system_after.Goals as goal

pub returns-clause-kept : goal.returns-clause-kept
returns-clause-kept g c =
    let said = c.obtain_after.ensures in
    answered-keeps c.args.self.now.pool.now (with_number c.args.before.now.fields c.args.field) c.args.self.now.reader.now c.obtain_after.new.reader
    c.obtain_after.result said.reader said.edits said.fields said.exact said.obtained
