use Rattle.shared_edits.proofs.KeepLaws.{answered-keeps}
use Rattle.shared_edits.proofs.source.PoolSourceSystems.system.Goals as goal

pub returns-clause-kept : goal.returns-clause-kept
returns-clause-kept g c =
    let said = c.obtain.ensures in
    answered-keeps c.args.self.now.pool.now c.args.fields c.args.self.now.reader.now c.obtain.new.reader c.obtain.result said.reader said.edits said.fields
    said.exact said.obtained
