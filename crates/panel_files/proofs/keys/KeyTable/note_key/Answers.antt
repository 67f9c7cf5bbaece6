use Rattle.panel_files.proofs.KeyLaws.{noted}
use Rattle.panel_files.proofs.keys.KeyTable.note_key.Goals as goal

pub returns : goal.returns
returns c =
    let updates = c.in_ok-insert.ensures.updates in
    noted (λ k. k.items) c.args.key.now c.args.row_no c.args.self.now c.self.inside.rows.entries c.insert.new.self.entries
    c.in_ok-key.key c.row_after-row.result c.self.view_is c.in_ok-key.ensures.items c.row_after-row.ensures updates.1 updates.3
