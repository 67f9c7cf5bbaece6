use Rattle.std.proofs.Common.{◌∙◌}
use Rattle.edit_model.proofs.TableLemmas.{inserted}
use Rattle.edit_model.proofs.name_table.NameTable.insert.Goals as goal

pub returns : goal.returns
returns c =
    rw (← c.self.view_is) (inserted (λ k. k.items) c.in_ok-key.key c.args.name.now c.self.inside.names.keys c.insert.new.self.keys _
    (c.in_ok-key.ensures.items ∙ c.as_bytes.ensures.bytes) c.in_ok-insert.ensures.keys c.in_ok-insert.ensures.added)
