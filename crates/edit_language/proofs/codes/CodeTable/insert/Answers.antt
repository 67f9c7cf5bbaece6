use Rattle.std.proofs.Common.{◌∙◌}
use Rattle.edit_model.proofs.TableLemmas.{inserted}
use Rattle.edit_language.proofs.codes.CodeTable.insert.Goals as goal

pub returns : goal.returns
returns c =
    rw (← c.self.view_is) (inserted (λ k. k.items) c.in_ok-key.key c.args.code.now c.self.inside.codes.keys c.insert.new.self.keys c.in_ok-insert.field-0
    (c.in_ok-key.ensures.items ∙ c.as_bytes.ensures.bytes) c.in_ok-insert.ensures.keys c.in_ok-insert.ensures.added)
