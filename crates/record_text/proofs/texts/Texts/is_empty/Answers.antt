use Rattle.std.proofs.Common.{◌==◌, ◌∙◌, ap, sym, ℕ}
use Rattle.csv.proofs.RecordFacts.{cut-length}
use Rattle.record_text.proofs.texts.Texts.is_empty.Goals as goal

pub returns : goal.returns
returns c =
    let count = c.self.inside.ends.ok.0 ∙ sym (cut-length 0 c.self.inside.ends.items c.self.inside.bytes.items) in
    rw (← c.self.view_is) (c.is_empty.ensures ∙ ap (λ (n : ℕ). n == 0) count)
