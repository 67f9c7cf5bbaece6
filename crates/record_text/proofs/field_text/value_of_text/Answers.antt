use Rattle.record_text.proofs.field_text.value_of_text.Goals as goal

pub returns-in-None : goal.returns-in-None
returns-in-None c = rw c.in-Number.is (λ x. rw c.trimmed-text.ensures at (c.in-None.ensures.none x))
