use Rattle.record_text.proofs.TextsLaws.{ends_none, texts_none}
use Rattle.record_text.proofs.texts.Texts.new.Goals as goal

pub invariant_of-result : goal.invariant_of-result
invariant_of-result c = rw (c.new.ensures.items, c.new-2.ensures.items) ends_none

pub returns : goal.returns
returns c = rw c.new-2.ensures.items (texts_none c.new.result.items)
