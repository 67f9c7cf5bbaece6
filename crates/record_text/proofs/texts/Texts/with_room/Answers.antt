use Rattle.record_text.proofs.TextsLaws.{ends_none, texts_none}
use Rattle.record_text.proofs.texts.Texts.with_room.Goals as goal

pub invariant_of-result : goal.invariant_of-result
invariant_of-result c = rw (c.in_ok-ends.ensures.items, c.in_ok-with_capacity.ensures.items) ends_none

pub returns : goal.returns
returns c = rw c.in_ok-ends.ensures.items (texts_none c.in_ok-with_capacity.field-0.items)
