use Rattle.std.proofs.Common.{◌≡◌, ◌∙◌, ◌++◌, ◌∷◌, [], List, ap, length, ℕ}
use Rattle.record_text.proofs.TextsLaws.{ends_more, texts_more}
use Rattle.record_text.proofs.texts.Texts.push.Goals as goal

module _ (c : goal.After-push_reserved) where
  bytes : c.extend_from_slice.new.self.items ≡ c.self.inside.bytes.items ++ c.args.text.now
  bytes = c.in_ok-extend_from_slice.ensures.items

  end : c.len.result ≡ length (c.self.inside.bytes.items ++ c.args.text.now)
  end = c.len.ensures ∙ c.extend_from_slice.new.self.ok.0 ∙ ap (λ (bs : List ℕ). length bs) bytes

  ends : c.push_reserved.new.self.items ≡ c.self.inside.ends.items ++ length (c.self.inside.bytes.items ++ c.args.text.now) ∷ []
  ends = rw (c.reserve.ensures.items, end) at c.push_reserved.ensures.items

pub invariant_of-self-2 : goal.invariant_of-self-2
invariant_of-self-2 c = rw (bytes c, ends c) (ends_more c.self.inside.ends.items c.self.inside.bytes.items c.args.text.now c.self.invariant)

pub returns-clause-added : goal.returns-clause-added
returns-clause-added c =
    rw (← c.self.view_is, bytes c, ends c) (texts_more c.self.inside.ends.items c.self.inside.bytes.items c.args.text.now c.self.invariant)
