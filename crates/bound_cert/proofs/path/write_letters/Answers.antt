use Rattle.std.proofs.Common.{◌≡◌, ◌<◌, ◌+◌, ◌++◌, ◌∷◌, ◌∙◌, [], Bool, List, ap, append_assoc, false, get_or, length, map, sym, take, ℕ}
use Rattle.std.proofs.Transfers.{starts_with_of_append}
use Rattle.std.proofs.lemmas.List.{map_more, take_all}
use Rattle.bound_cert.specs.Paths.{letter}
use Rattle.bound_cert.proofs.path.write_letters.Goals as goal

-- the letters of a path up to a field, and with that field's
letters-more : (path : List Bool) (before text after : List ℕ) (i byte : ℕ) → i < length path → text ≡ before ++ map letter (take i path)
    → byte ≡ letter (get_or path i false) → after ≡ text ++ byte ∷ [] → after ≡ before ++ map letter (take (i + 1) path)
letters-more path before text after i byte below so_far is after_is =
    after_is ∙ (λ k. so_far k ++ is k ∷ []) ∙ append_assoc before (map letter (take i path)) (letter (get_or path i false) ∷ [])
    ∙ ap (λ (bytes : List ℕ). before ++ bytes) (sym (map_more letter path i false below))

pub loop-changed-preserved : goal.loop-changed-preserved
loop-changed-preserved c =
    letters-more c.args.letters.now c.args.text.now.items c.loop-changed.text.items c.push.new.self.items c.loop-changed.changed-index c.letter.result
    c.loop-changed-test.true c.loop-changed.invariant c.letter.ensures c.in_ok-push.ensures.items

pub returns-in_err-push-clause-begins : goal.returns-in_err-push-clause-begins
returns-in_err-push-clause-begins c = starts_with_of_append _ _ _ (c.in_err-push.ensures.items ∙ c.loop-changed.invariant)

pub returns-clause-begins : goal.returns-clause-begins
returns-clause-begins c = starts_with_of_append _ _ _ c.loop-changed.invariant

pub returns-clause-text : goal.returns-clause-text
returns-clause-text c =
    c.loop-changed.invariant ∙ ap (λ (path : List Bool). c.args.text.now.items ++ map letter path)
    (take_all c.loop-changed.changed-index c.args.letters.now c.loop-changed-test.false)
