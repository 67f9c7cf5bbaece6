use Rattle.std.proofs.Common.{◌≡◌, ◌∙◌, IfOk, ap, drop, subst}
use Rattle.std.proofs.lemmas.Iterator.{items_from_collect}
use Rattle.std.proofs.lemmas.Iterator.Adapters.{YieldsList-from_skip, YieldsList-from_vec}
use Rattle.std.specs.Vec.Iter.{into_iter_items, into_iter_len}
use Rattle.edit_desk.proofs.words.words_of.Goals as goal

-- the words behind the first are those that the iterator has left behind one
pub returns-in_ok-collect-in-Ok-clause-words : goal.returns-in_ok-collect-in-Ok-clause-words
returns-in_ok-collect-in-Ok-clause-words c =
    let source = c.skip.ensures.source in
    let left = YieldsList-from_vec (into_iter_items c.in-Ok.all) (ap into_iter_items source) (ap into_iter_len source ∙ c.in-Ok.all.rest.ok.0) in
    let collected = items_from_collect c.collect.result c.collect.ensures.ran (YieldsList-from_skip 1 left c.skip.ensures.count) in
    rw c.in-Ok.is (subst (λ r. IfOk r (λ w. w.items ≡ drop 1 (into_iter_items c.in-Ok.all))) c.in_ok-collect-in-Ok.was collected)
