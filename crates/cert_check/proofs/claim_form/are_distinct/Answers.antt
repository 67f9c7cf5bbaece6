use Rattle.std.proofs.Common.{◌≡◌, ◌∙◌, ℕ, ◌<◌, List, ap, arith, get_or, length, nat_eq, refl, sym, take, true}
use Rattle.std.specs.List.{IsDistinct}
use Rattle.std.proofs.lemmas.List.{get_or-take, length-take-le}
use Rattle.std.proofs.lemmas.Map.Keys.{IsDistinct-from_apart, apart_from_distinct}
use Rattle.cert_check.proofs.claim_form.are_distinct.Goals as goal

-- a donor that stands before is not distinct
twice : (ranking : List ℕ) (place k : ℕ) → place < length ranking → k < length (take place ranking)
    → ((d : ℕ) → nat_eq (get_or (take place ranking) k d) (get_or ranking place 0) ≡ true) → ¬ IsDistinct nat_eq ranking
twice ranking place k below within same once =
    let long = length-take-le place ranking (omega (arith, below)) in
    let under : k < place = omega (arith, within, long) in
    let apart = apart_from_distinct nat_eq ranking k place 0 once under below in
    cc (sym (same 0) ∙ ap (λ donor. nat_eq donor (get_or ranking place 0)) (get_or-take place ranking k 0 under) ∙ apart)

pub returns-then-contains : goal.returns-then-contains
returns-then-contains c =
    let (k, within, same) = c.if-contains.ensures.cases in
    (λ yes. absurd (cc yes), λ once. absurd (twice c.args.ranking.now c.loop-place.place k c.loop-place-test.true within same once))

pub returns : goal.returns
returns c = (
  λ yes. IsDistinct-from_apart nat_eq c.args.ranking.now (λ j k d before below. c.loop-place.invariant j k d before
      (omega (arith, below, c.loop-place-test.false))),
  λ once. refl,
)
