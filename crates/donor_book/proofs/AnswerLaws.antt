use Rattle.std.proofs.Common.{◌≡◌, ℕ, ◌≤◌, ◌↔◌, Bool, false, cond, nat_lt, List, [], ◌∷◌, Some, None, Option, refl, sym, ap, ◌∙◌, subst, arith}
use Rattle.std.specs.List.{All, find}
use Rattle.std.proofs.lemmas.List.Elements.{All-cons, All-head, All-nil, All-tail}
use Rattle.donor_book.specs.declared.claim.Claim.{Claim}
use Rattle.donor_book.specs.declared.claim.Claim.TheVariants as claim
use Rattle.donor_book.specs.declared.claim.Won.{Won}
use Rattle.donor_book.specs.Claims.{answer_to, claim_of, first_free, given, had_or, uses_of}
use Rattle.donor_book.proofs.IndexLaws.{first_none}

-- When a claim is answered that nobody is left.

none_found : (p : ℕ → Bool) (xs : List ℕ) → find p xs ≡ None → All (λ x. p x ≡ false) xs
none_found p [] none = All-nil (λ (x : ℕ). p x ≡ false)
none_found p (x ∷ xs) none = let apart = first_none (p x) x (find p xs) none in All-cons (λ (y : ℕ). p y ≡ false) x xs apart.0 (none_found p xs apart.1)

found_none : (p : ℕ → Bool) (xs : List ℕ) → All (λ x. p x ≡ false) xs → find p xs ≡ None
found_none p [] all = refl
found_none p (x ∷ xs) all = ap (λ b. cond b (Some x) (find p xs)) (All-head (λ (y : ℕ). p y ≡ false) x xs all)
    ∙ found_none p xs (All-tail (λ (y : ℕ). p y ≡ false) x xs all)

neither : (o : Option Won) (reply : Option ℕ) → had_or o (given reply) ≡ claim.Nobody → (o ≡ None) × (reply ≡ None)
neither None None is = (refl, refl)
neither None (Some d) is = absurd (cc)
neither (Some w) reply is = absurd (cc)

-- nobody is the answer exactly where the row has not claimed and each donor of its ranking was given as often as the limit
nobody_is : (limit : ℕ) (history : List Won) (row : ℕ) (ranking : List ℕ) → (answer_to limit history row ranking ≡ claim.Nobody) ↔
    ((claim_of row history ≡ None) × All (λ donor. limit ≤ uses_of donor history) ranking)
nobody_is limit history row ranking = (
  (λ is. let both = neither (claim_of row history) (first_free limit history ranking) is in
      (both.0, λ k d lt. let used = none_found has_left ranking both.1 k d lt in grind (arith, used))),
  (λ both. ap (λ (o : Option Won). had_or o (given (first_free limit history ranking))) both.0
      ∙ ap given (found_none has_left ranking (λ k d lt. let used = both.1 k d lt in grind (arith, used)))),
)
  where
    has_left : ℕ → Bool
    has_left donor = nat_lt (uses_of donor history) limit

-- and so it is of each call that gives the answer
pub nobody_when : (answer : Claim) (limit : ℕ) (history : List Won) (row : ℕ) (ranking : List ℕ) → answer ≡ answer_to limit history row ranking
    → (answer ≡ claim.Nobody) ↔ ((claim_of row history ≡ None) × All (λ donor. limit ≤ uses_of donor history) ranking)
nobody_when answer limit history row ranking is =
    subst (λ (a : Claim). (a ≡ claim.Nobody) ↔ ((claim_of row history ≡ None) × All (λ donor. limit ≤ uses_of donor history) ranking)) (sym is)
    (nobody_is limit history row ranking)
