-- What the book of a class answers to a pass holds with the numbers of the whole file too.
use Rattle.std.proofs.Common.{◌≡◌, ℕ, ◌+◌, ◌<◌, Bool, true, false, cond, nat_lt, List, [], ◌∷◌, ◌++◌, map, length, Some, None, Option, refl, sym, ap, ◌∙◌}
use Rattle.std.proofs.Common.{subst, eqb, arith}
use Rattle.std.specs.Prelude.{option_map}
use Rattle.std.specs.List.{All, count_by}
use Rattle.std.specs.List.Sorted.{IsStrictlyIncreasing}
use Rattle.std.proofs.lemmas.List.{length-map, map-append}
use Rattle.std.proofs.lemmas.List.Elements.{All-head, All-map, All-tail}
use Rattle.std.proofs.lemmas.List.Folds.{fold-map}
use Rattle.std.proofs.lemmas.Simd.{map-map}
use Rattle.donor_book.specs.declared.claim.Claim.{Claim}
use Rattle.donor_book.specs.declared.claim.Claim.TheVariants as claim
use Rattle.donor_book.specs.declared.claim.Entry.{Entry}
use Rattle.donor_book.specs.declared.claim.Won.{Won}
use Rattle.donor_book.specs.declared.rule.Placed.{Placed}
use Rattle.donor_book.specs.Claims.{IsDonor, answer_to, claim_of, first_free, gave, given, had_or, uses_of}
use Rattle.donor_book.specs.Entries.{entry_of, won_of}
use Rattle.donor_book.specs.Passes.{ArePlaced, BookName, Enters, IsAnswered, Leaves, PassState, having_seen, placed}
use Rattle.donor_book.proofs.IndexLaws.{found_within}
use Rattle.class_books.specs.ClassPasses.{pass_of}
use Rattle.class_books.specs.inner.Numbers.{claim_with, donor_with, entry_with, placed_with, row_with, rows_in, state_with, won_with}
use Rattle.class_books.proofs.RowNumbers.{donor-stands, gave-with, number-same}

-- a donor that is given is one of the ranking
pub given-within : (n d : ℕ) (o : Option Won) (r : Option ℕ) → claim.Given d ≡ had_or o (given r) → IsDonor n r → d < n
given-within n d None None is within = absurd (cc)
given-within n d None (Some e) is within = let same : d ≡ e = cc in subst (λ x. x < n) (sym same) within
given-within n d (Some w) r is within = absurd (cc)

module _ (class_of : List ℕ) (class : ℕ) where
  -- how many rows the class has, and what its numbers stand for in the whole file
  abbrev size : ℕ
  size = length (rows_in class_of class)

  abbrev to_row : ℕ → ℕ
  to_row = row_with class_of class

  abbrev to_donor : Option ℕ → Option ℕ
  to_donor = donor_with class_of class

  abbrev to_won : Won → Won
  to_won = won_with class_of class

  abbrev to_entry : Entry → Entry
  to_entry = entry_with class_of class

  abbrev to_placed : Placed → Placed
  to_placed = placed_with class_of class

  abbrev to_claim : Claim → Claim
  to_claim = claim_with class_of class

  -- a donor was given as often
  uses-with : (d : ℕ) (history : List Won) → d < size → uses_of (to_row d) (map to_won history) ≡ uses_of d history
  uses-with d history lt =
      fold-map (λ (n : ℕ) (w : Won). n + cond (gave (to_row d) w.reply) 1 0) to_won 0 history
      ∙ (λ i. count_by (λ (w : Won). gave-with class_of class d w.reply lt i) history)

  found-step : (b : Bool) (x : ℕ) (o : Option ℕ) → cond b (Some (to_row x)) (option_map to_row o) ≡ option_map to_row (cond b (Some x) o)
  found-step true x o = refl
  found-step false x o = refl

  -- the same donor is free
  free-with : (limit : ℕ) (history : List Won) (ranking : List ℕ) → All (λ d. d < size) ranking
      → first_free limit (map to_won history) (map to_row ranking) ≡ option_map to_row (first_free limit history ranking)
  free-with limit history [] all = refl
  free-with limit history (x ∷ ranking) all =
      let here : nat_lt (uses_of (to_row x) (map to_won history)) limit ≡ nat_lt (uses_of x history) limit =
      ap (λ n. nat_lt n limit) (uses-with x history (All-head (λ (d : ℕ). d < size) x ranking all)) in
      let rest = free-with limit history ranking (All-tail (λ (d : ℕ). d < size) x ranking all) in
      (λ i. cond (here i) (Some (to_row x)) (rest i)) ∙ found-step (nat_lt (uses_of x history) limit) x (first_free limit history ranking)

  donor-is : (o : Option ℕ) → IsDonor size o → option_map to_row o ≡ to_donor o
  donor-is None is = refl
  donor-is (Some d) lt = sym (donor-stands class_of class d lt)

  pub free-donor : (limit : ℕ) (history : List Won) (ranking : List ℕ) → All (λ d. d < size) ranking
      → first_free limit (map to_won history) (map to_row ranking) ≡ to_donor (first_free limit history ranking)
  free-donor limit history ranking all =
      free-with limit history ranking all ∙ donor-is (first_free limit history ranking) (found_within size (λ d. nat_lt (uses_of d history) limit) ranking all)

  won-step : (b : Bool) (w : Won) (o : Option Won) → cond b (Some (to_won w)) (option_map to_won o) ≡ option_map to_won (cond b (Some w) o)
  won-step true w o = refl
  won-step false w o = refl

  -- a row has the same claim
  claim-of-with : (row : ℕ) (history : List Won) → row < size
      → claim_of (to_row row) (map to_won history) ≡ option_map to_won (claim_of row history)
  claim-of-with row [] lt = refl
  claim-of-with row (w ∷ history) lt =
      let here = number-same class_of class row w.row_no lt in
      let rest = claim-of-with row history lt in
      (λ i. cond (here i) (Some (to_won w)) (rest i)) ∙ won-step (eqb w.row_no row) w (claim_of row history)

  answer-cases : (o : Option Won) (r : Option ℕ) → had_or (option_map to_won o) (given (option_map to_row r)) ≡ to_claim (had_or o (given r))
  answer-cases None None = refl
  answer-cases None (Some d) = refl
  answer-cases (Some w) r = refl

  -- and is answered the same
  answer-with : (limit : ℕ) (history : List Won) (row : ℕ) (ranking : List ℕ) → row < size → All (λ d. d < size) ranking
      → answer_to limit (map to_won history) (to_row row) (map to_row ranking) ≡ to_claim (answer_to limit history row ranking)
  answer-with limit history row ranking lt all =
      let had = claim-of-with row history lt in
      let free = free-with limit history ranking all in
      (λ i. had_or (had i) (given (free i))) ∙ answer-cases (claim_of row history) (first_free limit history ranking)

  -- ---- a pass

  module _ (book : BookName) where
    -- the pass of the class's book, as a pass of this book in the whole file
    abbrev pub in_file : PassState → PassState
    in_file p = pass_of book (state_with class_of class p)

    enters-with : (old new : PassState) (e : Entry) → Enters old e new → Enters (in_file old) (to_entry e) (in_file new)
    enters-with old new e is = (
      ap (map to_won) is.0 ∙ map-append to_won old.seen (won_of e ∷ []),
      ap (map to_placed) is.1 ∙ map-append to_placed old.mine (placed (length old.seen) e ∷ [])
          ∙ ap (λ n. map to_placed old.mine ++ placed n (to_entry e) ∷ []) (sym (length-map old.seen to_won)),
    )

    leaves-with : (old new : PassState) (history : List Won) (row : ℕ) (ranking : List ℕ) (answer : Claim) → ((d : ℕ) → answer ≡ claim.Given d → d < size)
        → Leaves (having_seen old history) row ranking answer new
        → Leaves (having_seen (in_file old) (map to_won history)) (to_row row) (map to_row ranking) (to_claim answer) (in_file new)
    leaves-with old new history row ranking (claim.Given d) few is =
        subst (λ (r : Option ℕ). Enters (in_file (having_seen old history)) (entry_of (to_row row) (map to_row ranking) r) (in_file new))
        (donor-stands class_of class d (few d refl))
        (enters-with (having_seen old history) new (entry_of row ranking (Some d)) is)
    leaves-with old new history row ranking claim.Nobody few is = enters-with (having_seen old history) new (entry_of row ranking None) is
    leaves-with old new history row ranking (claim.Had reply) few is = (ap (map to_won) is.0, ap (map to_placed) is.1)

    -- a claim that the class's book answers is answered so in the whole file
    pub answered-with : (old new : PassState) (row : ℕ) (ranking : List ℕ) (answer : Claim) → old.book.terms.limit ≡ book.terms.limit → row < size
        → All (λ d. d < size) ranking
        → IsAnswered old row ranking answer new → IsAnswered (in_file old) (to_row row) (map to_row ranking) (to_claim answer) (in_file new)
    answered-with old new row ranking answer same lt all is = (
      map to_won is.0,
      (map to_won is.1.0, ap (map to_won) is.1.1 ∙ map-append to_won old.seen is.1.0),
      ap to_claim is.2 ∙ sym (answer-with old.book.terms.limit is.0 row ranking lt all)
          ∙ ap (λ limit. answer_to limit (map to_won is.0) (to_row row) (map to_row ranking)) same,
      leaves-with old new is.0 row ranking answer
          (λ d at. given-within size d (claim_of row is.0) (first_free old.book.terms.limit is.0 ranking) (sym at ∙ is.2)
          (found_within size (λ d. nat_lt (uses_of d is.0) old.book.terms.limit) ranking all)) is.3,
    )

  -- the claims of a pass stand at the same places
  pub placed-with : (seen : List Won) (mine : List Placed) → ArePlaced seen mine → ArePlaced (map to_won seen) (map to_placed mine)
  placed-with seen mine is = record {
    within = All-map (λ (m : Placed). m.place < length (map to_won seen)) to_placed mine
        (λ k d lt. let p = is.within k d lt in let l = length-map seen to_won in omega (arith, p, l));
    rising = subst IsStrictlyIncreasing (sym (map-map (λ (m : Placed). m.place) to_placed mine)) is.rising;
  }
