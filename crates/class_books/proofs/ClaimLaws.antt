-- A claim in the book of one class, seen in the whole file.
use Rattle.std.proofs.Common.{◌≡◌, ◌≢◌, ℕ, ◌+◌, ◌<◌, List, map, length, get_or, set, Some, sym, ap, ◌∙◌, subst, arith}
use Rattle.std.specs.Prelude.{slice_get}
use Rattle.std.specs.List.{All}
use Rattle.std.proofs.lemmas.List.{get_or-map, get_or-set_other, get_or-set_same, length-map}
use Rattle.std.proofs.lemmas.Option.{get_or_from_slice_get, slice_get_within}
use Rattle.donor_book.specs.declared.claim.Claim.{Claim}
use Rattle.donor_book.specs.declared.claim.Claim.TheVariants as claim
use Rattle.donor_book.specs.Claims.{claim_of, first_free, uses_of}
use Rattle.donor_book.specs.Passes.{ArePlaced, BookName, IsAnswered, PassState}
use Rattle.donor_book.proofs.IndexLaws.{found_within}
use Rattle.std.proofs.Common.{nat_lt}
use Rattle.class_books.specs.ClassPasses.{ClassPassState, ClassState, ClassTerms, book_in, no_claims, pass_in, pass_of, state_in}
use Rattle.class_books.specs.inner.Hands.{AreOfTerms, books_of, class_pass_of, name_of}
use Rattle.class_books.specs.inner.Numbers.{AreNumbersOf, IsGivenWithin, claim_with, row_with, rows_in, state_with, states_from}
use Rattle.class_books.proofs.ClassPassLaws.{books-set, class-pass-set, states-at, states-length}
use Rattle.class_books.proofs.Renumbered.{answered-with, given-within, placed-with}

-- a donor that is given is one of the ranking
pub given-in : (n : ℕ) (old new : PassState) (row : ℕ) (ranking : List ℕ) (answer : Claim) → All (λ d. d < n) ranking → IsAnswered old row ranking answer new
    → IsGivenWithin n answer
given-in n old new row ranking (claim.Given d) all is =
    given-within n d (claim_of row is.0) (first_free old.book.terms.limit is.0 ranking) is.2
    (found_within n (λ d. nat_lt (uses_of d is.0) old.book.terms.limit) ranking all)
given-in n old new row ranking claim.Nobody all is = tt
given-in n old new row ranking (claim.Had reply) all is = tt

-- a pass of one class changes, and stays one of its book
pub record IsChanged (hands : List PassState) (class : ℕ) (old new : PassState) : Type 0 where
  pub within : class < length hands
  pub was : old ≡ get_or hands class old
  pub book : new.book ≡ old.book

module _ {hands : List PassState} {class : ℕ} {old new : PassState} (changed : IsChanged hands class old new) (terms : ClassTerms) where
  abbrev class_of : List ℕ
  class_of = terms.class_of

  -- the pass of the classes, before and after
  abbrev before : ClassPassState
  before = class_pass_of terms hands

  abbrev after : ClassPassState
  after = class_pass_of terms (set hands class new)

  -- the books stay
  pub books-same : books_of (set hands class new) ≡ books_of hands
  books-same = books-set hands class new old changed.within (changed.book ∙ ap (λ (p : PassState). p.book) changed.was)

  after-is : after ≡ record { classes = name_of terms (books_of hands); states = set (states_from class_of 0 hands) class (state_with class_of class new) }
  after-is = class-pass-set terms hands class new old changed.within (changed.book ∙ ap (λ (p : PassState). p.book) changed.was)

  state-before : state_in class before ≡ state_with class_of class old
  state-before =
      let same : 0 + class ≡ class = omega arith in
      states-at class_of 0 hands class no_claims old changed.within ∙ ap (λ k. state_with class_of k (get_or hands class old)) same
      ∙ ap (state_with class_of class) (sym changed.was)

  state-after : state_in class after ≡ state_with class_of class new
  state-after =
      ap (state_in class) after-is
      ∙ get_or-set_same (states_from class_of 0 hands) class (state_with class_of class new) no_claims
      (let size = states-length class_of 0 hands in let lt = changed.within in omega (arith, size, lt))

  -- in another class the pass is as it was
  pub others-same : (other : ℕ) → other ≢ class → pass_in other after ≡ pass_in other before
  others-same other apart =
      ap (pass_in other) after-is
      ∙ ap (pass_of (book_in other (name_of terms (books_of hands))))
      (get_or-set_other (states_from class_of 0 hands) class other (state_with class_of class new) no_claims apart)

  -- in this one its claims are placed
  pub placed-in : ArePlaced new.seen new.mine → ArePlaced (state_in class after).seen (state_in class after).mine
  placed-in is = subst (λ (s : ClassState). ArePlaced s.seen s.mine) (sym state-after) (placed-with class_of class new.seen new.mine is)

  -- and the claim is answered as in the class's book
  pub answered-in : (row number : ℕ) (ranking numbers : List ℕ) (answer : Claim) → AreOfTerms terms (books_of hands)
      → slice_get (rows_in class_of class) number ≡ Some row → AreNumbersOf class_of class ranking numbers
      → IsAnswered old number numbers answer new
      → IsAnswered (pass_in class before) row ranking (claim_with class_of class answer) (pass_in class after)
  answered-in row number ranking numbers answer own at are is =
      let file = book_in class (name_of terms (books_of hands)) in
      let to_row = row_with class_of class in
      let told = claim_with class_of class answer in
      let first = pass_of file (state_with class_of class old) in
      let last = pass_of file (state_with class_of class new) in
      let lt = changed.within in
      let limit : old.book.terms.limit ≡ file.terms.limit =
      ap (λ (b : BookName). b.terms.limit)
      (ap (λ (p : PassState). p.book) changed.was ∙ sym (get_or-map (λ (p : PassState). p.book) hands class old old.book lt))
      ∙ ap (λ t. t.limit) (own class old.book (let size = length-map hands (λ (p : PassState). p.book) in omega (arith, size, lt))) in
      let row_is : to_row number ≡ row = get_or_from_slice_get (rows_in class_of class) number row (length class_of) at in
      let within = slice_get_within (rows_in class_of class) number row at in
      let one = answered-with class_of class file old new number numbers answer limit within are.within is in
      let first_is : first ≡ pass_in class before = ap (pass_of file) (sym state-before) in
      let last_is : last ≡ pass_in class after = (λ i. pass_of (book_in class (name_of terms (sym books-same i))) (sym state-after i)) in
      subst (λ (p : PassState). IsAnswered p row ranking told (pass_in class after)) first_is
      (subst (λ (p : PassState). IsAnswered first row ranking told p) last_is
      (subst (λ (r : List ℕ). IsAnswered first row r told last) are.rows_are
      (subst (λ r. IsAnswered first r (map to_row numbers) told last) row_is one)))
