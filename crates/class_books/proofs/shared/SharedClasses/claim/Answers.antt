use Rattle.std.proofs.Common.{◌≡◌, ◌∙◌, ℕ, ◌<◌, List, Some, ap, arith, length, set, subst, sym, take}
use Rattle.std.specs.Arc.{arc_value}
use Rattle.std.specs.List.{All}
use Rattle.std.specs.Prelude.{slice_get}
use Rattle.std.proofs.lemmas.List.{length-map}
use Rattle.std.proofs.lemmas.Option.{get_or_from_slice_get}
use Rattle.donor_book.specs.declared.claim.Claim.{Claim}
use Rattle.donor_book.specs.Passes.{ArePlaced, BookName, IsAnswered, PassState}
use Rattle.class_books.specs.ClassPasses.{ClassPassState, ClassTerms, ClassesName, class_at, pass_in, state_in}
use Rattle.class_books.specs.Classes.{IsOfClass}
use Rattle.class_books.specs.inner.Hands.{AreOfTerms, books_of, class_pass_of, name_of}
use Rattle.class_books.specs.inner.Numbers.{AreNumbersOf, IsGivenWithin, claim_with, class_terms, rows_in}
use Rattle.class_books.proofs.ClaimLaws.{IsChanged, answered-in, books-same, given-in, others-same, placed-in}
use Rattle.class_books.proofs.shared.SharedClasses.claim.Goals as goal
use Rattle.class_books.proofs.shared.SharedClasses.claim.Goals.{After-number_of}

module _ (c : After-number_of) where
  abbrev terms : ClassTerms
  terms = arc_value c.pass.inside.classes

  abbrev hands : List PassState
  hands = c.pass.inside.hands.items

  abbrev class : ℕ
  class = c.class_of-class.result

  named : name_of terms (books_of hands) ≡ c.args.self.now
  named = ap (λ (q : ClassPassState). q.classes) c.pass.view_is ∙ c.requires.classes

  terms-same : arc_value c.self.inside.classes ≡ terms
  terms-same = ap (λ (n : ClassesName). n.terms) c.self.view_is ∙ sym (ap (λ (n : ClassesName). n.terms) named)

  books-are : c.self.inside.books.items ≡ books_of hands
  books-are = ap (λ (n : ClassesName). n.books) c.self.view_is ∙ sym (ap (λ (n : ClassesName). n.books) named)

  -- the class of the row
  of-class : IsOfClass terms.class_of class c.args.row_no
  of-class = subst (λ (t : ClassTerms). IsOfClass t.class_of class c.args.row_no) (c.deref.ensures ∙ terms-same) c.class_of-class.ensures.class

  here : class_at c.args.self.now c.args.row_no ≡ class
  here = ap (λ (n : ClassesName). class_at n c.args.row_no) (sym named) ∙ get_or_from_slice_get terms.class_of c.args.row_no class 0 of-class

  in-books : class < length c.self.inside.books.items
  in-books =
      let within : class < (arc_value c.self.inside.classes).classes = subst
      (λ (t : ClassTerms). class < t.classes) c.deref.ensures c.class_of-class.ensures.within in
      let many = c.self.invariant.as_many in
      omega (arith, within, many)

  in-hands : class < length hands
  in-hands = let less = in-books in let same = ap length books-are in let l = length-map hands (λ (p : PassState). p.book) in omega (arith, less, same, l)

  -- the pass of the class, when it is this one
  changed-to : (new : PassState) → new.book ≡ c.index_mut-hand.result.now.book → IsChanged hands class c.index_mut-hand.result.now new
  changed-to new book = record { within = in-hands; was = c.index_mut-hand.ensures.value; book = book }

  -- the book of the class
  book-terms : c.index.result.now.terms ≡ class_terms terms class
  book-terms =
      ap (λ (b : BookName). b.terms) c.index.ensures ∙ c.self.invariant.terms_are class c.index.result.now in-books
      ∙ ap (λ (t : ClassTerms). class_terms t class) terms-same

  -- the numbers of the donors and of the row
  donors : All (IsOfClass terms.class_of class) c.args.ranking.now
  donors = subst (λ (n : ClassesName). All (IsOfClass n.terms.class_of class) c.args.ranking.now) (sym named)
      (subst (λ k. All (IsOfClass c.args.self.now.terms.class_of k) c.args.ranking.now) here c.requires.donors)

  are : AreNumbersOf terms.class_of class c.args.ranking.now (take (length c.args.ranking.now) c.numbers_of-numbers.result)
  are =
      subst (λ (t : ClassTerms). (k : ℕ) → All (IsOfClass t.class_of k) c.args.ranking.now
      → AreNumbersOf t.class_of k c.args.ranking.now (take (length c.args.ranking.now) c.numbers_of-numbers.result))
      (c.deref-2.ensures ∙ terms-same) c.numbers_of-numbers.ensures class donors

  number-at : slice_get (rows_in terms.class_of class) c.number_of.result ≡ Some c.args.row_no
  number-at =
      subst (λ (t : ClassTerms). (k : ℕ) → IsOfClass t.class_of k c.args.row_no → slice_get (rows_in t.class_of k) c.number_of.result ≡ Some c.args.row_no)
      (c.deref-3.ensures ∙ terms-same)
      c.number_of.ensures class of-class

pub claim-answer-requires-clause-donors : goal.claim-answer-requires-clause-donors
claim-answer-requires-clause-donors c =
    let at = (goal.at.claim-answer-requires-clause-donors c).After-number_of in
    subst (λ t. All (λ d. d < t.donors) (take (length c.args.ranking.now) c.numbers_of-numbers.result)) (sym (book-terms at)) (are at).within

pub claim_in_file-requires-clause-given : goal.claim_in_file-requires-clause-given
claim_in_file-requires-clause-given c =
    let at = (goal.at.claim_in_file-requires-clause-given c).After-number_of in
    let numbers = take (length c.args.ranking.now) c.numbers_of-numbers.result in
    subst (λ (t : ClassTerms). IsGivenWithin (length (rows_in t.class_of (class at))) c.claim-answer.result) (sym (c.deref-4.ensures ∙ terms-same at))
    (given-in (length (rows_in (terms at).class_of (class at))) c.index_mut-hand.result.now c.claim-answer.new.self c.number_of.result numbers
    c.claim-answer.result (are at).within c.claim-answer.ensures.answered)

pub invariant_of-pass : goal.invariant_of-pass
invariant_of-pass c =
    let at = (goal.at.invariant_of-pass c).After-number_of in
    let changed = changed-to at c.claim-answer.new.self c.claim-answer.ensures.book in
    subst (AreOfTerms (terms at)) (sym (books-same changed (terms at))) c.pass.invariant

pub returns-clause-classes : goal.returns-clause-classes
returns-clause-classes c =
    let at = (goal.at.returns-clause-classes c).After-number_of in
    let changed = changed-to at c.claim-answer.new.self c.claim-answer.ensures.book in
    ap (name_of (terms at)) (books-same changed (terms at)) ∙ ap (λ (q : ClassPassState). q.classes) c.pass.view_is

pub returns-clause-others : goal.returns-clause-others
returns-clause-others c other apart =
    let at = (goal.at.returns-clause-others c).After-number_of in
    let changed = changed-to at c.claim-answer.new.self c.claim-answer.ensures.book in
    others-same changed (terms at) other (λ is. apart (is ∙ sym (here at))) ∙ ap (pass_in other) c.pass.view_is

pub returns-clause-placed : goal.returns-clause-placed
returns-clause-placed c =
    let at = (goal.at.returns-clause-placed c).After-number_of in
    let after = class_pass_of (terms at) (set (hands at) (class at) c.claim-answer.new.self) in
    let changed = changed-to at c.claim-answer.new.self c.claim-answer.ensures.book in
    subst (λ k. ArePlaced (state_in k after).seen (state_in k after).mine) (sym (here at)) (placed-in changed (terms at) c.claim-answer.ensures.placed)

pub returns-clause-answered : goal.returns-clause-answered
returns-clause-answered c =
    let at = (goal.at.returns-clause-answered c).After-number_of in
    let row = c.args.row_no in
    let ranking = c.args.ranking.now in
    let numbers = take (length ranking) c.numbers_of-numbers.result in
    let before = class_pass_of (terms at) (hands at) in
    let after = class_pass_of (terms at) (set (hands at) (class at) c.claim-answer.new.self) in
    let changed = changed-to at c.claim-answer.new.self c.claim-answer.ensures.book in
    let answer : c.claim_in_file.result ≡ claim_with (terms at).class_of (class at) c.claim-answer.result = c.claim_in_file.ensures
    ∙ ap (λ (t : ClassTerms). claim_with t.class_of (class at) c.claim-answer.result) (c.deref-4.ensures ∙ terms-same at) in
    let told = answered-in changed (terms at) row c.number_of.result ranking numbers c.claim-answer.result c.pass.invariant (number-at at) (are at)
    c.claim-answer.ensures.answered in
    subst (λ k. IsAnswered (pass_in k c.args.pass.now) row ranking c.claim_in_file.result (pass_in k after)) (sym (here at))
    (subst (λ (q : ClassPassState). IsAnswered (pass_in (class at) q) row ranking c.claim_in_file.result (pass_in (class at) after)) c.pass.view_is
    (subst (λ (a : Claim). IsAnswered (pass_in (class at) before) row ranking a (pass_in (class at) after)) (sym answer) told))
