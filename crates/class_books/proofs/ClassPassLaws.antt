-- A pass of classes: with one class more, with one less, and where one of its passes changes.
use Rattle.std.proofs.Common.{◌≡◌, ℕ, zero, suc, ◌+◌, ◌-◌, ◌<◌, ◌≤◌, List, [], ◌∷◌, ◌++◌, map, length, take, get_or, set, refl, sym, ap, ◌∙◌, subst, ⊎_elim}
use Rattle.std.proofs.Common.{arith, length-append}
use Rattle.std.proofs.lemmas.Bool.{cases_lt}
use Rattle.std.proofs.lemmas.List.{get_or-map, get_or-take, get_or_append_left, get_or_push, length-map, length-take, map-set, map_push, set-get_or, take-map}
use Rattle.donor_book.specs.Passes.{BookName, PassState}
use Rattle.class_books.specs.ClassPasses.{ClassState, ClassTerms, IsFreshPass, no_claims, state_in}
use Rattle.class_books.specs.inner.Hands.{AreOfTerms, IsOfLast, books_of, class_pass_of, first_classes, fresh_pass, last_class, name_of, with_class}
use Rattle.class_books.specs.inner.Numbers.{class_terms, state_with, states_from}

-- ---- the states of the classes

pub states-length : (class_of : List ℕ) (k : ℕ) (hands : List PassState) → length (states_from class_of k hands) ≡ length hands
states-length class_of k [] = refl
states-length class_of k (p ∷ hands) = ap suc (states-length class_of (suc k) hands)

pub states-at : (class_of : List ℕ) (k : ℕ) (hands : List PassState) (i : ℕ) (d : ClassState) (e : PassState) → i < length hands
    → get_or (states_from class_of k hands) i d ≡ state_with class_of (k + i) (get_or hands i e)
states-at class_of k [] i d e lt = absurd (omega (arith, lt))
states-at class_of k (p ∷ hands) zero d e lt = let same : k ≡ k + 0 = omega arith in ap (λ n. state_with class_of n p) same
states-at class_of k (p ∷ hands) (suc i) d e lt =
    let same : suc k + i ≡ k + suc i = omega arith in
    states-at class_of (suc k) hands i d e (omega (arith, lt)) ∙ ap (λ n. state_with class_of n (get_or hands i e)) same

states-push : (class_of : List ℕ) (k : ℕ) (hands : List PassState) (p : PassState)
    → states_from class_of k (hands ++ p ∷ []) ≡ states_from class_of k hands ++ state_with class_of (k + length hands) p ∷ []
states-push class_of k [] p = let same : k ≡ k + 0 = omega arith in ap (λ n. state_with class_of n p ∷ []) same
states-push class_of k (q ∷ hands) p =
    let same : suc k + length hands ≡ k + suc (length hands) = omega arith in
    let rest = states-push class_of (suc k) hands p ∙ ap (λ n. states_from class_of (suc k) hands ++ state_with class_of n p ∷ []) same in
    ap (λ (l : List ClassState). state_with class_of k q ∷ l) rest

states-take : (class_of : List ℕ) (k n : ℕ) (hands : List PassState) → states_from class_of k (take n hands) ≡ take n (states_from class_of k hands)
states-take class_of k zero hands = refl
states-take class_of k (suc n) [] = refl
states-take class_of k (suc n) (p ∷ hands) = ap (λ (l : List ClassState). state_with class_of k p ∷ l) (states-take class_of (suc k) n hands)

states-set : (class_of : List ℕ) (k i : ℕ) (hands : List PassState) (p : PassState)
    → states_from class_of k (set hands i p) ≡ set (states_from class_of k hands) i (state_with class_of (k + i) p)
states-set class_of k i [] p = refl
states-set class_of k zero (q ∷ hands) p = let same : k ≡ k + 0 = omega arith in ap (λ n. state_with class_of n p ∷ states_from class_of (suc k) hands) same
states-set class_of k (suc i) (q ∷ hands) p =
    let same : suc k + i ≡ k + suc i = omega arith in
    let rest = states-set class_of (suc k) i hands p ∙ ap (λ n. set (states_from class_of (suc k) hands) i (state_with class_of n p)) same in
    ap (λ (l : List ClassState). state_with class_of k q ∷ l) rest

-- ---- the books of the classes

pub of-terms-push : (terms : ClassTerms) (books : List BookName) (book : BookName) → AreOfTerms terms books → book.terms ≡ class_terms terms (length books)
    → AreOfTerms terms (books ++ book ∷ [])
of-terms-push terms books book are is class d lt = ⊎_elim
    (λ (less : class < length books). ap (λ (b : BookName). b.terms) (get_or_append_left books (book ∷ []) d class less) ∙ are class d less)
    (λ (past : length books ≤ class).
    let at : length books ≡ class = (let l = length-append books (book ∷ []) in omega (arith, l, lt, past)) in
    ap (λ (b : BookName). b.terms) (get_or_push books book d class at) ∙ is ∙ ap (class_terms terms) at)
    (cases_lt class (length books))

pub of-terms-take : (terms : ClassTerms) (books : List BookName) (n : ℕ) → AreOfTerms terms books → AreOfTerms terms (take n books)
of-terms-take terms books n are class d lt =
    let l = length-take n books in
    ap (λ (b : BookName). b.terms) (get_or-take n books class d (omega (arith, l, lt))) ∙ are class d (omega (arith, l, lt))

-- ---- one class more

fresh-state : (class_of : List ℕ) (class : ℕ) (p : PassState) → p.seen ≡ [] → p.mine ≡ [] → state_with class_of class p ≡ no_claims
fresh-state class_of class p seen mine = λ i. state_with class_of class record { book = p.book; seen = seen i; mine = mine i }

pub class-pass-push : (terms : ClassTerms) (hands : List PassState) (p : PassState) → p.seen ≡ [] → p.mine ≡ []
    → class_pass_of terms (hands ++ p ∷ []) ≡ with_class (class_pass_of terms hands) p.book
class-pass-push terms hands p seen mine =
    let books = map_push (λ (q : PassState). q.book) hands p in
    let states = states-push terms.class_of 0 hands p
    ∙ ap (λ (s : ClassState). states_from terms.class_of 0 hands ++ s ∷ []) (fresh-state terms.class_of (0 + length hands) p seen mine) in
    λ i. record { classes = name_of terms (books i); states = states i }

fresh-at : (books : List BookName) (class : ℕ) → get_or (map (λ (b : BookName). no_claims) books) class no_claims ≡ no_claims
fresh-at [] class = refl
fresh-at (b ∷ books) zero = refl
fresh-at (b ∷ books) (suc class) = fresh-at books class

-- a pass that has seen and claimed nothing in the classes of these books
pub fresh-is : (terms : ClassTerms) (books : List BookName) → IsFreshPass (name_of terms books) (fresh_pass terms books)
fresh-is terms books = record {
  classes = refl;
  fresh = λ class lt. record {
    book = refl;
    seen = ap (λ (s : ClassState). s.seen) (fresh-at books class);
    mine = ap (λ (s : ClassState). s.mine)
        (fresh-at books class);
  };
}

-- and has not in those of one more
pub fresh-push : (terms : ClassTerms) (books : List BookName) (book : BookName)
    → with_class (fresh_pass terms books) book ≡ fresh_pass terms (books ++ book ∷ [])
fresh-push terms books book =
    let states = sym (map_push (λ (b : BookName). no_claims) books book) in
    λ i. record { classes = name_of terms (books ++ book ∷ []); states = states i }

-- ---- one class less

pub class-pass-take : (terms : ClassTerms) (hands : List PassState) (n : ℕ) → class_pass_of terms (take n hands) ≡ first_classes n (class_pass_of terms hands)
class-pass-take terms hands n =
    let books = sym (take-map (λ (q : PassState). q.book) n hands) in
    let states = states-take terms.class_of 0 n hands in
    λ i. record { classes = name_of terms (books i); states = states i }

-- the pass of the last class's book
module _ (terms : ClassTerms) (hands : List PassState) (n : ℕ) (p : PassState) (size : length hands ≡ n + 1) (value : p ≡ get_or hands n p) where
  last-at : n ≡ length (books_of hands) - 1
  last-at = let l = length-map hands (λ (q : PassState). q.book) in omega (arith, l, size)

  pub last-of : AreOfTerms terms (books_of hands) → IsOfLast (name_of terms (books_of hands)) p
  last-of are =
      let book : p.book ≡ get_or (books_of hands) (length (books_of hands) - 1) p.book =
      ap (λ (q : PassState). q.book) value ∙ sym (get_or-map (λ (q : PassState). q.book) hands n p p.book (omega (arith, size)))
      ∙ ap (λ k. get_or (books_of hands) k p.book) last-at in
      record {
        book = book;
        terms = ap (λ (b : BookName). b.terms) book
            ∙ are (length (books_of hands) - 1) p.book (let l = length-map hands (λ (q : PassState). q.book) in omega (arith, l, size));
      }

  pub last-state : state_with terms.class_of (last_class (class_pass_of terms hands)) p ≡ state_in (last_class (class_pass_of terms hands))
      (class_pass_of terms hands)
  last-state =
      let same : 0 + n ≡ n = omega arith in
      let state : state_with terms.class_of n p ≡ get_or (states_from terms.class_of 0 hands) n no_claims =
      ap (state_with terms.class_of n) value ∙ ap (λ k. state_with terms.class_of k (get_or hands n p)) (sym same)
      ∙ sym (states-at terms.class_of 0 hands n no_claims p (omega (arith, size))) in
      subst (λ k. state_with terms.class_of k p ≡ get_or (states_from terms.class_of 0 hands) k no_claims) last-at state

-- ---- one pass changes

pub books-set : (hands : List PassState) (k : ℕ) (p : PassState) (d : PassState) → k < length hands → p.book ≡ (get_or hands k d).book
    → books_of (set hands k p) ≡ books_of hands
books-set hands k p d lt is =
    map-set (λ (q : PassState). q.book) hands k p
    ∙ ap (set (books_of hands) k) (is ∙ sym (get_or-map (λ (q : PassState). q.book) hands k d d.book lt)) ∙ set-get_or (books_of hands) k d.book

pub class-pass-set : (terms : ClassTerms) (hands : List PassState) (k : ℕ) (p d : PassState) → k < length hands → p.book ≡ (get_or hands k d).book
    → class_pass_of terms (set hands k p) ≡ record {
      classes = (class_pass_of terms hands).classes;
      states = set (states_from terms.class_of 0 hands) k
          (state_with terms.class_of k p);
    }
class-pass-set terms hands k p d lt is =
    let books = books-set hands k p d lt is in
    let same : 0 + k ≡ k = omega arith in
    let states = states-set terms.class_of 0 k hands p ∙ ap (λ n. set (states_from terms.class_of 0 hands) k (state_with terms.class_of n p)) same in
    λ i. record { classes = name_of terms (books i); states = states i }
