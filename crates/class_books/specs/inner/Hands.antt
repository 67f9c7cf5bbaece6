-- What passes and shared classes keep.
use Rattle.std.specs.Prelude.{◌≡◌, ℕ, ◌-◌, ◌<◌, ◌≤◌, List, [], ◌∷◌, ◌++◌, length, map, slice_index_or, take}
use Rattle.std.specs.List.{All}
use Rattle.donor_book.specs.Passes.{BookName, PassState}
use Rattle.donor_book.specs.declared.rule.Placed.{Placed}
use Rattle.class_books.specs.ClassPasses.{ClassPassState, ClassTerms, ClassesName, no_claims}
use Rattle.class_books.specs.inner.Numbers.{class_terms, states_from}

-- the claim ranks donors that there are
abbrev pub RanksWithin : ℕ → Placed → Type 0
RanksWithin donors m = All (λ donor. donor < donors) m.entry.ranking

-- the claims of the pass rank donors of its book alone
abbrev pub RanksOwn : PassState → Type 0
RanksOwn pass = All (RanksWithin pass.book.terms.donors) pass.mine

-- a pass whose claims rank donors of its book alone, and empty room for all passes of that book
pub record KeepsHand (pass : PassState) (room : List PassState) (capacity : ℕ) : Type 0 where
  pub ranks : RanksOwn pass
  pub empty : room ≡ []
  pub enough : pass.book.terms.passes ≤ capacity

-- each of these books, the first of which is that of class 0, has the terms of its class
abbrev pub AreOfTerms : ClassTerms → List BookName → Type 0
AreOfTerms terms books =
    (class : ℕ) (d : BookName) → class < length books → (slice_index_or books class d).terms ≡ class_terms terms class

-- the books of passes
abbrev pub books_of : List PassState → List BookName
books_of passes = map (λ (pass : PassState). pass.book) passes

-- the shared classes that have these terms and these books
abbrev pub name_of : ClassTerms → List BookName → ClassesName
name_of terms books = record { books = books; terms = terms }

-- the pass over all classes that has these passes, one of the book of each class
abbrev pub class_pass_of : ClassTerms → List PassState → ClassPassState
class_pass_of terms passes =
    record { classes = name_of terms (books_of passes); states = states_from terms.class_of 0 passes }

-- what shared classes keep: a book for each class, and room for their histories
pub record SharesClasses {X : Type 0} (terms : ClassTerms) (books : List BookName) (histories : List X) (capacity : ℕ) : Type 0 where
  pub some : 0 < terms.passes
  pub as_many : length books ≡ terms.classes
  pub terms_are : AreOfTerms terms books
  pub empty : histories ≡ []
  pub room : terms.classes ≤ capacity

-- the pass with a pass of one book more, which has seen and claimed nothing
abbrev pub with_class : ClassPassState → BookName → ClassPassState
with_class pass book =
    record { classes = name_of pass.classes.terms (pass.classes.books ++ book ∷ []); states = pass.states ++ no_claims ∷ [] }

-- the pass that has seen and claimed nothing in the classes of these books
abbrev pub fresh_pass : ClassTerms → List BookName → ClassPassState
fresh_pass terms books = record { classes = name_of terms books; states = map (λ (book : BookName). no_claims) books }

-- a pass of the next class's book, which has seen and claimed nothing
pub record IsNext (class_pass : ClassPassState) (pass : PassState) : Type 0 where
  pub terms : pass.book.terms ≡ class_terms class_pass.classes.terms (length class_pass.classes.books)
  pub seen : pass.seen ≡ []
  pub mine : pass.mine ≡ []

-- the pass in the first n classes alone
abbrev pub first_classes : ℕ → ClassPassState → ClassPassState
first_classes n pass =
    record { classes = name_of pass.classes.terms (take n pass.classes.books); states = take n pass.states }

-- the last class of a pass
abbrev pub last_class : ClassPassState → ℕ
last_class pass = length pass.classes.books - 1

-- the pass is of the last class's book, which has the terms of that class
pub record IsOfLast (classes : ClassesName) (pass : PassState) : Type 0 where
  pub book : pass.book ≡ slice_index_or classes.books (length classes.books - 1) pass.book
  pub terms : pass.book.terms ≡ class_terms classes.terms (length classes.books - 1)
