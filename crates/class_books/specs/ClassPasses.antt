-- Shared classes and their passes, as callers see them. Rows and donors have the numbers of the whole file.
use Rattle.std.specs.Prelude.{◌≡◌, ℕ, ◌<◌, List, [], length, map, slice_index, slice_index_or}
use Rattle.donor_book.specs.Passes.{BookName, IsFresh, PassState}
use Rattle.donor_book.specs.declared.claim.Won.{Won}
use Rattle.donor_book.specs.declared.rule.Placed.{Placed}
use Rattle.donor_book.specs.declared.rule.Terms.{Terms}

-- the class of each row, how many classes there are, how often a donor is given at most, and how many passes there are
pub record ClassTerms : Type 0 where
  pub class_of : List ℕ
  pub classes : ℕ
  pub limit : ℕ
  pub passes : ℕ

-- shared classes: which books they are, one for each class, and their terms
pub record ClassesName : Type 0 where
  pub books : List BookName
  pub terms : ClassTerms

-- what a pass has of one class: the beginning of the class's history that it has seen, and its own claims in the class with
-- their places there
pub record ClassState : Type 0 where
  pub seen : List Won
  pub mine : List Placed

-- a pass: the classes that it is of, and what it has of each of them
pub record ClassPassState : Type 0 where
  pub classes : ClassesName
  pub states : List ClassState

-- the class of a row
abbrev pub class_at : ClassesName → ℕ → ℕ
class_at name row = slice_index name.terms.class_of row

-- what holds of each class
abbrev pub EachClass : ClassesName → (ℕ → Type 0) → Type 0
EachClass name P = (class : ℕ) → class < name.terms.classes → P class

-- the terms of the book of each class: all rows of the file have a number in it
abbrev pub book_terms : ClassTerms → Terms
book_terms terms =
    record { limit = terms.limit; donors = length terms.class_of; rows = length terms.class_of; passes = terms.passes }

-- no book: what there is of a class past the last one
abbrev pub no_book : BookName
no_book = record {
  table = record { words = 0; slots = 0; views_name = 0; atom = 0; block = 0; offset = 0; slot_names = [] };
  terms = record { limit = 0; donors = 0; rows = 0; passes = 0 };
}

-- no claims, seen or made
abbrev pub no_claims : ClassState
no_claims = record { seen = []; mine = [] }

-- the book of one class
abbrev pub book_in : ℕ → ClassesName → BookName
book_in class name = record { table = (slice_index_or name.books class no_book).table; terms = book_terms name.terms }

-- what the pass has of one class
abbrev pub state_in : ℕ → ClassPassState → ClassState
state_in class pass = slice_index_or pass.states class no_claims

-- the pass of a book that has seen and claimed this
abbrev pub pass_of : BookName → ClassState → PassState
pass_of book state = record { book = book; seen = state.seen; mine = state.mine }

-- the pass, as one of the class's book alone
abbrev pub pass_in : ℕ → ClassPassState → PassState
pass_in class pass = pass_of (book_in class pass.classes) (state_in class pass)

-- several passes, each as one of the class's book alone
abbrev pub passes_in : ℕ → List ClassPassState → List PassState
passes_in class passes = map (pass_in class) passes

-- a pass of these classes that has seen and claimed nothing in any of them
pub record IsFreshPass (name : ClassesName) (pass : ClassPassState) : Type 0 where
  pub classes : pass.classes ≡ name
  pub fresh : EachClass name (λ class. IsFresh (book_in class name) (pass_in class pass))
