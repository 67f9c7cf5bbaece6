-- The numbers that rows have in the book of their class, and what they stand for in the whole file.
use Rattle.std.specs.Prelude.{◌≡◌, ℕ, suc, ◌+◌, ◌<◌, ◌^◌, ◌==◌, if◌then◌else◌, List, [], ◌∷◌, Option, Some, None, length, map, slice_get, slice_index}
use Rattle.std.specs.Prelude.{slice_index_or}
use Rattle.std.specs.List.{All}
use Rattle.donor_book.specs.Passes.{PassState}
use Rattle.donor_book.specs.declared.claim.Claim.{Claim}
use Rattle.donor_book.specs.declared.claim.Claim.TheVariants as claim
use Rattle.donor_book.specs.declared.claim.Entry.{Entry}
use Rattle.donor_book.specs.declared.claim.Won.{Won}
use Rattle.donor_book.specs.declared.rule.Placed.{Placed}
use Rattle.donor_book.specs.declared.rule.Terms.{Terms}
use Rattle.class_books.specs.ClassPasses.{ClassState, ClassTerms}
use Rattle.class_books.specs.Classes.{IsOfClass}

-- the rows of a class, in order, where the first of the list is this row
abbrev pub rows_from : ℕ → ℕ → List ℕ → List ℕ
rows_from class row [] = []
rows_from class row (c ∷ class_of) =
    if c == class then row ∷ rows_from class (suc row) class_of else rows_from class (suc row) class_of

-- the rows of a class, in order: the first has the number 0 in its book
abbrev pub rows_in : List ℕ → ℕ → List ℕ
rows_in class_of class = rows_from class 0 class_of

-- the row that has this number in the class; past the last one a number that no row has
abbrev pub row_with : List ℕ → ℕ → ℕ → ℕ
row_with class_of class number = slice_index_or (rows_in class_of class) number (length class_of)

-- the donor that has this number in the class; past the last one nobody
abbrev pub donor_with : List ℕ → ℕ → Option ℕ → Option ℕ
donor_with class_of class None = None
donor_with class_of class (Some number) = slice_get (rows_in class_of class) number

-- a row that has claimed in the class's book, with the numbers of the whole file
abbrev pub won_with : List ℕ → ℕ → Won → Won
won_with class_of class w = record { row_no = row_with class_of class w.row_no; reply = donor_with class_of class w.reply }

-- an entry of the class's book, with the numbers of the whole file
abbrev pub entry_with : List ℕ → ℕ → Entry → Entry
entry_with class_of class e =
    record {
      row_no = row_with class_of class e.row_no;
      ranking = map (row_with class_of class) e.ranking;
      reply = donor_with class_of class e.reply;
    }

-- the same of an entry at its place
abbrev pub placed_with : List ℕ → ℕ → Placed → Placed
placed_with class_of class m = record { place = m.place; entry = entry_with class_of class m.entry }

-- an answer of the class's book, with the numbers of the whole file
abbrev pub claim_with : List ℕ → ℕ → Claim → Claim
claim_with class_of class (claim.Given donor) = claim.Given (row_with class_of class donor)
claim_with class_of class claim.Nobody = claim.Nobody
claim_with class_of class (claim.Had reply) = claim.Had (donor_with class_of class reply)

-- what a pass of the class's book has, with the numbers of the whole file
abbrev pub state_with : List ℕ → ℕ → PassState → ClassState
state_with class_of class pass =
    record { seen = map (won_with class_of class) pass.seen; mine = map (placed_with class_of class) pass.mine }

-- the same of passes of the books of this class and those behind it
abbrev pub states_from : List ℕ → ℕ → List PassState → List ClassState
states_from class_of class [] = []
states_from class_of class (pass ∷ passes) = state_with class_of class pass ∷ states_from class_of (suc class) passes

-- the terms of the class's book, in the numbers of the class
abbrev pub class_terms : ClassTerms → ℕ → Terms
class_terms terms class =
    let count = length (rows_in terms.class_of class) in
    record { limit = terms.limit; donors = count; rows = count; passes = terms.passes }

-- the rows of each class, and the number of each row in its class
pub record AreNumbered (class_of numbers : List ℕ) (rows : List (List ℕ)) : Type 0 where
  pub as_many : length numbers ≡ length class_of
  pub rows_are : (class : ℕ) → class < length rows → slice_index_or rows class [] ≡ rows_in class_of class
  pub numbered : (row class : ℕ) → IsOfClass class_of class row → slice_get (rows_in class_of class) (slice_index numbers row) ≡ Some row

-- what the tables of the classes keep: each row's class is one that there is, and rows are numbered within their class
pub record KeepsClasses (class_of numbers : List ℕ) (rows : List (List ℕ)) : Type 0 where
  pub few : length class_of + 1 < 2 ^ 32
  pub within : All (λ class. class < length rows) class_of
  pub are : AreNumbered class_of numbers rows

-- these are the numbers of these rows in the class, in order
pub record AreNumbersOf (class_of : List ℕ) (class : ℕ) (rows numbers : List ℕ) : Type 0 where
  pub rows_are : map (row_with class_of class) numbers ≡ rows
  pub within : All (λ number. number < length (rows_in class_of class)) numbers

-- the donor that is given, if one is, is one of so many
abbrev pub IsGivenWithin : ℕ → Claim → Type 0
IsGivenWithin donors (claim.Given donor) = donor < donors
IsGivenWithin donors claim.Nobody = Unit {0}
IsGivenWithin donors (claim.Had reply) = Unit {0}
