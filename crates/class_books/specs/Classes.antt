-- Rows, donors and claims of one class.
use Rattle.std.specs.Prelude.{◌≡◌, ℕ, List, Option, Some, None, slice_get}
use Rattle.std.specs.List.{All}
use Rattle.donor_book.specs.declared.claim.Entry.{Entry}
use Rattle.donor_book.specs.declared.claim.Won.{Won}

-- the row is of this class, where `class_of` has the class of each row
abbrev pub IsOfClass : List ℕ → ℕ → ℕ → Type 0
IsOfClass class_of class row = slice_get class_of row ≡ Some class

-- the donor is of this class, or it is nobody
abbrev pub IsDonorOf : List ℕ → ℕ → Option ℕ → Type 0
IsDonorOf class_of class None = Unit {0}
IsDonorOf class_of class (Some donor) = IsOfClass class_of class donor

-- a row of this class, which was given a donor of this class or nobody
abbrev pub IsWonIn : List ℕ → ℕ → Won → Type 0
IsWonIn class_of class w = IsOfClass class_of class w.row_no × IsDonorOf class_of class w.reply

-- the claim of a row of this class, which ranks donors of this class alone
abbrev pub IsEntryIn : List ℕ → ℕ → Entry → Type 0
IsEntryIn class_of class entry = IsOfClass class_of class entry.row_no × All (IsOfClass class_of class) entry.ranking
