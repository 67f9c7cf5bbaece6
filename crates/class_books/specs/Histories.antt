-- The histories of classes, and one history of them all.
use Rattle.std.specs.Prelude.{◌≡◌, ℕ, ◌<◌, List, [], length, slice_index_or}
use Rattle.std.specs.List.{All, flat_map}
use Rattle.donor_book.specs.Entries.{IsLegalHistory}
use Rattle.donor_book.specs.Passes.{AreCollected, PassState}
use Rattle.donor_book.specs.declared.claim.Entry.{Entry}
use Rattle.donor_book.specs.declared.claim.Won.{Won}
use Rattle.class_books.specs.ClassPasses.{ClassPassState, ClassesName, EachClass, passes_in}
use Rattle.class_books.specs.Classes.{IsEntryIn}

-- the history of one class
abbrev pub history_in : {X : Type 0} → ℕ → List (List X) → List X
history_in class histories = slice_index_or histories class []

-- the claims of the passes, each at its place, are a legal history, and each is of this class
pub record AreCollectedIn (class_of : List ℕ) (class limit : ℕ) (passes : List PassState) (history : List Won)
    (entries : List Entry) : Type 0 where
  pub collected : AreCollected limit passes history entries
  pub of_class : All (IsEntryIn class_of class) entries

-- each class has a legal history of its own
pub record AreLegalInClasses (class_of : List ℕ) (limit : ℕ) (histories : List (List Entry)) : Type 0 where
  pub legal : (class : ℕ) → class < length histories → IsLegalHistory limit (history_in class histories)
  pub of_class : (class : ℕ) → class < length histories → All (IsEntryIn class_of class) (history_in class histories)

-- the histories of the classes, one after the other
abbrev pub joined : {X : Type 0} → List (List X) → List X
joined histories = flat_map (λ history. history) histories

-- the claims of the passes, class by class, are a legal history of each class, and one after the other they are one legal history
pub record AreCollectedInClasses (name : ClassesName) (passes : List ClassPassState) (histories : List (List Won))
    (claims : List (List Entry)) : Type 0 where
  pub as_many : length claims ≡ name.terms.classes
  pub each : EachClass name (λ class. AreCollectedIn name.terms.class_of class name.terms.limit (passes_in class passes)
      (history_in class histories) (history_in class claims))
  pub legal : IsLegalHistory name.terms.limit (joined claims)

-- where each class has a legal history of its own, these are one legal history, one after the other, since no donor stands in
-- two classes
abbrev pub JoinedLaw : Type 0
JoinedLaw =
    (class_of : List ℕ) (limit : ℕ) (histories : List (List Entry))
    → AreLegalInClasses class_of limit histories
    → IsLegalHistory limit (joined histories)
