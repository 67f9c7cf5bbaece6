-- Which records claim a donor, how they rank the donors, and whom each is given.
use Rattle.std.specs.Prelude.{◌≡◌, ℕ, ◌+◌, ◌<◌, ◌≤◌, ◌==◌, Bool, List, Option, Some, None, IsSomeAnd, length, slice_get}
use Rattle.std.specs.List.{All, AllByRecursion, filter}
use Rattle.std.specs.List.Sorted.{IsPermutation}
use Rattle.foundation.specs.Limits.{most_work, most_gifts, most_near}
use Rattle.edit_model.specs.Parts.{SurveyParts}
use Rattle.edit_model.specs.declared.value.Value.{Value}
use Rattle.bound_cert.specs.Claims.{claims_donor}
use Rattle.donor_book.specs.Entries.{IsLegalHistory}
use Rattle.donor_book.specs.declared.claim.Entry.{Entry}
use Rattle.class_books.specs.Histories.{history_in, joined}
use Rattle.donor_search.specs.CleanRows.{row_at}
use Rattle.donor_search.specs.Places.{places_from}
use Rattle.edit_report.specs.Ends.{path_found}
use Rattle.edit_report.specs.declared.end.RowEnd.{RowEnd}
use Rattle.record_pieces.specs.Classes.{IsDonorIn, class_count}
use Rattle.record_pieces.specs.Needs.{AreInRowOrder, IsRankingOf, class_found, rows_claimed}
use Rattle.record_ends.specs.Givings.{donor_in}
use Rattle.record_editing.specs.declared.terms.Terms.{Terms}

-- the work of a search is at most from 1 to 1,000,000,000, a donor is given at most 1 to 1,000 times, and a record ranks at
-- most 1 to 64 donors
pub record AreTerms (terms : Terms) : Type 0 where
  pub budget : (1 ≤ terms.budget) × (terms.budget ≤ most_work)
  pub limit : (1 ≤ terms.limit) × (terms.limit ≤ most_gifts)
  pub near : (1 ≤ terms.near) × (terms.near ≤ most_near)

-- ---- who claims

-- whether the record that ended so claims a donor
abbrev pub end_claims : RowEnd → Bool
end_claims end = claims_donor end.proof.outcome

-- the numbers of the records that claim a donor, in order
abbrev pub claimers_of : List RowEnd → List ℕ
claimers_of ends = places_from end_claims 0 ends

-- ---- whom a record ranks

-- the entry has the ranking of its record, by the path that was found for it
abbrev pub IsRanked : SurveyParts → List (List Value) → Option ℕ → ℕ → List RowEnd → Entry → Type 0
IsRanked survey rows class_field near ends entry = IsSomeAnd (slice_get ends entry.row_no) (λ (end : RowEnd).
    IsRankingOf survey rows class_field near (row_at rows entry.row_no) (path_found end.proof.outcome) entry.ranking)

-- ---- imputation classes

-- the class of a record that ended so, if there is one of that number
abbrev pub class_by : SurveyParts → Option ℕ → List Value → Option RowEnd → ℕ
class_by survey class_field row None = class_count survey.fields class_field
class_by survey class_field row (Some end) = class_found survey class_field row end.proof.outcome

-- the class in which an entry claims: that of its record, by the fields that are kept
abbrev pub class_claimed : SurveyParts → List (List Value) → Option ℕ → List RowEnd → Entry → ℕ
class_claimed survey rows class_field ends entry =
    class_by survey class_field (row_at rows entry.row_no) (slice_get ends entry.row_no)

-- the entry claims in this class, and each donor that it ranks is of this class
pub record IsClaimIn (survey : SurveyParts) (rows : List (List Value)) (class_field : Option ℕ) (ends : List RowEnd)
    (class : ℕ) (entry : Entry) : Type 0 where
  pub own : class_claimed survey rows class_field ends entry ≡ class
  pub donors : All (IsDonorIn survey rows class_field class) entry.ranking

-- the claims come class by class, in the order of the classes, the last one behind the others: each class has a legal history of its
-- own, whose claims are in this class, and so are the donors that they rank
pub record ComeInClasses (survey : SurveyParts) (rows : List (List Value)) (class_field : Option ℕ) (limit : ℕ)
    (ends : List RowEnd) (history : List Entry) : Type 0 where
  pub histories : List (List Entry)
  pub as_many : length histories ≡ class_count survey.fields class_field + 1
  pub one_after_other : history ≡ joined histories
  pub legal : (class : ℕ) → class < length histories → IsLegalHistory limit (history_in class histories)
  pub of_class : (class : ℕ) → class < length histories
      → All (IsClaimIn survey rows class_field ends class) (history_in class histories)

-- the claims of one class, in their order
abbrev pub claims_in : SurveyParts → List (List Value) → Option ℕ → List RowEnd → ℕ → List Entry → List Entry
claims_in survey rows class_field ends class history =
    filter (λ (entry : Entry). class_claimed survey rows class_field ends entry == class) history

-- the records claimed in their order, or those of each class did, where there is a class field
abbrev pub AreInOrder : SurveyParts → List (List Value) → Option ℕ → List RowEnd → List Entry → Type 0
AreInOrder survey rows None ends history = AreInRowOrder history
AreInOrder survey rows (Some field) ends history =
    (class : ℕ) → AreInRowOrder (claims_in survey rows (Some field) ends class history)

-- ---- the claims of all records

-- the claims of the records of a sheet that ended so, on these terms: one legal history, whose claims are those of the records of
-- which some field is changed, each once, and each with its ranking; they come class by class; and each record has the donor that it
-- was given there
pub record AreDonations (survey : SurveyParts) (rows : List (List Value)) (terms : Terms)
    (ends : List RowEnd) (history : List Entry) : Type 0 where
  pub legal : IsLegalHistory terms.limit history
  pub claimers : IsPermutation (claimers_of ends) (rows_claimed history)
  pub ranked : AllByRecursion (IsRanked survey rows terms.class_field terms.near ends) history
  pub classes : ComeInClasses survey rows terms.class_field terms.limit ends history
  pub given : (i : ℕ) (end : RowEnd) → slice_get ends i ≡ Some end → end.donor ≡ donor_in history i
