-- What is asked of the donors: which records need one, and how each ranks them.
use Rattle.std.specs.Prelude.{◌≡◌, ◌==◌, ℕ, not, Bool, true, false, List, [], ◌∷◌, Option, Some, None, IsSomeAnd, map}
use Rattle.std.specs.List.{flat_map}
use Rattle.std.specs.List.Sorted.{IsPermutation, IsStrictlyIncreasing}
use Rattle.edit_model.specs.Parts.{SurveyParts}
use Rattle.edit_model.specs.declared.value.Value.{Value}
use Rattle.bound_cert.specs.Paths.{kept_set}
use Rattle.bound_cert.specs.declared.outcome.Outcome.{Outcome}
use Rattle.bound_cert.specs.declared.outcome.Outcome.TheVariants.{Change}
use Rattle.back_subst.specs.Gifts.{path_of}
use Rattle.donor_book.specs.Entries.{IsLegalHistory}
use Rattle.donor_book.specs.declared.claim.Entry.{Entry}
use Rattle.donor_measure.specs.Yardsticks.{yardsticks_of}
use Rattle.donor_search.specs.Rankings.{ranking_of}
use Rattle.record_pieces.specs.Classes.{class_count, class_kept, donors_in}
use Rattle.record_pieces.specs.declared.piece.Piece.{Piece}

-- the class of a record of which this was found, where a change was found: by the fields that its path keeps. Any other record is in
-- the last class
abbrev pub class_found : SurveyParts → Option ℕ → List Value → Outcome → ℕ
class_found survey class_field row (Change path weight cert) =
    class_kept (class_count survey.fields class_field) class_field row (kept_set survey.fields row path)
class_found survey class_field row outcome = class_count survey.fields class_field

-- the donors of the class of a record that keeps these fields
abbrev pub donors_for : SurveyParts → List (List Value) → Option ℕ → List Value → ℕ → List ℕ
donors_for survey rows class_field row kept =
    donors_in survey rows class_field (class_kept (class_count survey.fields class_field) class_field row kept)

-- the donors that a record ranks of which a path changes some fields: the nearest donors of its class, at the fields that it keeps
pub record IsRankingOf (survey : SurveyParts) (rows : List (List Value)) (class_field : Option ℕ) (near : ℕ)
    (row : List Value) (path : List Bool) (ranking : List ℕ) : Type 0 where
  pub kept : ℕ
  pub fields : path_of survey.fields kept ≡ map not path
  pub ranked : ranking
      ≡ ranking_of (yardsticks_of survey.fields) rows (donors_for survey rows class_field row kept) row kept near

-- a record that claims has the ranking by the path that was found for it, and any other has none
abbrev pub Ranks : Bool → SurveyParts → List (List Value) → Option ℕ → ℕ → List Value → List Bool → Option (List ℕ) → Type 0
Ranks true survey rows class_field near row path ranking = IsSomeAnd ranking (IsRankingOf survey rows class_field near row path)
Ranks false survey rows class_field near row path ranking = ranking ≡ None

-- the ranking of a record of which this was found: it claims where a change was found that weighs something
abbrev pub IsRankingFor : SurveyParts → List (List Value) → Option ℕ → ℕ → List Value → Outcome → Option (List ℕ) → Type 0
IsRankingFor survey rows class_field near row (Change path weight cert) ranking =
    Ranks (not (weight == 0)) survey rows class_field near row path ranking
IsRankingFor survey rows class_field near row outcome ranking = ranking ≡ None

-- a record that needs a donor, by its number, and the donors that it ranks
pub record Need : Type 0 where
  pub row_no : ℕ
  pub ranking : List ℕ

-- what the record of this number needs, with this ranking or none
abbrev pub needs_by : ℕ → Option (List ℕ) → List Need
needs_by row_no None = []
needs_by row_no (Some ranking) = record { row_no = row_no; ranking = ranking } ∷ []

-- what the records of these pieces need, in order
abbrev pub needs_of : List Piece → List Need
needs_of pieces = flat_map (λ (p : Piece). needs_by p.row_no p.ranking) pieces

-- what a claim asks for
abbrev pub need_in : Entry → Need
need_in entry = record { row_no = entry.row_no; ranking = entry.ranking }

-- a legal history whose claims are for what the records of these pieces need, each once, in some order
pub record AnswersNeeds (limit : ℕ) (pieces : List Piece) (history : List Entry) : Type 0 where
  pub legal : IsLegalHistory limit history
  pub needs : IsPermutation (needs_of pieces) (map need_in history)

-- ---- the order of claims

-- the numbers of the records that claimed, in the order of their claims
abbrev pub rows_claimed : List Entry → List ℕ
rows_claimed history = map (λ (entry : Entry). entry.row_no) history

-- the records claimed in their order
abbrev pub AreInRowOrder : List Entry → Type 0
AreInRowOrder history = IsStrictlyIncreasing (rows_claimed history)
