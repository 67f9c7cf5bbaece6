-- What is found of the record of a number.
use Rattle.std.specs.Prelude.{◌≡◌, ℕ, Bool, List, Option, IfSome}
use Rattle.std.specs.List.{All}
use Rattle.bound_cert.specs.declared.outcome.Outcome.{Outcome}
use Rattle.donor_search.specs.CleanRows.{row_at}
use Rattle.record_pieces.specs.Classes.{IsDonorIn}
use Rattle.record_pieces.specs.Needs.{IsRankingFor, Ranks, class_found}
use Rattle.record_pieces.specs.Rests.{class_field_in, rows_in}
use Rattle.record_pieces.specs.declared.rest.Rest.{Rest}
use Rattle.record_pieces.specs.declared.search.Wish.{Wish}

-- whether the record of this number has a ranking, and which, by its path
abbrev pub RanksIn : {F : Type 0} → Rest F → ℕ → Bool → List Bool → Option (List ℕ) → Type 0
RanksIn rest row_no claims path ranking =
    Ranks claims rest.survey (rows_in rest) (class_field_in rest) rest.near (row_at (rows_in rest) row_no) path ranking

-- the ranking of the record of this number, of which this was found
abbrev pub IsRankingIn : {F : Type 0} → Rest F → ℕ → Outcome → Option (List ℕ) → Type 0
IsRankingIn rest row_no outcome ranking =
    IsRankingFor rest.survey (rows_in rest) (class_field_in rest) rest.near (row_at (rows_in rest) row_no) outcome ranking

-- what the record of this number, of which this was found, asks of the donors: its class, and the donors of this class that it ranks
pub record IsWishIn {F : Type 0} (rest : Rest F) (row_no : ℕ) (found : Outcome) (wish : Wish) : Type 0 where
  pub class : wish.class ≡ class_found rest.survey (class_field_in rest) (row_at (rows_in rest) row_no) found
  pub ranking : IsRankingIn rest row_no found wish.ranking
  pub donors : IfSome wish.ranking (All (IsDonorIn rest.survey (rows_in rest) (class_field_in rest) wish.class))
