-- By what records are edited, and what is found of them.
use Rattle.std.specs.Prelude.{◌≡◌, ◌↔◌, ℕ, ◌<◌, ◌≤◌, ◌^◌, Bool, List, Option, IfSome, get_or, length, map}
use Rattle.std.specs.Arc.{arc_value}
use Rattle.std.specs.Borrow.{Bor}
use Rattle.std.specs.Fn as closures
use Rattle.std.specs.List.{All, AllByRecursion, range_with_len}
use Rattle.foundation.specs.Limits.{most_codes, most_fields, most_near}
use Rattle.edit_model.specs.Corrections.{IsCorrection}
use Rattle.edit_model.specs.Parts.{SurveyParts}
use Rattle.edit_model.specs.PlainNumbers.{HasPlainNumbers}
use Rattle.edit_model.specs.Points.{Point}
use Rattle.edit_model.specs.Rows.{IsRow}
use Rattle.edit_model.specs.declared.value.Value.{Value}
use Rattle.edit_line.specs.EditSets.{EditsParts}
use Rattle.edit_line.specs.Shapes.{shape_of}
use Rattle.donor_measure.specs.Measures.{Measures}
use Rattle.donor_measure.specs.Yardsticks.{yardsticks_of}
use Rattle.donor_search.specs.CleanRows.{CanAllGive, row_at}
use Rattle.donor_search.specs.Decks.{DeckParts, IsDeckOf}
use Rattle.edit_paths.specs.Cases.{SearchCase, Meets, case_of}
use Rattle.edit_paths.specs.Outcomes.{outcome_of}
use Rattle.localise_tree.specs.KeptFields.{KeepsChange}
use Rattle.record_pieces.specs.Classes.{IsDonorIn, class_count, donors_in}
use Rattle.record_pieces.specs.Needs.{IsRankingFor, class_found}
use Rattle.record_pieces.specs.declared.piece.Piece.{Piece}
use Rattle.record_pieces.specs.declared.rest.Rest.{Rest}

-- the edits by which records are edited
abbrev pub edits_in : {F : Type 0} → Rest F → EditsParts
edits_in rest = arc_value rest.edits

-- the records that are edited: the rows of the sheet
abbrev pub rows_in : {F : Type 0} → Rest F → List (List Value)
rows_in rest = rest.sheet.rows

-- the class field, by whose codes the records are in classes, if there is one
abbrev pub class_field_in : {F : Type 0} → Rest F → Option ℕ
class_field_in rest = rest.decks.class_field

-- what the search of a record is about: the survey, the edits and the record
abbrev pub case_in : {F : Type 0} → Rest F → List Value → SearchCase
case_in rest row = case_of rest.survey (edits_in rest) row

-- a deck of the donors of this class, with an index of them, of which a ranking may be asked for any kept fields
pub record IsDeckIn (survey : SurveyParts) (rows : List (List Value)) (class_field : Option ℕ) (class : ℕ) (deck : DeckParts) : Type 0 where
  pub donors : deck.donors ≡ donors_in survey rows class_field class
  pub give : CanAllGive survey rows deck.donors
  pub index : IsDeckOf (yardsticks_of survey.fields) rows deck

-- the decks of the classes by this field, which is one of the survey's, if there is one
pub record AreDecksOf (survey : SurveyParts) (rows : List (List Value)) (class_field : Option ℕ) (decks : List DeckParts) : Type 0 where
  pub field : IfSome class_field (λ field. field < length survey.fields)
  pub small : IfSome class_field (λ field. field < most_fields)
  pub as_many : length decks ≡ class_count survey.fields class_field
  pub few : length decks ≤ most_codes
  pub each : (class : ℕ) (d : DeckParts) → class < length decks → IsDeckIn survey rows class_field class (get_or decks class d)

-- the edits are over the survey's fields, and hold at a point with codes exactly where it is consistent; the records are of the
-- survey, with plain numbers, and the decks are those of its classes; the measure is the survey's; a record ranks few
-- enough donors; the pool has systems of the edits
pub record IsRest {F : Type 0} (calls : closures.Shared F (ℕ × (Bor Value × (Bor Value × Unit {0}))) ℕ)
    (rest : Rest F) : Type 0 where
  pub shape : (edits_in rest).shape ≡ shape_of rest.survey.fields
  pub same : (row : List Value) (p : Point) → Meets (case_in rest row) p ↔ IsCorrection rest.survey p
  pub rows : AllByRecursion (IsRow rest.survey.fields) (rows_in rest)
  pub plain : AllByRecursion HasPlainNumbers (rows_in rest)
  pub decks : AreDecksOf rest.survey (rows_in rest) (class_field_in rest) rest.decks.of_class.items
  pub measures : Measures calls rest.measure.closure rest.measure.yardsticks
  pub yardsticks : rest.measure.yardsticks ≡ yardsticks_of rest.survey.fields
  pub near : rest.near ≤ most_near
  pub budget : rest.budget < 2 ^ 64
  pub pool : rest.pool.edits ≡ edits_in rest

-- ---- what is found of the records

-- what is found of a record: the outcome of its search within the budget, its class, and the donors of this class that it ranks
pub record IsPieceIn {F : Type 0} (rest : Rest F) (piece : Piece) : Type 0 where
  pub there : piece.row_no < length (rows_in rest)
  pub outcome : piece.outcome ≡ outcome_of (case_in rest (row_at (rows_in rest) piece.row_no)) rest.budget
  pub class : piece.class ≡ class_found rest.survey (class_field_in rest) (row_at (rows_in rest) piece.row_no) piece.outcome
  pub ranking : IsRankingFor rest.survey (rows_in rest) (class_field_in rest) rest.near (row_at (rows_in rest) piece.row_no)
      piece.outcome piece.ranking
  pub donors : IfSome piece.ranking (All (IsDonorIn rest.survey (rows_in rest) (class_field_in rest) piece.class))

-- where the outcome of a piece is a change, the system of the numerical fields that are changed is kept
abbrev pub KeepsFor : {F : Type 0} → Rest F → (ℕ → Bool) → Piece → Type 0
KeepsFor rest keeps piece = KeepsChange keeps (case_in rest (row_at (rows_in rest) piece.row_no)) piece.outcome

-- the rows of pieces
abbrev pub rows_of : List Piece → List ℕ
rows_of pieces = map (λ (p : Piece). p.row_no) pieces

-- what is found of all records: one piece for each, in row order
pub record ArePiecesIn {F : Type 0} (rest : Rest F) (pieces : List Piece) : Type 0 where
  pub rows : rows_of pieces ≡ range_with_len 0 (length (rows_in rest))
  pub each : All (IsPieceIn rest) pieces
