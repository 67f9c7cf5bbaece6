use Rattle.std.proofs.Common.{◌≡◌, ◌<◌, ℕ, not, Bool, true, false, List, [], All, Option, Some, IfSome, get_or, length, map, sym, ap}
use Rattle.std.proofs.Common.{◌∙◌, subst, arith}
use Rattle.std.proofs.lemmas.List.Elements.{All-weaker}
use Rattle.std.specs.Borrow.{Bor}
use Rattle.std.specs.Fn.{Shared}
use Rattle.std.proofs.lemmas.List.{get_or-map, length-map, same_lists}
use Rattle.edit_model.specs.Corrections.{path_order}
use Rattle.edit_model.specs.FieldSets.{has_number}
use Rattle.edit_model.specs.declared.value.Value.{Value}
use Rattle.edit_model.proofs.OrderLaws.{order-length}
use Rattle.bound_cert.specs.Paths.{keeps_bad, kept_set}
use Rattle.bound_cert.specs.declared.cert.Cert.{Cert}
use Rattle.bound_cert.specs.declared.outcome.Outcome.TheVariants as outcome
use Rattle.edit_paths.specs.Cases.{SearchCase, IsCase}
use Rattle.edit_paths.specs.Outcomes.{outcome_of}
use Rattle.edit_paths.specs.Paths.{field_count}
use Rattle.edit_paths.specs.ReachedPaths.{reached_paths}
use Rattle.edit_paths.specs.States.{IsOpen}
use Rattle.edit_paths.specs.declared.state.PathState.TheVariants.{Open}
use Rattle.edit_paths.proofs.BadFields.{not-bad}
use Rattle.edit_paths.proofs.ChoiceLaws.{found-from, word-at}
use Rattle.edit_paths.proofs.FieldPlaces.{place-of}
use Rattle.edit_paths.proofs.KeptLines.{kept-number}
use Rattle.back_subst.specs.Gifts.{path_of}
use Rattle.donor_search.specs.CleanRows.{IsCleanRow, row_at}
use Rattle.donor_search.specs.Rankings.{ranking_of}
use Rattle.record_pieces.specs.Classes.{IsDonorIn}
use Rattle.record_pieces.specs.Needs.{IsRankingOf, donors_for}
use Rattle.record_pieces.specs.Rests.{IsPieceIn, IsRest, case_in, class_field_in, rows_in}
use Rattle.record_pieces.specs.declared.piece.Piece.{Piece}
use Rattle.record_pieces.specs.declared.rest.Rest.{Rest}

-- The fields that a path keeps, and the ranking for them.

module _ (c : SearchCase) where
  -- the path of a change is open
  pub change-open : (budget : ℕ) (path : List Bool) (weight : ℕ) (cert : Cert) → outcome_of c budget ≡ outcome.Change path weight cert → IsOpen c path
  change-open budget path weight cert e = (found-from c budget [] (reached_paths c) path weight cert e).open_there

  module _ (is : IsCase c) (path : List Bool) (whole : length path ≡ field_count c) (opened : IsOpen c path) where
    none : keeps_bad c.survey.fields c.row path ≡ false
    none = not-bad c path Open opened (λ e. cc e)

    -- a path that says something of all fields changes those that it does not keep
    pub kept-path : path_of c.survey.fields (kept_set c.survey.fields c.row path) ≡ map not path
    kept-path = same_lists (path_of c.survey.fields kept) (map not path) (as_many ∙ sym whole ∙ sym (length-map path not))
        (λ k d below. letter k d (omega (arith, below, as_many)))
      where
        kept : ℕ
        kept = kept_set c.survey.fields c.row path

        as_many : length (path_of c.survey.fields kept) ≡ field_count c
        as_many = length-map (path_order c.survey.fields) (has_number kept) ∙ order-length c.survey.fields

        letter : (k : ℕ) (d : Bool) → k < field_count c → get_or (path_of c.survey.fields kept) k d ≡ get_or (map not path) k d
        letter k d below =
            let (f, there, place) = place-of c k below in
            ap (λ i. get_or (path_of c.survey.fields kept) i d) (sym place)
            ∙ word-at (has_number kept) (path_order c.survey.fields) f d there
            ∙ kept-number c is path none f there
            ∙ ap (λ i. not (get_or path i true)) place
            ∙ sym (get_or-map not path k true d (omega (arith, below, whole)))

-- ---- the ranking

-- the nearest donors of its class at the fields that the path keeps are what the record ranks
pub ranks-path : {F : Type 0} (calls : Shared F (ℕ × (Bor Value × (Bor Value × Unit {0}))) ℕ) (e : Rest F) → IsRest calls e
    → (row_no : ℕ) (row : List Value) → row ≡ row_at (rows_in e) row_no
    → (path : List Bool) → IsCase (case_in e (row_at (rows_in e) row_no)) → length path ≡ length e.survey.fields
    → IsOpen (case_in e (row_at (rows_in e) row_no)) path
    → (kept : ℕ) → kept ≡ kept_set e.survey.fields row path
    → (ranking : List ℕ)
    → ranking ≡ ranking_of e.measure.yardsticks (rows_in e) (donors_for e.survey (rows_in e) (class_field_in e) row kept) row kept e.near
    → IsRankingOf e.survey (rows_in e) (class_field_in e) e.near (row_at (rows_in e) row_no) path ranking
ranks-path calls e is_rest row_no row there path is whole opened kept set ranking ranked = record {
  kept = kept;
  fields = (λ i. path_of e.survey.fields (number i)) ∙ kept-path (case_in e (row_at (rows_in e) row_no)) is path whole opened;
  ranked = ranked ∙ (λ i. ranking_of (is_rest.yardsticks i) (rows_in e) (donors_for e.survey (rows_in e) (class_field_in e) (there i) kept)
      (there i) kept e.near);
}
  where
    number : kept ≡ kept_set e.survey.fields (row_at (rows_in e) row_no) path
    number = set ∙ ap (λ (r : List Value). kept_set e.survey.fields r path) there

-- ---- the donors of a piece

-- the donors that a piece ranks are clean records
pub piece-clean : {F : Type 0} (rest : Rest F) (piece : Piece) → IsPieceIn rest piece → (ranking : List ℕ) → piece.ranking ≡ Some ranking
    → All (IsCleanRow rest.survey (rows_in rest)) ranking
piece-clean rest piece is ranking there =
    All-weaker (IsDonorIn rest.survey (rows_in rest) (class_field_in rest) piece.class) (IsCleanRow rest.survey (rows_in rest))
    (λ d donor. donor.clean) ranking
    (subst (λ (o : Option (List ℕ)). IfSome o (All (IsDonorIn rest.survey (rows_in rest) (class_field_in rest) piece.class))) there is.donors)
