use Rattle.std.proofs.Common.{◌≡◌, ◌≢◌, ◌<◌, ◌≤◌, ◌+◌, ℕ, not, Bool, true, false, List, [], ◌∷◌, All, Option, Some, None, IfSome, cond, get_or, length, map}
use Rattle.std.proofs.Common.{take, refl, sym, ap, ◌∙◌, subst, arith}
use Rattle.std.specs.Prelude.{◌==◌, slice_get}
use Rattle.std.specs.Borrow.{Bor}
use Rattle.std.specs.Fn as closures
use Rattle.std.proofs.Math.Arith.{lt_of_le-ne}
use Rattle.std.proofs.lemmas.List.{length-map, length-take}
use Rattle.std.proofs.lemmas.List.Elements.{All-from_recursion, All-head, All-map, All-weaker}
use Rattle.std.proofs.lemmas.Option.{get_or_from_slice_get, slice_get-get_or}
use Rattle.foundation.specs.Limits.{most_near}
use Rattle.edit_model.specs.FieldSets.{has_number}
use Rattle.edit_model.specs.Rows.{IsRow, value_of}
use Rattle.edit_model.specs.declared.value.Value.{Value}
use Rattle.edit_line.proofs.ListPlaces.{get-map}
use Rattle.bound_cert.specs.Paths.{kept_set}
use Rattle.bound_cert.specs.declared.outcome.Outcome.{Outcome}
use Rattle.bound_cert.specs.declared.outcome.Outcome.TheVariants as outcome
use Rattle.class_books.specs.ClassPasses.{class_at}
use Rattle.class_books.specs.Classes.{IsOfClass}
use Rattle.donor_search.specs.CleanRows.{row_at}
use Rattle.record_pieces.specs.Classes.{IsDonorIn, class_count, class_kept, class_of_value, class_read}
use Rattle.record_pieces.specs.Needs.{IsRankingFor, Ranks, class_found}
use Rattle.record_pieces.specs.Rests.{IsPieceIn, IsRest, class_field_in, rows_in}
use Rattle.record_pieces.specs.declared.piece.Piece.{Piece}
use Rattle.record_pieces.specs.declared.rest.Rest.{Rest}
use Rattle.record_pieces.proofs.ClassLaws.{kept-read, read-within}
use Rattle.record_workers.specs.Workers.{IsShared, last_class}
use Rattle.record_workers.specs.declared.shared.Shared.{Shared}

-- In which book a record claims: in that of the class in which it was read, if it keeps the class.

-- the class of a record that keeps some fields is none behind the last
kept-within : (last : ℕ) (class_field : Option ℕ) (row : List Value) (kept : ℕ) → class_read last class_field row ≤ last
    → class_kept last class_field row kept ≤ last
kept-within last None row kept le = le
kept-within last (Some field) row kept le = by (has_number kept field)
  where
    by : (b : Bool) → cond b (class_of_value last (value_of row field)) last ≤ last
    by true = le
    by false = omega arith

-- so many elements of a list are no more
taken-few : (n : ℕ) (xs taken : List ℕ) → taken ≡ take n xs → length taken ≤ n
taken-few n xs taken is = let many = ap length is in omega (arith, many, length-take n xs)

module _ {F : Type 0} (calls : closures.Shared F (ℕ × (Bor Value × (Bor Value × Unit {0}))) ℕ) (rest : Rest F) (is : IsRest calls rest) where
  abbrev last : ℕ
  last = class_count rest.survey.fields (class_field_in rest)

  abbrev read : ℕ → ℕ
  read row_no = class_read last (class_field_in rest) (row_at (rows_in rest) row_no)

  -- each record was read in one of the classes, or in the last
  row-within : (row_no : ℕ) → row_no < length (rows_in rest) → read row_no ≤ last
  row-within row_no lt = read-within rest.survey.fields (class_field_in rest) (row_at (rows_in rest) row_no) is.decks.field
      (All-from_recursion (IsRow rest.survey.fields) (rows_in rest) is.rows row_no [] lt)

  -- the classes in which the records were read are those that there are
  pub classes-within : All (λ class. class < length rest.decks.of_class.items + 1)
      (map (class_read (length rest.decks.of_class.items) (class_field_in rest)) (rows_in rest))
  classes-within = All-map (λ class. class < length rest.decks.of_class.items + 1)
      (class_read (length rest.decks.of_class.items) (class_field_in rest)) (rows_in rest)
      (λ row_no d lt. all row_no d lt (row-within row_no lt))
    where
      all : (row_no : ℕ) (d : List Value) → row_no < length (rows_in rest) → read row_no ≤ last
          → class_read (length rest.decks.of_class.items) (class_field_in rest) (get_or (rows_in rest) row_no d) < length rest.decks.of_class.items + 1
      all row_no d lt le =
          let same : get_or (rows_in rest) row_no d ≡ row_at (rows_in rest) row_no =
          get_or_from_slice_get (rows_in rest) row_no (row_at (rows_in rest) row_no) d (slice_get-get_or (rows_in rest) row_no [] lt) in
          let many = is.decks.as_many in
          let class : class_read (length rest.decks.of_class.items) (class_field_in rest) (get_or (rows_in rest) row_no d) ≡ read row_no =
          (λ i. class_read (many i) (class_field_in rest) (same i)) in
          omega (arith, class, le, many)

  module _ (piece : Piece) (found : IsPieceIn rest piece) where
    abbrev row : List Value
    row = row_at (rows_in rest) piece.row_no

    -- a piece is of one of the classes, or of the last
    pub piece-within : piece.class ≤ last
    piece-within = by piece.outcome found.class
      where
        by : (o : Outcome) → piece.class ≡ class_found rest.survey (class_field_in rest) row o → piece.class ≤ last
        by (outcome.Change path weight cert) class =
            let le = kept-within last (class_field_in rest) row (kept_set rest.survey.fields row path) (row-within piece.row_no found.there) in
            omega (arith, class, le)
        by (outcome.Budget path work) class = omega (arith, class)
        by (outcome.Overflow path event) class = omega (arith, class)
        by (outcome.Contradictory cert) class = omega (arith, class)

    -- one that is not of the last is of the class in which its record was read
    piece-read : piece.class < last → read piece.row_no ≡ piece.class
    piece-read lt = by piece.outcome found.class
      where
        by : (o : Outcome) → piece.class ≡ class_found rest.survey (class_field_in rest) row o → read piece.row_no ≡ piece.class
        by (outcome.Change path weight cert) class =
            let kept = kept_set rest.survey.fields row path in
            sym (class ∙ kept-read last (class_field_in rest) row kept (omega (arith, class, lt)))
        by (outcome.Budget path work) class = absurd (omega (arith, class, lt))
        by (outcome.Overflow path event) class = absurd (omega (arith, class, lt))
        by (outcome.Contradictory cert) class = absurd (omega (arith, class, lt))

    module _ (ranking : List ℕ) (ranks : piece.ranking ≡ Some ranking) where
      -- it ranks few enough donors
      pub ranks-few : length ranking ≤ most_near
      ranks-few = by piece.outcome
          (subst (IsRankingFor rest.survey (rows_in rest) (class_field_in rest) rest.near row piece.outcome) ranks found.ranking)
        where
          few : (b : Bool) (path : List Bool) → Ranks b rest.survey (rows_in rest) (class_field_in rest) rest.near row path (Some ranking)
              → length ranking ≤ most_near
          few true path of = let near = is.near in let most = taken-few rest.near _ ranking of.ranked in omega (arith, near, most)
          few false path none = absurd (cc)

          by : (o : Outcome) → IsRankingFor rest.survey (rows_in rest) (class_field_in rest) rest.near row o (Some ranking) → length ranking ≤ most_near
          by (outcome.Change path weight cert) of = few (not (weight == 0)) path of
          by (outcome.Budget path work) none = absurd (cc)
          by (outcome.Overflow path event) none = absurd (cc)
          by (outcome.Contradictory cert) none = absurd (cc)

      donors : All (IsDonorIn rest.survey (rows_in rest) (class_field_in rest) piece.class) ranking
      donors = subst (λ (o : Option (List ℕ)). IfSome o (All (IsDonorIn rest.survey (rows_in rest) (class_field_in rest) piece.class))) ranks found.donors

      -- and none in the last class
      pub ranks-none : piece.class ≡ last → ranking ≡ []
      ranks-none class = by ranking donors
        where
          by : (ds : List ℕ) → All (IsDonorIn rest.survey (rows_in rest) (class_field_in rest) piece.class) ds → ds ≡ []
          by [] all = refl
          by (d ∷ ds) all = absurd (
              let some = (All-head (IsDonorIn rest.survey (rows_in rest) (class_field_in rest) piece.class) d ds all).some in
              omega (arith, some, class))

-- ---- what workers share

module _ {F : Type 0} (calls : closures.Shared F (ℕ × (Bor Value × (Bor Value × Unit {0}))) ℕ) (shared : Shared F) (is : IsShared calls shared) where
  -- the books have each row in the class in which it was read
  row-class : (row_no : ℕ) → row_no < length (rows_in shared.rest) → IsOfClass shared.books.terms.class_of (read calls shared.rest is.rest row_no) row_no
  row-class row_no lt =
      let many = is.rest.decks.as_many in
      ap (λ (classes : List ℕ). slice_get classes row_no) is.class_of
      ∙ get-map (class_read (last_class shared) (class_field_in shared.rest)) (rows_in shared.rest) row_no (row_at (rows_in shared.rest) row_no)
      (slice_get-get_or (rows_in shared.rest) row_no [] lt)
      ∙ (λ i. Some (class_read (many i) (class_field_in shared.rest) (row_at (rows_in shared.rest) row_no)))

  -- there is a row for each record
  pub row-there : (row_no : ℕ) → row_no < length (rows_in shared.rest) → row_no < length shared.books.terms.class_of
  row-there row_no lt =
      let many = ap length is.class_of in
      let same = length-map (rows_in shared.rest) (class_read (last_class shared) (class_field_in shared.rest)) in
      omega (arith, lt, many, same)

  -- a piece that is not of the last class is of one with donors
  pub not-last : (piece : Piece) → IsPieceIn shared.rest piece → piece.class ≢ last_class shared → piece.class < last_class shared
  not-last piece found other =
      let le = piece-within calls shared.rest is.rest piece found in
      let many = is.rest.decks.as_many in
      lt_of_le-ne {i = piece.class} {k = last_class shared} (omega (arith, le, many)) other

  module _ (piece : Piece) (found : IsPieceIn shared.rest piece) (own : piece.class < last_class shared) where
    -- a record of a class with donors claims in the book of its class
    pub class-own : class_at shared.books piece.row_no ≡ piece.class
    class-own =
        let many = is.rest.decks.as_many in
        get_or_from_slice_get shared.books.terms.class_of piece.row_no (read calls shared.rest is.rest piece.row_no) 0 (row-class piece.row_no found.there)
        ∙ piece-read calls shared.rest is.rest piece found (omega (arith, own, many))

    -- and ranks donors of that book
    pub donors-own : (ranking : List ℕ) → piece.ranking ≡ Some ranking
        → All (IsOfClass shared.books.terms.class_of (class_at shared.books piece.row_no)) ranking
    donors-own ranking ranks = subst (λ (class : ℕ). All (IsOfClass shared.books.terms.class_of class) ranking) (sym class-own)
        (All-weaker (IsDonorIn shared.rest.survey (rows_in shared.rest) (class_field_in shared.rest) piece.class)
        (IsOfClass shared.books.terms.class_of piece.class)
        (λ d of. row-class d of.clean.0 ∙ ap (λ (class : ℕ). Some class) of.own) ranking (donors calls shared.rest is.rest piece found ranking ranks))
