use Rattle.std.proofs.Common.{◌≡◌, ℕ, zero, suc, ◌+◌, ◌<◌, ◌++◌, Bool, true, false, List, [], ◌∷◌, All, Option, Some, None, IfSome, IsSomeAnd, ◌==◌, length}
use Rattle.std.proofs.Common.{map, inl, inr}
use Rattle.std.proofs.Common.{refl, sym, ap, ◌∙◌, subst, arith}
use Rattle.std.specs.Prelude.{slice_get}
use Rattle.std.specs.List.{AllByRecursion, AllZip, range_with_len}
use Rattle.std.specs.List.Sorted.{IsPermutation}
use Rattle.std.proofs.lemmas.Bool.Decides.{Decides-eqb}
use Rattle.std.proofs.lemmas.List.{map-append}
use Rattle.std.proofs.lemmas.List.Elements.{All-head, All-tail}
use Rattle.std.proofs.lemmas.List.Sorted.{IsPermutation-map}
use Rattle.edit_model.specs.Parts.{SurveyParts}
use Rattle.edit_model.specs.declared.value.Value.{Value}
use Rattle.edit_line.specs.Reductions.{IsIn}
use Rattle.edit_line.proofs.Members.{all-in, in-all, in-filter-out, in-map}
use Rattle.bound_cert.specs.Claims.{claims_donor}
use Rattle.donor_book.specs.Entries.{IsLegalHistory}
use Rattle.donor_book.specs.declared.claim.Entry.{Entry}
use Rattle.donor_search.specs.CleanRows.{row_at}
use Rattle.donor_search.specs.Places.{place_if, places_from}
use Rattle.edit_report.specs.Ends.{path_found}
use Rattle.edit_report.specs.declared.end.RowEnd.{RowEnd}
use Rattle.bound_cert.specs.declared.outcome.Outcome.{Outcome}
use Rattle.bound_cert.specs.declared.outcome.Outcome.TheVariants as outcome
use Rattle.class_books.specs.Histories.{history_in}
use Rattle.record_pieces.specs.Classes.{IsDonorIn, class_count}
use Rattle.record_pieces.specs.Needs.{AnswersNeeds, AreInRowOrder, IsRankingFor, IsRankingOf, Need, Ranks, class_found, need_in, needs_by, needs_of}
use Rattle.record_pieces.specs.Needs.{rows_claimed}
use Rattle.record_pieces.specs.Rests.{ArePiecesIn, IsPieceIn, class_field_in, rows_in, rows_of}
use Rattle.record_pieces.specs.declared.piece.Piece.{Piece}
use Rattle.record_pieces.specs.declared.rest.Rest.{Rest}
use Rattle.record_pieces.proofs.NeedLaws.{in-other-order, need-from, piece-at, rows-asked}
use Rattle.record_ends.specs.Givings.{EndsBy, IsEndIn, SaysIn, donor_in}
use Rattle.record_workers.specs.Workers.{AnswersInClasses, pieces_in}
use Rattle.record_editing.specs.Donations.{AreDonations, AreInOrder, ComeInClasses, IsClaimIn, IsRanked, claimers_of, claims_in, class_by, class_claimed}
use Rattle.record_editing.specs.Donations.{end_claims}
use Rattle.record_editing.specs.declared.terms.Terms.{Terms}
use Rattle.record_editing.proofs.OrderLaws.{class-in-order, first-alone}

-- The claims of all records, by their ends.

-- ---- two lists side by side

-- what stands beside an element
zip-get : {X Y : Type 0} (R : X → Y → Type 0) (xs : List X) (ys : List Y) → AllZip R xs ys → (k : ℕ) (x : X) → slice_get xs k ≡ Some x → (y : Y)
    × (slice_get ys k ≡ Some y) × R x y
zip-get R [] ys each k x at = absurd (cc)
zip-get R (a ∷ xs) [] each k x at = absurd each
zip-get R (a ∷ xs) (b ∷ ys) each zero x at = let same : a ≡ x = cc in (b, refl, subst (λ z. R z b) same each.0)
zip-get R (a ∷ xs) (b ∷ ys) each (suc k) x at = zip-get R xs ys each.1 k x at

-- and what it stands beside
zip-got : {X Y : Type 0} (R : X → Y → Type 0) (xs : List X) (ys : List Y) → AllZip R xs ys → (k : ℕ) (y : Y) → slice_get ys k ≡ Some y → (x : X)
    × (slice_get xs k ≡ Some x) × R x y
zip-got R [] [] each k y at = absurd (cc)
zip-got R [] (b ∷ ys) each k y at = absurd each
zip-got R (a ∷ xs) [] each k y at = absurd each
zip-got R (a ∷ xs) (b ∷ ys) each zero y at = let same : b ≡ y = cc in (a, refl, subst (R a) same each.0)
zip-got R (a ∷ xs) (b ∷ ys) each (suc k) y at = zip-got R xs ys each.1 k y at

-- the row of the piece at a place
row-at : (k n : ℕ) (pieces : List Piece) → rows_of pieces ≡ range_with_len k n → (i : ℕ) (p : Piece) → slice_get pieces i ≡ Some p → p.row_no ≡ k + i
row-at k n [] rows i p at = absurd (cc)
row-at k zero (first ∷ pieces) rows i p at = absurd (cc)
row-at k (suc n) (first ∷ pieces) rows zero p at = let own : first.row_no ≡ k = cc in let same : first ≡ p = cc in
    omega (arith, own, ap (λ (q : Piece). q.row_no) same)
row-at k (suc n) (first ∷ pieces) rows (suc i) p at =
    let rest : rows_of pieces ≡ range_with_len (k + 1) n = cc in
    let later = row-at (k + 1) n pieces rest i p at in omega (arith, later)

-- what holds beside the pieces of all rows holds beside the rows
rows-beside : (R : List Value → RowEnd → Type 0) (whole : List (List Value)) (k : ℕ) (rows : List (List Value))
    → ((j : ℕ) → j < length rows → row_at whole (k + j) ≡ row_at rows j)
    → (pieces : List Piece) → rows_of pieces ≡ range_with_len k (length rows) → (ends : List RowEnd)
    → AllZip (λ (p : Piece) (end : RowEnd). R (row_at whole p.row_no) end) pieces ends → AllZip R rows ends
rows-beside R whole k [] stands [] are [] each = tt
rows-beside R whole k [] stands [] are (e ∷ ends) each = absurd each
rows-beside R whole k [] stands (p ∷ pieces) are ends each = absurd (cc)
rows-beside R whole k (row ∷ rows) stands [] are ends each = absurd (cc)
rows-beside R whole k (row ∷ rows) stands (p ∷ pieces) are [] each = absurd each
rows-beside R whole k (row ∷ rows) stands (p ∷ pieces) are (e ∷ ends) each =
    let own : p.row_no ≡ k + 0 = (let same : p.row_no ≡ k = cc in omega (arith, same)) in
    let rest : rows_of pieces ≡ range_with_len (k + 1) (length rows) = cc in
    let here : row_at whole p.row_no ≡ row = ap (row_at whole) own ∙ stands 0 (omega arith) in (
      subst (λ (r : List Value). R r e) here each.0,
      rows-beside R whole (k + 1) rows
          (λ j lt. (let next : (k + 1) + j ≡ k + suc j = omega arith in ap (row_at whole) next ∙ stands (suc j) (omega (arith, lt)))) pieces rest ends each.1,
    )

-- what holds beside each element holds if it follows from what does
zip-weaker : {X Y : Type 0} (R S : X → Y → Type 0) (xs : List X) (ys : List Y) → ((x : X) (y : Y) → R x y → S x y) → AllZip R xs ys → AllZip S xs ys
zip-weaker R S [] [] turn each = tt
zip-weaker R S [] (y ∷ ys) turn each = absurd each
zip-weaker R S (x ∷ xs) [] turn each = absurd each
zip-weaker R S (x ∷ xs) (y ∷ ys) turn each = (turn x y each.0, zip-weaker R S xs ys turn each.1)

-- ---- the rankings of the records that claim

-- a record ranks donors by the path that was found for it where it claims one
ranks-by : (survey : SurveyParts) (rows : List (List Value)) (class_field : Option ℕ) (near : ℕ) (row : List Value) (found : Outcome)
    (ranking : Option (List ℕ)) → IsRankingFor survey rows class_field near row found ranking
    → Ranks (claims_donor found) survey rows class_field near row (path_found found) ranking
ranks-by survey rows class_field near row (outcome.Change path weight cert) ranking ranks = ranks
ranks-by survey rows class_field near row (outcome.Budget path work) ranking none = none
ranks-by survey rows class_field near row (outcome.Overflow path event) ranking none = none
ranks-by survey rows class_field near row (outcome.Contradictory cert) ranking none = none

-- ---- the claims, by the ends

module _ {F : Type 0} (rest : Rest F) (pieces : List Piece) (are : ArePiecesIn rest pieces) (ends : List RowEnd) where
  -- what holds of the ends of pieces holds of the ends of the records
  ends-beside : (R : List Value → RowEnd → Type 0) → AllZip (λ (p : Piece) (end : RowEnd). R (row_at (rows_in rest) p.row_no) end) pieces ends
      → AllZip R (rows_in rest) ends
  ends-beside R each = rows-beside R (rows_in rest) 0 (rows_in rest)
      (λ j lt. (let same : 0 + j ≡ j = omega arith in ap (row_at (rows_in rest)) same)) pieces are.rows ends each

  module _ (limit : ℕ) (history : List Entry) (answers : AnswersNeeds limit pieces history) (each : AllZip (EndsBy rest history) pieces ends) where
    -- what becomes of the records, in order
    pub ends-become : AllZip (IsEndIn rest) (rows_in rest) ends
    ends-become = ends-beside (IsEndIn rest)
        (zip-weaker (EndsBy rest history) (λ (p : Piece) (end : RowEnd). IsEndIn rest (row_at (rows_in rest) p.row_no) end) pieces ends
        (λ p end by. by.becomes) each)

    -- and what their ends say of them
    pub ends-say : AllZip (SaysIn rest) (rows_in rest) ends
    ends-say = ends-beside (SaysIn rest)
        (zip-weaker (EndsBy rest history) (λ (p : Piece) (end : RowEnd). SaysIn rest (row_at (rows_in rest) p.row_no) end) pieces ends
        (λ p end by. by.says) each)

    -- the records that need a donor are those that claim one
    needs-claim : (k n : ℕ) (ps : List Piece) (es : List RowEnd) → rows_of ps ≡ range_with_len k n → All (IsPieceIn rest) ps
        → AllZip (EndsBy rest history) ps es
        → map (λ (need : Need). need.row_no) (needs_of ps) ≡ places_from end_claims k es
    needs-claim k n [] [] rows all zip = refl
    needs-claim k n [] (e ∷ es) rows all zip = absurd zip
    needs-claim k n (p ∷ ps) [] rows all zip = absurd zip
    needs-claim k zero (p ∷ ps) (e ∷ es) rows all zip = absurd (cc)
    needs-claim k (suc n) (p ∷ ps) (e ∷ es) rows all zip =
        let own : p.row_no ≡ k = cc in
        let next : k + 1 ≡ suc k = omega arith in
        let later : rows_of ps ≡ range_with_len (k + 1) n = cc in
        let rest_is = needs-claim (suc k) n ps es (subst (λ (m : ℕ). rows_of ps ≡ range_with_len m n) next later) (All-tail (IsPieceIn rest) p ps all) zip.1 in
        let is = All-head (IsPieceIn rest) p ps all in
        let ranks = ranks-by rest.survey (rows_in rest) (class_field_in rest) rest.near (row_at (rows_in rest) p.row_no) p.outcome p.ranking is.ranking in
        let first = here (claims_donor p.outcome) p.ranking own ranks in
        let same : claims_donor p.outcome ≡ end_claims e = ap claims_donor (sym zip.0.outcome) in
        map-append (λ (need : Need). need.row_no) (needs_by p.row_no p.ranking) (needs_of ps)
        ∙ ap (λ (ns : List ℕ). ns ++ map (λ (need : Need). need.row_no) (needs_of ps)) (first ∙ ap (λ (b : Bool). place_if b k) same)
        ∙ ap (λ (ns : List ℕ). place_if (end_claims e) k ++ ns) rest_is
      where
        here : (b : Bool) (ranking : Option (List ℕ)) → p.row_no ≡ k
            → Ranks b rest.survey (rows_in rest) (class_field_in rest) rest.near (row_at (rows_in rest) p.row_no) (path_found p.outcome) ranking
            → map (λ (need : Need). need.row_no) (needs_by p.row_no ranking) ≡ place_if b k
        here true None own ranks = absurd ranks
        here true (Some r) own ranks = ap (λ (m : ℕ). m ∷ []) own
        here false None own ranks = refl
        here false (Some r) own ranks = absurd (cc)

    claimers : IsPermutation (claimers_of ends) (rows_claimed history)
    claimers = subst (λ (ns : List ℕ). IsPermutation ns (rows_claimed history)) (needs-claim 0 (length (rows_in rest)) pieces ends are.rows are.each each)
        (subst (λ (ns : List ℕ). IsPermutation (map (λ (need : Need). need.row_no) (needs_of pieces)) ns) (rows-asked history)
        (IsPermutation-map (λ (need : Need). need.row_no) (needs_of pieces) (map need_in history) answers.needs))

    -- each claim has the ranking of its record
    ranked-one : (e : Entry) → IsIn e history → IsRanked rest.survey (rows_in rest) (class_field_in rest) rest.near ends e
    ranked-one e there =
        let (p, in_pieces, row, ranking) = need-from (need_in e) pieces
        (in-other-order (needs_of pieces) (map need_in history) (need_in e) answers.needs (in-map need_in e history there)) in
        let at = piece-at 0 (length (rows_in rest)) pieces are.rows p in_pieces e.row_no (omega (arith, row)) in
        let (end, stands, becomes) = zip-get (EndsBy rest history) pieces ends each e.row_no p at in
        let is = in-all (IsPieceIn rest) p pieces are.each in_pieces in
        let of = by p (claims_donor p.outcome)
        (ranks-by rest.survey (rows_in rest) (class_field_in rest) rest.near (row_at (rows_in rest) p.row_no) p.outcome (Some e.ranking)
        (subst (IsRankingFor rest.survey (rows_in rest) (class_field_in rest) rest.near (row_at (rows_in rest) p.row_no) p.outcome) ranking is.ranking)) in
        let mine = subst (λ (n : ℕ). IsRankingOf rest.survey (rows_in rest) (class_field_in rest) rest.near (row_at (rows_in rest) n) (path_found p.outcome)
        e.ranking) row of in
        let told = subst (λ (o : Outcome). IsRankingOf rest.survey (rows_in rest) (class_field_in rest) rest.near (row_at (rows_in rest) e.row_no)
        (path_found o) e.ranking) (sym becomes.outcome) mine in
        subst (λ (o : Option RowEnd). IsSomeAnd o
        (λ (end : RowEnd). IsRankingOf rest.survey (rows_in rest) (class_field_in rest) rest.near (row_at (rows_in rest) e.row_no)
        (path_found end.proof.outcome) e.ranking)) (sym stands) told
      where
        by : (p : Piece) (b : Bool) → Ranks b rest.survey (rows_in rest) (class_field_in rest) rest.near (row_at (rows_in rest) p.row_no) (path_found p.outcome)
            (Some e.ranking)
            → IsRankingOf rest.survey (rows_in rest) (class_field_in rest) rest.near (row_at (rows_in rest) p.row_no) (path_found p.outcome) e.ranking
        by p true ranks = ranks
        by p false none = absurd (cc)

    ranked-all : (es : List Entry) → ((e : Entry) → IsIn e es → IsRanked rest.survey (rows_in rest) (class_field_in rest) rest.near ends e)
        → AllByRecursion (IsRanked rest.survey (rows_in rest) (class_field_in rest) rest.near ends) es
    ranked-all [] one = tt
    ranked-all (e ∷ es) one = (one e (inl refl), ranked-all es (λ x there. one x (inr there)))

    given : (i : ℕ) (end : RowEnd) → slice_get ends i ≡ Some end → end.donor ≡ donor_in history i
    given i end at =
        let (p, stands, becomes) = zip-got (EndsBy rest history) pieces ends each i end at in
        let row = row-at 0 (length (rows_in rest)) pieces are.rows i p stands in
        becomes.given ∙ ap (donor_in history) (let same : p.row_no ≡ i = omega (arith, row) in same)

    -- ---- classes

    abbrev key : Entry → ℕ
    key e = class_claimed rest.survey (rows_in rest) (class_field_in rest) ends e

    -- a claim for what a piece needs is in the class of the piece, and so are the donors that it ranks
    claim-in : (e : Entry) (p : Piece) → IsIn p pieces → p.row_no ≡ e.row_no → p.ranking ≡ Some e.ranking
        → IsClaimIn rest.survey (rows_in rest) (class_field_in rest) ends p.class e
    claim-in e p there row ranking =
        let at = piece-at 0 (length (rows_in rest)) pieces are.rows p there e.row_no (omega (arith, row)) in
        let (end, stands, becomes) = zip-get (EndsBy rest history) pieces ends each e.row_no p at in
        let is = in-all (IsPieceIn rest) p pieces are.each there in
        record {
          own = ap (class_by rest.survey (class_field_in rest) (row_at (rows_in rest) e.row_no)) stands
              ∙ ap (class_found rest.survey (class_field_in rest) (row_at (rows_in rest) e.row_no)) becomes.outcome
              ∙ ap (λ (n : ℕ). class_found rest.survey (class_field_in rest) (row_at (rows_in rest) n) p.outcome) (sym row)
              ∙ sym is.class;
          donors = subst (λ (o : Option (List ℕ)). IfSome o (All (IsDonorIn rest.survey (rows_in rest) (class_field_in rest) p.class))) ranking is.donors;
        }

    module _ (last : ℕ) (last_is : last ≡ class_count rest.survey.fields (class_field_in rest)) (alone : Type 0)
        (classes : AnswersInClasses limit last alone pieces history) where
      -- what a class's claim is for
      class-piece : (class : ℕ) → class < length classes.histories → (e : Entry) → IsIn e (history_in class classes.histories)
          → (p : Piece) × IsIn p pieces × (p.row_no ≡ e.row_no) × (p.ranking ≡ Some e.ranking) × (p.class ≡ class)
      class-piece class lt e there =
          let claims = history_in class classes.histories in
          let (p, in_class, row, ranking) = need-from (need_in e) (pieces_in class pieces)
          (in-other-order (needs_of (pieces_in class pieces)) (map need_in claims) (need_in e) (classes.each class lt).needs
          (in-map need_in e claims there)) in
          let (in_pieces, own) = in-filter-out (λ (q : Piece). q.class == class) p pieces in_class in
          (p, in_pieces, row, ranking, (Decides-eqb p.class class).0 own)

      claim-of : (class : ℕ) → class < length classes.histories → (e : Entry) → IsIn e (history_in class classes.histories)
          → IsClaimIn rest.survey (rows_in rest) (class_field_in rest) ends class e
      claim-of class lt e there =
          let (p, in_pieces, row, ranking, own) = class-piece class lt e there in
          subst (λ (c : ℕ). IsClaimIn rest.survey (rows_in rest) (class_field_in rest) ends c e) own (claim-in e p in_pieces row ranking)

      come-in-classes : ComeInClasses rest.survey (rows_in rest) (class_field_in rest) limit ends history
      come-in-classes = record {
        histories = classes.histories;
        as_many = classes.as_many ∙ ap (λ (n : ℕ). n + 1) last_is;
        one_after_other = classes.one_after_other;
        legal = λ class lt. (classes.each class lt).legal;
        of_class = λ class lt. all-in (IsClaimIn rest.survey (rows_in rest) (class_field_in rest) ends class) (history_in class classes.histories)
            (claim-of class lt);
      }

      -- a record that claims is in no other class than the first, where there is no class field
      first-class : (none : class_field_in rest ≡ None) (e : Entry) → IsIn e (history_in 1 classes.histories) → 1 < length classes.histories → ⊥
      first-class none e there lt =
          let (p, in_pieces, row, ranking, own) = class-piece 1 lt e there in
          let is = in-all (IsPieceIn rest) p pieces are.each in_pieces in
          let zero = by p.outcome (row_at (rows_in rest) p.row_no)
          (subst (IsRankingFor rest.survey (rows_in rest) (class_field_in rest) rest.near (row_at (rows_in rest) p.row_no) p.outcome)
          ranking is.ranking) in
          let first : p.class ≡ 0 = is.class ∙ ap (λ (f : Option ℕ). class_found rest.survey f (row_at (rows_in rest) p.row_no) p.outcome) none ∙ zero in
          absurd (omega (arith, own, first))
        where
          by : (o : Outcome) (row : List Value) → IsRankingFor rest.survey (rows_in rest) (class_field_in rest) rest.near row o (Some e.ranking)
              → class_found rest.survey None row o ≡ 0
          by (outcome.Change path weight cert) row ranks = refl
          by (outcome.Budget path work) row ranks = absurd (cc)
          by (outcome.Overflow path event) row ranks = absurd (cc)
          by (outcome.Contradictory cert) row ranks = absurd (cc)

      -- one worker alone claims in order
      pub alone-in-order : alone → AreInOrder rest.survey (rows_in rest) (class_field_in rest) ends history
      alone-in-order one = by (class_field_in rest) refl
        where
          by : (f : Option ℕ) → class_field_in rest ≡ f → AreInOrder rest.survey (rows_in rest) f ends history
          by None none =
              let many : length classes.histories ≡ 2 = classes.as_many
              ∙ ap (λ (n : ℕ). n + 1) (last_is ∙ ap (class_count rest.survey.fields) none) in
              subst AreInRowOrder (sym classes.one_after_other)
              (first-alone classes.histories many (λ e there. first-class none e there (omega (arith, many))) (classes.order one 0 (omega (arith, many))))
          by (Some field) some = λ class.
              subst (λ (es : List Entry). AreInRowOrder (claims_in rest.survey (rows_in rest) (Some field) ends class es)) (sym classes.one_after_other)
              (class-in-order (class_claimed rest.survey (rows_in rest) (Some field) ends) class 0 classes.histories
              (λ c lt e there. (let plus : 0 + c ≡ c = omega arith in
              subst (λ (f : Option ℕ). class_claimed rest.survey (rows_in rest) f ends e ≡ c) some (claim-of c lt e there).own ∙ sym plus))
              (classes.order one))

      -- the claims are the donations of the records that ended so
      pub donations-are : (terms : Terms) → terms.limit ≡ limit → terms.near ≡ rest.near → terms.class_field ≡ class_field_in rest
          → AreDonations rest.survey (rows_in rest) terms ends history
      donations-are terms limit_is near_is field_is = record {
        legal = subst (λ (n : ℕ). IsLegalHistory n history) (sym limit_is) answers.legal;
        claimers = claimers;
        ranked = rw (near_is, field_is) (ranked-all history ranked-one);
        classes = rw (limit_is, field_is) come-in-classes;
        given = given;
      }
