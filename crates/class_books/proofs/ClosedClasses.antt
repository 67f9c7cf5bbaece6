-- The history of a class's book, with the numbers of the whole file.
use Rattle.std.proofs.Common.{◌≡◌, ℕ, ◌+◌, ◌<◌, ◌≤◌, Bool, true, false, cond, List, [], ◌∷◌, map, length, take, get_or, Some, None, Option, refl, sym, ap, ◌∙◌}
use Rattle.std.proofs.Common.{subst, eqb, ⊎_elim, arith}
use Rattle.std.specs.Prelude.{option_map, slice_get}
use Rattle.std.specs.List.{All, AllByRecursion, IsDistinct, sum_by}
use Rattle.std.proofs.lemmas.Bool.{cases_lt, eqb-true}
use Rattle.std.proofs.lemmas.List.{length-map, map-append, take-map}
use Rattle.std.proofs.lemmas.List.Elements.{All-head, All-map, All-tail}
use Rattle.std.proofs.lemmas.List.Folds.{fold-map}
use Rattle.std.proofs.lemmas.List.Sums.{sum_by-cons}
use Rattle.std.proofs.lemmas.Option.{same_Some, slice_get-get_or, slice_get-map, slice_get_within}
use Rattle.std.proofs.lemmas.Simd.{map-map}
use Rattle.donor_book.specs.declared.claim.Entry.{Entry}
use Rattle.donor_book.specs.declared.claim.Won.{Won}
use Rattle.donor_book.specs.declared.rule.Placed.{Placed}
use Rattle.donor_book.specs.declared.rule.Terms.{Terms}
use Rattle.donor_book.specs.Claims.{IsDonor, IsWithin}
use Rattle.donor_book.specs.Entries.{HasReplyAfter, won_of, wins_of}
use Rattle.donor_book.specs.Passes.{AreCollected, BookName, IsClaim, IsSound, IsWhole, PassState, StartsWith, claimed_at, claims_at}
use Rattle.class_books.specs.Classes.{IsDonorOf, IsEntryIn, IsOfClass, IsWonIn}
use Rattle.class_books.specs.Histories.{AreCollectedIn}
use Rattle.class_books.specs.inner.Hands.{RanksWithin}
use Rattle.class_books.specs.inner.Numbers.{donor_with, entry_with, placed_with, row_with, rows_in, won_with}
use Rattle.class_books.proofs.Renumbered.{free-donor, in_file}
use Rattle.class_books.proofs.RowNumbers.{donor-of-class, row-of-class, same-number}

-- where a sum is not 0, one of its terms is not
some-summed : {X : Type 0} (f : X → ℕ) (P : X → Type 0) (xs : List X) → All P xs → 0 < sum_by f xs → (x : X) × (0 < f x) × P x
some-summed f P [] all some = absurd (omega (arith, some))
some-summed f P (x ∷ xs) all some = ⊎_elim
    (λ (here : 0 < f x). (x, here, All-head P x xs all))
    (λ (none : f x ≤ 0). some-summed f P xs (All-tail P x xs all) (let more = sum_by-cons f x xs in omega (arith, more, some, none)))
    (cases_lt 0 (f x))

counted : (b : Bool) → 0 < cond b 1 0 → b ≡ true
counted true some = refl
counted false some = absurd (omega (arith, some))

-- where a place is claimed, some claim of the passes stands there
some-claim : (P : Placed → Type 0) (passes : List PassState) (place : ℕ) → All (λ (p : PassState). All P p.mine) passes → 0 < claimed_at place passes
    → (m : Placed) × (m.place ≡ place) × P m
some-claim P passes place all some =
    let pass = some-summed (λ (p : PassState). claims_at place p.mine) (λ (p : PassState). All P p.mine) passes all some in
    let m = some-summed (λ (m : Placed). cond (eqb m.place place) 1 0) P pass.0.mine pass.2 pass.1 in
    (m.0, eqb-true m.0.place place (counted (eqb m.0.place place) m.1), m.2)

-- both of what holds of all claims of the passes
both-of : (P Q : Placed → Type 0) (passes : List PassState) → All (λ (p : PassState). All P p.mine) passes → All (λ (p : PassState). All Q p.mine) passes
    → All (λ (p : PassState). All (λ m. P m × Q m) p.mine) passes
both-of P Q passes first second i d lt k e less = (first i d lt k e less, second i d lt k e less)

-- an element of a changed list is a changed element
changed-at : {X Y : Type 0} (f : X → Y) (o : Option X) (y : Y) → option_map f o ≡ Some y → (x : X) × (o ≡ Some x) × (f x ≡ y)
changed-at f None y is = absurd (cc)
changed-at f (Some x) y is = (x, refl, same_Some (f x) y is)

-- ---- rows and donors of the class

-- of the class, so of the file
pub won-within : (class_of : List ℕ) (class : ℕ) (w : Won) → IsWonIn class_of class w → IsWithin (length class_of) (length class_of) w
won-within class_of class w is = (slice_get_within class_of w.row_no class is.0, donor w.reply is.1)
  where
    donor : (o : Option ℕ) → IsDonorOf class_of class o → IsDonor (length class_of) o
    donor None of = tt
    donor (Some d) of = slice_get_within class_of d class of

module _ (class_of : List ℕ) (class : ℕ) where
  -- how many rows the class has, and what its numbers stand for in the whole file
  abbrev size : ℕ
  size = length (rows_in class_of class)

  abbrev to_row : ℕ → ℕ
  to_row = row_with class_of class

  abbrev to_donor : Option ℕ → Option ℕ
  to_donor = donor_with class_of class

  abbrev to_won : Won → Won
  to_won = won_with class_of class

  abbrev to_entry : Entry → Entry
  to_entry = entry_with class_of class

  abbrev to_placed : Placed → Placed
  to_placed = placed_with class_of class

  pub won-of-class : (w : Won) → IsWithin size size w → IsWonIn class_of class (to_won w)
  won-of-class w is = (row-of-class class_of class w.row_no is.0, donor-of-class class_of class w.reply is.1)

  apart-with : (row : ℕ) (history : List Won) → row < size → AllByRecursion (λ y. eqb row y ≡ false) (map (λ (w : Won). w.row_no) history)
      → AllByRecursion (λ y. eqb (to_row row) y ≡ false) (map (λ (w : Won). w.row_no) (map to_won history))
  apart-with row [] lt all = tt
  apart-with row (w ∷ history) lt all = (same-number class_of class row w.row_no lt ∙ all.0, apart-with row history lt all.1)

  distinct-with : (history : List Won) → All (λ (w : Won). w.row_no < size) history → IsDistinct eqb (map (λ (w : Won). w.row_no) history)
      → IsDistinct eqb (map (λ (w : Won). w.row_no) (map to_won history))
  unfolding IsDistinct
  distinct-with [] all once = tt
  distinct-with (w ∷ history) all once = (
    apart-with w.row_no history (All-head (λ (w : Won). w.row_no < size) w history all) once.0,
    distinct-with history (All-tail (λ (w : Won). w.row_no < size) w history all) once.1,
  )

  module _ (book : BookName) (limit : ℕ) (passes : List PassState) (history : List Won)
      (rows : All (IsWithin size size) history) (once : IsDistinct eqb (map (λ (w : Won). w.row_no) history))
      (ranks : All (λ (p : PassState). All (RanksWithin size) p.mine) passes) (whole : IsWhole limit passes history) where
    -- each row and donor is of the class
    pub all-of-class : All (IsWonIn class_of class) (map to_won history)
    all-of-class = All-map (IsWonIn class_of class) to_won history (λ k d lt. won-of-class (get_or history k d) (rows k d lt))

    -- and of the file, and no row stands twice
    pub sound-with : (terms : Terms) → terms.donors ≡ length class_of → terms.rows ≡ length class_of → IsSound terms (map to_won history)
    sound-with terms donors_are rows_are = record {
      within = λ k d lt. subst (λ n. IsWithin n terms.rows (get_or (map to_won history) k d)) (sym donors_are)
          (subst (λ n. IsWithin (length class_of) n (get_or (map to_won history) k d)) (sym rows_are)
          (won-within class_of class (get_or (map to_won history) k d) (all-of-class k d lt)));
      once = distinct-with history (λ k d lt. (rows k d lt).0) once;
    }

    starts-with : (seen : List Won) → StartsWith history seen → StartsWith (map to_won history) (map to_won seen)
    starts-with seen is = (map to_won is.0, ap (map to_won) is.1 ∙ map-append to_won seen is.0)

    reply-with : (seen : List Won) (e : Entry) → All (λ d. d < size) e.ranking → HasReplyAfter limit seen e → HasReplyAfter limit (map to_won seen) (to_entry e)
    reply-with seen e all is = ap to_donor is ∙ sym (free-donor class_of class limit seen e.ranking all)

    claim-stands : (m : Placed) → RanksWithin size m → IsClaim limit history m → IsClaim limit (map to_won history) (to_placed m)
    claim-stands m all is = (
      slice_get-map to_won history m.place ∙ ap (option_map to_won) is.0,
      subst (λ (seen : List Won). HasReplyAfter limit seen (to_entry m.entry)) (sym (take-map to_won m.place history))
          (reply-with (take m.place history) m.entry all is.1),
    )

    claims-with : (place : ℕ) (mine : List Placed) → claims_at place (map to_placed mine) ≡ claims_at place mine
    claims-with place mine = fold-map (λ (n : ℕ) (m : Placed). n + cond (eqb m.place place) 1 0) to_placed 0 mine

    claimed-with : (place : ℕ) → claimed_at place (map (in_file class_of class book) passes) ≡ claimed_at place passes
    claimed-with place =
        fold-map (λ (n : ℕ) (p : PassState). n + claims_at place p.mine) (in_file class_of class book) 0 passes
        ∙ (λ i. sum_by (λ (p : PassState). claims-with place p.mine i) passes)

    -- it is made of the claims of the passes
    pub whole-with : IsWhole limit (map (in_file class_of class book) passes) (map to_won history)
    whole-with = record {
      seen = All-map (λ (p : PassState). StartsWith (map to_won history) p.seen) (in_file class_of class book) passes
          (λ k d lt. starts-with (get_or passes k d).seen (whole.seen k d lt));
      mine = All-map (λ (p : PassState). All (IsClaim limit (map to_won history)) p.mine) (in_file class_of class book) passes
          (λ k d lt. All-map (IsClaim limit (map to_won history)) to_placed (get_or passes k d).mine
          (λ i e less. claim-stands (get_or (get_or passes k d).mine i e) (ranks k d lt i e less) (whole.mine k d lt i e less)));
      once = λ place lt. claimed-with place ∙ whole.once place (let l = length-map history to_won in omega (arith, l, lt));
      no_other = λ place past. claimed-with place ∙ whole.no_other place (let l = length-map history to_won in omega (arith, l, past));
    }

    module _ (entries : List Entry) (is : AreCollected limit passes history entries) where
      as-many : length entries ≡ length history
      as-many = let l = length-map entries won_of in let same = ap length is.wins in omega (arith, l, same)

      -- each entry is a claim of some pass, so it ranks donors of the class
      ranks-of : (place : ℕ) (e : Entry) → slice_get entries place ≡ Some e → All (λ d. d < size) e.ranking
      ranks-of place e at =
          let lt : place < length history = (let within = slice_get_within entries place e at in let same = as-many in omega (arith, within, same)) in
          let one = whole.once place lt in
          let m = some-claim (λ m. RanksWithin size m × (slice_get entries m.place ≡ Some m.entry)) passes place
          (both-of (RanksWithin size) (λ m. slice_get entries m.place ≡ Some m.entry) passes ranks is.placed) (omega (arith, one)) in
          let same : m.0.entry ≡ e = same_Some m.0.entry e (sym m.2.1 ∙ ap (slice_get entries) m.1 ∙ at) in
          subst (λ (x : Entry). All (λ d. d < size) x.ranking) same m.2.0

      wins-with : wins_of (map to_entry entries) ≡ map to_won history
      wins-with =
          map-map won_of to_entry entries ∙ sym (map-map to_won won_of entries) ∙ ap (map to_won) is.wins

      replies-with : (place : ℕ) (e : Entry) → slice_get (map to_entry entries) place ≡ Some e
          → HasReplyAfter limit (take place (wins_of (map to_entry entries))) e
      replies-with place e at =
          let from = changed-at to_entry (slice_get entries place) e (sym (slice_get-map to_entry entries place) ∙ at) in
          let reply = reply-with (take place (wins_of entries)) from.0 (ranks-of place from.0 from.1) (is.legal.replies place from.0 from.1) in
          let seen : map to_won (take place (wins_of entries)) ≡ take place (wins_of (map to_entry entries)) =
          sym (take-map to_won place (wins_of entries)) ∙ ap (take place) (ap (map to_won) is.wins ∙ sym wins-with) in
          subst (λ (x : Entry). HasReplyAfter limit (take place (wins_of (map to_entry entries))) x) from.2
          (subst (λ (h : List Won). HasReplyAfter limit h (to_entry from.0)) seen reply)

      placed-at : (p : PassState) → All (λ (m : Placed). slice_get entries m.place ≡ Some m.entry) p.mine
          → All (λ (m : Placed). slice_get (map to_entry entries) m.place ≡ Some m.entry) (map to_placed p.mine)
      placed-at p all = All-map (λ (m : Placed). slice_get (map to_entry entries) m.place ≡ Some m.entry) to_placed p.mine
          (λ k d lt. slice_get-map to_entry entries (get_or p.mine k d).place ∙ ap (option_map to_entry) (all k d lt))

      entry-of-class : (k : ℕ) (d : Entry) → k < length entries → IsEntryIn class_of class (to_entry (get_or entries k d))
      entry-of-class k d lt =
          let e = get_or entries k d in
          let at = slice_get-get_or entries k d lt in
          let won : slice_get history k ≡ Some (won_of e) = sym (ap (λ (h : List Won). slice_get h k) is.wins) ∙ slice_get-map won_of entries k
          ∙ ap (option_map won_of) at in
          let less = slice_get_within history k (won_of e) won in
          let same : get_or history k (won_of e) ≡ won_of e = same_Some (get_or history k (won_of e)) (won_of e)
          (sym (slice_get-get_or history k (won_of e) less) ∙ won) in
          let row = subst (IsWithin size size) same (rows k (won_of e) less) in
          let all = ranks-of k e at in (
            row-of-class class_of class e.row_no row.0,
            All-map (IsOfClass class_of class) to_row e.ranking (λ i x small. row-of-class class_of class (get_or e.ranking i x) (all i x small)),
          )

      -- and the claims are a legal history of the class
      pub collected-with : AreCollectedIn class_of class limit (map (in_file class_of class book) passes) (map to_won history) (map to_entry entries)
      collected-with = record {
        collected = record {
          wins = wins-with;
          placed = All-map (λ (p : PassState). All (λ (m : Placed). slice_get (map to_entry entries) m.place ≡ Some m.entry) p.mine)
              (in_file class_of class book) passes
              (λ k d lt. placed-at (get_or passes k d) (is.placed k d lt));
          legal = record {
            replies = replies-with;
            once = subst (λ (h : List Won). IsDistinct eqb (map (λ (w : Won). w.row_no) h)) (sym wins-with)
                (distinct-with history (λ k d lt. (rows k d lt).0) once);
          };
        };
        of_class = All-map (IsEntryIn class_of class) to_entry entries (λ k d lt. entry-of-class k d lt);
      }
