-- The histories of classes, one after the other, are one legal history.
use Rattle.std.proofs.Common.{◌≡◌, ◌≢◌, ℕ, zero, suc, ◌+◌, ◌<◌, ◌≤◌, Bool, true, false, cond, nat_lt, List, [], ◌∷◌, ◌++◌, map, length, take, drop, get_or}
use Rattle.std.proofs.Common.{Some, None, Option, refl, sym, ap, ◌∙◌, subst, eqb, arith, append_assoc, append-nil, zero-add}
use Rattle.std.specs.Prelude.{slice_get}
use Rattle.std.specs.List.{All, IsDistinct, find}
use Rattle.std.specs.Option.{option_or}
use Rattle.std.proofs.Math.Seq.{take-suc}
use Rattle.std.proofs.lemmas.Bool.{ne_eqb}
use Rattle.std.proofs.lemmas.List.{drop_more, get_or-map, length-map, map-append, take-append-drop, take-map, take_all}
use Rattle.std.proofs.lemmas.List.Elements.{All-append, All-head, All-map, All-nil, All-tail, All-weaker}
use Rattle.std.proofs.lemmas.List.Folds.{find-append}
use Rattle.std.proofs.lemmas.List.Sums.{sum_by-append, sum_by-cons}
use Rattle.std.proofs.lemmas.Option.{get_or_from_slice_get, same_Some, slice_get-get_or}
use Rattle.donor_book.specs.declared.claim.Entry.{Entry}
use Rattle.donor_book.specs.declared.claim.Won.{Won}
use Rattle.donor_book.specs.Claims.{claim_of, first_free, gave, uses_of}
use Rattle.donor_book.specs.Entries.{IsLegalHistory, won_of, wins_of}
use Rattle.donor_book.proofs.IndexLaws.{none_before}
use Rattle.donor_book.proofs.LegalLaws.{legal_fresh, legal_push}
use Rattle.class_books.specs.Classes.{IsDonorOf, IsEntryIn, IsOfClass, IsWonIn}
use Rattle.class_books.specs.Histories.{JoinedLaw, history_in, joined}

-- a donor that is found is of the class
found-of-class : (class_of : List ℕ) (class : ℕ) (test : ℕ → Bool) (ranking : List ℕ) → All (IsOfClass class_of class) ranking
    → IsDonorOf class_of class (find test ranking)
found-of-class class_of class test [] all = tt
found-of-class class_of class test (d ∷ ranking) all =
    either_way (test d) (All-head (IsOfClass class_of class) d ranking all)
    (found-of-class class_of class test ranking (All-tail (IsOfClass class_of class) d ranking all))
  where
    either_way : (b : Bool) → IsOfClass class_of class d → IsDonorOf class_of class (find test ranking)
        → IsDonorOf class_of class (cond b (Some d) (find test ranking))
    either_way true here rest = here
    either_way false here rest = rest

-- a legal history of a class gives its donors alone
wins-of-class : (class_of : List ℕ) (class limit : ℕ) (history : List Entry) → IsLegalHistory limit history → All (IsEntryIn class_of class) history
    → All (IsWonIn class_of class) (wins_of history)
wins-of-class class_of class limit history legal all =
    All-map (IsWonIn class_of class) won_of history (λ k d lt. let e = get_or history k d in (
      (all k d lt).0,
      subst (IsDonorOf class_of class) (sym (legal.replies k e (slice_get-get_or history k d lt)))
          (found-of-class class_of class (λ donor. nat_lt (uses_of donor (take k (wins_of history))) limit) e.ranking (all k d lt).1),
    ))

-- ---- a row and a donor of another class

module _ (class_of : List ℕ) (class other : ℕ) (apart : class ≢ other) where
  not-the-same : (a b : ℕ) → IsOfClass class_of other a → IsOfClass class_of class b → a ≡ b → ⊥
  not-the-same a b of here is = apart (same_Some class other (sym here ∙ sym (ap (slice_get class_of) is) ∙ of))

  not-given : (donor : ℕ) (reply : Option ℕ) → IsOfClass class_of other donor → IsDonorOf class_of class reply → gave donor reply ≡ false
  not-given donor None of here = refl
  not-given donor (Some d) of here = ne_eqb donor d (not-the-same donor d of here)

  -- the donor is not given
  unused : (donor : ℕ) (history : List Won) → IsOfClass class_of other donor → All (IsWonIn class_of class) history → uses_of donor history ≡ 0
  unused donor [] of all = refl
  unused donor (w ∷ history) of all =
      let none : cond (gave donor w.reply) 1 0 ≡ 0 = ap (λ b. cond b 1 0) (not-given donor w.reply of (All-head (IsWonIn class_of class) w history all).1) in
      let rest = unused donor history of (All-tail (IsWonIn class_of class) w history all) in
      let more = sum_by-cons (λ (w : Won). cond (gave donor w.reply) 1 0) w history in
      more ∙ ap (λ n. n + uses_of donor history) none ∙ ap (λ n. 0 + n) rest

  -- the row does not claim
  unclaimed : (row : ℕ) (history : List Won) → IsOfClass class_of other row → All (IsWonIn class_of class) history → claim_of row history ≡ None
  unclaimed row [] of all = refl
  unclaimed row (w ∷ history) of all =
      let none : eqb w.row_no row ≡ false = ne_eqb w.row_no row
      (λ is. not-the-same row w.row_no of (All-head (IsWonIn class_of class) w history all).0 (sym is)) in
      ap (λ b. cond b (Some w) (claim_of row history)) none ∙ unclaimed row history of (All-tail (IsWonIn class_of class) w history all)

-- ---- one history behind another

-- the donor has no uses in the first history
abbrev IsNew : List Won → Entry → Type 0
IsNew first e = (claim_of e.row_no first ≡ None) × All (λ donor. uses_of donor first ≡ 0) e.ranking

-- so the first history leaves free what the second one does
free-behind : (limit : ℕ) (first second : List Won) (ranking : List ℕ) → All (λ donor. uses_of donor first ≡ 0) ranking
    → first_free limit (first ++ second) ranking ≡ first_free limit second ranking
free-behind limit first second [] all = refl
free-behind limit first second (d ∷ ranking) all =
    let none : uses_of d first ≡ 0 = All-head (λ (donor : ℕ). uses_of donor first ≡ 0) d ranking all in
    let uses : uses_of d (first ++ second) ≡ uses_of d second = sum_by-append (λ (w : Won). cond (gave d w.reply) 1 0) first second
    ∙ ap (λ n. n + uses_of d second) none ∙ zero-add (uses_of d second) in
    let rest = free-behind limit first second ranking (All-tail (λ (donor : ℕ). uses_of donor first ≡ 0) d ranking all) in
    λ i. cond (nat_lt (uses i) limit) (Some d) (rest i)

module _ (limit : ℕ) (first second : List Entry) (legal_first : IsLegalHistory limit first) (legal_second : IsLegalHistory limit second)
    (new : All (IsNew (wins_of first)) second) where
  as_many : length (wins_of second) ≡ length second
  as_many = length-map second won_of

  -- the row of an entry has not claimed before it
  none-before : (n : ℕ) (e : Entry) → n < length second → won_of e ≡ get_or (wins_of second) n (won_of e) → claim_of e.row_no (take n (wins_of second)) ≡ None
  none-before n e lt is =
      let less : n < length (wins_of second) = (let same = as_many in omega (arith, same, lt)) in
      let split : wins_of second ≡ take n (wins_of second) ++ won_of e ∷ drop (n + 1) (wins_of second) =
      sym (take-append-drop n (wins_of second))
      ∙ ap (λ (l : List Won). take n (wins_of second) ++ l)
      (drop_more (wins_of second) n (won_of e) less ∙ ap (λ (w : Won). w ∷ drop (n + 1) (wins_of second)) (sym is)) in
      none_before (take n (wins_of second)) (drop (n + 1) (wins_of second)) (won_of e)
      (subst (λ (l : List Won). IsDistinct eqb (map (λ (w : Won). w.row_no) l)) split legal_second.once)

  entry-at : (n : ℕ) (e : Entry) → n < length second → slice_get second n ≡ Some e → get_or second n e ≡ e
  entry-at n e lt at = get_or_from_slice_get second n e e at

  won-at : (n : ℕ) (e : Entry) → n < length second → slice_get second n ≡ Some e → won_of e ≡ get_or (wins_of second) n (won_of e)
  won-at n e lt at = ap won_of (sym (entry-at n e lt at)) ∙ sym (get_or-map won_of second n e (won_of e) lt)

  -- up to each entry of the second one
  legal-upto : (n : ℕ) → n ≤ length second → IsLegalHistory limit (first ++ take n second)
  legal-upto zero le = subst (IsLegalHistory limit) (sym (append-nil first)) legal_first
  legal-upto (suc n) le =
      let lt : n < length second = omega (arith, le) in
      let e = get_or second n (record { row_no = 0; ranking = []; reply = None }) in
      let at = slice_get-get_or second n (record { row_no = 0; ranking = []; reply = None }) lt in
      let more : first ++ take (suc n) second ≡ (first ++ take n second) ++ e ∷ [] =
      ap (λ (l : List Entry). first ++ l) (take-suc second n (record { row_no = 0; ranking = []; reply = None }) lt)
      ∙ sym (append_assoc first (take n second) (e ∷ [])) in
      subst (IsLegalHistory limit) (sym more) (push n e lt at (legal-upto n (omega (arith, le))))
    where
      push : (n : ℕ) (e : Entry) → n < length second → slice_get second n ≡ Some e → IsLegalHistory limit (first ++ take n second)
          → IsLegalHistory limit ((first ++ take n second) ++ e ∷ [])
      push n e lt at legal =
          let apart : IsNew (wins_of first) e = subst (IsNew (wins_of first)) (entry-at n e lt at) (new n e lt) in
          let wins : wins_of (first ++ take n second) ≡ wins_of first ++ take n (wins_of second) =
          map-append won_of first (take n second) ∙ ap (λ (l : List Won). wins_of first ++ l) (sym (take-map won_of n second)) in
          legal_push limit (first ++ take n second) e legal
          (ap (claim_of e.row_no) wins ∙ find-append (λ (w : Won). eqb w.row_no e.row_no) (wins_of first) (take n (wins_of second))
          ∙ ap (λ o. option_or o (claim_of e.row_no (take n (wins_of second)))) apart.0 ∙ none-before n e lt (won-at n e lt at))
          (legal_second.replies n e at ∙ sym (free-behind limit (wins_of first) (take n (wins_of second)) e.ranking apart.1)
          ∙ ap (λ (h : List Won). first_free limit h e.ranking) (sym wins))

  pub legal-behind : IsLegalHistory limit (first ++ second)
  legal-behind = subst (λ (l : List Entry). IsLegalHistory limit (first ++ l)) (take_all (length second) second (omega arith))
      (legal-upto (length second) (omega arith))

-- ---- the histories of all classes

-- the entry is of this class or one behind it
record IsLater (class_of : List ℕ) (class : ℕ) (e : Entry) : Type 0 where
  own : ℕ
  later : class ≤ own
  of_class : IsEntryIn class_of own e

joined-from : (class_of : List ℕ) (limit class : ℕ) (histories : List (List Entry))
    → ((j : ℕ) → j < length histories → IsLegalHistory limit (history_in j histories))
    → ((j : ℕ) → j < length histories → All (IsEntryIn class_of (class + j)) (history_in j histories)) → IsLegalHistory limit (joined histories)
    × All (IsLater class_of class) (joined histories)
joined-from class_of limit class [] legal of = (legal_fresh limit, All-nil (IsLater class_of class))
joined-from class_of limit class (history ∷ histories) legal of =
    let rest = joined-from class_of limit (suc class) histories (λ j lt. legal (suc j) (omega (arith, lt)))
    (λ j lt. let same : class + suc j ≡ suc class + j = omega arith in subst (λ c. All (IsEntryIn class_of c) (history_in j histories)) same
    (of (suc j) (omega (arith, lt)))) in
    let same : class + 0 ≡ class = omega arith in
    let here = subst (λ c. All (IsEntryIn class_of c) history) same (of 0 (omega arith)) in
    let first = legal 0 (omega arith) in
    let wins = wins-of-class class_of class limit history first here in
    let new : All (IsNew (wins_of history)) (joined histories) = All-weaker (IsLater class_of (suc class)) (IsNew (wins_of history))
    (λ e is. let le = is.later in let apart : class ≢ is.own = (λ same. omega (arith, le, same)) in (
      unclaimed class_of class is.own apart e.row_no (wins_of history) is.of_class.0 wins,
      (λ k d lt. unused class_of class is.own apart (get_or e.ranking k d) (wins_of history) (is.of_class.1 k d lt) wins),
    )) (joined histories) rest.1 in (
      legal-behind limit history (joined histories) first rest.0 new,
      All-append (IsLater class_of class) history (joined histories)
          (All-weaker (IsEntryIn class_of class) (IsLater class_of class) (λ e is. record { own = class; later = omega arith; of_class = is }) history here)
          (All-weaker (IsLater class_of (suc class)) (IsLater class_of class)
          (λ e is. let le = is.later in record { own = is.own; later = omega (arith, le); of_class = is.of_class }) (joined histories) rest.1),
    )

pub joined-law : JoinedLaw
joined-law class_of limit histories is =
    (joined-from class_of limit 0 histories is.legal
    (λ j lt. let same : j ≡ 0 + j = omega arith in subst (λ c. All (IsEntryIn class_of c) (history_in j histories)) same (is.of_class j lt))).0
