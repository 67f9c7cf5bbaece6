-- The tables of the classes, and one row more.
use Rattle.std.proofs.Common.{◌≡◌, ℕ, suc, ◌+◌, ◌<◌, ◌≤◌, Bool, true, false, cond, List, [], ◌∷◌, ◌++◌, map, length, take, drop, get_or, set, Some, Option}
use Rattle.std.proofs.Common.{refl, sym, ap, ◌∙◌, subst, eqb, ⊎_elim, arith, append-nil, length-append, zero-add}
use Rattle.std.specs.Prelude.{slice_get}
use Rattle.std.specs.List.{All}
use Rattle.std.proofs.lemmas.Bool.{cases_eq, cases_lt, eq-eqb, ne_eqb}
use Rattle.std.proofs.lemmas.List.{drop_more, get_or-map, get_or-set_other, get_or-set_same, get_or_append_left, get_or_at, get_or_default, get_or_push}
use Rattle.std.proofs.lemmas.List.{length-drop, length-map, length-set, length-take-le, map-set, map_push, take_more, take_more_set}
use Rattle.std.proofs.lemmas.List.Edits.{map_over_more}
use Rattle.std.proofs.lemmas.List.Elements.{All-push}
use Rattle.std.proofs.lemmas.Option.{get_or_from_slice_get, slice_get-get_or, slice_get_within}
use Rattle.donor_book.specs.declared.claim.Won.{Won}
use Rattle.class_books.specs.Classes.{IsOfClass}
use Rattle.class_books.specs.inner.Numbers.{AreNumbered, AreNumbersOf, donor_with, row_with, rows_from, rows_in, won_with}
use Rattle.class_books.proofs.RowNumbers.{rows-push}

-- ---- the rows of a class

few-step : (row : ℕ) (b : Bool) (rows : List ℕ) (n : ℕ) → length rows ≤ n → length (cond b (row ∷ rows) rows) ≤ suc n
few-step row true rows n le = omega (arith, le)
few-step row false rows n le = omega (arith, le)

-- are no more than there are
pub rows-few : (class row : ℕ) (class_of : List ℕ) → length (rows_from class row class_of) ≤ length class_of
rows-few class row [] = omega arith
rows-few class row (x ∷ class_of) = few-step row (eqb x class) (rows_from class (suc row) class_of) (length class_of) (rows-few class (suc row) class_of)

-- they are read
pub rows-read : {V : Type 0} (f : V → List ℕ) (class_of numbers : List ℕ) (rows : List V) (class : ℕ) (x : V) → AreNumbered class_of numbers (map f rows)
    → class < length rows → x ≡ get_or rows class x → f x ≡ rows_in class_of class
rows-read f class_of numbers rows class x are lt is =
    ap f is ∙ sym (get_or-map f rows class x [] lt) ∙ are.rows_are class (let l = length-map rows f in omega (arith, l, lt))

-- ---- one row more

-- what is seen at a place is seen there in a longer list
get-longer : (xs ys : List ℕ) (k x : ℕ) → slice_get xs k ≡ Some x → slice_get (xs ++ ys) k ≡ Some x
get-longer xs ys k x is =
    let lt = slice_get_within xs k x is in
    slice_get-get_or (xs ++ ys) k x (let l = length-append xs ys in omega (arith, l, lt))
    ∙ ap Some (get_or_append_left xs ys x k lt ∙ get_or_from_slice_get xs k x x is)

get-last : (xs : List ℕ) (x k : ℕ) → length xs ≡ k → slice_get (xs ++ x ∷ []) k ≡ Some x
get-last xs x k is = slice_get-get_or (xs ++ x ∷ []) k x (let l = length-append xs (x ∷ []) in omega (arith, l, is)) ∙ ap Some (get_or_push xs x x k is)

rows-own : (class_of : List ℕ) (c : ℕ) → rows_in (class_of ++ c ∷ []) c ≡ rows_in class_of c ++ length class_of ∷ []
rows-own class_of c =
    rows-push c 0 class_of c ∙ ap (λ b. rows_in class_of c ++ cond b ((0 + length class_of) ∷ []) []) (eq-eqb c c refl)
    ∙ ap (λ n. rows_in class_of c ++ n ∷ []) (zero-add (length class_of))

rows-other : (class_of : List ℕ) (c class : ℕ) → (class ≡ c → ⊥) → rows_in (class_of ++ c ∷ []) class ≡ rows_in class_of class
rows-other class_of c class apart =
    rows-push class 0 class_of c ∙ ap (λ b. rows_in class_of class ++ cond b ((0 + length class_of) ∷ []) []) (ne_eqb c class (λ is. apart (sym is)))
    ∙ append-nil (rows_in class_of class)

module _ (class_of numbers : List ℕ) (rows : List (List ℕ)) (c : ℕ) (lt : c < length rows) (are : AreNumbered class_of numbers rows) where
  -- the rows of the class with the new one
  abbrev own : List ℕ
  own = get_or rows c [] ++ length class_of ∷ []

  rows-more : (class : ℕ) → class < length (set rows c own) → get_or (set rows c own) class [] ≡ rows_in (class_of ++ c ∷ []) class
  rows-more class less = ⊎_elim
      (λ (same : class ≡ c). subst (λ k. get_or (set rows c own) k [] ≡ rows_in (class_of ++ c ∷ []) k) (sym same)
      (get_or-set_same rows c own [] lt ∙ ap (λ (l : List ℕ). l ++ length class_of ∷ []) (are.rows_are c lt) ∙ sym (rows-own class_of c)))
      (λ (apart : class ≡ c → ⊥). get_or-set_other rows c class own [] apart ∙ are.rows_are class (let l = length-set rows c own in omega (arith, l, less))
      ∙ sym (rows-other class_of c class apart))
      (cases_eq class c)

  -- a row before the new one
  number-before : (row class : ℕ) → row < length class_of → IsOfClass (class_of ++ c ∷ []) class row
      → slice_get (rows_in (class_of ++ c ∷ []) class) (get_or (numbers ++ length (get_or rows c []) ∷ []) row 0) ≡ Some row
  number-before row class less of =
      let was : IsOfClass class_of class row = slice_get-get_or class_of row c less
      ∙ ap Some (sym (get_or_append_left class_of (c ∷ []) c row less) ∙ get_or_from_slice_get (class_of ++ c ∷ []) row class c of) in
      let number = get_or_append_left numbers (length (get_or rows c []) ∷ []) 0 row (let m = are.as_many in omega (arith, m, less)) in
      ap (slice_get (rows_in (class_of ++ c ∷ []) class)) number
      ∙ ap (λ (l : List ℕ). slice_get l (get_or numbers row 0)) (rows-push class 0 class_of c)
      ∙ get-longer (rows_in class_of class) (cond (eqb c class) ((0 + length class_of) ∷ []) []) (get_or numbers row 0) row (are.numbered row class was)

  -- the new one
  number-own : (row class : ℕ) → row ≡ length class_of → IsOfClass (class_of ++ c ∷ []) class row
      → slice_get (rows_in (class_of ++ c ∷ []) class) (get_or (numbers ++ length (get_or rows c []) ∷ []) row 0) ≡ Some row
  number-own row class at of =
      let same : c ≡ class = sym (get_or_push class_of c c row (sym at)) ∙ get_or_from_slice_get (class_of ++ c ∷ []) row class c of in
      let number = get_or_push numbers (length (get_or rows c [])) 0 row (are.as_many ∙ sym at) in
      let last : slice_get (rows_in (class_of ++ c ∷ []) c) (length (get_or rows c [])) ≡ Some (length class_of) =
      ap (λ (l : List ℕ). slice_get l (length (get_or rows c []))) (rows-own class_of c)
      ∙ get-last (rows_in class_of c) (length class_of) (length (get_or rows c [])) (ap length (sym (are.rows_are c lt))) in
      ap (slice_get (rows_in (class_of ++ c ∷ []) class)) number
      ∙ subst (λ k. slice_get (rows_in (class_of ++ c ∷ []) k) (length (get_or rows c [])) ≡ Some row) same (last ∙ ap Some (sym at))

  pub numbered-push : AreNumbered (class_of ++ c ∷ []) (numbers ++ length (get_or rows c []) ∷ []) (set rows c own)
  numbered-push = record {
    as_many = (let l = length-append numbers (length (get_or rows c []) ∷ []) in let k = length-append class_of (c ∷ []) in let m = are.as_many in omega
        (arith, l, k, m));
    rows_are = rows-more;
    numbered = λ row class of. ⊎_elim (λ (less : row < length class_of). number-before row class less of)
        (λ (past : length class_of ≤ row). number-own row class
        (let within = slice_get_within (class_of ++ c ∷ []) row class of in let l = length-append class_of (c ∷ []) in omega (arith, within, l, past)) of)
        (cases_lt row (length class_of));
  }

-- the same of tables of any kind, where the class's own rows are written back
pub numbered-turn : {V : Type 0} (f : V → List ℕ) (class_of numbers more : List ℕ) (rows : List V) (i n : ℕ) (x v : V) → i < length class_of
    → get_or class_of i 0 < length rows → x ≡ get_or rows (get_or class_of i 0) x → n ≡ length (f x) → more ≡ numbers ++ n ∷ [] → f v ≡ f x ++ i ∷ []
    → AreNumbered (take i class_of) numbers (map f rows) → AreNumbered (take (i + 1) class_of) more (map f (set rows (get_or class_of i 0) v))
numbered-turn f class_of numbers more rows i n x v lt within was n_is more_is v_is are =
    let c = get_or class_of i 0 in
    let own : get_or (map f rows) c [] ≡ f x = get_or-map f rows c x [] within ∙ ap f (sym was) in
    let size : length (take i class_of) ≡ i = length-take-le i class_of (omega (arith, lt)) in
    let at = numbered-push (take i class_of) numbers (map f rows) c (let l = length-map rows f in omega (arith, l, within)) are in
    let numbers_are : numbers ++ length (get_or (map f rows) c []) ∷ [] ≡ more = ap (λ k. numbers ++ k ∷ []) (ap length own ∙ sym n_is) ∙ sym more_is in
    let value : get_or (map f rows) c [] ++ length (take i class_of) ∷ [] ≡ f v = (λ j. own j ++ size j ∷ []) ∙ sym v_is in
    let rows_are : set (map f rows) c (get_or (map f rows) c [] ++ length (take i class_of) ∷ []) ≡ map f (set rows c v) = ap (set (map f rows) c) value
    ∙ sym (map-set f rows c v) in
    subst (λ (l : List ℕ). AreNumbered l more (map f (set rows c v))) (sym (take_more class_of i 0 lt))
    (subst (λ (l : List ℕ). AreNumbered (take i class_of ++ c ∷ []) l (map f (set rows c v))) numbers_are
    (subst (λ (l : List (List ℕ)). AreNumbered (take i class_of ++ c ∷ []) (numbers ++ length (get_or (map f rows) c []) ∷ []) l) rows_are at))

-- before the first row
pub numbered-none : (rows : List (List ℕ)) → All (λ l. l ≡ []) rows → AreNumbered [] [] rows
numbered-none rows all = record { as_many = refl; rows_are = λ class lt. all class [] lt; numbered = λ row class of. absurd (cc) }

-- ---- a history

-- one claim more, with the numbers of the whole file
pub history-more : (class_of : List ℕ) (class : ℕ) (rows : List ℕ) (old now : List Won) (i : ℕ) (d : Won) (reply : Option ℕ) → rows ≡ rows_in class_of class
    → All (λ (w : Won). w.row_no < length (rows_in class_of class)) old → i < length old
    → now ≡ map (won_with class_of class) (take i old) ++ drop i old → reply ≡ donor_with class_of class (get_or now i d).reply
    → set now i (record { row_no = get_or rows (get_or now i d).row_no 0; reply = reply }) ≡ map (won_with class_of class) (take (i + 1) old) ++ drop
    (i + 1) old
history-more class_of class rows old now i d reply rows_are within lt is reply_is =
    let size : length (map (won_with class_of class) (take i old)) ≡ i = length-map (take i old) (won_with class_of class)
    ∙ length-take-le i old (omega (arith, lt)) in
    let now_is : now ≡ map (won_with class_of class) (take i old) ++ get_or old i d ∷ drop (i + 1) old = is
    ∙ ap (λ (l : List Won). map (won_with class_of class) (take i old) ++ l) (drop_more old i d lt) in
    let here : get_or now i d ≡ get_or old i d = ap (λ (l : List Won). get_or l i d) now_is
    ∙ get_or_at (map (won_with class_of class) (take i old)) (get_or old i d) (drop (i + 1) old) d i size in
    let small : (get_or now i d).row_no < length (rows_in class_of class) = subst (λ (w : Won). w.row_no < length (rows_in class_of class)) (sym here)
    (within i d lt) in
    let row : get_or rows (get_or now i d).row_no 0 ≡ row_with class_of class (get_or now i d).row_no =
    ap (λ (l : List ℕ). get_or l (get_or now i d).row_no 0) rows_are
    ∙ get_or_default (rows_in class_of class) (get_or now i d).row_no 0 (length class_of) small in
    let long : i < length now = (let l = ap length is in let m = length-append (map (won_with class_of class) (take i old))
    (drop i old) in let k = length-drop i old in omega (arith, l, m, k, size, lt)) in
    (λ j. set now i (record { row_no = row j; reply = reply_is j }))
    ∙ map_over_more (won_with class_of class) old now i (get_or now i d) lt is (get_or_default now i d (get_or now i d) long)

-- ---- the numbers of some rows

pub numbers-none : (class_of : List ℕ) (class : ℕ) → AreNumbersOf class_of class [] []
numbers-none class_of class = record { rows_are = refl; within = λ k d lt. absurd (omega (arith, lt)) }

pub numbers-more : (class_of : List ℕ) (class : ℕ) (rows numbers : List ℕ) (i y : ℕ) → i < length rows → i < length numbers
    → AreNumbersOf class_of class (take i rows) (take i numbers) → slice_get (rows_in class_of class) y ≡ Some (get_or rows i 0)
    → AreNumbersOf class_of class (take (i + 1) rows) (take (i + 1) (set numbers i y))
numbers-more class_of class rows numbers i y lt less are is =
    let more = take_more_set numbers i y less in
    record {
      rows_are = ap (map (row_with class_of class)) more ∙ map_push (row_with class_of class) (take i numbers) y
          ∙ (λ j. are.rows_are j ++ get_or_from_slice_get (rows_in class_of class) y (get_or rows i 0) (length class_of) is j ∷ [])
          ∙ sym (take_more rows i 0 lt);
      within = subst (All (λ number. number < length (rows_in class_of class))) (sym more)
          (All-push (λ (number : ℕ). number < length (rows_in class_of class)) (take i numbers) y are.within
          (slice_get_within (rows_in class_of class) y (get_or rows i 0) is));
    }
