-- The rows of a class, and the numbers that they have in it.
use Rattle.std.proofs.Common.{◌≡◌, ℕ, zero, suc, ◌+◌, ◌<◌, ◌≤◌, Bool, true, false, cond, List, [], ◌∷◌, ◌++◌, length, get_or, Some, None, Option, refl, sym, ap}
use Rattle.std.proofs.Common.{◌∙◌, subst, eqb, ⊎_elim, arith}
use Rattle.std.specs.Prelude.{slice_get}
use Rattle.std.specs.List.{All}
use Rattle.std.proofs.lemmas.Bool.{cases_lt, eqb-true, ne_eqb}
use Rattle.std.proofs.lemmas.Bool.Decides.{Decides-eqb, Decides-like, same_from_decides}
use Rattle.std.proofs.lemmas.List.{get_or_past}
use Rattle.std.proofs.lemmas.List.Elements.{All-cons, All-nil, All-weaker}
use Rattle.std.proofs.lemmas.Option.{slice_get-get_or, slice_get_past, slice_get_within}
use Rattle.donor_book.specs.Claims.{IsDonor, gave}
use Rattle.class_books.specs.Classes.{IsDonorOf, IsOfClass}
use Rattle.class_books.specs.inner.Numbers.{donor_with, row_with, rows_from, rows_in}

-- ---- the rows of a class

rows-step : (row : ℕ) (b : Bool) (more rows tail : List ℕ) → more ≡ rows ++ tail → cond b (row ∷ more) more ≡ cond b (row ∷ rows) rows ++ tail
rows-step row true more rows tail is = ap (λ (l : List ℕ). row ∷ l) is
rows-step row false more rows tail is = is

-- with one row more
pub rows-push : (class row : ℕ) (class_of : List ℕ) (c : ℕ)
    → rows_from class row (class_of ++ c ∷ []) ≡ rows_from class row class_of ++ cond (eqb c class) ((row + length class_of) ∷ []) []
rows-push class row [] c = let same : row ≡ row + 0 = omega arith in ap (λ n. cond (eqb c class) (n ∷ []) []) same
rows-push class row (x ∷ class_of) c =
    let same : suc row + length class_of ≡ row + suc (length class_of) = omega arith in
    rows-step row (eqb x class) (rows_from class (suc row) (class_of ++ c ∷ [])) (rows_from class (suc row) class_of)
    (cond (eqb c class) ((row + suc (length class_of)) ∷ []) [])
    (rows-push class (suc row) class_of c ∙ ap (λ n. rows_from class (suc row) class_of ++ cond (eqb c class) (n ∷ []) []) same)

-- the row has this class in the list, whose first row is `row`
abbrev StandsAt : ℕ → ℕ → List ℕ → ℕ → Type 0
StandsAt class row class_of r = (j : ℕ) × (r ≡ row + j) × (slice_get class_of j ≡ Some class)

stands-step : (class row x : ℕ) (class_of rows : List ℕ) (b : Bool) → eqb x class ≡ b → All (StandsAt class row (x ∷ class_of)) rows
    → All (StandsAt class row (x ∷ class_of)) (cond b (row ∷ rows) rows)
stands-step class row x class_of rows true is rest = All-cons (StandsAt class row (x ∷ class_of)) row rows (0, omega arith, ap Some (eqb-true x class is)) rest
stands-step class row x class_of rows false is rest = rest

rows-stand : (class row : ℕ) (class_of : List ℕ) → All (StandsAt class row class_of) (rows_from class row class_of)
rows-stand class row [] = All-nil (StandsAt class row [])
rows-stand class row (x ∷ class_of) =
    stands-step class row x class_of (rows_from class (suc row) class_of) (eqb x class) refl
    (All-weaker (StandsAt class (suc row) class_of) (StandsAt class row (x ∷ class_of)) (λ r at. (suc at.0, (let is = at.1 in omega (arith, is)), at.2))
    (rows_from class (suc row) class_of) (rows-stand class (suc row) class_of))

alone-step : (row : ℕ) (b : Bool) (rows : List ℕ) → All (λ r. row < r) rows
    → ((i j d e : ℕ) → i < length rows → j < length rows → get_or rows i d ≡ get_or rows j e → i ≡ j)
    → (i j d e : ℕ) → i < length (cond b (row ∷ rows) rows) → j < length (cond b (row ∷ rows) rows)
    → get_or (cond b (row ∷ rows) rows) i d ≡ get_or (cond b (row ∷ rows) rows) j e → i ≡ j
alone-step row false rows later rest i j d e lt less is = rest i j d e lt less is
alone-step row true rows later rest zero zero d e lt less is = refl
alone-step row true rows later rest zero (suc j) d e lt less is = let more = later j e (omega (arith, less)) in absurd (omega (arith, more, is))
alone-step row true rows later rest (suc i) zero d e lt less is = let more = later i d (omega (arith, lt)) in absurd (omega (arith, more, is))
alone-step row true rows later rest (suc i) (suc j) d e lt less is = ap suc (rest i j d e (omega (arith, lt)) (omega (arith, less)) is)

-- no row stands twice
rows-alone : (class row : ℕ) (class_of : List ℕ) (i j d e : ℕ) → i < length (rows_from class row class_of) → j < length (rows_from class row class_of)
    → get_or (rows_from class row class_of) i d ≡ get_or (rows_from class row class_of) j e → i ≡ j
rows-alone class row [] i j d e lt less is = absurd (omega (arith, lt))
rows-alone class row (x ∷ class_of) i j d e lt less is =
    let later = All-weaker (StandsAt class (suc row) class_of) (λ r. row < r) (λ r at. (let is = at.1 in omega (arith, is)))
    (rows_from class (suc row) class_of) (rows-stand class (suc row) class_of) in
    alone-step row (eqb x class) (rows_from class (suc row) class_of) later (rows-alone class (suc row) class_of) i j d e lt less is

-- ---- the numbers

-- two tests are alike where what they test is
pub same-test : (a b c d : ℕ) → (a ≡ b → c ≡ d) → (c ≡ d → a ≡ b) → eqb a b ≡ eqb c d
same-test a b c d there back = same_from_decides (eqb a b) (eqb c d) (Decides-eqb a b) (Decides-like (eqb c d) back there (Decides-eqb c d))

module _ (class_of : List ℕ) (class : ℕ) where
  -- how many rows the class has, and what its numbers stand for in the whole file
  abbrev size : ℕ
  size = length (rows_in class_of class)

  abbrev to_row : ℕ → ℕ
  to_row = row_with class_of class

  abbrev to_donor : Option ℕ → Option ℕ
  to_donor = donor_with class_of class

  -- a number of the class is that of a row of the class
  pub row-of-class : (i : ℕ) → i < size → IsOfClass class_of class (to_row i)
  row-of-class i lt =
      let at = rows-stand class 0 class_of i (length class_of) lt in
      let same : at.0 ≡ to_row i = (let is = at.1 in omega (arith, is)) in
      subst (IsOfClass class_of class) same at.2

  -- and no other number is that of this row
  pub number-alone : (i j : ℕ) → i < size → to_row i ≡ to_row j → i ≡ j
  number-alone i j lt is = ⊎_elim
      (λ (less : j < size). rows-alone class 0 class_of i j (length class_of) (length class_of) lt less is)
      (λ (past : size ≤ j).
      let none = get_or_past (rows_in class_of class) j (length class_of) past in
      let within = slice_get_within class_of (to_row i) class (row-of-class i lt) in
      absurd (omega (arith, none, within, is)))
      (cases_lt j size)

  pub same-number : (i j : ℕ) → i < size → eqb (to_row i) (to_row j) ≡ eqb i j
  same-number i j lt = same-test (to_row i) (to_row j) i j (number-alone i j lt) (λ is. ap to_row is)

  pub number-same : (i j : ℕ) → i < size → eqb (to_row j) (to_row i) ≡ eqb j i
  number-same i j lt =
      same-test (to_row j) (to_row i) j i (λ is. sym (number-alone i j lt (sym is))) (λ is. ap to_row is)

  -- a number of the class is that of a donor
  pub donor-stands : (d : ℕ) → d < size → to_donor (Some d) ≡ Some (to_row d)
  donor-stands d lt = slice_get-get_or (rows_in class_of class) d (length class_of) lt

  pub donor-of-class : (o : Option ℕ) → IsDonor size o → IsDonorOf class_of class (to_donor o)
  donor-of-class None is = tt
  donor-of-class (Some d) lt = subst (IsDonorOf class_of class) (sym (donor-stands d lt)) (row-of-class d lt)

  pub gave-with : (d : ℕ) (o : Option ℕ) → d < size → gave (to_row d) (to_donor o) ≡ gave d o
  gave-with d None lt = refl
  gave-with d (Some e) lt = ⊎_elim
      (λ (less : e < size). ap (gave (to_row d)) (donor-stands e less) ∙ same-number d e lt)
      (λ (past : size ≤ e).
      ap (gave (to_row d)) (slice_get_past (rows_in class_of class) e past) ∙ sym (ne_eqb d e (λ is. omega (arith, is, lt, past))))
      (cases_lt e size)
