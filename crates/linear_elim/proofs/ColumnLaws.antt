use Rattle.std.proofs.Common.{◌≡◌, ◌≢◌, ltb, ℕ, zero, suc, ◌+◌, ◌-◌, ◌<◌, ◌≤◌, ◌==◌, Bool, true, false, if◌then◌else◌, List, [], ◌∷◌, get_or, length}
use Rattle.std.proofs.Common.{drop, map, ℤ, pos, refl, sym, ap, ◌∙◌, arith, add-one}
use Rattle.std.proofs.Math.Seq.{drop-cons}
use Rattle.std.specs.Bool.{Decides}
use Rattle.std.proofs.lemmas.Bool.Decides.{Decides-eqb, Decides-ltb}
use Rattle.std.proofs.lemmas.List.{drop_all, get_or_past}
use Rattle.edit_line.specs.Shapes.{beside, domain_with, number_fields, numbers_from, place_in}
use Rattle.edit_line.specs.Lines.{LineParts, factor}
use Rattle.edit_line.specs.Places.{place_named}
use Rattle.edit_line.specs.declared.place.Place.{Place}
use Rattle.edit_line.specs.declared.place.Place.TheVariants.{Constant, Field}

-- A field's place among the numerical ones.

-- the factor at the field's place is the one beside the field
pub beside-place : (xs : List ℤ) (fields : List ℕ) (f : ℕ) → length xs ≡ length fields → get_or xs (place_in fields f) (pos 0) ≡ beside (pos 0) fields xs f
beside-place [] [] f same = refl
beside-place [] (i ∷ fields) f same = absurd (omega arith)
beside-place (x ∷ xs) [] f same = absurd (omega arith)
beside-place (x ∷ xs) (i ∷ fields) f same = by (i == f) (beside-place xs fields f (omega arith))
  where
    by : (b : Bool) → get_or xs (place_in fields f) (pos 0) ≡ beside (pos 0) fields xs f
        → get_or (x ∷ xs) (if b then 0 else suc (place_in fields f)) (pos 0) ≡ (if b then x else beside (pos 0) fields xs f)
    by true rest = refl
    by false rest = rest

-- a line's factor at the field
pub factor-place : (line : LineParts) (xs : List ℤ) (f place : ℕ) (x : ℤ) → xs ≡ line.factors → length line.factors ≡ length (number_fields line.shape)
    → place ≡ place_in (number_fields line.shape) f
    → x ≡ get_or xs place (pos 0) → x ≡ factor line f
factor-place line xs f place x factors_are count place_is at =
    at ∙ ap (λ (ys : List ℤ). get_or ys place (pos 0)) factors_are ∙ ap (λ k. get_or line.factors k (pos 0)) place_is
    ∙ beside-place line.factors (number_fields line.shape) f count

-- past the end there is 0
pub past-end : (xs : List ℤ) (i : ℕ) → false ≡ ltb i (length xs) → pos 0 ≡ get_or xs i (pos 0)
past-end xs i past =
    let apart : ¬ (i < length xs) = λ h. let below = (Decides-ltb i (length xs)).1 h in absurd_bool (past ∙ below) in
    sym (get_or_past xs i (pos 0) (omega (arith, apart)))
  where
    absurd_bool : false ≡ true → ⊥
    absurd_bool h = absurd (cc)

-- ---- a loop over the fields' numbers of codes

-- the place of a field among the numerical fields from i on
abbrev pub place_from : List ℕ → ℕ → ℕ → ℕ
place_from counts i f = place_in (numbers_from i (map domain_with (drop i counts))) f

-- at a field with codes nothing is added
pub place-skips : (counts : List ℕ) (i f k : ℕ) → i < length counts → k ≡ get_or counts i k → 0 < k → place_from counts i f ≡ place_from counts (i + 1) f
place-skips counts i f zero below at above = absurd (omega arith)
place-skips counts i f (suc k) below at above =
    rw (add-one) (ap (λ ks. place_in (numbers_from i (map domain_with ks)) f) (drop-cons counts i (suc k) below ∙ ap (λ j. j ∷ drop (suc i) counts) (sym at)))

-- at a numerical field
pub place-there : (counts : List ℕ) (i f k : ℕ) → i < length counts → k ≡ get_or counts i k → k ≡ 0
    → place_from counts i f ≡ (if i == f then 0 else suc (place_from counts (i + 1) f))
place-there counts i f k below at none =
    rw (add-one) (ap (λ ks. place_in (numbers_from i (map domain_with ks)) f) (drop-cons counts i k below ∙ ap (λ j. j ∷ drop (suc i) counts) (sym at ∙ none)))

module _ (counts : List ℕ) (i f place count : ℕ) (below : i < length counts) (at : count ≡ get_or counts i count)
    (before : place + place_from counts i f ≡ place_from counts 0 f) where
  -- a field with codes takes no place
  pub skips-place : (0 < count) → place + place_from counts (i + 1) f ≡ place_from counts 0 f
  skips-place above = ap (λ n. place + n) (sym (place-skips counts i f count below at above)) ∙ before

  -- another numerical field takes one
  pub takes-place : count ≡ 0 → i ≢ f → place + 1 + place_from counts (i + 1) f ≡ place_from counts 0 f
  takes-place none other =
      let here = place-there counts i f count below at none ∙ ap (λ b. if b then 0 else suc (place_from counts (i + 1) f)) (apart (i == f) (Decides-eqb i f)) in
      omega (arith, here, before)
    where
      apart : (b : Bool) → Decides b (i ≡ f) → b ≡ false
      apart true d = absurd (other (d.0 refl))
      apart false d = refl

  -- the field itself is at the place
  pub is-place : count ≡ 0 → i ≡ f → place ≡ place_from counts 0 f
  is-place none same =
      let here = place-there counts i f count below at none ∙ ap (λ b. if b then 0 else suc (place_from counts (i + 1) f)) ((Decides-eqb i f).1 same) in
      omega (arith, here, before)

-- past the last field there is none
pub place-end : (counts : List ℕ) (i f place : ℕ) → length counts ≤ i → place + place_from counts i f ≡ place_from counts 0 f → place ≡ place_from counts 0 f
place-end counts i f place past before =
    let none : place_from counts i f ≡ 0 = ap (λ ks. place_in (numbers_from i (map domain_with ks)) f) (drop_all i counts past) in
    omega (arith, none, before)

-- ---- the name of a place, from a field on

-- the name of a place among the numerical fields from i on
abbrev pub name_from : List ℕ → ℕ → ℕ → Place
name_from counts i left = place_named (numbers_from i (map domain_with (drop i counts))) left

-- a field with codes has no place
pub name-skips : (counts : List ℕ) (i left k : ℕ) → i < length counts → k ≡ get_or counts i k → 0 < k → name_from counts i left ≡ name_from counts (i + 1) left
name-skips counts i left zero below at above = absurd (omega arith)
name-skips counts i left (suc k) below at above =
    rw (add-one) (ap (λ ks. place_named (numbers_from i (map domain_with ks)) left)
    (drop-cons counts i (suc k) below ∙ ap (λ j. j ∷ drop (suc i) counts) (sym at)))

numerical-here : (counts : List ℕ) (i left k : ℕ) → i < length counts → k ≡ get_or counts i k → k ≡ 0
    → name_from counts i left ≡ place_named (i ∷ numbers_from (suc i) (map domain_with (drop (suc i) counts))) left
numerical-here counts i left k below at none =
    ap (λ ks. place_named (numbers_from i (map domain_with ks)) left) (drop-cons counts i k below ∙ ap (λ j. j ∷ drop (suc i) counts) (sym at ∙ none))

-- a numerical field has the first place
pub name-there : (counts : List ℕ) (i left k : ℕ) → i < length counts → k ≡ get_or counts i k → k ≡ 0 → left ≡ 0 → name_from counts i left ≡ Field i
name-there counts i left k below at none first = ap (λ n. name_from counts i n) first ∙ numerical-here counts i 0 k below at none

-- the others come after it
pub name-moves : (counts : List ℕ) (i left k : ℕ) → i < length counts → k ≡ get_or counts i k → k ≡ 0 → left ≢ 0
    → name_from counts i left ≡ name_from counts (i + 1) (left - 1)
name-moves counts i zero k below at none more = absurd (more refl)
name-moves counts i (suc left) k below at none more = let less : suc left - 1
    ≡ left = omega arith in rw (less, add-one) (numerical-here counts i (suc left) k below at none)

-- past the last field there is the constant
pub name-end : (counts : List ℕ) (i left : ℕ) → length counts ≤ i → name_from counts i left ≡ Constant
name-end counts i left past = ap (λ ks. place_named (numbers_from i (map domain_with ks)) left) (drop_all i counts past)
