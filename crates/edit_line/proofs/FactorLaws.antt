use Rattle.std.proofs.Common.{◌≡◌, ◌≢◌, ℕ, suc, ◌<◌, ◌==◌, ◌||◌, Bool, true, false, if◌then◌else◌, List, [], ◌∷◌, ℤ, pos, refl, sym, ap, ◌∙◌, subst, arith}
use Rattle.std.specs.Ordering.{int_eq}
use Rattle.std.proofs.lemmas.Bool.Decides.{Decides-eqb, Decides-int_eq}
use Rattle.edit_line.proofs.BoolLaws.{by_test, true-both}
use Rattle.edit_line.proofs.SetLaws.{both_true}
use Rattle.edit_line.specs.Lines.{LineParts, factor}
use Rattle.edit_line.specs.Shapes.{Categorical, Domain, Numerical, beside, has_field, number_fields, numbers_from}
use Rattle.edit_line.specs.Sums.{AtFactors, stands_only}

-- The fields that stand in a line: those beside a factor other than 0.

-- a fact of each field that stands in a line gives another
pub AtFactors-map : (P Q : ℕ → Type 0) → ((f : ℕ) → P f → Q f) → (fields : List ℕ) (factors : List ℤ) → AtFactors P fields factors → AtFactors Q fields factors
AtFactors-map P Q next [] factors at = tt
AtFactors-map P Q next (f ∷ fields) [] at = tt
AtFactors-map P Q next (f ∷ fields) (a ∷ factors) at = (λ apart. next f (at.0 apart), AtFactors-map P Q next fields factors at.1)

-- ---- a factor at a field

-- a field that is not of the list has nothing beside it
beside-absent : (fields : List ℕ) (factors : List ℤ) (f : ℕ) → has_field fields f ≡ false → beside (pos 0) fields factors f ≡ pos 0
beside-absent [] factors f absent = refl
beside-absent (i ∷ fields) [] f absent = refl
beside-absent (i ∷ fields) (a ∷ factors) f absent = by (i == f) absent (beside-absent fields factors f)
  where
    by : (b : Bool) → (b || has_field fields f) ≡ false → (has_field fields f ≡ false → beside (pos 0) fields factors f ≡ pos 0)
        → (if b then a else beside (pos 0) fields factors f) ≡ pos 0
    by true h rest = absurd (cc)
    by false h rest = rest h

-- a field with a factor other than 0 is numerical
pub factor-numerical : (line : LineParts) (f : ℕ) → factor line f ≢ pos 0 → has_field (number_fields line.shape) f ≡ true
factor-numerical line f stands = by_test (has_field (number_fields line.shape) f) (λ there. there)
    (λ absent. absurd (stands (beside-absent (number_fields line.shape) line.factors f absent)))

-- ---- facts of the fields that stand in a line, by their factors

itself : (i : ℕ) → (i == i) ≡ true
itself i = (Decides-eqb i i).1 refl

before : (i f : ℕ) → f < i → (i == f) ≡ false
before i f less = by_test (i == f) (λ same. absurd (omega (arith, (Decides-eqb i f).0 same))) (λ differ. differ)

-- a field before the first has nothing beside it
beside-before : (i : ℕ) (shape : List Domain) (factors : List ℤ) (f : ℕ) → f < i → beside (pos 0) (numbers_from i shape) factors f ≡ pos 0
beside-before i [] factors f less = refl
beside-before i (Categorical k ∷ shape) factors f less = beside-before (suc i) shape factors f (omega arith)
beside-before i (Numerical ∷ shape) [] f less = refl
beside-before i (Numerical ∷ shape) (a ∷ factors) f less = ap (λ b. if b then a else beside (pos 0) (numbers_from (suc i) shape) factors f) (before i f less)
    ∙ beside-before (suc i) shape factors f (omega arith)

from-factors : (P : ℕ → Type 0) (i : ℕ) (shape : List Domain) (factors : List ℤ) → ((f : ℕ) → beside (pos 0) (numbers_from i shape) factors f ≢ pos 0 → P f)
    → AtFactors P (numbers_from i shape) factors
from-factors P i [] factors each = tt
from-factors P i (Categorical k ∷ shape) factors each = from-factors P (suc i) shape factors each
from-factors P i (Numerical ∷ shape) [] each = tt
from-factors P i (Numerical ∷ shape) (a ∷ factors) each = (λ stands. each i (λ none. stands (sym here ∙ none)), from-factors P (suc i) shape factors later)
  where
    here : (if i == i then a else beside (pos 0) (numbers_from (suc i) shape) factors i) ≡ a
    here = ap (λ b. if b then a else beside (pos 0) (numbers_from (suc i) shape) factors i) (itself i)

    later : (f : ℕ) → beside (pos 0) (numbers_from (suc i) shape) factors f ≢ pos 0 → P f
    later f stands = each f (λ none. stands (by (i == f) (Decides-eqb i f).0 none))
      where
        by : (b : Bool) → (b ≡ true → i ≡ f) → (if b then a else beside (pos 0) (numbers_from (suc i) shape) factors f) ≡ pos 0
            → beside (pos 0) (numbers_from (suc i) shape) factors f ≡ pos 0
        by true same h = beside-before (suc i) shape factors f (omega (arith, same refl))
        by false same h = h

-- what holds of each field with a factor other than 0 holds of the fields that stand in the line
pub at-factors : (P : ℕ → Type 0) (line : LineParts) → ((f : ℕ) → factor line f ≢ pos 0 → P f) → AtFactors P (number_fields line.shape) line.factors
at-factors P line each = from-factors P 0 line.shape line.factors each

-- and the other way round
at-beside : (P : ℕ → Type 0) (fields : List ℕ) (factors : List ℤ) (f : ℕ) → AtFactors P fields factors → beside (pos 0) fields factors f ≢ pos 0 → P f
at-beside P [] factors f at stands = absurd (stands refl)
at-beside P (i ∷ fields) [] f at stands = absurd (stands refl)
at-beside P (i ∷ fields) (a ∷ factors) f at stands = by (i == f) (Decides-eqb i f).0 (at-beside P fields factors f at.1) stands
  where
    by : (b : Bool) → (b ≡ true → i ≡ f) → (beside (pos 0) fields factors f ≢ pos 0 → P f) → (if b then a else beside (pos 0) fields factors f) ≢ pos 0 → P f
    by true same rest h = subst P (same refl) (at.0 h)
    by false same rest h = rest h

pub factor-at : (P : ℕ → Type 0) (line : LineParts) (f : ℕ) → AtFactors P (number_fields line.shape) line.factors → factor line f ≢ pos 0 → P f
factor-at P line f at stands = at-beside P (number_fields line.shape) line.factors f at stands

-- ---- the test of the fields that stand in a line

pub AtFactors-only : (test : ℕ → Bool) (fields : List ℕ) (factors : List ℤ) → stands_only test fields factors ≡ true
    → AtFactors (λ f. test f ≡ true) fields factors
AtFactors-only test [] factors only = tt
AtFactors-only test (f ∷ fields) [] only = tt
AtFactors-only test (f ∷ fields) (a ∷ factors) only =
    let (here, rest) = both_true (int_eq a (pos 0) || test f) _ only in
    (λ stands. by (int_eq a (pos 0)) (λ none. stands ((Decides-int_eq a (pos 0)).0 none)) here, AtFactors-only test fields factors rest)
  where
    by : (none : Bool) → (none ≡ true → ⊥) → (none || test f) ≡ true → test f ≡ true
    by true stands h = absurd (stands refl)
    by false stands h = h

pub only-AtFactors : (test : ℕ → Bool) (fields : List ℕ) (factors : List ℤ) → AtFactors (λ f. test f ≡ true) fields factors → stands_only test fields factors
    ≡ true
only-AtFactors test [] factors at = refl
only-AtFactors test (f ∷ fields) [] at = refl
only-AtFactors test (f ∷ fields) (a ∷ factors) at = true-both _ _ (here (int_eq a (pos 0)) (Decides-int_eq a (pos 0)).1)
    (only-AtFactors test fields factors at.1)
  where
    here : (none : Bool) → (a ≡ pos 0 → none ≡ true) → (none || test f) ≡ true
    here true is = refl
    here false is = at.0 (λ zero_is. absurd (cc (is zero_is)))

-- where only fields that pass the test stand in a line, a field with a factor other than 0 passes it
pub only-passes : (test : ℕ → Bool) (line : LineParts) (f : ℕ) → stands_only test (number_fields line.shape) line.factors ≡ true → factor line f ≢ pos 0
    → test f ≡ true
only-passes test line f only stands = factor-at (λ g. test g ≡ true) line f (AtFactors-only test (number_fields line.shape) line.factors only) stands
