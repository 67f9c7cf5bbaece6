use Rattle.std.proofs.Common.{◌≡◌, ◌≢◌, ◌==◌, Bool, true, false, if◌then◌else◌, ℕ, zero, suc, List, [], ◌∷◌, All, ℤ, pos, ◌<ℤ◌, ◌*ℤ◌, refl, sym, ap, ◌∙◌, arith}
use Rattle.std.specs.List.{fold}
use Rattle.std.proofs.lemmas.Bool.Decides.{Decides-eqb}
use Rattle.fraction128.proofs.Signs.{same_cancel}
use Rattle.fraction128.proofs.Whole.{assoc, swap_last}
use Rattle.edit_model.specs.FieldSets.{has_number}
use Rattle.edit_model.specs.Points.{Point}
use Rattle.edit_line.specs.Lines.{AllHold, HaveShape, LineHolds, LineParts}
use Rattle.edit_line.specs.Reductions.{reduce}
use Rattle.edit_line.specs.Shapes.{Domain, IsNumerical, code_fields, number_fields}
use Rattle.edit_line.proofs.FieldLists.{there-has}
use Rattle.edit_line.proofs.Members.{all-in, in-all, in-filter-out}
use Rattle.edit_line.proofs.ReductionLaws.{HaveShape-reduce, holds-reduce, reduce-holds}
use Rattle.linear_elim.specs.PointChanges.{DiffersOnlyAt, DiffersOnlyIn}
use Rattle.linear_elim.specs.Steps.{step}
use Rattle.linear_elim.specs.Systems.{chosen_fields, system}
use Rattle.linear_elim.proofs.PointLaws.{LineHolds-same, map-agree, put, put-differs}
use Rattle.linear_elim.proofs.StepLaws.{HaveShape-step, step-follows, step-holds, step-lifts}

-- The derived system: its lines hold at a point exactly where some values at the fields make the lines hold.

-- ---- points that differ at several fields

differs_nowhere : (p : Point) → DiffersOnlyIn [] p p
differs_nowhere p = record { codes = λ i outside. refl; numbers = λ i outside. refl }

no_field : (i : ℕ) → All (λ g. i ≢ g) []
no_field i k d below = absurd (omega arith)

-- a line at two points that differ at no field
holds-nowhere : (p q : Point) (line : LineParts) → DiffersOnlyIn [] p q → LineHolds line q → LineHolds line p
holds-nowhere p q line differs =
    LineHolds-same line p q (map-agree q.code p.code (code_fields line.shape) (λ i there. differs.codes i (no_field i)))
    (λ i some. differs.numbers i (no_field i))

none_of : (f i : ℕ) (fields : List ℕ) → All (λ g. i ≢ g) (f ∷ fields) → (i ≢ f) × All (λ g. i ≢ g) fields
none_of f i fields outside = (outside 0 f (omega arith), λ k d below. outside (suc k) d (omega arith))

same_over : (x y z d e g : ℤ) → pos 0 <ℤ e → x *ℤ e ≡ y *ℤ g → y *ℤ d ≡ z *ℤ e → x *ℤ d ≡ z *ℤ g
same_over x y z d e g above first second =
    same_cancel (x *ℤ d) (z *ℤ g) e above (swap_last x d e ∙ ap (λ (k : ℤ). k *ℤ d) first ∙ swap_last y g d ∙ ap (λ (k : ℤ). k *ℤ g) second ∙ swap_last z e g)

-- first at the later fields, and then at one more
differs_more : (f : ℕ) (fields : List ℕ) (p q r : Point) → DiffersOnlyIn fields p q → DiffersOnlyAt f q r → DiffersOnlyIn (f ∷ fields) p r
differs_more f fields p q r early late = record {
  codes = λ i outside. late.codes i (none_of f i fields outside).0 ∙ early.codes i (none_of f i fields outside).1;
  numbers = λ i outside. same_over (r.numerator i) (q.numerator i) (p.numerator i) p.denominator q.denominator r.denominator q.positive
      (late.numbers i (none_of f i fields outside).0) (early.numbers i (none_of f i fields outside).1);
}

-- the point q with the value and code that p has at the field
abbrev with_own : ℕ → Point → Point → Point
with_own f p q = put q f (p.code f) (p.numerator f *ℤ q.denominator) p.denominator p.positive

module _ (f : ℕ) (p q : Point) where
  -- it differs from p at the later fields alone
  with_own-differs : (fields : List ℕ) → DiffersOnlyIn (f ∷ fields) p q → DiffersOnlyIn fields p (with_own f p q)
  with_own-differs fields differs = record {
    codes = λ i outside. code i outside (i == f) refl;
    numbers = λ i outside. number i outside (i == f) refl;
  }
    where
      outside_all : (i : ℕ) → i ≢ f → All (λ g. i ≢ g) fields → All (λ g. i ≢ g) (f ∷ fields)
      outside_all i other outside zero d below = other
      outside_all i other outside (suc k) d below = outside k d (omega arith)

      code : (i : ℕ) → All (λ g. i ≢ g) fields → (b : Bool) → (i == f) ≡ b → (if b then p.code f else q.code i) ≡ p.code i
      code i outside true e = ap (λ j. p.code j) (sym ((Decides-eqb i f).0 e))
      code i outside false e = differs.codes i (outside_all i (λ same. cc (sym e ∙ (Decides-eqb i f).1 same)) outside)

      number : (i : ℕ) → All (λ g. i ≢ g) fields → (b : Bool) → (i == f) ≡ b
          → (if b then p.numerator f *ℤ q.denominator else q.numerator i *ℤ p.denominator) *ℤ p.denominator ≡ p.numerator i *ℤ (q.denominator *ℤ p.denominator)
      number i outside true e =
          assoc (p.numerator f) q.denominator p.denominator ∙ ap (λ j. p.numerator j *ℤ (q.denominator *ℤ p.denominator)) (sym ((Decides-eqb i f).0 e))
      number i outside false e =
          ap (λ (k : ℤ). k *ℤ p.denominator) (differs.numbers i (outside_all i (λ same. cc (sym e ∙ (Decides-eqb i f).1 same)) outside))
          ∙ assoc (p.numerator i) q.denominator p.denominator

  -- and from q at the field alone
  differs-with_own : DiffersOnlyAt f (with_own f p q) q
  differs-with_own =
      let differs = put-differs q f (p.code f) (p.numerator f *ℤ q.denominator) p.denominator p.positive in
      record { codes = λ i other. sym (differs.codes i other); numbers = λ i other. sym (differs.numbers i other) }

-- ---- the fold, both ways

module _ (shape : List Domain) where
  HaveShape-fold : (lines : List LineParts) (fields : List ℕ) → HaveShape shape lines → HaveShape shape (fold step lines fields)
  HaveShape-fold lines [] over = over
  HaveShape-fold lines (f ∷ fields) over = HaveShape-fold (step lines f) fields (HaveShape-step shape lines f over)

  pub fold-lifts : (lines : List LineParts) (fields : List ℕ) (p : Point) → HaveShape shape lines
      → AllHold (fold step lines fields) p → (q : Point) × DiffersOnlyIn fields p q × ((i : ℕ) → q.code i ≡ p.code i) × AllHold lines q
  fold-lifts lines [] p over holds = (p, differs_nowhere p, λ i. refl, holds)
  fold-lifts lines (f ∷ fields) p over holds =
      let (q, early, q_codes, at_q) = fold-lifts (step lines f) fields p (HaveShape-step shape lines f over) holds in
      let (r, late, r_codes, at_r) = step-lifts shape lines f over q at_q in
      (r, differs_more f fields p q r early late, λ i. r_codes i ∙ q_codes i, at_r)

  pub fold-holds : (lines : List LineParts) (fields : List ℕ) (p q : Point) → HaveShape shape lines → All (IsNumerical shape) fields
      → DiffersOnlyIn fields p q → AllHold lines q → AllHold (fold step lines fields) p
  fold-holds lines [] p q over numbers differs holds =
      all-in (λ l. LineHolds l p) lines (λ line there. holds-nowhere p q line differs (in-all (λ l. LineHolds l q) line lines holds there))
  fold-holds lines (f ∷ fields) p q over numbers differs holds =
      fold-holds (step lines f) fields p (with_own f p q) (HaveShape-step shape lines f over) (λ k d below. numbers (suc k) d (omega arith))
      (with_own-differs f p q fields differs)
      (step-holds shape lines f over (with_own f p q) q (numbers 0 f (omega arith)) (differs-with_own f p q) holds)

  fold-follows : (lines : List LineParts) (fields : List ℕ) (p : Point) → HaveShape shape lines → AllHold lines p → AllHold (fold step lines fields) p
  fold-follows lines [] p over holds = holds
  fold-follows lines (f ∷ fields) p over holds =
      fold-follows (step lines f) fields p (HaveShape-step shape lines f over) (step-follows shape lines f over p holds)

  -- where the lines hold, the system's do
  pub system-follows : (lines : List LineParts) (fields : List ℕ) (p : Point) → HaveShape shape lines → AllHold lines p → AllHold (system lines fields) p
  system-follows lines fields p over holds = fold-follows (reduce lines) fields p (HaveShape-reduce shape lines over) (reduce-holds lines p holds)

  -- the system's lines are over the fields of the lines
  pub HaveShape-system : (lines : List LineParts) (fields : List ℕ) → HaveShape shape lines → HaveShape shape (system lines fields)
  HaveShape-system lines fields over = HaveShape-fold (reduce lines) fields (HaveShape-reduce shape lines over)

  -- they hold at a point where some values at the fields make the lines hold
  pub system-holds : (lines : List LineParts) (fields : List ℕ) (p q : Point) → HaveShape shape lines → All (IsNumerical shape) fields
      → DiffersOnlyIn fields p q → AllHold lines q → AllHold (system lines fields) p
  system-holds lines fields p q over numbers differs holds =
      fold-holds (reduce lines) fields p q (HaveShape-reduce shape lines over) numbers differs (reduce-holds lines q holds)

  -- and where they hold, some values at the fields make the lines hold
  pub system-lifts : (lines : List LineParts) (fields : List ℕ) (p : Point) → HaveShape shape lines
      → AllHold (system lines fields) p → (q : Point) × DiffersOnlyIn fields p q × ((i : ℕ) → q.code i ≡ p.code i) × AllHold lines q
  system-lifts lines fields p over holds =
      let (q, differs, codes, at_q) = fold-lifts (reduce lines) fields p (HaveShape-reduce shape lines over) holds in
      (q, differs, codes, holds-reduce shape lines q (λ k d below. (over k d below).same) at_q)

-- ---- the fields of a set

-- the chosen fields are numerical
pub chosen-numerical : (shape : List Domain) (bits : ℕ) → All (IsNumerical shape) (chosen_fields shape bits)
chosen-numerical shape bits =
    all-in (IsNumerical shape) (chosen_fields shape bits)
    (λ i there. there-has i (number_fields shape) (in-filter-out (has_number bits) i (number_fields shape) there).0)
