use Rattle.std.proofs.Common.{◌≡◌, ℕ, zero, suc, ◌+◌, ◌-◌, ◌<◌, ◌≤◌, ◌^◌, ◌==◌, if◌then◌else◌, Bool, true, false, List, [], ◌∷◌, All, inl, inr, length, ℤ, pos}
use Rattle.std.proofs.Common.{refl, sym, ap, ◌∙◌, subst, arith}
use lib.IntN.{neg_ℤ}
use Rattle.std.proofs.Math.Nat.{one-le-pow}
use Rattle.std.proofs.lemmas.Bool.Decides.{Decides-eqb}
use Rattle.std.proofs.lemmas.List.{length-map}
use Rattle.fraction128.specs.Range.{InRange}
use Rattle.edit_model.specs.Rows.{IsOfKind, IsRow, value_of}
use Rattle.edit_model.specs.Surveys.{IsField, IsKind}
use Rattle.edit_model.specs.declared.field.Field.{Field}
use Rattle.edit_model.specs.declared.field.Kind.{Kind}
use Rattle.edit_model.specs.declared.field.Kind.TheVariants as kind
use Rattle.edit_model.specs.declared.value.Value.{Value}
use Rattle.edit_model.specs.declared.value.Value.TheVariants.{Bad, Code, Number}
use Rattle.edit_line.specs.CodeFields.{size_from, size_of}
use Rattle.edit_line.specs.Lines.{IsLine, LineParts}
use Rattle.edit_line.specs.Reductions.{IsIn}
use Rattle.edit_line.specs.Sets.{AreSets}
use Rattle.edit_line.specs.Shapes.{domain_of, number_fields, shape_of, whole_sets}
use Rattle.edit_line.proofs.Members.{all-in, in-map-out}
use Rattle.edit_line.proofs.NegationLines.{negative-in, never-is, set-among}
use Rattle.edit_line.proofs.PointCodes.{whole_of-is}
use Rattle.deduce_fill.specs.Tests.{alone_at, other_line, test_lines}

-- The lines of a test are in form.

wholes-fit : (fields : List Field) → All IsField fields → AreSets (whole_sets (shape_of fields)) (whole_sets (shape_of fields))
wholes-fit [] are = tt
wholes-fit (g ∷ fields) are = by g.kind (are 0 g (omega arith)).fits (wholes-fit fields (λ k d below. are (suc k) d (omega arith)))
  where
    some : (k : ℕ) → 1 ≤ k → 0 < 2 ^ k - 1
    some zero h = absurd (omega arith)
    some (suc k) h = let least = one-le-pow k 2 (omega arith) in omega (arith, least)

    by : (k : Kind) → IsKind k → AreSets (whole_sets (shape_of fields)) (whole_sets (shape_of fields))
        → AreSets (whole_sets (domain_of k ∷ shape_of fields)) (whole_sets (domain_of k ∷ shape_of fields))
    by (kind.Number scale) fits rest = rest
    by (kind.Code codes) fits rest = (some (length codes) fits.0, omega arith, rest)

-- a code of a record is one of its field
code-below : (i : ℕ) (fields : List Field) (row : List Value) (f c : ℕ) → IsRow fields row → value_of row f ≡ Code c → c < size_from i (shape_of fields) (i + f)
code-below i [] [] f c is e = absurd (cc)
code-below i [] (v ∷ row) f c is e = absurd is
code-below i (g ∷ fields) [] f c is e = absurd is
code-below i (g ∷ fields) (v ∷ row) zero c is e = by g.kind v is.0 e
  where
    by : (k : Kind) (v : Value) → IsOfKind k v → v ≡ Code c → c < size_from i (domain_of k ∷ shape_of fields) (i + 0)
    by (kind.Code codes) (Code d) of e =
        subst (λ b. c < (if b then length codes else size_from (suc i) (shape_of fields) (i + 0))) (sym ((Decides-eqb i (i + 0)).1 (omega arith)))
        (subst (λ n. n < length codes) same of)
      where
        same : d ≡ c
        same = cc
    by (kind.Code codes) (Number y) of e = absurd (cc)
    by (kind.Code codes) Bad of e = absurd (cc)
    by (kind.Number scale) (Number y) of e = absurd (cc)
    by (kind.Number scale) (Code d) of e = absurd of
    by (kind.Number scale) Bad of e = absurd (cc)
code-below i (g ∷ fields) (v ∷ row) (suc f) c is e =
    by g.kind (subst (λ n. c < size_from (suc i) (shape_of fields) n) (omega arith) (code-below (suc i) fields row f c is.1 e))
  where
    other : (i == i + suc f) ≡ false
    other = apart (i == i + suc f) refl
      where
        apart : (b : Bool) → (i == i + suc f) ≡ b → b ≡ false
        apart true e = absurd (omega (arith, (Decides-eqb i (i + suc f)).0 e))
        apart false e = refl

    by : (k : Kind) → c < size_from (suc i) (shape_of fields) (i + suc f) → c < size_from i (domain_of k ∷ shape_of fields) (i + suc f)
    by (kind.Number scale) h = h
    by (kind.Code codes) h = subst (λ b. c < (if b then length codes else size_from (suc i) (shape_of fields) (i + suc f))) (sym other) h

module _ (fields : List Field) (are : All IsField fields) where
  -- the factors of one field are in range
  alone-in : (f : ℕ) (a : ℤ) → InRange a → All InRange (alone_at (shape_of fields) f a)
  alone-in f a in_range = all-in InRange (alone_at (shape_of fields) f a) each
    where
      each : (z : ℤ) → IsIn z (alone_at (shape_of fields) f a) → InRange z
      each z there = let (g, g_in, same) = in-map-out (λ g. if g == f then a else pos 0) z (number_fields (shape_of fields)) there in by (g == f) same
        where
          by : (b : Bool) → z ≡ (if b then a else pos 0) → InRange z
          by true e = subst InRange (sym e) in_range
          by false e = subst InRange (sym e) (one-le-pow 127 2 (omega arith))

  pub side-line : (f : ℕ) (factor constant : ℤ) (line : LineParts) → InRange factor → InRange constant → line.sets ≡ whole_sets (shape_of fields)
      → line.shape ≡ shape_of fields → line.factors ≡ alone_at (shape_of fields) f factor
      → line.constant ≡ constant → IsLine line
  side-line f factor constant line first last sets shape factors is = record {
    sets = subst (λ (ss : List ℕ). AreSets ss (whole_sets line.shape)) (sym sets)
        (subst (λ s. AreSets (whole_sets (shape_of fields)) (whole_sets s)) (sym shape) (wholes-fit fields are));
    factors = ap (λ (zs : List ℤ). length zs) factors ∙ length-map (number_fields (shape_of fields)) (λ g. if g == f then factor else pos 0)
        ∙ ap (λ s. length (number_fields s)) (sym shape);
    in_range = (subst (λ (zs : List ℤ). All InRange zs) (sym factors) (alone-in f factor first), subst InRange (sym is) last);
    whole = λ _. sets ∙ ap (λ s. whole_sets s) (sym shape);
  }

  other-fits : (f c : ℕ) → c < size_of (shape_of fields) f → IsLine (other_line (shape_of fields) f c)
  other-fits f c below =
      never-is (shape_of fields) _ (set-among (whole_sets (shape_of fields)) _ (2 ^ c) (wholes-fit fields are) (one-le-pow c 2 (omega arith))
      (subst (λ n. 2 ^ c ≤ n) (sym (whole_of-is (shape_of fields) f (omega (arith, below)))) (within c (size_of (shape_of fields) f) below)))
    where
      within : (c k : ℕ) → c < k → 2 ^ c ≤ 2 ^ k - 1
      within c zero h = absurd (omega arith)
      within zero (suc k) h = let least = one-le-pow k 2 (omega arith) in omega (arith, least)
      within (suc c) (suc k) h = let less = within c k (omega arith) in let least = one-le-pow k 2 (omega arith) in omega (arith, less, least)

  -- each line of a test is one, over the survey's fields
  pub test-fits : (row : List Value) (f : ℕ) (line : LineParts) (v : Value) → IsRow fields row → value_of row f ≡ v
      → IsIn line (test_lines (shape_of fields) f v) → IsLine line × (line.shape ≡ shape_of fields)
  test-fits row f line (Number x) is e (inl first) = (
    side-line f x.denominator (neg_ℤ x.numerator) line x.denominator_in_range (negative-in x.numerator x.numerator_in_range)
        (ap (λ (l : LineParts). l.sets) first) (ap (λ (l : LineParts). l.shape) first)
        (ap (λ (l : LineParts). l.factors) first) (ap (λ (l : LineParts). l.constant) first),
    ap (λ (l : LineParts). l.shape) first,
  )
  test-fits row f line (Number x) is e (inr (inl second)) = (
    side-line f (neg_ℤ x.denominator) x.numerator line (negative-in x.denominator x.denominator_in_range) x.numerator_in_range
        (ap (λ (l : LineParts). l.sets) second) (ap (λ (l : LineParts). l.shape) second)
        (ap (λ (l : LineParts). l.factors) second) (ap (λ (l : LineParts). l.constant) second),
    ap (λ (l : LineParts). l.shape) second,
  )
  test-fits row f line (Number x) is e (inr (inr none)) = absurd none
  test-fits row f line (Code c) is e (inl first) = (
    subst IsLine (sym first) (other-fits f c (subst (λ n. c < size_of (shape_of fields) n) (omega arith) (code-below 0 fields row f c is e))),
    ap
        (λ (l : LineParts). l.shape) first,
  )
  test-fits row f line (Code c) is e (inr none) = absurd none
  test-fits row f line Bad is e there = absurd there

  pub all-fit : (row : List Value) (f : ℕ) (lines : List LineParts) → IsRow fields row → lines ≡ test_lines (shape_of fields) f (value_of row f)
      → All (λ line. IsLine line × (line.shape ≡ shape_of fields)) lines
  all-fit row f lines is are =
      all-in (λ (line : LineParts). IsLine line × (line.shape ≡ shape_of fields)) lines
      (λ line there. test-fits row f line (value_of row f) is refl (subst (IsIn line) are there))
