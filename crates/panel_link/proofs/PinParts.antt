use Rattle.std.proofs.Common.{◌≡◌, ◌<◌, ◌≤◌, ◌*◌, ◌^◌, ◌-◌, ◌%◌, ◌==◌, ◌&&◌, not, nat_eq, ℕ, zero, suc, Bool, true, false, if◌then◌else◌}
use Rattle.std.proofs.Common.{List, [], ◌∷◌, All, length, map, slice_get, slice_index_or, slice_set, ℤ, pos, refl, sym, ap, ◌∙◌, subst, arith}
use lib.IntN.{neg_ℤ}
use Rattle.std.proofs.Math.Nat.{mod-eq_of_lt, one-le-pow}
use Rattle.std.proofs.Math.Pow.{pow-lt}
use Rattle.std.proofs.lemmas.Bool.Decides.{Decides-eqb}
use Rattle.std.proofs.lemmas.List.{length-append, length-map}
use Rattle.std.proofs.lemmas.Nat.{and_le_l}
use Rattle.fraction128.specs.Range.{InRange}
use Rattle.fraction128.specs.declared.fraction.Fraction.{Fraction}
use Rattle.edit_model.specs.Rows.{IsOfKind, IsRow, value_of}
use Rattle.edit_model.specs.Surveys.{IsField, IsKind}
use Rattle.edit_model.specs.declared.field.Field.{Field}
use Rattle.edit_model.specs.declared.field.Kind.{Kind}
use Rattle.edit_model.specs.declared.field.Kind.TheVariants as kind
use Rattle.edit_model.specs.declared.rule.Rule.{Rule}
use Rattle.edit_model.specs.declared.value.Value.{Value}
use Rattle.edit_model.specs.declared.value.Value.TheVariants.{Bad, Code, Number}
use Rattle.edit_model.proofs.RowLaws.{value-held}
use Rattle.edit_line.specs.Divisors.{reduced}
use Rattle.edit_line.specs.Lines.{IsLine, LineParts, parts_of}
use Rattle.edit_line.specs.Negations.{never}
use Rattle.edit_line.specs.Reductions.{IsIn}
use Rattle.edit_line.specs.Sets.{none_is_empty}
use Rattle.edit_line.specs.Shapes.{Domain, code_fields, domain_of, number_fields, place_in, shape_of, whole_sets}
use Rattle.edit_line.specs.declared.relation.Relation.TheVariants.{Equal}
use Rattle.edit_line.specs.inner.SetBounds.{AreWithin}
use Rattle.edit_line.proofs.ListPlaces.{some_with}
use Rattle.edit_line.proofs.Members.{all-in, in-all, in-get, in-map-out}
use Rattle.edit_line.proofs.NegationLines.{negative-in}
use Rattle.edit_line.proofs.SetLaws.{AreSets-within, AreWithin-set, AreWithin-wholes}
use Rattle.edit_normal.specs.NormalForm.{narrowed, rule_lines_of}
use Rattle.edit_normal.specs.RuleLines.{numbered, rule_lines_from}
use Rattle.edit_normal.specs.declared.rule_line.RuleLine.{RuleLine}
use Rattle.edit_normal.proofs.NormalLaws.{lines-most}
use Rattle.panel_link.specs.Pins.{code_kept, number_kept}
use Rattle.panel_link.specs.inner.PinLines.{others_of, own_factor, pin_of}

-- The lines of pins, from the parts that the calls put together.

-- ---- the whole sets have codes

pub wholes-full : (fields : List Field) → All IsField fields → none_is_empty (whole_sets (shape_of fields)) ≡ true
wholes-full [] are = refl
wholes-full (field ∷ fields) are = by field.kind (are 0 field (omega arith)).fits (wholes-full fields (λ k d below. are (suc k) d (omega arith)))
  where
    some : (k : ℕ) → 1 ≤ k → not (nat_eq (2 ^ k - 1) 0) ≡ true
    some zero h = absurd (omega arith)
    some (suc k) h = above (2 ^ suc k - 1) (let least = one-le-pow k 2 (omega arith) in omega (arith, least))
      where
        above : (n : ℕ) → 0 < n → not (nat_eq n 0) ≡ true
        above zero none = absurd (omega arith)
        above (suc n) some = by (nat_eq (suc n) 0) refl
          where
            by : (b : Bool) → nat_eq (suc n) 0 ≡ b → not b ≡ true
            by true e = absurd (omega (arith, (Decides-eqb (suc n) 0).0 e))
            by false e = refl

    by : (k : Kind) → IsKind k → none_is_empty (whole_sets (shape_of fields)) ≡ true → none_is_empty (whole_sets (domain_of k ∷ shape_of fields)) ≡ true
    by (kind.Number scale) fits rest = rest
    by (kind.Code codes) fits rest = ap (λ (b : Bool). b && none_is_empty (whole_sets (shape_of fields))) (some (length codes) fits.0) ∙ rest

-- ---- a number

module _ (shape : List Domain) (f : ℕ) (x : Fraction) (full : none_is_empty (whole_sets shape) ≡ true) where
  -- the parts before they are divided
  abbrev pub parts : LineParts
  parts = parts_of shape (whole_sets shape) (map (own_factor f x) (number_fields shape)) (neg_ℤ x.numerator) Equal

  pub number-line : rule_lines_of shape (number_kept f x) ≡ reduced parts ∷ []
  unfolding reduced
  number-line = rw full refl

  pub parts-line : IsLine parts
  parts-line = record {
    sets = AreSets-within (whole_sets shape) (whole_sets shape) full (AreWithin-wholes (whole_sets shape));
    factors = length-map (number_fields shape) (own_factor f x);
    in_range = (all-in InRange (map (own_factor f x) (number_fields shape)) each, negative-in x.numerator x.numerator_in_range);
    whole = λ _. refl;
  }
    where
      each : (z : ℤ) → IsIn z (map (own_factor f x) (number_fields shape)) → InRange z
      each z there = let (g, g_in, same) = in-map-out (own_factor f x) z (number_fields shape) there in by (f == g) same
        where
          by : (b : Bool) → z ≡ (if b then x.denominator else pos 0) → InRange z
          by true e = subst InRange (sym e) x.denominator_in_range
          by false e = subst InRange (sym e) (one-le-pow 127 2 (omega arith))

  module _ (own : List Domain) (sets : List ℕ) (factors : List ℤ) (constant : ℤ) (own_is : own ≡ shape) (sets_are : sets ≡ whole_sets own)
      (factors_are : factors ≡ map (own_factor f x) (number_fields shape)) (constant_is : constant ≡ neg_ℤ x.numerator) where
    parts-are : parts_of own sets factors constant Equal ≡ parts
    parts-are =
        ap (λ (ss : List ℕ). parts_of own ss factors constant Equal) (sets_are ∙ ap whole_sets own_is)
        ∙ ap (λ (s : List Domain). parts_of s (whole_sets shape) factors constant Equal) own_is
        ∙ ap (λ (zs : List ℤ). parts_of shape (whole_sets shape) zs constant Equal) factors_are
        ∙ ap (λ (z : ℤ). parts_of shape (whole_sets shape) (map (own_factor f x) (number_fields shape)) z Equal) constant_is

    pub number-parts : IsLine (parts_of own sets factors constant Equal)
    number-parts = subst IsLine (sym parts-are) parts-line

    pub number-made : (line : LineParts) → line ≡ reduced (parts_of own sets factors constant Equal) → rule_lines_of shape (number_kept f x) ≡ line ∷ []
    number-made line is = number-line ∙ ap (λ (l : LineParts). l ∷ []) (sym (is ∙ ap reduced parts-are))

-- ---- a code

module _ (shape : List Domain) (f code : ℕ) where
  -- the sets of its line: whole but at the field, which has the other codes
  abbrev pub others : List ℕ
  others = narrowed shape (whole_sets shape) f true (2 ^ code)

  pub others-are : (wholes sets : List ℕ) (place : ℕ) → wholes ≡ whole_sets shape → place ≡ place_in (code_fields shape) f
      → sets ≡ slice_set wholes place (others_of (slice_index_or wholes place 0) code) → sets ≡ others
  others-are wholes sets place wholes_are place_is is =
      is ∙ ap (λ (ws : List ℕ). slice_set ws place (others_of (slice_index_or ws place 0) code)) wholes_are
      ∙ ap (λ n. slice_set (whole_sets shape) n (others_of (slice_index_or (whole_sets shape) n 0) code)) place_is

  pub others-within : AreWithin others (whole_sets shape)
  others-within = AreWithin-set (whole_sets shape) (whole_sets shape) _ _ (and_le_l _ _) (AreWithin-wholes (whole_sets shape))

  pub code-full : none_is_empty others ≡ true → rule_lines_of shape (code_kept f code) ≡ never shape others ∷ []
  code-full full = rw full refl

  pub code-none : none_is_empty others ≡ false → rule_lines_of shape (code_kept f code) ≡ []
  code-none none = rw none refl

-- ---- words of 64 bits

pub power-fits : (c : ℕ) → c < 64 → 1 * 2 ^ c % 18446744073709551616 ≡ 2 ^ c
power-fits c below = ap (λ n. n % 18446744073709551616) (one (2 ^ c)) ∙ mod-eq_of_lt (small below)
  where
    one : (n : ℕ) → 1 * n ≡ n
    one n = omega arith

    small : c < 64 → 2 ^ c < 18446744073709551616
    small below = pow-lt {i = c} {j = 64} below

-- a field has at most 64 codes
pub code-few : (fields : List Field) (row : List Value) (f c : ℕ) → All IsField fields → IsRow fields row → value_of row f ≡ Code c → f < length fields → c < 64
code-few fields row f c are is e below =
    let (g, at, of) = some_with (λ (g : Field). IsOfKind g.kind (value_of row f)) (slice_get fields f) (value-held fields row f is below) in
    by g.kind (in-all IsField g fields are (in-get g fields f at)).fits (subst (λ (v : Value). IsOfKind g.kind v) e of)
  where
    by : (k : Kind) → IsKind k → IsOfKind k (Code c) → c < 64
    by (kind.Code codes) fits of = omega (arith, of, fits.1)
    by (kind.Number scale) fits of = absurd of

-- ---- a rule has few lines

rule-few : (shape : List Domain) (rule : Rule) → length (rule_lines_of shape rule) ≤ 2
rule-few shape rule =
    omega (
      arith,
      lines-most shape 0 (rule ∷ []),
      length-append (numbered 0 (rule_lines_of shape rule)) (rule_lines_from shape 1 []),
      length-map {B = RuleLine} (rule_lines_of shape rule) (λ (line : LineParts). record { rule = 0; line = line }),
    )

pub pin-few : (shape : List Domain) (f : ℕ) (v : Value) → length (pin_of shape f v) ≤ 2
pin-few shape f (Number x) = rule-few shape (number_kept f x)
pin-few shape f (Code code) = rule-few shape (code_kept f code)
pin-few shape f Bad = omega arith
