use Rattle.std.proofs.Common.{◌≡◌, ◌≤◌, ◌^◌, ◌==◌, not, ℕ, zero, suc, Bool, true, false, if◌then◌else◌, inl, inr, List, [], ◌∷◌, All, length, map, unsigned_abs}
use Rattle.std.proofs.Common.{ℤ, pos, ◌<ℤ◌, refl, sym, ap, subst, arith}
use lib.IntN.{neg_ℤ}
use Rattle.std.proofs.lemmas.Int.{ints}
use Rattle.std.proofs.lemmas.List.{length-map}
use Rattle.std.proofs.lemmas.Nat.{and_le_l}
use Rattle.edit_line.specs.inner.SetBounds.{AreWithin}
use Rattle.fraction128.specs.Range.{InRange}
use Rattle.edit_model.specs.Parts.{SurveyParts}
use Rattle.edit_model.specs.Surveys.{IsRule, IsTerm, IsTest, IsWellFormed}
use Rattle.edit_model.specs.declared.field.Field.{Field}
use Rattle.edit_model.specs.declared.rule.Compare.{Compare}
use Rattle.edit_model.specs.declared.rule.Compare.TheVariants.{Ge, Gt, Le, Lt, Eq}
use Rattle.edit_model.specs.declared.rule.Linear.{Linear}
use Rattle.edit_model.specs.declared.rule.Rule.{Rule}
use Rattle.edit_model.specs.declared.rule.Term.{Term}
use Rattle.edit_model.specs.declared.rule.Test.{Test}
use Rattle.edit_model.specs.declared.rule.Test.TheVariants.{Number, Codes}
use Rattle.edit_line.specs.Divisors.{divisor_of, gcd_all, or_one, reduced}
use Rattle.edit_line.specs.Lines.{AreOver, IsLine, LineParts, parts_of}
use Rattle.edit_line.specs.Negations.{never}
use Rattle.edit_line.specs.Reductions.{IsIn}
use Rattle.edit_line.specs.Sets.{none_is_empty}
use Rattle.edit_line.specs.Shapes.{number_fields, shape_of, whole_sets}
use Rattle.edit_line.proofs.DivisionLaws.{IsLine-divided}
use Rattle.edit_line.proofs.Members.{all-in, in-all, in-filter-out, in-flat_map-out, in-map-out}
use Rattle.edit_line.proofs.NegationLines.{negative-in, never-is}
use Rattle.edit_line.specs.declared.relation.Relation.{Relation}
use Rattle.edit_line.specs.declared.relation.Relation.TheVariants.{Above, AtLeast, Equal}
use Rattle.edit_line.proofs.RelationLaws.{above_apart, least_apart}
use Rattle.edit_line.proofs.SetLaws.{AreSets-within, AreWithin-set, AreWithin-wholes}
use Rattle.edit_normal.specs.NormalForm.{always_lines, compare_always, compare_lines, contrary_lines, implied_lines, lines_under, positive_line_of, narrowed}
use Rattle.edit_normal.specs.NormalForm.{negative_line_of, rule_lines_of, term_factor}
use Rattle.edit_normal.specs.RuleLines.{rule_lines_from, normal_lines_of}
use Rattle.edit_normal.specs.declared.rule_line.RuleLine.{RuleLine}
use Rattle.edit_normal.proofs.MeaningLaws.{lines-all, lines-over}
use Rattle.edit_normal.proofs.NormalLaws.{lines-most}

-- The normal lines of a survey's rules are lines over its fields.

-- a line divided by the greatest common divisor of its numbers
reduced-line : (line : LineParts) → (none_is_empty line.sets ≡ true → IsLine line) → none_is_empty (reduced line).sets ≡ true → IsLine (reduced line)
unfolding reduced
reduced-line line is full = IsLine-divided line (divisor_of line.factors line.constant) (above (gcd_all (line.constant ∷ line.factors))) (is full)
  where
    above : (n : ℕ) → pos 0 <ℤ pos (or_one n)
    above zero = omega (arith, ints)
    above (suc n) = omega (arith, ints)

-- what is made of each field is in range, if it always is
numbers-in : (number : ℕ → ℤ) (fields : List ℕ) → ((f : ℕ) → InRange (number f)) → All InRange (map number fields)
numbers-in number fields each = all-in InRange (map number fields) (λ z there. let (f, was, is) = in-map-out number z fields there in
    subst (λ (x : ℤ). InRange x) (sym is) (each f))

-- a number of a rule is small
small-in : (z : ℤ) → unsigned_abs z ≤ 10 ^ 15 → InRange z
small-in z small = omega (arith, small)

module _ (fields : List Field) where
  factor-in : (terms : List Term) (f : ℕ) → All (IsTerm fields) terms → InRange (term_factor terms f)
  factor-in [] f are = omega arith
  factor-in (term ∷ terms) f are = by (term.field == f) (factor-in terms f (λ k d below. are (suc k) d (omega arith)))
    where
      by : (b : Bool) → InRange (term_factor terms f) → InRange (if b then term.factor else term_factor terms f)
      by true rest = let size = (are 0 term (omega arith)).factor.1 in small-in term.factor (omega (arith, size))
      by false rest = rest

  -- narrowed sets have none but the fields' codes
  narrowed-within : (sets : List ℕ) (field : ℕ) (negated : Bool) (codes : ℕ) → AreWithin sets (whole_sets (shape_of fields))
      → AreWithin (narrowed (shape_of fields) sets field negated codes) (whole_sets (shape_of fields))
  narrowed-within sets field negated codes within = AreWithin-set sets (whole_sets (shape_of fields)) _ _ (and_le_l _ _) within

  module _ (sets : List ℕ) (within : AreWithin sets (whole_sets (shape_of fields))) where
    -- a line with these sets
    parts-line : (number : ℕ → ℤ) (constant : ℤ) (relation : Relation) → (relation ≡ Equal → sets ≡ whole_sets (shape_of fields))
        → ((f : ℕ) → InRange (number f)) → InRange constant
        → none_is_empty sets ≡ true → IsLine (parts_of (shape_of fields) sets (map number (number_fields (shape_of fields))) constant relation)
    parts-line number constant relation whole each last full = record {
      sets = AreSets-within sets (whole_sets (shape_of fields)) full within;
      factors = length-map (number_fields (shape_of fields)) number;
      in_range = (numbers-in number (number_fields (shape_of fields)) each, last);
      whole = whole;
    }

    module _ (e : Linear) (terms : All (IsTerm fields) e.terms) (constant : unsigned_abs e.constant ≤ 10 ^ 15) where
      sum-line : (relation : Relation) → (relation ≡ Equal → sets ≡ whole_sets (shape_of fields))
          → none_is_empty (positive_line_of (shape_of fields) sets e relation).sets ≡ true → IsLine (positive_line_of (shape_of fields) sets e relation)
      sum-line relation whole = reduced-line _ (parts-line (term_factor e.terms) e.constant relation whole (λ f. factor-in e.terms f terms)
          (small-in e.constant constant))

      negative-line : (relation : Relation) → (relation ≡ Equal → sets ≡ whole_sets (shape_of fields))
          → none_is_empty (negative_line_of (shape_of fields) sets e relation).sets ≡ true → IsLine (negative_line_of (shape_of fields) sets e relation)
      negative-line relation whole =
          reduced-line _ (parts-line (λ f. neg_ℤ (term_factor e.terms f)) (neg_ℤ e.constant) relation whole
          (λ f. negative-in (term_factor e.terms f) (factor-in e.terms f terms)) (negative-in e.constant (small-in e.constant constant)))

      same-line : (line other : LineParts) → (none_is_empty other.sets ≡ true → IsLine other) → line ≡ other → none_is_empty line.sets ≡ true → IsLine line
      same-line line other is same = subst (λ (l : LineParts). none_is_empty l.sets ≡ true → IsLine l) (sym same) is

      compare-line : (c : Compare) (line : LineParts) → IsIn line (compare_lines (shape_of fields) sets e c) → none_is_empty line.sets ≡ true → IsLine line
      compare-line Ge line (inl same) = same-line line _ (sum-line AtLeast (λ e. absurd (least_apart e))) same
      compare-line Ge line (inr none) = absurd none
      compare-line Gt line (inl same) = same-line line _ (sum-line Above (λ e. absurd (above_apart e))) same
      compare-line Gt line (inr none) = absurd none
      compare-line Le line (inl same) = same-line line _ (negative-line AtLeast (λ e. absurd (least_apart e))) same
      compare-line Le line (inr none) = absurd none
      compare-line Lt line (inl same) = same-line line _ (negative-line Above (λ e. absurd (above_apart e))) same
      compare-line Lt line (inr none) = absurd none
      compare-line Eq line (inl same) = same-line line _ (sum-line AtLeast (λ e. absurd (least_apart e))) same
      compare-line Eq line (inr (inl same)) = same-line line _ (negative-line AtLeast (λ e. absurd (least_apart e))) same
      compare-line Eq line (inr (inr none)) = absurd none

      contrary-line : (c : Compare) (line : LineParts) → IsIn line (contrary_lines (shape_of fields) sets e c) → none_is_empty line.sets ≡ true → IsLine line
      contrary-line Ge line (inl same) = same-line line _ (negative-line Above (λ e. absurd (above_apart e))) same
      contrary-line Ge line (inr none) = absurd none
      contrary-line Gt line (inl same) = same-line line _ (negative-line AtLeast (λ e. absurd (least_apart e))) same
      contrary-line Gt line (inr none) = absurd none
      contrary-line Le line (inl same) = same-line line _ (sum-line Above (λ e. absurd (above_apart e))) same
      contrary-line Le line (inr none) = absurd none
      contrary-line Lt line (inl same) = same-line line _ (sum-line AtLeast (λ e. absurd (least_apart e))) same
      contrary-line Lt line (inr none) = absurd none
      contrary-line Eq line none = absurd none

    never-line : (line : LineParts) → IsIn line (never (shape_of fields) sets ∷ []) → none_is_empty line.sets ≡ true → IsLine line
    never-line line (inl same) = subst (λ (l : LineParts). none_is_empty l.sets ≡ true → IsLine l) (sym same)
        (λ full. never-is (shape_of fields) sets (AreSets-within sets (whole_sets (shape_of fields)) full within))
    never-line line (inr none) = absurd none

  implied-line : (sets : List ℕ) (conditions : List Test) (conclusion : Test) → AreWithin sets (whole_sets (shape_of fields)) → All (IsTest fields) conditions
      → IsTest fields conclusion
      → (line : LineParts) → IsIn line (implied_lines (shape_of fields) sets conditions conclusion) → none_is_empty line.sets ≡ true → IsLine line
  implied-line sets [] (Number e) within are is = compare-line sets within e is.1 is.2 e.compare
  implied-line sets [] (Codes field negated codes) within are is = never-line _ (narrowed-within sets field (not negated) codes within)
  implied-line sets (Codes field negated codes ∷ conditions) conclusion within are is =
      implied-line (narrowed (shape_of fields) sets field negated codes) conditions conclusion (narrowed-within sets field negated codes within)
      (λ k d below. are (suc k) d (omega arith)) is
  implied-line sets (Number e ∷ conditions) (Codes field negated codes) within are is =
      let first = are 0 (Number e) (omega arith) in contrary-line _ (narrowed-within sets field (not negated) codes within) e first.1 first.2 e.compare
  implied-line sets (Number e ∷ conditions) (Number c) within are is = λ line none. absurd none

  -- of a rule without conditions
  always-line : (conclusion : Test) → IsTest fields conclusion → (line : LineParts) → IsIn line (always_lines (shape_of fields) conclusion)
      → none_is_empty line.sets ≡ true → IsLine line
  always-line (Codes field negated codes) is =
      never-line _ (narrowed-within (whole_sets (shape_of fields)) field (not negated) codes (AreWithin-wholes (whole_sets (shape_of fields))))
  always-line (Number e) is = by e.compare
    where
      within : AreWithin (whole_sets (shape_of fields)) (whole_sets (shape_of fields))
      within = AreWithin-wholes (whole_sets (shape_of fields))

      by : (c : Compare) (line : LineParts) → IsIn line (compare_always (shape_of fields) e c) → none_is_empty line.sets ≡ true → IsLine line
      by Ge = compare-line (whole_sets (shape_of fields)) within e is.1 is.2 Ge
      by Gt = compare-line (whole_sets (shape_of fields)) within e is.1 is.2 Gt
      by Le = compare-line (whole_sets (shape_of fields)) within e is.1 is.2 Le
      by Lt = compare-line (whole_sets (shape_of fields)) within e is.1 is.2 Lt
      by Eq = equal
        where
          equal : (line : LineParts) → IsIn line (positive_line_of (shape_of fields) (whole_sets (shape_of fields)) e Equal ∷ []) → none_is_empty line.sets
              ≡ true → IsLine line
          equal line (inl same) = same-line (whole_sets (shape_of fields)) within e is.1 is.2 line _
              (sum-line (whole_sets (shape_of fields)) within e is.1 is.2 Equal (λ _. refl)) same
          equal line (inr none) = absurd none

  under-line : (conditions : List Test) (conclusion : Test) → All (IsTest fields) conditions → IsTest fields conclusion
      → (line : LineParts) → IsIn line (lines_under (shape_of fields) conditions conclusion) → none_is_empty line.sets ≡ true → IsLine line
  under-line [] conclusion are is = always-line conclusion is
  under-line (condition ∷ conditions) conclusion are is = implied-line (whole_sets (shape_of fields)) (condition ∷ conditions) conclusion
      (AreWithin-wholes (whole_sets (shape_of fields))) are is

  rule-line : (rule : Rule) → IsRule fields rule → (line : LineParts) → IsIn line (rule_lines_of (shape_of fields) rule) → IsLine line
  rule-line rule is line there =
      let (made, full) = in-filter-out (λ (l : LineParts). none_is_empty l.sets) line _ there in
      under-line rule.conditions rule.conclusion is.conditions is.conclusion line made full

pub normal-lines : (survey : SurveyParts) → IsWellFormed survey → All IsLine (normal_lines_of survey)
normal-lines survey formed = all-in IsLine (normal_lines_of survey) (λ line there.
    let (rule, was, made) = in-flat_map-out (λ (rule : Rule). rule_lines_of (shape_of survey.fields) rule) line survey.rules there in
    rule-line survey.fields rule (in-all (IsRule survey.fields) rule survey.rules formed.rules was) line made)

pub normal-over : (survey : SurveyParts) → AreOver (shape_of survey.fields) (normal_lines_of survey)
normal-over survey = subst (λ (ls : List LineParts). AreOver (shape_of survey.fields) ls) (lines-all survey _ refl)
    (lines-over survey (rule_lines_from (shape_of survey.fields) 0 survey.rules) refl)

-- there are at most two for each rule
pub normal-few : (survey : SurveyParts) → IsWellFormed survey → length (normal_lines_of survey) ≤ 1000
normal-few survey formed =
    let numbered = rule_lines_from (shape_of survey.fields) 0 survey.rules in
    let same = ap (λ (ls : List LineParts). length ls) (lines-all survey numbered refl) in
    let long = length-map {B = LineParts} numbered (λ (l : RuleLine). l.line) in
    let most = lines-most (shape_of survey.fields) 0 survey.rules in
    let rules = formed.few_rules in
    omega (arith, same, long, most, rules)
