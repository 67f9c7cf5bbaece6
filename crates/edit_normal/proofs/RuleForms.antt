use Rattle.std.proofs.Common.{◌≡◌, ◌↔◌, ℕ, zero, suc, ◌+◌, ◌<◌, ◌≤◌, ◌++◌, drop, add-one, append_assoc, append-nil, ◌==◌, if◌then◌else◌, Bool, true, false, inl}
use Rattle.std.proofs.Common.{inr, Some, IsSomeAnd, slice_get, slice_index, List, [], ◌∷◌, All, get_or, length, map, pos, refl, sym, ap, ◌∙◌, subst, arith}
use Rattle.std.specs.List.{count_by}
use Rattle.std.proofs.Math.Seq.{drop-cons}
use Rattle.std.specs.List.Sorted.{IsStrictlyIncreasing}
use Rattle.std.proofs.lemmas.Bool.Decides.{Decides-eqb}
use Rattle.std.proofs.lemmas.List.{drop_all, get_or-map, length-map}
use Rattle.std.proofs.lemmas.List.Kept.{AllPairs-from_increasing}
use Rattle.edit_model.specs.Points.{HasCodesFrom, Holds, Point}
use Rattle.edit_model.specs.Surveys.{IsSetOf, HasForm, IsCodeTest, IsNumber, IsOrderTest, IsRule, IsTerm, IsTest}
use Rattle.edit_model.specs.declared.field.Field.{Field}
use Rattle.edit_model.specs.declared.rule.Rule.{Rule}
use Rattle.edit_model.specs.declared.rule.Term.{Term}
use Rattle.edit_model.specs.declared.rule.Test.{Test}
use Rattle.edit_model.specs.declared.rule.Test.TheVariants.{Number, Codes}
use Rattle.edit_line.specs.Lines.{AllHold}
use Rattle.edit_line.specs.Shapes.{Domain, code_fields, has_field, number_fields, shape_of}
use Rattle.edit_line.proofs.ShapeLaws.{HasCodes-shape, codes-there, number-there}
use Rattle.edit_normal.specs.inner.Fits.{FitsCodes}
use Rattle.edit_normal.specs.NormalForm.{all_lines_of, rule_lines_of, term_factor}
use Rattle.edit_normal.specs.inner.Sides.{joined_by}
use Rattle.edit_normal.specs.declared.rule_line.RuleLine.{RuleLine}
use Rattle.edit_normal.specs.RuleLines.{LinesHold, rule_lines_from, numbered}
use Rattle.edit_normal.proofs.NormalLaws.{FitsRule, FitsTest, lines-at, lines-few, normal-Decides}
use Rattle.edit_normal.proofs.SumLaws.{HasTerms}

-- A rule of a survey, by the survey's shape.

-- a field before all terms has none
no-term : (n : ℕ) (terms : List Term) → All (λ (t : Term). n < t.field) terms → term_factor terms n ≡ pos 0
no-term n [] later = refl
no-term n (t ∷ terms) later = by (t.field == n) refl (no-term n terms (λ k d below. later (suc k) d (omega arith)))
  where
    by : (b : Bool) → (t.field == n) ≡ b → term_factor terms n ≡ pos 0 → (if b then t.factor else term_factor terms n) ≡ pos 0
    by true e rest =
        let same = (Decides-eqb t.field n).0 e in
        let after = later 0 t (omega arith) in absurd (omega arith)
    by false e rest = rest

-- the terms after the first are on later fields
later-terms : (t : Term) (terms : List Term) → IsStrictlyIncreasing (map (λ (u : Term). u.field) (t ∷ terms)) → All (λ (u : Term). t.field < u.field) terms
later-terms t terms rises k d below =
    let pairs = AllPairs-from_increasing (map (λ (u : Term). u.field) (t ∷ terms)) rises 0 (suc k) 0 (omega arith)
    (omega (arith, length-map terms (λ (u : Term). u.field))) in
    omega (arith, pairs, get_or-map (λ (u : Term). u.field) terms k d 0 below)

rest-rises : (n : ℕ) (ns : List ℕ) → IsStrictlyIncreasing (n ∷ ns) → IsStrictlyIncreasing ns
rest-rises n ns rises k below =
    let next : suc k + 1 ≡ suc (k + 1) = omega arith in subst (λ m. slice_index ns k < slice_index (n ∷ ns) m) next (rises (suc k) (omega arith))

-- a field of each kind, by its own number
numerical : (fields : List Field) (k : ℕ) → IsSomeAnd (slice_get fields k) (λ (f : Field). IsNumber f.kind) → has_field (number_fields (shape_of fields)) k
    ≡ true
numerical fields k there =
    let same : 0 + k ≡ k = omega arith in subst (λ n. has_field (number_fields (shape_of fields)) n ≡ true) same (number-there 0 k fields there)

categorical : (fields : List Field) (k set : ℕ) → IsSomeAnd (slice_get fields k) (λ (f : Field). IsSetOf f.kind set)
    → has_field (code_fields (shape_of fields)) k ≡ true
categorical fields k set there =
    let same : 0 + k ≡ k = omega arith in subst (λ n. has_field (code_fields (shape_of fields)) n ≡ true) same (codes-there 0 k set fields there)

has-terms : (fields : List Field) (terms : List Term) → IsStrictlyIncreasing (map (λ (u : Term). u.field) terms) → All (IsTerm fields) terms
    → HasTerms (shape_of fields) terms
has-terms fields [] rises are = tt
has-terms fields (t ∷ terms) rises are = (
  numerical fields t.field (are 0 t (omega arith)).numerical,
  no-term t.field terms (later-terms t terms rises),
  has-terms fields terms (rest-rises t.field (map (λ (u : Term). u.field) terms) rises) (λ k d below. are (suc k) d (omega arith)),
)

module _ (fields : List Field) where
  fits-test : (t : Test) → IsTest fields t → FitsTest (shape_of fields) t
  fits-test (Number e) is = has-terms fields e.terms is.0 is.1
  fits-test (Codes field negated codes) is = categorical fields field codes is

  -- a code test of the survey is on a categorical field
  pub fits-codes : (t : Test) → IsTest fields t → FitsCodes (shape_of fields) t
  fits-codes (Number e) is = tt
  fits-codes (Codes field negated codes) is = categorical fields field codes is

  pub all-codes : (tests : List Test) → All (IsTest fields) tests → All (FitsCodes (shape_of fields)) tests
  all-codes tests are k d below = fits-codes (get_or tests k d) (are k d below)

  by-codes : (conditions : List Test) (conclusion : Test) → All (IsTest fields) conditions → All IsCodeTest conditions → IsTest fields conclusion
      → FitsRule (shape_of fields) conditions conclusion
  by-codes [] conclusion are codes is = fits-test conclusion is
  by-codes (Number e ∷ conditions) conclusion are codes is = absurd (codes 0 (Number e) (omega arith))
  by-codes (Codes field negated set ∷ conditions) conclusion are codes is = (
    categorical fields field set (are 0 (Codes field negated set) (omega arith)),
    by-codes conditions conclusion (λ k d below. are (suc k) d (omega arith)) (λ k d below. codes (suc k) d (omega arith)) is,
  )

  by-order : (t conclusion : Test) → IsTest fields t → IsOrderTest t → IsCodeTest conclusion → IsTest fields conclusion
      → FitsRule (shape_of fields) (t ∷ []) conclusion
  by-order (Number e) (Codes field negated set) is order code also = (has-terms fields e.terms is.0 is.1, order, categorical fields field set also)
  by-order (Number e) (Number c) is order code also = absurd code
  by-order (Codes field negated set) conclusion is order code also = absurd order

  -- a rule of the survey fits its shape
  pub fits-rule : (rule : Rule) → IsRule fields rule → FitsRule (shape_of fields) rule.conditions rule.conclusion
  fits-rule rule is = by is.form
    where
      by : HasForm rule → FitsRule (shape_of fields) rule.conditions rule.conclusion
      by (inl codes) = by-codes rule.conditions rule.conclusion is.conditions codes is.conclusion
      by (inr (t, alone, order, code)) =
          let first : IsTest fields t = (subst (λ (ts : List Test). All (IsTest fields) ts) alone is.conditions) 0 t (omega arith) in
          subst (λ (ts : List Test). FitsRule (shape_of fields) ts rule.conclusion) (sym alone) (by-order t rule.conclusion first order code is.conclusion)

  at-place : (rules : List Rule) (i : ℕ) (rule : Rule) → slice_get rules i ≡ Some rule → All (IsRule fields) rules → IsRule fields rule
  at-place [] i rule there all = absurd (cc)
  at-place (r ∷ rules) zero rule there all = let same : r ≡ rule = cc in subst (λ (s : Rule). IsRule fields s) same (all 0 r (omega arith))
  at-place (r ∷ rules) (suc i) rule there all = at-place rules i rule there (λ k d below. all (suc k) d (omega arith))

  -- the lines of a rule all hold at a point exactly where the rule does
  pub lines-same : (rules : List Rule) (i : ℕ) (rule : Rule) (p : Point) → All (IsRule fields) rules → slice_get rules i ≡ Some rule → HasCodesFrom 0 fields p
      → LinesHold (rule_lines_from (shape_of fields) 0 rules) i p ↔ Holds rule p
  lines-same rules i rule p all there held =
      let number : 0 + i ≡ i = omega arith in
      let at = subst (λ n. LinesHold (rule_lines_from (shape_of fields) 0 rules) n p ↔ AllHold (rule_lines_of (shape_of fields) rule) p) number
      (lines-at (shape_of fields) p 0 i rules rule there) in
      let truth = normal-Decides (shape_of fields) rule p (fits-rule rule (at-place rules i rule there all)) (HasCodes-shape 0 fields p held) in
      (λ holds. truth.1 (at.0 holds), λ holds. at.1 (truth.0 holds))

-- ---- what the loop over the rules needs

-- the code tests of a rule of the survey are on categorical fields
pub rule-codes : (fields : List Field) (rules seen : List Rule) (shape : List Domain) (i : ℕ) (rule : Rule) → shape ≡ shape_of fields → seen ≡ rules
    → All (IsRule fields) rules → i < length seen → rule ≡ get_or seen i rule
    → All (FitsCodes shape) rule.conditions × FitsCodes shape rule.conclusion
rule-codes fields rules seen shape i rule shape_is same all below here =
    let is : IsRule fields rule = subst (λ (r : Rule). IsRule fields r) (sym here) ((subst (λ (rs : List Rule). All (IsRule fields) rs) (sym same) all) i rule
    below) in
    subst (λ (s : List Domain). All (FitsCodes s) rule.conditions × FitsCodes s rule.conclusion) (sym shape_is)
    (all-codes fields rule.conditions is.conditions, fits-codes fields rule.conclusion is.conclusion)

-- one rule more
pub rule-more : (shape own : List Domain) (rules seen : List Rule) (i : ℕ) (rule : Rule) (before after whole : List RuleLine) → own ≡ shape → seen ≡ rules
    → i < length seen → rule ≡ get_or seen i rule
    → after ≡ joined_by before i (all_lines_of own rule) → before ++ rule_lines_from shape i (drop i rules) ≡ whole → after
    ++ rule_lines_from shape (i + 1) (drop (i + 1) rules) ≡ whole
rule-more shape own rules seen i rule before after whole own_is same below here pushed invariant =
    let own_lines : after ≡ before ++ numbered i (rule_lines_of shape rule) = pushed ∙ ap (λ (s : List Domain). before ++ numbered i (rule_lines_of s rule))
    own_is in
    let within : i < length rules = omega (arith, ap length same) in
    let split : drop i rules ≡ rule ∷ drop (suc i) rules = drop-cons rules i rule within ∙ ap (λ (r : Rule). r ∷ drop (suc i) rules)
    (ap (λ (rs : List Rule). get_or rs i rule) (sym same) ∙ sym here) in
    rw (add-one) (ap (λ (ls : List RuleLine). ls ++ rule_lines_from shape (suc i) (drop (suc i) rules)) own_lines
    ∙ append_assoc before (numbered i (rule_lines_of shape rule)) (rule_lines_from shape (suc i) (drop (suc i) rules))
    ∙ ap (λ (rs : List Rule). before ++ rule_lines_from shape i rs) (sym split) ∙ invariant)

-- past the last rule
pub rules-end : (shape : List Domain) (rules : List Rule) (i : ℕ) (lines whole : List RuleLine) → length rules ≤ i → lines
    ++ rule_lines_from shape i (drop i rules) ≡ whole → lines ≡ whole
rules-end shape rules i lines whole past invariant = sym (append-nil lines) ∙ ap (λ (rs : List Rule). lines ++ rule_lines_from shape i rs)
    (sym (drop_all i rules past)) ∙ invariant

-- what is said of the lines of all rules
pub lines-answered : (fields : List Field) (rules : List Rule) (lines : List RuleLine) → lines ≡ rule_lines_from (shape_of fields) 0 rules
    → All (IsRule fields) rules
    → (i : ℕ) (rule : Rule) (p : Point) → slice_get rules i ≡ Some rule → HasCodesFrom 0 fields p → LinesHold lines i p ↔ Holds rule p
lines-answered fields rules lines is all i rule p there held = subst (λ (ls : List RuleLine). LinesHold ls i p ↔ Holds rule p) (sym is)
    (lines-same fields rules i rule p all there held)

pub few-answered : (shape : List Domain) (rules : List Rule) (lines : List RuleLine) → lines ≡ rule_lines_from shape 0 rules → (i : ℕ)
    → count_by (λ (l : RuleLine). l.rule == i) lines ≤ 2
few-answered shape rules lines is i = subst (λ (ls : List RuleLine). count_by (λ (l : RuleLine). l.rule == i) ls ≤ 2) (sym is) (lines-few shape 0 i rules)
