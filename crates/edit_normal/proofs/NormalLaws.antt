use Rattle.std.proofs.Common.{◌≡◌, ◌≢◌, ◌↔◌, ℕ, zero, suc, ◌+◌, ◌*◌, ◌<◌, ◌≤◌, ◌==◌, cond, Some, slice_get, ◌++◌, ◌&&◌, ◌||◌, not, Bool, true, false, List, []}
use Rattle.std.proofs.Common.{◌∷◌, All, length, refl, sym, ap, ◌∙◌, subst, arith}
use Rattle.std.specs.Bool.{Decides}
use Rattle.std.specs.List.{count_by, filter, list_any}
use Rattle.std.proofs.lemmas.Bool.Decides.{Decides-eqb}
use Rattle.std.proofs.lemmas.List.Sums.{count_by-le-length, length-filter, sum_by-append, sum_by-cons}
use Rattle.std.proofs.lemmas.List.Elements.{All-cons}
use Rattle.std.proofs.lemmas.List.{length-append, length-map}
use Rattle.edit_model.specs.Points.{Point, compares, has_code, linear_sum, rule_holds, test_holds}
use Rattle.edit_model.specs.declared.rule.Compare.{Compare}
use Rattle.edit_model.specs.declared.rule.Compare.TheVariants.{Ge, Gt, Le, Lt, Eq}
use Rattle.edit_model.specs.declared.rule.Linear.{Linear}
use Rattle.edit_model.specs.declared.rule.Rule.{Rule}
use Rattle.edit_model.specs.declared.rule.Test.{Test}
use Rattle.edit_model.specs.declared.rule.Test.TheVariants.{Number, Codes}
use Rattle.edit_line.specs.Divisors.{reduced}
use Rattle.edit_line.specs.Lines.{AllHold, AreOver, LineHolds, LineParts}
use Rattle.edit_line.specs.Reductions.{IsIn}
use Rattle.edit_line.specs.Sets.{none_is_empty, are_codes_in}
use Rattle.edit_line.specs.Shapes.{Domain, HasCodes, code_fields, codes_at, has_field, whole_sets}
use Rattle.edit_line.proofs.ShapeLaws.{length-wholes}
use Rattle.edit_line.proofs.Members.{all-in, in-all, in-filter, in-filter-out}
use Rattle.edit_normal.specs.NormalForm.{all_lines_of, always_lines, compare_always, compare_lines, contrary_lines, implied_lines, lines_under, narrowed}
use Rattle.edit_normal.specs.NormalForm.{rule_lines_of}
use Rattle.edit_normal.specs.RuleLines.{LinesHold, rule_lines_from, numbered}
use Rattle.edit_normal.specs.declared.rule_line.RuleLine.{RuleLine}
use Rattle.edit_normal.proofs.LineSteps.{always-Decides, compare-Decides, contrary-Decides, empty-holds, one-Decides}
use Rattle.edit_line.proofs.NegationLaws.{never-Decides}
use Rattle.edit_normal.proofs.SumLaws.{HasTerms}
use Rattle.edit_normal.proofs.TestSets.{narrowed-inside, narrowed-length, whole-inside}

-- The lines of a rule hold at a point exactly where the rule does.

-- a test fits the fields
abbrev pub FitsTest : List Domain → Test → Type 0
FitsTest shape (Number e) = HasTerms shape e.terms
FitsTest shape (Codes field negated codes) = has_field (code_fields shape) field ≡ true

-- a comparison as the only condition implies a code test
abbrev pub FitsCondition : List Domain → Linear → List Test → Test → Type 0
FitsCondition shape e [] (Codes field negated codes) = HasTerms shape e.terms × (e.compare ≢ Eq) × (has_field (code_fields shape) field ≡ true)
FitsCondition shape e _ _ = ⊥

-- each test fits the fields, and the rule has a form that the editor takes
abbrev pub FitsRule : List Domain → List Test → Test → Type 0
FitsRule shape [] conclusion = FitsTest shape conclusion
FitsRule shape (Codes field negated codes ∷ conditions) conclusion = (has_field (code_fields shape) field ≡ true) × FitsRule shape conditions conclusion
FitsRule shape (Number e ∷ conditions) conclusion = FitsCondition shape e conditions conclusion

module _ (shape : List Domain) (p : Point) (held : HasCodes 0 shape p) where
  -- a negated test is true where the test is not
  turned-test : (field : ℕ) (negated : Bool) (codes : ℕ) → test_holds (Codes field (not negated) codes) p ≡ not (test_holds (Codes field negated codes) p)
  turned-test field true codes = twice (has_code codes (p.code field))
    where
      twice : (b : Bool) → b ≡ not (not b)
      twice true = refl
      twice false = refl
  turned-test field false codes = refl

  other : {P : Type 0} (a b : Bool) → a ≡ b → Decides a P → Decides b P
  other {P} a b e d = subst (λ (c : Bool). Decides c P) e d

  -- what the lines say: some code is outside its set, or a condition is false, or the conclusion is true
  pub implied-Decides : (sets : List ℕ) (conditions : List Test) (conclusion : Test) → length sets ≡ length (code_fields shape)
      → FitsRule shape conditions conclusion
      → Decides (not (are_codes_in sets (codes_at shape p)) || (list_any (λ (t : Test). not (test_holds t p)) conditions || test_holds conclusion p))
      (AllHold (implied_lines shape sets conditions conclusion) p)
  implied-Decides sets [] (Number e) same fits = compare-Decides shape sets e p fits e.compare
  implied-Decides sets [] (Codes field negated codes) same fits =
      one-Decides _ _ p (other _ _ (ap not (narrowed-inside shape sets field (not negated) codes p same fits held)
      ∙ ap (λ b. not (are_codes_in sets (codes_at shape p) && b)) (turned-test field negated codes)
      ∙ opened (are_codes_in sets (codes_at shape p)) (test_holds (Codes field negated codes) p))
      (never-Decides shape (narrowed shape sets field (not negated) codes) p))
    where
      opened : (i t : Bool) → not (i && not t) ≡ (not i || t)
      opened true true = refl
      opened true false = refl
      opened false t = refl
  implied-Decides sets (Codes field negated codes ∷ conditions) conclusion same fits =
      other _ _ (ap (λ b. not b || (list_any (λ (t : Test). not (test_holds t p)) conditions || test_holds conclusion p))
      (narrowed-inside shape sets field negated codes p same fits.0 held) ∙ opened (are_codes_in sets (codes_at shape p))
      (test_holds (Codes field negated codes) p) _ _)
      (implied-Decides (narrowed shape sets field negated codes) conditions conclusion (narrowed-length shape sets field negated codes ∙ same) fits.1)
    where
      opened : (i t r q : Bool) → (not (i && t) || (r || q)) ≡ (not i || ((not t || r) || q))
      opened true true r q = refl
      opened true false r q = refl
      opened false t r q = refl
  implied-Decides sets (Number e ∷ []) (Codes field negated codes) same fits =
      other _ _ (ap (λ b. not b || not (compares e.compare (linear_sum e p))) (narrowed-inside shape sets field (not negated) codes p same fits.2 held)
      ∙ ap (λ b. not (are_codes_in sets (codes_at shape p) && b) || not (compares e.compare (linear_sum e p))) (turned-test field negated codes)
      ∙ opened (are_codes_in sets (codes_at shape p)) (test_holds (Codes field negated codes) p) (compares e.compare (linear_sum e p)))
      (contrary-Decides shape (narrowed shape sets field (not negated) codes) e p fits.0 e.compare fits.1)
    where
      opened : (i t c : Bool) → (not (i && not t) || not c) ≡ (not i || ((not c || false) || t))
      opened true true true = refl
      opened true true false = refl
      opened true false true = refl
      opened true false false = refl
      opened false t c = refl
  implied-Decides sets (Number e ∷ []) (Number c) same fits = absurd fits
  implied-Decides sets (Number e ∷ (t ∷ conditions)) (Number c) same fits = absurd fits
  implied-Decides sets (Number e ∷ (t ∷ conditions)) (Codes field negated codes) same fits = absurd fits

-- ---- each line has the rule's shape, and a set for each categorical field

module _ (shape : List Domain) where
  -- a line over these fields
  IsOver : LineParts → Type 0
  IsOver line = (line.shape ≡ shape) × (length line.sets ≡ length (code_fields shape))

  one-over : (line : LineParts) → IsOver line → All IsOver (line ∷ [])
  one-over line is zero d below = is
  one-over line is (suc k) d below = absurd (omega arith)

  two-over : (line next : LineParts) → IsOver line → IsOver next → All IsOver (line ∷ next ∷ [])
  two-over line next is also zero d below = is
  two-over line next is also (suc zero) d below = also
  two-over line next is also (suc (suc k)) d below = absurd (omega arith)

  compare-over : (sets : List ℕ) (e : Linear) (c : Compare) → length sets ≡ length (code_fields shape) → All IsOver (compare_lines shape sets e c)
  unfolding reduced IsOver
  compare-over sets e Ge same = one-over _ (refl, same)
  compare-over sets e Gt same = one-over _ (refl, same)
  compare-over sets e Le same = one-over _ (refl, same)
  compare-over sets e Lt same = one-over _ (refl, same)
  compare-over sets e Eq same = two-over _ _ (refl, same) (refl, same)

  contrary-over : (sets : List ℕ) (e : Linear) (c : Compare) → length sets ≡ length (code_fields shape) → All IsOver (contrary_lines shape sets e c)
  unfolding reduced IsOver
  contrary-over sets e Ge same = one-over _ (refl, same)
  contrary-over sets e Gt same = one-over _ (refl, same)
  contrary-over sets e Le same = one-over _ (refl, same)
  contrary-over sets e Lt same = one-over _ (refl, same)
  contrary-over sets e Eq same = λ k d below. absurd (omega arith)

  implied-over : (sets : List ℕ) (conditions : List Test) (conclusion : Test) → length sets ≡ length (code_fields shape)
      → All IsOver (implied_lines shape sets conditions conclusion)
  unfolding IsOver
  implied-over sets [] (Number e) same = compare-over sets e e.compare same
  implied-over sets [] (Codes field negated codes) same = one-over _ (refl, narrowed-length shape sets field (not negated) codes ∙ same)
  implied-over sets (Codes field negated codes ∷ conditions) conclusion same = implied-over (narrowed shape sets field negated codes) conditions conclusion
      (narrowed-length shape sets field negated codes ∙ same)
  implied-over sets (Number e ∷ conditions) (Codes field negated codes) same = contrary-over (narrowed shape sets field (not negated) codes) e e.compare
      (narrowed-length shape sets field (not negated) codes ∙ same)
  implied-over sets (Number e ∷ conditions) (Number c) same = λ k d below. absurd (omega arith)

  -- lines with an empty set may be left out
  without-empty : (lines : List LineParts) (p : Point) → All IsOver lines → AllHold lines p ↔ AllHold
      (filter (λ (line : LineParts). none_is_empty line.sets) lines) p
  unfolding IsOver
  without-empty lines p over = (
    λ holds. all-in (λ line. LineHolds line p) _ (λ line there. in-all (λ line. LineHolds line p) line lines holds
        (in-filter-out (λ (l : LineParts). none_is_empty l.sets) line lines there).0),
    λ holds. all-in (λ line. LineHolds line p) lines (λ line there. by line there (none_is_empty line.sets) refl holds),
  )
    where
      by : (line : LineParts) → IsIn line lines → (b : Bool) → none_is_empty line.sets ≡ b
          → AllHold (filter (λ (line : LineParts). none_is_empty line.sets) lines) p → LineHolds line p
      by line there true e holds = in-all (λ line. LineHolds line p) line _ holds (in-filter (λ (l : LineParts). none_is_empty l.sets) line lines e there)
      by line there false e holds =
          let is = in-all (λ (l : LineParts). (l.shape ≡ shape) × (length l.sets ≡ length (code_fields shape))) line lines over there in
          empty-holds line p (is.1 ∙ ap (λ (s : List Domain). length (code_fields s)) (sym is.0) ∙ sym (length-map (code_fields line.shape) p.code)) e

-- so have those of a rule without conditions
always-over : (shape : List Domain) (conclusion : Test) → All (IsOver shape) (always_lines shape conclusion)
unfolding reduced IsOver
always-over shape (Codes field negated codes) = implied-over shape (whole_sets shape) [] (Codes field negated codes) (length-wholes 0 shape)
always-over shape (Number e) = by e.compare
  where
    by : (c : Compare) → All (IsOver shape) (compare_always shape e c)
    by Ge = compare-over shape (whole_sets shape) e Ge (length-wholes 0 shape)
    by Gt = compare-over shape (whole_sets shape) e Gt (length-wholes 0 shape)
    by Le = compare-over shape (whole_sets shape) e Le (length-wholes 0 shape)
    by Lt = compare-over shape (whole_sets shape) e Lt (length-wholes 0 shape)
    by Eq = one-over shape _ (refl, length-wholes 0 shape)

under-over : (shape : List Domain) (conditions : List Test) (conclusion : Test) → All (IsOver shape) (lines_under shape conditions conclusion)
under-over shape [] conclusion = always-over shape conclusion
under-over shape (condition ∷ conditions) conclusion = implied-over shape (whole_sets shape) (condition ∷ conditions) conclusion (length-wholes 0 shape)

-- the lines of a rule are over the fields of the shape
pub rule-own : (shape : List Domain) (rule : Rule) → AreOver shape (all_lines_of shape rule)
unfolding IsOver
rule-own shape rule k d below = (under-over shape rule.conditions rule.conclusion k d below).0

-- what the lines of a rule say: a condition is false, or the conclusion is true
under-Decides : (shape : List Domain) (conditions : List Test) (conclusion : Test) (p : Point) → FitsRule shape conditions conclusion → HasCodes 0 shape p
    → Decides (list_any (λ (t : Test). not (test_holds t p)) conditions || test_holds conclusion p) (AllHold (lines_under shape conditions conclusion) p)
under-Decides shape conditions conclusion p fits held = by conditions conclusion fits
  where
    inside : are_codes_in (whole_sets shape) (codes_at shape p) ≡ true
    inside = whole-inside 0 shape p held

    implied : (conditions : List Test) (conclusion : Test) → FitsRule shape conditions conclusion
        → Decides (list_any (λ (t : Test). not (test_holds t p)) conditions || test_holds conclusion p)
        (AllHold (implied_lines shape (whole_sets shape) conditions conclusion) p)
    implied conditions conclusion fits =
        subst (λ (i : Bool). Decides (not i || (list_any (λ (t : Test). not (test_holds t p)) conditions || test_holds conclusion p))
        (AllHold (implied_lines shape (whole_sets shape) conditions conclusion) p)) inside
        (implied-Decides shape p held (whole_sets shape) conditions conclusion (length-wholes 0 shape) fits)

    by : (conditions : List Test) (conclusion : Test) → FitsRule shape conditions conclusion
        → Decides (list_any (λ (t : Test). not (test_holds t p)) conditions || test_holds conclusion p) (AllHold (lines_under shape conditions conclusion) p)
    by [] (Number e) fits = always-Decides shape (whole_sets shape) e p fits e.compare refl inside
    by [] (Codes field negated codes) fits = implied [] (Codes field negated codes) fits
    by (condition ∷ conditions) conclusion fits = implied (condition ∷ conditions) conclusion fits

-- the lines of a rule all hold at a point exactly where the rule does
pub normal-Decides : (shape : List Domain) (rule : Rule) (p : Point) → FitsRule shape rule.conditions rule.conclusion → HasCodes 0 shape p
    → Decides (rule_holds rule p) (AllHold (rule_lines_of shape rule) p)
normal-Decides shape rule p fits held =
    let all = under-Decides shape rule.conditions rule.conclusion p fits held in
    let filtered = without-empty shape _ p (under-over shape rule.conditions rule.conclusion) in
    (λ h. filtered.0 (all.0 h), λ holds. all.1 (filtered.1 holds))

-- ---- the lines of all rules

module _ (shape : List Domain) (p : Point) where
  -- the lines of one rule, under its own number
  own-lines : (i : ℕ) (lines : List LineParts) → LinesHold (numbered i lines) i p → AllHold lines p
  own-lines i [] holds k d below = absurd (omega arith)
  own-lines i (line ∷ lines) holds zero d below = holds 0 (record { rule = i; line = line }) (omega arith) refl
  own-lines i (line ∷ lines) holds (suc k) d below = own-lines i lines (λ j e under. holds (suc j) e (omega arith)) k d (omega arith)

  numbered-hold : (i j : ℕ) (lines : List LineParts) → (i ≡ j → AllHold lines p) → LinesHold (numbered i lines) j p
  numbered-hold i j [] hold k d below = absurd (omega arith)
  numbered-hold i j (line ∷ lines) hold zero d below = λ same. hold same 0 line (omega arith)
  numbered-hold i j (line ∷ lines) hold (suc k) d below = numbered-hold i j lines (λ same m e under. hold same (suc m) e (omega arith)) k d (omega arith)

  first-part : (i : ℕ) (first second : List RuleLine) → LinesHold (first ++ second) i p → LinesHold first i p
  first-part i [] second holds k d below = absurd (omega arith)
  first-part i (l ∷ first) second holds zero d below = holds 0 l (omega arith)
  first-part i (l ∷ first) second holds (suc k) d below = first-part i first second (λ j e under. holds (suc j) e (omega arith)) k d (omega arith)

  second-part : (i : ℕ) (first second : List RuleLine) → LinesHold (first ++ second) i p → LinesHold second i p
  second-part i [] second holds = holds
  second-part i (l ∷ first) second holds = second-part i first second (λ j e under. holds (suc j) e (omega arith))

  both-parts : (i : ℕ) (first second : List RuleLine) → LinesHold first i p → LinesHold second i p → LinesHold (first ++ second) i p
  both-parts i [] second one two = two
  both-parts i (l ∷ first) second one two =
      All-cons (λ (m : RuleLine). m.rule ≡ i → LineHolds m.line p) l (first ++ second) (one 0 l (omega arith))
      (both-parts i first second (λ j e under. one (suc j) e (omega arith)) two)

  -- no line of a later rule has an earlier number
  later-lines : (i j : ℕ) (rules : List Rule) → j < i → LinesHold (rule_lines_from shape i rules) j p
  later-lines i j [] before = λ k d below. absurd (omega arith)
  later-lines i j (rule ∷ rules) before = both-parts j (numbered i (rule_lines_of shape rule)) _ (numbered-hold i j _ (λ same. absurd (omega arith)))
      (later-lines (suc i) j rules (omega arith))

  -- the lines with a rule's number hold exactly where the rule's lines do
  pub lines-at : (i k : ℕ) (rules : List Rule) (rule : Rule) → slice_get rules k ≡ Some rule
      → LinesHold (rule_lines_from shape i rules) (i + k) p ↔ AllHold (rule_lines_of shape rule) p
  lines-at i k [] rule there = absurd (cc)
  lines-at i zero (r ∷ rules) rule there =
      let same : r ≡ rule = cc in
      let number : i + 0 ≡ i = omega arith in
      subst (λ n. LinesHold (rule_lines_from shape i (r ∷ rules)) n p ↔ AllHold (rule_lines_of shape rule) p) (sym number) (
        λ holds. subst (λ (s : Rule). AllHold (rule_lines_of shape s) p) same (own-lines i _ (first-part i (numbered i (rule_lines_of shape r)) _ holds)),
        λ holds. both-parts i (numbered i (rule_lines_of shape r)) _
            (numbered-hold i i _ (λ _. subst (λ (s : Rule). AllHold (rule_lines_of shape s) p) (sym same) holds)) (later-lines (suc i) i rules (omega arith)),
      )
  lines-at i (suc k) (r ∷ rules) rule there =
      let number : suc i + k ≡ i + suc k = omega arith in
      let rest = subst (λ n. LinesHold (rule_lines_from shape (suc i) rules) n p ↔ AllHold (rule_lines_of shape rule) p) number
      (lines-at (suc i) k rules rule there) in (
        λ holds. rest.0 (second-part (i + suc k) (numbered i (rule_lines_of shape r)) _ holds),
        λ holds. both-parts (i + suc k) (numbered i (rule_lines_of shape r)) _ (numbered-hold i (i + suc k) _ (λ same. absurd (omega arith))) (rest.1 holds),
      )

-- ---- at most two lines a rule

-- filtering makes no list longer
filtered-few : (lines : List LineParts) → length lines ≤ 2 → length (filter (λ (l : LineParts). none_is_empty l.sets) lines) ≤ 2
filtered-few lines few = omega (
  arith,
  length-filter (λ (l : LineParts). none_is_empty l.sets) lines,
  count_by-le-length (λ (l : LineParts). none_is_empty l.sets) lines,
)

implied-few : (shape : List Domain) (sets : List ℕ) (conditions : List Test) (conclusion : Test) → length (implied_lines shape sets conditions conclusion) ≤ 2
implied-few shape sets [] (Number e) = by e.compare
  where
    by : (c : Compare) → length (compare_lines shape sets e c) ≤ 2
    by Ge = omega arith
    by Gt = omega arith
    by Le = omega arith
    by Lt = omega arith
    by Eq = omega arith
implied-few shape sets [] (Codes field negated codes) = omega arith
implied-few shape sets (Codes field negated codes ∷ conditions) conclusion = implied-few shape (narrowed shape sets field negated codes) conditions conclusion
implied-few shape sets (Number e ∷ conditions) (Number c) = omega arith
implied-few shape sets (Number e ∷ conditions) (Codes field negated codes) = by e.compare
  where
    by : (c : Compare) → length (contrary_lines shape (narrowed shape sets field (not negated) codes) e c) ≤ 2
    by Ge = omega arith
    by Gt = omega arith
    by Le = omega arith
    by Lt = omega arith
    by Eq = omega arith

always-few : (shape : List Domain) (conclusion : Test) → length (always_lines shape conclusion) ≤ 2
always-few shape (Codes field negated codes) = omega arith
always-few shape (Number e) = by e.compare
  where
    by : (c : Compare) → length (compare_always shape e c) ≤ 2
    by Ge = omega arith
    by Gt = omega arith
    by Le = omega arith
    by Lt = omega arith
    by Eq = omega arith

under-few : (shape : List Domain) (conditions : List Test) (conclusion : Test) → length (lines_under shape conditions conclusion) ≤ 2
under-few shape [] conclusion = always-few shape conclusion
under-few shape (condition ∷ conditions) conclusion = implied-few shape (whole_sets shape) (condition ∷ conditions) conclusion

own-few : (shape : List Domain) (rule : Rule) → length (rule_lines_of shape rule) ≤ 2
own-few shape rule = filtered-few (all_lines_of shape rule) (under-few shape rule.conditions rule.conclusion)

-- there are at most twice as many lines as rules
pub lines-most : (shape : List Domain) (i : ℕ) (rules : List Rule) → length (rule_lines_from shape i rules) ≤ 2 * length rules
lines-most shape i [] = omega arith
lines-most shape i (rule ∷ rules) =
    omega (
      arith,
      length-append (numbered i (rule_lines_of shape rule)) (rule_lines_from shape (suc i) rules),
      length-map {B = RuleLine} (rule_lines_of shape rule) (λ (line : LineParts). record { rule = i; line = line }),
      own-few shape rule,
      lines-most shape (suc i) rules,
    )

count-append : (test : RuleLine → Bool) (first second : List RuleLine) → count_by test (first ++ second) ≡ count_by test first + count_by test second
count-append test first second = sum_by-append (λ (l : RuleLine). cond (test l) 1 0) first second

count-other : (i j : ℕ) (lines : List LineParts) → i ≢ j → count_by (λ (l : RuleLine). l.rule == j) (numbered i lines) ≡ 0
count-other i j [] apart = refl
count-other i j (line ∷ lines) apart = sum_by-cons (λ (l : RuleLine). cond (l.rule == j) 1 0) (record { rule = i; line = line }) (numbered i lines)
    ∙ by (i == j) refl (count-other i j lines apart)
  where
    by : (b : Bool) → (i == j) ≡ b → count_by (λ (l : RuleLine). l.rule == j) (numbered i lines) ≡ 0
        → cond b 1 0 + count_by (λ (l : RuleLine). l.rule == j) (numbered i lines) ≡ 0
    by true e none = absurd (apart ((Decides-eqb i j).0 e))
    by false e none = omega arith

count-later : (shape : List Domain) (i j : ℕ) (rules : List Rule) → j < i → count_by (λ (l : RuleLine). l.rule == j) (rule_lines_from shape i rules) ≡ 0
count-later shape i j [] before = refl
count-later shape i j (rule ∷ rules) before =
    count-append (λ (l : RuleLine). l.rule == j) (numbered i (rule_lines_of shape rule)) _
    ∙ ap (λ n. n + count_by (λ (l : RuleLine). l.rule == j) (rule_lines_from shape (suc i) rules))
    (count-other i j (rule_lines_of shape rule) (λ same. absurd (omega arith)))
    ∙ ap (λ n. 0 + n) (count-later shape (suc i) j rules (omega arith))

-- a rule has at most two lines
pub lines-few : (shape : List Domain) (i j : ℕ) (rules : List Rule) → count_by (λ (l : RuleLine). l.rule == j) (rule_lines_from shape i rules) ≤ 2
lines-few shape i j [] = omega arith
lines-few shape i j (rule ∷ rules) = by (i == j) refl (lines-few shape (suc i) j rules)
  where
    whole : count_by (λ (l : RuleLine). l.rule == j) (rule_lines_from shape i (rule ∷ rules))
        ≡ count_by (λ (l : RuleLine). l.rule == j) (numbered i (rule_lines_of shape rule)) + count_by (λ (l : RuleLine). l.rule == j)
        (rule_lines_from shape (suc i) rules)
    whole = count-append (λ (l : RuleLine). l.rule == j) (numbered i (rule_lines_of shape rule)) _

    own : count_by (λ (l : RuleLine). l.rule == j) (numbered i (rule_lines_of shape rule)) ≤ 2
    own =
        omega (
          arith,
          count_by-le-length (λ (l : RuleLine). l.rule == j) (numbered i (rule_lines_of shape rule)),
          length-map {B = RuleLine} (rule_lines_of shape rule) (λ (line : LineParts). record { rule = i; line = line }),
          own-few shape rule,
        )

    by : (b : Bool) → (i == j) ≡ b → count_by (λ (l : RuleLine). l.rule == j) (rule_lines_from shape (suc i) rules) ≤ 2
        → count_by (λ (l : RuleLine). l.rule == j) (rule_lines_from shape i (rule ∷ rules)) ≤ 2
    by true e rest =
        let same : i ≡ j = (Decides-eqb i j).0 e in
        let none = count-later shape (suc i) j rules (omega arith) in omega (arith, whole, own, none)
    by false e rest =
        let none = count-other i j (rule_lines_of shape rule) (λ same. absurd (cc (sym e ∙ (Decides-eqb i j).1 same))) in omega (arith, whole, none, rest)
