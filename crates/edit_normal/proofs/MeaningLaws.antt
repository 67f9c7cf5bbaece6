use Rattle.std.proofs.Common.{◌≡◌, ◌↔◌, ℕ, suc, ◌++◌, List, [], ◌∷◌, All, map, refl, sym, ap, ◌∙◌, subst, arith}
use Rattle.std.specs.List.{AllByRecursion, flat_map}
use Rattle.std.proofs.lemmas.List.Elements.{All-append}
use Rattle.edit_model.specs.Parts.{SurveyParts}
use Rattle.edit_model.specs.Points.{HasCodesFrom, Holds, Point}
use Rattle.edit_model.specs.Surveys.{IsRule, IsWellFormed}
use Rattle.edit_model.specs.declared.field.Field.{Field}
use Rattle.edit_model.specs.declared.rule.Rule.{Rule}
use Rattle.edit_line.specs.Lines.{AllHold, AreOver, LineHolds, LineParts}
use Rattle.edit_line.specs.Sets.{none_is_empty}
use Rattle.edit_line.specs.Shapes.{Domain, shape_of}
use Rattle.edit_line.proofs.Members.{all-in, in-all, in-filter-out, in-flat_map-out, in-left, in-right}
use Rattle.edit_line.proofs.ShapeLaws.{HasCodes-shape}
use Rattle.edit_normal.specs.NormalForm.{rule_lines_of}
use Rattle.edit_normal.specs.RuleLines.{rule_lines_from, normal_lines_of, numbered}
use Rattle.edit_normal.specs.declared.rule_line.RuleLine.{RuleLine}
use Rattle.edit_normal.proofs.NormalLaws.{rule-own, normal-Decides}
use Rattle.edit_normal.proofs.RuleForms.{fits-rule}

-- All normal lines of a survey hold exactly where all its rules do.

-- ---- lists of lines

lines-append : (first second : List RuleLine) → map (λ (l : RuleLine). l.line) (first ++ second) ≡ map (λ (l : RuleLine). l.line) first
    ++ map (λ (l : RuleLine). l.line) second
lines-append [] second = refl
lines-append (l ∷ first) second = ap (λ (ls : List LineParts). l.line ∷ ls) (lines-append first second)

numbered-lines : (i : ℕ) (lines : List LineParts) → map (λ (l : RuleLine). l.line) (numbered i lines) ≡ lines
numbered-lines i [] = refl
numbered-lines i (line ∷ lines) = ap (λ (ls : List LineParts). line ∷ ls) (numbered-lines i lines)

-- the numbered lines of the rules, without their numbers
lines-alone : (shape : List Domain) (i : ℕ) (rules : List Rule) → map (λ (l : RuleLine). l.line) (rule_lines_from shape i rules)
    ≡ flat_map (λ rule. rule_lines_of shape rule) rules
lines-alone shape i [] = refl
lines-alone shape i (rule ∷ rules) =
    lines-append (numbered i (rule_lines_of shape rule)) (rule_lines_from shape (suc i) rules)
    ∙ ap (λ (ls : List LineParts). ls ++ map (λ (l : RuleLine). l.line) (rule_lines_from shape (suc i) rules)) (numbered-lines i (rule_lines_of shape rule))
    ∙ ap (λ (ls : List LineParts). rule_lines_of shape rule ++ ls) (lines-alone shape (suc i) rules)

pub lines-all : (survey : SurveyParts) (lines : List RuleLine) → lines ≡ rule_lines_from (shape_of survey.fields) 0 survey.rules
    → map (λ (l : RuleLine). l.line) lines ≡ normal_lines_of survey
lines-all survey lines is = ap (λ (ls : List RuleLine). map (λ (l : RuleLine). l.line) ls) is ∙ lines-alone (shape_of survey.fields) 0 survey.rules

-- ---- they are over the survey's fields

rules-over : (shape : List Domain) (rules : List Rule) → AreOver shape (flat_map (λ rule. rule_lines_of shape rule) rules)
rules-over shape rules = all-in (λ (line : LineParts). line.shape ≡ shape) (flat_map (λ rule. rule_lines_of shape rule) rules) (λ line there.
    let (rule, was, made) = in-flat_map-out (λ (rule : Rule). rule_lines_of shape rule) line rules there in
    in-all (λ (line : LineParts). line.shape ≡ shape) line _ (rule-own shape rule) (in-filter-out (λ (l : LineParts). none_is_empty l.sets) line _ made).0)

pub lines-over : (survey : SurveyParts) (lines : List RuleLine) → lines ≡ rule_lines_from (shape_of survey.fields) 0 survey.rules
    → AreOver (shape_of survey.fields) (map (λ (l : RuleLine). l.line) lines)
lines-over survey lines is = subst (λ (ls : List LineParts). AreOver (shape_of survey.fields) ls) (sym (lines-all survey lines is))
    (rules-over (shape_of survey.fields) survey.rules)

-- ---- what they say

module _ (fields : List Field) (p : Point) (held : HasCodesFrom 0 fields p) where
  rules-same : (rules : List Rule) → All (IsRule fields) rules → AllHold (flat_map (λ rule. rule_lines_of (shape_of fields) rule) rules) p ↔ AllByRecursion
      (λ rule. Holds rule p) rules
  rules-same [] are = (λ _. tt, λ _. λ k d below. absurd (omega arith))
  rules-same (rule ∷ rules) are =
      let truth = normal-Decides (shape_of fields) rule p (fits-rule fields rule (are 0 rule (omega arith))) (HasCodes-shape 0 fields p held) in
      let rest = rules-same rules (λ k d below. are (suc k) d (omega arith)) in
      let own = rule_lines_of (shape_of fields) rule in
      let others = flat_map (λ rule. rule_lines_of (shape_of fields) rule) rules in (
        λ hold. (
          truth.1 (all-in (λ line. LineHolds line p) own (λ line there. in-all (λ line. LineHolds line p) line (own ++ others) hold
              (in-left line own others there))),
          rest.0 (all-in (λ line. LineHolds line p) others (λ line there. in-all (λ line. LineHolds line p) line (own ++ others) hold
              (in-right line own others there))),
        ),
        λ hold. All-append (λ line. LineHolds line p) own others (truth.0 hold.0) (rest.1 hold.1),
      )

pub lines-mean : (survey : SurveyParts) (p : Point) → IsWellFormed survey → HasCodesFrom 0 survey.fields p
    → AllHold (normal_lines_of survey) p ↔ AllByRecursion (λ rule. Holds rule p) survey.rules
lines-mean survey p well held = rules-same survey.fields p held survey.rules well.rules
