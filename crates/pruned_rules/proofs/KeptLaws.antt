use Rattle.std.proofs.Common.{◌≡◌, ◌≢◌, ◌↔◌, ℕ, ◌+◌, ◌<◌, ◌≤◌, Bool, true, false, if◌then◌else◌, List, [], ◌∷◌, ◌++◌, All, Some, get_or, length, map, slice_get}
use Rattle.std.proofs.Common.{slice_index_or, take, sym, ap, ◌∙◌, subst, arith}
use Rattle.std.proofs.lemmas.List.{get_or-map, length-map, take_all}
use Rattle.edit_model.specs.Parts.{SurveyParts}
use Rattle.edit_model.specs.Points.{HasCodesFrom, IsConsistent, Point}
use Rattle.edit_model.specs.Surveys.{IsWellFormed}
use Rattle.edit_line.specs.EditSets.{AreEdits}
use Rattle.edit_line.specs.declared.relation.Relation.TheVariants.{Equal}
use Rattle.edit_line.specs.Lines.{AllHold, AreOver, Follows, LineHolds, LineParts}
use Rattle.edit_line.specs.Reductions.{IsIn}
use Rattle.edit_line.specs.Shapes.{Domain, shape_of}
use Rattle.edit_line.proofs.Members.{all-in, in-all, in-map-out}
use Rattle.edit_normal.specs.RuleLines.{normal_lines_of}
use Rattle.edit_normal.proofs.MeaningLaws.{lines-mean}
use Rattle.edit_normal.proofs.NormalLines.{normal-lines, normal-over}
use Rattle.derivation.specs.Refutations.{RefutedBy, left_at, no_values, refutation_of}
use Rattle.derivation.specs.declared.step.Step.{Step}
use Rattle.derivation.specs.Premises.{usable_lines}
use Rattle.edit_paths.specs.Cases.{AreUsableAmong}
use Rattle.redundancy.specs.Verdicts.{keeps_line, usable_from}
use Rattle.redundancy.specs.declared.verdict.Verdict.{Verdict}
use Rattle.redundancy.specs.declared.verdict.Verdict.TheVariants.{Dropped}
use Rattle.redundancy.proofs.BaseLaws.{usable-given, usable-more, usable-rising, verdicts-count}
use Rattle.redundancy.proofs.PruneLaws.{dropped-valid, lines-follow, usable-place, usable-plain}
use Rattle.pruned_rules.specs.Pruned.{kept_edits, rule_flags, rule_verdicts}
use Rattle.pruned_rules.specs.Limits.{pruning_budget}

-- The kept lines of a survey's rules say what all lines say.

-- ---- lines that are taken, each with its number

-- they are edits
pub taken-edits : (shape : List Domain) (lines : List LineParts) (taken : List Bool) → AreOver shape lines → AreEdits shape (usable_from 0 lines taken)
taken-edits shape lines taken over = record {
  over = all-in (λ (e : ℕ × LineParts). e.1.shape ≡ shape) (usable_from 0 lines taken) (λ e there. in-all (λ (l : LineParts). l.shape ≡ shape) e.1 lines over
      (usable-given 0 lines taken e there).0);
  rising = usable-rising 0 lines taken;
}

-- what is so of all lines is so of them
pub taken-all : (P : LineParts → Type 0) (lines : List LineParts) (taken : List Bool) → All P lines
    → All P (map (λ (e : ℕ × LineParts). e.1) (usable_from 0 lines taken))
taken-all P lines taken all = all-in P (map (λ (e : ℕ × LineParts). e.1) (usable_from 0 lines taken)) (λ line there.
    let (e, was, same) = in-map-out (λ (e : ℕ × LineParts). e.1) line (usable_from 0 lines taken) there in
    subst (λ l. P l) (sym same) (in-all P e.1 lines all (usable-given 0 lines taken e was).0))

-- each stands at its number
pub taken-given : (lines : List LineParts) (taken : List Bool) → AreUsableAmong lines taken (usable_from 0 lines taken)
taken-given lines taken e there =
    let (place, number, at, is_taken) = usable-place 0 lines taken e there in
    let same : place ≡ e.0 = omega (arith, number) in
    (subst (λ n. slice_get lines n ≡ Some e.1) same at, subst (λ n. slice_index_or taken n false ≡ true) same is_taken)

-- those among the first lines: one line more
pub kept-more : (place : ℕ) (lines : List LineParts) (verdicts : List Verdict) (line : LineParts) (verdict : Verdict) (kept after : List (ℕ × LineParts))
    → place < length lines → length verdicts ≡ length lines → get_or lines place line ≡ line → get_or verdicts place verdict ≡ verdict
    → kept ≡ usable_from 0 (take place lines) (take place (map keeps_line verdicts)) → after ≡ kept ++ (if keeps_line verdict then (place, line) ∷ [] else [])
    → after ≡ usable_from 0 (take (place + 1) lines) (take (place + 1) (map keeps_line verdicts))
kept-more place lines verdicts line verdict kept after below same line_is verdict_is so_far more =
    more ∙ ap (λ (es : List (ℕ × LineParts)). es ++ (if keeps_line verdict then (place, line) ∷ [] else [])) so_far
    ∙ ap (λ n. usable_from 0 (take place lines) (take place (map keeps_line verdicts)) ++ (if keeps_line verdict then (n, line) ∷ [] else [])) (first place)
    ∙ ap (λ b. usable_from 0 (take place lines) (take place (map keeps_line verdicts)) ++ (if b then (0 + place, line) ∷ [] else []))
    (sym (get_or-map keeps_line verdicts place verdict false (omega (arith, below, same)) ∙ ap keeps_line verdict_is))
    ∙ sym (usable-more 0 place lines (map keeps_line verdicts) line below (length-map verdicts keeps_line ∙ same) line_is)
  where
    first : (n : ℕ) → n ≡ 0 + n
    first n = omega arith

-- and in the end all lines
pub kept-all : (place : ℕ) (lines : List LineParts) (verdicts : List Verdict) (kept : List (ℕ × LineParts)) → length verdicts ≡ length lines
    → length lines ≤ place
    → kept ≡ usable_from 0 (take place lines) (take place (map keeps_line verdicts)) → kept ≡ usable_from 0 lines (map keeps_line verdicts)
kept-all place lines verdicts kept same past so_far =
    let long = length-map verdicts keeps_line in
    so_far ∙ ap (λ (ls : List LineParts). usable_from 0 ls (take place (map keeps_line verdicts))) (take_all place lines past)
    ∙ ap (λ (bs : List Bool). usable_from 0 lines bs) (take_all place (map keeps_line verdicts) (omega (arith, long, same, past)))

-- ---- the lines of a survey's rules

-- there is a verdict for each
pub verdict-each : (survey : SurveyParts) (lines : List LineParts) (verdicts : List Verdict) → lines ≡ normal_lines_of survey → verdicts ≡ rule_verdicts survey
    → length verdicts ≡ length lines
verdict-each survey lines verdicts lines_are verdicts_are =
    ap (λ (vs : List Verdict). length vs) verdicts_are ∙ verdicts-count survey (normal_lines_of survey) pruning_budget 0 (normal_lines_of survey)
    ∙ ap (λ (ls : List LineParts). length ls) (sym lines_are)

-- those that are kept
pub kept-are : (survey : SurveyParts) (lines : List LineParts) (verdicts : List Verdict) (kept : List (ℕ × LineParts)) → lines ≡ normal_lines_of survey
    → verdicts ≡ rule_verdicts survey → kept ≡ usable_from 0 lines (map keeps_line verdicts)
    → kept ≡ (kept_edits survey).lines
kept-are survey lines verdicts kept lines_are verdicts_are is =
    is ∙ ap (λ (ls : List LineParts). usable_from 0 ls (map keeps_line verdicts)) lines_are
    ∙ ap (λ (vs : List Verdict). usable_from 0 (normal_lines_of survey) (map keeps_line vs)) verdicts_are

module _ (survey : SurveyParts) (formed : IsWellFormed survey) where
  -- each line follows from the kept ones
  pub rules-follow : (line : LineParts) → IsIn line (normal_lines_of survey) → Follows (usable_lines (normal_lines_of survey) (rule_flags survey)) line
  rules-follow = lines-follow survey formed.fields (normal_lines_of survey) (normal-over survey) (normal-lines survey formed) pruning_budget

  -- a dropped line is no equality, and its steps refute its negation
  pub rule-refuted : (place : ℕ) (line : LineParts) (steps : List Step) → slice_get (normal_lines_of survey) place ≡ Some line
      → slice_get (rule_verdicts survey) place ≡ Some (Dropped steps)
      → (line.relation ≢ Equal) × RefutedBy (refutation_of (shape_of survey.fields) (normal_lines_of survey) (left_at (rule_flags survey) place) line
      (no_values survey.fields)) steps
  rule-refuted place line steps at told = dropped-valid survey formed.fields (normal_lines_of survey) (normal-over survey) (normal-lines survey formed)
      pruning_budget place line at steps told

  -- a point with codes of the survey meets the kept edits exactly where it meets all rules
  pub kept-mean : (p : Point) → (HasCodesFrom 0 survey.fields p × AllHold (map (λ (e : ℕ × LineParts). e.1) (kept_edits survey).lines) p) ↔ IsConsistent survey
      p
  kept-mean p = (
    λ held. record {
      codes = held.0;
      rules = (lines-mean survey p formed held.0).0 (all-in (λ line. LineHolds line p) (normal_lines_of survey) (λ line there.
          rules-follow line there p (subst (λ (ls : List LineParts). AllHold ls p) (usable-plain 0 (normal_lines_of survey) (rule_flags survey)) held.1)));
    },
    λ (consistent : IsConsistent survey p). (
      consistent.codes,
      taken-all (λ line. LineHolds line p) (normal_lines_of survey) (rule_flags survey)
          ((lines-mean survey p formed consistent.codes).1 consistent.rules),
    ),
  )
