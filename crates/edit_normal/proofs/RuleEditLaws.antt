use Rattle.std.proofs.Common.{◌≡◌, ◌↔◌, ℕ, zero, suc, ◌+◌, ◌<◌, ◌++◌, List, [], ◌∷◌, All, get_or, length, map, refl, sym, ap, ◌∙◌, subst, arith}
use Rattle.std.specs.List.Sorted.{IsStrictlyIncreasing}
use Rattle.std.proofs.lemmas.List.{length-map, map-append}
use Rattle.edit_model.specs.Parts.{SurveyParts}
use Rattle.edit_model.specs.Points.{HasCodesFrom, IsConsistent, Point}
use Rattle.edit_model.specs.Surveys.{IsWellFormed}
use Rattle.edit_line.specs.EditSets.{AreEdits}
use Rattle.edit_line.specs.Lines.{AllHold, AreOver, LineParts}
use Rattle.edit_line.specs.Shapes.{Domain}
use Rattle.edit_normal.specs.RuleEdits.{placed_from}
use Rattle.edit_normal.specs.RuleLines.{normal_lines_of}
use Rattle.edit_normal.specs.declared.rule_line.RuleLine.{RuleLine}
use Rattle.edit_normal.proofs.MeaningLaws.{lines-mean}

-- The normal lines, numbered by their places, are the survey's edits.

pub placed-lines : (i : ℕ) (lines : List LineParts) → map (λ (e : ℕ × LineParts). e.1) (placed_from i lines) ≡ lines
placed-lines i [] = refl
placed-lines i (line ∷ lines) = ap (λ (ls : List LineParts). line ∷ ls) (placed-lines (suc i) lines)

placed-over : (shape : List Domain) (i : ℕ) (lines : List LineParts) → AreOver shape lines
    → All (λ (e : ℕ × LineParts). e.1.shape ≡ shape) (placed_from i lines)
placed-over shape i [] over k d below = absurd (omega arith)
placed-over shape i (line ∷ lines) over zero d below = over 0 line (omega arith)
placed-over shape i (line ∷ lines) over (suc k) d below = placed-over shape (suc i) lines (λ n e within. over (suc n) e (omega arith)) k d (omega arith)

number-at : (i k : ℕ) (lines : List LineParts) → k < length lines → get_or (map (λ (e : ℕ × LineParts). e.0) (placed_from i lines)) k 0 ≡ i + k
number-at i k [] below = absurd (omega arith)
number-at i zero (line ∷ lines) below = omega arith
number-at i (suc k) (line ∷ lines) below = number-at (suc i) k lines (omega arith) ∙ omega arith

placed-long : (i : ℕ) (lines : List LineParts) → length (map (λ (e : ℕ × LineParts). e.0) (placed_from i lines)) ≡ length lines
placed-long i [] = refl
placed-long i (line ∷ lines) = ap suc (placed-long (suc i) lines)

placed-rising : (lines : List LineParts) → IsStrictlyIncreasing (map (λ (e : ℕ × LineParts). e.0) (placed_from 0 lines))
placed-rising lines k below =
    let long = placed-long 0 lines in
    let here = number-at 0 k lines (omega (arith, long, below)) in
    let next = number-at 0 (k + 1) lines (omega (arith, long, below)) in
    omega (arith, here, next)

pub placed-edits : (shape : List Domain) (lines : List LineParts) → AreOver shape lines → AreEdits shape (placed_from 0 lines)
placed-edits shape lines over = record { over = placed-over shape 0 lines over; rising = placed-rising lines }

-- they hold exactly at the consistent points
pub edits-mean : (survey : SurveyParts) (edits : List (ℕ × LineParts)) → IsWellFormed survey → edits ≡ placed_from 0 (normal_lines_of survey) → (p : Point)
    → (HasCodesFrom 0 survey.fields p × AllHold (map (λ (e : ℕ × LineParts). e.1) edits) p) ↔ IsConsistent survey p
edits-mean survey edits well are p =
    let lines : map (λ (e : ℕ × LineParts). e.1) edits ≡ normal_lines_of survey = ap (λ (es : List (ℕ × LineParts)). map (λ (e : ℕ × LineParts). e.1) es) are
    ∙ placed-lines 0 (normal_lines_of survey) in (
      λ held. record { codes = held.0; rules = (lines-mean survey p well held.0).0 (subst (λ (ls : List LineParts). AllHold ls p) lines held.1) },
      λ (consistent : IsConsistent survey p). (
        consistent.codes,
        subst (λ (ls : List LineParts). AllHold ls p) (sym lines)
            ((lines-mean survey p well consistent.codes).1 consistent.rules),
      ),
    )

-- one more line
pub placed-more : (i : ℕ) (lines : List LineParts) (line : LineParts) → placed_from i (lines ++ line ∷ []) ≡ placed_from i lines ++ (i + length lines, line)
    ∷ []
placed-more i [] line = ap (λ n. (n, line) ∷ []) (omega arith)
placed-more i (l ∷ lines) line = ap (λ (es : List (ℕ × LineParts)). (i, l) ∷ es) (placed-more (suc i) lines line
    ∙ ap (λ n. placed_from (suc i) lines ++ (n, line) ∷ []) (omega arith))

pub placed-turn : (number : ℕ) (yielded : List RuleLine) (one : RuleLine) (before after : List (ℕ × LineParts)) → number ≡ length yielded → before
    ≡ placed_from 0 (map (λ (l : RuleLine). l.line) yielded) → after ≡ before ++ (number, one.line) ∷ []
    → after ≡ placed_from 0 (map (λ (l : RuleLine). l.line) (yielded ++ one ∷ []))
placed-turn number yielded one before after place is pushed =
    pushed ∙ ap (λ (es : List (ℕ × LineParts)). es ++ (number, one.line) ∷ []) is
    ∙ ap (λ n. placed_from 0 (map (λ (l : RuleLine). l.line) yielded) ++ (n, one.line) ∷ [])
    (omega (arith, place, length-map {B = LineParts} yielded (λ (l : RuleLine). l.line)))
    ∙ sym (placed-more 0 (map (λ (l : RuleLine). l.line) yielded) one.line) ∙ ap (λ (ls : List LineParts). placed_from 0 ls)
    (sym (map-append (λ (l : RuleLine). l.line) yielded (one ∷ [])))
