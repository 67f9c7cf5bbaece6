use Rattle.std.proofs.Common.{◌≡◌, ℕ, suc, ◌+◌, ◌*◌, ◌<◌, ◌≤◌, ◌++◌, Bool, true, false, if◌then◌else◌, List, [], ◌∷◌, append-nil, append_assoc, Some}
use Rattle.std.proofs.Common.{inl, inr, get_or, length, map, take, slice_get, slice_index_or, refl, sym, ap, ◌∙◌, subst, arith}
use Rattle.std.specs.List.{filter, flat_map}
use Rattle.std.proofs.lemmas.Grind.{flat_map-append}
use Rattle.std.proofs.lemmas.List.{length-append, length-map, length-take-le, take_more}
use Rattle.std.proofs.lemmas.List.Elements.{filter-append}
use Rattle.edit_model.specs.Parts.{SurveyParts}
use Rattle.edit_model.specs.Rows.{value_of}
use Rattle.edit_model.specs.declared.value.Value.{Value}
use Rattle.edit_model.specs.declared.value.Value.TheVariants.{Bad, Code, Number}
use Rattle.edit_line.specs.Lines.{LineParts}
use Rattle.edit_line.specs.Reductions.{IsIn}
use Rattle.edit_line.specs.Shapes.{Domain, shape_of}
use Rattle.edit_normal.specs.NormalForm.{rule_lines_of}
use Rattle.edit_normal.specs.RuleEdits.{placed_from}
use Rattle.edit_normal.specs.RuleLines.{normal_lines_of}
use Rattle.edit_normal.specs.declared.rule_line.RuleLine.{RuleLine}
use Rattle.edit_normal.proofs.RuleEditLaws.{placed-turn}
use Rattle.derivation.specs.Refutations.{trues}
use Rattle.edit_paths.specs.Cases.{AreUsableAmong}
use Rattle.panel_link.specs.Pins.{fixed_fields, kept_rules, linked_lines, value_kept}
use Rattle.panel_link.specs.inner.PinLines.{pin_of}

-- The lines and the pins, one after the other, numbered by their places.

-- ---- lines that are numbered by their places stand among these at their numbers

placed-at : (i : ℕ) (lines : List LineParts) (e : ℕ × LineParts) → IsIn e (placed_from i lines)
    → (k : ℕ) × (e.0 ≡ i + k) × (slice_get lines k ≡ Some e.1) × (slice_index_or (trues (length lines)) k false ≡ true)
placed-at i [] e none = absurd none
placed-at i (line ∷ lines) e (inl same) =
    (0, ap (λ (x : ℕ × LineParts). x.0) same ∙ omega arith, ap (λ (x : ℕ × LineParts). Some x.1) (sym same), refl)
placed-at i (line ∷ lines) e (inr there) =
    let (k, number, at, usable) = placed-at (suc i) lines e there in (suc k, number ∙ omega arith, at, usable)

pub placed-usable : (lines : List LineParts) → AreUsableAmong lines (trues (length lines)) (placed_from 0 lines)
placed-usable lines e there =
    let (k, number, at, usable) = placed-at 0 lines e there in (
      subst (λ n. slice_get lines n ≡ Some e.1) (sym (number ∙ omega arith)) at,
      subst (λ n. slice_index_or (trues (length lines)) n false ≡ true) (sym (number ∙ omega arith)) usable,
    )

-- more lines are numbered on
pub placed-append : (i : ℕ) (first second : List LineParts) → placed_from i (first ++ second) ≡ placed_from i first ++ placed_from (i + length first) second
placed-append i [] second = ap (λ n. placed_from n second) (omega arith)
placed-append i (line ∷ first) second =
    ap (λ (es : List (ℕ × LineParts)). (i, line) ∷ es)
    (placed-append (suc i) first second ∙ ap (λ n. placed_from (suc i) first ++ placed_from n second) (omega arith))

pub placed-length : (i : ℕ) (lines : List LineParts) → length (placed_from i lines) ≡ length lines
placed-length i [] = refl
placed-length i (line ∷ lines) = ap suc (placed-length (suc i) lines)

-- ---- the pins, field by field

pin-lines : (shape : List Domain) (f : ℕ) (v : Value) → flat_map (λ rule. rule_lines_of shape rule) (value_kept f v) ≡ pin_of shape f v
pin-lines shape f (Number x) = append-nil _
pin-lines shape f (Code code) = append-nil _
pin-lines shape f Bad = refl

pins-of : (shape : List Domain) (row : List Value) (fields : List ℕ)
    → flat_map (λ rule. rule_lines_of shape rule) (kept_rules row fields) ≡ flat_map (λ f. pin_of shape f (value_of row f)) fields
pins-of shape row [] = refl
pins-of shape row (f ∷ fields) =
    flat_map-append (λ rule. rule_lines_of shape rule) (value_kept f (value_of row f)) (kept_rules row fields)
    ∙ ap (λ (ls : List LineParts). ls ++ flat_map (λ rule. rule_lines_of shape rule) (kept_rules row fields)) (pin-lines shape f (value_of row f))
    ∙ ap (λ (ls : List LineParts). pin_of shape f (value_of row f) ++ ls) (pins-of shape row fields)

pub lines-and-pins : (survey : SurveyParts) (row : List Value) (fixed : ℕ)
    → linked_lines survey row fixed
    ≡ normal_lines_of survey ++ flat_map (λ f. pin_of (shape_of survey.fields) f (value_of row f)) (fixed_fields survey.fields fixed)
lines-and-pins survey row fixed =
    flat_map-append (λ rule. rule_lines_of (shape_of survey.fields) rule) survey.rules (kept_rules row (fixed_fields survey.fields fixed))
    ∙ ap (λ (ls : List LineParts). normal_lines_of survey ++ ls) (pins-of (shape_of survey.fields) row (fixed_fields survey.fields fixed))

-- ---- one line more

pub placed-few : (lines : List RuleLine) (i : ℕ) (items : List (ℕ × LineParts)) → i < length lines → length lines ≤ 1000
    → items ≡ placed_from 0 (map (λ (r : RuleLine). r.line) (take i lines)) → length items < 4294967296
placed-few lines i items below few is =
    omega (
      arith,
      ap (λ (es : List (ℕ × LineParts)). length es) is,
      placed-length 0 (map (λ (r : RuleLine). r.line) (take i lines)),
      length-map {B = LineParts} (take i lines) (λ (r : RuleLine). r.line),
      length-take-le i lines (omega (arith, below)),
      below,
      few,
    )

pub placed-next : (lines : List RuleLine) (i : ℕ) (one : RuleLine) (copy : LineParts) (before after : List (ℕ × LineParts)) → i < length lines
    → one ≡ get_or lines i one → before ≡ placed_from 0 (map (λ (r : RuleLine). r.line) (take i lines)) → copy ≡ one.line
    → after ≡ before ++ (length before, copy) ∷ [] → after ≡ placed_from 0 (map (λ (r : RuleLine). r.line) (take (i + 1) lines))
placed-next lines i one copy before after below here so_far same more =
    placed-turn (length before) (take i lines) one before after (ap (λ (es : List (ℕ × LineParts)). length es) so_far
    ∙ placed-length 0 (map (λ (r : RuleLine). r.line) (take i lines)) ∙ length-map {B = LineParts} (take i lines) (λ (r : RuleLine). r.line)) so_far
    (more ∙ ap (λ (l : LineParts). before ++ (length before, l) ∷ []) same)
    ∙ ap (λ (rs : List RuleLine). placed_from 0 (map (λ (r : RuleLine). r.line) rs))
    (ap (λ (r : RuleLine). take i lines ++ r ∷ []) here ∙ sym (take_more lines i one below))

-- ---- one field more

module _ (g : ℕ → List LineParts) (t : ℕ → Bool) where
  fields-more : (fields : List ℕ) (i : ℕ) → i < length fields
      → flat_map g (filter t (take (i + 1) fields)) ≡ flat_map g (filter t (take i fields)) ++ (if t (get_or fields i 0) then g (get_or fields i 0) else [])
  fields-more fields i below =
      ap (λ (fs : List ℕ). flat_map g (filter t fs)) (take_more fields i 0 below)
      ∙ ap (λ (fs : List ℕ). flat_map g fs) (filter-append t (take i fields) (get_or fields i 0 ∷ []))
      ∙ flat_map-append g (filter t (take i fields)) (filter t (get_or fields i 0 ∷ []))
      ∙ ap (λ (ls : List LineParts). flat_map g (filter t (take i fields)) ++ ls) (by (t (get_or fields i 0)))
    where
      by : (b : Bool) → flat_map g (if b then get_or fields i 0 ∷ [] else []) ≡ (if b then g (get_or fields i 0) else [])
      by true = append-nil (g (get_or fields i 0))
      by false = refl

  pub pins-next : (fields : List ℕ) (first : List LineParts) (i f : ℕ) (before after : List (ℕ × LineParts)) → i < length fields → f ≡ get_or fields i 0
      → before ≡ placed_from 0 (first ++ flat_map g (filter t (take i fields)))
      → after ≡ before ++ placed_from (length before) (if t f then g f else [])
      → after ≡ placed_from 0 (first ++ flat_map g (filter t (take (i + 1) fields)))
  pins-next fields first i f before after below is so_far more =
      let whole = first ++ flat_map g (filter t (take i fields)) in
      let last = if t (get_or fields i 0) then g (get_or fields i 0) else [] in
      more ∙ ap (λ n. before ++ placed_from (length before) (if t n then g n else [])) is
      ∙ ap (λ n. before ++ placed_from n last) (ap (λ (es : List (ℕ × LineParts)). length es) so_far ∙ placed-length 0 whole ∙ from_none (length whole))
      ∙ ap (λ (es : List (ℕ × LineParts)). es ++ placed_from (0 + length whole) last) so_far
      ∙ sym (placed-append 0 whole last)
      ∙ ap (λ (ls : List LineParts). placed_from 0 ls) (append_assoc first (flat_map g (filter t (take i fields))) last
      ∙ ap (λ (ls : List LineParts). first ++ ls) (sym (fields-more fields i below)))
    where
      from_none : (n : ℕ) → n ≡ 0 + n
      from_none n = omega arith

  -- where a field adds few lines
  pub pins-few : (fields : List ℕ) (i f : ℕ) (before after : List (ℕ × LineParts)) → ((n : ℕ) → length (g n) ≤ 2) → length before ≤ 1000 + 2 * i
      → after ≡ before ++ placed_from (length before) (if t f then g f else []) → length after ≤ 1000 + 2 * (i + 1)
  pins-few fields i f before after few so_far more =
      omega (
        arith,
        ap (λ (es : List (ℕ × LineParts)). length es) more,
        length-append before (placed_from (length before) (if t f then g f else [])),
        placed-length (length before) (if t f then g f else []),
        by (t f),
        so_far,
      )
    where
      by : (b : Bool) → length (if b then g f else []) ≤ 2
      by true = few f
      by false = omega arith
