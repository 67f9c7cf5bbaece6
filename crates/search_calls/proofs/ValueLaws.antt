use Rattle.std.proofs.Common.{◌≡◌, ◌≢◌, ◌↔◌, ◌<◌, ◌||◌, ◌∙◌, ℕ, zero, suc, Bool, true, false, List, [], ◌∷◌, ap, arith, length, map, sym}
use Rattle.std.specs.List.{list_any}
use Rattle.edit_model.specs.Parts.{SurveyParts}
use Rattle.edit_model.specs.Points.{HasCodesFrom, IsConsistent, Point}
use Rattle.edit_model.specs.Rows.{is_bad, value_of}
use Rattle.edit_model.specs.declared.value.Value.{Value}
use Rattle.edit_model.specs.declared.value.Value.TheVariants.{Bad}
use Rattle.edit_line.specs.EditSets.{EditsParts}
use Rattle.edit_line.specs.Lines.{AllHold, LineParts}
use Rattle.edit_paths.specs.Cases.{Meets, case_of}

-- What the tests of values owe.

-- a record of which no value is Bad has one at each field
pub values-held : (row : List Value) → list_any is_bad row ≡ false → (f : ℕ) → f < length row → value_of row f ≢ Bad
values-held [] none f below = absurd (omega arith)
values-held (v ∷ row) none zero below = λ e. cc (sym none ∙ ap (λ w. is_bad w || list_any is_bad row) e)
values-held (v ∷ row) none (suc f) below = values-held row (later (is_bad v) none) f (omega arith)
  where
    later : (b : Bool) → (b || list_any is_bad row) ≡ false → list_any is_bad row ≡ false
    later true h = absurd (cc)
    later false h = h

-- the edits hold at a point with codes exactly where it meets them
pub meets-same : (survey : SurveyParts) (edits : EditsParts) (row : List Value)
    → ((p : Point) → (HasCodesFrom 0 survey.fields p × AllHold (map (λ (e : ℕ × LineParts). e.1) edits.lines) p) ↔ IsConsistent survey p)
    → (p : Point) → Meets (case_of survey edits row) p ↔ IsConsistent survey p
meets-same survey edits row same p = (λ m. (same p).0 (m.codes, m.edits), λ h. let both = (same p).1 h in record { codes = both.0; edits = both.1 })
