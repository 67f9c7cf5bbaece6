use Rattle.std.proofs.Common.{◌≡◌, ◌≢◌, ℕ, zero, suc, ◌<◌, true, List, [], ◌∷◌, get_or, length, All, refl, arith}
use Rattle.std.specs.List.{AllByRecursion}
use Rattle.std.proofs.lemmas.List.{length-map}
use Rattle.std.proofs.lemmas.List.Elements.{All-from_recursion}
use Rattle.edit_model.specs.FieldSets.{has_number}
use Rattle.edit_model.specs.Parts.{SurveyParts}
use Rattle.edit_model.specs.PlainNumbers.{HasPlainNumbers, IsPlainValue}
use Rattle.edit_model.specs.Rows.{IsOfKind, IsRow, value_of}
use Rattle.edit_model.specs.declared.field.Field.{Field}
use Rattle.edit_model.specs.declared.field.Kind.{Kind}
use Rattle.edit_model.specs.declared.field.Kind.TheVariants as kind
use Rattle.edit_model.specs.declared.value.Value.{Value}
use Rattle.edit_model.specs.declared.value.Value.TheVariants.{Code, Number, Bad}
use Rattle.donor_measure.specs.Measures.{HasMeasurable, IsMeasurable}
use Rattle.donor_measure.specs.Yardsticks.{scale_of, yardstick_at, yardstick_of, yardsticks_of}
use Rattle.edit_model.proofs.CleanLaws.{clean-held}
use Rattle.edit_model.proofs.RowLaws.{row-length}
use Rattle.donor_search.specs.CleanRows.{IsCleanRow, IsRankable, donors_of, row_at}
use Rattle.donor_search.proofs.CleanLaws.{donors_clean, is_row_at}

-- Each donor can be measured at every field.

measurable_here : (k : Kind) (v : Value) → IsOfKind k v → v ≢ Bad → IsPlainValue v → IsMeasurable (scale_of k) v
measurable_here k Bad is held plain = absurd (held refl)
measurable_here (kind.Number scale) (Number x) is held plain = plain
measurable_here (kind.Number scale) (Code c) is held plain = absurd is
measurable_here (kind.Code codes) (Number x) is held plain = absurd is
measurable_here (kind.Code codes) (Code c) is held plain = tt

measurable_at : (fields : List Field) (row : List Value) → IsRow fields row → HasPlainNumbers row → (f : ℕ) → f < length fields → value_of row f ≢ Bad
    → IsMeasurable (yardstick_at (yardsticks_of fields) f).scale (value_of row f)
measurable_at [] row is plain f below held = absurd (omega (arith, below))
measurable_at (field ∷ fields) [] is plain f below held = absurd is
measurable_at (field ∷ fields) (v ∷ row) is plain zero below held = measurable_here field.kind v is.0 held plain.0
measurable_at (field ∷ fields) (v ∷ row) is plain (suc f) below held = measurable_at fields row is.1 plain.1 f (omega (arith, below)) held

-- a record with plain numbers that has a value at each kept field
pub has_kept : (fields : List Field) (row : List Value) (kept : ℕ) → IsRow fields row → HasPlainNumbers row
    → ((f : ℕ) → f < length fields → has_number kept f ≡ true → value_of row f ≢ Bad) → HasMeasurable (yardsticks_of fields) kept row
has_kept fields row kept is plain held f below has =
    let within : f < length fields = (let l = length-map fields yardstick_of in omega (arith, l, below)) in
    measurable_at fields row is plain f within (held f within has)

module _ (survey : SurveyParts) (rows : List (List Value)) (are : AllByRecursion (IsRow survey.fields) rows) (plain : AllByRecursion HasPlainNumbers rows)
    (kept : ℕ) where
  -- a clean row can be measured
  gives : (k : ℕ) → IsCleanRow survey rows k → HasMeasurable (yardsticks_of survey.fields) kept (row_at rows k)
  gives k (below, clean) =
      let is = is_row_at survey.fields rows k are below in
      has_kept survey.fields (row_at rows k) kept is (All-from_recursion HasPlainNumbers rows plain k [] below)
      (λ f within has. clean-held survey (row_at rows k) clean f (let l = row-length survey.fields (row_at rows k) is in omega (arith, l, within)))

  -- and so can all of a list of clean rows
  pub clean_give : (donors : List ℕ) → All (IsCleanRow survey rows) donors → All (IsRankable (yardsticks_of survey.fields) rows kept) donors
  clean_give donors clean k d below = ((clean k d below).0, gives (get_or donors k d) (clean k d below))

  pub donors_give : All (IsRankable (yardsticks_of survey.fields) rows kept) (donors_of survey rows)
  donors_give = clean_give (donors_of survey rows) (donors_clean survey rows)
