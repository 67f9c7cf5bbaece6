use Rattle.std.proofs.Common.{◌≡◌, ℕ, true, List, [], All, Option, Some, None}
use Rattle.std.specs.List.{AllByRecursion}
use Rattle.std.specs.List.Sorted.{IsStrictlyIncreasing}
use Rattle.std.proofs.lemmas.Bool.{and_parts}
use Rattle.edit_model.specs.CleanRecords.{is_clean}
use Rattle.edit_model.specs.Parts.{SurveyParts}
use Rattle.edit_model.specs.PlainNumbers.{HasPlainNumbers}
use Rattle.edit_model.specs.Rows.{IsRow}
use Rattle.edit_model.specs.declared.value.Value.{Value}
use Rattle.donor_measure.specs.Yardsticks.{yardsticks_of}
use Rattle.donor_search.specs.Classes.{donors_of_class, has_code, is_donor_of_class}
use Rattle.donor_search.specs.CleanRows.{IsCleanRow, IsRankable, row_at}
use Rattle.donor_search.specs.declared.class.Class.{Class}
use Rattle.donor_search.specs.inner.Donors.{donors_in, is_donor_in}
use Rattle.donor_search.proofs.CleanLaws.{donors_clean}
use Rattle.donor_search.proofs.DonorLaws.{clean_give}
use Rattle.donor_search.proofs.PlaceLaws.{all-rise, each-passing}

-- The donors of an imputation class.

module _ (survey : SurveyParts) (rows : List (List Value)) where
  module _ (field code : ℕ) where
    -- each is the number of a clean row that has the code
    pub class_donors : All (λ d. IsCleanRow survey rows d × (has_code field code (row_at rows d) ≡ true)) (donors_of_class survey rows field code)
    class_donors = each-passing (is_donor_of_class survey field code)
        (λ d. IsCleanRow survey rows d × (has_code field code (row_at rows d) ≡ true)) rows [] (λ k below donor.
        let both = and_parts (is_clean survey (row_at rows k)) (has_code field code (row_at rows k)) donor in ((below, both.0), both.1))

    -- each is the number of a clean row
    pub class_clean : All (IsCleanRow survey rows) (donors_of_class survey rows field code)
    class_clean k d below = (class_donors k d below).0

    -- they rise
    pub class_rise : IsStrictlyIncreasing (donors_of_class survey rows field code)
    class_rise = all-rise (is_donor_of_class survey field code) rows

    -- each can be measured at every field
    pub class_give : AllByRecursion (IsRow survey.fields) rows → AllByRecursion HasPlainNumbers rows → (kept : ℕ)
        → All (IsRankable (yardsticks_of survey.fields) rows kept) (donors_of_class survey rows field code)
    class_give are plain kept = clean_give survey rows are plain kept (donors_of_class survey rows field code) class_clean

  -- all donors, or those of one class, are clean rows
  pub in_clean : (class : Option Class) → All (IsCleanRow survey rows) (donors_in survey rows class)
  in_clean None = donors_clean survey rows
  in_clean (Some class) = class_clean class.field class.code

  -- and rise
  pub in_rise : (class : Option Class) → IsStrictlyIncreasing (donors_in survey rows class)
  in_rise class = all-rise (is_donor_in survey class) rows
