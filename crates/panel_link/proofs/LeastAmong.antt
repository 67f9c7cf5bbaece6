use Rattle.std.proofs.Common.{◌≡◌, ◌↔◌, ℕ, false, Bool, List, arith}
use Rattle.edit_model.specs.Corrections.{IsCorrection, IsFirstLeast, IsLeastCorrection, IsLeastWeight, change_weight}
use Rattle.edit_model.specs.Parts.{SurveyParts}
use Rattle.edit_model.specs.Points.{Point}
use Rattle.edit_model.specs.declared.value.Value.{Value}
use Rattle.edit_line.specs.EditSets.{EditsParts}
use Rattle.bound_cert.specs.Paths.{path_weight}
use Rattle.edit_paths.specs.Cases.{IsCase, Meets, case_of}
use Rattle.edit_paths.specs.Choices.{IsChoice}
use Rattle.edit_paths.proofs.LeastLaws.{choice-first, choice-least}
use Rattle.panel_link.specs.LinkedCorrections.{IsFirstAmong, IsLeastAmong, IsLinkedCorrection, lacks_value}
use Rattle.panel_link.specs.Pins.{pinned}
use Rattle.panel_link.proofs.PinLaws.{pinned-correction}

-- The choice among the points at which the edits hold is the first of the corrections of least weight among those that leave the
-- fixed fields alone. These are the corrections of the survey with the rules that these fields keep their values.

module _ (survey : SurveyParts) (edits : EditsParts) (row : List Value) (fixed : ℕ) (is : IsCase (case_of survey edits row))
    (values : lacks_value survey row fixed ≡ false) (same : (p : Point) → Meets (case_of survey edits row) p ↔ IsLinkedCorrection survey row fixed p) where
  abbrev more : SurveyParts
  more = pinned survey row fixed

  abbrev corrects : (p : Point) → IsCorrection (pinned survey row fixed) p ↔ IsLinkedCorrection survey row fixed p
  corrects p = pinned-correction survey row fixed is.row values p

  more-case : IsCase (case_of more edits row)
  more-case = record { fields = is.fields; row = is.row; edits = is.edits }

  more-meets : (p : Point) → Meets (case_of more edits row) p ↔ IsCorrection more p
  more-meets p = (
    λ meets. (corrects p).1 ((same p).0 (record { codes = meets.codes; edits = meets.edits })),
    λ correction. let met = (same p).1 ((corrects p).0 correction) in record { codes = met.codes; edits = met.edits },
  )

  module _ (path : List Bool) (choice : IsChoice (case_of survey edits row) path) where
    more-choice : IsChoice (case_of more edits row) path
    more-choice = record {
      reached = let (p, meets, word) = choice.reached in (p, record { codes = meets.codes; edits = meets.edits }, word);
      first = λ p meets. choice.first p (record { codes = meets.codes; edits = meets.edits });
    }

    -- the least weight of the corrections of that survey
    pub least-pinned : IsLeastWeight more row (path_weight survey.fields path)
    least-pinned = choice-least more edits row more-case more-meets path more-choice

    pub least-among : IsLeastAmong survey row fixed (path_weight survey.fields path)
    least-among = record {
      reached = let (p, correction, weighs) = least-pinned.reached in (p, (corrects p).0 correction, weighs);
      least = λ p linked. least-pinned.least p ((corrects p).1 linked);
    }

    pub first-among : IsFirstAmong survey row fixed (path_weight survey.fields path) path
    first-among = record {
      reached = let (p, least, word) = first.reached in (p, (corrects p).0 least.correction, weighs p least, word);
      first = λ p linked w. first.first p (record {
        correction = (corrects p).1 linked;
        least = λ q correction. let low = least-pinned.least q correction in omega (arith, low, w);
      });
    }
      where
        first : IsFirstLeast more row path
        first = choice-first more edits row more-case more-meets path more-choice

        weighs : (p : Point) → IsLeastCorrection more row p → change_weight survey row p ≡ path_weight survey.fields path
        weighs p least =
            let (q, correction, w) = least-pinned.reached in
            let low = least.least q correction in
            let high = least-pinned.least p least.correction in
            omega (arith, low, high, w)
