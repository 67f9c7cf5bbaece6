use Rattle.std.proofs.Common.{◌≡◌, ◌↔◌, ◌⊎◌, inl, inr, ◌<◌, Bool, true, List, sym, ap, ◌∙◌, arith}
use Rattle.edit_model.specs.Corrections.{IsCorrection, IsFirstLeast, IsLeastCorrection, IsLeastWeight, is_first, word_of}
use Rattle.edit_model.specs.Parts.{SurveyParts}
use Rattle.edit_model.specs.Points.{Point}
use Rattle.edit_model.specs.declared.value.Value.{Value}
use Rattle.edit_line.specs.EditSets.{EditsParts}
use Rattle.bound_cert.specs.Paths.{path_weight}
use Rattle.bound_cert.proofs.PathLaws.{point-weighs}
use Rattle.edit_paths.specs.Cases.{IsCase, Meets, case_of}
use Rattle.edit_paths.specs.Choices.{IsChoice}
use Rattle.edit_paths.proofs.PathOrder.{tells}

-- Where the edits hold exactly at the consistent points, the choice has the least weight of all corrections, and is the first of the least.

module _ (survey : SurveyParts) (edits : EditsParts) (row : List Value) (is : IsCase (case_of survey edits row))
    (same : (p : Point) → Meets (case_of survey edits row) p ↔ IsCorrection survey p) (path : List Bool)
    (choice : IsChoice (case_of survey edits row) path) where
  -- the path's weight is the least
  pub choice-least : IsLeastWeight survey row (path_weight survey.fields path)
  choice-least = record {
    reached = let (p, meets, word) = choice.reached in
        (p, (same p).0 meets, sym (point-weighs survey row p is.row) ∙ ap (λ (w : List Bool). path_weight survey.fields w) word);
    least = λ p correction.
        elim (tells (path_weight survey.fields path) (path_weight survey.fields (word_of survey row p)) (is_first path (word_of survey row p))
        (choice.first p ((same p).1 correction))) [
          | inl less ↦ omega (arith, less, point-weighs survey row p is.row)
          | inr both ↦ omega (arith, both.0, point-weighs survey row p is.row)
        ];
  }

  -- and the path is the first of the words of least weight
  pub choice-first : IsFirstLeast survey row path
  choice-first = record {
    reached =
        let (p, meets, word) = choice.reached in (
          p,
          record {
            correction = (same p).0 meets;
            least = λ q correction. let least = choice-least.least q correction in
                omega (arith, least, point-weighs survey row p is.row, ap (λ (w : List Bool). path_weight survey.fields w) word);
          },
          word,
        );
    first = λ p least. earlier p least (tells (path_weight survey.fields path) (path_weight survey.fields (word_of survey row p))
        (is_first path (word_of survey row p)) (choice.first p ((same p).1 least.correction)));
  }
    where
      earlier : (p : Point) → IsLeastCorrection survey row p
          → (path_weight survey.fields path < path_weight survey.fields (word_of survey row p))
          ⊎ ((path_weight survey.fields path ≡ path_weight survey.fields (word_of survey row p)) × (is_first path (word_of survey row p) ≡ true))
          → is_first path (word_of survey row p) ≡ true
      earlier p least (inl less) =
          let (q, correction, weighs) = choice-least.reached in
          absurd (omega (arith, less, point-weighs survey row p is.row, weighs, least.least q correction))
      earlier p least (inr both) = both.1
