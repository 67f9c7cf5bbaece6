use Rattle.std.specs.Prelude.{◌≡◌, Bool, true, List}
use Rattle.edit_model.specs.Corrections.{word_of}
use Rattle.edit_model.specs.Points.{Point}
use Rattle.edit_paths.specs.Cases.{SearchCase, Meets}
use Rattle.edit_paths.specs.ReachedPaths.{is_before}

-- the path is the word of some point at which the edits hold, and comes before the words of all such points: none weighs
-- less, and of those that weigh as much none has an earlier word
pub record IsChoice (c : SearchCase) (path : List Bool) : Type 0 where
  pub reached : (p : Point) × Meets c p × (word_of c.survey c.row p ≡ path)
  pub first : (p : Point) → Meets c p → is_before c.survey.fields path (word_of c.survey c.row p) ≡ true
