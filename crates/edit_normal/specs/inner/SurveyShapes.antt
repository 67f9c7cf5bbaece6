use Rattle.std.specs.Prelude.{◌≡◌, ℕ, List}
use Rattle.edit_line.specs.Shapes.{Domain, code_fields, number_fields, whole_sets}

-- what is kept beside a survey's shape: its numerical and its categorical fields, and the whole sets of the latter
pub record IsSurveyShape (shape : List Domain) (numbers categories wholes : List ℕ) : Type 0 where
  pub numbers_are : numbers ≡ number_fields shape
  pub categories_are : categories ≡ code_fields shape
  pub wholes_are : wholes ≡ whole_sets shape
