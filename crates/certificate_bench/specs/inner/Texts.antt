use Rattle.std.specs.Prelude.{ℕ, ◌+◌, List, [], ◌∷◌, ◌++◌, Option, Some, None, codes}
use Rattle.std.specs.Fmt.{decimal}

-- the number, from 1, of the step at this place, and 0 where no step is named
abbrev pub step_number : Option ℕ → ℕ
step_number None = 0
step_number (Some place) = place + 1

-- what is printed of a valid certificate, by the number of its leaves
abbrev pub accepted_text : ℕ → List ℕ
accepted_text count = codes "accepted " ++ (decimal count ++ (codes " leaves" ++ 10 ∷ []))

-- what is printed of one that is at fault first at this leaf, and there at this step, if it is one
abbrev pub refused_text : ℕ → Option ℕ → List ℕ
refused_text leaf step = codes "refused leaf " ++ (decimal (leaf + 1) ++ (codes " step " ++ (decimal (step_number step) ++ 10 ∷ [])))
