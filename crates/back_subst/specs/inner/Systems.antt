use Rattle.std.specs.Prelude.{ℕ, List, Result}
use Rattle.fraction128.specs.Formulas.{Ratio}
use Rattle.edit_model.specs.declared.value.Value.{Value}
use Rattle.edit_line.specs.EditSets.{EditsParts, base_lines}
use Rattle.edit_line.specs.Lines.{LineParts}
use Rattle.edit_line.specs.Reductions.{lines_of, reduce_derived}
use Rattle.linear_elim.specs.Systems.{chosen_fields, system}
use Rattle.back_subst.specs.Given.{number_in}
use Rattle.back_subst.specs.NumberWalk.{number_result}

-- the lines that elimination begins with: those of the edits, reduced
abbrev pub start_lines : EditsParts → List LineParts
start_lines edits = lines_of (reduce_derived (base_lines edits.lines))

-- the system of the edits without the numerical fields of a set, as bits
abbrev pub system_left : EditsParts → ℕ → List LineParts
system_left edits left = system (start_lines edits) (chosen_fields edits.shape left)

-- what that system gives a numerical field of the record for a target
abbrev pub number_left : EditsParts → ℕ → List Value → ℕ → Value → Result Ratio ℕ
number_left edits left row f target = number_result (system_left edits left) row f (number_in target)
