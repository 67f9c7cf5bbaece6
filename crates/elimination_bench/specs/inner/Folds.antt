use Rattle.std.specs.Prelude.{ℕ, List, [], ◌∷◌, Result, Ok, Err, length}
use Rattle.std.specs.List.{range_with_len}
use Rattle.edit_line.specs.EditSets.{base_lines}
use Rattle.edit_line.specs.Reductions.{reduce_derived}
use Rattle.edit_line.specs.declared.derived.Derived.{Derived}
use Rattle.linear_elim.specs.Steps.{pairs_count, step_result, with_more}
use Rattle.linear_elim.specs.Systems.{SystemOverflow, system_of}
use Rattle.elimination_bench.specs.inner.Differences.{count_of, differences}
use Rattle.elimination_bench.specs.inner.Texts.{fold_text, step_text}
use Rattle.elimination_bench.specs.declared.differences.Differences.{Differences}
use Rattle.bench_frame.specs.declared.fault.Fault.{Fault}
use Rattle.bench_frame.specs.declared.fault.Fault.TheVariants.{Overflow}

-- what is told of what was computed, or that a number was out of range
abbrev pub answer_of : {A F : Type 0} → Result A F → (A → Result (List ℕ) Fault) → Result (List ℕ) Fault
answer_of (Ok computed) answer = answer computed
answer_of (Err overflow) answer = Err Overflow

-- the lines that are left of the generated edits without their first fields, by the number of these
abbrev pub folded : Differences → ℕ → Result (List Derived) SystemOverflow
folded system count = system_of (differences system (count_of system)) (range_with_len 0 count)

-- what is told of that fold: how many edits there were, and how many lines are left
abbrev pub fold_answer : Differences → ℕ → Result (List ℕ) Fault
fold_answer system count = answer_of (folded system count) (λ lines. Ok (fold_text count (count_of system) (length lines)))

-- what is printed of the step at a field, from these lines to the next ones
abbrev pub step_line : List Derived → ℕ → List Derived → List ℕ
step_line lines f next = step_text f (pairs_count lines f) (length next)

-- what is told of the steps at these fields, one after the other from these lines
abbrev pub steps_answer : List Derived → List ℕ → Result (List ℕ) Fault
steps_answer lines [] = Ok []
steps_answer lines (f ∷ fields) = answer_of (step_result lines f) (λ next. with_more (step_line lines f next) (steps_answer next fields))

-- what is told of the steps of that fold
abbrev pub pairs_answer : Differences → ℕ → Result (List ℕ) Fault
pairs_answer system count = steps_answer (reduce_derived (base_lines (differences system (count_of system)))) (range_with_len 0 count)
