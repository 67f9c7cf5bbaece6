use Rattle.std.proofs.Common.{◌≡◌, ◌∷◌, ◌++◌, length, map, take}
use Rattle.std.specs.Fmt.{decimal}
use Rattle.std.specs.List.{AllByRecursion}
use Rattle.proof_grammar.specs.ProofLines.{lines_text, step_line_in}
use Rattle.proof_grammar.specs.Sizes.{IsSizedStep}
use Rattle.proof_text.proofs.writing.steps.write_steps.Given as goal

abbrev pub invariant-loop-step : goal.invariant-loop-step
invariant-loop-step l = (l.text.items ≡ l.fn.text.items ++ (32 ∷ decimal (length l.steps))
    ++ (10 ∷ lines_text (map (step_line_in l.shared) (take l.step-index l.steps)))) × AllByRecursion IsSizedStep (take l.step-index l.steps)
