-- What is printed of lines and the verdicts on them.
use Rattle.std.specs.Prelude.{ℕ, suc, ◌++◌, List, [], ◌∷◌, codes, map}
use Rattle.std.specs.Fmt.{decimal}
use Rattle.edit_model.specs.declared.field.Field.{Field}
use Rattle.edit_line.specs.Lines.{LineParts}
use Rattle.derivation.specs.declared.step.Step.{Step}
use Rattle.proof_grammar.specs.ProofLines.{step_line, words_text}
use Rattle.redundancy.specs.declared.verdict.Verdict.{Verdict}
use Rattle.redundancy.specs.declared.verdict.Verdict.TheVariants.{Dropped, Kept}
use Rattle.redundancy.specs.declared.verdict.Why.{Why}
use Rattle.redundancy.specs.declared.verdict.Why.TheVariants.{Budget, Equality, Needed, Overflow}
use Rattle.rule_report.specs.LineTexts.{line_text}

-- why a line is kept
abbrev pub why_text : Why → List ℕ
why_text Needed = codes "needed"
why_text Budget = codes "budget"
why_text Overflow = codes "overflow"
why_text Equality = codes "equality"

-- what becomes of a line
abbrev pub verdict_text : Verdict → List ℕ
verdict_text (Kept why) = codes "kept " ++ why_text why
verdict_text (Dropped steps) = codes "dropped"

-- the step of a refutation, as in a proof file, behind two spaces
abbrev pub step_text : Step → List ℕ
step_text step = codes "  " ++ words_text (step_line step)

-- the steps that refute the negation of a dropped line
abbrev pub steps_of : Verdict → List Step
steps_of (Kept why) = []
steps_of (Dropped steps) = steps

-- of one line: its number, what becomes of it and what it says
abbrev pub head_text : List Field → ℕ → LineParts → Verdict → List ℕ
head_text fields number line verdict = decimal number ++ codes " " ++ verdict_text verdict ++ codes " " ++ line_text fields line

-- of one line: what becomes of it, and then the steps, if it is dropped
abbrev pub texts_of : List Field → ℕ → LineParts → Verdict → List (List ℕ)
texts_of fields number line verdict =
    head_text fields number line verdict ∷ map step_text (steps_of verdict)

-- what is printed of lines that are numbered from this one on, as far as each has a verdict
abbrev pub reports_from : List Field → ℕ → List LineParts → List Verdict → List (List ℕ)
reports_from fields number (line ∷ lines) (verdict ∷ verdicts) =
    texts_of fields number line verdict ++ reports_from fields (suc number) lines verdicts
reports_from fields number _ _ = []
