-- What a proof has to say of a line of the rules that it drops: steps that refute its negation.
use Rattle.std.specs.Prelude.{ℕ, suc, ◌+◌, Bool, if◌then◌else◌, List, [], ◌∷◌, Option, Some, None, Result, Ok, Err, is_none, length, map, option_map}
use Rattle.edit_model.specs.Parts.{SurveyParts}
use Rattle.edit_line.specs.Lines.{LineParts, is_equal}
use Rattle.edit_line.specs.Shapes.{Domain, shape_of}
use Rattle.edit_normal.specs.RuleLines.{normal_lines_of}
use Rattle.derivation.specs.Premises.{Premises}
use Rattle.derivation.specs.Refutations.{is_absurd, left_at, no_values, refutation_of}
use Rattle.derivation.specs.ValidSteps.{steps_result}
use Rattle.derivation.specs.declared.proved.Proved.{Proved}
use Rattle.derivation.specs.declared.step.Step.{Step}
use Rattle.proof_grammar.specs.ProofLines.{verdict_lines}
use Rattle.proof_grammar.specs.declared.proof.Proof.{Proof}

-- which lines of the rules the proof keeps
abbrev pub kept_flags : Proof → List Bool
kept_flags p = map is_none p.verdicts

-- what the refutation of the line at a place builds on: the lines that are left, and its negation
abbrev pub refutation_at : SurveyParts → List Bool → ℕ → LineParts → Premises
refutation_at survey kept place line =
    refutation_of (shape_of survey.fields) (normal_lines_of survey) (left_at kept place) line (no_values survey.fields)

-- by what the steps prove, how many lines behind the line that says that a line is dropped the first fault is: none where no
-- point meets what they prove; else that line itself, or the first invalid step behind it
abbrev pub fault_by : List Domain → Result Proved ℕ → Option ℕ
fault_by shape (Ok proved) = if is_absurd shape proved then None else Some 0
fault_by shape (Err place) = Some (suc place)

-- how many lines behind the line that says that a line is dropped the first fault of its refutation is; one without steps is
-- itself at fault
abbrev pub refutation_fault : Premises → List Step → Option ℕ
refutation_fault p [] = Some 0
refutation_fault p (step ∷ steps) = fault_by p.shape (steps_result p (step ∷ steps))

-- how many lines behind the line that says that it is dropped the first fault is; an equality may not be dropped
abbrev pub dropped_fault : Premises → LineParts → List Step → Option ℕ
dropped_fault p line steps = if is_equal line.relation then Some 0 else refutation_fault p steps

-- how many lines behind its first line the first fault of what is said of a line is: where the line is kept there is none
abbrev pub verdict_fault : Premises → LineParts → Option (List Step) → Option ℕ
verdict_fault p line None = None
verdict_fault p line (Some steps) = dropped_fault p line steps

-- the first fault if there is one, and else the next, which stands `lines` lines later
abbrev pub or_later : Option ℕ → ℕ → Option ℕ → Option ℕ
or_later (Some offset) lines next = Some offset
or_later None lines next = option_map (λ offset. lines + offset) next

-- how many lines behind its first line the first fault of what is said of the lines from a place on is
abbrev pub verdicts_fault : SurveyParts → List Bool → ℕ → List LineParts → List (Option (List Step)) → Option ℕ
verdicts_fault survey kept place (line ∷ lines) (verdict ∷ verdicts) = or_later
    (verdict_fault (refutation_at survey kept place line) line verdict)
    (length (verdict_lines verdict))
    (verdicts_fault survey kept (suc place) lines verdicts)
verdicts_fault survey kept place _ _ = None

-- how many lines behind its first line the first fault of what is said of all lines of the rules is
abbrev pub rules_fault : SurveyParts → List (Option (List Step)) → Option ℕ
rules_fault survey verdicts = verdicts_fault survey (map is_none verdicts) 0 (normal_lines_of survey) verdicts

-- the first line of the proof at which what is said of the lines of the rules is not right; before these stand three lines: the
-- version, the limits, and how many lines of the rules there are
abbrev pub drop_fault : SurveyParts → Proof → Option ℕ
drop_fault survey p = option_map (λ offset. 4 + offset) (rules_fault survey p.verdicts)
