-- What a proof has to say of the lines that all records share: each step of its table gives one.
use Rattle.std.specs.Prelude.{ℕ, ◌+◌, List, [], Option, Result, option_map}
use Rattle.std.specs.Result.{result_err, result_unwrap_or}
use Rattle.edit_model.specs.Parts.{SurveyParts}
use Rattle.edit_line.specs.Lines.{LineParts}
use Rattle.edit_normal.specs.RuleLines.{normal_lines_of}
use Rattle.derivation.specs.LineLists.{lines_from, no_record}
use Rattle.proof_grammar.specs.declared.proof.Proof.{Proof}
use Rattle.cert_check.specs.Dropped.{kept_flags}
use Rattle.cert_check.specs.Places.{table_line}

-- the lines of the steps of the table, from the lines of the rules that are kept; or the place of the first step that gives none
abbrev pub table_result : SurveyParts → Proof → Result (List LineParts) ℕ
table_result survey p = lines_from (no_record survey (normal_lines_of survey) (kept_flags p)) [] p.table

-- the first line of the proof at which a step of the table gives no line
abbrev pub table_fault : SurveyParts → Proof → Option ℕ
table_fault survey p = option_map (λ place. table_line p + 1 + place) (result_err (table_result survey p))

-- the lines that all records share: none where there is no table
abbrev pub shared_lines : SurveyParts → Proof → List LineParts
shared_lines survey p = result_unwrap_or (table_result survey p) []
