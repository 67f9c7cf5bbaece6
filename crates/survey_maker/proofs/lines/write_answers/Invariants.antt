use Rattle.std.proofs.Common.{◌≡◌, ◌++◌, take}
use Rattle.survey_maker.specs.RecordFiles.{answers_text}
use Rattle.survey_maker.proofs.lines.write_answers.Given as goal

abbrev pub invariant-loop-answer : goal.invariant-loop-answer
invariant-loop-answer l = l.text.items ≡ l.fn.text.items ++ answers_text (take l.answer-index l.answers)
