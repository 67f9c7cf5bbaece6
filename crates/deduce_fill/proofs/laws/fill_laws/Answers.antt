use Rattle.deduce_fill.proofs.AnswerLaws.{says}
use Rattle.deduce_fill.proofs.OneAnswer.{one-answer}
use Rattle.deduce_fill.proofs.TestLaws.{value-lines}
use Rattle.deduce_fill.proofs.laws.fill_laws.Goals as goal

pub returns-clause-lines : goal.returns-clause-lines
returns-clause-lines c survey row f p is within some codes = value-lines survey row f p is codes some

pub returns-clause-filled : goal.returns-clause-filled
returns-clause-filled c survey edits row budget answer is told = says survey edits row is budget answer told

pub returns-clause-one : goal.returns-clause-one
returns-clause-one c survey edits row budget answer other is told also = one-answer survey edits row is budget answer other told also
