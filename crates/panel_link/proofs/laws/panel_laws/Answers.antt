use Rattle.panel_link.proofs.AnswerLaws.{tells}
use Rattle.panel_link.proofs.LinkedCases.{linked-is}
use Rattle.panel_link.proofs.OneAnswer.{one-answer}
use Rattle.panel_link.proofs.PinLaws.{pins-tell}
use Rattle.panel_link.proofs.laws.panel_laws.Goals as goal

pub returns-clause-pins : goal.returns-clause-pins
returns-clause-pins c survey row fixed p well is_row values = pins-tell survey row fixed is_row values well p

pub returns-clause-linked : goal.returns-clause-linked
returns-clause-linked c survey row fixed budget answer well is_row told =
    tells survey row fixed budget well (linked-is survey row fixed well is_row) answer told

pub returns-clause-one : goal.returns-clause-one
returns-clause-one c survey row fixed budget answer other well is_row told also =
    one-answer survey row fixed budget answer other (linked-is survey row fixed well is_row) told also
