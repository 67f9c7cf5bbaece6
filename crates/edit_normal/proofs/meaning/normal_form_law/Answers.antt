use Rattle.edit_normal.proofs.MeaningLaws.{lines-mean}
use Rattle.edit_normal.proofs.meaning.normal_form_law.Goals as goal

pub returns : goal.returns
returns c = record { same = λ survey well p held. lines-mean survey p well held }
