use Rattle.edit_model.specs.Surveys.{is_digit}
use Rattle.rule_grammar.proofs.Runs.{prefix_passes}
use Rattle.rule_grammar.proofs.cursor.numeral.first_numeral.Goals as goal

pub whole_numeral-requires : goal.whole_numeral-requires
whole_numeral-requires c = rw (c.split_at.ensures.front, c.digits_len.ensures.count) (prefix_passes is_digit c.args.text.now)
