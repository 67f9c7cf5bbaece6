use Rattle.rule_grammar.proofs.Runs.{prefix_len_few}
use Rattle.rule_grammar.specs.Tokens.{is_word_byte}
use Rattle.rule_grammar.proofs.cursor.run.word_len.Goals as goal

pub returns-clause-count : goal.returns-clause-count
returns-clause-count c = (prefix_len_few is_word_byte 32 c.min.result c.word_bytes_len.result c.args.text.now c.min.ensures c.word_bytes_len.ensures).0

pub returns-clause-within : goal.returns-clause-within
returns-clause-within c = (prefix_len_few is_word_byte 32 c.min.result c.word_bytes_len.result c.args.text.now c.min.ensures c.word_bytes_len.ensures).1
