use Rattle.std.proofs.Common.{◌≡◌, length}
use Rattle.rule_grammar.proofs.ManyLaws.{prefixed}
use Rattle.rule_grammar.specs.inner.Parsing.{comma_code_at, is_comma, many_at}
use Rattle.rule_grammar.proofs.parser.lists.read_comma_codes.Given as goal

abbrev pub invariant-loop-cursor : goal.invariant-loop-cursor
invariant-loop-cursor l = prefixed l.codes.items (many_at is_comma comma_code_at l.cursor) ≡ many_at is_comma comma_code_at l.fn.cursor

abbrev pub decreases-loop-cursor : goal.decreases-loop-cursor
decreases-loop-cursor l = length l.cursor
