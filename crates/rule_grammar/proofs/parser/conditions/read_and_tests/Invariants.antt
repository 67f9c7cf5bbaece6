use Rattle.std.proofs.Common.{◌≡◌, length}
use Rattle.rule_grammar.proofs.ManyLaws.{prefixed}
use Rattle.rule_grammar.specs.inner.Parsing.{and_test_at, and_tests_at, is_word, many_at}
use Rattle.rule_grammar.specs.declared.token.Keyword.TheVariants as keyword
use Rattle.rule_grammar.proofs.parser.conditions.read_and_tests.Given as goal

abbrev pub invariant-loop-alloc : goal.invariant-loop-alloc
invariant-loop-alloc l = prefixed l.tests.items (many_at (is_word keyword.And) and_test_at l.cursor) ≡ and_tests_at l.fn.first l.fn.cursor

abbrev pub decreases-loop-alloc : goal.decreases-loop-alloc
decreases-loop-alloc l = length l.cursor
