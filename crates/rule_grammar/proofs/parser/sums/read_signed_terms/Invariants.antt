use Rattle.std.proofs.Common.{◌≡◌, length}
use Rattle.rule_grammar.proofs.ManyLaws.{prefixed}
use Rattle.rule_grammar.specs.inner.Parsing.{is_sign, many_at, signed_term_at}
use Rattle.rule_grammar.proofs.parser.sums.read_signed_terms.Given as goal

abbrev pub invariant-loop-cursor : goal.invariant-loop-cursor
invariant-loop-cursor l = prefixed l.terms.items (many_at is_sign signed_term_at l.cursor) ≡ many_at is_sign signed_term_at l.fn.cursor

abbrev pub decreases-loop-cursor : goal.decreases-loop-cursor
decreases-loop-cursor l = length l.cursor
