use Rattle.std.proofs.Common.{length}
use Rattle.edit_language.proofs.GrammarLaws.{IsReadTo}
use Rattle.edit_language.proofs.reading.read_rules.Given as goal

abbrev pub invariant-loop-line : goal.invariant-loop-line
invariant-loop-line l = IsReadTo l.bytes l.rest l.number l.draft

abbrev pub decreases-loop-line : goal.decreases-loop-line
decreases-loop-line l = length l.rest
