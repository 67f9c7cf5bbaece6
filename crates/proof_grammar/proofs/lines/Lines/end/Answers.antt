use Rattle.std.proofs.Common.{◌≡◌, ◌+◌, ◌==◌, ap, arith, false, length, rules, sym, ◌∙◌}
use Rattle.proof_grammar.specs.Cuts.{lines_in}
use Rattle.proof_grammar.proofs.WordLaws.{left-some}
use Rattle.proof_grammar.proofs.lines.Lines.end.Goals as goal

pub returns-else-is_empty : goal.returns-else-is_empty
returns-else-is_empty c =
    let view : c.args.self.now.left ≡ lines_in c.self.inside.rest.now = search rules in
    let all : c.args.self.now.all ≡ c.self.inside.taken + length (lines_in c.self.inside.rest.now) = search rules in
    let some : (length c.self.inside.rest.now == 0) ≡ false = search rules in
    (λ none. left-some c.self.inside.rest.now some (sym view ∙ none), omega (arith, all, ap length view))
