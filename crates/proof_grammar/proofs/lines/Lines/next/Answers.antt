use Rattle.std.proofs.Common.{◌≡◌, ◌+◌, ap, arith, length, rules, ◌∙◌}
use Rattle.proof_grammar.specs.Cuts.{lines_in}
use Rattle.proof_grammar.proofs.WordLaws.{line-cut}
use Rattle.proof_grammar.proofs.lines.Lines.next.Goals as goal

pub returns-in-Some-clause-line : goal.returns-in-Some-clause-line
returns-in-Some-clause-line c =
    let view : c.args.self.now.left ≡ lines_in c.self.inside.rest.now = search rules in
    view ∙ line-cut c.self.inside.rest.now c.in-Some.line.now c.in-Some.rest.now c.in-Some.ensures.some

pub returns-in-Some-clause-all : goal.returns-in-Some-clause-all
returns-in-Some-clause-all c =
    let view : c.args.self.now.all ≡ c.self.inside.taken + length (lines_in c.self.inside.rest.now) = search rules in
    let cut = line-cut c.self.inside.rest.now c.in-Some.line.now c.in-Some.rest.now c.in-Some.ensures.some in
    omega (arith, view, ap length cut)
