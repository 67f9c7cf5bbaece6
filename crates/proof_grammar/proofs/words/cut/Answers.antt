use Rattle.std.proofs.Common.{◌∷◌, ◌+◌, ap, sym, take, ◌∙◌}
use Rattle.proof_grammar.specs.Cuts.{split}
use Rattle.proof_grammar.proofs.WordLaws.{rest-is, split-cut, split-whole}
use Rattle.proof_grammar.proofs.words.cut.Goals as goal

pub returns-in-Some-clause-some : goal.returns-in-Some-clause-some
returns-in-Some-clause-some c = (split-cut c.args.mark c.args.text.now c.in-Some.place (sym c.in-Some.ensures)).1
    ∙ ap (λ rest. take c.in-Some.place c.args.text.now ∷ split c.args.mark rest) (rest-is c.args.text.now (c.in-Some.place + 1))

pub returns-in-None-clause-none : goal.returns-in-None-clause-none
returns-in-None-clause-none c = split-whole c.args.mark c.args.text.now (sym c.in-None.ensures)
