use Rattle.std.proofs.Common.{◌≡◌, ◌∷◌, ◌++◌, [], ℕ, List, codes, arith, sym, ap, ◌∙◌}
use Rattle.std.proofs.lemmas.Grind.{common_steps}
use Rattle.std.specs.List.{flat_map}
use Rattle.bound_cert.specs.Paths.{named}
use Rattle.proof_grammar.specs.ProofLines.{named_or_0}
use Rattle.proof_text.proofs.PartTexts.{named-words}
use Rattle.proof_text.proofs.writing.claims.write_claim.Goals as goal

pub returns-clause-text : goal.returns-clause-text
returns-clause-text c =
    let e = c.args.claim.now in
    let pieces : c.push.new.self.items ≡ c.args.text.now.items
    ++ (codes "claim " ++ ((named e.row_no ++ (32 ∷ (named_or_0 e.reply ++ flat_map (λ (n : ℕ). 32 ∷ named n) e.ranking))) ++ (10 ∷ []))) =
    grind (arith, common_steps) in
    pieces ∙ ap (λ (ws : List ℕ). c.args.text.now.items ++ (codes "claim " ++ ((named e.row_no ++ (32 ∷ ws)) ++ (10 ∷ []))))
    (sym (named-words (named_or_0 e.reply) e.ranking))
