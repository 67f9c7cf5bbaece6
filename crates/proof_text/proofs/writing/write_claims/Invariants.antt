use Rattle.std.proofs.Common.{◌≡◌, ◌++◌, codes, take}
use Rattle.std.specs.List.{AllByRecursion, flat_map}
use Rattle.proof_grammar.specs.ProofLines.{claim_line, count_line, line_text}
use Rattle.donor_book.specs.declared.claim.Entry.{Entry}
use Rattle.proof_grammar.specs.Limits.{IsEntry}
use Rattle.proof_text.proofs.writing.write_claims.Given as goal

abbrev pub invariant-loop-claim : goal.invariant-loop-claim
invariant-loop-claim l = (l.text.items ≡ l.fn.text.items ++ line_text (count_line (codes "claims") l.claims)
    ++ flat_map (λ (claim : Entry). line_text (claim_line claim)) (take l.claim-index l.claims)) × AllByRecursion IsEntry (take l.claim-index l.claims)
