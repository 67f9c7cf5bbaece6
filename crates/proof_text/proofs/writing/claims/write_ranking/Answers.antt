use Rattle.std.proofs.Common.{◌∷◌, ℕ, get_or, rules}
use Rattle.bound_cert.specs.Paths.{named}
use Rattle.proof_grammar.specs.Limits.{IsShort}
use Rattle.proof_text.proofs.PartTexts.{all_more, text_more}
use Rattle.proof_text.proofs.writing.claims.write_ranking.Goals as goal

pub loop-donor-preserved : goal.loop-donor-preserved
loop-donor-preserved c =
    let ranking = c.args.ranking.now in
    let i = c.loop-donor.donor-index in
    let short : IsShort (get_or ranking i 0) = search rules in (
      text_more (λ (n : ℕ). 32 ∷ named n) _ ranking i 0 _ _ c.loop-donor-test.true c.loop-donor.invariant.0 c.in_ok-write_named.ensures.text,
      all_more IsShort ranking i 0 c.loop-donor-test.true c.loop-donor.invariant.1 short,
    )
