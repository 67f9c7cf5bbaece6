use Rattle.std.proofs.Common.{◌∷◌, ℕ}
use Rattle.std.proofs.Transfers.{starts_with_of_append, starts_with_trans}
use Rattle.bound_cert.specs.Paths.{named}
use Rattle.proof_grammar.specs.Limits.{IsLong}
use Rattle.proof_text.proofs.PartTexts.{all_more, text_more}
use Rattle.proof_text.proofs.writing.words.write_all_named.Goals as goal

pub returns-in_err-write_named-clause-begins : goal.returns-in_err-write_named-clause-begins
returns-in_err-write_named-clause-begins c =
    starts_with_trans _ _ _ c.write_named.ensures.begins (starts_with_of_append _ _ _ c.loop-number.invariant.0)

pub loop-number-preserved : goal.loop-number-preserved
loop-number-preserved c =
    let numbers = c.args.numbers.now in
    let i = c.loop-number.number-index in (
      text_more (λ (n : ℕ). 32 ∷ named n) _ numbers i 0 _ _ c.loop-number-test.true c.loop-number.invariant.0 c.in_ok-write_named.ensures.text,
      all_more IsLong numbers i 0 c.loop-number-test.true c.loop-number.invariant.1 c.in_ok-write_named.ensures.sized,
    )
