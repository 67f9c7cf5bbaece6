use Rattle.std.proofs.Common.{◌∙◌, [], sym}
use Rattle.command_words.proofs.ApartLaws.{behind_apart, from_here, here_apart}
use Rattle.command_words.proofs.file_names.are_apart.Goals as goal

pub returns-then-not-is_apart_from : goal.returns-then-not-is_apart_from
returns-then-not-is_apart_from c = (
  (λ yes. absurd (cc yes)),
  (λ apart. sym c.if-not-is_apart_from.true
      ∙ c.is_apart_from.ensures.1 (here_apart c.args.names.now c.loop-place.place _ c.loop-place-test.true (c.loop-place.invariant.0 apart))),
)

pub loop-place-preserved : goal.loop-place-preserved
loop-place-preserved c =
    let here = c.is_apart_from.ensures.0 c.if-not-is_apart_from.false in (
      (λ apart. behind_apart c.args.names.now c.loop-place.place (record { ref_ptr = (0, 0); now = [] }) c.loop-place-test.true
          (c.loop-place.invariant.0 apart)),
      (λ apart. c.loop-place.invariant.1 (from_here c.args.names.now c.loop-place.place _ c.loop-place-test.true here apart)),
    )
