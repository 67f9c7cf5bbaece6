use Rattle.std.proofs.Common.{◌+◌, ◌<◌, ◌∙◌, true, ap, arith, length, slice_set}
use Rattle.std.specs.List.{flat_map}
use Rattle.std.proofs.lemmas.List.{length-set}
use Rattle.proof_grammar.specs.ProofLines.{verdict_lines}
use Rattle.cert_check.proofs.CountLaws.{count-fits, count-more}
use Rattle.cert_check.proofs.VerdictsLoop.{found-none, found-some}
use Rattle.std.proofs.lemmas.Grind.{elements}
use Rattle.cert_check.proofs.dropped.verdicts_fault.Goals as goal
use Rattle.cert_check.proofs.dropped.verdicts_fault.Goals.{In-Some}

-- the fault stands on a line of the verdicts
within : (c : In-Some) → c.loop-place.offset + c.in-Some.behind < length (flat_map verdict_lines c.args.verdicts.now)
within c =
    let fits = count-fits verdict_lines c.args.verdicts.now c.loop-place.place c.index-verdicts-place.result c.loop-place-test.true c.index-verdicts-place.is in
    let behind = rw c.in-Some.is at c.in_ok-behind.ensures.within in
    omega (arith, fits, behind, c.loop-place.invariant.1)

pub overflow_add-result : goal.overflow_add-result
overflow_add-result c = omega (arith, within c, c.requires.few)

pub returns-in-Some-clause-within : goal.returns-in-Some-clause-within
returns-in-Some-clause-within c = within (goal.at.returns-in-Some-clause-within c).In-Some

pub returns-in-Some-clause-found : goal.returns-in-Some-clause-found
returns-in-Some-clause-found c =
    found-some c.args.survey.now c.args.verdicts.now c.loop-place.place c.loop-place.offset c.loop-place.left.items c.loop-place.invariant.0
    c.loop-place.lines.items _ (c.loop-place.invariant.2 ∙ c.requires.lines) c.in_ok-row.ensures.values
    (c.requires.each ∙ ap length c.requires.lines) c.loop-place-test.true c.index-verdicts-place.result c.index-verdicts-place.is c.in_ok-behind.field-0
    c.in_ok-behind.ensures.found c.in-Some.behind c.in-Some.is

pub verdict_line_count-offset-requires : goal.verdict_line_count-offset-requires
verdict_line_count-offset-requires c =
    let fits = count-fits verdict_lines c.args.verdicts.now c.loop-place.place c.index-verdicts-place.result c.loop-place-test.true c.index-verdicts-place.is in
    omega (arith, fits, c.requires.few)

pub overflow_add-offset : goal.overflow_add-offset
overflow_add-offset c =
    let fits = count-fits verdict_lines c.args.verdicts.now c.loop-place.place c.index-verdicts-place.result c.loop-place-test.true c.index-verdicts-place.is in
    omega (arith, fits, c.requires.few, c.loop-place.invariant.1, c.verdict_line_count-offset.ensures)

pub loop-place-preserved : goal.loop-place-preserved
loop-place-preserved c =
    let more = count-more verdict_lines c.args.verdicts.now c.loop-place.place c.index-verdicts-place.result
    c.loop-place-test.true c.index-verdicts-place.is in (
      found-none c.args.survey.now c.args.verdicts.now c.loop-place.place c.loop-place.offset c.loop-place.left.items c.loop-place.invariant.0
          c.loop-place.lines.items _ (c.loop-place.invariant.2 ∙ c.requires.lines) c.in_ok-row.ensures.values
          (c.requires.each ∙ ap length c.requires.lines) c.loop-place-test.true c.index-verdicts-place.result c.index-verdicts-place.is c.in_ok-behind.field-0
          c.in_ok-behind.ensures.found (c.loop-place.place + 1)
          (c.loop-place.offset + c.verdict_line_count-offset.result) (slice_set c.verdict_fault.new.left.items c.loop-place.place true) c.in_default.is
          (omega arith) (ap (λ n. c.loop-place.offset + n) c.verdict_line_count-offset.ensures)
          (ap (λ bs. slice_set bs c.loop-place.place true) c.in_ok-behind.ensures.left),
      omega (arith, more, c.verdict_line_count-offset.ensures, c.loop-place.invariant.1),
      c.in_ok-behind.ensures.lines ∙ c.loop-place.invariant.2,
      length-set c.verdict_fault.new.left.items c.loop-place.place true ∙ ap length c.in_ok-behind.ensures.left ∙ c.loop-place.invariant.3,
    )

pub loop-place-init : goal.loop-place-init
loop-place-init c = grind (arith, elements)
