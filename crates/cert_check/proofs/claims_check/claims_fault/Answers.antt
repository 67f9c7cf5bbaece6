use Rattle.std.proofs.Common.{arith, length, refl}
use Rattle.cert_check.proofs.ClaimLaws.{claims-within}
use Rattle.cert_check.proofs.LineNumbers.{all-lines}
use Rattle.cert_check.proofs.claims_check.claims_fault.Goals as goal

pub overflow_add-result : goal.overflow_add-result
overflow_add-result c =
    let wrong = rw c.in-Some.is at c.in_ok-place.ensures in
    omega (arith, all-lines c.args.said.now, c.requires.counted, c.in_ok-claims_line.ensures, wrong.there)

pub overflow_add-result-in-Some : goal.overflow_add-result-in-Some
overflow_add-result-in-Some c =
    let wrong = rw c.in-Some.is at c.in_ok-place.ensures in
    omega (arith, all-lines c.args.said.now, c.requires.counted, c.in_ok-claims_line.ensures, wrong.there)

pub all_claim-requires : goal.all_claim-requires
all_claim-requires c =
    let rows = c.args.records.now.rows in
    let p = c.args.said.now in
    let right = rw c.in_default.is at c.in_ok-place.ensures in
    record {
      there = λ k d below. omega (
        arith,
        (claims-within c.args.survey.now rows p (length rows) p.claims refl c.requires.one_each right.each k d below).0,
        c.requires.one_each,
      );
    }
