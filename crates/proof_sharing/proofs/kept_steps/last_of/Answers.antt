use Rattle.std.proofs.Common.{◌≡◌, ◌-◌, Some, length, slice_get, arith}
use Rattle.std.proofs.lemmas.Option.{slice_get_within}
use Rattle.proof_sharing.proofs.SharingLoops.{last-is}
use Rattle.proof_sharing.proofs.kept_steps.last_of.Goals as goal

pub returns-in-Some : goal.returns-in-Some
returns-in-Some c =
    let numbers = c.args.numbers.now in
    let there : slice_get numbers (length numbers - 1) ≡ Some c.in-Some.number.now = cc (c.in-Some.ensures.value) in
    last-is numbers (length numbers - 1) c.in-Some.number.now (omega (arith, slice_get_within numbers (length numbers - 1) c.in-Some.number.now there)) there
