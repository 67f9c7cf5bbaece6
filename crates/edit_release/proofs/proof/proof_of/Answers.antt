use Rattle.std.proofs.Common.{refl}
use Rattle.edit_release.proofs.proof.proof_of.Goals as goal

pub returns : goal.returns
returns c =
    rw (
      c.from_vec.ensures,
      c.in_ok-verdicts.ensures,
      c.from_vec-2.ensures,
      c.new.ensures.items,
      c.from_vec-3.ensures,
      c.in_ok-rows.ensures,
      c.from_vec-4.ensures,
    ) refl
