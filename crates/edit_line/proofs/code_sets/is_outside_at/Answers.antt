use Rattle.std.proofs.Common.{◌≡◌, Bool, true, false, not, refl}
use Rattle.edit_line.proofs.SetLaws.{outside_at}
use Rattle.edit_line.proofs.code_sets.is_outside_at.Goals as goal

pub returns-then-place-second : goal.returns-then-place-second
returns-then-place-second c = λ h. outside_at c.args.first.now c.args.second.now c.args.place c.if-place-second.true.0 c.if-place-second.true.1 (undo _ h)
  where
    undo : (b : Bool) → not b ≡ true → b ≡ false
    undo false h = refl
    undo true h = absurd (cc)
