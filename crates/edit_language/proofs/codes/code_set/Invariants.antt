use Rattle.std.proofs.Common.{◌≡◌, ◌+◌, ◌*◌, ◌^◌, drop}
use Rattle.edit_language.specs.Meaning.{code_set, listed}
use Rattle.edit_language.proofs.codes.code_set.Given as goal

abbrev pub invariant-loop-i : goal.invariant-loop-i
invariant-loop-i l = l.set + 2 ^ l.i * code_set (drop l.i l.codes) (listed l.list) ≡ code_set l.codes (listed l.list)
