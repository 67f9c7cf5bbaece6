use Rattle.std.proofs.Common.{◌≡◌, ◌++◌, map, take}
use Rattle.bound_cert.specs.Paths.{letter}
use Rattle.bound_cert.proofs.path.write_letters.Given as goal

abbrev pub invariant-loop-changed : goal.invariant-loop-changed
invariant-loop-changed l = l.text.items ≡ l.fn.text.items ++ map letter (take l.changed-index l.letters)
