use Rattle.std.proofs.Common.{◌≡◌}
use Rattle.std.specs.List.{fold}
use Rattle.categ_combine.specs.BoxLists.{with_from}
use Rattle.categ_combine.proofs.step.with_all.Given as goal

abbrev pub invariant-loop-b : goal.invariant-loop-b
invariant-loop-b l = l.kept.items ≡ fold with_from l.initial.kept.items l.yielded
