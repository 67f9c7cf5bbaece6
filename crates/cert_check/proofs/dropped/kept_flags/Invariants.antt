use Rattle.std.proofs.Common.{◌≡◌, map, take}
use Rattle.std.specs.Option.{is_none}
use Rattle.cert_check.proofs.dropped.kept_flags.Given as goal

abbrev pub invariant-loop-verdict : goal.invariant-loop-verdict
invariant-loop-verdict l = l.flags.items ≡ map is_none (take l.verdict-index l.verdicts)
