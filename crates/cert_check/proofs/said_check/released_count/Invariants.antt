use Rattle.std.proofs.Common.{◌≡◌, ◌≤◌, length, take}
use Rattle.std.specs.List.{filter}
use Rattle.cert_check.specs.Releases.{is_released}
use Rattle.cert_check.proofs.said_check.released_count.Given as goal

abbrev pub invariant-loop-place : goal.invariant-loop-place
invariant-loop-place l = (l.count ≡ length (filter is_released (take l.place-index l.saids))) × (l.count ≤ l.place-index)
