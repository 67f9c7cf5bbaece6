use Rattle.std.proofs.Common.{◌≡◌, take}
use Rattle.cert_check.proofs.released_file.are_equal.Given as goal

abbrev pub invariant-loop-place : goal.invariant-loop-place
invariant-loop-place l = take l.place l.texts ≡ take l.place l.others
