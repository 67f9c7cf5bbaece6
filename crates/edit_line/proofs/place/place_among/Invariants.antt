use Rattle.std.proofs.Common.{◌≡◌, ◌+◌, drop}
use Rattle.edit_line.specs.Shapes.{place_in}
use Rattle.edit_line.proofs.place.place_among.Given as goal

abbrev pub invariant-loop-place : goal.invariant-loop-place
invariant-loop-place l = l.place + place_in (drop l.place l.fields) l.field ≡ place_in l.fields l.field
