-- The file took the bytes before those that are left.
use Rattle.std.proofs.Common.{◌≡◌, ℕ, take, drop}
use Rattle.std.specs.Io.KnownBytes.{Appends}
use Rattle.edit_desk.proofs.writing.write_whole.Given as goal

abbrev pub invariant-loop : goal.invariant-loop
invariant-loop g l = (done : ℕ) × (l.rest ≡ drop done l.bytes) × Appends (g.W.Write.contents l.initial.to) (g.W.Write.contents l.to) (take done l.bytes)
