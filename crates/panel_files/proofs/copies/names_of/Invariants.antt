use Rattle.std.proofs.Common.{◌≡◌, take}
use Rattle.panel_files.proofs.copies.names_of.Given as goal

abbrev pub invariant-loop-name : goal.invariant-loop-name
invariant-loop-name l = l.copies.items ≡ take l.name-index l.names
