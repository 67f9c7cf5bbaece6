use Rattle.std.proofs.Common.{◌≡◌, drop}
use Rattle.edit_line.specs.Sets.{are_codes_in}
use Rattle.localise_tree.specs.inner.AllKept.{codes_of_row}
use Rattle.localise_tree.proofs.all_kept.are_codes_in_sets.Given as goal

abbrev pub invariant-loop-place : goal.invariant-loop-place
invariant-loop-place l = are_codes_in (drop l.place l.sets) (codes_of_row (drop l.place l.fields) l.row) ≡ are_codes_in l.sets (codes_of_row l.fields l.row)
