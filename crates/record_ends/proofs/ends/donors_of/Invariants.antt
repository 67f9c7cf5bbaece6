use Rattle.std.proofs.Common.{◌≡◌, length, take}
use Rattle.record_ends.specs.inner.Donors.{ListsDonors}
use Rattle.record_ends.proofs.ends.donors_of.Given as goal

abbrev pub invariant-loop-entry : goal.invariant-loop-entry
invariant-loop-entry l = record {
  as_many : length l.donors.items ≡ l.rows;
  lists : ListsDonors (take l.entry-index l.history) l.rows l.donors.items;
}
