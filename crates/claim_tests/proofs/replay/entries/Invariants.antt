use Rattle.std.proofs.Common.{All}
use Rattle.donor_book.specs.Entries.{IsEntryWithin}
use Rattle.claim_tests.proofs.replay.entries.Given as goal

abbrev pub invariant-loop-row_no : goal.invariant-loop-row_no
invariant-loop-row_no l = All (IsEntryWithin 2 4) l.entries.items
