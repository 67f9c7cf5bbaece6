use Rattle.donor_book.specs.Entries.{entry_of}
use Rattle.donor_book.proofs.shared.SharedBook.try_claim.Given as goal

abbrev pub ghosts-enter : goal.ghosts-enter
ghosts-enter a = record { entry = entry_of a.claim.row_no a.ranking.now a.claim.reply }
