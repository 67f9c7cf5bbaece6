use Rattle.std.proofs.Common.{Some}
use Rattle.record_workers.proofs.source.find_piece.Given as goal

abbrev pub ghosts-find_lent : goal.ghosts-find_lent
ghosts-find_lent g a = record { pool = Some a.rest.now.pool; reader = a.reader.ghost_name }
