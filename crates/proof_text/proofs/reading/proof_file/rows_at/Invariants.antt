use Rattle.std.proofs.Common.{◌≡◌, take}
use Rattle.proof_text.proofs.reading.proof_file.rows_at.Given as goal

abbrev pub invariant-loop-place : goal.invariant-loop-place
invariant-loop-place l = l.rows.items ≡ take l.place-index l.places
