-- How long the files of a run may be.
use Rattle.std.specs.Prelude.{ℕ}

-- the most bytes of a file of rules or records, and of a released file: 64 MiB
abbrev pub most_bytes : ℕ
most_bytes = 67108864

-- the most bytes of a proof: 512 MiB
abbrev pub most_proof_bytes : ℕ
most_proof_bytes = 536870912
