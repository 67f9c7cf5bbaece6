-- What workers that run side by side share.
use Rattle.std.specs.Prelude.{ℕ, List, [], replicate}
use Rattle.edit_line.specs.EditSets.{EditsParts}
use Rattle.linear_elim.specs.Systems.{SystemParts}
use Rattle.donor_book.specs.Entries.{BookParts}
use Rattle.run_core.specs.Workers.{WorkerState, idle}

-- how many rows there are, the next number, what each worker drew, the edits, the systems that were published, and the
-- book of donors
pub record CoreParts : Type 0 where
  pub rows : ℕ
  pub next : ℕ
  pub workers : List WorkerState
  pub edits : EditsParts
  pub published : List SystemParts
  pub book : BookParts

-- the state at the start: nothing is drawn or published
abbrev pub start_of : ℕ → ℕ → EditsParts → BookParts → CoreParts
start_of rows workers edits book =
    record { rows = rows; next = 0; workers = replicate workers idle; edits = edits; published = []; book = book }
