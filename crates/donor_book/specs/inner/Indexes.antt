-- The table of uses and the index of rows, from which a claim is answered without a look at the history.
use Rattle.std.specs.Prelude.{◌≡◌, ℕ, ◌+◌, ◌<◌, ◌≤◌, ◌^◌, List, Option, Some, None, length, option_map, slice_index, slice_index_or, slice_set}
use Rattle.std.specs.List.{All}
use Rattle.donor_book.specs.declared.claim.Entry.{Entry}
use Rattle.donor_book.specs.declared.claim.Won.{Won}
use Rattle.donor_book.specs.Claims.{IsWithin, claim_of, uses_of}
use Rattle.donor_book.specs.Entries.{BookParts, HasReplyAfter, IsLegalHistory, wins_of}

-- one use more of the donor, if there is one
abbrev pub with_use : Option ℕ → List ℕ → List ℕ
with_use None uses = uses
with_use (Some donor) uses = slice_set uses donor (slice_index uses donor + 1)

-- what the row was given, if it has claimed
abbrev pub reply_in : ℕ → List Won → Option (Option ℕ)
reply_in row history = option_map (λ (w : Won). w.reply) (claim_of row history)

-- the table counts how often each donor was given, and the index has what each row was given
pub record IsReplay (history : List Won) (uses : List ℕ) (replies : List (Option (Option ℕ))) : Type 0 where
  pub counted : (donor : ℕ) → donor < length uses → slice_index uses donor ≡ uses_of donor history
  pub answered : (row : ℕ) (d : Option (Option ℕ)) → row < length replies → slice_index_or replies row d ≡ reply_in row history

-- the entry's row is not in the history, and its reply is what the history leaves to its ranking
abbrev pub IsNext : ℕ → List Won → Entry → Type 0
IsNext limit history entry = (claim_of entry.row_no history ≡ None) × HasReplyAfter limit history entry

-- the book of a table of uses, with one number for each donor, and an index of rows, with one place for each row
abbrev pub book_of : ℕ → List ℕ → List (Option (Option ℕ)) → List Entry → BookParts
book_of limit uses replies history = record { limit = limit; donors = length uses; rows = length replies; history = history }

-- what a book keeps: a legal history of donors and rows that there are, which the table and the index tell; and the
-- history has room for each row
abbrev pub KeepsBook : ℕ → List ℕ → List (Option (Option ℕ)) → List Entry → ℕ → Type 0
KeepsBook limit uses replies history room =
    IsLegalHistory limit history
    × All (IsWithin (length uses) (length replies)) (wins_of history)
    × IsReplay (wins_of history) uses replies
    × (length replies ≤ room)
    × (length replies < 2 ^ 32)
