-- The claims of a book, and when they are legal.
use Rattle.std.specs.Prelude.{◌≡◌, ℕ, ◌+◌, ◌<◌, ◌++◌, List, [], ◌∷◌, Option, Some, None, map, take, length, nat_eq, slice_get}
use Rattle.std.specs.List.{All, IsDistinct}
use Rattle.donor_book.specs.declared.claim.Claim.{Claim}
use Rattle.donor_book.specs.declared.claim.Claim.TheVariants as claim
use Rattle.donor_book.specs.declared.claim.Entry.{Entry}
use Rattle.donor_book.specs.declared.claim.Won.{Won}
use Rattle.donor_book.specs.Claims.{first_free}

-- an entry without its ranking
abbrev pub won_of : Entry → Won
won_of entry = record { row_no = entry.row_no; reply = entry.reply }

-- the rows of a history, with what each was given
abbrev pub wins_of : List Entry → List Won
wins_of history = map won_of history

-- the entry has the reply that this history leaves to its ranking
abbrev pub HasReplyAfter : ℕ → List Won → Entry → Type 0
HasReplyAfter limit history entry = entry.reply ≡ first_free limit history entry.ranking

-- a legal history: each entry has the reply that the entries before it leave to its ranking, and no row stands twice
pub record IsLegalHistory (limit : ℕ) (history : List Entry) : Type 0 where
  pub replies : (place : ℕ) (e : Entry) → slice_get history place ≡ Some e → HasReplyAfter limit (take place (wins_of history)) e
  pub once : IsDistinct nat_eq (map (λ (w : Won). w.row_no) (wins_of history))

-- the row is one of this many rows, and each donor that it ranks one of this many donors
abbrev pub IsEntryWithin : ℕ → ℕ → Entry → Type 0
IsEntryWithin donors rows entry = (entry.row_no < rows) × All (λ donor. donor < donors) entry.ranking

-- the claims up to the one at this place are no legal history, and those before it are
pub record IsFirstIllegal (limit : ℕ) (claims : List Entry) (place : ℕ) : Type 0 where
  pub within : place < length claims
  pub before : IsLegalHistory limit (take place claims)
  pub illegal : ¬ IsLegalHistory limit (take (place + 1) claims)

-- the entry of a first claim
abbrev pub entry_of : ℕ → List ℕ → Option ℕ → Entry
entry_of row ranking reply = record { row_no = row; ranking = ranking; reply = reply }

-- the history after a claim: as before where the row had claimed, and else with the row, its ranking and the reply at the end
abbrev pub history_after : List Entry → ℕ → List ℕ → Claim → List Entry
history_after history row ranking (claim.Had reply) = history
history_after history row ranking claim.Nobody = history ++ entry_of row ranking None ∷ []
history_after history row ranking (claim.Given donor) = history ++ entry_of row ranking (Some donor) ∷ []

-- what a book holds: how often a donor is given at most, how many donors and rows there are, and the history
pub record BookParts : Type 0 where
  pub limit : ℕ
  pub donors : ℕ
  pub rows : ℕ
  pub history : List Entry

-- the same book with another history
abbrev pub with_history : BookParts → List Entry → BookParts
with_history book history = record { limit = book.limit; donors = book.donors; rows = book.rows; history = history }
