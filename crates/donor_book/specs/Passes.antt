-- A shared book and its passes, as callers see them.
use Rattle.std.specs.Prelude.{◌≡◌, ℕ, ◌<◌, ◌≤◌, ◌==◌, ◌++◌, Some, None, List, [], ◌∷◌, length, map, take, nat_eq, slice_get}
use Rattle.std.specs.List.{All, IsDistinct, count_by, sum_by}
use Rattle.std.specs.List.Sorted.{IsStrictlyIncreasing}
use Rattle.atomic_table.specs.Seated.{TableId}
use Rattle.donor_book.specs.declared.claim.Claim.{Claim}
use Rattle.donor_book.specs.declared.claim.Claim.TheVariants as claim
use Rattle.donor_book.specs.declared.claim.Entry.{Entry}
use Rattle.donor_book.specs.declared.claim.Won.{Won}
use Rattle.donor_book.specs.declared.rule.Placed.{Placed}
use Rattle.donor_book.specs.declared.rule.Terms.{Terms}
use Rattle.donor_book.specs.Claims.{IsWithin, answer_to}
use Rattle.donor_book.specs.Entries.{HasReplyAfter, IsLegalHistory, entry_of, won_of, wins_of}

-- a shared book: which one it is, and its terms
pub record BookName : Type 0 where
  pub table : TableId
  pub terms : Terms

-- a pass: its book, the beginning of the history that it has seen, and its own claims with their places
pub record PassState : Type 0 where
  pub book : BookName
  pub seen : List Won
  pub mine : List Placed

-- a pass of this book that has seen and claimed nothing
pub record IsFresh (name : BookName) (pass : PassState) : Type 0 where
  pub book : pass.book ≡ name
  pub seen : pass.seen ≡ []
  pub mine : pass.mine ≡ []

-- the history begins with what was seen
abbrev pub StartsWith : List Won → List Won → Type 0
StartsWith history seen = (rest : List Won) × (history ≡ seen ++ rest)

-- the pass, when it has seen this history
abbrev pub having_seen : PassState → List Won → PassState
having_seen pass history = record { book = pass.book; seen = history; mine = pass.mine }

-- the claim of this entry at this place of the history
abbrev pub placed : ℕ → Entry → Placed
placed place entry = record { place = place; entry = entry }

-- the entry goes behind all that the pass had seen, and is one of its own claims
abbrev pub Enters : PassState → Entry → PassState → Type 0
Enters old entry new = (new.seen ≡ old.seen ++ won_of entry ∷ []) × (new.mine ≡ old.mine ++ placed (length old.seen) entry ∷ [])

-- what an answer leaves in the pass: nothing more where the row had claimed before, and else the row's entry
abbrev pub Leaves : PassState → ℕ → List ℕ → Claim → PassState → Type 0
Leaves old row ranking (claim.Given donor) new = Enters old (entry_of row ranking (Some donor)) new
Leaves old row ranking claim.Nobody new = Enters old (entry_of row ranking None) new
Leaves old row ranking (claim.Had reply) new = (new.seen ≡ old.seen) × (new.mine ≡ old.mine)

-- a claim is answered as after a history that begins with what the pass had seen, and leaves in the pass, which has seen
-- that history, what its answer says
abbrev pub IsAnswered : PassState → ℕ → List ℕ → Claim → PassState → Type 0
IsAnswered old row ranking answer new =
    (history : List Won)
    × StartsWith history old.seen
    × (answer ≡ answer_to old.book.terms.limit history row ranking)
    × Leaves (having_seen old history) row ranking answer new

-- each claim of the pass is in what it has seen, at a place behind those of its earlier claims
pub record ArePlaced (seen : List Won) (mine : List Placed) : Type 0 where
  pub within : All (λ (m : Placed). m.place < length seen) mine
  pub rising : IsStrictlyIncreasing (map (λ (m : Placed). m.place) mine)

-- the rows and donors are those that there are, and no row stands twice
pub record IsSound (terms : Terms) (history : List Won) : Type 0 where
  pub within : All (IsWithin terms.donors terms.rows) history
  pub once : IsDistinct nat_eq (map (λ (w : Won). w.row_no) history)

-- the claim stands in the history at its place, with the reply that the claims before it leave to its ranking
abbrev pub IsClaim : ℕ → List Won → Placed → Type 0
IsClaim limit history m = (slice_get history m.place ≡ Some (won_of m.entry)) × HasReplyAfter limit (take m.place history) m.entry

-- how many of the claims are at this place
abbrev pub claims_at : ℕ → List Placed → ℕ
claims_at place mine = count_by (λ (m : Placed). m.place == place) mine

-- how many claims of these passes are at this place
abbrev pub claimed_at : ℕ → List PassState → ℕ
claimed_at place passes = sum_by (λ (pass : PassState). claims_at place pass.mine) passes

-- the history begins with what each pass has seen, and it is made of the claims of the passes: each place is of one claim
pub record IsWhole (limit : ℕ) (passes : List PassState) (history : List Won) : Type 0 where
  pub seen : All (λ (pass : PassState). StartsWith history pass.seen) passes
  pub mine : All (λ (pass : PassState). All (IsClaim limit history) pass.mine) passes
  pub once : (place : ℕ) → place < length history → claimed_at place passes ≡ 1
  pub no_other : (place : ℕ) → length history ≤ place → claimed_at place passes ≡ 0

-- the claims of the passes, each at its place, are a legal history
pub record AreCollected (limit : ℕ) (passes : List PassState) (history : List Won) (entries : List Entry) : Type 0 where
  pub wins : wins_of entries ≡ history
  pub placed : All (λ (pass : PassState). All (λ (m : Placed). slice_get entries m.place ≡ Some m.entry) pass.mine) passes
  pub legal : IsLegalHistory limit entries
