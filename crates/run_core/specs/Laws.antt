-- What holds of the state after every list of events, in every order.
use Rattle.std.specs.Prelude.{◌≡◌, ℕ, ◌<◌, ◌≤◌, ◌==◌, ◌++◌, true, Option, Some, None, List, [], ◌∷◌, if◌then◌else◌}
use Rattle.std.specs.List.{All, Any, count_by, filter_map, list_any, sum_by}
use Rattle.edit_line.specs.EditSets.{EditsParts}
use Rattle.linear_elim.specs.Systems.{IsSystem, SystemParts}
use Rattle.donor_book.specs.Entries.{BookParts, IsLegalHistory, entry_of}
use Rattle.donor_book.specs.declared.claim.Claim.{Claim}
use Rattle.donor_book.specs.declared.claim.Claim.TheVariants as claim
use Rattle.donor_book.specs.declared.claim.Entry.{Entry}
use Rattle.run_core.specs.Runs.{MayCome, answered, run}
use Rattle.run_core.specs.States.{CoreParts, start_of}
use Rattle.run_core.specs.Workers.{WorkerState}
use Rattle.run_core.specs.declared.event.CoreEvent.{CoreEvent}
use Rattle.run_core.specs.declared.event.CoreEvent.TheVariants as event
use Rattle.run_core.specs.declared.event.CoreReply.{CoreReply}
use Rattle.run_core.specs.declared.event.CoreReply.TheVariants as reply

-- ---- numbers

-- how often the workers drew the number, all together
abbrev pub times_drawn : ℕ → List WorkerState → ℕ
times_drawn number workers = sum_by (λ (w : WorkerState). count_by (λ x. x == number) w.drawn) workers

-- the numbers that the workers drew are those below the bound, each once; where a worker was told that none is left, they
-- are all those below `rows`
pub record AreDrawn (rows bound : ℕ) (workers : List WorkerState) : Type 0 where
  pub few : bound ≤ rows
  pub once : (number : ℕ) → number < bound → times_drawn number workers ≡ 1
  pub no_other : (number : ℕ) → bound ≤ number → times_drawn number workers ≡ 0
  pub all : Any (λ (w : WorkerState). w.ended ≡ true) workers → bound ≡ rows

-- the numbers that were drawn are those below some number, each once
abbrev pub DrawnLaw : Type 0
DrawnLaw =
    (rows workers : ℕ) (edits : EditsParts) (book : BookParts) (events : List CoreEvent)
    → MayCome (start_of rows workers edits book) events
    → (bound : ℕ) × AreDrawn rows bound (run (start_of rows workers edits book) events).workers

-- ---- systems

-- the system of its fields over these edits
abbrev pub IsSystemOf : EditsParts → SystemParts → Type 0
IsSystemOf edits system = (system.edits ≡ edits) × IsSystem system

-- the second list begins with the first
abbrev pub Begins : List SystemParts → List SystemParts → Type 0
Begins first second = (rest : List SystemParts) × (second ≡ first ++ rest)

-- each system that was published after the events from this start is one of its edits, and stays in its place when the
-- later events come
abbrev pub ArePublished : CoreParts → List CoreEvent → List CoreEvent → Type 0
ArePublished start events later =
    All (IsSystemOf start.edits) (run start events).published
    × Begins (run start events).published (run start (events ++ later)).published

-- each system that was published is one of the edits, and stays in its place whatever comes later
abbrev pub PublishedLaw : Type 0
PublishedLaw =
    (rows workers : ℕ) (edits : EditsParts) (book : BookParts) (events later : List CoreEvent)
    → MayCome (start_of rows workers edits book) events
    → ArePublished (start_of rows workers edits book) events later

-- ---- claims

-- the donor of an answer, or nobody
abbrev pub donor_in : Claim → Option ℕ
donor_in (claim.Given donor) = Some donor
donor_in claim.Nobody = None
donor_in (claim.Had given) = given

-- the donor of a reply
abbrev pub reply_in : CoreReply → Option ℕ
reply_in (reply.Claimed answer) = donor_in answer
reply_in (reply.Drew number) = None
reply_in (reply.Published place) = None

-- the claim of an event, if it is one, with its reply
abbrev pub claim_with : CoreEvent → CoreReply → Option Entry
claim_with (event.Claim worker row ranking) reply = Some (entry_of row ranking (reply_in reply))
claim_with (event.Draw worker) reply = None
claim_with (event.Publish worker system) reply = None

-- the claims among the events, in their order, with their replies
abbrev pub claims_of : List (CoreEvent × CoreReply) → List Entry
claims_of told = filter_map (λ (t : CoreEvent × CoreReply). claim_with t.0 t.1) told

-- the claims that are the first of their row, where the given rows have claimed before
abbrev pub first_claims : List ℕ → List Entry → List Entry
first_claims rows [] = []
first_claims rows (c ∷ claims) =
    if list_any (λ row. row == c.row_no) rows then first_claims rows claims else c ∷ first_claims (rows ++ c.row_no ∷ []) claims

-- after the events from this start the history is legal with the book's limit, and it is the claims that were the first of
-- their row, in the order of their events, each with the reply that its event was answered
abbrev pub IsHistoryOf : CoreParts → List CoreEvent → Type 0
IsHistoryOf start events =
    IsLegalHistory start.book.limit (run start events).book.history
    × ((run start events).book.history ≡ first_claims [] (claims_of (answered start events)))

-- the history is so after all events that may come to an empty book
abbrev pub HistoryLaw : Type 0
HistoryLaw =
    (rows workers : ℕ) (edits : EditsParts) (book : BookParts) (events : List CoreEvent)
    → book.history ≡ []
    → MayCome (start_of rows workers edits book) events
    → IsHistoryOf (start_of rows workers edits book) events
