-- What the calls of a desk do to its files, and what they leave on record.
use Rattle.std.specs.Prelude.{◌≡◌, ◌≢◌, ◌⊎◌, ⊤, ℕ, ◌+◌, ◌-◌, ◌^◌, ◌<◌, ◌≤◌, min, Bool, true, false, Option, Some, None, IsSomeAnd, Result}
use Rattle.std.specs.Prelude.{Ok, Err, List, [], ◌∷◌, ◌++◌, length, take, Vec}
use Rattle.std.specs.declared.alloc.Global.{Global}
use Rattle.edit_desk.specs.declared.calls.FetchError.{FetchError}
use Rattle.edit_desk.specs.declared.calls.FetchError.TheVariants as fetch
use Rattle.edit_desk.specs.declared.calls.StoreError.{StoreError}
use Rattle.edit_desk.specs.declared.calls.StoreError.TheVariants as store

-- the bytes that stand under each name, or nothing where no file has that name
abbrev pub Files : Type 0
Files = List ℕ → Option (List ℕ)

-- a call on a desk: whether it was a store or a fetch, under which name, and whether it failed
pub record Asked : Type 0 where
  pub store : Bool
  pub name : List ℕ
  pub failed : Bool

-- the file of that name has more bytes than the limit
abbrev pub IsLonger : Files → List ℕ → ℕ → Type 0
IsLonger files name limit = IsSomeAnd (files name) (λ bytes. limit < length bytes)

-- what a fetch may answer: the bytes of the file, within the limit, or that the file is too long
abbrev pub Fetches : Files → List ℕ → ℕ → Result (Vec ℕ Global) FetchError → Type 0
Fetches files name limit (Ok bytes) = (files name ≡ Some bytes.items) × (length bytes.items ≤ limit)
Fetches files name limit (Err (fetch.TooLong taken)) = (taken ≡ limit + 1) × IsLonger files name limit
Fetches files name limit (Err fetch.Failed) = ⊤
Fetches files name limit (Err fetch.OutOfMemory) = ⊤

-- a refusal for too many bytes says how many were taken: one more than the limit
abbrev pub TakesOneMore : ℕ → FetchError → Type 0
TakesOneMore limit (fetch.TooLong taken) = taken ≡ limit + 1
TakesOneMore limit fetch.Failed = ⊤
TakesOneMore limit fetch.OutOfMemory = ⊤

-- every name but this one has what it had
abbrev pub SameElsewhere : Files → Files → List ℕ → Type 0
SameElsewhere old new name = (other : List ℕ) → other ≢ name → new other ≡ old other

-- the first bytes of these stand under the name
abbrev pub HoldsPrefix : Files → List ℕ → List ℕ → Type 0
HoldsPrefix files name bytes = (kept : ℕ) × (files name ≡ Some (take kept bytes))

-- what a store does: it puts all the bytes under the name, or fails with some of them put there or none, or does nothing
-- for want of memory
abbrev pub Stores : Files → Files → List ℕ → List ℕ → Result (Unit {0}) StoreError → Type 0
Stores old new name bytes (Ok done) = (new name ≡ Some bytes) × SameElsewhere old new name
Stores old new name bytes (Err store.Failed) = (HoldsPrefix new name bytes ⊎ (new name ≡ old name)) × SameElsewhere old new name
Stores old new name bytes (Err store.OutOfMemory) = new ≡ old

-- a fetch that did not fail, on record
abbrev pub fetched : List ℕ → Asked
fetched name = record { store = false; name = name; failed = false }

-- a store that did not fail
abbrev pub stored : List ℕ → Asked
stored name = record { store = true; name = name; failed = false }

-- a call as it is on record where it failed
abbrev pub failing : Asked → Asked
failing asked = record asked { failed = true }

-- what a fetch puts on record: a file that is too long is no failure, and nothing is put there for want of memory
abbrev pub fetch_record : List ℕ → Result (Vec ℕ Global) FetchError → List Asked
fetch_record name (Ok bytes) = fetched name ∷ []
fetch_record name (Err (fetch.TooLong taken)) = fetched name ∷ []
fetch_record name (Err fetch.Failed) = failing (fetched name) ∷ []
fetch_record name (Err fetch.OutOfMemory) = []

-- what a store puts on record: nothing for want of memory
abbrev pub store_record : List ℕ → Result (Unit {0}) StoreError → List Asked
store_record name (Ok done) = stored name ∷ []
store_record name (Err store.Failed) = failing (stored name) ∷ []
store_record name (Err store.OutOfMemory) = []

-- the count of faults after one more, as far as 64 bits go
abbrev pub raised : ℕ → ℕ
raised faults = min (faults + 1) (2 ^ 64 - 1)

-- the count of faults after a fetch: one more where it failed, and there alone
abbrev pub after_fetch : Result (Vec ℕ Global) FetchError → ℕ → ℕ
after_fetch (Err fetch.Failed) faults = raised faults
after_fetch result faults = faults

-- the count of faults after a store: one more where it failed, and there alone
abbrev pub after_store : Result (Unit {0}) StoreError → ℕ → ℕ
after_store (Err store.Failed) faults = raised faults
after_store result faults = faults

-- both values are told and stand in this relation, or neither is told
abbrev pub Told : {A : Type 0} → Option A → Option A → (A → A → Type 0) → Type 0
Told None None P = ⊤
Told None (Some new) P = ⊥
Told (Some old) None P = ⊥
Told (Some old) (Some new) P = P old new

-- some calls that meet the claim, and no others, were put on record, where the calls are told
abbrev pub PutsOnRecord : Option (List Asked) → Option (List Asked) → (List Asked → Type 0) → Type 0
PutsOnRecord old new P = Told old new (λ before after. (more : List Asked) × (after ≡ before ++ more) × P more)
