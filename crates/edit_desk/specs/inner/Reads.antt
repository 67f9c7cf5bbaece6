-- What the reading of an open file gives.
use Rattle.std.specs.Prelude.{◌≡◌, ⊤, ℕ, ◌+◌, ◌<◌, ◌≤◌, Result, Ok, Err, List, length, Vec}
use Rattle.std.specs.declared.alloc.Global.{Global}
use Rattle.edit_desk.specs.declared.calls.FetchError.{FetchError}
use Rattle.edit_desk.specs.declared.calls.FetchError.TheVariants as fetch

-- what a reading of these bytes may answer: all of them, within the limit, or that they are too many
abbrev pub ReadsWhole : List ℕ → ℕ → Result (Vec ℕ Global) FetchError → Type 0
ReadsWhole left limit (Ok bytes) = (bytes.items ≡ left) × (length left ≤ limit)
ReadsWhole left limit (Err (fetch.TooLong taken)) = (taken ≡ limit + 1) × (limit < length left)
ReadsWhole left limit (Err fetch.Failed) = ⊤
ReadsWhole left limit (Err fetch.OutOfMemory) = ⊤
