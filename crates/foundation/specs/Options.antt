-- Values that may be missing, one after the other.
use Rattle.std.specs.Prelude.{Option, Some, None}

-- what `next` gives for the value, and None where there is no value
infixl 10 ◌>>?◌
abbrev pub ◌>>?◌ : {A B : Type 0} → Option A → (A → Option B) → Option B
None >>? next = None
(Some value) >>? next = next value
