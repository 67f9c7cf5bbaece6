-- The marks of a numeral: its sign, and what stands inside it.
use Rattle.std.specs.Prelude.{ℕ, ℤ, ◌==◌, ◌||◌, Bool, if◌then◌else◌, neg_ℤ, pos}

-- a point or a stroke
abbrev pub is_mark : ℕ → Bool
is_mark b = (b == 46) || (b == 47)

-- a size with its sign
abbrev pub signed : Bool → ℕ → ℤ
signed minus size = if minus then neg_ℤ (pos size) else pos size
