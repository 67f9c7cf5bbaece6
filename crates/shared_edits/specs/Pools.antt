use Rattle.std.specs.Prelude.{◌≡◌, ◌↔◌, ◌⊎◌, ◌+◌, ◌<◌, ◌≤◌, ◌&&◌, ◌||◌, ℕ, Bool, true, List, Result, Ok, Err, length, nat_eq, nat_le, nat_lt}
use Rattle.std.specs.List.{All, Any, list_any, sum_by}
use Rattle.boxcar.specs.Table.{Shelves, Shows, Where}
use Rattle.edit_line.specs.EditSets.{EditsParts}
use Rattle.edit_line.specs.declared.derived.Derived.{Derived}
use Rattle.linear_elim.specs.Systems.{IsSystem, SystemOverflow, SystemParts, system_at}

-- ---- a pool, and what a reader has walked of it

-- a pool: the vector of its entries, and the edits whose systems it serves
pub record PoolParts : Type 0 where
  pub entries : Shelves
  pub edits : EditsParts

-- an entry that a reader has walked: what shows it, whether the reader published it, and whether its edits are the pool's
pub record Walked : Type 0 where
  pub token : Where SystemParts
  pub own : Bool
  pub fits : Bool

-- the derived system of an entry that a reader has walked
abbrev pub system_of : Walked → SystemParts
system_of w = w.token.value

-- the entry is of the pool, a derived system, and its edits were compared with the pool's
pub record IsOf (pool : PoolParts) (w : Walked) : Type 0 where
  pub shown : Shows pool.entries w.token
  pub system : IsSystem (system_of w)
  pub compared : w.fits ≡ true ↔ (system_of w).edits ≡ pool.edits

-- the reader has walked entries of this pool alone
abbrev pub IsReaderOf : PoolParts → List Walked → Type 0
IsReaderOf pool reader = All (IsOf pool) reader

-- ---- what it knows, and what it keeps

-- the entry is the system of the pool's edits without these fields
abbrev pub Carries : PoolParts → ℕ → Walked → Type 0
Carries pool fields w = ((system_of w).edits ≡ pool.edits) × ((system_of w).fields ≡ fields)

-- the reader has walked the system without these fields
abbrev pub Knows : PoolParts → ℕ → List Walked → Type 0
Knows pool fields reader = Any (Carries pool fields) reader

-- how many lines the walked systems have
abbrev pub lines_walked : List Walked → ℕ
lines_walked reader = sum_by (λ (w : Walked). length (system_of w).lines) reader

-- a reader that has walked so many systems publishes none
abbrev pub most_systems : ℕ
most_systems = 4096

-- nor one with which the walked systems would have more lines than these
abbrev pub most_lines : ℕ
most_lines = 200000

-- the reader has walked so much that it publishes no system of so many lines
abbrev pub IsFull : ℕ → List Walked → Type 0
IsFull count reader = (most_systems ≤ length reader) ⊎ (most_lines < lines_walked reader + count)

-- how many lines there are, none where a number leaves the range
abbrev pub line_count : Result (List Derived) SystemOverflow → ℕ
line_count (Ok lines) = length lines
line_count (Err overflow) = 0

-- whether the entry is the pool's, without these fields
abbrev pub carries : ℕ → Walked → Bool
carries fields w = w.fits && nat_eq (system_of w).fields fields

-- a reader keeps the fields whose system it knows, and those for which it is full
abbrev pub keeps_fields : PoolParts → ℕ → List Walked → Bool
keeps_fields pool fields reader =
    list_any (carries fields) reader
    || (nat_le most_systems (length reader) || nat_lt most_lines (lines_walked reader + line_count (system_at pool.edits fields)))
