-- A row of tickets and its seats, as callers see them.
use Rattle.std.specs.Prelude.{◌≡◌, ℕ, ◌<◌, ◌≤◌, ◌==◌, Bool, false, List, []}
use Rattle.std.specs.List.{sum_by, count_by}
use Rattle.atomic_table.specs.Seated.{TableId}

-- a row of tickets: which one it is, and how many tickets it has
pub record Row : Type 0 where
  pub name : TableId
  pub count : ℕ

-- a row of tickets, and for how many seats it was issued
pub record Issue : Type 0 where
  pub row : Row
  pub seats : ℕ

-- a seat: its row, the numbers that it drew, in the order of its draws, and whether it was answered None
pub record SeatState : Type 0 where
  pub row : Row
  pub drawn : List ℕ
  pub ended : Bool

-- a seat of these tickets that has drawn nothing yet
pub record IsFresh (tickets : Row) (seat : SeatState) : Type 0 where
  pub row : seat.row ≡ tickets
  pub drawn : seat.drawn ≡ []
  pub ended : seat.ended ≡ false

-- how often the number stands in the list
abbrev pub times : ℕ → List ℕ → ℕ
times x xs = count_by (λ y. y == x) xs

-- how often these seats drew the number, all together
abbrev pub times_drawn : ℕ → List SeatState → ℕ
times_drawn x seats = sum_by (λ seat. times x seat.drawn) seats

-- the numbers that these seats drew are those below the count, each once
pub record DrawnBelow (count : ℕ) (seats : List SeatState) : Type 0 where
  pub once : (x : ℕ) → x < count → times_drawn x seats ≡ 1
  pub no_other : (x : ℕ) → count ≤ x → times_drawn x seats ≡ 0
