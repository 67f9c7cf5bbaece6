use Rattle.std.specs.Prelude.{◌≡◌, ℕ, ℤ, true, List, [], ◌∷◌, ◌++◌, All, Ok, IsSomeAnd, slice_get}
use Rattle.edit_line.specs.Combinations.{may_combine, sum_of}
use Rattle.edit_line.specs.Divisors.{divided_by}
use Rattle.edit_line.specs.Lines.{LineParts}
use Rattle.edit_line.specs.Reductions.{IsIn, derived_from}
use Rattle.edit_line.specs.declared.derived.Derived.{Derived}
use Rattle.edit_line.specs.declared.derived.Origin.{Origin}
use Rattle.edit_line.specs.declared.derived.Origin.TheVariants.{Base, Pair, Same}
use Rattle.linear_elim.specs.Systems.{SystemParts, chosen_fields, system_of}

-- m times s and n times t, divided by g, may be taken, and is the line
pub record IsTakenSum (m n g : ℤ) (s t line : LineParts) : Type 0 where
  pub same : t.shape ≡ s.shape
  pub may : may_combine m n g s t ≡ true
  pub line_is : line ≡ divided_by g (sum_of m n s t)

-- the line comes from the list that a step took as its origin says: it is the line at that place, or the combination
-- of the lines at both places
abbrev pub ComesFrom : List Derived → LineParts → Origin → Type 0
ComesFrom lines line (Base number) = ⊥
ComesFrom lines line (Same i) = IsSomeAnd (slice_get lines i) (λ (s : Derived). line ≡ s.line)
ComesFrom lines line (Pair i m j n g) =
    IsSomeAnd (slice_get lines i) (λ (s : Derived). IsSomeAnd (slice_get lines j) (λ (t : Derived). IsTakenSum m n g s.line t.line line))

-- each line comes from the list as its origin says
abbrev pub AllComeFrom : List Derived → List Derived → Type 0
AllComeFrom lines derived = All (λ (d : Derived). ComesFrom lines d.line d.origin) derived

-- the line is one of the edits, and its origin has the edit's number
abbrev pub IsEdit : List (ℕ × LineParts) → Derived → Type 0
IsEdit edits d = (e : ℕ × LineParts) × IsIn e edits × (d ≡ derived_from e.1 (Base e.0))

-- what a system's origins name: the edits, where no field is eliminated; else the lines of the system of all its fields but the last
pub record HaveOrigins (system : SystemParts) : Type 0 where
  pub edits : chosen_fields system.edits.shape system.fields ≡ [] → All (IsEdit system.edits.lines) system.lines
  pub lines : (before : List ℕ) (last : ℕ) → chosen_fields system.edits.shape system.fields ≡ before ++ last ∷ []
      → (lines : List Derived) × (system_of system.edits.lines before ≡ Ok lines) × AllComeFrom lines system.lines
