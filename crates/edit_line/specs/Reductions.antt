use Rattle.std.specs.Prelude.{◌≡◌, ◌⊎◌, ◌||◌, not, Bool, true, false, List, [], ◌∷◌, ◌++◌, map, if◌then◌else◌}
use Rattle.std.specs.List.{filter, fold, list_any}
use Rattle.edit_line.specs.Lines.{Follows, LineParts}
use Rattle.edit_line.specs.Subsumption.{is_trivial, subsumes}
use Rattle.edit_line.specs.declared.derived.Derived.{Derived}
use Rattle.edit_line.specs.declared.derived.Origin.{Origin}

-- the kept elements with a new one, unless that says nothing, or one of them covers it; those that it covers are removed
abbrev pub kept_with : {X : Type 0} → (X → X → Bool) → (X → Bool) → List X → X → List X
kept_with covers says_nothing kept new =
    if says_nothing new || list_any (λ a. covers a new) kept
    then kept
    else filter (λ b. not (covers new b)) kept ++ new ∷ []

-- the kept lines with one more: a trivial line says nothing, and a line covers those that it subsumes
abbrev pub with_line : List LineParts → LineParts → List LineParts
with_line kept line = kept_with subsumes is_trivial kept line

-- the lines without trivial and subsumed ones
abbrev pub reduce : List LineParts → List LineParts
reduce lines = fold with_line [] lines

-- a line with its origin
abbrev pub derived_from : LineParts → Origin → Derived
derived_from line origin = record { line = line; origin = origin }

-- the kept lines with one more, each with its origin
abbrev pub with_derived : List Derived → Derived → List Derived
with_derived kept new = kept_with (λ (a b : Derived). subsumes a.line b.line) (λ (a : Derived). is_trivial a.line) kept new

-- the derived lines, with their origins, without trivial and subsumed ones
abbrev pub reduce_derived : List Derived → List Derived
reduce_derived lines = fold with_derived [] lines

-- the lines alone
abbrev pub lines_of : List Derived → List LineParts
lines_of derived = map (λ (d : Derived). d.line) derived

-- the element stands in the list
abbrev pub IsIn : {X : Type 0} → X → List X → Type 0
IsIn x [] = ⊥
IsIn x (y ∷ ys) = (x ≡ y) ⊎ IsIn x ys

-- the line is trivial, or follows from one of the kept lines
abbrev pub IsCovered : List LineParts → LineParts → Type 0
IsCovered kept line = (is_trivial line ≡ true) ⊎ ((s : LineParts) × IsIn s kept × Follows (s ∷ []) line)

-- the two lines say each something of its own
abbrev pub AreApart : LineParts → LineParts → Type 0
AreApart a b = (subsumes a b ≡ false) × (subsumes b a ≡ false)

-- the line says something of its own beside each of the lines
abbrev pub IsApart : LineParts → List LineParts → Type 0
IsApart a [] = Unit {0}
IsApart a (b ∷ lines) = AreApart a b × IsApart a lines

-- no line is trivial, and none subsumes another
abbrev pub AreOwn : List LineParts → Type 0
AreOwn [] = Unit {0}
AreOwn (a ∷ lines) = (is_trivial a ≡ false) × IsApart a lines × AreOwn lines
