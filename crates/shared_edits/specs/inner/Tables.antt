use Rattle.std.specs.Prelude.{◌≡◌, ◌+◌, ◌-◌, ◌^◌, ◌≤◌, ℕ, List, length, min, nat_eq}
use Rattle.std.specs.HashMap as table
use Rattle.std.specs.HashMap.{HashMap}
use Rattle.std.specs.HashSet as set
use Rattle.std.specs.HashSet.{HashSet}
use Rattle.std.specs.List.{sum_by}
use Rattle.shared_edits.specs.declared.entry.Entry.{Entry}
use Rattle.shared_edits.specs.declared.walked_entries.WalkedEntries.TheInside.{Inside}
use Rattle.shared_edits.specs.inner.Entries.{has_own, place_of}

-- the table finds each set of fields, by its number, where the entries first have it
abbrev pub HasPlaces : {S : Type 0} → HashMap ℕ ℕ S → List Entry → Type 0
HasPlaces places entries = (fields : ℕ) → table.get nat_eq places fields ≡ place_of fields entries

-- the set has the indexes of the reader's own entries
abbrev pub HasOwn : {S : Type 0} → HashSet ℕ S → List Entry → Type 0
HasOwn own entries = (index : ℕ) → set.contains nat_eq own index ≡ has_own index entries

-- the tables and the count of lines are those of the entries, and there is room for as many as a reader walks
pub record AreTabled (w : Inside) : Type 0 where
  pub places : HasPlaces w.places w.entries.items
  pub own : HasOwn w.own w.entries.items
  pub lines : w.lines ≡ min (2 ^ 64 - 1) (sum_by (λ (e : Entry). e.lines) w.entries.items)
  pub room : 4160 ≤ w.entries.cap
  pub places_room : 4160 ≤ length w.entries.items + table.spare w.places
  pub own_room : 4160 ≤ length w.entries.items + set.spare w.own
