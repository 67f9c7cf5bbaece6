use Rattle.std.specs.Prelude.{◌≡◌, ◌<◌, ◌+◌, ◌*◌, ℕ, Bool, false, List, [], ◌∷◌, Option, Some, None, if◌then◌else◌, length, slice_index_or}
use Rattle.std.specs.BTreeMap.{BTreeMap, get}
use Rattle.std.specs.Ordering.{nat_cmp}
use Rattle.edit_line.specs.Reductions.{IsIn}
use Rattle.edit_paths.specs.Certificates.{has_path}
use Rattle.localise_tree.specs.declared.best_first.Taken.{Taken}
use Rattle.localise_tree.specs.declared.known.Known.{Known}
use Rattle.localise_tree.specs.inner.Takens.{taken_paths}

-- the letters as one number: a bit for each, the first one lowest, and a 1 behind them
abbrev pub letters_number : List Bool → ℕ
letters_number [] = 1
letters_number (letter ∷ letters) = 2 * letters_number letters + (if letter then 1 else 0)

-- places of paths, by the numbers of their letters
abbrev pub Places : Type 0
Places = BTreeMap ℕ ℕ

-- the place of the path of these letters, if it has one
abbrev pub place_at : Places → List Bool → Option ℕ
place_at places letters = get nat_cmp places (letters_number letters)

-- the path stands at this place of the paths; where it has no place, it is none of them
abbrev pub IsPlaceOf : List (List Bool) → List Bool → Option ℕ → Type 0
IsPlaceOf paths path (Some place) = (place < length paths) × (slice_index_or paths place [] ≡ path)
IsPlaceOf paths path None = has_path paths path ≡ false

-- of each path the place among these paths, if it is one of them
abbrev pub ArePlaces : List (List Bool) → Places → Type 0
ArePlaces paths places = (letters : List Bool) → IsPlaceOf paths letters (place_at places letters)

-- the places are those of the taken paths
abbrev pub IsKnown : Known → Type 0
IsKnown known = ArePlaces (taken_paths known.taken.now) known.places

-- this is one of the taken paths, and has these letters
pub record IsFound (taken : List Taken) (letters : List Bool) (one : Taken) : Type 0 where
  pub there : IsIn one taken
  pub path : one.path ≡ letters
