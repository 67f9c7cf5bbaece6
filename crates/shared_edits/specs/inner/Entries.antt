use Rattle.std.specs.Prelude.{◌≡◌, ◌⊎◌, ◌<◌, ◌&&◌, ◌++◌, ◌∷◌, [], ℕ, Bool, true, false, List, Option, nat_eq}
use Rattle.std.specs.Arc.{arc_value}
use Rattle.std.specs.List.{All, list_any, position}
use Rattle.shared_edits.specs.Pools.{IsOf, PoolParts, Walked}
use Rattle.shared_edits.specs.declared.entry.Entry.{Entry}

-- the entry as contracts see it
abbrev pub walked_of : Entry → Walked
walked_of e = record {
  token = record {
    index = e.token.index;
    value = arc_value e.token.value;
    bucket = e.token.bucket;
    row = e.token.row;
    item = e.token.item;
  };
  own = e.own;
  fits = e.fits;
}

-- what others published and the reader has walked is at lower indexes
abbrev pub IsBehind : ℕ → List Walked → Type 0
IsBehind next reader = All (λ (w : Walked). w.own ≡ false → w.token.index < next) reader

-- whether the reader published the entry at this index itself
abbrev pub has_own : ℕ → List Entry → Bool
has_own index entries = list_any (λ (e : Entry). e.own && nat_eq index e.token.index) entries

-- the place of the first entry that has these fields and the pool's edits
abbrev pub place_of : ℕ → List Entry → Option ℕ
place_of fields entries = position (λ (e : Entry). e.fits && nat_eq e.fields fields) entries

-- the entry at the index is the reader's own, or it was walked
abbrev pub WalksAt : PoolParts → ℕ → List Entry → List Entry → Type 0
WalksAt pool index old new =
    ((has_own index old ≡ true) × (new ≡ old))
    ⊎ ((has_own index old ≡ false)
    × ((e : Entry) × (new ≡ old ++ e ∷ []) × IsOf pool (walked_of e) × (e.own ≡ false) × (e.token.index ≡ index)))
