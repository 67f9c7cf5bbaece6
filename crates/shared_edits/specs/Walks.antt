use Rattle.std.specs.Prelude.{◌≡◌, ◌⊎◌, ◌<◌, ◌++◌, [], ◌∷◌, ℕ, Bool, true, false, List, length, map, nat_eq}
use Rattle.std.specs.Arc.{arc_value}
use Rattle.std.specs.List.{All, IsDistinct, list_any}
use Rattle.linear_elim.specs.Helds.{system_held}
use Rattle.linear_elim.specs.Systems.{SystemParts}
use Rattle.linear_elim.specs.declared.held.Held.{Held}
use Rattle.linear_elim.specs.declared.held.Held.TheVariants as held
use Rattle.shared_edits.specs.Pools.{IsFull, Knows, PoolParts, Walked, system_of}
use Rattle.shared_edits.specs.declared.publication.Published.{Published}
use Rattle.shared_edits.specs.declared.publication.Published.TheVariants as published
use Rattle.shared_edits.specs.declared.publication.PublishFault.{PublishFault}
use Rattle.shared_edits.specs.declared.publication.PublishFault.TheVariants as fault

-- the index at which the entry stands
abbrev pub index_of : Walked → ℕ
index_of w = w.token.index

-- one of these entries stands at the index
abbrev pub stands_at : ℕ → List Walked → Bool
stands_at index walked = list_any (λ (w : Walked). nat_eq index (index_of w)) walked

-- the reader has walked on: each entry more is another's, at an index below 4160 that it had not walked, and none twice
pub record HasWalkedOn (old new : List Walked) : Type 0 where
  pub more : List Walked
  pub on : new ≡ old ++ more
  pub others : All (λ (w : Walked). w.own ≡ false) more
  pub within : All (λ (w : Walked). index_of w < 4160) more
  pub unwalked : All (λ (w : Walked). stands_at (index_of w) old ≡ false) more
  pub once : IsDistinct nat_eq (map index_of more)

-- one entry more, this system, which the reader published itself
abbrev pub Publishes : SystemParts → List Walked → List Walked → Type 0
Publishes system old new = (w : Walked) × (new ≡ old ++ w ∷ []) × (w.own ≡ true) × (system_of w ≡ system)

-- a system is stored for all, or comes back from a reader that is full
abbrev pub IsPublished : SystemParts → List Walked → Published → List Walked → Type 0
IsPublished system old (published.Stored shared) new =
    (¬ IsFull (length system.lines) old) × Publishes system old new × (arc_value shared ≡ system)
IsPublished system old (published.Full back) new = IsFull (length system.lines) old × (new ≡ old) × (back ≡ system)

-- the system that a refusal hands back
abbrev pub handed_back : PublishFault → SystemParts
handed_back (fault.OutOfMemory back) = system_held back

-- a system that was made is published, or the caller's own where the reader is full
abbrev pub IsKept : Held → List Walked → List Walked → Type 0
IsKept (held.Shared system) old new = (¬ IsFull (length (arc_value system).lines) old) × Publishes (arc_value system) old new
IsKept (held.Own system) old new = IsFull (length system.lines) old × (new ≡ old)

-- it is shared with the pool
abbrev pub IsShared : Held → Type 0
IsShared (held.Shared system) = Unit {0}
IsShared (held.Own system) = ⊥

-- where the reader, once it has walked on, knows the fields, the system is shared and nothing published; else the one made is kept
abbrev pub Obtains : PoolParts → ℕ → Held → List Walked → List Walked → Type 0
Obtains pool fields held walked new =
    (Knows pool fields walked × IsShared held × (new ≡ walked)) ⊎ ((¬ Knows pool fields walked) × IsKept held walked new)

-- what obtaining a system answers and leaves
abbrev pub WalksThenObtains : PoolParts → ℕ → List Walked → Held → List Walked → Type 0
WalksThenObtains pool fields old held new = (walked : List Walked) × HasWalkedOn old walked × Obtains pool fields held walked new
