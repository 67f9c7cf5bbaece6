-- Lines that are sums of two others, as laws speak of them.
use Rattle.std.proofs.Common.{◌≡◌, ℤ, map, pos, ◌<ℤ◌, ◌+ℤ◌, ◌*ℤ◌}
use Rattle.edit_line.specs.Combinations.{combined, in_both, joined}
use Rattle.edit_line.specs.Lines.{LineParts}
use Rattle.edit_line.specs.declared.relation.Relation.{Relation}
use Rattle.edit_line.specs.declared.relation.Relation.TheVariants.{Above, AtLeast, Equal}

-- the line is m times s and n times t, divided by g
pub record IsCombined (m n g : ℤ) (s t line : LineParts) : Type 0 where
  pub shape : line.shape ≡ s.shape
  pub same : t.shape ≡ s.shape
  pub sets : line.sets ≡ in_both s.sets t.sets
  pub factors : map (λ c. g *ℤ c) line.factors ≡ combined m n s.factors t.factors
  pub constant : g *ℤ line.constant ≡ m *ℤ s.constant +ℤ n *ℤ t.constant
  pub relation : line.relation ≡ joined s.relation t.relation

-- a multiple of what is enough for the relation is enough: by a number above 0, or, for an equality, by any
abbrev pub KeepsEnough : Relation → ℤ → Type 0
KeepsEnough AtLeast m = pos 0 <ℤ m
KeepsEnough Above m = pos 0 <ℤ m
KeepsEnough Equal m = Unit {0}

-- the line is a multiple of s and a multiple of t that keep what is enough, divided by a positive number
pub record IsAllowedSum (m n g : ℤ) (s t line : LineParts) : Type 0 where
  pub m_keeps : KeepsEnough s.relation m
  pub n_keeps : KeepsEnough t.relation n
  pub g_above : pos 0 <ℤ g
  pub combined : IsCombined m n g s t line
