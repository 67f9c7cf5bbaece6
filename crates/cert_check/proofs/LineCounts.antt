use Rattle.std.proofs.Common.{◌≡◌, ◌≢◌, ◌⊎◌, ℕ, zero, suc, ◌+◌, ◌<◌, Bool, List, [], ◌∷◌, Option, Some, None, IfSome, inl, inr, length, take, ap, ◌∙◌, arith}
use Rattle.std.specs.List.{flat_map}
use Rattle.std.proofs.lemmas.List.{length-append, length-map}
use Rattle.std.proofs.lemmas.List.Concat.{flat_map-cons}
use Rattle.bound_cert.specs.ValidTrees.{IsNamedIn, steps_in}
use Rattle.bound_cert.specs.declared.cert.Leaf.{Leaf}
use Rattle.bound_cert.specs.declared.cert.LeafWhy.{LeafWhy}
use Rattle.bound_cert.specs.declared.cert.LeafWhy.TheVariants as why
use Rattle.proof_grammar.specs.ProofLines.{leaf_lines, step_line}
use Rattle.cert_check.specs.Places.{step_offset}

-- How many lines leaves have.

abbrev pub lines_of : List Leaf → ℕ
lines_of leaves = length (flat_map leaf_lines leaves)

lines-cons : (leaf : Leaf) (leaves : List Leaf) → lines_of (leaf ∷ leaves) ≡ length (leaf_lines leaf) + lines_of leaves
lines-cons leaf leaves = ap length (flat_map-cons leaf_lines leaf leaves) ∙ length-append (leaf_lines leaf) (flat_map leaf_lines leaves)

-- a leaf has a line, and one for each of its steps
leaf-steps : (leaf : Leaf) → length (leaf_lines leaf) ≡ 1 + length (steps_in leaf.why)
leaf-steps leaf = by leaf.path leaf.why
  where
    by : (path : List Bool) (reason : LeafWhy) → length (leaf_lines (record { path = path; why = reason })) ≡ 1 + length (steps_in reason)
    by path why.Bound = omega arith
    by path why.BadKept = omega arith
    by path (why.Line steps) = let same = length-map steps step_line in omega (arith, same)
    by path (why.Box steps) = let same = length-map steps step_line in omega (arith, same)

step-within : (leaf : Leaf) (step : Option ℕ) → IfSome step (λ s. s < length (steps_in leaf.why)) → step_offset step < length (leaf_lines leaf)
step-within leaf None named = omega (arith, leaf-steps leaf)
step-within leaf (Some step) named = omega (arith, named, leaf-steps leaf)

-- what is named stands on a line of the leaves
pub named-within : (leaves : List Leaf) (leaf : ℕ) (step : Option ℕ) → IsNamedIn leaves leaf step
    → lines_of (take leaf leaves) + step_offset step < lines_of leaves
named-within [] leaf step named = absurd named
named-within (first ∷ leaves) zero step named = omega (arith, step-within first step named, lines-cons first leaves)
named-within (first ∷ leaves) (suc leaf) step named = omega (
  arith,
  named-within leaves leaf step named,
  lines-cons first leaves,
  lines-cons first (take leaf leaves),
)

-- the tree's fault stands on a line of the leaves
pub fault-within : (leaves : List Leaf) (leaf : ℕ) (step : Option ℕ) → leaves ≢ [] → ((leaves ≡ []) × (leaf ≡ 0) × (step ≡ None)) ⊎ IsNamedIn leaves leaf step
    → lines_of (take leaf leaves) + step_offset step < lines_of leaves
fault-within leaves leaf step some (inl none) = absurd (some none.0)
fault-within leaves leaf step some (inr named) = named-within leaves leaf step named

-- and so does its step
pub step-below : (leaves : List Leaf) (leaf most : ℕ) (step : Option ℕ) → 1 + lines_of leaves < most
    → lines_of (take leaf leaves) + step_offset step < lines_of leaves → IfSome step (λ s. s + 1 < most)
step-below leaves leaf most None few within = tt
step-below leaves leaf most (Some step) few within = omega (arith, few, within)
