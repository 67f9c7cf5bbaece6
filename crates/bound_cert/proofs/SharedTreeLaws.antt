use Rattle.std.proofs.Common.{◌≡◌, ℕ, ◌≤◌, ◌++◌, Bool, List, [], ◌∷◌, Ok, length, map, refl, sym, ap, ◌∙◌, subst, append_assoc, append-nil}
use Rattle.std.specs.List.{AllByRecursion}
use Rattle.edit_line.specs.Lines.{LineParts}
use Rattle.derivation.specs.LineLists.{no_record}
use Rattle.derivation.specs.SharedLines.{shared_steps, tabled}
use Rattle.derivation.specs.ValidSteps.{AreValidSteps}
use Rattle.derivation.specs.declared.proved.Proved.{Proved}
use Rattle.derivation.specs.declared.proved.Proved.TheVariants as proved
use Rattle.derivation.specs.declared.step.Step.{Step}
use Rattle.derivation.proofs.SharedBoxLaws.{steps-shared, valid-grows}
use Rattle.derivation.proofs.TableLaws.{same-lines}
use Rattle.bound_cert.specs.SharedTrees.{AreTableLines, GrowingLaw, SharingLaw, case_with, shared_leaf, shared_leaves, table_with_leaf, table_with_leaves}
use Rattle.bound_cert.specs.ValidTrees.{IsValidLeaf, TreeCase, premises_at}
use Rattle.bound_cert.specs.declared.cert.Leaf.{Leaf}
use Rattle.bound_cert.specs.declared.cert.LeafWhy.{LeafWhy}
use Rattle.bound_cert.specs.declared.cert.LeafWhy.TheVariants as why

-- Trees stay valid where their lines are shared.

-- ---- where the table grows

leaf-grows : (c : TreeCase) (lines more : List LineParts) (path : List Bool) (reason : LeafWhy) → IsValidLeaf (case_with c lines) path reason
    → IsValidLeaf (case_with c (lines ++ more)) path reason
leaf-grows c lines more path why.Bound valid = valid
leaf-grows c lines more path why.BadKept valid = valid
leaf-grows c lines more path (why.Line steps) (line, valid, refutes) = (
  line,
  valid-grows (premises_at c path) lines more steps (proved.Line line) valid,
  refutes,
)
leaf-grows c lines more path (why.Box steps) (code_box, valid, refutes) =
    (code_box, valid-grows (premises_at c path) lines more steps (proved.Box code_box) valid, refutes)

each-grows : (c : TreeCase) (lines more : List LineParts) (leaves : List Leaf) → AllByRecursion
    (λ (leaf : Leaf). IsValidLeaf (case_with c lines) leaf.path leaf.why) leaves → AllByRecursion
    (λ (leaf : Leaf). IsValidLeaf (case_with c (lines ++ more)) leaf.path leaf.why) leaves
each-grows c lines more [] each = tt
each-grows c lines more (leaf ∷ leaves) (first, each) = (leaf-grows c lines more leaf.path leaf.why first, each-grows c lines more leaves each)

pub tree-grows : GrowingLaw
tree-grows c lines more leaves valid = record { full = valid.full; depth = valid.depth; each = each-grows c lines more leaves valid.each }

-- ---- where the lines are shared

module _ (c : TreeCase) (even : length c.given ≡ length c.usable) where
  -- the steps of a leaf
  why-shared : (path : List Bool) (table : List Step) (lines : List LineParts) (steps : List Step) (last : Proved) → AreTableLines c table lines
      → AreValidSteps (premises_at c path) steps last
      → (more : List LineParts) × AreTableLines c (tabled table steps).table (lines ++ more)
      × AreValidSteps (premises_at (case_with c (lines ++ more)) path) (shared_steps (length c.given) (tabled table steps).places steps last) last
  why-shared path table lines steps last are valid =
      let p = premises_at c path in
      let (more, more_are, kept) = steps-shared p table lines steps last even (same-lines (no_record c.survey c.given c.usable) c.row p.kept [] table ∙ are)
      valid in
      (more, sym (same-lines (no_record c.survey c.given c.usable) c.row p.kept [] (tabled table steps).table) ∙ more_are, kept)

  leaf-shared : (table : List Step) (lines : List LineParts) (path : List Bool) (reason : LeafWhy) → AreTableLines c table lines → IsValidLeaf c path reason
      → (more : List LineParts) × AreTableLines c (table_with_leaf table (record { path = path; why = reason })) (lines ++ more)
      × IsValidLeaf (case_with c (lines ++ more)) path (shared_leaf (length c.given) table (record { path = path; why = reason })).why
  leaf-shared table lines path why.Bound are valid = ([], are ∙ ap (λ (ls : List LineParts). Ok ls) (sym (append-nil lines)), valid)
  leaf-shared table lines path why.BadKept are valid = ([], are ∙ ap (λ (ls : List LineParts). Ok ls) (sym (append-nil lines)), valid)
  leaf-shared table lines path (why.Line steps) are (line, valid, refutes) =
      let (more, more_are, kept) = why-shared path table lines steps (proved.Line line) are valid in
      (more, more_are, (line, kept, refutes))
  leaf-shared table lines path (why.Box steps) are (code_box, valid, refutes) =
      let (more, more_are, kept) = why-shared path table lines steps (proved.Box code_box) are valid in
      (more, more_are, (code_box, kept, refutes))

  leaves-shared : (table : List Step) (lines : List LineParts) (leaves : List Leaf) → AreTableLines c table lines
      → AllByRecursion (λ (leaf : Leaf). IsValidLeaf c leaf.path leaf.why) leaves
      → (more : List LineParts) × AreTableLines c (table_with_leaves table leaves) (lines ++ more)
      × AllByRecursion (λ (leaf : Leaf). IsValidLeaf (case_with c (lines ++ more)) leaf.path leaf.why) (shared_leaves (length c.given) table leaves)
  leaves-shared table lines [] are each = ([], are ∙ ap (λ (ls : List LineParts). Ok ls) (sym (append-nil lines)), tt)
  leaves-shared table lines (leaf ∷ leaves) are (first, each) =
      let (more, more_are, valid) = leaf-shared table lines leaf.path leaf.why are first in
      let (rest, rest_are, later) = leaves-shared (table_with_leaf table leaf) (lines ++ more) leaves more_are each in
      let same : (lines ++ more) ++ rest ≡ lines ++ (more ++ rest) = rw append_assoc refl in (
        more ++ rest,
        subst (λ (ls : List LineParts). AreTableLines c (table_with_leaves (table_with_leaf table leaf) leaves) ls) same rest_are,
        subst (λ (ls : List LineParts). AllByRecursion (λ (l : Leaf). IsValidLeaf (case_with c ls) l.path l.why)
            (shared_leaves (length c.given) table (leaf ∷ leaves))) same
            (leaf-grows c (lines ++ more) rest leaf.path (shared_leaf (length c.given) table leaf).why valid, later),
      )

-- the paths are what they were
shared-paths : (given : ℕ) (table : List Step) (leaves : List Leaf) → map (λ (leaf : Leaf). leaf.path) (shared_leaves given table leaves)
    ≡ map (λ (leaf : Leaf). leaf.path) leaves
shared-paths given table [] = refl
shared-paths given table (leaf ∷ leaves) = ap (λ (paths : List (List Bool)). leaf.path ∷ paths) (shared-paths given (table_with_leaf table leaf) leaves)

shared-depth : (most given : ℕ) (table : List Step) (leaves : List Leaf) → AllByRecursion (λ (leaf : Leaf). length leaf.path ≤ most) leaves
    → AllByRecursion (λ (leaf : Leaf). length leaf.path ≤ most) (shared_leaves given table leaves)
shared-depth most given table [] each = tt
shared-depth most given table (leaf ∷ leaves) (first, each) = (first, shared-depth most given (table_with_leaf table leaf) leaves each)

pub tree-shared : SharingLaw
tree-shared c table lines leaves even are valid =
    let (more, more_are, each) = leaves-shared c even table lines leaves are valid.each in
    let (tree, paths) = valid.full in (
      more,
      more_are,
      record {
        full = (tree, shared-paths (length c.given) table leaves ∙ paths);
        depth = shared-depth (length c.survey.fields) (length c.given) table leaves valid.depth;
        each = each;
      },
    )
