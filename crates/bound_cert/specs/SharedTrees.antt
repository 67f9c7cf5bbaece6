-- Trees whose derived lines are written once, in a table that all share.
use Rattle.std.specs.Prelude.{◌≡◌, ℕ, ◌++◌, true, List, [], ◌∷◌, length, map}
use Rattle.edit_line.specs.Lines.{LineParts}
use Rattle.derivation.specs.LineLists.{AreLinesOf, no_record}
use Rattle.derivation.specs.SharedLines.{shared_box, shared_line, tabled}
use Rattle.derivation.specs.declared.step.Step.{Step}
use Rattle.bound_cert.specs.ValidTrees.{IsValidTree, TreeCase, steps_in, tree_case}
use Rattle.bound_cert.specs.declared.cert.Leaf.{Leaf}
use Rattle.bound_cert.specs.declared.cert.LeafWhy.{LeafWhy}
use Rattle.bound_cert.specs.declared.cert.LeafWhy.TheVariants as why
use Rattle.bound_cert.specs.declared.outcome.Outcome.{Outcome}
use Rattle.bound_cert.specs.declared.outcome.Outcome.TheVariants.{Budget, Change, Contradictory, Overflow}
use Rattle.bound_cert.specs.declared.outcome.RowProof.{RowProof}

-- ---- the table

-- the table with the steps of a leaf
abbrev pub table_with_leaf : List Step → Leaf → List Step
table_with_leaf table leaf = (tabled table (steps_in leaf.why)).table

-- the table with those of all leaves, in order
abbrev pub table_with_leaves : List Step → List Leaf → List Step
table_with_leaves table [] = table
table_with_leaves table (leaf ∷ leaves) = table_with_leaves (table_with_leaf table leaf) leaves

-- the leaves of what was found of a record
abbrev pub leaves_in : Outcome → List Leaf
leaves_in (Change path weight cert) = cert.leaves
leaves_in (Budget path work) = []
leaves_in (Overflow path event) = []
leaves_in (Contradictory cert) = cert.leaves

-- the table with those of all records, in order
abbrev pub table_with_rows : List Step → List RowProof → List Step
table_with_rows table [] = table
table_with_rows table (row ∷ rows) = table_with_rows (table_with_leaves table (leaves_in row.outcome)) rows

-- ---- what is kept of trees, behind this many given lines

-- the reason of a leaf, with the names of its lines in the table
abbrev pub shared_why : ℕ → List Step → LeafWhy → LeafWhy
shared_why given table (why.Line steps) = why.Line (shared_line given (tabled table steps).places)
shared_why given table (why.Box steps) = why.Box (shared_box given (tabled table steps).places steps)
shared_why given table why.Bound = why.Bound
shared_why given table why.BadKept = why.BadKept

abbrev pub shared_leaf : ℕ → List Step → Leaf → Leaf
shared_leaf given table leaf = record { path = leaf.path; why = shared_why given table leaf.why }

abbrev pub shared_leaves : ℕ → List Step → List Leaf → List Leaf
shared_leaves given table [] = []
shared_leaves given table (leaf ∷ leaves) = shared_leaf given table leaf ∷ shared_leaves given (table_with_leaf table leaf) leaves

abbrev pub shared_outcome : ℕ → List Step → Outcome → Outcome
shared_outcome given table (Change path weight cert) = Change path weight (record { leaves = shared_leaves given table cert.leaves })
shared_outcome given table (Contradictory cert) = Contradictory (record { leaves = shared_leaves given table cert.leaves })
shared_outcome given table (Budget path work) = Budget path work
shared_outcome given table (Overflow path event) = Overflow path event

abbrev pub shared_row : ℕ → List Step → RowProof → RowProof
shared_row given table row = record { outcome = shared_outcome given table row.outcome; gift = row.gift }

abbrev pub shared_rows : ℕ → List Step → List RowProof → List RowProof
shared_rows given table [] = []
shared_rows given table (row ∷ rows) = shared_row given table row ∷ shared_rows given (table_with_leaves table (leaves_in row.outcome)) rows

-- ---- what is shown of them

-- the same case, where the lines of a table stand behind the given ones, and may all be used
abbrev pub case_with : TreeCase → List LineParts → TreeCase
case_with c lines = tree_case c.survey (c.given ++ lines) (c.usable ++ map (λ line. true) lines) c.row c.weight

-- the steps of the table give these lines, from the usable ones
abbrev pub AreTableLines : TreeCase → List Step → List LineParts → Type 0
AreTableLines c table lines = AreLinesOf (no_record c.survey c.given c.usable) table lines

-- a valid tree stays valid with the lines of its table: they stand behind those that the table had
abbrev pub SharingLaw : Type 0
SharingLaw = (c : TreeCase) (table : List Step) (lines : List LineParts) (leaves : List Leaf)
    → length c.given ≡ length c.usable → AreTableLines c table lines → IsValidTree c leaves
    → (more : List LineParts) × AreTableLines c (table_with_leaves table leaves) (lines ++ more)
    × IsValidTree (case_with c (lines ++ more)) (shared_leaves (length c.given) table leaves)

-- and where the table grows
abbrev pub GrowingLaw : Type 0
GrowingLaw = (c : TreeCase) (lines more : List LineParts) (leaves : List Leaf)
    → IsValidTree (case_with c lines) leaves → IsValidTree (case_with c (lines ++ more)) leaves
