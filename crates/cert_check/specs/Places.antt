-- The numbers of the lines of a proof file.
use Rattle.std.specs.Prelude.{ℕ, suc, ◌+◌, List, [], ◌∷◌, Option, Some, None, length, take}
use Rattle.std.specs.List.{flat_map}
use Rattle.bound_cert.specs.declared.cert.Leaf.{Leaf}
use Rattle.proof_grammar.specs.ProofLines.{has_table, leaf_lines, row_lines, table_lines, verdict_lines}
use Rattle.proof_grammar.specs.declared.proof.Proof.{Proof}

-- ---- in the file, from 1; the first three lines are the version, the limits and the count of the verdicts

-- the line that counts the steps of the table, where there is one
abbrev pub table_line : Proof → ℕ
table_line p = 4 + length (flat_map verdict_lines p.verdicts)

-- the line that counts the records
abbrev pub records_line : Proof → ℕ
records_line p = table_line p + length (table_lines (has_table p.version) p.table)

-- the line that counts the claims
abbrev pub claims_line : Proof → ℕ
claims_line p = records_line p + 1 + length (flat_map row_lines p.rows)

-- ---- behind the head of a record

-- how many lines behind the head of a leaf its fault is: the leaf itself, or one of its steps
abbrev pub step_offset : Option ℕ → ℕ
step_offset None = 0
step_offset (Some step) = suc step

-- how many lines behind the head of a record the fault of its tree is: the head itself where there are no leaves
abbrev pub tree_offset : List Leaf → ℕ → Option ℕ → ℕ
tree_offset [] leaf step = 0
tree_offset (first ∷ leaves) leaf step = 1 + (length (flat_map leaf_lines (take leaf (first ∷ leaves))) + step_offset step)
