use Rattle.std.proofs.Common.{◌≡◌, ◌∷◌, ◌++◌, length, take}
use Rattle.std.specs.Fmt.{decimal}
use Rattle.std.specs.List.{AllByRecursion, flat_map}
use Rattle.proof_grammar.specs.ProofLines.{lines_text, leaf_lines_in}
use Rattle.proof_grammar.specs.Sizes.{IsSizedLeaf}
use Rattle.proof_text.proofs.writing.leaves.write_leaves.Given as goal

abbrev pub invariant-loop-leaf : goal.invariant-loop-leaf
invariant-loop-leaf l = (l.text.items ≡ l.fn.text.items ++ (32 ∷ decimal (length l.leaves))
    ++ (10 ∷ lines_text (flat_map (leaf_lines_in l.shared) (take l.leaf-index l.leaves)))) × AllByRecursion IsSizedLeaf (take l.leaf-index l.leaves)
