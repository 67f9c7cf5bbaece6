use Rattle.std.proofs.Common.{◌∷◌, ◌++◌, length, subst}
use Rattle.std.specs.Fmt.{decimal}
use Rattle.proof_grammar.specs.ProofLines.{leaf_lines_in}
use Rattle.proof_grammar.specs.Sizes.{IsSizedLeaf}
use Rattle.proof_text.proofs.PartTexts.{all_more, lines_more}
use Rattle.proof_text.proofs.writing.leaves.write_leaves.Goals as goal

pub loop-leaf-preserved : goal.loop-leaf-preserved
loop-leaf-preserved c =
    let leaves = c.args.leaves.now in
    let i = c.loop-leaf.leaf-index in
    let leaf = c.leaf-item.result in (
      lines_more (leaf_lines_in c.args.shared) (c.args.text.now.items ++ (32 ∷ decimal (length leaves))) leaves i leaf _ _
          c.loop-leaf-test.true c.leaf-item.is c.loop-leaf.invariant.0 c.in_ok-write_leaf.ensures.text,
      all_more IsSizedLeaf leaves i leaf c.loop-leaf-test.true c.loop-leaf.invariant.1 (subst IsSizedLeaf c.leaf-item.is c.in_ok-write_leaf.ensures.sized),
    )
