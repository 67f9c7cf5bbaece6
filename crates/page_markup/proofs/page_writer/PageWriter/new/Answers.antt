use Rattle.std.proofs.Common.{rules, ◌≡◌, reverse, subst, sym}
use Rattle.page_markup.specs.Drafts.{IsOfTree}
use Rattle.page_markup.specs.OpenPages.{begun}
use Rattle.page_markup.proofs.TreeLaws.{of_tree-begun, page_of}
use Rattle.page_markup.proofs.page_writer.PageWriter.new.Goals as goal

pub invariant_of-result : goal.invariant_of-result
unfolding Rattle.page_markup.specs.Trees.page_start
invariant_of-result c =
    let written : page_of c.extend_from_slice.new.self.items (reverse c.new.result.items) ≡ begun c.args.language.now = search rules in
    subst IsOfTree (sym written) (of_tree-begun c.args.language.now)
