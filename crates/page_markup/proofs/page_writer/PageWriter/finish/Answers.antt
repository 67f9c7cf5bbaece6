use Rattle.std.proofs.Common.{◌≡◌, ◌++◌, ◌∙◌, ap, arith, length, subst, sym}
use Rattle.page_markup.specs.Drafts.{IsOfTree}
use Rattle.page_markup.specs.OpenPages.{OpenPage, finished}
use Rattle.page_markup.specs.Trees.{IsWellFormed, page_end}
use Rattle.page_markup.proofs.TreeLaws.{finished-closed, finished-none, finished-shown, of_tree-finished}
use Rattle.page_markup.proofs.page_writer.PageWriter.finish.Goals as goal

-- the text of the page whose elements are all ended
ended : (c : goal.After-drop-self-inside-3) → c.extend_from_slice.new.self.items ≡ finished c.loop-self.self
unfolding page_end
ended c =
    let none : length c.loop-self.self.tags ≡ 0 = omega (arith, c.depth.ensures, c.loop-self-test.false) in
    c.in_ok-extend_from_slice.ensures.items ∙ ap (λ (page : OpenPage). page.text ++ page_end) c.self.view_is ∙ sym (finished-none c.loop-self.self none)

pub loop-self-preserved : goal.loop-self-preserved
loop-self-preserved c = ap finished c.in_ok-close.ensures.written ∙ finished-closed c.loop-self.self ∙ c.loop-self.invariant

pub returns-clause-written : goal.returns-clause-written
returns-clause-written c = ended c ∙ c.loop-self.invariant

pub returns-clause-tree : goal.returns-clause-tree
returns-clause-tree c = λ draft e. ended c ∙ c.loop-self.invariant ∙ ap finished e ∙ finished-shown draft

pub returns-clause-well_formed : goal.returns-clause-well_formed
returns-clause-well_formed c = subst IsWellFormed (sym (ended c)) (of_tree-finished c.loop-self.self (subst IsOfTree c.self.view_is c.self.invariant))
