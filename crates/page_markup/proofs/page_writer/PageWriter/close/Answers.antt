use Rattle.std.proofs.Common.{rules, ◌≡◌, [], ◌∷◌, ◌++◌, ◌∙◌, ap, reverse, subst, sym}
use Rattle.page_markup.specs.Drafts.{IsOfTree}
use Rattle.page_markup.specs.OpenPages.{closed}
use Rattle.page_markup.proofs.TreeLaws.{closed-is, closed-shown, marked, of_tree-closed, page_of}
use Rattle.page_markup.proofs.page_writer.PageWriter.close.Goals as goal

written : (c : goal.After-pop) → page_of c.extend_from_slice.new.self.items (reverse c.pop.new.self.items) ≡ closed c.args.self.now
written c =
    let was : c.self.inside.tags.items ≡ c.pop.new.self.items ++ c.in-Some.tag.now ∷ [] = search rules in
    closed-is c.in-Some.tag.now c.self.inside.text.items c.extend_from_slice.new.self.items c.self.inside.tags.items c.pop.new.self.items
    c.args.self.now c.self.view_is
    (marked c.self.inside.text.items _ _ _ _ _ c.in_ok-extend_from_slice.ensures.items
    c.deref-2.ensures.value c.in_ok-push_end.ensures c.clear.ensures.items) was

pub invariant_of-self-2 : goal.invariant_of-self-2
invariant_of-self-2 c = subst IsOfTree (sym (written c)) (of_tree-closed _ (subst IsOfTree c.self.view_is c.self.invariant))

pub returns-clause-tree : goal.returns-clause-tree
returns-clause-tree c = λ draft e. written c ∙ ap closed e ∙ closed-shown draft
