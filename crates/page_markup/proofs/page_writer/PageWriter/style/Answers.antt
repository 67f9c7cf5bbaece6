use Rattle.std.proofs.Common.{◌≡◌, ◌∙◌, ap, append-nil, reverse, subst, sym}
use Rattle.page_markup.specs.Drafts.{IsOfTree}
use Rattle.page_markup.specs.OpenPages.{added}
use Rattle.page_markup.specs.Trees.{style_text}
use Rattle.page_markup.specs.Trees.Content.{Nothing, Style}
use Rattle.page_markup.proofs.TreeLaws.{added-is, added-shown, marked, of_tree-added, page_of}
use Rattle.page_markup.proofs.page_writer.PageWriter.style.Goals as goal

written : (c : goal.In_ok-extend_from_slice)
    → page_of c.extend_from_slice.new.self.items (reverse c.self.inside.tags.items) ≡ added (Style Nothing) c.args.self.now
written c =
    added-is (Style Nothing) style_text
    c.self.inside.text.items c.extend_from_slice.new.self.items (reverse c.self.inside.tags.items) c.args.self.now c.self.view_is
    (marked c.self.inside.text.items _ _ _ _ _ c.in_ok-extend_from_slice.ensures.items
    c.deref.ensures.value c.in_ok-push_style.ensures c.clear.ensures.items) (append-nil _)

pub invariant_of-self-2 : goal.invariant_of-self-2
invariant_of-self-2 c =
    subst IsOfTree (sym (written c)) (of_tree-added (Style Nothing) _ (subst IsOfTree c.self.view_is c.self.invariant))

pub returns-clause-tree : goal.returns-clause-tree
returns-clause-tree c = λ draft e.
    written c ∙ ap (added (Style Nothing)) e ∙ added-shown (Style Nothing) draft
