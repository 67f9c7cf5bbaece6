use Rattle.std.proofs.Common.{◌≡◌, ◌∙◌, ap, append-nil, reverse, subst, sym}
use Rattle.page_markup.specs.Drafts.{IsOfTree}
use Rattle.page_markup.specs.OpenPages.{added, given}
use Rattle.page_markup.specs.Trees.{void_text}
use Rattle.page_markup.specs.Trees.Content.{Nothing, Void}
use Rattle.page_markup.proofs.TreeLaws.{added-is, added-shown, marked, of_tree-added, page_of}
use Rattle.page_markup.proofs.page_writer.PageWriter.empty.Goals as goal

written : (c : goal.In_ok-extend_from_slice)
    → page_of c.extend_from_slice.new.self.items (reverse c.self.inside.tags.items)
    ≡ added (Void c.args.tag (given c.args.attributes.now) Nothing) c.args.self.now
written c =
    added-is (Void c.args.tag (given c.args.attributes.now) Nothing) (void_text c.args.tag (given c.args.attributes.now))
    c.self.inside.text.items c.extend_from_slice.new.self.items (reverse c.self.inside.tags.items) c.args.self.now c.self.view_is
    (marked c.self.inside.text.items _ _ _ _ _ c.in_ok-extend_from_slice.ensures.items
    c.deref.ensures.value c.in_ok-push_void.ensures c.clear.ensures.items) (append-nil _)

pub invariant_of-self-2 : goal.invariant_of-self-2
invariant_of-self-2 c =
    subst IsOfTree (sym (written c)) (of_tree-added (Void c.args.tag (given c.args.attributes.now) Nothing) _ (subst IsOfTree c.self.view_is c.self.invariant))

pub returns-clause-tree : goal.returns-clause-tree
returns-clause-tree c = λ draft e.
    written c ∙ ap (added (Void c.args.tag (given c.args.attributes.now) Nothing)) e ∙ added-shown (Void c.args.tag (given c.args.attributes.now) Nothing) draft
