use Rattle.std.proofs.Common.{◌≡◌, reverse, subst, sym}
use Rattle.page_markup.specs.Drafts.{IsOfTree}
use Rattle.page_markup.specs.OpenPages.{given, opened}
use Rattle.page_markup.proofs.TreeLaws.{marked, of_tree-opened, opened-is, page_of}
use Rattle.page_markup.proofs.page_writer.PageWriter.open.Goals as goal

written : (c : goal.In-Ok)
    → page_of c.extend_from_slice.new.self.items (reverse c.push.new.self.items)
    ≡ opened c.args.tag (given c.args.attributes.now) c.args.self.now
written c =
    opened-is c.args.tag (given c.args.attributes.now)
    c.self.inside.text.items c.extend_from_slice.new.self.items c.self.inside.tags.items c.push.new.self.items c.args.self.now c.self.view_is
    (marked c.self.inside.text.items _ _ _ _ _ c.in-Ok.ensures.items
    c.deref.ensures.value c.in_ok-push_start.ensures c.clear.ensures.items) c.in_ok-push.ensures.items

pub invariant_of-self-in-Ok : goal.invariant_of-self-in-Ok
invariant_of-self-in-Ok c =
    subst IsOfTree (sym (written c)) (of_tree-opened c.args.tag (given c.args.attributes.now) _ (subst IsOfTree c.self.view_is c.self.invariant))
