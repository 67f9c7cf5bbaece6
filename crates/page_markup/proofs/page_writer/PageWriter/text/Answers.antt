use Rattle.std.proofs.Common.{◌≡◌, ◌∙◌, ap, append-nil, reverse, subst, sym}
use Rattle.page_markup.specs.Drafts.{IsOfTree}
use Rattle.page_markup.specs.Escapes.{escaped}
use Rattle.page_markup.specs.OpenPages.{added}
use Rattle.page_markup.specs.Trees.Content.{Nothing, Words}
use Rattle.page_markup.proofs.EscapeLaws.{escaped-inert}
use Rattle.page_markup.proofs.ReadLaws.{escaped-told}
use Rattle.page_markup.proofs.TreeLaws.{added-is, added-shown, marked, of_tree-added, page_of}
use Rattle.page_markup.proofs.page_writer.PageWriter.text.Goals as goal

written : (c : goal.In_ok-extend_from_slice)
    → page_of c.extend_from_slice.new.self.items (reverse c.self.inside.tags.items) ≡ added (Words c.args.words.now Nothing) c.args.self.now
written c =
    added-is (Words c.args.words.now Nothing) (escaped c.args.words.now)
    c.self.inside.text.items c.extend_from_slice.new.self.items (reverse c.self.inside.tags.items) c.args.self.now c.self.view_is
    (marked c.self.inside.text.items _ _ _ _ _ c.in_ok-extend_from_slice.ensures.items
    c.deref.ensures.value c.in_ok-push_escaped.ensures c.clear.ensures.items) (append-nil _)

pub invariant_of-self-2 : goal.invariant_of-self-2
invariant_of-self-2 c =
    subst IsOfTree (sym (written c)) (of_tree-added (Words c.args.words.now Nothing) _ (subst IsOfTree c.self.view_is c.self.invariant))

pub returns-clause-tree : goal.returns-clause-tree
returns-clause-tree c = λ draft e.
    written c ∙ ap (added (Words c.args.words.now Nothing)) e ∙ added-shown (Words c.args.words.now Nothing) draft

pub returns-in_err-push_escaped-clause-inert : goal.returns-in_err-push_escaped-clause-inert
returns-in_err-push_escaped-clause-inert c = escaped-inert c.args.words.now

pub returns-in_err-extend_from_slice-clause-inert : goal.returns-in_err-extend_from_slice-clause-inert
returns-in_err-extend_from_slice-clause-inert c = escaped-inert c.args.words.now

pub returns-clause-inert : goal.returns-clause-inert
returns-clause-inert c = escaped-inert c.args.words.now

pub returns-in_err-push_escaped-clause-told : goal.returns-in_err-push_escaped-clause-told
returns-in_err-push_escaped-clause-told c = λ kept other also e. escaped-told c.args.words.now other kept also e

pub returns-in_err-extend_from_slice-clause-told : goal.returns-in_err-extend_from_slice-clause-told
returns-in_err-extend_from_slice-clause-told c = λ kept other also e. escaped-told c.args.words.now other kept also e

pub returns-clause-told : goal.returns-clause-told
returns-clause-told c = λ kept other also e. escaped-told c.args.words.now other kept also e
