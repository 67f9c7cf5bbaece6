use Rattle.std.proofs.Common.{◌∙◌, add-one, ap, sym, remove, List, arith}
use Rattle.edit_line.specs.inner.Keys.{keys_of, left_from}
use Rattle.edit_line.specs.declared.derived.Derived.{Derived}
use Rattle.edit_line.proofs.KeyLaws.{keys-removed, left-passed, left-removed}
use Rattle.std.proofs.lemmas.Grind.{common_steps}
use Rattle.edit_line.proofs.kept.remove_at.Goals as goal

pub returns-then-subsumes_keyed-clause-keyed : goal.returns-then-subsumes_keyed-clause-keyed
returns-then-subsumes_keyed-clause-keyed c =
    c.remove-then-subsumes_keyed.ensures.items ∙ ap (λ ks. remove ks c.args.place) c.requires.keyed ∙ keys-removed c.args.lines.now.items c.args.place
    ∙ ap keys_of (sym c.remove.ensures.items)

pub returns-then-subsumes_keyed-clause-lines : goal.returns-then-subsumes_keyed-clause-lines
returns-then-subsumes_keyed-clause-lines c =
    ap (λ (ds : List Derived). left_from c.args.place c.args.line.now ds) c.remove.ensures.items
    ∙ left-removed c.args.line.now c.args.lines.now.items c.args.place c.index.result.now c.requires.place c.index.ensures (sym c.if-subsumes_keyed.ensures)

pub returns-else-subsumes_keyed-clause-lines : goal.returns-else-subsumes_keyed-clause-lines
returns-else-subsumes_keyed-clause-lines c =
    rw (add-one) (left-passed c.args.line.now c.args.lines.now.items c.args.place c.index.result.now c.requires.place c.index.ensures
    (sym c.if-subsumes_keyed.ensures))

pub index-requires-2 : goal.index-requires-2
index-requires-2 c = grind (arith, common_steps)

pub subsumes_keyed-requires-clause-second : goal.subsumes_keyed-requires-clause-second
subsumes_keyed-requires-clause-second c = grind (arith, common_steps)

pub remove-requires-then-subsumes_keyed : goal.remove-requires-then-subsumes_keyed
remove-requires-then-subsumes_keyed c = grind (arith, common_steps)
