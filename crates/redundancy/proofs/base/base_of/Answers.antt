use Rattle.std.proofs.Common.{List, length, ap, sym, ◌∙◌, true}
use Rattle.std.proofs.Math.ListN.{replicate}
use Rattle.edit_line.specs.Lines.{LineParts}
use Rattle.redundancy.proofs.BaseLaws.{base-both}
use Rattle.redundancy.proofs.base.base_of.Goals as goal

pub returns-clause-base : goal.returns-clause-base
returns-clause-base c =
    base-both c.args.lines.now c.args.left.now c.args.line.now c.requires.count c.new-base.result.items c.push_usable.new.base.items
    c.push_usable-2.new.base.items c.new-base.ensures.items c.in_ok-push_usable.ensures.base c.deref.result.now c.deref-2.result.now
    (c.deref.ensures.value ∙ c.in_ok-negation.ensures.exact)
    (c.deref-2.ensures.value ∙ c.in_ok-all.ensures.items_if_clones_equal (λ y e. e) ∙ ap (λ n. replicate n true) (c.len.ensures ∙ sym c.deref.ensures.len)
    ∙ ap (λ (ls : List LineParts). replicate (length ls) true) (c.deref.ensures.value ∙ c.in_ok-negation.ensures.exact))
    c.in_ok-push_usable-2.ensures.base
