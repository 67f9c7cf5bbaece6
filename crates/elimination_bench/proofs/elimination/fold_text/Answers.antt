use Rattle.std.proofs.Common.{ℕ, List, Ok, length, string_bytes, sym, ap, ◌∙◌, arith}
use Rattle.std.specs.Arc.{arc_value}
use Rattle.edit_line.specs.Lines.{LineParts}
use Rattle.edit_line.specs.declared.derived.Derived.{Derived}
use Rattle.elimination_bench.specs.inner.Differences.{count_of}
use Rattle.elimination_bench.specs.inner.Folds.{fold_answer}
use Rattle.elimination_bench.specs.inner.Texts.{fold_text}
use Rattle.elimination_bench.proofs.DifferenceLaws.{few-numbers, generated-numerical}
use Rattle.elimination_bench.proofs.FoldLaws.{fold-made, fold-refused, given-count, system-first}
use Rattle.elimination_bench.proofs.elimination.fold_text.Goals as goal

pub first_fields-requires : goal.first_fields-requires
first_fields-requires c = omega (arith, c.requires, few-numbers c.args.differences)

pub system_of-requires : goal.system_of-requires
system_of-requires c = generated-numerical c.args.differences c.args.count c.first_fields.result _ (c.in_ok-edits-2.ensures.ok ∙ c.in_ok-edits.ensures)
    c.first_fields.ensures.only c.requires

pub returns-in-Err : goal.returns-in-Err
returns-in-Err c =
    let given = c.in_ok-edits-2.ensures.ok ∙ c.in_ok-edits.ensures in
    let first = system-first c.args.differences c.args.count c.first_fields.result (arc_value c.in_ok-edits-2.edits) given c.requires
    c.first_fields.ensures.only c.first_fields.ensures.all in
    fold-refused c.in-Err.fault c.system_fault.result _ _ (λ lines. Ok (fold_text c.args.count (count_of c.args.differences) (length lines)))
    c.system_fault.ensures first c.in-Err.ensures.exact

pub returns : goal.returns
returns c =
    let given = c.in_ok-edits-2.ensures.ok ∙ c.in_ok-edits.ensures in
    fold-made c.args.differences c.args.count _ _ c.in-Ok.system.lines (string_bytes c.in_ok-format.field-0)
    (sym (system-first c.args.differences c.args.count c.first_fields.result (arc_value c.in_ok-edits-2.edits) given c.requires c.first_fields.ensures.only
    c.first_fields.ensures.all) ∙ c.in-Ok.ensures.exact)
    (ap (λ (ls : List (ℕ × LineParts)). length ls) c.lines.ensures.lines ∙ given-count c.args.differences c.deref.result.now (c.deref.ensures ∙ given))
    (ap (λ (ls : List Derived). length ls) c.lines-2.ensures.lines)
    c.in_ok-format.ensures.ok
