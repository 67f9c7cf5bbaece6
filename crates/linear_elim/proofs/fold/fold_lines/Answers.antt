use Rattle.std.proofs.Common.{◌+◌, ◌∙◌, List, ℕ, get_or, ap, sym, arith, rules}
use Rattle.edit_line.specs.declared.derived.Derived.{Derived}
use Rattle.edit_line.specs.EditSets.{base_lines}
use Rattle.edit_line.specs.Reductions.{reduce_derived}
use Rattle.linear_elim.specs.Systems.{fold_count, fold_result, system_at}
use Rattle.linear_elim.proofs.ShapeLaws.{OneShape-have}
use Rattle.linear_elim.specs.Told.{told_system}
use Rattle.linear_elim.specs.inner.FoldLines.{so_far}
use Rattle.linear_elim.proofs.OwnLoops.{own-folded, own-start}
use Rattle.linear_elim.proofs.StepClauses.{answers-handed}
use Rattle.linear_elim.proofs.StepLoops.{if_told}
use Rattle.linear_elim.proofs.FoldLaws.{HaveShape-folded}
use Rattle.linear_elim.proofs.MadeLaws.{start_over, system-made}
use Rattle.linear_elim.proofs.SystemLoops.{chosen-all, chosen-end, chosen_from, chosen_here, count-more, count-stops, fold-more, fold-stops, reached-end}
use Rattle.linear_elim.proofs.fold.fold_lines.Goals as goal

pub loop-field-init : goal.loop-field-init
loop-field-init g c =
    let edits = c.args.edits.now in
    let start = c.reduced-base.result.now in
    let base = reduce_derived (base_lines edits.lines) in
    let is = c.reduced-base.ensures.exact in
    let chosen = chosen-all c.args.fields c.code_counts-count-items.result.now _ edits.shape c.code_counts-count-items.ensures.domains
    c.shape-shape.ensures in (
      ap (λ (ls : List Derived). fold_result ls (chosen_from c.args.fields c.code_counts-count-items.result.now 0)) is
          ∙ ap (λ (fs : List ℕ). fold_result base fs) chosen,
      ap (λ (n : ℕ). c.args.steps.now + n) (ap (λ (ls : List Derived). fold_count ls (chosen_from c.args.fields c.code_counts-count-items.result.now 0)) is
          ∙ ap (λ (fs : List ℕ). fold_count base fs) chosen),
      start_over edits start c.reduced-base.ensures.kept,
      own-start (base_lines edits.lines) start is,
      omega (arith),
    )

pub next_lines-requires-clause-shape : goal.next_lines-requires-clause-shape
next_lines-requires-clause-shape g c = OneShape-have c.args.edits.now.shape (so_far c.reduced-base.result.now c.loop-field.lines) c.loop-field.invariant.2

pub loop-field-preserved : goal.loop-field-preserved
loop-field-preserved g c =
    let fields = c.args.fields in
    let counts = c.code_counts-count-items.result.now in
    let i = c.loop-field.field in
    let k = get_or counts i 0 in
    let lines = so_far c.reduced-base.result.now c.loop-field.lines in
    let next = so_far c.reduced-base.result.now c.in_ok-lines.lines in
    let is = c.in_ok-lines.ensures.exact in
    let count = count-more fields counts i k c.loop-field-test.true (search rules) lines next is in (
      fold-more fields counts i k c.loop-field-test.true (search rules) lines next (system_at c.args.edits.now fields) c.loop-field.invariant.0 is,
      omega (arith, count, c.in_ok-lines.ensures.counted, c.loop-field.invariant.1),
      HaveShape-folded c.args.edits.now.shape lines (chosen_here fields k i) next is c.loop-field.invariant.2,
      own-folded lines (chosen_here fields k i) next is c.loop-field.invariant.3,
      omega (arith, c.loop-field.invariant.4, c.next_lines.ensures.counts),
    )

pub returns-in_err-lines-clause-exact : goal.returns-in_err-lines-clause-exact
returns-in_err-lines-clause-exact g c =
    let fields = c.args.fields in
    let counts = c.code_counts-count-items.result.now in
    let i = c.loop-field.field in
    let whole = system_at c.args.edits.now fields in
    let lines = so_far c.reduced-base.result.now c.loop-field.lines in
    answers-handed (λ v. v.items) told_system c.in_err-lines.field-0.0 c.from_residual.result whole c.from_residual.ensures.1
    (if_told (told_system c.in_err-lines.field-0.0) (λ fault is. fold-stops fields counts i (get_or counts i 0) c.loop-field-test.true (search rules) lines
    fault whole c.loop-field.invariant.0 is) c.in_err-lines.ensures.exact)

pub returns-in_err-lines-clause-few : goal.returns-in_err-lines-clause-few
returns-in_err-lines-clause-few g c =
    let counts = c.code_counts-count-items.result.now in
    let i = c.loop-field.field in
    let part = count-stops c.args.fields counts i (get_or counts i 0) c.loop-field-test.true (search rules)
    (so_far c.reduced-base.result.now c.loop-field.lines) in
    omega (arith, part, c.in_err-lines.ensures.few, c.loop-field.invariant.1)

pub returns-in-Some-clause-made : goal.returns-in-Some-clause-made
returns-in-Some-clause-made g c =
    let edits = c.args.edits.now in
    let start = c.reduced-base.result.now in
    let none = chosen-end c.args.fields c.code_counts-count-items.result.now c.loop-field.field (omega (arith, c.loop-field-test.false)) in
    system-made edits start c.reduced-base.ensures.kept c.args.fields c.in-Some.lines.items c.requires
    (reached-end _ c.in-Some.lines.items _ (system_at edits c.args.fields) none c.loop-field.invariant.0 (ap (λ ls. so_far start ls) c.in-Some.is))

pub returns-in_ok-copy_all-in-None-clause-made : goal.returns-in_ok-copy_all-in-None-clause-made
returns-in_ok-copy_all-in-None-clause-made g c =
    let edits = c.args.edits.now in
    let start = c.reduced-base.result.now in
    let lines = c.in_ok-copy_all-in-None.field-0.items in
    let none = chosen-end c.args.fields c.code_counts-count-items.result.now c.loop-field.field (omega (arith, c.loop-field-test.false)) in
    system-made edits start c.reduced-base.ensures.kept c.args.fields lines c.requires
    (reached-end _ lines _ (system_at edits c.args.fields) none c.loop-field.invariant.0
    (ap (λ ls. so_far start ls) c.in-None.is ∙ sym c.in_ok-copy_all-in-None.ensures))
