use Rattle.std.proofs.Common.{List, [], ◌∷◌, ◌++◌, ◌∙◌, ap, arith, map, sym, take}
use Rattle.std.proofs.lemmas.List.{map_more, take_all}
use Rattle.std.proofs.lemmas.Result.{IfOk-from_err}
use Rattle.edit_line.specs.declared.derived.Derived.{Derived}
use Rattle.edit_paths.specs.Histories.{History, line_by, with_lines}
use Rattle.edit_paths.specs.declared.making.Making.{Making}
use Rattle.redundancy.proofs.history.History.add_lines.Goals as goal

pub loop-derived-preserved : goal.loop-derived-preserved
loop-derived-preserved c =
    let made = λ (d : Derived). line_by d.origin in
    c.in_ok-push.ensures.items
    ∙ (λ k. c.loop-derived.invariant k ++ c.line_by.ensures k ∷ [])
    ∙ ap (λ (d : Derived). map made (take c.loop-derived.derived-index c.args.lines.now) ++ made d ∷ []) c.derived-item.is
    ∙ sym (map_more made c.args.lines.now c.loop-derived.derived-index c.derived-item.result c.loop-derived-test.true)

pub returns-in_err-list : goal.returns-in_err-list
returns-in_err-list c = IfOk-from_err _ _ c.from_residual.ensures.0

pub returns-in_err-push : goal.returns-in_err-push
returns-in_err-push c = IfOk-from_err _ _ c.from_residual-in_err-push.ensures.0

pub returns-in_err-insert : goal.returns-in_err-insert
returns-in_err-insert c = IfOk-from_err _ _ c.from_residual-in_err-insert.ensures.0

pub returns : goal.returns
returns c =
    let all = take_all c.loop-derived.derived-index c.args.lines.now (omega (arith, c.loop-derived-test.false)) in
    c.in_ok-insert.ensures.items
    ∙ ap (λ (ms : List Making). ms ∷ c.self.inside.lists.items) (c.from_vec.ensures ∙ c.loop-derived.invariant
    ∙ ap (λ (ds : List Derived). map (λ (d : Derived). line_by d.origin) ds) all)
    ∙ ap (λ (h : History). with_lines h c.args.lines.now) c.self.view_is
