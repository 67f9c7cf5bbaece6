use Rattle.std.proofs.Common.{List, [], ◌∷◌, ◌++◌, ◌∙◌, ap, arith, map, sym, take}
use Rattle.std.proofs.lemmas.List.{map_more, take_all}
use Rattle.std.proofs.lemmas.Result.{IfOk-from_err}
use Rattle.categ_combine.specs.declared.box_from.BoxFrom.{BoxFrom}
use Rattle.edit_paths.specs.Histories.{History, box_by, with_boxes}
use Rattle.edit_paths.specs.declared.making.Making.{Making}
use Rattle.redundancy.proofs.history.History.add_boxes.Goals as goal

pub loop-b-preserved : goal.loop-b-preserved
loop-b-preserved c =
    let made = λ (b : BoxFrom). box_by c.args.field b.origin in
    c.in_ok-push.ensures.items
    ∙ (λ k. c.loop-b.invariant k ++ c.in_ok-box_by.ensures k ∷ [])
    ∙ ap (λ (b : BoxFrom). map made (take c.loop-b.b-index c.args.boxes.now) ++ made b ∷ []) c.b-item.is
    ∙ sym (map_more made c.args.boxes.now c.loop-b.b-index c.b-item.result c.loop-b-test.true)

pub returns-in_err-list : goal.returns-in_err-list
returns-in_err-list c = IfOk-from_err _ _ c.from_residual.ensures.0

pub returns-in_err-box_by : goal.returns-in_err-box_by
returns-in_err-box_by c = IfOk-from_err _ _ c.from_residual-in_err-box_by.ensures.0

pub returns-in_err-push : goal.returns-in_err-push
returns-in_err-push c = IfOk-from_err _ _ c.from_residual-in_err-push.ensures.0

pub returns-in_err-insert : goal.returns-in_err-insert
returns-in_err-insert c = IfOk-from_err _ _ c.from_residual-in_err-insert.ensures.0

pub returns : goal.returns
returns c =
    let all = take_all c.loop-b.b-index c.args.boxes.now (omega (arith, c.loop-b-test.false)) in
    c.in_ok-insert.ensures.items
    ∙ ap (λ (ms : List Making). ms ∷ c.self.inside.lists.items) (c.from_vec.ensures ∙ c.loop-b.invariant
    ∙ ap (λ (bs : List BoxFrom). map (λ (b : BoxFrom). box_by c.args.field b.origin) bs) all)
    ∙ ap (λ (h : History). with_boxes h c.args.field c.args.boxes.now) c.self.view_is
