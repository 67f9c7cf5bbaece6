use Rattle.std.proofs.Common.{◌∙◌, ◌++◌, List, [], ◌∷◌, MatchOption, ap, arith, subst, sym, take}
use Rattle.std.proofs.lemmas.List.{take_all, take_more}
use Rattle.edit_model.specs.declared.value.Value.{Value}
use Rattle.page_counts.specs.Numbers.{HaveNoNumber, IsLeast}
use Rattle.page_counts.proofs.numbers.least.Goals as goal

pub loop-value-preserved : goal.loop-value-preserved
loop-value-preserved c =
    let before = take c.loop-value.value-index c.args.values.now in
    subst (λ (vs : List Value). MatchOption c.least_with-least.result (HaveNoNumber vs) (IsLeast vs))
    (sym (take_more c.args.values.now c.loop-value.value-index c.value-item.result (omega arith) ∙ ap (λ (v : Value). before ++ v ∷ []) (sym c.value-item.is)))
    (c.least_with-least.ensures before c.loop-value.invariant)

pub returns : goal.returns
returns c =
    subst (λ (vs : List Value). MatchOption c.loop-value.least (HaveNoNumber vs) (IsLeast vs)) (take_all c.loop-value.value-index c.args.values.now
    (omega arith)) c.loop-value.invariant
