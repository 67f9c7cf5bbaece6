use Rattle.std.proofs.Common.{◌≡◌, ◌∙◌, List, ap, subst, sym}
use Rattle.std.specs.List.{list_any}
use Rattle.std.specs.Result.{OnOk}
use Rattle.edit_line.specs.Subsumption.{subsumes}
use Rattle.edit_line.specs.declared.derived.Derived.{Derived}
use Rattle.edit_line.proofs.KeyLaws.{taken-last}
use Rattle.edit_line.proofs.kept.Kept.take_copy.Goals as goal

pub returns-clause-taken : goal.returns-clause-taken
returns-clause-taken c =
    let kept_is = c.deref-3.ensures.value ∙ c.self.view_is in
    subst (λ (ds : List Derived). OnOk c.replace_subsumed.result (c.replace_subsumed.new.self ≡ ds))
    (taken-last c.args.self.now c.args.line.now c.in_ok-line.line c.args.origin c.in_ok-line.ensures (sym c.if-is_trivial.ensures)
    (ap (λ (ds : List Derived). list_any (λ (a : Derived). subsumes a.line c.args.line.now) ds) (sym kept_is) ∙ sym c.if-is_subsumed.ensures))
    c.replace_subsumed.ensures.replaced
