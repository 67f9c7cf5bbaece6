use Rattle.std.proofs.Common.{◌∙◌, ◌++◌, ◌∷◌, [], All, Bool, List, ap, append-nil, if◌then◌else◌, rules, subst, sym, true, false}
use Rattle.std.proofs.lemmas.List.{map_push}
use Rattle.std.proofs.lemmas.List.Elements.{All-push}
use Rattle.std.proofs.lemmas.Result.{IfOk-from_err}
use Rattle.edit_line.specs.EditSets.{base_lines}
use Rattle.edit_line.specs.Lines.{IsLine, LineParts}
use Rattle.edit_line.specs.Reductions.{derived_from, lines_of}
use Rattle.edit_line.specs.declared.derived.Derived.{Derived}
use Rattle.edit_line.specs.declared.derived.Origin.TheVariants.{Base}
use Rattle.redundancy.proofs.base.push_if_usable.Goals as goal

pub returns-in_ok-push-clause-lines : goal.returns-in_ok-push-clause-lines
returns-in_ok-push-clause-lines c =
    let is : IsLine c.in_ok-copy.field-0 = search rules in
    let more = derived_from c.in_ok-copy.field-0 (Base c.args.number) in
    subst (λ (ds : List Derived). All IsLine (lines_of ds)) (sym {A = List Derived} c.in_ok-push.ensures.items)
    (subst (λ (ls : List LineParts). All IsLine ls) (sym (map_push (λ (d : Derived). d.line) c.args.base.now.items more))
    (All-push IsLine (lines_of c.args.base.now.items) c.in_ok-copy.field-0 c.requires is))

pub returns-in_ok-push-clause-base : goal.returns-in_ok-push-clause-base
returns-in_ok-push-clause-base c =
    c.in_ok-push.ensures.items ∙ ap (λ (l : LineParts). c.args.base.now.items ++ derived_from l (Base c.args.number) ∷ []) c.in_ok-copy.ensures
    ∙ ap (λ (b : Bool). c.args.base.now.items ++ base_lines (if b then (c.args.number, c.args.line.now) ∷ [] else [])) (sym c.if-usable.true)

pub returns-else-usable-clause-base : goal.returns-else-usable-clause-base
returns-else-usable-clause-base c =
    sym (append-nil c.args.base.now.items)
    ∙ ap (λ (b : Bool). c.args.base.now.items ++ base_lines (if b then (c.args.number, c.args.line.now) ∷ [] else [])) (sym c.if-usable.false)

pub returns-else-usable-clause-lines : goal.returns-else-usable-clause-lines
returns-else-usable-clause-lines c = c.requires

pub returns-in_err-copy-clause-base : goal.returns-in_err-copy-clause-base
returns-in_err-copy-clause-base c = IfOk-from_err _ _ c.from_residual.ensures.0

pub returns-in_err-copy-clause-lines : goal.returns-in_err-copy-clause-lines
returns-in_err-copy-clause-lines c = c.requires

pub returns-in_err-push-clause-base : goal.returns-in_err-push-clause-base
returns-in_err-push-clause-base c = IfOk-from_err _ _ c.from_residual-in_err-push.ensures.0

pub returns-in_err-push-clause-lines : goal.returns-in_err-push-clause-lines
returns-in_err-push-clause-lines c = subst (λ (ds : List Derived). All IsLine (lines_of ds)) (sym c.in_err-push.ensures.items) c.requires
