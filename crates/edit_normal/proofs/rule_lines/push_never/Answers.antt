use Rattle.std.proofs.Common.{◌≡◌, ◌++◌, [], ◌∷◌, true, List, ℕ, sym, ap, ◌∙◌}
use Rattle.edit_line.specs.Lines.{LineParts}
use Rattle.edit_line.specs.Sets.{none_is_empty}
use Rattle.edit_line.specs.Negations.{never}
use Rattle.edit_normal.proofs.Pushes.{never-is, never-line, pushed}
use Rattle.edit_normal.proofs.rule_lines.push_never.Goals as goal

pub over-line-requires : goal.over-line-requires
over-line-requires c =
    let full : none_is_empty c.args.sets.items ≡ true = ap (λ (ss : List ℕ). none_is_empty ss) (sym c.deref.ensures.value) ∙ sym c.have_codes.ensures
    ∙ c.if-have_codes.true in
    never-line _ c.args.fields.now c.args.sets.items c.numbers.result.now c.in_ok-factors.factors.items c.shape.ensures c.numbers.ensures
    (c.in_ok-factors.ensures.items_if_clones_equal (λ y e. e)) full c.requires

pub returns-in_ok-push : goal.returns-in_ok-push
returns-in_ok-push c =
    let full : none_is_empty c.args.sets.items ≡ true = ap (λ (ss : List ℕ). none_is_empty ss) (sym c.deref.ensures.value) ∙ sym c.have_codes.ensures
    ∙ c.if-have_codes.true in
    let is = never-is _ c.args.fields.now c.args.sets.items c.numbers.result.now c.in_ok-factors.factors.items c.shape.ensures c.numbers.ensures
    (c.in_ok-factors.ensures.items_if_clones_equal (λ y e. e)) in
    pushed c.args.lines.now.items c.push.new.self.items c.args.rule (never c.args.fields.now c.args.sets.items) full
    (c.in_ok-push.ensures.items ∙ ap (λ (l : LineParts). c.args.lines.now.items ++ record { rule = c.args.rule; line = l } ∷ []) (c.over-line.ensures ∙ is))
