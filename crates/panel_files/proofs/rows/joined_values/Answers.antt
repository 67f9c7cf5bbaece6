use Rattle.std.proofs.Common.{◌≡◌, IfOk, List, arith, subst, ◌∙◌}
use Rattle.edit_model.specs.declared.value.Value.{Value}
use Rattle.edit_model.specs.declared.value.Value.TheVariants.{Bad}
use Rattle.panel_files.proofs.JoinedLaws.{filled-joined, filled-length}
use Rattle.panel_files.proofs.PartLaws.{file-lengths}
use Rattle.panel_files.proofs.rows.joined_values.Goals as goal

pub overflow_sub-fields : goal.overflow_sub-fields
overflow_sub-fields c = omega (arith, file-lengths c.args.fields.now c.args.set, c.requires.own)

pub join-requires-in-None-clause-last : goal.join-requires-in-None-clause-last
join-requires-in-None-clause-last c =
    filled-length c.args.fields.now c.args.set c.args.own.now Bad c.requires.own c.deref.result.now
    (c.deref.ensures.value ∙ c.in_ok-missing-in-None.ensures.items_if_clones_equal (λ y e. e))

pub returns-in_ok-missing-in-None : goal.returns-in_ok-missing-in-None
returns-in_ok-missing-in-None c =
    rw c.in-None.is
    (subst (λ (whole : List Value). IfOk c.join-in-None.result (λ both. both.items ≡ whole))
    (filled-joined c.args.fields.now c.args.set c.args.own.now Bad c.requires.own c.deref.result.now
    (c.deref.ensures.value ∙ c.in_ok-missing-in-None.ensures.items_if_clones_equal (λ y e. e)))
    c.join-in-None.ensures)
