use Rattle.std.proofs.Common.{sym}
use Rattle.edit_model.proofs.FieldNames.{found_field, no_field}
use Rattle.edit_model.proofs.survey.Survey.find.Goals as goal

pub returns-in-Some-clause-found : goal.returns-in-Some-clause-found
returns-in-Some-clause-found c =
    rw (← c.self.view_is) (found_field c.self.inside.fields.items c.args.name.now c.in-Some.place (sym (rw c.deref.ensures.value at c.in-Some.ensures)))

pub returns-in-None-clause-none : goal.returns-in-None-clause-none
returns-in-None-clause-none c =
    rw (← c.self.view_is) (no_field c.self.inside.fields.items c.args.name.now (sym (rw c.deref.ensures.value at c.in-None.ensures)))
