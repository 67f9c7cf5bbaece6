use Rattle.std.proofs.Common.{refl, sym, ◌∙◌}
use Rattle.edit_language.proofs.FirstFaultLaws.{found_is_least, none_found}
use Rattle.edit_language.proofs.draft.Draft.take_statement.Goals as goal

pub returns-in-Some-clause-fault : goal.returns-in-Some-clause-fault
returns-in-Some-clause-fault c =
    let found = rw (c.as_slice.ensures.value, c.as_slice-2.ensures.value, c.self.view_is) at c.in_ok-kind.ensures in
    (refl, found_is_least c.args.self.now c.args.statement c.in-Some.kind (sym found ∙ c.in-Some.is))

pub returns-in_ok-add_statement-in-None-clause-faultless : goal.returns-in_ok-add_statement-in-None-clause-faultless
returns-in_ok-add_statement-in-None-clause-faultless c =
    let found = rw (c.as_slice.ensures.value, c.as_slice-2.ensures.value, c.self.view_is) at c.in_ok-kind.ensures in
    none_found c.args.self.now c.args.statement (sym found ∙ c.in-None.is)
