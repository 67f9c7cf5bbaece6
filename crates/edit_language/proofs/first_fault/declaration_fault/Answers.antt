use Rattle.edit_language.proofs.first_fault.declaration_fault.Goals as goal

pub returns-in-Number : goal.returns-in-Number
returns-in-Number c = λ rules. rw c.in-Number.is (c.number_fault.ensures rules)

pub returns-in-Code : goal.returns-in-Code
returns-in-Code c = rw c.in-Code.is c.code_fault.ensures
