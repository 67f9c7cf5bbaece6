use Rattle.edit_language.proofs.first_fault.is_large_test.Goals as goal

pub returns-in-Sums : goal.returns-in-Sums
returns-in-Sums c = rw c.in-Sums.is c.are_large_sums.ensures
