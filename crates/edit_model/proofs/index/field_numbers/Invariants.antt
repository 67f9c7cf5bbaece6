use Rattle.std.proofs.Common.{◌≡◌, ◌++◌, drop}
use Rattle.edit_model.specs.Corrections.{numbers_from}
use Rattle.edit_model.specs.inner.Indexes.{is_of_sort}
use Rattle.edit_model.proofs.index.field_numbers.Given as goal

abbrev pub invariant-loop-i : goal.invariant-loop-i
invariant-loop-i l = l.numbers.items ++ numbers_from (is_of_sort l.numerical) l.i (drop l.i l.fields) ≡ numbers_from (is_of_sort l.numerical) 0 l.fields
