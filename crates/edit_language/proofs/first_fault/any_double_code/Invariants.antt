use Rattle.std.proofs.Common.{◌≡◌, drop}
use Rattle.std.specs.List.{list_any}
use Rattle.edit_language.specs.Faults.{has_double_code}
use Rattle.edit_language.proofs.first_fault.any_double_code.Given as goal

abbrev pub invariant-loop-test : goal.invariant-loop-test
invariant-loop-test l = list_any has_double_code l.tests ≡ list_any has_double_code (drop l.test-index l.tests)
