use Rattle.std.proofs.Common.{◌≡◌, map, take}
use Rattle.edit_language.specs.Meaning.{test_of}
use Rattle.edit_language.proofs.meaning.tests_of.Given as goal

abbrev pub invariant-loop-test : goal.invariant-loop-test
invariant-loop-test l = l.made.items ≡ map (λ t. test_of l.fields t) (take l.test-index l.tests)
