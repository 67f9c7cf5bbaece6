use Rattle.std.proofs.Common.{◌≡◌, All}
use Rattle.edit_model.specs.Surveys.{IsField}
use Rattle.certificate_bench.specs.inner.Cases.{fields_of}
use Rattle.certificate_bench.proofs.verdict.survey_of.Given as goal

abbrev pub invariant-loop-i : goal.invariant-loop-i
invariant-loop-i l = (l.fields.items ≡ fields_of l.i) × All IsField l.fields.items
