use Rattle.std.proofs.Common.{◌≡◌, drop}
use Rattle.page_markup.specs.OpenPages.{added}
use Rattle.page_sections.specs.ValueSection.{values_from}
use Rattle.page_sections.proofs.values.push_fields.Given as goal

abbrev pub invariant-loop-i : goal.invariant-loop-i
invariant-loop-i l = added (values_from l.fields l.i (drop l.i l.values)) l.page ≡ added (values_from l.fields 0 l.values) l.initial.page
