use Rattle.std.proofs.Common.{◌≡◌, take}
use Rattle.page_counts.specs.Fields.{change_count}
use Rattle.reason_lines.specs.declared.entry.How.TheVariants.{Default, Donor, Nearest}
use Rattle.page_counts.proofs.fields.field_count.Given as goal

abbrev pub invariant-loop-change : goal.invariant-loop-change
invariant-loop-change l = record {
  donor : l.count.donor ≡ change_count Donor l.field (take l.change-index l.changes);
  nearest : l.count.nearest ≡ change_count Nearest l.field (take l.change-index l.changes);
  default : l.count.default ≡ change_count Default l.field (take l.change-index l.changes);
}
