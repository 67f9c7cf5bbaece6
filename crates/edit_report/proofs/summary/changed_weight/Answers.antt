use Rattle.edit_report.proofs.summary.changed_weight.Goals as goal

pub path_weight-requires : goal.path_weight-requires
path_weight-requires c = (rw c.in-Some.is at c.requires).short
