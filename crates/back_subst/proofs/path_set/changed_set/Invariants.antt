use Rattle.back_subst.proofs.PathSetLaws.{IsReadTo}
use Rattle.back_subst.proofs.path_set.changed_set.Given as goal

abbrev pub invariant-loop-place : goal.invariant-loop-place
invariant-loop-place l = IsReadTo l.survey.fields l.path l.place l.changed
