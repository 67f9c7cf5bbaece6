use Rattle.back_subst.specs.Allowed.{AllowsNumber}
use Rattle.back_subst.proofs.ValueLaws.{ends-are, open-interval, taken-where}
use Rattle.back_subst.proofs.laws.value_laws.Goals as goal

pub returns-clause-interval : goal.returns-clause-interval
returns-clause-interval c survey edits row f left p is = open-interval survey edits row f left p is

pub returns-clause-ends : goal.returns-clause-ends
returns-clause-ends c survey row left f i x exact above there = ends-are (AllowsNumber survey row left f) i x exact above there

pub returns-clause-taken : goal.returns-clause-taken
returns-clause-taken c survey row left f target x y target_above x_above y_above there given =
    taken-where (AllowsNumber survey row left f) target x y target_above x_above y_above there given
