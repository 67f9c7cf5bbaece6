use Rattle.std.proofs.Common.{◌≡◌, List, Some, map, slice_get, subst, sym}
use Rattle.edit_line.specs.Lines.{LineParts}
use Rattle.derivation.specs.Premises.{usable_lines}
use Rattle.redundancy.specs.NeededLines.{CanFail}
use Rattle.derivation.specs.Refutations.{left_at}
use Rattle.redundancy.specs.Verdicts.{keeps_line}
use Rattle.pruned_rules.proofs.pruned.prune_rules.Goals as goal

pub returns-clause-needed : goal.returns-clause-needed
returns-clause-needed c = λ j line at told.
    subst (λ (ls : List LineParts). CanFail c.args.survey.now.fields (usable_lines ls (left_at (map keeps_line c.in_ok-verdicts.verdicts.items) j)) line)
    c.deref.ensures.value
    (c.in_ok-verdicts.ensures.needed j line (subst (λ (ls : List LineParts). slice_get ls j ≡ Some line) (sym c.deref.ensures.value) at) told)
