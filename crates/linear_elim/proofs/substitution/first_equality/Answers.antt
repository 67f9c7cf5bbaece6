use Rattle.std.proofs.Common.{◌∙◌, sym}
use Rattle.linear_elim.proofs.EqualityPlaces.{equality-found}
use Rattle.linear_elim.proofs.substitution.first_equality.Goals as goal

pub returns-then-determines-clause-some : goal.returns-then-determines-clause-some
returns-then-determines-clause-some c =
    equality-found c.args.given.now.column.field c.args.given.now.lines.now c.loop-place.place c.derived-item.result c.loop-place-test.true
    c.derived-item.is (sym c.determines.ensures ∙ c.if-determines.true) c.loop-place.invariant
