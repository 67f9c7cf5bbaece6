use Rattle.std.proofs.Common.{subst, sym}
use Rattle.linear_elim.specs.Steps.{made_with}
use Rattle.linear_elim.specs.Told.{told_step}
use Rattle.linear_elim.specs.inner.Taken.{TakesIn}
use Rattle.edit_line.proofs.ListPlaces.{whole-at}
use Rattle.linear_elim.proofs.EqualityPlaces.{equality-at, equality-below, equality-read}
use Rattle.linear_elim.proofs.substitution.take_substitutions.Goals as goal

pub take_each-requires-clause-equality : goal.take_each-requires-clause-equality
take_each-requires-clause-equality g c =
    let f = c.args.given.now.column.field in
    let lines = c.args.given.now.lines.now in
    let found = equality-read f lines c.args.place c.requires.first c.in-Some.derived.now c.in-Some.ensures.lookup.3.0 c.in-Some.ensures.lookup.1 in
    (equality-at f lines 0 lines (c.args.place, c.in-Some.derived.now) (whole-at lines) found).1

pub returns-in-None-clause-exact : goal.returns-in-None-clause-exact
returns-in-None-clause-exact g c =
    absurd (equality-below c.args.given.now.column.field c.args.given.now.lines.now c.args.place c.requires.first c.in-None.ensures.lookup.3)

pub returns-in-None-clause-counted : goal.returns-in-None-clause-counted
returns-in-None-clause-counted g c =
    absurd (equality-below c.args.given.now.column.field c.args.given.now.lines.now c.args.place c.requires.first c.in-None.ensures.lookup.3)

pub returns-in-Some-clause-exact : goal.returns-in-Some-clause-exact
returns-in-Some-clause-exact g c =
    let f = c.args.given.now.column.field in
    let lines = c.args.given.now.lines.now in
    let found = equality-read f lines c.args.place c.requires.first c.in-Some.derived.now c.in-Some.ensures.lookup.3.0 c.in-Some.ensures.lookup.1 in
    subst (λ o. TakesIn told_step c.args.work.now.kept c.take_each.new.work.kept c.take_each.result (made_with o lines f)) (sym found) c.take_each.ensures.exact
