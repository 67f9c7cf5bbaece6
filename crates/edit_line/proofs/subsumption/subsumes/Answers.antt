use Rattle.std.proofs.Common.{◌≡◌, true}
use Rattle.edit_line.specs.Sets.{are_subsets}
use Rattle.edit_line.specs.Subsumption.{is_false, is_tighter, same_all}
use Rattle.edit_line.proofs.SubsumptionLaws.{subsumes-false, subsumes-follows, subsumes-tight}
use Rattle.edit_line.proofs.subsumption.subsumes.Goals as goal

pub returns-then-is_false-clause-follows : goal.returns-then-is_false-clause-follows
returns-then-is_false-clause-follows c =
    let a = c.args.a.now in
    let b = c.args.b.now in
    let lie : are_subsets b.sets a.sets ≡ true = cc (c.sets.ensures.sets, c.sets-2.ensures.sets) in
    let never : is_false a ≡ true = cc in λ shape _. subsumes-follows a b shape (subsumes-false a b lie never)

pub returns-then-is_tighter-clause-follows : goal.returns-then-is_tighter-clause-follows
returns-then-is_tighter-clause-follows c =
    let a = c.args.a.now in
    let b = c.args.b.now in
    let lie : are_subsets b.sets a.sets ≡ true = cc (c.sets.ensures.sets, c.sets-2.ensures.sets) in
    let tighter : is_tighter a b ≡ true = cc in
    λ shape equal.
    let same : same_all a.factors b.factors ≡ true = cc (c.factors.ensures.factors, c.factors-then-is_tighter.ensures.factors, equal) in
    subsumes-follows a b shape (subsumes-tight a b lie same tighter)
