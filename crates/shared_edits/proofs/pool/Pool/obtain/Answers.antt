use Rattle.std.proofs.Common.{arith, refl}
use Rattle.linear_elim.proofs.ExtensionLaws.{pairs-first}
use Rattle.shared_edits.proofs.FindLaws.{stored-knows, unknown-before}
use Rattle.shared_edits.proofs.pool.Pool.obtain.Goals as goal

pub returns-in_err-share-clause-onwards : goal.returns-in_err-share-clause-onwards
returns-in_err-share-clause-onwards g c = λ first firsts knows. let part = pairs-first first c.args.fields firsts c.args.self.now.edits in omega (arith, part)

pub returns-in-Some-clause-onwards : goal.returns-in-Some-clause-onwards
returns-in-Some-clause-onwards g c = λ first firsts knows. let part = pairs-first first c.args.fields firsts c.args.self.now.edits in omega (arith, part)

pub returns-in_err-publish_or_keep-in-Ok-clause-onwards : goal.returns-in_err-publish_or_keep-in-Ok-clause-onwards
returns-in_err-publish_or_keep-in-Ok-clause-onwards g c = λ first firsts knows.
    let stored = stored-knows c.args.self.now first c.args.reader.now c.find.new.reader c.reader.inside.walked c.find.ensures.walked c.reader.view_is knows in
    c.make.ensures.onwards first firsts stored

pub returns-in_ok-publish_or_keep-in-Ok-clause-onwards : goal.returns-in_ok-publish_or_keep-in-Ok-clause-onwards
returns-in_ok-publish_or_keep-in-Ok-clause-onwards g c = λ first firsts knows.
    let stored = stored-knows c.args.self.now first c.args.reader.now c.find.new.reader c.reader.inside.walked c.find.ensures.walked c.reader.view_is knows in
    c.make.ensures.onwards first firsts stored

pub returns-in-Err-clause-onwards : goal.returns-in-Err-clause-onwards
returns-in-Err-clause-onwards g c = λ first firsts knows.
    let stored = stored-knows c.args.self.now first c.args.reader.now c.find.new.reader c.reader.inside.walked c.find.ensures.walked c.reader.view_is knows in
    c.make.ensures.onwards first firsts stored

pub returns-in_err-publish_or_keep-in-Ok-clause-known : goal.returns-in_err-publish_or_keep-in-Ok-clause-known
returns-in_err-publish_or_keep-in-Ok-clause-known g c = λ knows.
    absurd (unknown-before c.args.self.now c.args.fields c.args.fields c.args.reader.now c.find.new.reader c.find.ensures.walked refl c.in_default.ensures.none
    knows)

pub returns-in_ok-publish_or_keep-in-Ok-clause-known : goal.returns-in_ok-publish_or_keep-in-Ok-clause-known
returns-in_ok-publish_or_keep-in-Ok-clause-known g c = λ knows.
    absurd (unknown-before c.args.self.now c.args.fields c.args.fields c.args.reader.now c.find.new.reader c.find.ensures.walked refl c.in_default.ensures.none
    knows)

pub returns-in-Err-clause-known : goal.returns-in-Err-clause-known
returns-in-Err-clause-known g c = λ knows.
    absurd (unknown-before c.args.self.now c.args.fields c.args.fields c.args.reader.now c.find.new.reader c.find.ensures.walked refl c.in_default.ensures.none
    knows)
