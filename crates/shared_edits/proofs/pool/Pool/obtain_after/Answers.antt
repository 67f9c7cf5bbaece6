use Rattle.std.proofs.Common.{refl}
use Rattle.edit_model.specs.FieldSets.{with_number}
use Rattle.shared_edits.proofs.FindLaws.{unknown-before}
use Rattle.shared_edits.proofs.pool.Pool.obtain_after.Goals as goal

pub returns-in_err-share-clause-known : goal.returns-in_err-share-clause-known
returns-in_err-share-clause-known g c = λ _. refl

pub returns-in-Some-clause-known : goal.returns-in-Some-clause-known
returns-in-Some-clause-known g c = λ _. refl

pub returns-in_err-publish_or_keep-in-Ok-clause-known : goal.returns-in_err-publish_or_keep-in-Ok-clause-known
returns-in_err-publish_or_keep-in-Ok-clause-known g c = λ knows.
    absurd (unknown-before c.args.self.now (with_number c.args.before.now.fields c.args.field) c.fields_with.result c.args.reader.now c.find.new.reader
    c.find.ensures.walked
    c.fields_with.ensures c.in_default.ensures.none knows)

pub returns-in_ok-publish_or_keep-in-Ok-clause-known : goal.returns-in_ok-publish_or_keep-in-Ok-clause-known
returns-in_ok-publish_or_keep-in-Ok-clause-known g c = λ knows.
    absurd (unknown-before c.args.self.now (with_number c.args.before.now.fields c.args.field) c.fields_with.result c.args.reader.now c.find.new.reader
    c.find.ensures.walked
    c.fields_with.ensures c.in_default.ensures.none knows)

pub returns-in-Err-clause-known : goal.returns-in-Err-clause-known
returns-in-Err-clause-known g c = λ knows.
    absurd (unknown-before c.args.self.now (with_number c.args.before.now.fields c.args.field) c.fields_with.result c.args.reader.now c.find.new.reader
    c.find.ensures.walked
    c.fields_with.ensures c.in_default.ensures.none knows)
