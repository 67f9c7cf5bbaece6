use Rattle.derivation.proofs.FieldNumbers.{code-small}
use Rattle.derivation.proofs.fixing.is_kept.Goals as goal

pub has-requires : goal.has-requires
has-requires c = code-small c.args.basis.now.survey.now.fields c.args.field c.fields-fields.ensures.well_formed.few_fields c.requires
