use Rattle.edit_language.proofs.FieldLaws.{few_codes}
use Rattle.edit_language.proofs.meaning.test_of.Goals as goal

pub code_set-requires : goal.code_set-requires
code_set-requires c = rw c.codes_of.ensures (few_codes c.args.fields.now c.in-Codes.field c.requires.fields)
