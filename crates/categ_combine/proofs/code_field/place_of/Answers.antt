use Rattle.std.proofs.Common.{◌∙◌, arith}
use Rattle.edit_line.proofs.CodeCounts.{field-within, place_of-is}
use Rattle.categ_combine.proofs.code_field.place_of.Goals as goal

pub code_fields_before-requires : goal.code_fields_before-requires
code_fields_before-requires c = let within = field-within _ c.code_counts.result.now c.args.field c.code_counts.ensures.domains c.requires in omega
    (arith, within)

pub returns : goal.returns
returns c = c.code_fields_before.ensures ∙ place_of-is _ c.code_counts.result.now c.args.field c.code_counts.ensures.domains c.requires
