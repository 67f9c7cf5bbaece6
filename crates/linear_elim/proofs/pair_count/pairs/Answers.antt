use Rattle.std.proofs.Common.{◌∙◌, ap, length, sym}
use Rattle.edit_line.specs.Reductions.{lines_of}
use Rattle.linear_elim.specs.Steps.{count_with, made}
use Rattle.linear_elim.proofs.CountLaws.{pairs-are}
use Rattle.linear_elim.proofs.EqualityPlaces.{equality-count}
use Rattle.linear_elim.proofs.pair_count.pairs.Goals as goal

pub returns-in-Some-first_equality-clause-made : goal.returns-in-Some-first_equality-clause-made
returns-in-Some-first_equality-clause-made c =
    let lines = c.args.lines.now in
    let field = c.of-column.ensures.field in
    let counted = c.substitutions.ensures ∙ sym (equality-count c.of-column.result.field lines c.in-Some-first_equality.place
    c.in-Some-first_equality.ensures.some) in
    counted ∙ pairs-are lines c.of-column.result.field ∙ ap (λ f. length (made (lines_of lines) f)) field

pub returns-in-None-clause-made : goal.returns-in-None-clause-made
returns-in-None-clause-made c =
    let lines = c.args.lines.now in
    let counted = c.opposite_pairs.ensures ∙ ap (λ o. count_with o lines c.of-column.result.field) (sym c.in-None.ensures.none) in
    counted ∙ pairs-are lines c.of-column.result.field ∙ ap (λ f. length (made (lines_of lines) f)) c.of-column.ensures.field
