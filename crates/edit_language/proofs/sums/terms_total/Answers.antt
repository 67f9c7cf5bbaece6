use Rattle.std.proofs.Common.{◌+ℤ◌, ◌^◌, ◌<◌, length, ap, ◌∙◌, FitsSigned, rules}
use Rattle.std.proofs.lemmas.Int.{to_z-of_z}
use Rattle.std.specs.Option.{option_map}
use mir.Syntax.{w128}
use Rattle.rule_grammar.specs.declared.statement.SignedTerm.{SignedTerm}
use Rattle.edit_language.specs.Faults.{is_large_term}
use Rattle.edit_language.specs.Meaning.{signed}
use Rattle.edit_language.proofs.FieldLaws.{fails_at}
use Rattle.edit_language.proofs.SumLaws.{parts_more, size_more, sum_fits}
use Rattle.edit_language.proofs.sums.terms_total.Goals as goal

pub part_in-requires : goal.part_in-requires
part_in-requires c =
    fails_at (λ (t : SignedTerm). is_large_term t.term)
    c.args.terms.now c.loop-term.term-index c.term-item.result c.requires c.loop-term-test.true c.term-item.is

pub loop-term-preserved : goal.loop-term-preserved
loop-term-preserved c =
    let name = option_map (λ n. n.now) c.args.name in
    let terms = c.args.terms.now in
    let i = c.loop-term.term-index in
    let total = c.loop-term.total in
    let part = c.signed_number-total.result in
    let before = rw c.loop-term.total-is at c.loop-term.invariant in
    let part_fits : FitsSigned w128 part = search rules in
    let few : length terms < 2 ^ 64 = search rules in
    let size = size_more i total part _ before.1 c.signed_number-total.ensures.size c.part_in.ensures.size in
    let fits : FitsSigned w128 (total +ℤ part) = sum_fits _ i (length terms) size c.loop-term-test.true few in
    let is = c.signed_number-total.ensures.value ∙ ap (signed c.term-item.result.sign) c.part_in.ensures.value in
    let more = parts_more name terms i c.term-item.result _ total part c.loop-term-test.true c.term-item.is is before.0 in
    rw (c.loop-term.total-is) (simp to_z-of_z (more, size))
