use Rattle.std.proofs.Transfers.{starts_with_of_append, starts_with_of_eq, starts_with_trans}
use Rattle.std.proofs.Common.{FitsSigned, rules}
use Rattle.std.proofs.lemmas.Int.{to_z-of_z}
use mir.Syntax.{w128}
use Rattle.std.specs.Fmt.{signed_decimal}
use Rattle.bound_cert.specs.Paths.{named}
use Rattle.proof_text.proofs.PartTexts.{combine-words}
use Rattle.proof_text.proofs.writing.steps.write_combine.Goals as goal

pub returns-clause-text : goal.returns-clause-text
returns-clause-text c =
    let m_fits : FitsSigned w128 c.args.m = search rules in
    let n_fits : FitsSigned w128 c.args.n = search rules in
    let g_fits : FitsSigned w128 c.args.g = search rules in
    let first = simp to_z-of_z at c.in_ok-write_multiple.ensures.text in
    let second = simp to_z-of_z at c.in_ok-write_multiple-2.ensures.text in
    let third = simp to_z-of_z at c.in_ok-write_signed.ensures.text in
    combine-words c.args.text.now.items c.extend_from_slice.new.self.items c.write_multiple.new.text.items c.write_multiple-2.new.text.items
    c.write_signed.new.text.items
    (named c.args.a) (signed_decimal c.args.m) (named c.args.b) (signed_decimal c.args.n) (signed_decimal c.args.g)
    c.in_ok-extend_from_slice.ensures.items first second third

pub returns-in_err-extend_from_slice-clause-begins : goal.returns-in_err-extend_from_slice-clause-begins
returns-in_err-extend_from_slice-clause-begins c = starts_with_of_eq _ _ c.in_err-extend_from_slice.ensures.items

pub returns-in_err-write_multiple-clause-begins : goal.returns-in_err-write_multiple-clause-begins
returns-in_err-write_multiple-clause-begins c =
    starts_with_trans _ _ _ c.write_multiple.ensures.begins (starts_with_of_append _ _ _ c.in_ok-extend_from_slice.ensures.items)

pub returns-in_err-write_multiple-2-clause-begins : goal.returns-in_err-write_multiple-2-clause-begins
returns-in_err-write_multiple-2-clause-begins c =
    starts_with_trans _ _ _ c.write_multiple-2.ensures.begins
    (starts_with_trans _ _ _ c.write_multiple.ensures.begins (starts_with_of_append _ _ _ c.in_ok-extend_from_slice.ensures.items))

pub returns-in_err-write_signed-clause-begins : goal.returns-in_err-write_signed-clause-begins
returns-in_err-write_signed-clause-begins c =
    starts_with_trans _ _ _ c.write_signed.ensures.begins
    (starts_with_trans _ _ _ c.write_multiple-2.ensures.begins
    (starts_with_trans _ _ _ c.write_multiple.ensures.begins (starts_with_of_append _ _ _ c.in_ok-extend_from_slice.ensures.items)))

pub returns-clause-begins : goal.returns-clause-begins
returns-clause-begins c =
    starts_with_trans _ _ _ c.write_signed.ensures.begins
    (starts_with_trans _ _ _ c.write_multiple-2.ensures.begins
    (starts_with_trans _ _ _ c.write_multiple.ensures.begins (starts_with_of_append _ _ _ c.in_ok-extend_from_slice.ensures.items)))
