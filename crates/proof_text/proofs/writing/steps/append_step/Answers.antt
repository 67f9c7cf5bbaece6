use Rattle.std.proofs.Transfers.{starts_with_of_append, starts_with_of_eq, starts_with_trans}
use Rattle.proof_text.proofs.writing.steps.append_step.Goals as goal

pub returns-in_err-extend_from_slice-in-Given-clause-begins : goal.returns-in_err-extend_from_slice-in-Given-clause-begins
returns-in_err-extend_from_slice-in-Given-clause-begins c =
    starts_with_of_eq _ _ c.in_err-extend_from_slice-in-Given.ensures.items

pub returns-in_ok-extend_from_slice-in-Given-clause-begins : goal.returns-in_ok-extend_from_slice-in-Given-clause-begins
returns-in_ok-extend_from_slice-in-Given-clause-begins c =
    starts_with_trans _ _ _ c.write_named.ensures.begins (starts_with_of_append _ _ _ c.in_ok-extend_from_slice-in-Given.ensures.items)

pub returns-in_err-extend_from_slice-in-Fail-clause-begins : goal.returns-in_err-extend_from_slice-in-Fail-clause-begins
returns-in_err-extend_from_slice-in-Fail-clause-begins c =
    starts_with_of_eq _ _ c.in_err-extend_from_slice-in-Fail.ensures.items

pub returns-in_ok-extend_from_slice-in-Fail-clause-begins : goal.returns-in_ok-extend_from_slice-in-Fail-clause-begins
returns-in_ok-extend_from_slice-in-Fail-clause-begins c =
    starts_with_trans _ _ _ c.write_named-in-Fail.ensures.begins (starts_with_of_append _ _ _ c.in_ok-extend_from_slice-in-Fail.ensures.items)

pub returns-in_err-extend_from_slice-in-Fix-clause-begins : goal.returns-in_err-extend_from_slice-in-Fix-clause-begins
returns-in_err-extend_from_slice-in-Fix-clause-begins c =
    starts_with_of_eq _ _ c.in_err-extend_from_slice-in-Fix.ensures.items

pub returns-in_err-write_named-in-Fix-clause-begins : goal.returns-in_err-write_named-in-Fix-clause-begins
returns-in_err-write_named-in-Fix-clause-begins c =
    starts_with_trans _ _ _ c.write_named-in-Fix.ensures.begins (starts_with_of_append _ _ _ c.in_ok-extend_from_slice-in-Fix.ensures.items)

pub returns-in_ok-write_named-in-Fix-clause-begins : goal.returns-in_ok-write_named-in-Fix-clause-begins
returns-in_ok-write_named-in-Fix-clause-begins c =
    starts_with_trans _ _ _ c.write_named-in-Fix-2.ensures.begins
    (starts_with_trans _ _ _ c.write_named-in-Fix.ensures.begins (starts_with_of_append _ _ _ c.in_ok-extend_from_slice-in-Fix.ensures.items))
