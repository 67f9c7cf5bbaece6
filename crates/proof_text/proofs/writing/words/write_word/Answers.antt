use Rattle.std.proofs.Common.{◌∙◌}
use Rattle.std.proofs.Transfers.{starts_with_of_append, starts_with_of_eq}
use Rattle.proof_text.proofs.writing.words.write_word.Goals as goal

pub returns-in_err-push-clause-begins : goal.returns-in_err-push-clause-begins
returns-in_err-push-clause-begins c = starts_with_of_eq _ _ c.in_err-push.ensures.items

pub returns-in_err-extend_from_slice-clause-begins : goal.returns-in_err-extend_from_slice-clause-begins
returns-in_err-extend_from_slice-clause-begins c = starts_with_of_append _ _ _ (c.in_err-extend_from_slice.ensures.items ∙ c.in_ok-push.ensures.items)
