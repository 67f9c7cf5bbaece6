use Rattle.edit_model.proofs.check.linear.is_linear.Goals as goal

pub returns-else-has_terms : goal.returns-else-has_terms
returns-else-has_terms c = (λ told. absurd (cc), λ is. c.has_terms.ensures.1 (is.0, is.1))
