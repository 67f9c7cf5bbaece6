-- What one step of a reader of tokens shows of the tokens of its text.
use Rattle.std.proofs.Common.{◌≡◌, refl, ℕ, Bool, List, [], ◌∷◌}
use Rattle.rule_grammar.proofs.TokenSteps.{tokens_from_step}
use Rattle.rule_grammar.specs.inner.Cursors.{IsFrontOf}
use Rattle.rule_grammar.specs.Tokens.{after_blanks, is_inside_after, with_front}
use Rattle.rule_grammar.specs.inner.Fronts.{tokens_from}
use Rattle.rule_grammar.specs.declared.token.Token.{Token}

front_is_first : (inside : Bool) (after : List ℕ) (t : Token) (rest : List ℕ) → IsFrontOf inside after t rest
    → with_front inside after tokens_from ≡ t ∷ tokens_from (is_inside_after inside t) rest
front_is_first inside [] t rest front = absurd front
front_is_first inside (b ∷ bs) t rest front = rw (front.0, front.1) refl

-- the token at the front of what follows the blanks is the first, and the others are those of the rest
pub first_token : (i inside : Bool) (text after : List ℕ) (t : Token) (rest : List ℕ) → i ≡ inside → after ≡ after_blanks text → IsFrontOf inside after t rest
    → tokens_from i text ≡ t ∷ tokens_from (is_inside_after i t) rest
first_token i inside text after t rest same skipped front =
    rw (same, tokens_from_step inside text) (rw (← skipped) (front_is_first inside after t rest front))
