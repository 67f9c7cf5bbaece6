-- What a reader of tokens has still to give, and what one step of it gives.
use Rattle.std.specs.Prelude.{◌≡◌, ℕ, Bool, Option, Some, None, List, [], ◌∷◌}
use Rattle.rule_grammar.specs.Tokens.{Front, front_of}
use Rattle.rule_grammar.specs.inner.Fronts.{tokens_from}
use Rattle.rule_grammar.specs.declared.token.Token.{Token}

-- the token that was read ahead and those of the rest; where none was, the text has ended
abbrev pub left_of : Option Token → Bool → List ℕ → List Token
left_of None inside rest = []
left_of (Some token) inside rest = token ∷ tokens_from inside rest

-- the token at a front, and the text after it
abbrev pub IsFront : Front → Token → List ℕ → Type 0
IsFront front token rest = (token ≡ front.token) × (rest ≡ front.rest)

-- the token at the front of a text that begins with no blank, and the text after it
abbrev pub IsFrontOf : Bool → List ℕ → Token → List ℕ → Type 0
IsFrontOf inside [] token rest = ⊥
IsFrontOf inside (b ∷ bs) token rest = IsFront (front_of inside b bs) token rest
