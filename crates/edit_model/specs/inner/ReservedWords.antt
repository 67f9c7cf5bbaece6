use Rattle.std.specs.Prelude.{ℕ, List, [], ◌∷◌, codes}

-- the words of the rule language with which a field is declared
abbrev pub field_words : List (List ℕ)
field_words = codes "number" ∷ codes "code" ∷ codes "weight" ∷ codes "scale" ∷ []

-- the words of the rule language with which a rule is written
abbrev pub rule_words : List (List ℕ)
rule_words = codes "in" ∷ codes "not" ∷ codes "if" ∷ codes "and" ∷ codes "then" ∷ []
