-- What the terms of a sum add to a field's factor, or to the constant.
use Rattle.std.specs.Prelude.{ℕ, ℤ, Option, Some, None, List, [], ◌∷◌, ◌++◌, pos, ◌+ℤ◌, ◌-ℤ◌, if◌then◌else◌}
use Rattle.std.specs.Ordering.{int_eq}
use Rattle.edit_model.specs.declared.rule.Term.{Term}
use Rattle.rule_grammar.specs.declared.statement.SignedTerm.{SignedTerm}
use Rattle.rule_grammar.specs.declared.statement.SumText.{SumText}
use Rattle.rule_grammar.specs.declared.statement.TermText.{TermText}
use Rattle.edit_language.specs.Meaning.{constant_in, factor_in, signed, terms_of}

-- what a term is to the field with this name, or to the constant where no name is asked for
abbrev pub part_in : Option (List ℕ) → TermText → ℕ
part_in None t = constant_in t
part_in (Some name) t = factor_in name t

-- what all terms are to the field, or to the constant, added up with their signs
abbrev pub parts_added : Option (List ℕ) → List SignedTerm → ℤ
parts_added name [] = pos 0
parts_added name (t ∷ ts) = signed t.sign (part_in name t.term) +ℤ parts_added name ts

-- what the left side adds to the field's factor, or to the constant, less what the right side does
abbrev pub parts_moved : Option (List ℕ) → SumText → SumText → ℤ
parts_moved name left right = parts_added name (terms_of left) -ℤ parts_added name (terms_of right)

-- the terms, and behind them that of this field where its factor is not 0
abbrev pub with_term : List Term → ℕ → ℤ → List Term
with_term terms field factor = if int_eq factor (pos 0) then terms else terms ++ record { field = field; factor = factor } ∷ []
