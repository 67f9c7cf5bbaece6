-- The weight that a declaration gives.
use Rattle.std.specs.Prelude.{Option}
use Rattle.rule_grammar.specs.declared.statement.Declaration.{Declaration as Declared}
use Rattle.rule_grammar.specs.declared.statement.Declaration.TheVariants as declaration
use Rattle.rule_grammar.specs.declared.token.Numeral.{Numeral}

-- the weight as it is written
abbrev pub weight_of : Declared → Option Numeral
weight_of (declaration.Number name weight scale) = weight
weight_of (declaration.Code name weight list) = weight
