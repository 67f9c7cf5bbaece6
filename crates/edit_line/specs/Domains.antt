-- A shape, as contracts see it.
use Rattle.std.specs.Prelude.{List}
use Rattle.edit_line.specs.Shapes.{Domain, domains_of}
use Rattle.edit_line.specs.declared.shape.Shape.{Shape}

-- the domains of the fields of a shape, in declared order
abbrev pub domains : Shape → List Domain
domains shape = domains_of shape.count shape.codes
