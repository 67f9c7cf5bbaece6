use Rattle.std.proofs.Common.{FitsSigned, rules, sym, subst}
use Rattle.std.proofs.lemmas.Int.{to_z-of_z}
use mir.Syntax.{w128}
use Rattle.edit_line.specs.Lines.{IsLine, LineParts, parts_of}
use Rattle.edit_line.specs.Domains.{domains}
use Rattle.edit_line.proofs.DivisionLaws.{IsLine-divided, divided-is}
use Rattle.edit_line.proofs.line.Line.divide_by.Goals as goal

pub invariant_of-self : goal.invariant_of-self
invariant_of-self c =
    let inside = c.self.inside in
    let constant_fits : FitsSigned w128 inside.constant = search rules in
    let quotient_fits : FitsSigned w128 c.quotient-self-inside.result = search rules in
    let line = parts_of (domains inside.shape) inside.sets.items inside.factors.items inside.constant inside.relation in
    let is =
    divided-is line c.args.divisor _ c.divide_all.new.numbers.items _ c.quotient-self-inside.result _
    (to_z-of_z w128 c.args.divisor c.ranges.divisor) (to_z-of_z w128 inside.constant constant_fits) c.divide_all.ensures c.quotient-self-inside.ensures
    (to_z-of_z w128 c.quotient-self-inside.result quotient_fits) in
    subst (λ (l : LineParts). IsLine l) (sym is) (IsLine-divided line c.args.divisor c.requires c.self.invariant)
