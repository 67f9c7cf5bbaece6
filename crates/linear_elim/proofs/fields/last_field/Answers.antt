use Rattle.std.proofs.Common.{◌≤◌, ◌∙◌, List, ap, arith, length}
use Rattle.std.proofs.lemmas.List.{length-map}
use Rattle.edit_line.specs.Shapes.{Domain, domain_with}
use Rattle.linear_elim.proofs.ExtensionLaws.{last-found, none-found}
use Rattle.linear_elim.proofs.fields.last_field.Goals as goal

-- the loop ends at the shape's end, or behind it
module _ (c : goal.After-loop-field) where
  whole : length c.args.edits.now.shape ≤ c.loop-field.field
  whole =
      let as_many = ap (λ (s : List Domain). length s) (c.code_counts.ensures.domains ∙ c.shape-shape.ensures) in
      let mapped = length-map c.code_counts.result.now domain_with in
      omega (arith, as_many, mapped, c.loop-field-test.false, c.code_counts.ensures.few)

pub returns-clause-some : goal.returns-clause-some
returns-clause-some c = last-found c.args.edits.now.shape c.args.fields c.loop-field.field c.requires (whole c) c.loop-field.last c.loop-field.invariant.0

pub returns-clause-none : goal.returns-clause-none
returns-clause-none c = none-found c.args.edits.now.shape c.args.fields c.loop-field.field c.requires (whole c) c.loop-field.last c.loop-field.invariant.1
