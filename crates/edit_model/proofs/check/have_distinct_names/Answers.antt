use Rattle.std.proofs.Common.{◌≡◌, ◌≢◌, ◌∙◌, All, List, ℕ, rules, subst, true}
use Rattle.edit_model.specs.declared.field.Field.{Field}
use Rattle.edit_model.proofs.FieldNames.{distinct_more, names_more, new_field, still_new}
use Rattle.edit_model.proofs.check.have_distinct_names.Goals as goal

pub returns-then-not-branch : goal.returns-then-not-branch
returns-then-not-branch c = (
  λ no_truth. search rules,
  λ distinct.
      let there = rw c.if-not-branch.true at c.in_ok-insert.ensures in
      absurd (there (still_new c.args.fields.now c.loop-field.field-index c.loop-field.names c.field-item.result c.loop-field-test.true
      c.loop-field.invariant.names c.field-item.is distinct)),
)

pub loop-field-preserved : goal.loop-field-preserved
loop-field-preserved c =
    let new : c.in_ok-insert.field-0 ≡ true = search rules in
    let put = rw new at c.in_ok-insert.ensures in
    let names = c.loop-field.invariant.names in
    record {
      names = put.0 ∙ names_more c.args.fields.now c.loop-field.field-index c.loop-field.names c.field-item.result c.loop-field-test.true names
          c.field-item.is;
      distinct =
          distinct_more (λ (f : Field). f.name) c.args.fields.now c.loop-field.field-index c.field-item.result c.loop-field-test.true c.field-item.is
          c.loop-field.invariant.distinct (new_field _ c.field-item.result.name (subst (λ (ns : List (List ℕ)). All (λ n. n ≢ c.field-item.result.name) ns)
          names put.1));
    }
