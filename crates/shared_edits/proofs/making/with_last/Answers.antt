use Rattle.std.proofs.Common.{◌≡◌, ◌∙◌, IfOk, ap, arith, subst, sym, ℕ}
use Rattle.edit_model.specs.FieldSets.{with_number}
use Rattle.linear_elim.specs.Answers.{Answers}
use Rattle.linear_elim.specs.LastFields.{IsPast}
use Rattle.linear_elim.specs.Systems.{pairs_at, system_at}
use Rattle.linear_elim.specs.Told.{told_system}
use Rattle.linear_elim.proofs.ExtensionLaws.{last-past, last-with}
use Rattle.shared_edits.proofs.making.with_last.Given as given
use Rattle.shared_edits.proofs.making.with_last.Goals as goal

pub extend-requires-clause-past : goal.extend-requires-clause-past
extend-requires-clause-past g c = subst (λ (set : ℕ). IsPast set c.args.last) (sym c.requires.others) (last-past c.args.fields c.args.last c.requires.last)

-- the fields with the last one are the set
module _ (g : given.Over) (c : goal.After-extend g) where
  whole : with_number c.args.others.now.fields c.args.last ≡ c.args.fields
  whole = ap (λ (set : ℕ). with_number set c.args.last) c.requires.others ∙ last-with c.args.fields c.args.last c.requires.last

pub returns-clause-fields : goal.returns-clause-fields
returns-clause-fields g c = subst (λ (set : ℕ). IfOk c.extend.result (λ system. system.fields ≡ set)) (whole g c) c.extend.ensures.fields

pub returns-clause-exact : goal.returns-clause-exact
returns-clause-exact g c = subst (λ (set : ℕ). Answers (λ system. system.lines) told_system c.extend.result (system_at c.args.others.now.edits set)) (whole g c)
    c.extend.ensures.exact

pub returns-clause-few : goal.returns-clause-few
returns-clause-few g c =
    let edits = c.args.others.now.edits in
    let more = ap (λ (set : ℕ). pairs_at edits set) (whole g c) in
    let before = ap (λ (set : ℕ). pairs_at edits set) c.requires.others in
    omega (arith, more, before, c.extend.ensures.few, c.extend.ensures.pairs)
