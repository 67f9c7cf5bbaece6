use Rattle.std.proofs.Common.{IfOk, List, OnOk, ap, arith, subst, sym, true, ◌∙◌, ◌≡◌, ℕ}
use Rattle.edit_model.specs.FieldSets.{set_of, with_number}
use Rattle.edit_line.specs.EditSets.{EditsParts, edits_of}
use Rattle.edit_line.specs.Shapes.{Domain, IsNumerical}
use Rattle.linear_elim.specs.Answers.{Answers}
use Rattle.linear_elim.specs.Helds.{system_held}
use Rattle.linear_elim.specs.LastFields.{IsPast}
use Rattle.linear_elim.specs.Systems.{system_at, system_of}
use Rattle.linear_elim.specs.Told.{told_system}
use Rattle.edit_paths.proofs.LetterLaws.{count-kinds}
use Rattle.edit_paths.specs.Paths.{changed_numbers}
use Rattle.path_walk.specs.Bases.{path_system}
use Rattle.path_walk.specs.Problems.{case_in, edits_in}
use Rattle.path_walk.proofs.NextFields.{next-numerical, next-past, next-set, set-chosen}
use Rattle.path_walk.proofs.NumberPathLaws.{answered-system}
use Rattle.path_walk.proofs.number_paths.changed_system.Given as given
use Rattle.path_walk.proofs.number_paths.changed_system.Goals as goal

pub overflow_cast-letters : goal.overflow_cast-letters
overflow_cast-letters g c = omega (arith, c.requires.fit, count-kinds (case_in c.args.problem.now), c.requires.problem.few)

pub path_field-field-requires : goal.path_field-field-requires
path_field-field-requires g c = omega (arith, c.requires.fit, count-kinds (case_in c.args.problem.now), c.requires.some)

pub system_after-requires-clause-numerical : goal.system_after-requires-clause-numerical
system_after-requires-clause-numerical g c =
    let numerical = next-numerical (case_in c.args.problem.now) c.args.letters.now c.requires.some c.requires.fit c.requires.changed
    c.path_field-field.result c.path_field-field.ensures.field in
    subst (λ (shape : List Domain). IsNumerical shape c.path_field-field.result)
    (sym (ap (λ (e : EditsParts). e.shape) c.requires.edits ∙ c.requires.problem.shape)) numerical

pub system_after-requires-clause-past : goal.system_after-requires-clause-past
system_after-requires-clause-past g c =
    let past = next-past (case_in c.args.problem.now) c.args.letters.now c.requires.some c.requires.fit c.requires.changed c.path_field-field.result
    c.path_field-field.ensures.field in
    subst (λ (set : ℕ). IsPast set c.path_field-field.result) (sym c.requires.fields) past

-- the set that is asked is that of the changed numerical fields, and its system the path's
module _ (g : given.Over) (c : goal.After-system_after g) where
  set_is : with_number c.args.before.now.fields c.path_field-field.result ≡ set_of (changed_numbers (case_in c.args.problem.now) c.args.letters.now)
  set_is =
      ap (λ (set : ℕ). with_number set c.path_field-field.result) c.requires.fields
      ∙ next-set (case_in c.args.problem.now) c.args.letters.now c.requires.some c.requires.fit c.requires.changed c.path_field-field.result
      c.path_field-field.ensures.field

  system_is : system_at c.args.before.now.edits (with_number c.args.before.now.fields c.path_field-field.result)
      ≡ path_system (case_in c.args.problem.now) c.args.letters.now
  system_is =
      let case = case_in c.args.problem.now in
      ap (λ (e : EditsParts). system_at e (with_number c.args.before.now.fields c.path_field-field.result)) c.requires.edits
      ∙ ap (λ (set : ℕ). system_at (edits_in c.args.problem.now) set) set_is
      ∙ ap (λ (shape : List Domain). system_at (edits_of shape (edits_in c.args.problem.now).lines) (set_of (changed_numbers case c.args.letters.now)))
      c.requires.problem.shape
      ∙ ap (λ (fs : List ℕ). system_of case.edits fs) (set-chosen case c.args.letters.now)

  exact_is : Answers (λ held. (system_held held).lines) told_system c.system_after.result (path_system (case_in c.args.problem.now) c.args.letters.now)
  exact_is = subst (λ r. Answers (λ held. (system_held held).lines) told_system c.system_after.result r) system_is c.system_after.ensures.exact

pub returns-clause-exact : goal.returns-clause-exact
returns-clause-exact g c = exact_is g c

pub returns-clause-system : goal.returns-clause-system
returns-clause-system g c =
    let edits = c.requires.edits ∙ ap (λ (shape : List Domain). edits_of shape (edits_in c.args.problem.now).lines) c.requires.problem.shape in
    answered-system (case_in c.args.problem.now) c.args.letters.now c.system_after.result
    (subst (λ (e : EditsParts). IfOk c.system_after.result (λ held. (system_held held).edits ≡ e)) edits c.system_after.ensures.edits)
    (subst (λ (set : ℕ). IfOk c.system_after.result (λ held. (system_held held).fields ≡ set)) (set_is g c) c.system_after.ensures.fields) (exact_is g c)

pub returns-clause-kept : goal.returns-clause-kept
returns-clause-kept g c =
    subst (λ (set : ℕ). OnOk c.system_after.result (g.S.Systems.keeps c.system_after.new.self set ≡ true)) (set_is g c) c.system_after.ensures.kept
