use Rattle.std.proofs.Common.{◌+◌, ℕ, ap, sym, ◌∙◌, arith}
use Rattle.edit_paths.proofs.LetterLaws.{count-kinds}
use Rattle.path_walk.specs.Problems.{case_in}
use Rattle.path_walk.proofs.NumberPathLaws.{changed-work}
use Rattle.path_walk.proofs.number_paths.last_pairs.Goals as goal

pub overflow_cast-letters : goal.overflow_cast-letters
overflow_cast-letters c = omega (arith, c.requires.fit, count-kinds (case_in c.args.problem.now), c.requires.problem.few)

pub path_field-field-requires : goal.path_field-field-requires
path_field-field-requires c = omega (arith, c.requires.fit, count-kinds (case_in c.args.problem.now), c.ends_changed.ensures.some c.if-not-ends_changed.false)

pub returns : goal.returns
returns c =
    record {
      work =
          changed-work (case_in c.args.problem.now) c.args.letters.now c.args.before.now c.path_field-field.result
          (c.ends_changed.ensures.some c.if-not-ends_changed.false) c.requires.fit
          (sym c.ends_changed.ensures.changed ∙ c.if-not-ends_changed.false) c.requires.made c.path_field-field.ensures.field
          ∙ ap (λ (n : ℕ). 1 + n) (sym c.pairs.ensures.exact);
    }
