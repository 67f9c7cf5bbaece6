-- One more turn: what was read, and then what this read gave.
use Rattle.std.proofs.Common.{rules, ℕ, ◌∙◌, ap, arith, length, subst, sym, Vec}
use Rattle.std.specs.declared.alloc.Global.{Global}
use Rattle.std.specs.Io.KnownBytes.{Consumes}
use Rattle.std.proofs.KnownBytes.{Consumes-kept}
use Rattle.edit_desk.proofs.FileLaws.{read_more, read_fits}
use Rattle.std.proofs.lemmas.Grind.{common_steps}
use Rattle.edit_desk.proofs.file.read_within.Goals as goal
use Rattle.edit_desk.proofs.file.read_within.Goals.{in-Ok-2+in_ok-extend_from_slice-in-Ok-2, in-Err}

pub loop-preserved : goal.loop-preserved
loop-preserved g c =
    elim c.match-read.branch [
      | in-Ok-2+in_ok-extend_from_slice-in-Ok-2 w ↦
          let items = ap (λ (v : Vec ℕ Global). v.items) w.bytes-is ∙ (w.in_ok-extend_from_slice-in-Ok-2).ensures.items in (
            read_fits _ _ _ _ _ items c.loop.invariant.0 (search rules),
            read_more _ _ _ _ _ _ _ _ items w.in-Ok.ensures.bound.0 c.loop.invariant.1 w.in-Ok.ensures.bytes.0,
          )
      | in-Err w ↦ (
        omega (arith, ap (λ (v : Vec ℕ Global). length v.items) w.bytes-is),
        subst (Consumes _ _) (sym (ap (λ (v : Vec ℕ Global). v.items) w.bytes-is)) (Consumes-kept _ _ _ _ c.loop.invariant.1 w.in-Err.ensures.bytes),
      )
    ]

pub returns-in-Ok-clause-bytes : goal.returns-in-Ok-clause-bytes
returns-in-Ok-clause-bytes g c = grind (arith, common_steps)
