use Rattle.std.proofs.Common.{[], inr, refl}
use Rattle.run_parts.proofs.TellingLaws.{appends-cut, appends-none}
use Rattle.run_parts.proofs.ToldLaws.{less-told}
use Rattle.run_parts.proofs.telling.tell.Goals as goal

pub returns-in-Err : goal.returns-in-Err
returns-in-Err g c =
    inr (
      refl,
      less-told (g.P.Printer.printed c.args.printer.now) (g.P.Printer.printed c.line.new.self)
          (λ x y cut. appends-cut _ [] [] c.args.line.now x x y refl (appends-none x x refl) cut) c.in-Err.ensures.printed,
      c.in-Err.ensures.faults,
    )
