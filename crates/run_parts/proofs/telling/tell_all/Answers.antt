use Rattle.std.proofs.Common.{[], ◌∙◌, ap, arith, inl, inr, refl}
use Rattle.edit_desk.specs.Desk.{raised}
use Rattle.run_parts.proofs.TellingLaws.{Appends, all-lines, appends-none, cut-line, next-line}
use Rattle.run_parts.proofs.ToldLaws.{less-told, same-told, then-told}
use Rattle.run_parts.proofs.telling.tell_all.Goals as goal

pub loop-line-init : goal.loop-line-init
loop-line-init g c = (
  same-told (g.P.Printer.printed c.args.printer.now) (g.P.Printer.printed c.args.printer.now) (Appends []) refl
      (λ old. appends-none old old refl),
  refl,
)

pub returns-in-Err : goal.returns-in-Err
returns-in-Err g c =
    inr (
      refl,
      then-told (g.P.Printer.printed c.args.printer.now) (g.P.Printer.printed c.loop-line.printer) (g.P.Printer.printed c.line.new.self)
          (cut-line c.args.lines.now c.loop-line.line-index c.line-item.result c.line-item.is c.loop-line-test.true c.deref.result.now c.deref.ensures.value)
          c.loop-line.invariant.0 c.in-Err.ensures.printed,
      c.in-Err.ensures.faults ∙ ap raised c.loop-line.invariant.1,
    )

pub loop-line-preserved : goal.loop-line-preserved
loop-line-preserved g c = (
  then-told (g.P.Printer.printed c.args.printer.now) (g.P.Printer.printed c.loop-line.printer) (g.P.Printer.printed c.line.new.self)
      (next-line c.args.lines.now c.loop-line.line-index c.line-item.result c.line-item.is c.loop-line-test.true c.deref.result.now c.deref.ensures.value)
      c.loop-line.invariant.0 c.in-Ok.ensures.printed,
  c.in-Ok.ensures.faults ∙ c.loop-line.invariant.1,
)

pub returns : goal.returns
returns g c =
    inl (
      refl,
      less-told (g.P.Printer.printed c.args.printer.now) (g.P.Printer.printed c.loop-line.printer)
          (λ x y h. all-lines c.args.lines.now c.loop-line.line-index x y (omega (arith, c.loop-line-test.false)) h) c.loop-line.invariant.0,
      c.loop-line.invariant.1,
    )
