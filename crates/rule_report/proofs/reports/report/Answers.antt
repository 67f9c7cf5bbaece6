use Rattle.std.proofs.Common.{◌+◌, arith}
use Rattle.rule_report.proofs.ReportLaws.{texts-end}
use Rattle.rule_report.proofs.reports.report.Goals as goal

pub returns : goal.returns
returns c =
    record {
      texts = texts-end c.args.survey.now.fields (c.loop-place.place + 1) c.loop-place.place c.args.lines.now c.args.verdicts.now _ _
          (omega (arith, c.loop-place-test.false, c.min-place-end.ensures)) c.loop-place.invariant;
    }
