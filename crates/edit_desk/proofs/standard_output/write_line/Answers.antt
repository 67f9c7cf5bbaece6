-- What was written is some first bytes of the line.
use Rattle.std.proofs.Common.{◌≡◌, ◌+◌, length, take, min, subst, sym, arith}
use Rattle.std.specs.Io.KnownBytes.{Appends}
use Rattle.std.proofs.KnownBytes.{Appends-trans, Appends-kept}
use Rattle.edit_desk.specs.Printer.{line_of}
use Rattle.edit_desk.proofs.PrinterLaws.{of_line, of_text}
use Rattle.std.proofs.lemmas.Grind.{common_steps}
use Rattle.edit_desk.proofs.standard_output.write_line.Goals as goal

pub returns-in_err-write_whole-clause-part : goal.returns-in_err-write_whole-clause-part
returns-in_err-write_whole-clause-part g c =
    let (kept, written) = c.write_whole.ensures.part in
    (min kept (length c.args.text.now), subst (Appends _ _) (sym (of_text c.args.text.now kept)) written)

pub returns-in_err-write_whole-2-clause-part : goal.returns-in_err-write_whole-2-clause-part
returns-in_err-write_whole-2-clause-part g c =
    let (kept, written) = c.write_whole-2.ensures.part in (
      length c.args.text.now + kept,
      subst (Appends _ _) (sym (of_line c.args.text.now kept))
          (Appends-trans _ _ _ _ _ c.in_ok-write_whole.ensures.whole written),
    )

pub returns-clause-part : goal.returns-clause-part
returns-clause-part g c =
    let whole : take (length c.args.text.now + 1) (line_of c.args.text.now) ≡ line_of c.args.text.now = of_line c.args.text.now 1 in (
      length c.args.text.now + 1,
      subst (Appends _ _) (sym whole)
          (Appends-kept _ _ _ _ (Appends-trans _ _ _ _ _ c.in_ok-write_whole.ensures.whole c.in_ok-write_whole-2.ensures.whole) c.flush.ensures.bytes),
    )

pub returns-clause-whole : goal.returns-clause-whole
returns-clause-whole g c = grind (arith, common_steps)
