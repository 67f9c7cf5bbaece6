use Rattle.std.proofs.Common.{sym, ◌∙◌, arith}
use Rattle.edit_language.proofs.PrintingSteps.{set_more_in, set_more_out}
use Rattle.edit_language.proofs.printing.codes.write_set.Goals.{then-has_code+in_ok-write_code, else-has_code}
use Rattle.std.proofs.lemmas.Grind.{common_steps}
use Rattle.edit_language.proofs.printing.codes.write_set.Goals as goal

pub loop-i-preserved : goal.loop-i-preserved
loop-i-preserved c =
    let inv = c.loop-i.invariant in
    elim c.if-has_code.branch [
      | then-has_code+in_ok-write_code w ↦
          let more = set_more_in c.args.text.now.items c.args.list.now c.args.set c.loop-i.i c.index-list-i.result c.loop-i.text.items
          w.write_code.new.text.items c.loop-i.first c.loop-i-test.true c.index-list-i.is
          (sym c.has_code.ensures ∙ w.if-has_code.true) inv.0 inv.1 w.in_ok-write_code.ensures in
          rw (w.text-is, w.first-is) more
      | else-has_code w ↦
          let same = set_more_out c.args.text.now.items c.args.list.now c.args.set c.loop-i.i c.index-list-i.result c.loop-i.text.items c.loop-i.first
          c.loop-i-test.true c.index-list-i.is (sym c.has_code.ensures ∙ w.if-has_code.false) inv.0 inv.1 in
          rw (w.text-is, w.first-is) same
    ]

pub returns : goal.returns
returns c = grind (arith, common_steps)
