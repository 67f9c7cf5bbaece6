use Rattle.std.proofs.Common.{◌≡◌, ◌<◌, ◌^◌, unsigned_abs, Some, sym, ap, ◌∙◌, FitsSigned, rules, arith}
use Rattle.std.specs.Prelude.{Ok}
use Rattle.std.proofs.lemmas.Int.{ints, to_z-of_z}
use Rattle.std.specs.Cmp.Lexicographic.{other_text}
use Rattle.std.specs.Fmt.{signed_decimal}
use mir.Syntax.{w128}
use Rattle.fraction128.proofs.TextLaws.{signed_decimal-read}
use Rattle.fraction128.proofs.fraction.read.read_whole.Goals as goal
use Rattle.fraction128.proofs.fraction.read.read_whole.Goals.{else-number-via-then-number+else-eq, else-number-via-else-number}

pub returns-in_default-clause-reads : goal.returns-in_default-clause-reads
returns-in_default-clause-reads c n in_range spelled =
    let read : c.parse.result ≡ Ok n = signed_decimal-read n c.args.text.now c.parse.result in_range spelled c.parse.ensures.value.0 in
    absurd (c.in_default.not-Ok n read)

pub returns-then-eq-clause-reads : goal.returns-then-eq-clause-reads
returns-then-eq-clause-reads c n in_range spelled =
    let number_fits : FitsSigned w128 c.in-Ok.number = search rules in
    let read : c.parse.result ≡ Ok n = signed_decimal-read n c.args.text.now c.parse.result in_range spelled c.parse.ensures.value.0 in
    let same : c.in-Ok.number ≡ n = cc (c.in-Ok.is) in
    simp to_z-of_z (ap Some same)

pub returns-else-number-clause-reads : goal.returns-else-number-clause-reads
returns-else-number-clause-reads c n in_range spelled =
    let number_fits : FitsSigned w128 c.in-Ok.number = search rules in
    let read : c.parse.result ≡ Ok n = signed_decimal-read n c.args.text.now c.parse.result in_range spelled c.parse.ensures.value.0 in
    let same : c.in-Ok.number ≡ n = cc (c.in-Ok.is) in
    elim c.else-number.branch [
      | else-number-via-then-number+else-eq w ↦
          let printed = simp to_z-of_z at w.format.ensures.text in
          let spells : w.format.result.now ≡ c.args.text.now = printed ∙ ap signed_decimal same ∙ spelled in
          absurd (other_text w.format.result.now c.args.text.now (sym w.if-eq.false ∙ w.eq.ensures) spells)
      | else-number-via-else-number w ↦
          let small : unsigned_abs c.in-Ok.number < 2 ^ 127 = rw same in_range in
          absurd (omega (arith, ints, w.if-number.false))
    ]
