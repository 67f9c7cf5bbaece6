use Rattle.std.proofs.Common.{◌≡◌, ◌<◌, ◌^◌, FitsSigned, ap, arith, rules, subst, sym, unsigned_abs, ◌∙◌}
use Rattle.std.specs.Prelude.{Ok}
use Rattle.std.specs.Cmp.Lexicographic.{other_text}
use Rattle.std.specs.Fmt.{signed_decimal}
use Rattle.std.specs.Str.{IsAscii}
use Rattle.std.proofs.lemmas.Int.{ints, to_z-of_z}
use Rattle.std.proofs.lemmas.Slice.Eq.{bytes_eq-Decides}
use Rattle.std.proofs.lemmas.Str.{IsUtf8-from_ascii}
use mir.Syntax.{w128}
use Rattle.fraction128.specs.Range.{InRange}
use Rattle.fraction128.proofs.TextLaws.{signed_decimal-ascii, signed_decimal-read}
use Rattle.proof_grammar.specs.Words.{whole_said}
use Rattle.proof_grammar.proofs.WordLaws.{whole_said-again, whole_said-none}
use Rattle.proof_grammar.proofs.numbers.read_whole.Goals as goal
use Rattle.proof_grammar.proofs.numbers.read_whole.Goals.{else-number-via-then-number+else-eq, else-number-via-else-number}

pub returns-in_default : goal.returns-in_default
returns-in_default c = whole_said-none c.args.word.now (λ z fits e. c.in_default.ensures.cases.0
    (IsUtf8-from_ascii c.args.word.now (subst IsAscii e (signed_decimal-ascii z fits))))

pub returns-in_default-parse : goal.returns-in_default-parse
returns-in_default-parse c =
    let text = c.in-Ok.ensures.cases.0 in
    whole_said-none c.args.word.now
    (λ z fits e. c.in_default-parse.not-Ok z (signed_decimal-read z c.in-Ok.text.now c.parse.result fits (e ∙ sym text) c.parse.ensures.value.0))

pub returns-then-eq : goal.returns-then-eq
returns-then-eq c =
    let text = c.in-Ok.ensures.cases.0 in
    let number_fits : FitsSigned w128 c.in-Ok-parse.number = search rules in
    let printed = simp to_z-of_z at c.format.ensures.text in
    let spelled : signed_decimal c.in-Ok-parse.number ≡ c.args.word.now = sym printed ∙ (bytes_eq-Decides c.format.result.now c.in-Ok.text.now).0
    (sym c.eq.ensures ∙ c.if-eq.true) ∙ text in
    let fits : InRange c.in-Ok-parse.number = omega (arith, ints, c.if-number.true) in
    simp to_z-of_z (sym (whole_said-again c.in-Ok-parse.number fits) ∙ ap whole_said spelled)

pub returns-else-number : goal.returns-else-number
returns-else-number c =
    let text = c.in-Ok.ensures.cases.0 in
    let number_fits : FitsSigned w128 c.in-Ok-parse.number = search rules in
    whole_said-none c.args.word.now (λ z fits e.
    let read : c.parse.result ≡ Ok z = signed_decimal-read z c.in-Ok.text.now c.parse.result fits (e ∙ sym text) c.parse.ensures.value.0 in
    let same : c.in-Ok-parse.number ≡ z = cc (c.in-Ok-parse.is) in
    elim c.else-number.branch [
      | else-number-via-then-number+else-eq w ↦
          let printed = simp to_z-of_z at w.format.ensures.text in
          other_text w.format.result.now c.in-Ok.text.now (sym w.if-eq.false ∙ w.eq.ensures) (printed ∙ ap signed_decimal same ∙ e ∙ sym text)
      | else-number-via-else-number w ↦
          let small : unsigned_abs c.in-Ok-parse.number < 2 ^ 127 = rw same fits in
          omega (arith, ints, w.if-number.false)
    ])
