use Rattle.std.proofs.Common.{◌≡◌, ap, arith, subst, sym, ◌∙◌}
use Rattle.std.specs.Prelude.{Ok}
use Rattle.std.specs.Cmp.Lexicographic.{other_text}
use Rattle.std.specs.Fmt.{decimal}
use Rattle.std.specs.Str.{IsAscii}
use Rattle.std.proofs.lemmas.Fmt.{IsAscii-decimal_wide, parse-decimal_wide}
use Rattle.std.proofs.lemmas.Str.{IsUtf8-from_ascii}
use Rattle.reason_lines.proofs.words.number_of.Goals as goal

pub returns-in_default-clause-none : goal.returns-in_default-clause-none
returns-in_default-clause-none c = λ n fits e.
    c.in_default.ensures.cases.0 (IsUtf8-from_ascii c.args.text.now (subst IsAscii (sym e) (IsAscii-decimal_wide n (omega (arith, fits)))))

pub returns-in_default-parse-clause-none : goal.returns-in_default-parse-clause-none
returns-in_default-parse-clause-none c = λ n fits e.
    let text = c.in-Ok.ensures.cases.0 in
    c.in_default-parse.not-Ok n (parse-decimal_wide 32 n c.in-Ok.text.now c.parse.result fits (omega (arith, fits)) (text ∙ e) c.parse.ensures.value.0)

pub returns-else-eq-clause-none : goal.returns-else-eq-clause-none
returns-else-eq-clause-none c = λ n fits e.
    let text = c.in-Ok.ensures.cases.0 in
    let read : c.parse.result ≡ Ok n = parse-decimal_wide 32 n c.in-Ok.text.now c.parse.result fits (omega (arith, fits)) (text ∙ e) c.parse.ensures.value.0 in
    let same : c.in-Ok-parse.number ≡ n = cc (c.in-Ok-parse.is) in
    other_text c.format.result.now c.in-Ok.text.now (sym c.if-eq.false ∙ c.eq.ensures) (c.format.ensures.text ∙ ap decimal same ∙ sym e ∙ sym text)
