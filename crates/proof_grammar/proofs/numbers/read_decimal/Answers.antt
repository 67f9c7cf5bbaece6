use Rattle.std.proofs.Common.{◌≡◌, ap, arith, subst, sym, ◌∙◌}
use Rattle.std.specs.Prelude.{Ok}
use Rattle.std.specs.Cmp.Lexicographic.{other_text}
use Rattle.std.specs.Fmt.{decimal}
use Rattle.std.specs.Str.{IsAscii}
use Rattle.std.proofs.lemmas.Fmt.{IsAscii-decimal_wide, parse-decimal_wide}
use Rattle.std.proofs.lemmas.Slice.Eq.{bytes_eq-Decides}
use Rattle.std.proofs.lemmas.Str.{IsUtf8-from_ascii}
use Rattle.proof_grammar.proofs.WordLaws.{decimal_said-again, decimal_said-none}
use Rattle.proof_grammar.specs.Words.{decimal_said}
use Rattle.proof_grammar.proofs.numbers.read_decimal.Goals as goal

pub returns-in_default : goal.returns-in_default
returns-in_default c =
    decimal_said-none c.args.word.now
    (λ n fits e. c.in_default.ensures.cases.0 (IsUtf8-from_ascii c.args.word.now (subst IsAscii e (IsAscii-decimal_wide n (omega (arith, fits))))))

pub returns-in_default-parse : goal.returns-in_default-parse
returns-in_default-parse c =
    let text = c.in-Ok.ensures.cases.0 in
    decimal_said-none c.args.word.now
    (λ n fits e. c.in_default-parse.not-Ok n (parse-decimal_wide 128 n c.in-Ok.text.now c.parse.result fits (omega (arith, fits)) (text ∙ sym e)
    c.parse.ensures.value.0))

pub returns-then-eq : goal.returns-then-eq
returns-then-eq c =
    let text = c.in-Ok.ensures.cases.0 in
    let printed : decimal c.in-Ok-parse.number ≡ c.args.word.now = sym c.format.ensures.text
    ∙ (bytes_eq-Decides c.format.result.now c.in-Ok.text.now).0 (sym c.eq.ensures ∙ c.if-eq.true) ∙ text in
    sym (decimal_said-again c.in-Ok-parse.number (omega arith)) ∙ ap decimal_said printed

pub returns-else-eq : goal.returns-else-eq
returns-else-eq c =
    let text = c.in-Ok.ensures.cases.0 in
    decimal_said-none c.args.word.now (λ n fits e.
    let read : c.parse.result ≡ Ok n = parse-decimal_wide 128 n c.in-Ok.text.now c.parse.result fits (omega (arith, fits)) (text ∙ sym e)
    c.parse.ensures.value.0 in
    let same : c.in-Ok-parse.number ≡ n = cc (c.in-Ok-parse.is) in
    other_text c.format.result.now c.in-Ok.text.now (sym c.if-eq.false ∙ c.eq.ensures) (c.format.ensures.text ∙ ap decimal same ∙ e ∙ sym text))
