use Rattle.std.proofs.lemmas.Int.{ints, to_z-of_z}
use Rattle.std.proofs.lemmas.Str.Pattern.{split_parts}
use Rattle.std.specs.Fmt.{signed_decimal}
use mir.Syntax.{w128}
use Rattle.std.proofs.Common.{◌≢◌, ℕ, List, ℤ, pos, FitsSigned, rules, arith, lit<, ◌≡◌, ◌++◌, ◌∷◌, Some, sym, ap, subst, ◌∙◌}
use Rattle.std.specs.Str.{IsAscii}
use Rattle.std.proofs.lemmas.Str.{IsUtf8-from_ascii}
use Rattle.std.proofs.lemmas.Option.{none-some, IfSome_then}
use Rattle.fraction128.proofs.TextLaws.{spelling-ascii, spelled_whole, spelled_parts, spelling-parts}
use Rattle.fraction128.proofs.fraction.Fraction.read_text.Goals as goal

pub returns-in_default-clause-reads : goal.returns-in_default-clause-reads
returns-in_default-clause-reads c x e =
    absurd (c.in_default.ensures.cases.0 (IsUtf8-from_ascii c.args.bytes.now (subst IsAscii e (spelling-ascii x))))

pub returns-in_err-read_whole-in-None-clause-reads : goal.returns-in_err-read_whole-in-None-clause-reads
returns-in_err-read_whole-in-None-clause-reads c x e =
    let text = c.in-Ok.ensures.cases.0 in
    let whole = spelled_whole x _ (e ∙ sym text) c.in-None.ensures.cases in
    absurd (none-some _ (c.in_err-read_whole-in-None.ensures.reads x.numerator x.numerator_in_range whole.1))

pub returns-in_err-numerator-in-Some-clause-reads : goal.returns-in_err-numerator-in-Some-clause-reads
returns-in_err-numerator-in-Some-clause-reads c x e =
    let text = c.in-Ok.ensures.cases.0 in
    let parts = spelled_parts x _ c.in-Some.above c.in-Some.below (e ∙ sym text) c.in-Some.ensures.cases in
    absurd (none-some _ (c.in_err-numerator-in-Some.ensures.reads x.numerator x.numerator_in_range parts.1))

pub returns-in_err-denominator-in-Some-clause-reads : goal.returns-in_err-denominator-in-Some-clause-reads
returns-in_err-denominator-in-Some-clause-reads c x e =
    let text = c.in-Ok.ensures.cases.0 in
    let parts = spelled_parts x _ c.in-Some.above c.in-Some.below (e ∙ sym text) c.in-Some.ensures.cases in
    absurd (none-some _ (c.in_err-denominator-in-Some.ensures.reads x.denominator x.denominator_in_range parts.2))

pub returns-then-denominator-eq1-clause-reads : goal.returns-then-denominator-eq1-clause-reads
returns-then-denominator-eq1-clause-reads c x e =
    let text = c.in-Ok.ensures.cases.0 in
    let parts = spelled_parts x _ c.in-Some.above c.in-Some.below (e ∙ sym text) c.in-Some.ensures.cases in
    let below = c.in_ok-denominator-in-Some.ensures.reads x.denominator x.denominator_in_range parts.2 in
    let same : c.in_ok-denominator-in-Some.denominator ≡ x.denominator = cc (below) in
    let fits : FitsSigned w128 c.in_ok-denominator-in-Some.denominator = search rules in
    let one : c.in_ok-denominator-in-Some.denominator ≡ pos 1 = omega (arith, ints, c.if-denominator-eq1.true) in
    absurd (parts.0 (sym same ∙ one))

pub returns-in_ok-read_whole-in-None-clause-reads : goal.returns-in_ok-read_whole-in-None-clause-reads
returns-in_ok-read_whole-in-None-clause-reads c x e =
    let text = c.in-Ok.ensures.cases.0 in
    let whole = spelled_whole x _ (e ∙ sym text) c.in-None.ensures.cases in
    let read = c.in_ok-read_whole-in-None.ensures.reads x.numerator x.numerator_in_range whole.1 in
    let same : c.in_ok-read_whole-in-None.field-0 ≡ x.numerator = cc (read) in
    let fits : FitsSigned w128 c.in_ok-read_whole-in-None.field-0 = search rules in
    let found = simp to_z-of_z at (c.in_lowest_terms.ensures.found x) in
    found (sym same) whole.0

pub returns-else-denominator-eq1-clause-canonical : goal.returns-else-denominator-eq1-clause-canonical
returns-else-denominator-eq1-clause-canonical c =
    let above_fits : FitsSigned w128 c.in_ok-numerator-in-Some.numerator = search rules in
    let below_fits : FitsSigned w128 c.in_ok-denominator-in-Some.denominator = search rules in
    let apart : c.in_ok-denominator-in-Some.denominator ≢ pos 1 = λ one. omega (arith, ints, c.if-denominator-eq1.false) in
    let parts = split_parts 47 c.in-Ok.text.now (Some (c.in-Some.above, c.in-Some.below)) c.in-Some.ensures.cases (lit< tt) in
    let made = simp to_z-of_z at c.in_lowest_terms-in-Some.ensures.made in
    IfSome_then c.in_lowest_terms-in-Some.result made (λ x is.
    spelling-parts x (λ one. apart (sym is.1 ∙ one))
    ∙ ap (λ (n : ℤ). signed_decimal n ++ (47 ∷ signed_decimal x.denominator)) is.0
    ∙ ap (λ (d : ℤ). signed_decimal c.in_ok-numerator-in-Some.numerator ++ (47 ∷ signed_decimal d)) is.1
    ∙ ap (λ (t : List ℕ). t ++ (47 ∷ signed_decimal c.in_ok-denominator-in-Some.denominator)) c.in_ok-numerator-in-Some.ensures.canonical.1
    ∙ ap (λ (t : List ℕ). c.in-Some.above.now ++ (47 ∷ t)) c.in_ok-denominator-in-Some.ensures.canonical.1
    ∙ sym parts.0
    ∙ c.in-Ok.ensures.cases.0)

pub returns-else-denominator-eq1-clause-reads : goal.returns-else-denominator-eq1-clause-reads
returns-else-denominator-eq1-clause-reads c x e =
    let text = c.in-Ok.ensures.cases.0 in
    let parts = spelled_parts x _ c.in-Some.above c.in-Some.below (e ∙ sym text) c.in-Some.ensures.cases in
    let above = c.in_ok-numerator-in-Some.ensures.reads x.numerator x.numerator_in_range parts.1 in
    let below = c.in_ok-denominator-in-Some.ensures.reads x.denominator x.denominator_in_range parts.2 in
    let above_fits : FitsSigned w128 c.in_ok-numerator-in-Some.numerator = search rules in
    let below_fits : FitsSigned w128 c.in_ok-denominator-in-Some.denominator = search rules in
    let same_above : c.in_ok-numerator-in-Some.numerator ≡ x.numerator = cc (above) in
    let same_below : c.in_ok-denominator-in-Some.denominator ≡ x.denominator = cc (below) in
    let found = simp to_z-of_z at (c.in_lowest_terms-in-Some.ensures.found x) in
    found (sym same_above) (sym same_below)
