use Rattle.std.proofs.Common.{◌≡◌, ◌∙◌, ◌∷◌, [], All, List, ap, arith, inl, inr, length, subst, sym}
use Rattle.std.proofs.lemmas.Bool.{false≢true}
use Rattle.edit_model.specs.Surveys.{IsCodeTest, IsOrderTest}
use Rattle.edit_model.specs.declared.rule.Test.{Test}
use Rattle.edit_model.proofs.NameLemmas.{only-one}
use Rattle.edit_model.proofs.check.rule.has_form.Goals as goal

pub returns-then-is_order_test : goal.returns-then-is_order_test
returns-then-is_order_test c =
    let conditions = c.as_slice-conditions.result.now in
    let only = c.only-item.result in
    let one : conditions ≡ only ∷ [] = only-one conditions only (omega arith) c.only-item.is in (
      λ told. inr (only, sym c.as_slice-conditions.ensures ∙ one, c.is_order_test.ensures.0 c.if-is_order_test.true, c.is_code_test.ensures.0 told),
      λ has. elim has [
        | inl codes ↦
            absurd (false≢true (c.if-are_code_tests.ensures.1 (subst (λ (ts : List Test). All IsCodeTest ts) (sym c.as_slice-conditions.ensures) codes)))
        | inr lone ↦ c.is_code_test.ensures.1 lone.3
      ],
    )

pub returns-else-is_order_test : goal.returns-else-is_order_test
returns-else-is_order_test c =
    let conditions = c.as_slice-conditions.result.now in
    let only = c.only-item.result in
    let one : conditions ≡ only ∷ [] = only-one conditions only (omega arith) c.only-item.is in (
      λ told. absurd (cc),
      λ has. elim has [
        | inl codes ↦
            absurd (false≢true (c.if-are_code_tests.ensures.1 (subst (λ (ts : List Test). All IsCodeTest ts) (sym c.as_slice-conditions.ensures) codes)))
        | inr lone ↦
            let same : lone.0 ≡ only = cc (one, lone.1, c.as_slice-conditions.ensures) in
            c.is_order_test.ensures.1 (subst IsOrderTest same lone.2)
      ],
    )

pub returns-in_default : goal.returns-in_default
returns-in_default c = (
  λ told. absurd (false≢true told),
  λ has. elim has [
    | inl codes ↦ c.if-are_code_tests.ensures.1 (subst (λ (ts : List Test). All IsCodeTest ts) (sym c.as_slice-conditions.ensures) codes)
    | inr lone ↦ absurd (omega (arith, ap (λ (ts : List Test). length ts) (c.as_slice-conditions.ensures ∙ lone.1), c.in_default.len_below))
  ],
)
