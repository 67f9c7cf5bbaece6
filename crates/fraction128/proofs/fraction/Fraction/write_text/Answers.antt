use Rattle.std.proofs.Common.{◌≡◌, ◌++◌, ◌∷◌, ◌∙◌, [], FitsSigned, List, ap, append_assoc, of_z, rules, sym, to_z, ℕ}
use Rattle.std.proofs.lemmas.Int.{to_z-of_z}
use mir.Syntax.{w128}
use Rattle.fraction128.proofs.TextLaws.{spelled-quotient, spelled-whole}
use Rattle.fraction128.proofs.fraction.Fraction.write_text.Goals.{then-self-ne1+in_ok-push+in_ok-extend_from_slice, else-self-ne1}
use Rattle.fraction128.proofs.fraction.Fraction.write_text.Goals as goal

-- a text to which a stroke and another are appended
stroke-between : (first second begun pushed all : List ℕ) → begun ≡ first → pushed ≡ begun ++ 47 ∷ [] → all ≡ pushed ++ second → all ≡ first ++ 47 ∷ second
stroke-between first second begun pushed all begun_is pushed_is all_is =
    all_is ∙ (λ k. pushed_is k ++ second) ∙ (λ k. (begun_is k ++ 47 ∷ []) ++ second) ∙ append_assoc first (47 ∷ []) second

pub returns : goal.returns
returns c =
    let x = c.args.self.now in
    let numerator_fits : FitsSigned w128 x.numerator = search rules in
    let denominator_fits : FitsSigned w128 x.denominator = search rules in
    let numerator_is = simp to_z-of_z at c.format.ensures.text in
    let begun = c.in_ok-text.ensures.items ∙ c.as_bytes.ensures.value ∙ numerator_is in
    elim c.if-self-ne1.branch [
      | then-self-ne1+in_ok-push+in_ok-extend_from_slice w ↦
          let denominator_is = simp to_z-of_z at w.format-then-self-ne1.ensures.text in
          ap (λ t. t.items) w.text-is
          ∙ stroke-between _ _ c.in_ok-text.text.items w.push.new.self.items w.extend_from_slice.new.self.items begun w.in_ok-push.ensures.items
          (w.in_ok-extend_from_slice.ensures.items
          ∙ ap (λ (bs : List ℕ). w.push.new.self.items ++ bs) (w.as_bytes-then-self-ne1.ensures.value ∙ denominator_is))
          ∙ spelled-quotient x (λ one. w.if-self-ne1.true (ap (of_z w128) one))
      | else-self-ne1 w ↦
          ap (λ t. t.items) w.text-is ∙ begun
          ∙ spelled-whole x (sym (to_z-of_z w128 x.denominator denominator_fits) ∙ ap (to_z w128) w.if-self-ne1.false)
    ]
