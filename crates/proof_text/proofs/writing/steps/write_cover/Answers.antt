use Rattle.std.proofs.Transfers.{starts_with_of_append, starts_with_of_eq, starts_with_trans}
use Rattle.std.proofs.Common.{◌≡◌, ◌∷◌, ◌++◌, ℕ, List, codes, arith, sym, ap, ◌∙◌}
use Rattle.std.proofs.lemmas.Grind.{common_steps}
use Rattle.std.specs.List.{flat_map}
use Rattle.bound_cert.specs.Paths.{named}
use Rattle.proof_text.proofs.PartTexts.{named-words}
use Rattle.proof_text.proofs.writing.steps.write_cover.Goals as goal

pub returns-clause-text : goal.returns-clause-text
returns-clause-text c =
    let pieces : c.write_all_named.new.text.items ≡ c.args.text.now.items
    ++ (codes "cover " ++ (named c.args.field ++ flat_map (λ (n : ℕ). 32 ∷ named n) c.args.parts.now)) = grind (arith, common_steps) in
    pieces ∙ ap (λ (ws : List ℕ). c.args.text.now.items ++ (codes "cover " ++ ws)) (sym (named-words (named c.args.field) c.args.parts.now))

pub returns-in_err-extend_from_slice-clause-begins : goal.returns-in_err-extend_from_slice-clause-begins
returns-in_err-extend_from_slice-clause-begins c = starts_with_of_eq _ _ c.in_err-extend_from_slice.ensures.items

pub returns-in_err-write_named-clause-begins : goal.returns-in_err-write_named-clause-begins
returns-in_err-write_named-clause-begins c =
    starts_with_trans _ _ _ c.write_named.ensures.begins (starts_with_of_append _ _ _ c.in_ok-extend_from_slice.ensures.items)

pub returns-in_err-write_all_named-clause-begins : goal.returns-in_err-write_all_named-clause-begins
returns-in_err-write_all_named-clause-begins c =
    starts_with_trans _ _ _ c.write_all_named.ensures.begins
    (starts_with_trans _ _ _ c.write_named.ensures.begins (starts_with_of_append _ _ _ c.in_ok-extend_from_slice.ensures.items))

pub returns-clause-begins : goal.returns-clause-begins
returns-clause-begins c =
    starts_with_trans _ _ _ c.write_all_named.ensures.begins
    (starts_with_trans _ _ _ c.write_named.ensures.begins (starts_with_of_append _ _ _ c.in_ok-extend_from_slice.ensures.items))
