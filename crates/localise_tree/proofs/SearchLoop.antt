use Rattle.std.proofs.Common.{◌≡◌, inl, inr, ℕ, ◌<◌, ◌≤◌, Bool, List, [], ◌∷◌, ◌++◌, Some, None, length, refl, sym, ap, ◌∙◌, subst, arith}
use Rattle.std.specs.List.{fold}
use Rattle.std.proofs.lemmas.List.Sorted.{IsPermutation-refl, IsPermutation-sym}
use Rattle.std.specs.Option.{unwrap_or}
use Rattle.edit_line.specs.Reductions.{IsIn}
use Rattle.bound_cert.specs.declared.outcome.Outcome.{Outcome}
use Rattle.edit_paths.specs.Cases.{SearchCase}
use Rattle.edit_paths.specs.Outcomes.{end_at, outcome_from, outcome_of}
use Rattle.edit_paths.specs.Paths.{field_count}
use Rattle.edit_paths.specs.ReachedPaths.{AreInOrder, in_order, is_before, placed}
use Rattle.edit_paths.specs.Walks.{next_paths}
use Rattle.edit_paths.proofs.OrderLaws.{folded-sorted, in-folded, permuted-folded}
use Rattle.edit_paths.proofs.PathOrder.{before-chain, before-equal, before-total}
use Rattle.edit_paths.proofs.ReachedLaws.{first-end, next-fits, reached_beyond, same_ends, search-turn}

-- The loop of a search over a sorted list of ends.

-- how many paths are left
abbrev pub left : SearchCase → List (List Bool) → ℕ
left c ends = length (in_order (is_before c.survey.fields) (reached_beyond c ends))

-- the ends are sorted, no longer than the fields, and the outcome is that of the paths beyond them
pub record IsSearching (c : SearchCase) (budget : ℕ) (taken ends : List (List Bool)) : Type 0 where
  pub fit : (x : List Bool) → IsIn x ends → length x ≤ field_count c
  pub sorted : AreInOrder (is_before c.survey.fields) ends
  pub rest : outcome_from c budget taken (in_order (is_before c.survey.fields) (reached_beyond c ends)) ≡ outcome_of c budget

module _ (c : SearchCase) (budget : ℕ) where
  module _ (taken ends rest : List (List Bool)) (path : List Bool) (before : IsSearching c budget taken ends) (is : ends ≡ path ∷ rest) where
    searching : IsSearching c budget taken (path ∷ rest)
    searching = subst (λ (ps : List (List Bool)). IsSearching c budget taken ps) is before

    turn : (unwrap_or (end_at c budget taken path) (outcome_from c budget (taken ++ path ∷ [])
        (in_order (is_before c.survey.fields) (reached_beyond c (next_paths c path ++ rest))))) ≡ outcome_of c budget
    turn =
        sym (search-turn c budget taken path (path ∷ rest) rest (searching.fit path (inl refl)) (IsPermutation-refl (path ∷ rest)) searching.sorted.0)
        ∙ searching.rest

    pub searching-ends : (o : Outcome) → end_at c budget taken path ≡ Some o → o ≡ outcome_of c budget
    searching-ends o e =
        ap (λ end. (unwrap_or end (outcome_from c budget (taken ++ path ∷ [])
        (in_order (is_before c.survey.fields) (reached_beyond c (next_paths c path ++ rest)))))) (sym e) ∙ turn

    module _ (new : List (List Bool)) (made : new ≡ fold (placed (is_before c.survey.fields)) rest (next_paths c path)) where
      same : in_order (is_before c.survey.fields) (reached_beyond c new) ≡ in_order (is_before c.survey.fields) (reached_beyond c (next_paths c path ++ rest))
      same =
          ap (λ (ps : List (List Bool)). in_order (is_before c.survey.fields) (reached_beyond c ps)) made
          ∙ same_ends c _ _ (IsPermutation-sym _ _ (permuted-folded (is_before c.survey.fields) (before-total c) (before-chain c) (before-equal c) rest
          (next_paths c path)))

      pub searching-turn : (after : List (List Bool)) → end_at c budget taken path ≡ None → after ≡ taken ++ path ∷ [] → IsSearching c budget after new
      searching-turn after none more = record {
        fit = λ x there. new-fit x (subst (λ (ps : List (List Bool)). IsIn x ps) made there);
        sorted =
            subst (λ (ps : List (List Bool)). AreInOrder (is_before c.survey.fields) ps) (sym made)
            (folded-sorted (is_before c.survey.fields) (before-total c) (before-chain c) (before-equal c) rest (next_paths c path) searching.sorted.1);
        rest =
            ap (λ (ps : List (List Bool)). outcome_from c budget ps (in_order (is_before c.survey.fields) (reached_beyond c new))) more
            ∙ ap (λ (ps : List (List Bool)). outcome_from c budget (taken ++ path ∷ []) ps) same
            ∙ ap (λ end. (unwrap_or end (outcome_from c budget (taken ++ path ∷ [])
            (in_order (is_before c.survey.fields) (reached_beyond c (next_paths c path ++ rest)))))) (sym none) ∙ turn;
      }
        where
          new-fit : (x : List Bool) → IsIn x (fold (placed (is_before c.survey.fields)) rest (next_paths c path)) → length x ≤ field_count c
          new-fit x there = elim (in-folded (is_before c.survey.fields) (before-total c) (before-chain c) (before-equal c) x rest (next_paths c path) there) [
            | inl at ↦ searching.fit x (inr at)
            | inr at ↦ next-fits c path x (searching.fit path (inl refl)) at
          ]

      pub searching-less : left c new < left c ends
      searching-less =
          let first = first-end c path (path ∷ rest) rest (searching.fit path (inl refl)) (IsPermutation-refl (path ∷ rest)) searching.sorted.0 in
          omega (
            arith,
            ap (λ (ps : List (List Bool)). length ps) same,
            ap (λ (ps : List (List Bool)). length ps) first,
            ap (λ (ps : List (List Bool)). left c ps) is,
          )
