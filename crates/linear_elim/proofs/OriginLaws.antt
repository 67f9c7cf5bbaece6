use Rattle.std.proofs.Common.{◌≡◌, ◌+◌, ◌||◌, not, Bool, true, false, if◌then◌else◌, IsSomeAnd, slice_get, ℕ, suc, List, [], ◌∷◌, inl, inr, Option}
use Rattle.std.proofs.Common.{Some, None, Result, Ok, Err, refl, sym, ap, ◌∙◌, subst, arith}
use Rattle.std.specs.List.{list_any}
use Rattle.edit_line.specs.Lines.{HasShape, HaveShape, factor}
use Rattle.edit_line.specs.Reductions.{IsIn, lines_of, reduce_derived, with_derived}
use Rattle.edit_line.specs.Shapes.{Domain}
use Rattle.edit_line.specs.Subsumption.{is_trivial, subsumes}
use Rattle.edit_line.specs.declared.derived.Derived.{Derived}
use Rattle.edit_line.specs.declared.derived.Origin.TheVariants.{Same}
use Rattle.edit_line.proofs.ListPlaces.{StandsAt, first-at, later-at, whole-at}
use Rattle.edit_line.proofs.Members.{all-in, in-all, in-either, in-get, in-map, in-reduced, in-taken}
use Rattle.edit_line.specs.Combinations.{first_overflow, numbers, unless_overflow}
use Rattle.linear_elim.specs.Combinations.{combination, combine_result, combined_with, first_multiplier, is_flat, is_lower, second_multiplier}
use Rattle.linear_elim.specs.Origins.{AllComeFrom, ComesFrom, IsTakenSum}
use Rattle.linear_elim.specs.Steps.{StepOverflow, collect, eliminated_result, equality_from, flat_from, is_opposite, made_result, made_with}
use Rattle.linear_elim.specs.Steps.{pair_result, paired, reduced_result, row_result, step_result, substituted_result, substitutes}
use Rattle.edit_line.proofs.BoolLaws.{both_true}
use Rattle.edit_line.proofs.RelationLaws.{is_equal-Decides}
use Rattle.linear_elim.proofs.EqualityPlaces.{equality-at}
use Rattle.linear_elim.proofs.PairLaws.{IsAllowedPair, combination_divisor, equality-allowed, opposite-allowed}
use Rattle.linear_elim.proofs.ResultLaws.{followed, joined, ok_same}
use Rattle.linear_elim.proofs.StepLaws.{above_tells, below_tells, stands_tells}
use Rattle.linear_elim.proofs.TakenSums.{combination-taken}

-- The origins of a step's lines name what was combined.

-- ---- places in a list

some_at : {X : Type 0} (P : X → Type 0) (o : Option X) (x : X) → o ≡ Some x → P x → IsSomeAnd o P
some_at P o x e h = subst (λ o. IsSomeAnd o P) (sym e) h

-- what holds of all that each element gives
pub collect-all : {X Y F : Type 0} (P : Y → Type 0) (each : ℕ → X → Result (List Y) F) (whole : List X) (i : ℕ) (xs : List X) (ys : List Y)
    → StandsAt whole i xs
    → ((j : ℕ) (x : X) (zs : List Y) → slice_get whole j ≡ Some x → each j x ≡ Ok zs → (y : Y) → IsIn y zs → P y)
    → collect each i xs ≡ Ok ys → (y : Y) → IsIn y ys → P y
collect-all {X} {Y} P each whole i [] ys at gives e y there = absurd (subst (λ (zs : List Y). IsIn y zs) (ok_same ys [] (Ok []) e refl) there)
collect-all {X} {Y} P each whole i (x ∷ xs) ys at gives e y there =
    let (first, rest, first_is, rest_is, joined_is) = followed (each i x) (collect each (suc i) xs) ys e in
    elim (in-either y first rest (subst (λ (zs : List Y). IsIn y zs) joined_is there)) [
      | inl early ↦ gives i x first (first-at whole i x xs at) first_is y early
      | inr late ↦ collect-all P each whole (suc i) xs rest (later-at whole i x xs at) gives rest_is y late
    ]

-- ---- what reduction leaves was there

-- each reduced line is one of the lines, with its origin
pub derived-from : (d : Derived) (lines : List Derived) → IsIn d (reduce_derived lines) → IsIn d lines
derived-from d lines h =
    in-reduced with_derived (λ x new kept. in-taken (is_trivial new.line || list_any (λ (a : Derived). subsumes a.line new.line) kept)
    (λ (b : Derived). not (subsumes new.line b.line)) x new kept) d lines h

-- ---- the origins of a step

module _ (shape : List Domain) (lines : List Derived) (f : ℕ) (over : HaveShape shape (lines_of lines)) where
  has : (i : ℕ) (s : Derived) → slice_get lines i ≡ Some s → HasShape shape s.line
  has i s at = in-all (λ l. HasShape shape l) s.line (lines_of lines) over (in-map (λ (d : Derived). d.line) s lines (in-get s lines i at))

  flat-comes : (i : ℕ) (rest : List Derived) → StandsAt lines i rest → (d : Derived) → IsIn d (flat_from f i rest) → ComesFrom lines d.line d.origin
  flat-comes i [] at d there = absurd there
  flat-comes i (s ∷ rest) at d there = by (is_flat f s.line) (flat-comes (suc i) rest (later-at lines i s rest at) d) there
    where
      by : (b : Bool) → (IsIn d (flat_from f (suc i) rest) → ComesFrom lines d.line d.origin)
          → IsIn d (if b then record { line = s.line; origin = Same i } ∷ flat_from f (suc i) rest else flat_from f (suc i) rest)
          → ComesFrom lines d.line d.origin
      by true later (inl same) =
          subst (λ (e : Derived). ComesFrom lines e.line e.origin) (sym same)
          (some_at (λ (t : Derived). s.line ≡ t.line) (slice_get lines i) s (first-at lines i s rest at) refl)
      by true later (inr there) = later there
      by false later there = later there

  pair-comes : (made : Bool) (i : ℕ) (s : Derived) (j : ℕ) (t : Derived) (zs : List Derived) → slice_get lines i ≡ Some s → slice_get lines j ≡ Some t
      → (made ≡ true → IsAllowedPair f s.line t.line)
      → (if made then paired s.line.shape i j (combine_result s.line t.line f) else Ok []) ≡ Ok zs → (d : Derived) → IsIn d zs → ComesFrom lines d.line d.origin
  pair-comes made i s j t zs s_at t_at allowed e d there =
      by made (first_overflow 0 (first_multiplier s.line t.line f) (second_multiplier s.line t.line f) (numbers s.line) (numbers t.line)) refl refl e
    where
      sum : made ≡ true → first_overflow 0 (first_multiplier s.line t.line f) (second_multiplier s.line t.line f) (numbers s.line) (numbers t.line) ≡ None
          → IsTakenSum (first_multiplier s.line t.line f) (second_multiplier s.line t.line f) (combination_divisor s.line t.line f) s.line t.line
          (combination s.line t.line f)
      sum is fits =
          combination-taken s.line t.line f ((has j t t_at).same ∙ sym (has i s s_at).same) ((has i s s_at).factors ∙ sym (has j t t_at).factors)
          (allowed is) fits

      one : (new : Derived) → ComesFrom lines new.line new.origin → IsIn d (new ∷ []) → ComesFrom lines d.line d.origin
      one new comes (inl same) = subst (λ (e : Derived). ComesFrom lines e.line e.origin) (sym same) comes
      one new comes (inr none) = absurd none

      by : (b : Bool) (o : Option ℕ) → made ≡ b → first_overflow 0 (first_multiplier s.line t.line f) (second_multiplier s.line t.line f) (numbers s.line)
          (numbers t.line) ≡ o
          → (if b then paired s.line.shape i j (unless_overflow o
          (combined_with (first_multiplier s.line t.line f) (second_multiplier s.line t.line f) s.line t.line)) else Ok []) ≡ Ok zs
          → ComesFrom lines d.line d.origin
      by true None is fits e =
          one _ (some_at _ (slice_get lines i) s s_at (some_at _ (slice_get lines j) t t_at (sum is fits)))
          (subst (λ (ds : List Derived). IsIn d ds) (ok_same zs _ _ e refl) there)
      by true (Some place) is fits e = absurd (cc)
      by false o is fits e = absurd (subst (λ (ds : List Derived). IsIn d ds) (ok_same zs [] _ e refl) there)

  row-comes : (i : ℕ) (s : Derived) (zs : List Derived) → slice_get lines i ≡ Some s → row_result f lines i s ≡ Ok zs → (d : Derived) → IsIn d zs
      → ComesFrom lines d.line d.origin
  row-comes i s zs at e d there = by (is_lower f s.line) refl e
    where
      by : (b : Bool) → is_lower f s.line ≡ b → (if b then collect (pair_result f i s) 0 lines else Ok []) ≡ Ok zs → ComesFrom lines d.line d.origin
      by true lower e =
          collect-all (λ (d : Derived). ComesFrom lines d.line d.origin) (pair_result f i s) lines 0 lines zs (λ k. ap (λ n. slice_get lines n) (none_more k))
          (λ j t ys t_at is. pair-comes (is_opposite f s.line t.line) i s j t ys at t_at (λ opposite.
          let (upper, meet) = both_true _ _ opposite in opposite-allowed f s.line t.line (above_tells (factor s.line f) lower)
          (below_tells (factor t.line f) upper) meet) is) e d there
        where
          none_more : (k : ℕ) → 0 + k ≡ k
          none_more k = omega arith
      by false lower e = absurd (subst (λ (ds : List Derived). IsIn d ds) (ok_same zs [] _ e refl) there)

  -- a substitution comes from the equality and the other line
  substituted-comes : (e : ℕ × Derived) → equality_from f 0 lines ≡ Some e → (j : ℕ) (t : Derived) (zs : List Derived) → slice_get lines j ≡ Some t
      → substituted_result f e.0 e.1 j t ≡ Ok zs
      → (d : Derived) → IsIn d zs → ComesFrom lines d.line d.origin
  substituted-comes e found j t zs t_at is d there =
      let (e_at, test) = equality-at f lines 0 lines e (whole-at lines) found in
      let (equal, stands) = both_true _ _ test in
      pair-comes (substitutes f e.0 j t.line) e.0 e.1 j t zs e_at t_at (λ substituted.
      equality-allowed shape f e.1.line t.line (has e.0 e.1 e_at) (has j t t_at) ((is_equal-Decides e.1.line.relation).0 equal)
      (stands_tells (factor e.1.line f) stands) (stands_tells (factor t.line f) (both_true _ _ substituted).1)) is d there

  made-comes : (o : Option (ℕ × Derived)) (ys : List Derived) → equality_from f 0 lines ≡ o → made_with o lines f ≡ Ok ys → (d : Derived) → IsIn d ys
      → ComesFrom lines d.line d.origin
  made-comes (Some e) ys found is d there =
      collect-all (λ (d : Derived). ComesFrom lines d.line d.origin) (substituted_result f e.0 e.1) lines 0 lines ys (whole-at lines)
      (λ j t zs at made. substituted-comes e found j t zs at made) is d there
  made-comes None ys none is d there =
      collect-all (λ (d : Derived). ComesFrom lines d.line d.origin) (row_result f lines) lines 0 lines ys (whole-at lines)
      (λ j s zs at made. row-comes j s zs at made) is d there

  eliminated-comes : (ys : List Derived) → eliminated_result lines f ≡ Ok ys → (d : Derived) → IsIn d ys → ComesFrom lines d.line d.origin
  eliminated-comes ys e d there =
      let (rest, rest_is, joined_is) = joined (flat_from f 0 lines) (made_result lines f) ys e in
      elim (in-either d (flat_from f 0 lines) rest (subst (λ (ds : List Derived). IsIn d ds) joined_is there)) [
        | inl flat ↦ flat-comes 0 lines (λ k. ap (λ n. slice_get lines n) (none_more k)) d flat
        | inr new ↦ made-comes (equality_from f 0 lines) rest refl rest_is d new
      ]
    where
      none_more : (k : ℕ) → 0 + k ≡ k
      none_more k = omega arith

  -- each line of the step comes from the lines as its origin says
  pub origins-result : (ys : List Derived) → step_result lines f ≡ Ok ys → AllComeFrom lines ys
  origins-result ys e = by (eliminated_result lines f) refl e
    where
      by : (r : Result (List Derived) StepOverflow) → eliminated_result lines f ≡ r → reduced_result r ≡ Ok ys → AllComeFrom lines ys
      by (Ok zs) is e =
          all-in (λ (d : Derived). ComesFrom lines d.line d.origin) ys (λ d there.
          eliminated-comes zs is d (derived-from d zs (subst (λ (ds : List Derived). IsIn d ds) (ok_same ys (reduce_derived zs) _ e refl) there)))
      by (Err fault) is e = absurd (cc)
