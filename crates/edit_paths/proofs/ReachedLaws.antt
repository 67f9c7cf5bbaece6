use Rattle.std.proofs.Common.{Bool, List, [], ap, append-nil, append_assoc, arith, false, if◌then◌else◌, inl, inr, length, not, refl, slice_index_or, subst}
use Rattle.std.proofs.Common.{suc, sym, take, true, zero, ℕ, ◌&&◌, ◌++◌, ◌+◌, ◌-◌, ◌<◌, ◌==◌, ◌↔◌, ◌∙◌, ◌∷◌, ◌≡◌, ◌≤◌}
use Rattle.std.specs.List.{flat_map, fold, sum_by}
use Rattle.std.specs.List.Sorted.{IsPermutation}
use Rattle.std.proofs.lemmas.Bool.Decides.{Decides-eqb}
use Rattle.std.proofs.lemmas.List.Sorted.{IsPermutation-refl, IsPermutation-sym, sum_by-IsPermutation}
use Rattle.std.proofs.lemmas.List.Sums.{sum_by-cons}
use Rattle.std.specs.Option.{unwrap_or}
use Rattle.edit_line.specs.Reductions.{IsIn}
use Rattle.edit_line.proofs.Members.{in-either, in-left, in-right}
use Rattle.edit_line.proofs.Members.{in-flat_map-out}
use Rattle.edit_paths.specs.Cases.{SearchCase}
use Rattle.edit_paths.specs.ReachedPaths.{AreInOrder, IsReached, changed_next, in_order, is_before, kept_next, placed, reached_from, reached_paths}
use Rattle.edit_paths.specs.Outcomes.{end_at, outcome_from, outcome_of}
use Rattle.edit_paths.specs.Paths.{field_count, is_complete}
use Rattle.edit_paths.specs.PathStates.{is_open}
use Rattle.edit_paths.specs.States.{state_of}
use Rattle.edit_paths.specs.declared.state.PathState.{PathState}
use Rattle.edit_paths.specs.declared.state.PathState.TheVariants.{ClosedBad, ClosedBox, ClosedLine, Open, Overflows}
use Rattle.std.proofs.Math.Seq.{take-append_seam, take-length, take-suc}
use Rattle.std.proofs.lemmas.List.{length-take-le, nil_from_length}
use Rattle.edit_paths.specs.Walks.{next_paths, walk}
use Rattle.edit_paths.proofs.LetterLaws.{longer}
use Rattle.edit_paths.proofs.OrderLaws.{count, count-append, folded-sorted, in-folded, in-order, in_order-sorted, least-first, out-order, permuted-folded}
use Rattle.edit_paths.proofs.OrderLaws.{same-order}
use Rattle.edit_paths.proofs.PathOrder.{before-chain, before-equal, before-extends, before-total}

-- The reached paths in their order, as a best-first walk takes them.

-- the reached paths from these on, where these are reached
abbrev pub reached_beyond : SearchCase → List (List Bool) → List (List Bool)
reached_beyond c ends = flat_map (λ path. reached_from c (field_count c - length path) path) ends

module _ (c : SearchCase) where
  abbrev order : List (List Bool) → List (List Bool)
  order paths = in_order (is_before c.survey.fields) paths

  -- ---- the paths beyond a path

  abbrev beyond : List Bool → List (List Bool)
  beyond path = reached_from c (field_count c - length path) path

  -- a path, and those beyond the paths that it leads on to
  beyond-next : (path : List Bool) → length path ≤ field_count c → beyond path ≡ path ∷ reached_beyond c (next_paths c path)
  beyond-next path fits = by (field_count c - length path) refl
    where
      by : (left : ℕ) → field_count c - length path ≡ left → reached_from c left path ≡ path ∷ reached_beyond c (next_paths c path)
      by zero e = ap (λ (ps : List (List Bool)). path ∷ ps)
          (sym (ap (λ b. reached_beyond c (if is_open (state_of c path) && not b then kept_next path ∷ changed_next path ∷ [] else [])) full
          ∙ none (is_open (state_of c path))))
        where
          full : is_complete c path ≡ true
          full = (Decides-eqb (length path) (field_count c)).1 (omega (arith, e, fits))

          none : (o : Bool) → reached_beyond c (if o && not true then kept_next path ∷ changed_next path ∷ [] else []) ≡ []
          none true = refl
          none false = refl
      by (suc left) e = ap (λ (ps : List (List Bool)). path ∷ ps) (at (is_open (state_of c path))
          ∙ sym (ap (λ b. reached_beyond c (if is_open (state_of c path) && not b then kept_next path ∷ changed_next path ∷ [] else [])) open_end))
        where
          open_end : is_complete c path ≡ false
          open_end = other (is_complete c path) refl
            where
              other : (b : Bool) → is_complete c path ≡ b → b ≡ false
              other true is = absurd (omega (arith, e, (Decides-eqb (length path) (field_count c)).0 is))
              other false is = refl

          one : (b : Bool) → reached_from c left (path ++ b ∷ []) ≡ beyond (path ++ b ∷ [])
          one b = ap (λ n. reached_from c n (path ++ b ∷ [])) (omega (arith, e, longer path b))

          at : (o : Bool) → (if o then reached_from c left (kept_next path) ++ reached_from c left (changed_next path) else [])
              ≡ reached_beyond c (if o && not false then kept_next path ∷ changed_next path ∷ [] else [])
          at true =
              ap (λ (ps : List (List Bool)). ps ++ reached_from c left (changed_next path)) (one false)
              ∙ ap (λ (ps : List (List Bool)). beyond (kept_next path) ++ ps) (one true ∙ sym (append-nil (beyond (changed_next path))))
          at false = refl

  -- what lies beyond a path extends it
  extends : (left : ℕ) (path y : List Bool) → IsIn y (reached_from c left path) → (z : List Bool) × (y ≡ path ++ z)
  extends zero path y (inl same) = ([], same ∙ sym (append-nil path))
  extends zero path y (inr none) = absurd none
  extends (suc left) path y (inl same) = ([], same ∙ sym (append-nil path))
  extends (suc left) path y (inr there) = by (is_open (state_of c path)) (extends left (kept_next path) y) (extends left (changed_next path) y) there
    where
      on : (b : Bool) → (z : List Bool) × (y ≡ (path ++ b ∷ []) ++ z) → (z : List Bool) × (y ≡ path ++ z)
      on b (z, same) = (b ∷ z, same ∙ append_assoc path (b ∷ []) z)

      by : (o : Bool) → (IsIn y (reached_from c left (kept_next path)) → (z : List Bool) × (y ≡ kept_next path ++ z))
          → (IsIn y (reached_from c left (changed_next path)) → (z : List Bool) × (y ≡ changed_next path ++ z))
          → IsIn y (if o then reached_from c left (kept_next path) ++ reached_from c left (changed_next path) else []) → (z : List Bool) × (y ≡ path ++ z)
      by true kept changed h = elim (in-either y (reached_from c left (kept_next path)) (reached_from c left (changed_next path)) h)
          [ inl at ↦ on false (kept at) | inr at ↦ on true (changed at) ]
      by false kept changed h = absurd h

  beyond-after : (path y : List Bool) → IsIn y (beyond path) → is_before c.survey.fields path y ≡ true
  beyond-after path y there = let (z, same) = extends (field_count c - length path) path y there in
      subst (λ (q : List Bool). is_before c.survey.fields path q ≡ true) (sym same) (before-extends c path z)

  next-after : (path x : List Bool) → IsIn x (next_paths c path) → is_before c.survey.fields path x ≡ true
  next-after path x there = by (is_open (state_of c path) && not (is_complete c path)) there
    where
      by : (b : Bool) → IsIn x (if b then kept_next path ∷ changed_next path ∷ [] else []) → is_before c.survey.fields path x ≡ true
      by true (inl same) = subst (λ (q : List Bool). is_before c.survey.fields path q ≡ true) (sym same) (before-extends c path (false ∷ []))
      by true (inr (inl same)) = subst (λ (q : List Bool). is_before c.survey.fields path q ≡ true) (sym same) (before-extends c path (true ∷ []))
      by true (inr (inr none)) = absurd none
      by false h = absurd h

  -- ---- the paths beyond several

  abbrev times : List Bool → List (List Bool) → ℕ
  times a paths = count (is_before c.survey.fields) (before-total c) (before-chain c) (before-equal c) a paths

  times-beyond : (a : List Bool) (ends : List (List Bool)) → times a (reached_beyond c ends) ≡ sum_by (λ path. times a (beyond path)) ends
  times-beyond a [] = refl
  times-beyond a (path ∷ ends) =
      let rest = times-beyond a ends in
      omega (
        arith,
        rest,
        count-append (is_before c.survey.fields) (before-total c) (before-chain c) (before-equal c) a (beyond path) (reached_beyond c ends),
        sum_by-cons (λ path. times a (beyond path)) path ends,
      )

  pub same_ends : (first second : List (List Bool)) → IsPermutation first second → order (reached_beyond c first) ≡ order (reached_beyond c second)
  same_ends first second moved =
      same-order (is_before c.survey.fields) (before-total c) (before-chain c) (before-equal c) (reached_beyond c first) (reached_beyond c second)
      (λ a. times-beyond a first ∙ sym (sum_by-IsPermutation (λ path. times a (beyond path)) first second moved) ∙ sym (times-beyond a second))

  -- where an end comes before all others, it is the first of the reached paths; the others lie beyond the other ends and those that it leads on to
  pub first-end : (path : List Bool) (ends rest : List (List Bool)) → length path ≤ field_count c → IsPermutation ends (path ∷ rest)
      → ((x : List Bool) → IsIn x rest → is_before c.survey.fields path x ≡ true)
      → order (reached_beyond c ends) ≡ path ∷ order (reached_beyond c (next_paths c path ++ rest))
  first-end path ends rest fits moved least =
      same_ends ends (path ∷ rest) moved
      ∙ ap (λ (ps : List (List Bool)). order (ps ++ reached_beyond c rest)) (beyond-next path fits)
      ∙ least-first (is_before c.survey.fields) (before-total c) (before-chain c) (before-equal c) path
      (reached_beyond c (next_paths c path) ++ reached_beyond c rest) after
      ∙ ap (λ (ps : List (List Bool)). path ∷ order ps) (sym (beyond-append (next_paths c path) rest))
    where
      beyond-append : (first second : List (List Bool)) → reached_beyond c (first ++ second) ≡ reached_beyond c first ++ reached_beyond c second
      beyond-append [] second = refl
      beyond-append (x ∷ first) second = ap (λ (ps : List (List Bool)). beyond x ++ ps) (beyond-append first second)
          ∙ sym (append_assoc (beyond x) (reached_beyond c first) (reached_beyond c second))

      after_all : (ends : List (List Bool)) → ((x : List Bool) → IsIn x ends → is_before c.survey.fields path x ≡ true) → (y : List Bool)
          → IsIn y (reached_beyond c ends) → is_before c.survey.fields path y ≡ true
      after_all ends each y there =
          let (x, at, from) = in-flat_map-out (λ path. beyond path) y ends there in
          before-chain c path x y (each x at) (beyond-after x y from)

      after : (y : List Bool) → IsIn y (reached_beyond c (next_paths c path) ++ reached_beyond c rest) → is_before c.survey.fields path y ≡ true
      after y there = elim (in-either y (reached_beyond c (next_paths c path)) (reached_beyond c rest) there) [
        | inl at ↦ after_all (next_paths c path) (next-after path) y at
        | inr at ↦ after_all rest least y at
      ]

  -- ---- the walk

  -- all reached paths lie beyond the empty one
  pub all-reached : reached_paths c ≡ order (reached_beyond c ([] ∷ []))
  all-reached = ap (λ (ps : List (List Bool)). order ps) (sym (append-nil (beyond []) ∙ ap (λ n. reached_from c n []) (omega arith)))

  -- one turn: the first end is the next of the reached paths, and those that it leads on to are new ends
  pub walk-turn : (taken : List (List Bool)) (path : List Bool) (ends rest : List (List Bool)) → length path ≤ field_count c → IsPermutation ends (path ∷ rest)
      → ((x : List Bool) → IsIn x rest → is_before c.survey.fields path x ≡ true)
      → taken ++ order (reached_beyond c ends) ≡ reached_paths c → (taken ++ path ∷ []) ++ order (reached_beyond c (next_paths c path ++ rest))
      ≡ reached_paths c
  walk-turn taken path ends rest fits moved least before =
      append_assoc taken (path ∷ []) (order (reached_beyond c (next_paths c path ++ rest)))
      ∙ ap (λ (ps : List (List Bool)). taken ++ ps) (sym (first-end path ends rest fits moved least)) ∙ before

  -- the paths that a path leads on to are no longer than the fields
  pub next-fits : (path x : List Bool) → length path ≤ field_count c → IsIn x (next_paths c path) → length x ≤ field_count c
  next-fits path x fits there = by (is_open (state_of c path)) (is_complete c path) refl there
    where
      by : (o b : Bool) → is_complete c path ≡ b → IsIn x (if o && not b then kept_next path ∷ changed_next path ∷ [] else []) → length x ≤ field_count c
      by true false e (inl same) = omega (
        arith,
        ap (λ (p : List Bool). length p) same,
        longer path false,
        short (λ whole. cc (sym e ∙ (Decides-eqb (length path) (field_count c)).1 whole)),
      )
        where
          short : (length path ≡ field_count c → ⊥) → length path < field_count c
          short other = omega (arith, fits, other)
      by true false e (inr (inl same)) = omega (
        arith,
        ap (λ (p : List Bool). length p) same,
        longer path true,
        short (λ whole. cc (sym e ∙ (Decides-eqb (length path) (field_count c)).1 whole)),
      )
        where
          short : (length path ≡ field_count c → ⊥) → length path < field_count c
          short other = omega (arith, fits, other)
      by true false e (inr (inr none)) = absurd none
      by true true e h = absurd h
      by false b e h = absurd h

  walk-all : (more : ℕ) (ends : List (List Bool)) → ((x : List Bool) → IsIn x ends → length x ≤ field_count c) → AreInOrder (is_before c.survey.fields) ends
      → length (order (reached_beyond c ends)) ≤ more → walk c more ends ≡ order (reached_beyond c ends)
  walk-all zero ends fit sorted few = sym (nil_from_length (order (reached_beyond c ends)) (omega (arith, few)))
  walk-all (suc more) [] fit sorted few = refl
  walk-all (suc more) (path ∷ rest) fit sorted few =
      ap (λ (ps : List (List Bool)). path ∷ ps) (walk-all more (fold (placed (is_before c.survey.fields)) rest (next_paths c path)) new-fit
      (folded-sorted (is_before c.survey.fields) (before-total c) (before-chain c) (before-equal c) rest (next_paths c path) sorted.1)
      (omega (arith, few, ap (λ (ps : List (List Bool)). length ps) is, ap (λ (ps : List (List Bool)). length ps) same)) ∙ same) ∙ sym is
    where
      is : order (reached_beyond c (path ∷ rest)) ≡ path ∷ order (reached_beyond c (next_paths c path ++ rest))
      is = first-end path (path ∷ rest) rest (fit path (inl refl)) (IsPermutation-refl (path ∷ rest)) sorted.0

      same : order (reached_beyond c (fold (placed (is_before c.survey.fields)) rest (next_paths c path)))
          ≡ order (reached_beyond c (next_paths c path ++ rest))
      same = same_ends _ _ (IsPermutation-sym _ _ (permuted-folded (is_before c.survey.fields) (before-total c) (before-chain c) (before-equal c) rest
          (next_paths c path)))

      new-fit : (x : List Bool) → IsIn x (fold (placed (is_before c.survey.fields)) rest (next_paths c path)) → length x ≤ field_count c
      new-fit x there = elim (in-folded (is_before c.survey.fields) (before-total c) (before-chain c) (before-equal c) x rest (next_paths c path) there) [
        | inl at ↦ fit x (inr at)
        | inr at ↦ next-fits path x (fit path (inl refl)) at
      ]

  -- a best-first walk from the empty path on takes the reached paths in their order
  pub best-first : walk c (length (reached_paths c)) ([] ∷ []) ≡ reached_paths c
  best-first =
      walk-all (length (reached_paths c)) ([] ∷ []) fit (λ y none. absurd none, tt) (omega (arith, ap (λ (ps : List (List Bool)). length ps) all-reached))
      ∙ sym all-reached
    where
      fit : (x : List Bool) → IsIn x ([] ∷ []) → length x ≤ field_count c
      fit x (inl same) = omega (arith, ap (λ (p : List Bool). length p) same)
      fit x (inr none) = absurd none

  -- ---- which paths are reached

  start-in : (left : ℕ) (path : List Bool) → IsIn path (reached_from c left path)
  start-in zero path = inl refl
  start-in (suc left) path = inl refl

  step-in : (left : ℕ) (root path : List Bool) (b : Bool) → length root + left ≡ field_count c → IsIn path (reached_from c left root)
      → is_open (state_of c path) ≡ true → length path < field_count c
      → IsIn (path ++ b ∷ []) (reached_from c left root)
  step-in zero root path b sum (inl same) opened short = absurd (omega (arith, sum, short, ap (λ (p : List Bool). length p) same))
  step-in zero root path b sum (inr none) opened short = absurd none
  step-in (suc left) root path b sum (inl same) opened short =
      inr (subst (λ o. IsIn (path ++ b ∷ []) (if o then reached_from c left (kept_next root) ++ reached_from c left (changed_next root) else []))
      (sym (ap (λ (p : List Bool). is_open (state_of c p)) (sym same) ∙ opened)) (at b))
    where
      own : (b : Bool) → IsIn (path ++ b ∷ []) (reached_from c left (root ++ b ∷ []))
      own b = subst (λ (p : List Bool). IsIn (p ++ b ∷ []) (reached_from c left (root ++ b ∷ []))) (sym same) (start-in left (root ++ b ∷ []))

      at : (b : Bool) → IsIn (path ++ b ∷ []) (reached_from c left (kept_next root) ++ reached_from c left (changed_next root))
      at false = in-left _ (reached_from c left (kept_next root)) (reached_from c left (changed_next root)) (own false)
      at true = in-right _ (reached_from c left (kept_next root)) (reached_from c left (changed_next root)) (own true)
  step-in (suc left) root path b sum (inr there) opened short =
      inr (by (is_open (state_of c root)) (λ h. step-in left (kept_next root) path b (omega (arith, sum, longer root false)) h opened short)
      (λ h. step-in left (changed_next root) path b (omega (arith, sum, longer root true)) h opened short) there)
    where
      by : (o : Bool) → (IsIn path (reached_from c left (kept_next root)) → IsIn (path ++ b ∷ []) (reached_from c left (kept_next root)))
          → (IsIn path (reached_from c left (changed_next root)) → IsIn (path ++ b ∷ []) (reached_from c left (changed_next root)))
          → IsIn path (if o then reached_from c left (kept_next root) ++ reached_from c left (changed_next root) else [])
          → IsIn (path ++ b ∷ []) (if o then reached_from c left (kept_next root) ++ reached_from c left (changed_next root) else [])
      by true kept changed h = elim (in-either path (reached_from c left (kept_next root)) (reached_from c left (changed_next root)) h) [
        | inl at ↦ in-left _ (reached_from c left (kept_next root)) (reached_from c left (changed_next root)) (kept at)
        | inr at ↦ in-right _ (reached_from c left (kept_next root)) (reached_from c left (changed_next root)) (changed at)
      ]
      by false kept changed h = absurd h

  pub empty-reached : IsIn [] (reached_paths c)
  empty-reached = in-order (is_before c.survey.fields) (before-total c) (before-chain c) (before-equal c) [] (reached_from c (field_count c) [])
      (start-in (field_count c) [])

  -- an open path that is reached leads on to reached ones
  pub next-reached : (path : List Bool) (b : Bool) → IsIn path (reached_paths c) → is_open (state_of c path) ≡ true → length path < field_count c
      → IsIn (path ++ b ∷ []) (reached_paths c)
  next-reached path b there opened short =
      in-order (is_before c.survey.fields) (before-total c) (before-chain c) (before-equal c) (path ++ b ∷ []) (reached_from c (field_count c) [])
      (step-in (field_count c) [] path b (omega arith) (out-order (is_before c.survey.fields) (before-total c) (before-chain c) (before-equal c) path
      (reached_from c (field_count c) []) there) opened short)

  -- each reached path comes before the later ones
  pub reached-sorted : AreInOrder (is_before c.survey.fields) (reached_paths c)
  reached-sorted = in_order-sorted (is_before c.survey.fields) (before-total c) (before-chain c) (before-equal c) (reached_from c (field_count c) [])

  -- ---- the search

  -- one turn of a search: the first end is the next path that is taken
  pub search-turn : (budget : ℕ) (taken : List (List Bool)) (path : List Bool) (ends rest : List (List Bool)) → length path ≤ field_count c
      → IsPermutation ends (path ∷ rest) → ((x : List Bool) → IsIn x rest → is_before c.survey.fields path x ≡ true)
      → outcome_from c budget taken (order (reached_beyond c ends))
      ≡ (unwrap_or (end_at c budget taken path) (outcome_from c budget (taken ++ path ∷ []) (order (reached_beyond c (next_paths c path ++ rest)))))
  search-turn budget taken path ends rest fits moved least = ap (λ (ps : List (List Bool)). outcome_from c budget taken ps)
      (first-end path ends rest fits moved least)

  -- it begins at the empty path
  pub search-start : (budget : ℕ) → outcome_of c budget ≡ outcome_from c budget [] (order (reached_beyond c ([] ∷ [])))
  search-start budget = ap (λ (ps : List (List Bool)). outcome_from c budget [] ps) all-reached

  -- ---- a path is reached where all its proper prefixes are open

  prefix-open : (left : ℕ) (root p : List Bool) → IsIn p (reached_from c left root) → (length p ≤ length root + left)
      × ((k : ℕ) → length root ≤ k → k < length p → is_open (state_of c (take k p)) ≡ true)
  prefix-open zero root p (inl same) =
      (omega (arith, ap (λ (q : List Bool). length q) same), λ k low high. absurd (omega (arith, low, high, ap (λ (q : List Bool). length q) same)))
  prefix-open zero root p (inr none) = absurd none
  prefix-open (suc left) root p (inl same) =
      (omega (arith, ap (λ (q : List Bool). length q) same), λ k low high. absurd (omega (arith, low, high, ap (λ (q : List Bool). length q) same)))
  prefix-open (suc left) root p (inr there) = by (is_open (state_of c root)) refl (λ h. prefix-open left (kept_next root) p h)
      (λ h. prefix-open left (changed_next root) p h) there
    where
      more : (b : Bool) → is_open (state_of c root) ≡ true → IsIn p (reached_from c left (root ++ b ∷ []))
          → (length p ≤ length (root ++ b ∷ []) + left) × ((k : ℕ) → length (root ++ b ∷ []) ≤ k → k < length p → is_open (state_of c (take k p)) ≡ true)
          → (length p ≤ length root + suc left) × ((k : ℕ) → length root ≤ k → k < length p → is_open (state_of c (take k p)) ≡ true)
      more b opened at (fits, each) = (omega (arith, fits, longer root b), λ k low high. here k low high (length root == k) refl)
        where
          here : (k : ℕ) → length root ≤ k → k < length p → (e : Bool) → (length root == k) ≡ e → is_open (state_of c (take k p)) ≡ true
          here k low high true e =
              let (z, same) = extends left (root ++ b ∷ []) p at in
              ap (λ (q : List Bool). is_open (state_of c q)) (ap (λ n. take n p) (sym ((Decides-eqb (length root) k).0 e))
              ∙ ap (λ (q : List Bool). take (length root) q) (same ∙ append_assoc root (b ∷ []) z) ∙ take-append_seam root (b ∷ z)) ∙ opened
          here k low high false e = each k (omega (arith, longer root b, low, other (λ is. absurd (cc (sym e ∙ (Decides-eqb (length root) k).1 is))))) high
            where
              other : (length root ≡ k → ⊥) → length root < k
              other h = omega (arith, low, h)

      by : (o : Bool) → is_open (state_of c root) ≡ o → (IsIn p (reached_from c left (kept_next root)) → (length p ≤ length (kept_next root) + left)
          × ((k : ℕ) → length (kept_next root) ≤ k → k < length p → is_open (state_of c (take k p)) ≡ true))
          → (IsIn p (reached_from c left (changed_next root)) → (length p ≤ length (changed_next root) + left)
          × ((k : ℕ) → length (changed_next root) ≤ k → k < length p → is_open (state_of c (take k p)) ≡ true))
          → IsIn p (if o then reached_from c left (kept_next root) ++ reached_from c left (changed_next root) else [])
          → (length p ≤ length root + suc left) × ((k : ℕ) → length root ≤ k → k < length p → is_open (state_of c (take k p)) ≡ true)
      by true opened kept changed h = elim (in-either p (reached_from c left (kept_next root)) (reached_from c left (changed_next root)) h)
          [ inl at ↦ more false opened at (kept at) | inr at ↦ more true opened at (changed at) ]
      by false opened kept changed h = absurd h

  opens : (s : PathState) → is_open s ≡ true → s ≡ Open
  opens Open h = refl
  opens ClosedBad h = absurd (cc)
  opens (ClosedLine i) h = absurd (cc)
  opens (ClosedBox i) h = absurd (cc)
  opens (Overflows e) h = absurd (cc)

  prefixes-reached : (p : List Bool) → length p ≤ field_count c → IsReached c p → (k : ℕ) → k ≤ length p → IsIn (take k p) (reached_paths c)
  prefixes-reached p fits reached zero few = subst (λ (q : List Bool). IsIn q (reached_paths c)) refl empty-reached
  prefixes-reached p fits reached (suc k) few =
      subst (λ (q : List Bool). IsIn q (reached_paths c)) (sym (take-suc p k false (omega arith)))
      (next-reached (take k p) (slice_index_or p k false) (prefixes-reached p fits reached k (omega arith)) (ap is_open (reached k (grind (arith, few))))
      (omega (arith, few, fits, length-take-le k p (omega arith))))

  -- the list has just the paths, of the fields at hand, all whose proper prefixes are open
  pub reached-are : (p : List Bool) → IsIn p (reached_paths c) ↔ ((length p ≤ field_count c) × IsReached c p)
  reached-are p = (
    λ there.
        let (fits, each) = prefix-open (field_count c) [] p (out-order (is_before c.survey.fields) (before-total c) (before-chain c) (before-equal c) p
        (reached_from c (field_count c) []) there) in
        (omega (arith, fits), λ k below. opens (state_of c (take k p)) (each k (omega arith) (grind (arith, below)))),
    λ both. subst (λ (q : List Bool). IsIn q (reached_paths c)) (take-length p) (prefixes-reached p both.0 both.1 (length p) (omega arith)),
  )
