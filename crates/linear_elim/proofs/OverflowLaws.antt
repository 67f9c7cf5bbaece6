use Rattle.std.proofs.Common.{◌≡◌, ◌+◌, ◌<◌, ◌==◌, Bool, true, false, if◌then◌else◌, slice_get, ℕ, zero, suc, ℤ, pos, List, [], ◌∷◌, get_or, Option}
use Rattle.std.proofs.Common.{Some, None, Result, Ok, Err, refl, sym, ap, ◌∙◌, subst, arith}
use Rattle.foundation.specs.Results.{◌>>=◌, fault_as}
use Rattle.edit_line.specs.EditSets.{base_lines}
use Rattle.edit_line.specs.Lines.{LineParts}
use Rattle.edit_line.specs.Places.{place_named}
use Rattle.edit_line.specs.Reductions.{reduce_derived}
use Rattle.edit_line.specs.Shapes.{number_fields}
use Rattle.edit_line.specs.declared.derived.Derived.{Derived}
use Rattle.edit_line.specs.Combinations.{numbers, first_overflow, sum_fits, unless_overflow}
use Rattle.linear_elim.specs.Combinations.{combine_result, combined_with, first_multiplier, is_lower, second_multiplier}
use Rattle.linear_elim.specs.Overflows.{AllPairsFit, AreCombined, combines, IsFirstOverflow, IsFirstPlace, IsFoldOverflow, overflow_of}
use Rattle.linear_elim.specs.Systems.{SystemOverflow, fold_result, overflow_at, system_of}
use Rattle.std.proofs.lemmas.Bool.Decides.{Decides-eqb}
use Rattle.edit_line.proofs.BoolLaws.{both_true, true-both}
use Rattle.edit_line.proofs.ListPlaces.{whole-at}
use Rattle.linear_elim.proofs.EqualityPlaces.{equality-at}
use Rattle.linear_elim.proofs.ResultLaws.{followed}
use Rattle.linear_elim.specs.Steps.{StepOverflow, collect, equality_from, flat_from, followed_by, is_opposite, made_result, made_with, pair_result}
use Rattle.linear_elim.specs.Steps.{paired, reduced_result, row_result, step_result, substituted_result, substitutes, with_more}

-- A step has no list exactly where a number of a combination leaves the range, and tells the first.

-- ---- the first fault of a list

some_same : {X : Type 0} (x y : X) (o : Option X) → o ≡ Some x → o ≡ Some y → x ≡ y
some_same x y o first second = cc

err_same : {A E : Type 0} (a b : E) (r : Result A E) → r ≡ Err a → r ≡ Err b → a ≡ b
err_same a b r first second = cc

-- the element's fault is the first
record IsFirstFault {X Y F : Type 0} (each : ℕ → X → Result (List Y) F) (i : ℕ) (xs : List X) (fault : F) : Type 0 where
  k : ℕ
  x : X
  at : slice_get xs k ≡ Some x
  fails : each (i + k) x ≡ Err fault
  before : (j : ℕ) (y : X) → j < k → slice_get xs j ≡ Some y → (ys : List Y) × (each (i + j) y ≡ Ok ys)

next_number : (i j : ℕ) → suc i + j ≡ i + suc j
next_number i j = omega arith

own_number : (i : ℕ) → i ≡ i + 0
own_number i = omega arith

module _ {X Y F : Type 0} (each : ℕ → X → Result (List Y) F) where
  -- where there is a list, each element gives one
  collect-each : (i : ℕ) (xs : List X) (ys : List Y) → collect each i xs ≡ Ok ys → (j : ℕ) (x : X) → slice_get xs j ≡ Some x
      → (zs : List Y) × (each (i + j) x ≡ Ok zs)
  collect-each i [] ys e j x at = absurd (cc)
  collect-each i (y ∷ xs) ys e zero x at =
      let (first, rest, first_is, rest_is, joined_is) = followed (each i y) (collect each (suc i) xs) ys e in
      (first, ap (λ k. each k x) (sym (own_number i)) ∙ ap (λ (z : X). each i z) (some_same x y (Some y) at refl) ∙ first_is)
  collect-each i (y ∷ xs) ys e (suc j) x at =
      let (first, rest, first_is, rest_is, joined_is) = followed (each i y) (collect each (suc i) xs) ys e in
      let (zs, is) = collect-each (suc i) xs rest rest_is j x at in
      (zs, ap (λ k. each k x) (sym (next_number i j)) ∙ is)

  -- and else the fault is the first
  collect-fails : (i : ℕ) (xs : List X) (fault : F) → collect each i xs ≡ Err fault → IsFirstFault each i xs fault
  collect-fails i [] fault e = absurd (cc)
  collect-fails i (y ∷ xs) fault e = by (each i y) (collect each (suc i) xs) refl refl e (collect-fails (suc i) xs fault)
    where
      none : (j : ℕ) → j < 0 → ⊥
      none j h = omega arith

      by : (r s : Result (List Y) F) → each i y ≡ r → collect each (suc i) xs ≡ s → followed_by r s ≡ Err fault
          → (collect each (suc i) xs ≡ Err fault → IsFirstFault each (suc i) xs fault) → IsFirstFault each i (y ∷ xs) fault
      by (Err other) s first rest h later = record {
        k = 0;
        x = y;
        at = refl;
        fails = ap (λ k. each k y) (sym (own_number i)) ∙ first ∙ h;
        before = λ j z below at. absurd (none j below);
      }
      by (Ok zs) (Ok more) first rest h later = absurd (cc)
      by (Ok zs) (Err other) first rest h later =
          let found = later (rest ∙ h) in
          record {
            k = suc found.k;
            x = found.x;
            at = found.at;
            fails = ap (λ k. each k found.x) (sym (next_number i found.k)) ∙ found.fails;
            before = before found;
          }
        where
          before : (found : IsFirstFault each (suc i) xs fault) (j : ℕ) (z : X) → j < suc found.k → slice_get (y ∷ xs) j ≡ Some z
              → (ws : List Y) × (each (i + j) z ≡ Ok ws)
          before found zero z below at = (zs, ap (λ k. each k z) (sym (own_number i)) ∙ ap (λ (w : X). each i w) (some_same z y (Some y) at refl) ∙ first)
          before found (suc j) z below at = let (ws, is) = found.before j z (omega arith) at in (ws, ap (λ k. each k z) (sym (next_number i j)) ∙ is)

-- ---- one pair

-- the combination of two lines at their places, if it is made
abbrev tried : Bool → ℕ → ℕ → Derived → ℕ → Derived → Result (List Derived) StepOverflow
tried made f i s j t = if made then paired s.line.shape i j (combine_result s.line t.line f) else Ok []

module _ (made : Bool) (f i : ℕ) (s : Derived) (j : ℕ) (t : Derived) where
  -- where a pair gives a list, no number leaves the range
  pair-fits : (zs : List Derived) → made ≡ true → tried made f i s j t ≡ Ok zs → overflow_of s.line t.line f ≡ None
  pair-fits zs is e = by made (overflow_of s.line t.line f) is e
    where
      by : (b : Bool) (o : Option ℕ) → b ≡ true
          → (if b then paired s.line.shape i j (unless_overflow o
          (combined_with (first_multiplier s.line t.line f) (second_multiplier s.line t.line f) s.line t.line)) else Ok []) ≡ Ok zs → o ≡ None
      by true None b_is e = refl
      by true (Some place) b_is e = absurd (cc)
      by false o b_is e = absurd (cc)

  -- and else the first number that does is told
  record ShowsPlace (o : StepOverflow) : Type 0 where
    is_made : made ≡ true
    number : ℕ
    leaves : overflow_of s.line t.line f ≡ Some number
    told : record { first = i; second = j; place = place_named (number_fields s.line.shape) number } ≡ o

  pair-fails : (o : StepOverflow) → tried made f i s j t ≡ Err o → ShowsPlace o
  pair-fails o e = by made (overflow_of s.line t.line f) refl refl e
    where
      by : (b : Bool) (found : Option ℕ) → made ≡ b → overflow_of s.line t.line f ≡ found
          → (if b then paired s.line.shape i j (unless_overflow found
          (combined_with (first_multiplier s.line t.line f) (second_multiplier s.line t.line f) s.line t.line)) else Ok []) ≡ Err o → ShowsPlace o
      by true None is leaves e = absurd (cc)
      by true (Some number) is leaves e = record { is_made = is; number = number; leaves = leaves; told = err_same _ o _ refl e }
      by false found is leaves e = absurd (cc)

-- ---- the first place of one pair

-- a place that is told is the first at which a number leaves the range
first-place : (i : ℕ) (m n : ℤ) (first second : List ℤ) (k : ℕ) → first_overflow i m n first second ≡ Some k
    → (place : ℕ) × (k ≡ i + place) × IsFirstPlace m n first second place
first-place i m n [] second k e = absurd (cc)
first-place i m n (a ∷ first) [] k e = absurd (cc)
first-place i m n (a ∷ first) (b ∷ second) k e = by (sum_fits m n a b) refl e (first-place (suc i) m n first second k)
  where
    none : (j : ℕ) → j < 0 → ⊥
    none j h = omega arith

    by : (fits : Bool) → sum_fits m n a b ≡ fits → (if fits then first_overflow (suc i) m n first second else Some i) ≡ Some k
        → (first_overflow (suc i) m n first second ≡ Some k → (place : ℕ) × (k ≡ suc i + place) × IsFirstPlace m n first second place)
        → (place : ℕ) × (k ≡ i + place) × IsFirstPlace m n (a ∷ first) (b ∷ second) place
    by false here e later =
        (0, some_same k i (Some i) e refl ∙ own_number i, record { here = here; within = omega arith; earlier = λ j below. absurd (none j below) })
    by true here e later =
        let (place, is, found) = later e in
        (suc place, is ∙ next_number i place, record { here = found.here; within = omega (arith, found.within); earlier = before place found })
      where
        before : (place : ℕ) → IsFirstPlace m n first second place → (j : ℕ) → j < suc place
            → sum_fits m n (get_or (a ∷ first) j (pos 0)) (get_or (b ∷ second) j (pos 0)) ≡ true
        before place found zero below = here
        before place found (suc j) below = found.earlier j (omega arith)

-- of two lines, the number that is told
pub overflow-first : (m n : ℤ) (first second : List ℤ) (k : ℕ) → first_overflow 0 m n first second ≡ Some k → IsFirstPlace m n first second k
overflow-first m n first second k e =
    let (place, is, found) = first-place 0 m n first second k e in
    subst (λ j. IsFirstPlace m n first second j) (sym (is ∙ from_start_of place)) found
  where
    from_start_of : (j : ℕ) → 0 + j ≡ j
    from_start_of j = omega arith

-- ---- one row, and all

module _ (lines : List Derived) (f : ℕ) where
  row-fits : (i : ℕ) (s : Derived) (zs : List Derived) → is_lower f s.line ≡ true → row_result f lines i s ≡ Ok zs
      → (j : ℕ) (t : Derived) → slice_get lines j ≡ Some t → is_opposite f s.line t.line ≡ true → overflow_of s.line t.line f ≡ None
  row-fits i s zs lower e j t at opposite = by (is_lower f s.line) lower e
    where
      by : (b : Bool) → b ≡ true → (if b then collect (pair_result f i s) 0 lines else Ok []) ≡ Ok zs → overflow_of s.line t.line f ≡ None
      by true b_is e = let (ws, is) = collect-each (pair_result f i s) 0 lines zs e j t at in pair-fits (is_opposite f s.line t.line) f i s (0 + j) t ws
          opposite is
      by false b_is e = absurd (cc)

  row-fails : (i : ℕ) (s : Derived) (o : StepOverflow) → row_result f lines i s ≡ Err o
      → (is_lower f s.line ≡ true) × IsFirstFault (pair_result f i s) 0 lines o
  row-fails i s o e = by (is_lower f s.line) refl e
    where
      by : (b : Bool) → is_lower f s.line ≡ b → (if b then collect (pair_result f i s) 0 lines else Ok []) ≡ Err o
          → (is_lower f s.line ≡ true) × IsFirstFault (pair_result f i s) 0 lines o
      by true lower e = (lower, collect-fails (pair_result f i s) 0 lines o e)
      by false lower e = absurd (cc)

  from_start : (k : ℕ) → 0 + k ≡ k
  from_start k = omega arith

  -- where an equality has the field, it is the one that is combined
  the_equality : (e : ℕ × Derived) (i j : ℕ) (s t : Derived) → equality_from f 0 lines ≡ Some e → slice_get lines i ≡ Some s
      → AreCombined lines f i s.line j t.line
      → (e.0 ≡ i) × (e.1 ≡ s) × (substitutes f e.0 j t.line ≡ true)
  the_equality e i j s t found s_at pair =
      let (place, substituted) = both_true (e.0 == i) _ (ap (λ o. combines o f i s.line j t.line) (sym found) ∙ pair) in
      let same : e.0 ≡ i = (Decides-eqb e.0 i).0 place in
      let at : slice_get lines i ≡ Some e.1 = subst (λ k. slice_get lines k ≡ Some e.1) same (equality-at f lines 0 lines e (whole-at lines) found).0 in
      (same, some_same e.1 s (slice_get lines i) at s_at, ap (λ k. substitutes f k j t.line) same ∙ substituted)

  -- where no number of a substitution leaves the range
  substituted-fits : (e : ℕ × Derived) (rest : List Derived) (i j : ℕ) (s t : Derived) → equality_from f 0 lines ≡ Some e
      → collect (substituted_result f e.0 e.1) 0 lines ≡ Ok rest
      → slice_get lines i ≡ Some s → slice_get lines j ≡ Some t → AreCombined lines f i s.line j t.line → overflow_of s.line t.line f ≡ None
  substituted-fits e rest i j s t found is s_at t_at pair =
      let (place, same, substituted) = the_equality e i j s t found s_at pair in
      let (zs, each) = collect-each (substituted_result f e.0 e.1) 0 lines rest is j t t_at in
      ap (λ (d : Derived). overflow_of d.line t.line f) (sym same)
      ∙ pair-fits (substitutes f e.0 (0 + j) t.line) f e.0 e.1 (0 + j) t zs (ap (λ k. substitutes f e.0 k t.line) (from_start j) ∙ substituted) each

  -- or of a combination
  combined-fits : (rest : List Derived) (i j : ℕ) (s t : Derived) → equality_from f 0 lines ≡ None → collect (row_result f lines) 0 lines ≡ Ok rest
      → slice_get lines i ≡ Some s → slice_get lines j ≡ Some t → AreCombined lines f i s.line j t.line → overflow_of s.line t.line f ≡ None
  combined-fits rest i j s t none is s_at t_at pair =
      let (lower, opposite) = both_true (is_lower f s.line) _ (ap (λ o. combines o f i s.line j t.line) (sym none) ∙ pair) in
      let (zs, row) = collect-each (row_result f lines) 0 lines rest is i s s_at in
      row-fits (0 + i) s zs lower row j t t_at opposite

  -- where the step has a list, no number of any combination leaves the range
  pub step-fits : (ys : List Derived) → step_result lines f ≡ Ok ys → AllPairsFit lines f
  step-fits ys e i j s t s_at t_at pair = by (equality_from f 0 lines) (made_result lines f) refl refl e
    where
      by : (found : Option (ℕ × Derived)) (r : Result (List Derived) StepOverflow) → equality_from f 0 lines ≡ found → made_result lines f ≡ r
          → reduced_result (with_more (flat_from f 0 lines) r) ≡ Ok ys → overflow_of s.line t.line f ≡ None
      by (Some found) (Ok rest) found_is is e = substituted-fits found rest i j s t found_is (ap (λ o. made_with o lines f) (sym found_is) ∙ is) s_at t_at pair
      by None (Ok rest) none is e = combined-fits rest i j s t none (ap (λ o. made_with o lines f) (sym none) ∙ is) s_at t_at pair
      by found (Err fault) found_is is e = absurd (cc)

  -- and else it tells the first pair, and the first place there
  pub step-overflows : (o : StepOverflow) → step_result lines f ≡ Err o → IsFirstOverflow lines f o
  step-overflows o e = by (equality_from f 0 lines) (made_result lines f) refl refl e
    where
      rows_told : equality_from f 0 lines ≡ None → IsFirstFault (row_result f lines) 0 lines o → IsFirstOverflow lines f o
      rows_told none row =
          let (lower, pair) = row-fails (0 + row.k) row.x o row.fails in
          let shown = pair-fails (is_opposite f row.x.line pair.x.line) f (0 + row.k) row.x (0 + pair.k) pair.x o pair.fails in
          let first : row.k ≡ o.first = sym (from_start row.k) ∙ ap (λ (p : StepOverflow). p.first) shown.told in
          let second : pair.k ≡ o.second = sym (from_start pair.k) ∙ ap (λ (p : StepOverflow). p.second) shown.told in
          record {
            s = row.x;
            t = pair.x;
            first = subst (λ k. slice_get lines k ≡ Some row.x) first row.at;
            second = subst (λ k. slice_get lines k ≡ Some pair.x) second pair.at;
            combined = ap (λ found. combines found f o.first row.x.line o.second pair.x.line) none ∙ true-both _ _ lower shown.is_made;
            number = shown.number;
            leaves = shown.leaves;
            first_place = overflow-first _ _ (numbers row.x.line) (numbers pair.x.line) shown.number shown.leaves;
            place = sym (ap (λ (p : StepOverflow). p.place) shown.told);
            earlier_rows = λ i j below s t s_at t_at pair_is.
                let (s_lower, s_opposite) = both_true (is_lower f s.line) _ (ap (λ found. combines found f i s.line j t.line) (sym none) ∙ pair_is) in
                let (zs, is) = row.before i s (omega (arith, first, below)) s_at in
                row-fits (0 + i) s zs s_lower is j t t_at s_opposite;
            earlier_pairs = λ j below s t s_at t_at pair_is.
                let (s_lower, s_opposite) = both_true (is_lower f s.line) _ (ap (λ found. combines found f o.first s.line j t.line) (sym none) ∙ pair_is) in
                let same : s ≡ row.x = some_same s row.x (slice_get lines o.first) s_at (subst (λ k. slice_get lines k ≡ Some row.x) first row.at) in
                let (zs, is) = pair.before j t (omega (arith, second, below)) t_at in
                ap (λ (d : Derived). overflow_of d.line t.line f) same
                ∙ pair-fits (is_opposite f row.x.line t.line) f (0 + row.k) row.x (0 + j) t zs
                (ap (λ (d : Derived). is_opposite f d.line t.line) (sym same) ∙ s_opposite) is;
          }

      equality_told : (found : ℕ × Derived) → equality_from f 0 lines ≡ Some found → IsFirstFault (substituted_result f found.0 found.1) 0 lines o
          → IsFirstOverflow lines f o
      equality_told found found_is pair =
          let shown = pair-fails (substitutes f found.0 (0 + pair.k) pair.x.line) f found.0 found.1 (0 + pair.k) pair.x o pair.fails in
          let first : found.0 ≡ o.first = ap (λ (p : StepOverflow). p.first) shown.told in
          let second : pair.k ≡ o.second = sym (from_start pair.k) ∙ ap (λ (p : StepOverflow). p.second) shown.told in
          let own : slice_get lines o.first ≡ Some found.1 = subst (λ k. slice_get lines k ≡ Some found.1) first
          (equality-at f lines 0 lines found (whole-at lines) found_is).0 in
          let substituted : substitutes f o.first o.second pair.x.line ≡ true =
          (λ i. substitutes f (sym first i) ((sym second ∙ sym (from_start pair.k)) i) pair.x.line) ∙ shown.is_made in
          record {
            s = found.1;
            t = pair.x;
            first = own;
            second = subst (λ k. slice_get lines k ≡ Some pair.x) second pair.at;
            combined = ap (λ e. combines e f o.first found.1.line o.second pair.x.line) found_is
                ∙ true-both _ _ ((Decides-eqb found.0 o.first).1 first) substituted;
            number = shown.number;
            leaves = shown.leaves;
            first_place = overflow-first _ _ (numbers found.1.line) (numbers pair.x.line) shown.number shown.leaves;
            place = sym (ap (λ (p : StepOverflow). p.place) shown.told);
            earlier_rows = λ i j below s t s_at t_at pair_is.
                let (place, same, other) = the_equality found i j s t found_is s_at pair_is in absurd (omega (arith, place, first, below));
            earlier_pairs = λ j below s t s_at t_at pair_is.
                let (place, same, other) = the_equality found o.first j s t found_is s_at pair_is in
                let (zs, is) = pair.before j t (omega (arith, second, below)) t_at in
                ap (λ (d : Derived). overflow_of d.line t.line f) (sym same)
                ∙ pair-fits (substitutes f found.0 (0 + j) t.line) f found.0 found.1 (0 + j) t zs
                (ap (λ k. substitutes f found.0 k t.line) (from_start j) ∙ other) is;
          }

      by : (found : Option (ℕ × Derived)) (r : Result (List Derived) StepOverflow) → equality_from f 0 lines ≡ found → made_result lines f ≡ r
          → reduced_result (with_more (flat_from f 0 lines) r) ≡ Err o → IsFirstOverflow lines f o
      by found (Ok rest) found_is is e = absurd (cc)
      by (Some found) (Err fault) found_is is e =
          equality_told found found_is (collect-fails (substituted_result f found.0 found.1) 0 lines o
          (ap (λ k. made_with k lines f) (sym found_is) ∙ is ∙ ap (λ (g : StepOverflow). Err g) (err_same fault o (Err fault) refl e)))
      by None (Err fault) none is e =
          rows_told none (collect-fails (row_result f lines) 0 lines o
          (ap (λ k. made_with k lines f) (sym none) ∙ is ∙ ap (λ (g : StepOverflow). Err g) (err_same fault o (Err fault) refl e)))

  -- so there is a list exactly where no number of any combination leaves the range
  pub step-exact : AllPairsFit lines f → (ys : List Derived) × (step_result lines f ≡ Ok ys)
  step-exact fits = by (step_result lines f) refl
    where
      clash : (place : ℕ) (found : Option ℕ) → found ≡ Some place → found ≡ None → ⊥
      clash place found some none = cc

      by : (r : Result (List Derived) StepOverflow) → step_result lines f ≡ r → (ys : List Derived) × (r ≡ Ok ys)
      by (Ok ys) is = (ys, refl)
      by (Err o) is = let shown = step-overflows o is in absurd
          (clash shown.number _ shown.leaves (fits o.first o.second shown.s shown.t shown.first shown.second shown.combined))

-- ---- the fold

-- where the fold has no list, it stopped at a field whose step overflows
pub fold-overflows : (lines : List Derived) (fields : List ℕ) (o : SystemOverflow) → fold_result lines fields ≡ Err o → IsFoldOverflow lines fields o
fold-overflows lines [] o e = absurd (cc)
fold-overflows lines (f ∷ fields) o e = by (step_result lines f) refl e (λ next. fold-overflows next fields o)
  where
    by : (r : Result (List Derived) StepOverflow) → step_result lines f ≡ r → (fault_as (overflow_at f) r >>= (λ next. fold_result next fields)) ≡ Err o
        → ((next : List Derived) → fold_result next fields ≡ Err o → IsFoldOverflow next fields o) → IsFoldOverflow lines (f ∷ fields) o
    by (Err fault) is e later =
        let same : record { field = f; step = fault } ≡ o = err_same _ o _ refl e in
        record {
          before = [];
          after = fields;
          fields_are = ap (λ (p : SystemOverflow). p.field ∷ fields) same;
          reached = lines;
          reached_are = refl;
          overflow = subst (λ (p : SystemOverflow). IsFirstOverflow lines p.field p.step) same (step-overflows lines f fault is);
        }
    by (Ok next) is e later =
        let found = later next e in
        record {
          before = f ∷ found.before;
          after = found.after;
          fields_are = ap (λ (fs : List ℕ). f ∷ fs) found.fields_are;
          reached = found.reached;
          reached_are = ap (λ (r : Result (List Derived) StepOverflow). (fault_as (overflow_at f) r >>= (λ more. fold_result more found.before))) is
              ∙ found.reached_are;
          overflow = found.overflow;
        }

-- so does the system
pub system-overflows : (edits : List (ℕ × LineParts)) (fields : List ℕ) (o : SystemOverflow) → system_of edits fields ≡ Err o
    → IsFoldOverflow (reduce_derived (base_lines edits)) fields o
system-overflows edits fields o e = fold-overflows (reduce_derived (base_lines edits)) fields o e
