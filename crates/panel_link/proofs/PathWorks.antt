use Rattle.std.proofs.Common.{◌≡◌, ◌<◌, ◌≤◌, ◌+◌, ◌^◌, ◌++◌, inl, inr, ℕ, nat_lt, Bool, true, false, if◌then◌else◌, List, [], ◌∷◌, None, Some, drop}
use Rattle.std.proofs.Common.{length, take, refl, sym, ap, ◌∙◌, subst, arith}
use Rattle.std.proofs.lemmas.Bool.Decides.{Decides-eqb}
use Rattle.std.proofs.lemmas.List.{length-take-le, take-append-drop, take-take}
use Rattle.std.specs.Option.{unwrap_or}
use Rattle.edit_line.specs.Reductions.{IsIn}
use Rattle.edit_line.proofs.Members.{in-either, in-left, in-right}
use Rattle.bound_cert.specs.Paths.{path_weight}
use Rattle.bound_cert.specs.declared.cert.Cert.{Cert}
use Rattle.bound_cert.specs.declared.outcome.Outcome.TheVariants as outcome
use Rattle.edit_paths.specs.Cases.{IsCase, SearchCase}
use Rattle.edit_paths.specs.Outcomes.{change_cert, end_by, outcome_from, outcome_of}
use Rattle.edit_paths.specs.Paths.{field_count, is_complete}
use Rattle.edit_paths.specs.ReachedPaths.{AreInOrder, IsReached, is_before, reached_paths}
use Rattle.edit_paths.specs.States.{IsOpen, state_of}
use Rattle.edit_paths.specs.Works.{work_of, work_of_all}
use Rattle.edit_paths.specs.declared.state.PathState.{PathState}
use Rattle.edit_paths.specs.declared.state.PathState.TheVariants.{ClosedBad, ClosedBox, ClosedLine, Open, Overflows}
use Rattle.edit_paths.proofs.ChoiceLaws.{FoundAt, found-from, sorted-after}
use Rattle.edit_paths.proofs.PathOrder.{before-equal, before-extends}
use Rattle.edit_paths.proofs.ReachedLaws.{reached-are, reached-sorted}

-- The work of each path that is taken up to a change is within the budget.

module _ (c : SearchCase) (budget : ℕ) (chosen : List Bool) (weight : ℕ) (cert : Cert) where
  -- the paths up to the one that is chosen, each with its work within the budget
  pub record IsWithin (paths : List (List Bool)) : Type 0 where
    pub before : List (List Bool)
    pub after : List (List Bool)
    pub paths_are : paths ≡ before ++ chosen ∷ after
    pub within : (p : List Bool) → IsIn p (before ++ chosen ∷ []) → work_of c p ≤ budget

  here-within : (taken : List (List Bool)) (path : List Bool) → nat_lt budget (work_of_all c taken + work_of c path) ≡ false → work_of c path ≤ budget
  here-within taken path e = grind (arith, e)

  first-one : (path : List Bool) (paths : List (List Bool)) → work_of c path ≤ budget → path ≡ chosen → IsWithin (path ∷ paths)
  first-one path paths few same = record {
    before = [];
    after = paths;
    paths_are = ap (λ (p : List Bool). p ∷ paths) same;
    within = λ p there. elim there [
      | inl is ↦ subst (λ (q : List Bool). work_of c q ≤ budget) (same ∙ sym is) few
      | inr none ↦ absurd none
    ];
  }

  one-more : (path : List Bool) (paths : List (List Bool)) → work_of c path ≤ budget → IsWithin paths → IsWithin (path ∷ paths)
  one-more path paths few rest = record {
    before = path ∷ rest.before;
    after = rest.after;
    paths_are = ap (λ (ps : List (List Bool)). path ∷ ps) rest.paths_are;
    within = λ p there. elim there [
      | inl is ↦ subst (λ (q : List Bool). work_of c q ≤ budget) (sym is) few
      | inr later ↦ rest.within p later
    ];
  }

  pub all-within : (taken paths : List (List Bool)) → outcome_from c budget taken paths ≡ outcome.Change chosen weight cert → IsWithin paths
  all-within taken [] e = absurd (cc)
  all-within taken (path ∷ paths) e =
      by (nat_lt budget (work_of_all c taken + work_of c path)) refl (state_of c path) (is_complete c path) refl
      (λ h. all-within (taken ++ path ∷ []) paths h) e
    where
      by : (over : Bool) → nat_lt budget (work_of_all c taken + work_of c path) ≡ over → (s : PathState) → (full : Bool) → is_complete c path ≡ full
          → (outcome_from c budget (taken ++ path ∷ []) paths ≡ outcome.Change chosen weight cert → IsWithin paths)
          → unwrap_or (if over then Some (outcome.Budget path (work_of_all c taken)) else end_by c taken path s)
          (outcome_from c budget (taken ++ path ∷ []) paths) ≡ outcome.Change chosen weight cert
          → IsWithin (path ∷ paths)
      by true over s full is rest h = absurd (cc)
      by false over (Overflows event) full is rest h = absurd (cc)
      by false over Open full is rest h = at full (ap (λ (b : Bool). unwrap_or
          (if b then Some (outcome.Change path (path_weight c.survey.fields path) (change_cert c taken path)) else None)
          (outcome_from c budget (taken ++ path ∷ []) paths)) (sym is) ∙ h)
        where
          at : (full : Bool) → unwrap_or (if full then Some (outcome.Change path (path_weight c.survey.fields path) (change_cert c taken path)) else None)
              (outcome_from c budget (taken ++ path ∷ []) paths) ≡ outcome.Change chosen weight cert → IsWithin (path ∷ paths)
          at true h = first-one path paths (here-within taken path over) cc
          at false h = one-more path paths (here-within taken path over) (rest h)
      by false over ClosedBad full is rest h = one-more path paths (here-within taken path over) (rest h)
      by false over (ClosedLine i) full is rest h = one-more path paths (here-within taken path over) (rest h)
      by false over (ClosedBox i) full is rest h = one-more path paths (here-within taken path over) (rest h)

-- ---- those that it extends are among these

module _ (c : SearchCase) (is : IsCase c) (budget : ℕ) (path : List Bool) (weight : ℕ) (cert : Cert)
    (e : outcome_of c budget ≡ outcome.Change path weight cert) where
  found : FoundAt c [] (reached_paths c) path weight cert
  found = found-from c budget [] (reached_paths c) path weight cert e

  -- the path is open, and says something of all fields
  pub found-open : IsOpen c path
  found-open = found.open_there

  pub found-whole : length path ≡ field_count c
  found-whole = (Decides-eqb (length path) (field_count c)).0 found.complete

  taken : IsWithin c budget path weight cert (reached_paths c)
  taken = all-within c budget path weight cert [] (reached_paths c) e

  reached : IsReached c path
  reached = ((reached-are c path).0 (subst (λ (ps : List (List Bool)). IsIn path ps) (sym taken.paths_are)
      (in-right path taken.before (path ∷ taken.after) (inl refl)))).1

  prefix-taken : (k : ℕ) → k ≤ length path → IsIn (take k path) (taken.before ++ path ∷ [])
  prefix-taken k few = elim (in-either (take k path) taken.before (path ∷ taken.after)
      (subst (λ (ps : List (List Bool)). IsIn (take k path) ps) taken.paths_are there)) [
        | inl at ↦ in-left (take k path) taken.before (path ∷ []) at
        | inr at ↦ in-right (take k path) taken.before (path ∷ []) (inl (elim at [
          | inl same ↦ same
          | inr late ↦ before-equal c (take k path) path extends (sorted-after c is taken.before path (take k path) taken.after sorted late)
        ]))
      ]
    where
      there : IsIn (take k path) (reached_paths c)
      there = (reached-are c (take k path)).1 (
        omega (arith, few, found-whole, length-take-le k path few),
        λ j below. let j_below : j < k = omega (arith, below, length-take-le k path few) in
            subst (λ (p : List Bool). IsOpen c p) (sym (take-take j k path (omega (arith, j_below)))) (reached j (omega (arith, j_below, few))),
      )

      extends : is_before c.survey.fields (take k path) path ≡ true
      extends = subst (λ (p : List Bool). is_before c.survey.fields (take k path) p ≡ true) (take-append-drop k path)
          (before-extends c (take k path) (drop k path))

      sorted : AreInOrder (is_before c.survey.fields) (taken.before ++ path ∷ taken.after)
      sorted = subst (λ (ps : List (List Bool)). AreInOrder (is_before c.survey.fields) ps) taken.paths_are (reached-sorted c)

  -- their works can be counted
  pub found-cheap : budget < 2 ^ 64 → (k : ℕ) → k ≤ length path → work_of c (take k path) < 2 ^ 64
  found-cheap small k few = let most = taken.within (take k path) (prefix-taken k few) in omega (arith, most, small)
