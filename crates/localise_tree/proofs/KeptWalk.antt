use Rattle.std.proofs.Common.{◌≡◌, ◌==◌, inl, inr, ℕ, zero, suc, ◌+◌, ◌<◌, ◌≤◌, ◌++◌, ◌&&◌, ◌||◌, Bool, true, false, not, if◌then◌else◌, nat_lt, List}
use Rattle.std.proofs.Common.{[], ◌∷◌, Some, None, length, refl, sym, ap, ◌∙◌, subst, arith}
use Rattle.std.specs.List.{AllByRecursion, fold, list_any, sum_by}
use Rattle.std.proofs.lemmas.Bool.Decides.{Decides-eqb, Decides-ltb}
use Rattle.std.proofs.lemmas.List.{length-replicate}
use Rattle.edit_model.specs.Corrections.{is_first, path_order}
use Rattle.edit_model.specs.Words.{weight_at}
use Rattle.edit_model.specs.FieldSets.{set_of}
use Rattle.edit_line.specs.Reductions.{IsIn}
use Rattle.bound_cert.specs.Paths.{changes, path_weight}
use Rattle.bound_cert.specs.declared.cert.Leaf.{Leaf}
use Rattle.bound_cert.specs.declared.cert.LeafWhy.TheVariants as why
use Rattle.bound_cert.specs.declared.outcome.Outcome.{Outcome}
use Rattle.bound_cert.specs.declared.outcome.Outcome.TheVariants as outcome
use Rattle.edit_paths.specs.Cases.{SearchCase}
use Rattle.edit_paths.specs.Certificates.{certificate_of, leaf, leaves_from}
use Rattle.edit_paths.specs.Outcomes.{end_at, end_by, outcome_of}
use Rattle.edit_paths.specs.PathStates.{is_open}
use Rattle.edit_paths.specs.Paths.{before_last, field_count, is_complete, last_field}
use Rattle.edit_paths.specs.ReachedPaths.{changed_next, is_before, kept_next, placed}
use Rattle.edit_paths.specs.States.{IsOpen}
use Rattle.edit_paths.specs.Walks.{next_paths}
use Rattle.edit_paths.specs.Works.{pairs_next, work_of, work_of_all}
use Rattle.edit_paths.specs.declared.state.PathState.{PathState}
use Rattle.edit_paths.proofs.PathOrder.{before-equal}
use Rattle.edit_paths.proofs.ReachedLaws.{search-start}
use Rattle.path_walk.specs.KeptFields.{KeepsChanged}
use Rattle.localise_tree.specs.KeptFields.{KeepsChange}
use Rattle.localise_tree.specs.inner.AllKept.{all_kept, kept_path}
use Rattle.localise_tree.proofs.HoldingLaws.{filter-none, kept-letter, kept-numbers}
use Rattle.localise_tree.proofs.SearchLaws.{state-end, work-one}
use Rattle.localise_tree.proofs.SearchLoop.{IsSearching, searching-ends, searching-turn}

-- A walk takes the paths that keep all their fields, one longer than the other, before any other path; where they are open, the last is the outcome.

-- whether a path changes some field
abbrev pub has_change : List Bool → Bool
has_change path = list_any (λ b. b) path

abbrev pub AllChange : List (List Bool) → Type 0
AllChange paths = AllByRecursion (λ path. has_change path ≡ true) paths

kept-changes : (count : ℕ) → has_change (kept_path count) ≡ false
kept-changes zero = refl
kept-changes (suc count) = kept-changes count

kept-more : (count : ℕ) → kept_next (kept_path count) ≡ kept_path (suc count)
kept-more zero = refl
kept-more (suc count) = ap (λ (p : List Bool). false ∷ p) (kept-more count)

changed-last : (path : List Bool) → has_change (changed_next path) ≡ true
changed-last [] = refl
changed-last (true ∷ path) = refl
changed-last (false ∷ path) = changed-last path

first-kept : (count : ℕ) (path : List Bool) → has_change path ≡ true → is_first (kept_path count) path ≡ true
first-kept zero path h = refl
first-kept (suc count) [] h = absurd (cc)
first-kept (suc count) (false ∷ path) h = first-kept count path h
first-kept (suc count) (true ∷ path) h = refl

module _ (c : SearchCase) where
  -- it weighs nothing
  kept-weight : (count : ℕ) → path_weight c.survey.fields (kept_path count) ≡ 0
  kept-weight count =
      ap (λ (fs : List ℕ). sum_by (weight_at c.survey.fields) fs)
      (filter-none (changes c.survey.fields (kept_path count)) (path_order c.survey.fields) (λ f. kept-letter count _))

  -- and comes before each path that changes some field
  kept-before : (count : ℕ) (path : List Bool) → has_change path ≡ true → is_before c.survey.fields (kept_path count) path ≡ true
  kept-before count path h =
      ap (λ n. nat_lt n (path_weight c.survey.fields path) || ((n == path_weight c.survey.fields path) && is_first (kept_path count) path))
      (kept-weight count) ∙ by (path_weight c.survey.fields path)
    where
      by : (n : ℕ) → (nat_lt 0 n || ((0 == n) && is_first (kept_path count) path)) ≡ true
      by zero = first-kept count path h
      by (suc n) = ap (λ b. b || ((0 == suc n) && is_first (kept_path count) path)) ((Decides-ltb 0 (suc n)).1 (omega arith))

  not-before : (count : ℕ) (path : List Bool) → has_change path ≡ true → is_before c.survey.fields path (kept_path count) ≡ false
  not-before count path h = by (is_before c.survey.fields path (kept_path count)) refl
    where
      by : (b : Bool) → is_before c.survey.fields path (kept_path count) ≡ b → b ≡ false
      by false e = refl
      by true e =
          absurd (cc (sym h ∙ ap (λ (p : List Bool). has_change p) (before-equal c path (kept_path count) e (kept-before count path h)) ∙ kept-changes count))

  placed-kept : (count : ℕ) (rest : List (List Bool)) → AllChange rest → placed (is_before c.survey.fields) rest (kept_path count) ≡ kept_path count ∷ rest
  placed-kept count [] all = refl
  placed-kept count (path ∷ rest) all =
      ap (λ b. if b then path ∷ placed (is_before c.survey.fields) rest (kept_path count) else kept_path count ∷ path ∷ rest) (not-before count path all.0)

  placed-all : (new : List Bool) (rest : List (List Bool)) → has_change new ≡ true → AllChange rest → AllChange (placed (is_before c.survey.fields) rest new)
  placed-all new [] h all = (h, tt)
  placed-all new (path ∷ rest) h all = by (is_before c.survey.fields path new) (placed-all new rest h all.1)
    where
      by : (b : Bool) → AllChange (placed (is_before c.survey.fields) rest new)
          → AllChange (if b then path ∷ placed (is_before c.survey.fields) rest new else new ∷ path ∷ rest)
      by true later = (all.0, later)
      by false later = (h, all)

  -- after one of them comes the next
  kept-turn : (count : ℕ) (rest : List (List Bool)) → count < field_count c → IsOpen c (kept_path count) → AllChange rest
      → fold (placed (is_before c.survey.fields)) rest (next_paths c (kept_path count))
      ≡ kept_path (suc count) ∷ placed (is_before c.survey.fields) rest (changed_next (kept_path count))
  kept-turn count rest short opened all =
      ap (λ (ps : List (List Bool)). fold (placed (is_before c.survey.fields)) rest ps) next
      ∙ ap (λ (ps : List (List Bool)). placed (is_before c.survey.fields) ps (changed_next (kept_path count))) (placed-kept (suc count) rest all)
      ∙ ap (λ b. if b then kept_path (suc count) ∷ placed (is_before c.survey.fields) rest (changed_next (kept_path count)) else changed_next
      (kept_path count) ∷ kept_path (suc count) ∷ rest)
      (kept-before (suc count) (changed_next (kept_path count)) (changed-last (kept_path count)))
    where
      not-complete : is_complete c (kept_path count) ≡ false
      not-complete = ap (λ n. n == field_count c) (length-replicate count false) ∙ by (count == field_count c) refl
        where
          by : (b : Bool) → (count == field_count c) ≡ b → b ≡ false
          by false e = refl
          by true e = absurd (omega (arith, short, (Decides-eqb count (field_count c)).0 e))

      next : next_paths c (kept_path count) ≡ kept_path (suc count) ∷ changed_next (kept_path count) ∷ []
      next =
          ap (λ (s : PathState). if is_open s && not (is_complete c (kept_path count)) then kept_next (kept_path count) ∷ changed_next (kept_path count)
          ∷ [] else []) opened
          ∙ ap (λ b. if not b then kept_next (kept_path count) ∷ changed_next (kept_path count) ∷ [] else []) not-complete
          ∙ ap (λ (p : List Bool). p ∷ changed_next (kept_path count) ∷ []) (kept-more count)

  kept-work : (count : ℕ) → work_of c (kept_path count) ≡ 1
  kept-work count = ap (λ b. if b then 1 + pairs_next c (before_last (kept_path count)) (last_field c (kept_path count)) else 1) (kept-letter count _)

  bound-alone : (left : ℕ) → leaves_from c [] left [] ≡ leaf [] why.Bound
  bound-alone zero = refl
  bound-alone (suc left) = refl

  module _ (budget : ℕ) (enough : field_count c < budget) (opens : (count : ℕ) → IsOpen c (kept_path count)) where
    module _ (count : ℕ) (taken : List (List Bool)) (spent : count ≡ work_of_all c taken) (fits : count ≤ field_count c) where
      end-is : end_at c budget taken (kept_path count)
          ≡ (if is_complete c (kept_path count) then Some (outcome.Change (kept_path count) 0 (record { leaves = certificate_of c [] })) else None)
      end-is =
          state-end c budget count taken (kept_path count) spent (omega (arith, kept-work count, enough, fits))
          ∙ ap (λ (s : PathState). end_by c taken (kept_path count) s) (opens count)
          ∙ ap (λ n. if is_complete c (kept_path count) then Some
          (outcome.Change (kept_path count) n (record { leaves = certificate_of c (if nat_lt 0 n then taken else []) })) else None) (kept-weight count)

      end-last : count ≡ field_count c → end_at c budget taken (kept_path count) ≡ Some (all_kept (field_count c))
      end-last last =
          end-is ∙ ap (λ b. if b then Some (outcome.Change (kept_path count) 0 (record { leaves = certificate_of c [] })) else None) complete
          ∙ ap (λ (ls : List Leaf). Some (outcome.Change (kept_path count) 0 (record { leaves = ls }))) (bound-alone (field_count c))
          ∙ ap (λ n. Some (outcome.Change (kept_path n) 0 (record { leaves = leaf [] why.Bound }))) last
        where
          complete : is_complete c (kept_path count) ≡ true
          complete = (Decides-eqb (length (kept_path count)) (field_count c)).1 (length-replicate count false ∙ last)

      end-none : count < field_count c → end_at c budget taken (kept_path count) ≡ None
      end-none short =
          end-is ∙ ap (λ b. if b then Some (outcome.Change (kept_path count) 0 (record { leaves = certificate_of c [] })) else None)
          (by (is_complete c (kept_path count)) refl)
        where
          by : (b : Bool) → is_complete c (kept_path count) ≡ b → b ≡ false
          by false e = refl
          by true e = absurd (omega (arith, short, length-replicate count false, (Decides-eqb (length (kept_path count)) (field_count c)).0 e))

    go : (left count : ℕ) → count + left ≡ field_count c → (taken rest : List (List Bool)) → count ≡ work_of_all c taken → AllChange rest
        → IsSearching c budget taken (kept_path count ∷ rest) → all_kept (field_count c) ≡ outcome_of c budget
    go zero count sum taken rest spent all searching =
        searching-ends c budget taken (kept_path count ∷ rest) rest (kept_path count) searching refl (all_kept (field_count c))
        (end-last count taken spent (omega (arith, sum)) (omega (arith, sum)))
    go (suc left) count sum taken rest spent all searching =
        go left (suc count) (omega (arith, sum)) (taken ++ kept_path count ∷ []) (placed (is_before c.survey.fields) rest (changed_next (kept_path count)))
        (omega (arith, spent, work-one c taken (kept_path count), kept-work count))
        (placed-all (changed_next (kept_path count)) rest (changed-last (kept_path count)) all)
        (searching-turn c budget taken (kept_path count ∷ rest) rest (kept_path count) searching refl
        (kept_path (suc count) ∷ placed (is_before c.survey.fields) rest (changed_next (kept_path count)))
        (sym (kept-turn count rest (omega (arith, sum)) (opens count) all)) (taken ++ kept_path count ∷ [])
        (end-none count taken spent (omega (arith, sum)) (omega (arith, sum))) refl)

    -- where the budget is for these paths, and each is open, the path that keeps every field is the outcome
    pub kept-outcome : all_kept (field_count c) ≡ outcome_of c budget
    kept-outcome =
        go (field_count c) 0 (omega arith) [] [] refl tt (record { fit = fit; sorted = (λ later there. absurd there, tt); rest = sym (search-start c budget) })
      where
        fit : (x : List Bool) → IsIn x ([] ∷ []) → length x ≤ field_count c
        fit x (inl same) = omega (arith, ap (λ (p : List Bool). length p) same)
        fit x (inr none) = absurd none

-- a source that keeps the system of no field keeps that of this outcome
pub keeps-start : (keeps : ℕ → Bool) (c : SearchCase) (count : ℕ) (o : Outcome) → o ≡ all_kept count → keeps 0 ≡ true → KeepsChange keeps c o
keeps-start keeps c count o told kept path weight cert change =
    subst (λ (p : List Bool). KeepsChanged keeps c p) same (subst (λ (fields : List ℕ). keeps (set_of fields) ≡ true) (sym (kept-numbers c count)) kept)
  where
    same : kept_path count ≡ path
    same = cc (sym told ∙ change)
