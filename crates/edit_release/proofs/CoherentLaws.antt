use Rattle.std.proofs.Common.{◌≡◌, inl, inr, ◌++◌, ◌^◌, unsigned_abs, ℕ, zero, suc, Bool, true, List, [], ◌∷◌, Option, Some, None, Result, Ok, Err, length}
use Rattle.std.proofs.Common.{slice_get, ℤ, pos, ◌<ℤ◌, int_lt, refl, sym, option_map}
use Rattle.std.specs.List.{AllByRecursion}
use Rattle.std.proofs.lemmas.Bool.Decides.{Decides-ltb}
use Rattle.std.specs.Option.{ok_or}
use Rattle.foundation.specs.Results.{◌>>=◌}
use Rattle.foundation.specs.Options.{◌>>?◌}
use Rattle.edit_model.specs.Parts.{SurveyParts}
use Rattle.edit_model.specs.Rows.{IsRow}
use Rattle.edit_model.specs.Surveys.{IsWellFormed}
use Rattle.edit_model.specs.declared.value.Value.{Value}
use Rattle.edit_line.specs.Combinations.{in_range, may_combine, may_multiply, sum_of}
use Rattle.edit_line.specs.Divisors.{divided_by}
use Rattle.edit_line.specs.declared.relation.Relation.{Relation}
use Rattle.edit_line.specs.declared.relation.Relation.TheVariants.{Above, AtLeast, Equal}
use Rattle.edit_line.proofs.BoolLaws.{both_true}
use Rattle.edit_line.proofs.Enough.{is_enough-Decides}
use Rattle.derivation.specs.Premises.{Premises}
use Rattle.derivation.specs.ValidSteps.{AreValidSteps, as_line, combined_line, last_proved, proved_by, proved_from}
use Rattle.derivation.specs.declared.proved.Proved.{Proved}
use Rattle.derivation.specs.declared.proved.Proved.TheVariants as proved
use Rattle.derivation.specs.declared.step.Step.{Step}
use Rattle.derivation.specs.declared.step.Step.TheVariants as step
use Rattle.derivation.proofs.CoverLaws.{was-some, was-true}
use Rattle.bound_cert.specs.ValidTrees.{IsValidLeaf, IsValidTree, TreeCase, premises_at}
use Rattle.bound_cert.specs.declared.cert.Leaf.{Leaf}
use Rattle.bound_cert.specs.declared.cert.LeafWhy.{LeafWhy}
use Rattle.bound_cert.specs.declared.cert.LeafWhy.TheVariants as why
use Rattle.bound_cert.specs.declared.outcome.GiftFault.{GiftFault}
use Rattle.bound_cert.specs.declared.outcome.Outcome.{Outcome}
use Rattle.bound_cert.specs.declared.outcome.Outcome.TheVariants as outcome
use Rattle.bound_cert.specs.declared.outcome.RowProof.{RowProof}
use Rattle.edit_paths.specs.Cases.{case_of}
use Rattle.edit_paths.specs.Outcomes.{outcome_of}
use Rattle.back_subst.specs.declared.gift.Gift.{Gift}
use Rattle.cert_check.proofs.SharedRowLaws.{AreCleanLeaves, HasCleanLeaf}
use Rattle.proof_grammar.specs.Sizes.{AreCoherentLeaves, AreCoherentSteps, IsCoherentOutcome, IsCoherentRow, IsCoherentReason, IsCoherentStep, IsMultiplier}
use Rattle.edit_report.specs.declared.end.RowEnd.{RowEnd}
use Rattle.record_ends.specs.Ends.{ComesOf, IsEndOf}
use Rattle.pruned_rules.specs.Pruned.{kept_edits}
use Rattle.edit_release.specs.Edits.{said, said_of}
use Rattle.edit_release.proofs.OutcomeLaws.{change-clean}
use Rattle.edit_release.proofs.SaidLaws.{has-tree}
use Rattle.donor_search.specs.CleanRows.{row_at}

-- What the proof of an edit says of a record is coherent.

-- ---- valid steps

module _ (p : Premises) where
  combined-coherent : (earlier : List Proved) (a : ℕ) (m : ℤ) (b : ℕ) (n g : ℤ) (x : Proved) → proved_by p earlier (step.Combine a m b n g) ≡ Some x
      → IsMultiplier m × IsMultiplier n × (pos 0 <ℤ g)
  combined-coherent earlier a m b n g x e =
      let (s, first, after_first) = was-some (as_line (slice_get earlier a)) (λ s. (as_line (slice_get earlier b) >>? (λ t. combined_line m n g s t))) x e in
      let (t, second, made) = was-some (as_line (slice_get earlier b)) (λ t. combined_line m n g s t) x after_first in
      let (may, same) = was-true (may_combine m n g s t) (proved.Line (divided_by g (sum_of m n s t))) x made in
      let (m_may, after_m) = both_true (may_multiply s.relation m) _ may in
      let (n_may, after_n) = both_true (may_multiply t.relation n) _ after_m in
      let (g_above, after_g) = both_true (int_lt (pos 0) g) _ after_n in
      (multiplier s.relation m m_may, multiplier t.relation n n_may, above g g_above)
    where
      above : (z : ℤ) → int_lt (pos 0) z ≡ true → pos 0 <ℤ z
      above z h = (is_enough-Decides Above z).0 h

      multiplier : (r : Relation) (z : ℤ) → may_multiply r z ≡ true → IsMultiplier z
      multiplier AtLeast z may = inl (above z may)
      multiplier Above z may = inl (above z may)
      multiplier Equal z may = let (fits, apart) = both_true (in_range z) _ may in inr ((Decides-ltb (unsigned_abs z) (2 ^ 127)).0 fits)

  step-coherent : (earlier : List Proved) (one : Step) (x : Proved) → proved_by p earlier one ≡ Some x → IsCoherentStep one
  step-coherent earlier (step.Given place) x e = tt
  step-coherent earlier (step.Combine a m b n g) x e = combined-coherent earlier a m b n g x e
  step-coherent earlier (step.Fail a) x e = tt
  step-coherent earlier (step.Cover field parts) x e = tt
  step-coherent earlier (step.Fix field part) x e = tt

  coherent-from : (earlier : List Proved) (steps : List Step) (all : List Proved) → proved_from p earlier steps ≡ Ok all → AreCoherentSteps steps
  coherent-from earlier [] all e = tt
  coherent-from earlier (one ∷ steps) all e = by (proved_by p earlier one) refl (λ x. coherent-from (earlier ++ x ∷ []) steps all) e
    where
      by : (o : Option Proved) → proved_by p earlier one ≡ o → ((x : Proved) → proved_from p (earlier ++ x ∷ []) steps ≡ Ok all → AreCoherentSteps steps)
          → (ok_or o (length earlier) >>= (λ x. proved_from p (earlier ++ x ∷ []) steps)) ≡ Ok all → AreCoherentSteps (one ∷ steps)
      by None is rest h = absurd (cc)
      by (Some x) is rest h = (step-coherent earlier one x is, rest x h)

  pub valid-coherent : (steps : List Step) (x : Proved) → AreValidSteps p steps x → AreCoherentSteps steps
  valid-coherent steps x valid = by (proved_from p [] steps) refl valid
    where
      by : (r : Result (List Proved) ℕ) → proved_from p [] steps ≡ r → last_proved r ≡ Ok x → AreCoherentSteps steps
      by (Ok all) is h = coherent-from [] steps all is
      by (Err place) is h = absurd (cc)

-- ---- valid trees

module _ (c : TreeCase) where
  leaf-coherent : (path : List Bool) (w : LeafWhy) → IsValidLeaf c path w → IsCoherentReason w
  leaf-coherent path why.Bound valid = tt
  leaf-coherent path why.BadKept valid = tt
  leaf-coherent path (why.Line steps) valid = let (line, are, refutes) = valid in valid-coherent (premises_at c path) steps (proved.Line line) are
  leaf-coherent path (why.Box steps) valid = let (code_box, are, refutes) = valid in valid-coherent (premises_at c path) steps (proved.Box code_box) are

  leaves-coherent : (leaves : List Leaf) → AllByRecursion (λ (leaf : Leaf). IsValidLeaf c leaf.path leaf.why) leaves → AreCoherentLeaves leaves
  leaves-coherent [] each = tt
  leaves-coherent (leaf ∷ leaves) each = (leaf-coherent leaf.path leaf.why each.0, leaves-coherent leaves each.1)

  tree-coherent : (leaves : List Leaf) → IsValidTree c leaves → AreCoherentLeaves leaves
  tree-coherent leaves valid = leaves-coherent leaves valid.each

-- ---- what is said of a record

module _ (survey : SurveyParts) (row : List Value) (budget : ℕ) (formed : IsWellFormed survey) (is : IsRow survey.fields row) where
  coherent-of : (donor : Option (List Value)) (o : Outcome) (stop : Option GiftFault) (gift : Option Gift)
      → outcome_of (case_of survey (kept_edits survey) row) budget ≡ o → ComesOf survey (kept_edits survey) row donor o stop gift
      → IsCoherentRow (said_of o stop)
  coherent-of donor (outcome.Change path zero cert) None gift e follows =
      (refl, change-clean (case_of survey (kept_edits survey) row) budget path zero cert e refl)
  coherent-of donor (outcome.Change path (suc w) cert) None gift e follows = tree-coherent _ cert.leaves (has-tree survey row budget formed is _ e)
  coherent-of donor (outcome.Change path zero cert) (Some stop) gift e follows = tree-coherent _ cert.leaves (has-tree survey row budget formed is _ e)
  coherent-of donor (outcome.Change path (suc w) cert) (Some stop) gift e follows = tree-coherent _ cert.leaves (has-tree survey row budget formed is _ e)
  coherent-of donor (outcome.Budget path work) None gift e follows = tt
  coherent-of donor (outcome.Budget path work) (Some stop) None e follows = absurd follows
  coherent-of donor (outcome.Budget path work) (Some stop) (Some gift) e follows = absurd follows
  coherent-of donor (outcome.Overflow path event) None gift e follows = tt
  coherent-of donor (outcome.Overflow path event) (Some stop) None e follows = absurd follows
  coherent-of donor (outcome.Overflow path event) (Some stop) (Some gift) e follows = absurd follows
  coherent-of donor (outcome.Contradictory cert) None gift e follows = tree-coherent _ cert.leaves (has-tree survey row budget formed is _ e)
  coherent-of donor (outcome.Contradictory cert) (Some stop) None e follows = absurd follows
  coherent-of donor (outcome.Contradictory cert) (Some stop) (Some gift) e follows = absurd follows

  pub said-coherent : (all : List (List Value)) (end : RowEnd) → IsEndOf survey (kept_edits survey) budget all row end → IsCoherentRow (said end)
  said-coherent all end ends = coherent-of (option_map (row_at all) end.donor) end.proof.outcome end.proof.gift end.gift (sym ends.outcome) ends.follows

-- ---- a clean record

-- of a clean record it says the one leaf
clean-leaf : (o : Outcome) (stop : Option GiftFault) → IsCoherentOutcome o stop → HasCleanLeaf o stop
clean-leaf (outcome.Change path zero cert) None (none, clean) = clean
clean-leaf (outcome.Change path zero cert) (Some stop) coherent = tt
clean-leaf (outcome.Change path (suc w) cert) None coherent = tt
clean-leaf (outcome.Change path (suc w) cert) (Some stop) coherent = tt
clean-leaf (outcome.Budget path work) stop coherent = tt
clean-leaf (outcome.Overflow path event) stop coherent = tt
clean-leaf (outcome.Contradictory cert) stop coherent = tt

pub clean-leaves : (saids : List RowProof) → AllByRecursion IsCoherentRow saids → AreCleanLeaves saids
clean-leaves [] coherent = tt
clean-leaves (s ∷ saids) (first, coherent) = (clean-leaf s.outcome s.gift first, clean-leaves saids coherent)
