use Rattle.std.proofs.Common.{◌≡◌, ℕ, zero, suc, inr, Bool, true, false, if◌then◌else◌, List, [], ◌∷◌, ◌++◌, Option, Some, None, length, map, slice_index_or}
use Rattle.std.proofs.Common.{refl, sym, ap, subst}
use Rattle.std.specs.List.{AllByRecursion, list_any}
use Rattle.derivation.specs.SharedLines.{Tabled, and_kept, as_tabled, is_failed, is_same, kept_from, kept_step, shared_step, tabled, tabled_from, tabled_of}
use Rattle.derivation.specs.SharedLines.{with_step, with_tabled}
use Rattle.derivation.specs.declared.step.Step.{Step}
use Rattle.derivation.specs.declared.step.Step.TheVariants as step
use Rattle.bound_cert.specs.SharedTrees.{leaves_in, shared_leaf, shared_leaves, shared_outcome, shared_rows, table_with_leaf, table_with_leaves}
use Rattle.bound_cert.specs.SharedTrees.{table_with_rows}
use Rattle.bound_cert.specs.ValidTrees.{steps_in}
use Rattle.bound_cert.specs.declared.cert.Leaf.{Leaf}
use Rattle.bound_cert.specs.declared.cert.LeafWhy.{LeafWhy}
use Rattle.bound_cert.specs.declared.cert.LeafWhy.TheVariants as why
use Rattle.bound_cert.specs.declared.outcome.GiftFault.{GiftFault}
use Rattle.bound_cert.specs.declared.outcome.Outcome.{Outcome}
use Rattle.bound_cert.specs.declared.outcome.Outcome.TheVariants as outcome
use Rattle.bound_cert.specs.declared.outcome.RowProof.{RowProof}
use Rattle.proof_grammar.specs.Limits.{clean_leaves}
use Rattle.proof_sharing.specs.SharedProofs.{CoherentSharingLaw}
use Rattle.proof_grammar.specs.Sizes.{AreCoherentLeaves, AreCoherentSteps, IsCoherentOutcome, IsCoherentRow, IsCoherentTableStep, IsCoherentLeaf}
use Rattle.proof_grammar.specs.Sizes.{IsCoherentStep}

-- A proof whose lines are shared is in order where the proof is.

-- one more at the end
all-end : {X : Type 0} (P : X → Type 0) (xs : List X) (x : X) → AllByRecursion P xs → P x → AllByRecursion P (xs ++ x ∷ [])
all-end P [] x all is = (is, tt)
all-end P (y ∷ xs) x (first, all) is = (first, all-end P xs x all is)

-- ---- the table

put-coherent : (table : List Step) (one : Step) → AllByRecursion IsCoherentTableStep table → IsCoherentTableStep one
    → AllByRecursion IsCoherentTableStep (with_step table one)
put-coherent table one all is = by (list_any (is_same one) table)
  where
    by : (b : Bool) → AllByRecursion IsCoherentTableStep (if b then table else table ++ one ∷ [])
    by true = all
    by false = all-end IsCoherentTableStep table one all is

one-coherent : (t : Tabled) (one : Step) → AllByRecursion IsCoherentTableStep t.table → IsCoherentStep one
    → AllByRecursion IsCoherentTableStep (with_tabled t (as_tabled t.places one)).table
one-coherent t (step.Given i) all positive = put-coherent t.table (step.Given i) all tt
one-coherent t (step.Combine a m b n g) all positive = put-coherent t.table (step.Combine (slice_index_or t.places a 0) m (slice_index_or t.places b 0) n g) all
    positive
one-coherent t (step.Fail a) all positive = all
one-coherent t (step.Cover field parts) all positive = all
one-coherent t (step.Fix field part) all positive = all

steps-coherent : (t : Tabled) (steps : List Step) → AllByRecursion IsCoherentTableStep t.table → AreCoherentSteps steps
    → AllByRecursion IsCoherentTableStep (tabled_from t steps).table
steps-coherent t [] all positive = all
steps-coherent t (one ∷ steps) all (first, positive) = steps-coherent (with_tabled t (as_tabled t.places one)) steps (one-coherent t one all first) positive

leaf-coherent : (table : List Step) (leaf : Leaf) → AllByRecursion IsCoherentTableStep table → IsCoherentLeaf leaf
    → AllByRecursion IsCoherentTableStep (table_with_leaf table leaf)
leaf-coherent table leaf all positive = steps-coherent (tabled_of table []) (steps_in leaf.why) all (by leaf.why positive)
  where
    by : (reason : LeafWhy) → IsCoherentLeaf (record { path = leaf.path; why = reason }) → AreCoherentSteps (steps_in reason)
    by why.Bound positive = tt
    by why.BadKept positive = tt
    by (why.Line steps) positive = positive
    by (why.Box steps) positive = positive

leaves-coherent : (table : List Step) (leaves : List Leaf) → AllByRecursion IsCoherentTableStep table → AreCoherentLeaves leaves
    → AllByRecursion IsCoherentTableStep (table_with_leaves table leaves)
leaves-coherent table [] all positive = all
leaves-coherent table (leaf ∷ leaves) all (first, positive) = leaves-coherent (table_with_leaf table leaf) leaves (leaf-coherent table leaf all first) positive

-- ---- the leaves

kept-positive : (given : ℕ) (failed : ℕ → Bool) (places new : List ℕ) (kept steps : List Step) → AreCoherentSteps kept → AreCoherentSteps steps
    → AreCoherentSteps (kept_from given failed places new kept steps)
kept-positive given failed places new kept [] done positive = done
kept-positive given failed places new kept (one ∷ steps) done (first, positive) =
    kept-positive given failed places (new ++ length kept ∷ [])
    (and_kept kept (kept_step given (failed (length new)) (slice_index_or places (length new) 0) new one)) steps
    (by one (failed (length new)) (slice_index_or places (length new) 0)) positive
  where
    by : (s : Step) (b : Bool) (place : ℕ) → AreCoherentSteps (and_kept kept (kept_step given b place new s))
    by (step.Given i) true place = all-end IsCoherentStep kept (shared_step given place) done tt
    by (step.Given i) false place = done
    by (step.Combine a m b n g) true place = all-end IsCoherentStep kept (shared_step given place) done tt
    by (step.Combine a m b n g) false place = done
    by (step.Fail a) b place = all-end IsCoherentStep kept (step.Fail (slice_index_or new a 0)) done tt
    by (step.Cover field parts) b place = all-end IsCoherentStep kept (step.Cover field (map (λ part. slice_index_or new part 0) parts)) done tt
    by (step.Fix field part) b place = all-end IsCoherentStep kept (step.Fix field (slice_index_or new part 0)) done tt

shared-positive : (given : ℕ) (table : List Step) (leaf : Leaf) → IsCoherentLeaf leaf → IsCoherentLeaf (shared_leaf given table leaf)
shared-positive given table leaf positive = by leaf.why positive
  where
    by : (reason : LeafWhy) → IsCoherentLeaf (record { path = leaf.path; why = reason }) → IsCoherentLeaf
        (shared_leaf given table (record { path = leaf.path; why = reason }))
    by why.Bound positive = tt
    by why.BadKept positive = tt
    by (why.Line steps) positive = (tt, tt)
    by (why.Box steps) positive = kept-positive given (is_failed steps) (tabled table steps).places [] [] steps tt positive

all-positive : (given : ℕ) (table : List Step) (leaves : List Leaf) → AreCoherentLeaves leaves → AreCoherentLeaves (shared_leaves given table leaves)
all-positive given table [] positive = tt
all-positive given table (leaf ∷ leaves) (first, positive) = (
  shared-positive given table leaf first,
  all-positive given (table_with_leaf table leaf) leaves
      positive,
)

-- ---- the rows

clean-same : (given : ℕ) (table : List Step) (leaves : List Leaf) → leaves ≡ clean_leaves → shared_leaves given table leaves ≡ clean_leaves
clean-same given table leaves is = ap (λ (ls : List Leaf). shared_leaves given table ls) is

outcome-coherent : (given : ℕ) (table : List Step) (o : Outcome) (gift : Option GiftFault) → AllByRecursion IsCoherentTableStep table → IsCoherentOutcome o gift
    → IsCoherentOutcome (shared_outcome given table o) gift × AllByRecursion IsCoherentTableStep (table_with_leaves table (leaves_in o))
outcome-coherent given table (outcome.Change path zero cert) None all (none, clean) = (
  (none, clean-same given table cert.leaves clean),
  subst (λ (ls : List Leaf). AllByRecursion IsCoherentTableStep (table_with_leaves table ls)) (sym clean)
      all,
)
outcome-coherent given table (outcome.Change path (suc w) cert) None all positive =
    (all-positive given table cert.leaves positive, leaves-coherent table cert.leaves all positive)
outcome-coherent given table (outcome.Change path weight cert) (Some fault) all positive =
    (all-positive given table cert.leaves positive, leaves-coherent table cert.leaves all positive)
outcome-coherent given table (outcome.Budget path work) None all coherent = (tt, all)
outcome-coherent given table (outcome.Budget path work) (Some fault) all coherent = absurd coherent
outcome-coherent given table (outcome.Overflow path event) None all coherent = (tt, all)
outcome-coherent given table (outcome.Overflow path event) (Some fault) all coherent = absurd coherent
outcome-coherent given table (outcome.Contradictory cert) None all positive =
    (all-positive given table cert.leaves positive, leaves-coherent table cert.leaves all positive)
outcome-coherent given table (outcome.Contradictory cert) (Some fault) all coherent = absurd coherent

rows-coherent : (given : ℕ) (table : List Step) (rows : List RowProof) → AllByRecursion IsCoherentTableStep table → AllByRecursion IsCoherentRow rows
    → AllByRecursion IsCoherentRow (shared_rows given table rows) × AllByRecursion IsCoherentTableStep (table_with_rows table rows)
rows-coherent given table [] all coherent = (tt, all)
rows-coherent given table (row ∷ rows) all (first, coherent) =
    let (shared, more) = outcome-coherent given table row.outcome row.gift all first in
    let (rest, last) = rows-coherent given (table_with_leaves table (leaves_in row.outcome)) rows more coherent in
    ((shared, rest), last)

pub coherent-shared : CoherentSharingLaw
coherent-shared p coherent =
    let (rows, table) = rows-coherent (length p.verdicts) [] p.rows tt coherent.rows in
    record { version = inr refl; table = table; verdicts = coherent.verdicts; rows = rows }
