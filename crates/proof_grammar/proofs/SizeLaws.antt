use Rattle.std.proofs.Common.{inl, inr, ℕ, zero, suc, ℤ, pos, negsuc, ◌<ℤ◌, List, [], ◌∷◌, Bool, true, false, Option, Some, None, IfSome, arith}
use Rattle.std.proofs.lemmas.Int.{ints}
use Rattle.std.specs.List.{AllByRecursion}
use Rattle.fraction128.specs.Range.{InRange}
use Rattle.derivation.specs.declared.step.Step.{Step}
use Rattle.derivation.specs.declared.step.Step.TheVariants as step
use Rattle.bound_cert.specs.declared.cert.Leaf.{Leaf}
use Rattle.bound_cert.specs.declared.cert.LeafWhy.{LeafWhy}
use Rattle.bound_cert.specs.declared.cert.LeafWhy.TheVariants as why
use Rattle.bound_cert.specs.declared.outcome.GiftFault.{GiftFault}
use Rattle.bound_cert.specs.declared.outcome.Outcome.{Outcome}
use Rattle.bound_cert.specs.declared.outcome.Outcome.TheVariants as outcome
use Rattle.bound_cert.specs.declared.outcome.RowProof.{RowProof}
use Rattle.proof_grammar.specs.Limits.{AreFit, IsChange, IsLeaf, IsOutcome, IsPlain, IsRowProof, IsStep, IsTable, IsTableStep, OfSteps}
use Rattle.proof_grammar.specs.ProofLines.{has_table}
use Rattle.proof_grammar.specs.declared.proof.Proof.{Proof}
use Rattle.proof_grammar.specs.Sizes.{AreCoherentSteps, AreSizedSteps, IsCoherent, IsCoherentChange, IsCoherentLeaf, IsCoherentOutcome, IsCoherentRow}
use Rattle.proof_grammar.specs.Sizes.{IsCoherentStep, IsCoherentTable, IsCoherentTableStep, IsMultiplier, IsSized, IsSizedChange, IsSizedLeaf, IsSizedOutcome}
use Rattle.proof_grammar.specs.Sizes.{IsSizedRow, IsSizedStep, IsSizedTable, IsSizedVerdict, IsWide}

-- A proof whose numbers are of their types is plain where its combinations and rows are coherent.

-- a number of 128 bits above 0 is in range
in-range : (z : ℤ) → IsWide z → pos 0 <ℤ z → InRange z
in-range (pos n) fits above = fits
in-range (negsuc n) fits above = absurd above.lt

multiplier-in-range : (z : ℤ) → IsWide z → IsMultiplier z → InRange z
multiplier-in-range z wide (inl above) = in-range z wide above
multiplier-in-range z wide (inr fits) = fits

-- what two facts of each element tell of it
all-both : {X : Type 0} (P Q R : X → Type 0) → ((x : X) → P x → Q x → R x) → (xs : List X) → AllByRecursion P xs → AllByRecursion Q xs → AllByRecursion R xs
all-both P Q R both [] ps qs = tt
all-both P Q R both (x ∷ xs) (p, ps) (q, qs) = (both x p q, all-both P Q R both xs ps qs)

plain-step : (s : Step) → IsSizedStep s → IsCoherentStep s → IsStep s
plain-step (step.Given i) sized positive = sized
plain-step (step.Combine a m b n g) (a_long, m_wide, b_long, n_wide, g_wide) (m_fits, n_fits, g_above) =
    (a_long, multiplier-in-range m m_wide m_fits, b_long, multiplier-in-range n n_wide n_fits, in-range g g_wide g_above, omega (arith, ints, g_above))
plain-step (step.Fail a) sized positive = sized
plain-step (step.Cover field parts) sized positive = sized
plain-step (step.Fix field part) sized positive = sized

plain-steps : (ss : List Step) → AreSizedSteps ss → AreCoherentSteps ss → AreFit IsStep ss
plain-steps ss (count, sized) positive = (count, all-both IsSizedStep IsCoherentStep IsStep plain-step ss sized positive)

plain-reason : (reason : LeafWhy) → OfSteps AreSizedSteps reason → OfSteps AreCoherentSteps reason → OfSteps (AreFit IsStep) reason
plain-reason why.Bound sized positive = tt
plain-reason why.BadKept sized positive = tt
plain-reason (why.Line steps) sized positive = plain-steps steps sized positive
plain-reason (why.Box steps) sized positive = plain-steps steps sized positive

plain-leaf : (leaf : Leaf) → IsSizedLeaf leaf → IsCoherentLeaf leaf → IsLeaf leaf
plain-leaf leaf sized positive = plain-reason leaf.why sized positive

plain-leaves : (leaves : List Leaf) → AreFit IsSizedLeaf leaves → AllByRecursion IsCoherentLeaf leaves → AreFit IsLeaf leaves
plain-leaves leaves (count, sized) positive = (count, all-both IsSizedLeaf IsCoherentLeaf IsLeaf plain-leaf leaves sized positive)

plain-change : (path : List Bool) (weight : ℕ) (leaves : List Leaf) → IsSizedChange weight leaves → IsCoherentChange path weight leaves
    → IsChange path weight leaves
plain-change path zero leaves sized clean = clean
plain-change path (suc w) leaves (long, sized) positive = (long, plain-leaves leaves sized positive)

plain-outcome : (o : Outcome) (gift : Option GiftFault) → IsSizedOutcome o gift → IsCoherentOutcome o gift → IsOutcome o gift
plain-outcome (outcome.Change path weight cert) None sized coherent = plain-change path weight cert.leaves sized coherent
plain-outcome (outcome.Change path weight cert) (Some fault) (long, gift, sized) positive = (long, gift, plain-leaves cert.leaves sized positive)
plain-outcome (outcome.Budget path work) None sized coherent = sized
plain-outcome (outcome.Budget path work) (Some fault) sized coherent = absurd coherent
plain-outcome (outcome.Overflow path event) None sized coherent = sized
plain-outcome (outcome.Overflow path event) (Some fault) sized coherent = absurd coherent
plain-outcome (outcome.Contradictory cert) None sized positive = plain-leaves cert.leaves sized positive
plain-outcome (outcome.Contradictory cert) (Some fault) sized coherent = absurd coherent

plain-row : (row : RowProof) → IsSizedRow row → IsCoherentRow row → IsRowProof row
plain-row row sized coherent = plain-outcome row.outcome row.gift sized coherent

plain-verdict : (verdict : Option (List Step)) → IsSizedVerdict verdict → IfSome verdict AreCoherentSteps → IfSome verdict (AreFit IsStep)
plain-verdict None sized positive = tt
plain-verdict (Some steps) sized positive = plain-steps steps sized positive

plain-table-step : (s : Step) → IsSizedStep s → IsCoherentTableStep s → IsTableStep s
plain-table-step (step.Given i) sized coherent = sized
plain-table-step (step.Combine a m b n g) sized positive = plain-step (step.Combine a m b n g) sized positive
plain-table-step (step.Fail a) sized coherent = absurd coherent
plain-table-step (step.Cover field parts) sized coherent = absurd coherent
plain-table-step (step.Fix field part) sized coherent = absurd coherent

plain-table : (b : Bool) (table : List Step) → IsSizedTable b table → IsCoherentTable b table → IsTable b table
plain-table true table (count, sized) coherent = (count, all-both IsSizedStep IsCoherentTableStep IsTableStep plain-table-step table sized coherent)
plain-table false table sized coherent = coherent

pub plain-if : (p : Proof) → IsSized p → IsCoherent p → IsPlain p
plain-if p sized coherent = record {
  version = coherent.version;
  limit = sized.limit;
  near = sized.near;
  budget = sized.budget;
  verdicts = (
    sized.verdicts.0,
    all-both IsSizedVerdict (λ v. IfSome v AreCoherentSteps) (λ v. IfSome v (AreFit IsStep)) plain-verdict p.verdicts
        sized.verdicts.1 coherent.verdicts,
  );
  table = plain-table (has_table p.version) p.table sized.table coherent.table;
  rows = (sized.rows.0, all-both IsSizedRow IsCoherentRow IsRowProof plain-row p.rows sized.rows.1 coherent.rows);
  claims = sized.claims;
}
