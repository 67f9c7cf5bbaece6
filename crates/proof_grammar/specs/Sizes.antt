-- Which numbers and lists stand in the text of a proof.
use Rattle.std.specs.Prelude.{◌≡◌, ◌⊎◌, ℕ, zero, suc, ℤ, pos, negsuc, ◌<◌, ◌<ℤ◌, ◌^◌, Bool, true, false, List, [], Option, Some, None, IfSome}
use Rattle.std.specs.List.{AllByRecursion}
use Rattle.fraction128.specs.Range.{InRange}
use Rattle.derivation.specs.declared.step.Step.{Step}
use Rattle.derivation.specs.declared.step.Step.TheVariants as step
use Rattle.bound_cert.specs.declared.cert.Leaf.{Leaf}
use Rattle.bound_cert.specs.declared.cert.LeafWhy.{LeafWhy}
use Rattle.bound_cert.specs.declared.outcome.GiftFault.{GiftFault}
use Rattle.bound_cert.specs.declared.outcome.Outcome.{Outcome}
use Rattle.bound_cert.specs.declared.outcome.Outcome.TheVariants as outcome
use Rattle.bound_cert.specs.declared.outcome.RowProof.{RowProof}
use Rattle.proof_grammar.specs.Limits.{AreFit, IsEntry, IsEvent, IsGift, IsLong, IsPlain, IsShort, OfSteps, clean_leaves}
use Rattle.proof_grammar.specs.ProofLines.{has_table}
use Rattle.proof_grammar.specs.declared.proof.Proof.{Proof}

-- ---- sizes

-- a number of 128 bits with its sign: from -(2^127) to 2^127 - 1
abbrev pub IsWide : ℤ → Type 0
IsWide (pos n) = n < 2 ^ 127
IsWide (negsuc n) = n < 2 ^ 127

-- the numbers of a step are of their types
abbrev pub IsSizedStep : Step → Type 0
IsSizedStep (step.Given i) = IsLong i
IsSizedStep (step.Combine a m b n g) = IsLong a × IsWide m × IsLong b × IsWide n × IsWide g
IsSizedStep (step.Fail a) = IsLong a
IsSizedStep (step.Cover field parts) = IsShort field × AllByRecursion IsLong parts
IsSizedStep (step.Fix field part) = IsShort field × IsLong part

-- the same of all steps of a list, which 64 bits count
abbrev pub AreSizedSteps : List Step → Type 0
AreSizedSteps steps = AreFit IsSizedStep steps

-- the same of the steps of a leaf
abbrev pub IsSizedLeaf : Leaf → Type 0
IsSizedLeaf leaf = OfSteps AreSizedSteps leaf.why

-- the same of all leaves of a list, which 64 bits count
abbrev pub AreSizedLeaves : List Leaf → Type 0
AreSizedLeaves leaves = AreFit IsSizedLeaf leaves

-- of a change without a gift fault that weighs nothing, the text says no number
abbrev pub IsSizedChange : ℕ → List Leaf → Type 0
IsSizedChange zero leaves = Unit {0}
IsSizedChange (suc w) leaves = IsLong (suc w) × AreSizedLeaves leaves

-- the text says a gift fault only of a change
abbrev pub IsSizedOutcome : Outcome → Option GiftFault → Type 0
IsSizedOutcome (outcome.Change path weight cert) None = IsSizedChange weight cert.leaves
IsSizedOutcome (outcome.Change path weight cert) (Some fault) = IsLong weight × IsGift fault × AreSizedLeaves cert.leaves
IsSizedOutcome (outcome.Budget path work) fault = IsLong work
IsSizedOutcome (outcome.Overflow path event) fault = IsEvent event
IsSizedOutcome (outcome.Contradictory cert) fault = AreSizedLeaves cert.leaves

-- the numbers that the text says of a record are of their types, and its lists are counted by 64 bits
abbrev pub IsSizedRow : RowProof → Type 0
IsSizedRow row = IsSizedOutcome row.outcome row.gift

-- the same of the steps of a verdict, where it has some
abbrev pub IsSizedVerdict : Option (List Step) → Type 0
IsSizedVerdict verdict = IfSome verdict AreSizedSteps

-- the text says a table only where there is one
abbrev pub IsSizedTable : Bool → List Step → Type 0
IsSizedTable true table = AreSizedSteps table
IsSizedTable false table = Unit {0}

-- each number that the text says is one of its type, and each list is counted by 64 bits
pub record IsSized (p : Proof) : Type 0 where
  pub limit : IsShort p.limit
  pub near : IsShort p.near
  pub budget : IsLong p.budget
  pub verdicts : AreFit IsSizedVerdict p.verdicts
  pub table : IsSizedTable (has_table p.version) p.table
  pub rows : AreFit IsSizedRow p.rows
  pub claims : AreFit IsEntry p.claims

-- ---- what a plain proof says beyond sizes

-- with what a line may be multiplied: a number above 0, or one in range
abbrev pub IsMultiplier : ℤ → Type 0
IsMultiplier z = (pos 0 <ℤ z) ⊎ InRange z

-- a combination multiplies so, and its divisor is above 0
abbrev pub IsCoherentStep : Step → Type 0
IsCoherentStep (step.Given i) = Unit {0}
IsCoherentStep (step.Combine a m b n g) = IsMultiplier m × IsMultiplier n × (pos 0 <ℤ g)
IsCoherentStep (step.Fail a) = Unit {0}
IsCoherentStep (step.Cover field parts) = Unit {0}
IsCoherentStep (step.Fix field part) = Unit {0}

-- each combination among the steps does so
abbrev pub AreCoherentSteps : List Step → Type 0
AreCoherentSteps steps = AllByRecursion IsCoherentStep steps

-- each combination among the steps of a leaf's reason does so
abbrev pub IsCoherentReason : LeafWhy → Type 0
IsCoherentReason reason = OfSteps AreCoherentSteps reason

-- each combination among the steps of a leaf does so
abbrev pub IsCoherentLeaf : Leaf → Type 0
IsCoherentLeaf leaf = IsCoherentReason leaf.why

-- each combination among the steps of these leaves does so
abbrev pub AreCoherentLeaves : List Leaf → Type 0
AreCoherentLeaves leaves = AllByRecursion IsCoherentLeaf leaves

-- a change without a gift fault that weighs nothing has the empty path and the one leaf of a clean row
abbrev pub IsCoherentChange : List Bool → ℕ → List Leaf → Type 0
IsCoherentChange path zero leaves = (path ≡ []) × (leaves ≡ clean_leaves)
IsCoherentChange path (suc w) leaves = AreCoherentLeaves leaves

-- a gift fault stands only with a change
abbrev pub IsCoherentOutcome : Outcome → Option GiftFault → Type 0
IsCoherentOutcome (outcome.Change path weight cert) None = IsCoherentChange path weight cert.leaves
IsCoherentOutcome (outcome.Change path weight cert) (Some fault) = AreCoherentLeaves cert.leaves
IsCoherentOutcome (outcome.Budget path work) None = Unit {0}
IsCoherentOutcome (outcome.Overflow path event) None = Unit {0}
IsCoherentOutcome (outcome.Contradictory cert) None = AreCoherentLeaves cert.leaves
IsCoherentOutcome _ (Some fault) = ⊥

-- the combinations of a record's tree are in order, and no more stands in the row than its lines say
abbrev pub IsCoherentRow : RowProof → Type 0
IsCoherentRow row = IsCoherentOutcome row.outcome row.gift

-- a step of a table gives a line
abbrev pub IsCoherentTableStep : Step → Type 0
IsCoherentTableStep (step.Given i) = Unit {0}
IsCoherentTableStep (step.Combine a m b n g) = IsCoherentStep (step.Combine a m b n g)
IsCoherentTableStep other = ⊥

-- there are no steps of a table where there is none
abbrev pub IsCoherentTable : Bool → List Step → Type 0
IsCoherentTable true table = AllByRecursion IsCoherentTableStep table
IsCoherentTable false table = table ≡ []

-- each combination's factors are above 0 or in range, and its divisor is above 0; and of each row no more stands in the
-- proof than its lines say
pub record IsCoherent (p : Proof) : Type 0 where
  pub version : (p.version ≡ 1) ⊎ (p.version ≡ 2)
  pub table : IsCoherentTable (has_table p.version) p.table
  pub verdicts : AllByRecursion (λ v. IfSome v AreCoherentSteps) p.verdicts
  pub rows : AllByRecursion IsCoherentRow p.rows

-- a proof of such numbers and lists is plain where its rows and combinations are in order
abbrev pub PlainLaw : Type 0
PlainLaw = (p : Proof) → IsSized p → IsCoherent p → IsPlain p
