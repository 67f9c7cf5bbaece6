-- Which proofs have a text.
use Rattle.std.specs.Prelude.{◌≡◌, ◌⊎◌, true, false, ℕ, zero, suc, Bool, ◌<◌, ◌^◌, ◌≤ℤ◌, List, [], ◌∷◌, Option, Some, None, IfSome, length, pos}
use Rattle.std.specs.List.{AllByRecursion}
use Rattle.fraction128.specs.Range.{InRange}
use Rattle.edit_line.specs.declared.place.Place.{Place}
use Rattle.edit_line.specs.declared.place.Place.TheVariants.{Field, Constant}
use Rattle.derivation.specs.declared.step.Step.{Step}
use Rattle.derivation.specs.declared.step.Step.TheVariants as step
use Rattle.bound_cert.specs.declared.cert.Leaf.{Leaf}
use Rattle.bound_cert.specs.declared.cert.LeafWhy.{LeafWhy}
use Rattle.bound_cert.specs.declared.cert.LeafWhy.TheVariants as why
use Rattle.donor_book.specs.declared.claim.Entry.{Entry}
use Rattle.bound_cert.specs.declared.outcome.Event.{Event}
use Rattle.bound_cert.specs.declared.outcome.Event.TheVariants as event
use Rattle.bound_cert.specs.declared.outcome.GiftFault.{GiftFault}
use Rattle.bound_cert.specs.declared.outcome.GiftFault.TheVariants as gift
use Rattle.bound_cert.specs.declared.outcome.Outcome.{Outcome}
use Rattle.bound_cert.specs.declared.outcome.Outcome.TheVariants as outcome
use Rattle.proof_grammar.specs.ProofLines.{has_table}
use Rattle.proof_grammar.specs.declared.proof.Proof.{Proof}
use Rattle.bound_cert.specs.declared.outcome.RowProof.{RowProof}

-- a number of 64 bits
abbrev pub IsLong : ℕ → Type 0
IsLong n = n < 2 ^ 64

-- a number of 32 bits
abbrev pub IsShort : ℕ → Type 0
IsShort n = n < 2 ^ 32

-- a list that is counted by a number of 64 bits, each of whose elements fits
abbrev pub AreFit : {X : Type 0} → (X → Type 0) → List X → Type 0
AreFit Fit xs = IsLong (length xs) × AllByRecursion Fit xs

-- a step's numbers fit; those of a combination are in range, and its divisor is not negative
abbrev pub IsStep : Step → Type 0
IsStep (step.Given i) = IsLong i
IsStep (step.Combine a m b n g) = IsLong a × InRange m × IsLong b × InRange n × InRange g × (pos 0 ≤ℤ g)
IsStep (step.Fail a) = IsLong a
IsStep (step.Cover field parts) = IsShort field × AllByRecursion IsLong parts
IsStep (step.Fix field part) = IsShort field × IsLong part

-- the same of a step that gives a line, as those of a table do
abbrev pub IsTableStep : Step → Type 0
IsTableStep (step.Given i) = IsStep (step.Given i)
IsTableStep (step.Combine a m b n g) = IsStep (step.Combine a m b n g)
IsTableStep other = ⊥

-- such steps stand in the table, where there is one
abbrev pub IsTable : Bool → List Step → Type 0
IsTable true table = AreFit IsTableStep table
IsTable false table = table ≡ []

-- what is asked of the steps of a leaf's reason, where it has some
abbrev pub OfSteps : (List Step → Type 0) → LeafWhy → Type 0
OfSteps Fit why.Bound = Unit {0}
OfSteps Fit why.BadKept = Unit {0}
OfSteps Fit (why.Line steps) = Fit steps
OfSteps Fit (why.Box steps) = Fit steps

-- the numbers of a leaf's steps fit, and its steps are counted by 64 bits
abbrev pub IsLeaf : Leaf → Type 0
IsLeaf leaf = OfSteps (AreFit IsStep) leaf.why

-- the field at which a number of a line stands is a number of 32 bits; the constant always fits
abbrev pub IsPlace : Place → Type 0
IsPlace Constant = Unit {0}
IsPlace (Field f) = IsShort f

-- the numbers fit that tell where a number left the range in a search
abbrev pub IsEvent : Event → Type 0
IsEvent (event.Step first second place) = IsLong first × IsLong second × IsPlace place
IsEvent (event.Test line field) = IsLong line × IsShort field

-- the numbers fit that tell where a number left the range while values were given
abbrev pub IsGift : GiftFault → Type 0
IsGift (gift.Bound field line) = IsShort field × IsLong line
IsGift (gift.Test rule) = IsShort rule

-- the one leaf of a row that is clean
abbrev pub clean_leaves : List Leaf
clean_leaves = record { path = []; why = why.Bound } ∷ []

-- a change without a fault that weighs nothing has the empty path and its one leaf
abbrev pub IsChange : List Bool → ℕ → List Leaf → Type 0
IsChange path zero leaves = (path ≡ []) × (leaves ≡ clean_leaves)
IsChange path (suc w) leaves = IsLong (suc w) × AreFit IsLeaf leaves

-- a gift fault stands only with a change
abbrev pub IsOutcome : Outcome → Option GiftFault → Type 0
IsOutcome (outcome.Change path weight cert) None = IsChange path weight cert.leaves
IsOutcome (outcome.Change path weight cert) (Some fault) = IsLong weight × IsGift fault × AreFit IsLeaf cert.leaves
IsOutcome (outcome.Budget path work) None = IsLong work
IsOutcome (outcome.Overflow path event) None = IsEvent event
IsOutcome (outcome.Contradictory cert) None = AreFit IsLeaf cert.leaves
IsOutcome _ (Some fault) = ⊥

-- what is said of a record fits, and its text says all of it
abbrev pub IsRowProof : RowProof → Type 0
IsRowProof row = IsOutcome row.outcome row.gift

-- the numbers of a claim fit: its row, the donor that it was given, if any, and those that it ranks
abbrev pub IsEntry : Entry → Type 0
IsEntry entry = IsShort entry.row_no × IfSome entry.reply IsShort × AllByRecursion IsShort entry.ranking

-- each number is in its limits, and nothing stands in the proof that its text does not say
pub record IsPlain (p : Proof) : Type 0 where
  pub version : (p.version ≡ 1) ⊎ (p.version ≡ 2)
  pub limit : IsShort p.limit
  pub near : IsShort p.near
  pub budget : IsLong p.budget
  pub verdicts : AreFit (λ v. IfSome v (AreFit IsStep)) p.verdicts
  pub table : IsTable (has_table p.version) p.table
  pub rows : AreFit IsRowProof p.rows
  pub claims : AreFit IsEntry p.claims
