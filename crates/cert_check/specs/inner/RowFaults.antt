use Rattle.std.specs.Prelude.{◌≡◌, ℕ, zero, suc, ◌<◌, Bool, List, Option, Some, None, IfSome}
use Rattle.bound_cert.specs.ValidTrees.{IsValidTree, TreeCase}
use Rattle.bound_cert.specs.declared.cert.Leaf.{Leaf}
use Rattle.bound_cert.specs.declared.outcome.GiftFault.{GiftFault}
use Rattle.bound_cert.specs.declared.outcome.Outcome.{Outcome}
use Rattle.cert_check.specs.RowChecks.{IsCertFault, IsCertified, IsSaidFault, IsTreeFault, IsValidSaid, RowFiles, RowRules}
use Rattle.cert_check.specs.declared.row_check.RowFault.{RowFault}

-- What is found of a record. Private contracts alone cite this page.

-- what a proof says of a record is right, or this is its first fault
abbrev pub FindsSaid : RowRules → RowFiles → Outcome → Option GiftFault → Option RowFault → Type 0
FindsSaid r f outcome gift None = IsValidSaid r f outcome gift
FindsSaid r f outcome gift (Some fault) = IsSaidFault r f outcome gift fault.offset fault.why × ¬ IsValidSaid r f outcome gift

-- the fault stands on one of this number of lines
abbrev pub IsWithin : ℕ → Option RowFault → Type 0
IsWithin lines found = IfSome found (λ fault. fault.offset < lines)

-- ---- by how many lines behind the head of a record the fault is

-- a tree is valid, or its first fault is there
abbrev pub FindsInTree : TreeCase → List Leaf → Option ℕ → Type 0
FindsInTree c leaves None = IsValidTree c leaves
FindsInTree c leaves (Some offset) = IsTreeFault c leaves offset

-- a change is certified, or the first fault of its path, weight or tree is there
abbrev pub FindsInCert : RowRules → RowFiles → List Bool → ℕ → List Leaf → Option ℕ → Type 0
FindsInCert r f path weight leaves None = IsCertified r f path weight leaves
FindsInCert r f path weight leaves (Some offset) = IsCertFault r f path weight leaves offset

-- a change that was given values is certified, or the first fault is there; a change of nothing needs no tree
abbrev pub FindsInChange : RowRules → RowFiles → List Bool → ℕ → List Leaf → Option ℕ → Type 0
FindsInChange r f path zero leaves found = found ≡ None
FindsInChange r f path (suc w) leaves found = FindsInCert r f path (suc w) leaves found

-- the place is that of one of this number of lines, if there is one
abbrev pub IsAmong : ℕ → Option ℕ → Type 0
IsAmong lines found = IfSome found (λ offset. offset < lines)
