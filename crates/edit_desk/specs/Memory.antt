-- A desk in memory: what it holds, and which of its calls are to fail.
use Rattle.std.specs.Prelude.{◌≡◌, ◌==◌, ℕ, ◌+◌, Option, Some, None, IsErr, IsErrOf, Result, List, [], ◌∷◌, length, map, take, find}
use Rattle.std.specs.Prelude.{count_by, if◌then◌else◌, string_bytes, String, Vec}
use Rattle.std.specs.Str.{bytes_eq}
use Rattle.std.specs.BTreeMap.{BTreeMap}
use Rattle.std.specs.declared.alloc.Global.{Global}
use Rattle.edit_desk.specs.Desk.{Files, Asked}
use Rattle.edit_desk.specs.declared.calls.StoreError.{StoreError}
use Rattle.edit_desk.specs.declared.calls.StoreError.TheVariants as store
use Rattle.edit_desk.specs.declared.memory.Failure.{Failure}
use Rattle.edit_desk.specs.declared.memory.Call.{Call}

-- the files by name, the calls on record, and the failures that were asked for
pub record Memory : Type 0 where
  pub files : List (List ℕ × List ℕ)
  pub calls : List Asked
  pub failures : List Failure

-- the files of a map, each as its name and its bytes
abbrev pub named_files : BTreeMap (String Global) (Vec ℕ Global) → List (List ℕ × List ℕ)
named_files m = map (λ e. (string_bytes e.0, e.1.items)) m.entries

-- the bytes that stand under a name
abbrev pub under : List (List ℕ × List ℕ) → Files
under [] name = None
under (file ∷ files) name = if bytes_eq name file.0 then Some file.1 else under files name

-- a call as contracts see it
abbrev pub asked : Call → Asked
asked c = record { store = c.store; name = string_bytes c.name; failed = c.failed }

-- the failure that was asked for the next call, where there is one
abbrev pub next_failure : Memory → Option Failure
next_failure m = find (λ f. f.call == length m.calls + 1) m.failures

-- how many of the calls on record failed
abbrev pub faults_of : Memory → ℕ
faults_of m = count_by (λ c. c.failed) m.calls

-- what a store of these bytes under a name answers and leaves where a failure was asked for: it is refused, and unless for
-- want of memory, the first bytes that the failure keeps stand there
abbrev pub FailsAs : Files → List ℕ → List ℕ → Result (Unit {0}) StoreError → Failure → Type 0
FailsAs after name bytes result failure = IsErr result × (IsErrOf result store.Failed → after name ≡ Some (take failure.keep bytes))
