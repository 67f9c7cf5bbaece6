use Rattle.std.specs.Prelude.{◌≡◌, ◌⊎◌, ⊤, ℕ, List, Option, Some, None, Result, Ok, Err, String, length, string_bytes}
use Rattle.std.specs.declared.alloc.Global.{Global}
use Rattle.bound_cert.specs.ValidTrees.{IsFirstFault, IsValidTree, TreeCase}
use Rattle.bound_cert.specs.declared.cert.Leaf.{Leaf}
use Rattle.certificate_bench.specs.inner.Cases.{case_of}
use Rattle.certificate_bench.specs.inner.Certificates.{leaves_of}
use Rattle.certificate_bench.specs.inner.Texts.{accepted_text, refused_text}
use Rattle.certificate_bench.specs.declared.certificate.Plan.{Plan}
use Rattle.bench_frame.specs.declared.fault.Fault.{Fault}
use Rattle.bench_frame.specs.declared.fault.Fault.TheVariants.{OutOfMemory, Usage}

-- the text says that these leaves are those of a valid tree, and they are; or it says where they are first at fault,
-- and they are so there
abbrev pub IsVerdict : TreeCase → List Leaf → List ℕ → Type 0
IsVerdict c leaves text =
    (IsValidTree c leaves × (text ≡ accepted_text (length leaves)))
    ⊎ ((leaf : ℕ) × (step : Option ℕ) × IsFirstFault c leaves leaf step × (text ≡ refused_text leaf step))

-- what is told where this is asked for: the verdict on the certificate; a fault of usage where nothing is; want of memory at any time
abbrev pub IsTold : Result (String Global) Fault → Option Plan → Type 0
IsTold (Ok text) (Some plan) = IsVerdict (case_of plan.depth) (leaves_of plan) (string_bytes text)
IsTold (Ok text) None = ⊥
IsTold (Err Usage) plan = plan ≡ None
IsTold (Err OutOfMemory) plan = ⊤
IsTold (Err _) plan = ⊥
