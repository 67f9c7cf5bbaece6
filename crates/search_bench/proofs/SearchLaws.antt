use Rattle.std.proofs.Common.{◌≡◌, ◌≢◌, ◌∙◌, ap, sym}
use Rattle.record_text.specs.declared.fault.SheetFault.{SheetFault}
use Rattle.record_text.specs.declared.fault.SheetFault.TheVariants as sheet
use Rattle.bench_frame.specs.declared.fault.Fault.TheVariants as fault
use Rattle.search_bench.specs.inner.Texts.{sheet_fault_of}

-- a fault that is told as one of the records is none of memory
pub not-memory : (told : SheetFault) → sheet_fault_of told ≡ fault.Records → told ≢ sheet.OutOfMemory
not-memory told is same = absurd (cc (sym is ∙ ap sheet_fault_of same))
