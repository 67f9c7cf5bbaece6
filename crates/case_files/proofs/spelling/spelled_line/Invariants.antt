use Rattle.std.proofs.Common.{◌≡◌, take}
use Rattle.std.specs.List.{flat_map}
use Rattle.case_files.specs.Spelling.{byte_spelling}
use Rattle.case_files.proofs.spelling.spelled_line.Given as goal

abbrev pub invariant-loop-byte : goal.invariant-loop-byte
invariant-loop-byte l = l.text.items ≡ flat_map byte_spelling (take l.byte-index l.line)
