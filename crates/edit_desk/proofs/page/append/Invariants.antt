-- The bytes so far were appended, and there was room for them.
use Rattle.std.proofs.Common.{◌≡◌, ◌≤◌, ◌-◌, ◌++◌, length, take, vec_capacity}
use Rattle.edit_desk.proofs.page.append.Given as goal

abbrev pub invariant-loop-byte : goal.invariant-loop-byte
invariant-loop-byte l = record {
  appended : l.page.items ≡ l.fn.page.items ++ take l.byte-index l.bytes;
  within : l.byte-index ≤ vec_capacity l.fn.page - length l.fn.page.items;
  room : vec_capacity l.page ≡ vec_capacity l.fn.page;
}
