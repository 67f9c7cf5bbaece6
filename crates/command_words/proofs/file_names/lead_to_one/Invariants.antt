-- The names lead to one file exactly where what is left of their parts is the same.
use Rattle.std.proofs.Common.{◌≡◌, ◌↔◌}
use Rattle.std.specs.Path.{components_remaining}
use Rattle.command_words.specs.FileNames.{LeadToOne}
use Rattle.command_words.proofs.file_names.lead_to_one.Given as goal

abbrev pub invariant-loop-part : goal.invariant-loop-part
invariant-loop-part l = LeadToOne l.a l.b ↔ (components_remaining l.left ≡ components_remaining l.right)
