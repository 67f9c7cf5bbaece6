-- After the insertion the map has these bytes under the name, and what it had under every other.
use Rattle.std.proofs.Common.{◌≡◌, ap, arith, Vec, ℕ}
use Rattle.std.specs.BTreeMap.{get_by_text}
use Rattle.std.specs.Option.{option_map}
use Rattle.std.specs.declared.alloc.Global.{Global}
use Rattle.std.proofs.lemmas.Map.Text.{text_keys}
use Rattle.edit_desk.proofs.MemoryLaws.{under_named}
use Rattle.edit_desk.proofs.memory.insert_copy.Goals as goal

pub returns-clause-here : goal.returns-clause-here
returns-clause-here c = rw (under_named c.insert.new.self c.args.name.now) (grind (arith, text_keys))

pub returns-clause-others : goal.returns-clause-others
returns-clause-others c = λ other differs.
    let same : get_by_text c.insert.new.self other ≡ get_by_text c.args.files.now other = grind (arith, text_keys) in
    rw (under_named c.insert.new.self other, under_named c.args.files.now other) (ap (option_map (λ (v : Vec ℕ Global). v.items)) same)
