use Rattle.std.proofs.Common.{◌≡◌, ◌++◌, take}
use Rattle.std.specs.List.{flat_map}
use Rattle.page_markup.specs.OpenPages.{given}
use Rattle.page_markup.specs.Trees.{attribute_text}
use Rattle.page_markup.proofs.marks.push_attributes.Given as goal

abbrev pub invariant-loop-attribute : goal.invariant-loop-attribute
invariant-loop-attribute l = l.text.items ≡ l.fn.text.items ++ flat_map attribute_text (given (take l.attribute-index l.attributes))
