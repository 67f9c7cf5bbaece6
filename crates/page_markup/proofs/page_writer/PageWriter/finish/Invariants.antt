use Rattle.std.proofs.Common.{◌≡◌, length}
use Rattle.page_markup.specs.OpenPages.{finished}
use Rattle.page_markup.proofs.page_writer.PageWriter.finish.Given as goal

abbrev pub invariant-loop-self : goal.invariant-loop-self
invariant-loop-self l = finished l.self ≡ finished l.fn.self

abbrev pub decreases-loop-self : goal.decreases-loop-self
decreases-loop-self l = length l.self.tags
