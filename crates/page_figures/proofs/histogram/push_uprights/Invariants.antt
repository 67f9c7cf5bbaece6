use Rattle.std.proofs.Common.{◌≡◌, drop}
use Rattle.page_markup.specs.OpenPages.{added}
use Rattle.page_figures.specs.Drawings.{uprights}
use Rattle.page_figures.proofs.histogram.push_uprights.Given as goal

abbrev pub invariant-loop-part : goal.invariant-loop-part
invariant-loop-part l =
    added (uprights l.layout.greatest l.layout.width l.x l.colour (drop l.part-index l.parts)) l.page
    ≡ added (uprights l.layout.greatest l.layout.width l.initial.x l.initial.colour l.parts) l.initial.page
