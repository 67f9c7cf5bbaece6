use Rattle.std.proofs.Common.{◌≡◌, drop}
use Rattle.page_markup.specs.OpenPages.{added}
use Rattle.page_figures.specs.Drawings.{parts_content}
use Rattle.page_figures.proofs.bars.push_parts.Given as goal

abbrev pub invariant-loop-part : goal.invariant-loop-part
invariant-loop-part l =
    added (parts_content l.greatest l.y l.x l.colour (drop l.part-index l.parts)) l.page
    ≡ added (parts_content l.greatest l.y l.initial.x l.initial.colour l.parts) l.initial.page
