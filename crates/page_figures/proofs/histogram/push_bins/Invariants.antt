use Rattle.std.proofs.Common.{◌≡◌, drop, map}
use Rattle.page_markup.specs.OpenPages.{added}
use Rattle.page_figures.specs.Drawings.{bins_content, parts_of}
use Rattle.page_figures.proofs.histogram.push_bins.Given as goal

abbrev pub invariant-loop-bin : goal.invariant-loop-bin
invariant-loop-bin l =
    added (bins_content l.layout l.x l.wait (map parts_of (drop l.bin-index l.bins))) l.page
    ≡ added (bins_content l.layout l.initial.x l.initial.wait (map parts_of l.bins)) l.initial.page
