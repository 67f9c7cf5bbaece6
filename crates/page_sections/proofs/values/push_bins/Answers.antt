use Rattle.std.proofs.Common.{◌∙◌, codes, map}
use Rattle.std.proofs.lemmas.Result.{on_ok_weaker}
use Rattle.page_sections.proofs.ValueLaws.{figure_is}
use Rattle.page_sections.specs.Sections.{bar_parts}
use Rattle.page_sections.specs.ValueSection.{bin_description, value_series}
use Rattle.page_sections.proofs.values.push_bins.Goals as goal

pub returns : goal.returns
unfolding bin_description value_series
returns c =
    on_ok_weaker c.push_own_histogram.result (figure_is c.id_of.result c.args.i c.deref.result.now c.args.name.now bin_description (codes "from")
    (map bar_parts c.args.bins.now) c.args.page.now c.push_own_histogram.new.page c.id_of.ensures
    (c.deref.ensures.value ∙ c.in_ok-title.ensures)) c.push_own_histogram.ensures
