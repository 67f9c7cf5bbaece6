use Rattle.page_markup.proofs.TreeLaws.{appended-three}
use Rattle.page_markup.proofs.style.push_style.Goals as goal

pub returns : goal.returns
unfolding Rattle.page_markup.specs.Trees.style_text
returns c =
    appended-three c.args.text.now.items _ _ _ _ _ _
    c.in_ok-extend_from_slice.ensures.items c.in_ok-extend_from_slice-2.ensures.items c.in_ok-extend_from_slice-3.ensures.items
