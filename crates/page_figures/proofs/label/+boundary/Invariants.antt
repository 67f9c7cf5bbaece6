use Rattle.page_figures.proofs.label.+boundary.Given as goal

abbrev pub decreases-boundary : goal.decreases-boundary
decreases-boundary l = l.end
