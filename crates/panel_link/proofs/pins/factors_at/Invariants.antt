use Rattle.std.proofs.Common.{◌≡◌, map, take}
use Rattle.panel_link.specs.inner.PinLines.{own_factor}
use Rattle.panel_link.proofs.pins.factors_at.Given as goal

abbrev pub invariant-loop-other : goal.invariant-loop-other
invariant-loop-other l = l.factors.items ≡ map (own_factor l.field l.x) (take l.other-index l.other-items)
