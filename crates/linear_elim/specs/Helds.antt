use Rattle.std.specs.Arc.{arc_value}
use Rattle.linear_elim.specs.Systems.{SystemParts}
use Rattle.linear_elim.specs.declared.held.Held.{Held}
use Rattle.linear_elim.specs.declared.held.Held.TheVariants.{Own, Shared}

-- the system that is held, kept by its source or the caller's own
abbrev pub system_held : Held → SystemParts
system_held (Shared system) = arc_value system
system_held (Own system) = system
