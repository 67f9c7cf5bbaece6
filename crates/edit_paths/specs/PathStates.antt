use Rattle.std.specs.Prelude.{Bool, true, false}
use Rattle.edit_paths.specs.declared.state.PathState.{PathState}
use Rattle.edit_paths.specs.declared.state.PathState.TheVariants.{Open, Overflows}

-- whether the search goes on
abbrev pub is_open : PathState → Bool
is_open Open = true
is_open _ = false

-- whether something is found that rules out all that the path leads to
abbrev pub is_closed : PathState → Bool
is_closed Open = false
is_closed (Overflows e) = false
is_closed _ = true
