-- How a command is given its options.
use Rattle.std.specs.Prelude.{Bool, ℕ, List, map, ◌++◌}
use Rattle.std.specs.Borrow.{Bor}
use Rattle.clap.specs.Simple.{on_top}
use Rattle.clap.specs.Words.{App, Rule}
use Rattle.command_words.specs.Options.{command_with, may_stand, must_stand}

-- the option `--name`, which has to stand if it is required
abbrev pub option_named : Bool → List ℕ → Rule
option_named required name = record (may_stand name) { required = required }

-- the command with these options behind its own
abbrev pub with_rules : App → List Rule → App
with_rules command options = on_top (λ shape. record shape { rules = shape.rules ++ options }) command

-- the command of this name whose first options have to stand, and whose others may be left out
abbrev pub command_of : List ℕ → List (Bor (List ℕ)) → List (Bor (List ℕ)) → App
command_of name required optional =
    command_with name (map (λ option. must_stand option.now) required ++ map (λ option. may_stand option.now) optional)
