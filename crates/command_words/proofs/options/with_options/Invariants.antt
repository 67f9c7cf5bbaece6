-- The command has the options whose names were read.
use Rattle.std.proofs.Common.{◌≡◌, map, take}
use Rattle.clap.specs.Words.{app_of}
use Rattle.command_words.specs.inner.Made.{option_named, with_rules}
use Rattle.command_words.proofs.options.with_options.Given as goal

abbrev pub invariant-loop-name : goal.invariant-loop-name
invariant-loop-name l =
    app_of l.command ≡ with_rules (app_of l.initial.command) (map (λ name. option_named l.required name.now) (take l.name-index l.names))
