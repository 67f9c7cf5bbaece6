-- Commands take their options one by one.
use Rattle.std.proofs.Common.{◌≡◌, ◌∙◌, ◌+◌, ◌<◌, ◌++◌, [], ℕ, List, Bor, true, false, ap, ap₂, append_assoc, get_or, length, map, sym, take}
use Rattle.std.proofs.lemmas.List.{map_more}
use Rattle.clap.specs.Built.{AddsArg}
use Rattle.clap.specs.Words.{App, Rule, app_of, rule_of, with_rule}
use Rattle.clap.specs.declared.builder.arg.Arg.{Arg}
use Rattle.clap.specs.declared.builder.command.Command.{Command}
use Rattle.command_words.specs.Options.{command_with}
use Rattle.command_words.specs.inner.Made.{command_of, option_named, with_rules}

-- a command that has the options of the first names has those of one name more
pub one_more : (option : Bor (List ℕ) → Rule) (first : App) (names : List (Bor (List ℕ))) (i : ℕ) (none : Bor (List ℕ))
    (old new : Command) (arg : Arg) → i < length names → app_of old ≡ with_rules first (map option (take i names))
    → rule_of arg ≡ option (get_or names i none) → arg.global ≡ false → AddsArg old arg new
    → app_of new ≡ with_rules first (map option (take (i + 1) names))
one_more option first names i none old new arg below is made local adds =
    adds.shape local ∙ ap₂ with_rule is made
    ∙ ap (λ (rules : List Rule). record first { top = record first.top { rules = rules } })
    (append_assoc first.top.rules _ _ ∙ ap (λ (more : List Rule). first.top.rules ++ more) (sym (map_more option names i none below)))

-- a command that is given the options that have to stand, and then the others, has both
pub both_given : (name : List ℕ) (required optional : List (Bor (List ℕ))) (named first second : Command) → app_of named ≡ command_with name []
    → app_of first ≡ with_rules (app_of named) (map (λ option. option_named true option.now) required)
    → app_of second ≡ with_rules (app_of first) (map (λ option. option_named false option.now) optional)
    → app_of second ≡ command_of name required optional
both_given name required optional named first second is one other =
    let both = one ∙ ap (λ (app : App). with_rules app (map (λ option. option_named true option.now) required)) is in
    other ∙ ap (λ (app : App). with_rules app (map (λ option. option_named false option.now) optional)) both
