use Rattle.std.proofs.Common.{Bor, List, ℕ, ◌∙◌, ap, arith, map}
use Rattle.std.proofs.lemmas.List.{take_all}
use Rattle.clap.specs.Words.{app_of}
use Rattle.command_words.specs.inner.Made.{option_named, with_rules}
use Rattle.command_words.proofs.CommandLaws.{one_more}
use Rattle.command_words.proofs.options.with_options.Goals as goal

pub loop-name-preserved : goal.loop-name-preserved
loop-name-preserved c =
    one_more (λ name. option_named c.args.required name.now) _ c.args.names.now c.loop-name.name-index _ c.loop-name.command c.in_ok-command.command
    c.option_named.result c.loop-name-test.true c.loop-name.invariant c.option_named.ensures.option c.option_named.ensures.local
    c.in_ok-command.ensures

pub returns : goal.returns
returns c =
    c.loop-name.invariant
    ∙ ap (λ (names : List (Bor (List ℕ))). with_rules (app_of c.args.command) (map (λ name. option_named c.args.required name.now) names))
    (take_all c.loop-name.name-index c.args.names.now (omega (arith, c.loop-name-test.false)))
