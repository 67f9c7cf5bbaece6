use Rattle.std.proofs.Common.{rules, Some, ◌≡◌, ◌∙◌, sym, true}
use Rattle.rule_grammar.proofs.ManyLaws.{many_more}
use Rattle.rule_grammar.proofs.ListLaws.{comma_code_shortens}
use Rattle.rule_grammar.specs.inner.Parsing.{begins, is_comma, comma_code_at}
use Rattle.rule_grammar.proofs.parser.lists.read_comma_codes.Goals as goal

pub loop-cursor-preserved : goal.loop-cursor-preserved
loop-cursor-preserved c =
    let begun : begins is_comma c.loop-cursor.cursor ≡ true = search rules in
    let is : comma_code_at c.loop-cursor.cursor ≡ Some (c.in_ok-next.next, c.read_comma_code.new.cursor) = search rules in
    let more = many_more is_comma comma_code_at comma_code_shortens c.loop-cursor.codes.items c.in_ok-next.next c.loop-cursor.cursor
    c.read_comma_code.new.cursor begun is in
    rw (c.in_ok-push.ensures.items) (sym more ∙ c.loop-cursor.invariant)
