use Rattle.std.proofs.Common.{◌∙◌, ◌++◌, [], ◌∷◌, List, Some, ap, sym}
use Rattle.rule_grammar.proofs.ManyLaws.{many_ends, many_more, prefixed, prefixed_first}
use Rattle.rule_grammar.proofs.ReadLaws.{shortens_read}
use Rattle.rule_grammar.proofs.TestLaws.{and_test_shortens}
use Rattle.rule_grammar.specs.inner.Parsing.{Reading, and_test_at, is_word, many_at}
use Rattle.rule_grammar.specs.declared.statement.TestText.{TestText}
use Rattle.rule_grammar.specs.declared.token.Keyword.TheVariants as keyword
use Rattle.rule_grammar.proofs.parser.conditions.read_and_tests.Goals as goal

pub loop-alloc-init : goal.loop-alloc-init
loop-alloc-init c =
    let first : TestText = c.args.first in
    let reading : Reading (List TestText) = many_at (is_word keyword.And) and_test_at c.args.cursor.now in
    ap (λ (tests : List TestText). prefixed tests reading)
    (c.in_ok-push.ensures.items ∙ ap (λ (tests : List TestText). tests ++ first ∷ []) c.new-tests.ensures.items) ∙ prefixed_first first reading

pub loop-alloc-preserved : goal.loop-alloc-preserved
loop-alloc-preserved c =
    let tests : List TestText = c.loop-alloc.tests.items in
    let reading : Reading (List TestText) = many_at (is_word keyword.And) and_test_at c.read_and_test.new.cursor in
    ap (λ (tests : List TestText). prefixed tests reading) c.in_ok-push-2.ensures.items
    ∙ sym (many_more (is_word keyword.And) and_test_at and_test_shortens tests c.in_ok-read_and_test.field-0 c.loop-alloc.cursor c.read_and_test.new.cursor
    (sym c.loop-alloc-test.ensures) c.in_ok-read_and_test.ensures) ∙ c.loop-alloc.invariant

pub loop-alloc-smaller : goal.loop-alloc-smaller
loop-alloc-smaller c =
    let before = c.loop-alloc.cursor in
    shortens_read before c.read_and_test.new.cursor c.in_ok-read_and_test.field-0 (and_test_at before) (and_test_shortens before) c.in_ok-read_and_test.ensures

pub returns : goal.returns
returns c =
    let tests : List TestText = c.loop-alloc.tests.items in
    let left = c.loop-alloc.cursor in
    sym c.loop-alloc.invariant ∙ many_ends (is_word keyword.And) and_test_at tests left (sym c.loop-alloc-test.ensures)
    ∙ ap (λ (tests : List TestText). Some (tests, left)) (sym c.from_vec.ensures)
