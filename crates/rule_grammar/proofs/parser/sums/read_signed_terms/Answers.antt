use Rattle.std.proofs.Common.{◌≡◌, ◌∙◌, List, Some, ap, rules, sym}
use Rattle.rule_grammar.proofs.ManyLaws.{many_ends, many_more, prefixed, prefixed_nothing}
use Rattle.rule_grammar.proofs.ReadLaws.{shortens_read}
use Rattle.rule_grammar.proofs.SumLaws.{signed_term_shortens}
use Rattle.rule_grammar.specs.inner.Parsing.{Reading, is_sign, many_at, signed_term_at}
use Rattle.rule_grammar.specs.declared.statement.SignedTerm.{SignedTerm}
use Rattle.rule_grammar.proofs.parser.sums.read_signed_terms.Goals as goal

pub loop-cursor-init : goal.loop-cursor-init
loop-cursor-init c =
    let reading : Reading (List SignedTerm) = many_at is_sign signed_term_at c.args.cursor.now in
    ap (λ (terms : List SignedTerm). prefixed terms reading) c.new-terms.ensures.items ∙ prefixed_nothing reading

pub loop-cursor-preserved : goal.loop-cursor-preserved
loop-cursor-preserved c =
    let is : signed_term_at c.loop-cursor.cursor ≡ Some (c.in_ok-next.next, c.read_signed_term.new.cursor) = search rules in
    let terms : List SignedTerm = c.loop-cursor.terms.items in
    let reading : Reading (List SignedTerm) = many_at is_sign signed_term_at c.read_signed_term.new.cursor in
    ap (λ (terms : List SignedTerm). prefixed terms reading) c.in_ok-push.ensures.items
    ∙ sym (many_more is_sign signed_term_at signed_term_shortens terms c.in_ok-next.next c.loop-cursor.cursor c.read_signed_term.new.cursor
    (sym c.loop-cursor-test.ensures) is) ∙ c.loop-cursor.invariant

pub loop-cursor-smaller : goal.loop-cursor-smaller
loop-cursor-smaller c =
    let is : signed_term_at c.loop-cursor.cursor ≡ Some (c.in_ok-next.next, c.read_signed_term.new.cursor) = search rules in
    let before = c.loop-cursor.cursor in
    shortens_read before c.read_signed_term.new.cursor c.in_ok-next.next (signed_term_at before) (signed_term_shortens before) is

pub returns : goal.returns
returns c =
    let terms : List SignedTerm = c.loop-cursor.terms.items in
    let left = c.loop-cursor.cursor in
    sym c.loop-cursor.invariant ∙ many_ends is_sign signed_term_at terms left (sym c.loop-cursor-test.ensures)
    ∙ ap (λ (terms : List SignedTerm). Some (terms, left)) (sym c.from_vec.ensures)
