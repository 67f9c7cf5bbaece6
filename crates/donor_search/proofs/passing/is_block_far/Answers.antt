use Rattle.std.proofs.Common.{◌≡◌, ◌∙◌, ◌≤◌, ◌/◌, List, length, subst}
use Rattle.donor_search.specs.declared.slot.Slot.{Slot}
use Rattle.donor_search.specs.inner.Passings.{slots_of}
use Rattle.donor_search.proofs.BlockLaws.{as_many_ranges, block_far, block_there, whole_block}
use Rattle.donor_search.proofs.passing.is_block_far.Goals as goal

pub block_at-ranges-requires-clause-block : goal.block_at-ranges-requires-clause-block
block_at-ranges-requires-clause-block g c =
    let p = c.args.passing.now in
    let blocks = c.args.end / 32 in
    let first : p.field ≡ p.search.now.deck.now.first = c.if-passing-first.false ∙ c.first.ensures in
    let within : c.args.end ≤ length (slots_of p) = subst (λ (ss : List Slot). c.args.end ≤ length ss) c.requires.passing.walked c.if-end-passing.false in
    block_there p blocks c.args.end first c.requires.some c.if-blocks-end.false within

pub are_farther-requires-clause-equal : goal.are_farther-requires-clause-equal
are_farther-requires-clause-equal g c =
    let p = c.args.passing.now in
    let blocks = c.args.end / 32 in
    let first : p.field ≡ p.search.now.deck.now.first = c.if-passing-first.false ∙ c.first.ensures in
    let within : c.args.end ≤ length (slots_of p) = subst (λ (ss : List Slot). c.args.end ≤ length ss) c.requires.passing.walked c.if-end-passing.false in
    as_many_ranges p blocks c.args.end first c.requires.some c.if-blocks-end.false within g.F.Fn c.requires.passing
    c.block_at-ranges.result.now c.block_at-ranges.ensures

pub returns-clause-whole : goal.returns-clause-whole
returns-clause-whole g c are = whole_block (c.args.end / 32) c.args.end c.requires.some c.if-blocks-end.false

pub returns-clause-far : goal.returns-clause-far
returns-clause-far g c are =
    let p = c.args.passing.now in
    let blocks = c.args.end / 32 in
    let first : p.field ≡ p.search.now.deck.now.first = c.if-passing-first.false ∙ c.first.ensures in
    let within : c.args.end ≤ length (slots_of p) = subst (λ (ss : List Slot). c.args.end ≤ length ss) c.requires.passing.walked c.if-end-passing.false in
    block_far p blocks c.args.end first c.requires.some c.if-blocks-end.false within g.F.Fn c.requires.passing
    c.block_at-ranges.result.now c.block_at-ranges.ensures
    (c.are_farther.ensures are)
