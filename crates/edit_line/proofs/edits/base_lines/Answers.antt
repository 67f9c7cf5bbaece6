use Rattle.std.proofs.Common.{◌≡◌, ◌<◌, ◌+◌, ◌++◌, ◌∷◌, ◌∙◌, [], All, List, ap, get_or, length, rules, subst, sym, take, ℕ}
use Rattle.std.proofs.lemmas.List.{map_more, map_push}
use Rattle.std.proofs.lemmas.List.Elements.{All-push}
use Rattle.edit_line.specs.EditSets.{base_lines}
use Rattle.edit_line.specs.Lines.{IsLine, LineParts}
use Rattle.edit_line.specs.Reductions.{derived_from, lines_of}
use Rattle.edit_line.specs.declared.derived.Derived.{Derived}
use Rattle.edit_line.specs.declared.derived.Origin.TheVariants.{Base}
use Rattle.edit_line.proofs.edits.base_lines.Goals as goal

-- the lines up to a place, and with the one there
base-more : (lines : List (ℕ × LineParts)) (base after : List Derived) (i number : ℕ) (e : ℕ × LineParts) (line : LineParts) → i < length lines
    → e ≡ get_or lines i e → number ≡ e.0 → line ≡ e.1 → IsLine line → (base ≡ base_lines (take i lines)) × All IsLine (lines_of base)
    → after ≡ base ++ derived_from line (Base number) ∷ [] → (after ≡ base_lines (take (i + 1) lines)) × All IsLine (lines_of after)
base-more lines base after i number e line below here number_is line_is is so_far after_is = (
  after_is ∙ (λ k. so_far.0 k ++ derived_from (line_is k) (Base (number_is k)) ∷ [])
      ∙ ap (λ (x : ℕ × LineParts). base_lines (take i lines) ++ derived_from x.1 (Base x.0) ∷ []) here
      ∙ sym (map_more (λ (x : ℕ × LineParts). derived_from x.1 (Base x.0)) lines i e below),
  subst (λ (ds : List Derived). All IsLine (lines_of ds)) (sym after_is)
      (subst (λ (ls : List LineParts). All IsLine ls) (sym (map_push (λ (d : Derived). d.line) base (derived_from line (Base number))))
      (All-push IsLine (lines_of base) line so_far.1 is)),
)

pub loop-number-preserved : goal.loop-number-preserved
loop-number-preserved c =
    let is : IsLine c.in_ok-copy.field-0 = search rules in
    base-more c.args.lines.now c.loop-number.base.items c.push.new.self.items c.loop-number.number-index c.from.result c.loop-number-item.result
    c.in_ok-copy.field-0 c.loop-number-test.true c.loop-number-item.is c.from.ensures c.in_ok-copy.ensures is c.loop-number.invariant c.in_ok-push.ensures.items
