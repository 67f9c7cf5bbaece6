use Rattle.std.proofs.Common.{◌≡◌, ◌↔◌, ◌==◌, ◌<◌, ◌++◌, ◌∷◌, [], ◌∙◌, ap, bit_xor, if◌then◌else◌, length, slice_index_or, slice_set, subst, sym, List, ℕ}
use Rattle.std.proofs.Common.{arith}
use Rattle.edit_line.specs.Lines.{AllHold, LineHolds, LineParts}
use Rattle.edit_line.specs.Shapes.{Domain, whole_sets}
use Rattle.edit_line.specs.Negations.{negation_of, never}
use Rattle.edit_line.proofs.NegationLines.{negation-all, negation-end, outside-more}
use Rattle.edit_line.proofs.NegationLaws.{negation-meets}
use Rattle.std.proofs.lemmas.Grind.{common_steps}
use Rattle.edit_line.proofs.line.Line.negation.Goals as goal

pub loop-place-preserved : goal.loop-place-preserved
loop-place-preserved c =
    let line = c.args.self.now in
    let place = c.loop-place.place in
    let before = c.loop-place.negation.items in
    let sets = c.sets-sets.result.now in
    let wholes : c.deref-in-loop-place.result.now ≡ whole_sets c.args.self.now.shape = c.deref-in-loop-place.ensures.value ∙ c.in_ok-wholes.ensures
    ∙ ap (λ (s : List Domain). whole_sets s) c.shape.ensures in
    outside-more line.shape line.sets (whole_sets line.shape) place before c.push_never.new.negation.items (negation_of line) c.sets-sets.ensures.fit
    (subst (λ (ss : List ℕ). place < length ss) c.sets-sets.ensures.sets c.loop-place-test.true) c.loop-place.invariant
    (c.in_ok-push_never.ensures
    ∙ ap (λ (ws : List ℕ). before ++ (if slice_index_or sets place 0 == slice_index_or ws place 0 then [] else never line.shape
    (slice_set (whole_sets line.shape) place (bit_xor (slice_index_or ws place 0) (slice_index_or sets place 0))) ∷ [])) wholes
    ∙ ap (λ (ss : List ℕ). before ++ (if slice_index_or ss place 0 == slice_index_or (whole_sets line.shape) place 0 then [] else never line.shape
    (slice_set (whole_sets line.shape) place (bit_xor (slice_index_or (whole_sets line.shape) place 0) (slice_index_or ss place 0))) ∷ []))
    c.sets-sets.ensures.sets)

pub returns-clause-lines : goal.returns-clause-lines
returns-clause-lines c =
    let line = c.args.self.now in
    negation-all line c.loop-place.negation.items c.sets-sets.ensures.line (negation-end line c.loop-place.negation.items c.loop-place.place
    (ap length (sym c.sets-sets.ensures.sets)) (omega (arith, c.loop-place-test.false)) c.loop-place.invariant)

pub returns-clause-contrary : goal.returns-clause-contrary
returns-clause-contrary c = λ p held.
    let line = c.args.self.now in
    let is = negation-end line c.loop-place.negation.items c.loop-place.place (ap length (sym c.sets-sets.ensures.sets))
    (omega (arith, c.loop-place-test.false)) c.loop-place.invariant in
    subst (λ (ls : List LineParts). AllHold ls p ↔ (¬ LineHolds line p)) (sym is) (negation-meets line p c.sets-sets.ensures.line c.requires held)

pub returns-clause-exact : goal.returns-clause-exact
returns-clause-exact c = grind (arith, common_steps)
