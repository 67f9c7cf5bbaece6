use Rattle.std.proofs.Common.{◌≡◌, ℕ, ◌++◌, not, Bool, true, false, List, [], ◌∷◌, All, inl, inr, length, refl, sym, ap, ◌∙◌, subst, arith}
use Rattle.std.proofs.lemmas.List.{map-append}
use Rattle.edit_model.specs.Parts.{SurveyParts}
use Rattle.edit_model.specs.Points.{Point}
use Rattle.edit_model.specs.Rows.{is_bad, value_of}
use Rattle.edit_model.specs.declared.value.Value.{Value}
use Rattle.edit_model.proofs.RowLaws.{row-length}
use Rattle.edit_line.specs.EditSets.{EditsParts}
use Rattle.edit_line.specs.Lines.{LineHolds, LineParts}
use Rattle.edit_line.specs.Reductions.{IsIn}
use Rattle.edit_line.proofs.Members.{all-in, in-all, in-either, in-left, in-right}
use Rattle.derivation.specs.declared.step.Step.{Step}
use Rattle.edit_paths.specs.Cases.{IsCase, Meets, SearchCase, case_of, edit_lines}
use Rattle.edit_paths.specs.Paths.{AgreesAlong}
use Rattle.edit_paths.proofs.ClosedPaths.{closed-path}
use Rattle.edit_paths.proofs.OpenPaths.{open-point}
use Rattle.prefix_walk.specs.PathWalks.{prefixes, walk_along}
use Rattle.prefix_walk.specs.declared.walk_end.WalkEnd.TheVariants as walk
use Rattle.prefix_walk.proofs.Prefixes.{agrees-on, path-in}
use Rattle.prefix_walk.proofs.WalkEnds.{closed-at, open-at}
use Rattle.deduce_fill.specs.Forced.{IsCompletion}
use Rattle.deduce_fill.specs.Laws.{IsRuleCase}
use Rattle.deduce_fill.specs.Tests.{own_path, with_line}
use Rattle.back_subst.proofs.StartLaws.{in-order}
use Rattle.deduce_fill.proofs.OwnPaths.{own-keeps, own-length, value-within}

-- Walks along the record's path, and the completions of the record.

module _ (survey : SurveyParts) (edits : EditsParts) (row : List Value) (is : IsRuleCase survey edits row) where
  abbrev c : SearchCase
  c = case_of survey edits row

  abbrev path : List Bool
  path = own_path survey.fields row

  -- a completion meets the edits, and keeps what the path keeps
  pub completion-meets : (p : Point) → IsCompletion survey row p → Meets c p
  completion-meets p done = let held = (is.rules p).1 done.consistent in record { codes = held.0; edits = held.1 }

  pub completion-agrees : (p : Point) → IsCompletion survey row p → AgreesAlong c path p
  completion-agrees p done f there kept =
      let known = undo (is_bad (value_of row f)) (sym (own-keeps survey.fields row f there) ∙ kept) in done.agrees f (value-within row f known) known
    where
      undo : (b : Bool) → not b ≡ true → b ≡ false
      undo true h = absurd (cc)
      undo false h = refl

  -- and such a point is a completion
  pub agrees-completion : (p : Point) → Meets c p → AgreesAlong c path p → IsCompletion survey row p
  agrees-completion p meets agrees = record {
    consistent = (is.rules p).0 (meets.codes, meets.edits);
    agrees = λ f within known.
        let there = in-order survey.fields f (omega (arith, within, row-length survey.fields row is.case.row)) in
        agrees f there (own-keeps survey.fields row f there ∙ ap not known);
  }

  -- a walk over the edits that closes: there is no completion
  pub closed-none : (budget spent work : ℕ) (steps : List Step) → walk_along c path budget spent ≡ walk.Closed steps work → (p : Point)
      → IsCompletion survey row p → ⊥
  closed-none budget spent work steps ended p done =
      let end = closed-at c budget spent work steps (prefixes path) ended in
      closed-path c is.case end.path end.closed p (completion-meets p done) (agrees-on c path end.path end.there p (completion-agrees p done))

  -- ---- with one more line

  module _ (line : LineParts) (case : IsCase (with_line c line)) where
    with-lines : edit_lines (with_line c line) ≡ edit_lines c ++ line ∷ []
    with-lines = map-append (λ (e : ℕ × LineParts). e.1) c.edits ((length c.edits, line) ∷ [])

    more-meets : (p : Point) → Meets c p → LineHolds line p → Meets (with_line c line) p
    more-meets p meets holds = record {
      codes = meets.codes;
      edits = subst (λ (ls : List LineParts). All (λ l. LineHolds l p) ls) (sym with-lines) (all-in (λ l. LineHolds l p) (edit_lines c ++ line ∷ []) each);
    }
      where
        each : (l : LineParts) → IsIn l (edit_lines c ++ line ∷ []) → LineHolds l p
        each l there = elim (in-either l (edit_lines c) (line ∷ []) there) [
          | inl old ↦ in-all (λ l. LineHolds l p) l (edit_lines c) meets.edits old
          | inr last ↦ elim last [ inl same ↦ subst (λ (l : LineParts). LineHolds l p) (sym same) holds | inr none ↦ absurd none ]
        ]

    less-meets : (p : Point) → Meets (with_line c line) p → Meets c p × LineHolds line p
    less-meets p meets =
        let all = subst (λ (ls : List LineParts). All (λ l. LineHolds l p) ls) with-lines meets.edits in (
          record {
            codes = meets.codes;
            edits =
                all-in (λ l. LineHolds l p) (edit_lines c)
                (λ l there. in-all (λ l. LineHolds l p) l (edit_lines c ++ line ∷ []) all (in-left l (edit_lines c) (line ∷ []) there));
          },
          in-all (λ l. LineHolds l p) line (edit_lines c ++ line ∷ []) all (in-right line (edit_lines c) (line ∷ []) (inl refl)),
        )

    -- a walk that closes: the line holds at no completion
    pub closed-fails : (budget spent work : ℕ) (steps : List Step) → walk_along (with_line c line) path budget spent ≡ walk.Closed steps work → (p : Point)
        → IsCompletion survey row p → ¬ LineHolds line p
    closed-fails budget spent work steps ended p done holds =
        let end = closed-at (with_line c line) budget spent work steps (prefixes path) ended in
        closed-path (with_line c line) case end.path end.closed p (more-meets p (completion-meets p done) holds)
        (agrees-on (with_line c line) path end.path end.there p (completion-agrees p done))

    -- a walk that stays open: it holds at one
    pub open-holds : (budget spent work : ℕ) → walk_along (with_line c line) path budget spent ≡ walk.Open work
        → (p : Point) × IsCompletion survey row p × LineHolds line p
    open-holds budget spent work ended =
        let (p, meets, agrees) = open-point (with_line c line) case path (own-length survey.fields row)
        ((open-at (with_line c line) budget spent work (prefixes path) ended).each path (path-in path)).0 in
        let (less, holds) = less-meets p meets in
        (p, agrees-completion p less agrees, holds)
