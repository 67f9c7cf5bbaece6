use Rattle.std.proofs.Common.{◌≡◌, ℕ, ◌++◌, ◌&&◌, not, Bool, true, List, [], ◌∷◌, length, sym, ◌∙◌, subst, arith}
use Rattle.std.specs.List.{filter}
use Rattle.std.proofs.lemmas.List.{map-append}
use Rattle.edit_model.specs.Corrections.{path_order}
use Rattle.edit_model.specs.FieldSets.{has_number}
use Rattle.edit_model.specs.Rows.{is_bad, value_of}
use Rattle.edit_model.proofs.FieldSetLaws.{has-set_of}
use Rattle.edit_line.specs.EditSets.{lines_without}
use Rattle.edit_line.specs.Lines.{LineParts}
use Rattle.edit_line.specs.Shapes.{shape_of}
use Rattle.edit_line.proofs.FieldLists.{has-there, there-has}
use Rattle.edit_line.proofs.Members.{in-filter, in-filter-out}
use Rattle.edit_line.proofs.SetLaws.{both_true}
use Rattle.derivation.specs.Refutations.{trues}
use Rattle.derivation.specs.declared.step.Step.{Step}
use Rattle.bound_cert.specs.Paths.{keeps, kept_set}
use Rattle.edit_paths.specs.Cases.{IsCase, SearchCase}
use Rattle.prefix_walk.specs.PathWalks.{prefixes, walk_along}
use Rattle.prefix_walk.specs.declared.walk_end.WalkEnd.TheVariants as walk
use Rattle.prefix_walk.proofs.ClosingProofs.{Refuted, refuted-on}
use Rattle.prefix_walk.proofs.KeptMore.{refutes-more, valid-more}
use Rattle.prefix_walk.proofs.WalkEnds.{closed-at}
use Rattle.deduce_fill.specs.Laws.{AreRefuting, known_set}
use Rattle.deduce_fill.specs.Tests.{ArePlacedFrom, own_path, with_line}
use Rattle.deduce_fill.proofs.OwnPaths.{own-none}
use Rattle.deduce_fill.proofs.PlacedEdits.{placed-more, placed-usable}

-- The steps that close a walk along a record's path are valid over its lines, with the record's values kept.

module _ (d : SearchCase) (case : IsCase d) (placed : ArePlacedFrom 0 d.edits) where
  abbrev path : List Bool
  path = own_path d.survey.fields d.row

  -- the path keeps just fields with values
  kept-known : (f : ℕ) → has_number (kept_set d.survey.fields d.row path) f ≡ true → has_number (known_set d.survey.fields d.row) f ≡ true
  kept-known f h =
      let (among, passes) = in-filter-out (λ f. keeps d.survey.fields path f && not (is_bad (value_of d.row f))) f (path_order d.survey.fields)
      (has-there f (filter (λ f. keeps d.survey.fields path f && not (is_bad (value_of d.row f))) (path_order d.survey.fields))
      (sym (has-set_of (filter (λ f. keeps d.survey.fields path f && not (is_bad (value_of d.row f))) (path_order d.survey.fields)) f) ∙ h)) in
      let (kept, full) = both_true (keeps d.survey.fields path f) (not (is_bad (value_of d.row f))) passes in
      has-set_of (filter (λ f. not (is_bad (value_of d.row f))) (path_order d.survey.fields)) f
      ∙ there-has f (filter (λ f. not (is_bad (value_of d.row f))) (path_order d.survey.fields))
      (in-filter (λ f. not (is_bad (value_of d.row f))) f (path_order d.survey.fields) full among)

  pub refuting : (budget spent work : ℕ) (steps : List Step) → walk_along d path budget spent ≡ walk.Closed steps work
      → AreRefuting d.survey (lines_without d.edits) d.row steps
  refuting budget spent work steps ended =
      let end = closed-at d budget spent work steps (prefixes path) ended in
      let (x, valid, refutes) = subst (Refuted d case (lines_without d.edits) (trues (length (lines_without d.edits))) (placed-usable d.edits placed) path)
      (sym end.by_steps)
      (refuted-on d case (lines_without d.edits) (trues (length (lines_without d.edits))) (placed-usable d.edits placed) path end.path
      (own-none d.survey.fields d.row) end.there end.closed) in (
        x,
        valid-more (shape_of d.survey.fields) (lines_without d.edits) (trues (length (lines_without d.edits))) d.row (kept_set d.survey.fields d.row path)
            (known_set d.survey.fields d.row) kept-known steps x valid,
        refutes-more (shape_of d.survey.fields) (lines_without d.edits) (trues (length (lines_without d.edits))) d.row (kept_set d.survey.fields d.row path)
            (known_set d.survey.fields d.row) kept-known x refutes,
      )

-- with one more line
pub refuting-line : (c : SearchCase) (line : LineParts) → IsCase (with_line c line) → ArePlacedFrom 0 c.edits → (budget spent work : ℕ) (steps : List Step)
    → walk_along (with_line c line) (own_path c.survey.fields c.row) budget spent ≡ walk.Closed steps work
    → AreRefuting c.survey (lines_without c.edits ++ line ∷ []) c.row steps
refuting-line c line case placed budget spent work steps ended =
    subst (λ (ls : List LineParts). AreRefuting c.survey ls c.row steps) (map-append (λ (e : ℕ × LineParts). e.1) c.edits ((length c.edits, line) ∷ []))
    (refuting (with_line c line) case (placed-more 0 (length c.edits) c.edits line placed (omega arith)) budget spent work steps ended)
