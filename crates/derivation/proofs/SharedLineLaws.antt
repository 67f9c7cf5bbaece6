use Rattle.std.proofs.Common.{◌≡◌, ℕ, zero, suc, ◌==◌, ◌&&◌, Bool, true, false, if◌then◌else◌, List, [], ◌∷◌, ◌++◌, Option, Some, None, Ok, length, slice_get}
use Rattle.std.proofs.Common.{slice_index_or, ℤ, refl, sym, ap, ◌∙◌, subst, append_assoc, append-nil}
use Rattle.std.specs.Option.{ok_or}
use Rattle.foundation.specs.Results.{◌>>=◌}
use Rattle.foundation.specs.Options.{◌>>?◌}
use Rattle.edit_model.specs.FieldSets.{has_number}
use Rattle.edit_model.specs.Rows.{value_of}
use Rattle.edit_line.specs.Boxes.{BoxParts}
use Rattle.edit_line.specs.CodeFields.{place_of, size_of}
use Rattle.edit_line.specs.Lines.{LineParts}
use Rattle.edit_line.specs.Shapes.{code_fields, has_field, whole_sets}
use Rattle.derivation.specs.LineLists.{AreLinesOf, line_by}
use Rattle.derivation.specs.Premises.{Premises}
use Rattle.derivation.specs.SharedLines.{Tabled, as_tabled, last_of, place_in, tabled, tabled_from, with_tabled}
use Rattle.derivation.specs.ValidSteps.{as_box, as_line, combined_line, common_from, covered_sets, fixed_sets, given_line, last_from, only_if, proved_by}
use Rattle.derivation.specs.ValidSteps.{proved_from}
use Rattle.derivation.specs.declared.proved.Proved.{Proved}
use Rattle.derivation.specs.declared.proved.Proved.TheVariants as proved
use Rattle.derivation.specs.declared.step.Step.{Step}
use Rattle.derivation.specs.declared.step.Step.TheVariants as step
use Rattle.derivation.proofs.CoverLaws.{was-some, was-true}
use Rattle.derivation.proofs.Soundness.{was-line}
use Rattle.derivation.proofs.TableLaws.{get-more, put-line}

-- The lines that steps prove stand in the table that has the steps.

-- ---- where they stand

-- the line that was proved stands at this place among the lines of the table; of a box nothing is said
abbrev pub IsPlaced : List LineParts → Proved → ℕ → Type 0
IsPlaced lines (proved.Line line) place = slice_get lines place ≡ Some line
IsPlaced lines (proved.Box code_box) place = Unit {0}

-- all that was proved, each at its place
abbrev pub ArePlaced : List LineParts → List Proved → List ℕ → Type 0
ArePlaced lines [] [] = Unit {0}
ArePlaced lines (x ∷ all) (place ∷ places) = IsPlaced lines x place × ArePlaced lines all places
ArePlaced lines [] (place ∷ places) = ⊥
ArePlaced lines (x ∷ all) [] = ⊥

placed-one : (lines more : List LineParts) (x : Proved) (place : ℕ) → IsPlaced lines x place → IsPlaced (lines ++ more) x place
placed-one lines more (proved.Line line) place is = get-more lines more place line is
placed-one lines more (proved.Box code_box) place is = tt

pub placed-more : (lines more : List LineParts) (all : List Proved) (places : List ℕ) → ArePlaced lines all places → ArePlaced (lines ++ more) all places
placed-more lines more [] [] are = tt
placed-more lines more (x ∷ all) (place ∷ places) (is, are) = (placed-one lines more x place is, placed-more lines more all places are)
placed-more lines more [] (place ∷ places) are = absurd are
placed-more lines more (x ∷ all) [] are = absurd are

pub placed-end : (lines : List LineParts) (all : List Proved) (places : List ℕ) (x : Proved) (place : ℕ) → ArePlaced lines all places → IsPlaced lines x place
    → ArePlaced lines (all ++ x ∷ []) (places ++ place ∷ [])
placed-end lines [] [] x place are is = (is, tt)
placed-end lines (y ∷ all) (other ∷ places) x place (first, are) is = (first, placed-end lines all places x place are is)
placed-end lines [] (other ∷ places) x place are is = absurd are
placed-end lines (y ∷ all) [] x place are is = absurd are

pub placed-get : (lines : List LineParts) (all : List Proved) (places : List ℕ) (i : ℕ) (x : Proved) → ArePlaced lines all places → slice_get all i ≡ Some x
    → IsPlaced lines x (slice_index_or places i 0)
placed-get lines [] [] i x are e = absurd (cc)
placed-get lines (y ∷ all) (place ∷ places) zero x (is, are) e = let same : y ≡ x = cc in subst (λ (z : Proved). IsPlaced lines z place) same is
placed-get lines (y ∷ all) (place ∷ places) (suc i) x (is, are) e = placed-get lines all places i x are e
placed-get lines [] (place ∷ places) i x are e = absurd are
placed-get lines (y ∷ all) [] i x are e = absurd are

-- the last line stands at the last place
pub placed-last : (lines : List LineParts) (all : List Proved) (places : List ℕ) (x : Proved) → ArePlaced lines all places → last_from None all ≡ Ok x
    → IsPlaced lines x (last_of places)
placed-last lines [] [] x are e = absurd (cc)
placed-last lines (y ∷ []) (place ∷ []) x (is, are) e = let same : y ≡ x = cc in subst (λ (z : Proved). IsPlaced lines z place) same is
placed-last lines (y ∷ z ∷ all) (place ∷ next ∷ places) x (is, are) e = placed-last lines (z ∷ all) (next ∷ places) x are e
placed-last lines (y ∷ []) (place ∷ next ∷ places) x (is, are) e = absurd are
placed-last lines (y ∷ z ∷ all) (place ∷ []) x (is, are) e = absurd are
placed-last lines [] (place ∷ places) x are e = absurd are
placed-last lines (y ∷ all) [] x are e = absurd are

module _ (p : Premises) where
  -- ---- what the kinds of steps prove

  -- a given line
  pub given-gives : (place : ℕ) (x : Proved) → given_line p place ≡ Some x → (line : LineParts) × (x ≡ proved.Line line)
  given-gives place x e = by (slice_index_or p.usable place false) (slice_get p.given place) e
    where
      by : (b : Bool) (o : Option LineParts) → (if b then (o >>? (λ line. Some (proved.Line line))) else None) ≡ Some x → (line : LineParts)
          × (x ≡ proved.Line line)
      by false o h = absurd (cc)
      by true None h = absurd (cc)
      by true (Some line) h = (line, cc)

  -- a combination
  pub combine-gives : (all : List Proved) (a b : ℕ) (m n g : ℤ) (x : Proved) → proved_by p all (step.Combine a m b n g) ≡ Some x → (line : LineParts)
      × (x ≡ proved.Line line)
  combine-gives all a b m n g x e =
      let (s, first, later) = was-some (as_line (slice_get all a)) _ x e in
      let (t, second, last) = was-some (as_line (slice_get all b)) _ x later in
      let (may, is) = was-true _ _ x last in
      (_, sym is)

  -- a line, from what was placed: then the step gives it in the table as well
  tabled-gives : (lines : List LineParts) (all : List Proved) (places : List ℕ) (one renamed : Step) (x : Proved) → ArePlaced lines all places
      → as_tabled places one ≡ Some renamed → proved_by p all one ≡ Some x
      → (line : LineParts) × (x ≡ proved.Line line) × (line_by p lines renamed ≡ Some line)
  tabled-gives lines all places (step.Given place) renamed x are named e =
      let same : step.Given place ≡ renamed = cc in
      let (line, is) = given-gives place x e in
      (line, is, ap (λ (s : Step). line_by p lines s) (sym same) ∙ ap as_line e ∙ ap (λ (y : Proved). as_line (Some y)) is)
  tabled-gives lines all places (step.Combine a m b n g) renamed x are named e =
      let same : step.Combine (slice_index_or places a 0) m (slice_index_or places b 0) n g ≡ renamed = cc in
      let (s, first, later) = was-some (as_line (slice_get all a)) _ x e in
      let (t, second, last) = was-some (as_line (slice_get all b)) _ x later in
      let (may, is) = was-true _ _ x last in
      let s_there = placed-get lines all places a (proved.Line s) are (was-line (slice_get all a) s first) in
      let t_there = placed-get lines all places b (proved.Line t) are (was-line (slice_get all b) t second) in (
        _,
        sym is,
        ap (λ (u : Step). line_by p lines u) (sym same)
            ∙ ap (λ (o : Option LineParts). o >>? (λ s. slice_get lines (slice_index_or places b 0) >>? (λ t. as_line (combined_line m n g s t)))) s_there
            ∙ ap (λ (o : Option LineParts). o >>? (λ t. as_line (combined_line m n g s t))) t_there
            ∙ ap as_line last ∙ ap (λ (y : Proved). as_line (Some y)) (sym is),
      )
  tabled-gives lines all places (step.Fail a) renamed x are named e = absurd (cc)
  tabled-gives lines all places (step.Cover field parts) renamed x are named e = absurd (cc)
  tabled-gives lines all places (step.Fix field part) renamed x are named e = absurd (cc)

  -- or a box
  box-of : (test : Bool) (made : BoxParts) (x : Proved) → only_if test (proved.Box made) ≡ Some x → (code_box : BoxParts) × (x ≡ proved.Box code_box)
  box-of true made x e = (made, cc)
  box-of false made x e = absurd (cc)

  pub others-give : (all : List Proved) (places : List ℕ) (one : Step) (x : Proved) → as_tabled places one ≡ None → proved_by p all one ≡ Some x
      → (code_box : BoxParts) × (x ≡ proved.Box code_box)
  others-give all places (step.Given place) x none e = absurd (cc)
  others-give all places (step.Combine a m b n g) x none e = absurd (cc)
  others-give all places (step.Fail a) x none e = let (line, found, rest) = was-some (as_line (slice_get all a)) _ x e in box-of _ _ x rest
  others-give all places (step.Cover field parts) x none e = covers (has_field (code_fields p.shape) field && (length parts == size_of p.shape field)) e
    where
      covers : (b : Bool) → (if b then (common_from all (place_of p.shape field) 0 parts (whole_sets p.shape) >>? (λ common. covered_sets p.shape field common))
          else None) ≡ Some x
          → (code_box : BoxParts) × (x ≡ proved.Box code_box)
      covers false h = absurd (cc)
      covers true h = let (common, made, rest) = was-some (common_from all (place_of p.shape field) 0 parts (whole_sets p.shape)) _ x h in box-of _ _ x rest
  others-give all places (step.Fix field part) x none e = fixes (has_field (code_fields p.shape) field && has_number p.kept field) e
    where
      fixes : (b : Bool) → (if b then (as_box (slice_get all part) >>? (λ sets. fixed_sets p.shape field (value_of p.row field) sets)) else None) ≡ Some x
          → (code_box : BoxParts) × (x ≡ proved.Box code_box)
      fixes false h = absurd (cc)
      fixes true h = let (sets, found, rest) = was-some (as_box (slice_get all part)) _ x h in box-of _ _ x rest

  -- ---- steps that are put into a table

  -- one step more
  step-tabled : (t : Tabled) (lines : List LineParts) (all : List Proved) (one : Step) (x : Proved) → AreLinesOf p t.table lines → ArePlaced lines all t.places
      → proved_by p all one ≡ Some x
      → (more : List LineParts) × AreLinesOf p (with_tabled t (as_tabled t.places one)).table (lines ++ more)
      × ArePlaced (lines ++ more) (all ++ x ∷ []) (with_tabled t (as_tabled t.places one)).places
  step-tabled t lines all one x lines_are are e = by (as_tabled t.places one) refl
    where
      by : (o : Option Step) → as_tabled t.places one ≡ o
          → (more : List LineParts) × AreLinesOf p (with_tabled t o).table (lines ++ more) × ArePlaced (lines ++ more) (all ++ x ∷ []) (with_tabled t o).places
      by None none =
          let (code_box, is) = others-give all t.places one x none e in (
            [],
            lines_are ∙ ap (λ (ls : List LineParts). Ok ls) (sym (append-nil lines)),
            placed-end (lines ++ []) all t.places x 0 (placed-more lines [] all t.places are) (subst (λ (y : Proved). IsPlaced (lines ++ []) y 0) (sym is) tt),
          )
      by (Some renamed) named =
          let (line, is, gives) = tabled-gives lines all t.places one renamed x are named e in
          let (more, more_are, there) = put-line p t.table lines renamed line lines_are gives in (
            more,
            more_are,
            placed-end (lines ++ more) all t.places x (place_in t.table renamed) (placed-more lines more all t.places are)
                (subst (λ (y : Proved). IsPlaced (lines ++ more) y (place_in t.table renamed)) (sym is) there),
          )

  -- a valid step is one that proves something
  pub first-proved : (all : List Proved) (one : Step) (steps : List Step) (whole : List Proved) → proved_from p all (one ∷ steps) ≡ Ok whole → (x : Proved)
      × (proved_by p all one ≡ Some x) × (proved_from p (all ++ x ∷ []) steps ≡ Ok whole)
  first-proved all one steps whole e = by (proved_by p all one) refl e
    where
      by : (o : Option Proved) → proved_by p all one ≡ o → (ok_or o (length all) >>= (λ x. proved_from p (all ++ x ∷ []) steps)) ≡ Ok whole
          → (x : Proved) × (proved_by p all one ≡ Some x) × (proved_from p (all ++ x ∷ []) steps ≡ Ok whole)
      by None is h = absurd (cc)
      by (Some x) is h = (x, is, h)

  -- all of them: the table has their lines, behind those that it had
  steps-tabled : (t : Tabled) (lines : List LineParts) (all : List Proved) (steps : List Step) (whole : List Proved) → AreLinesOf p t.table lines
      → ArePlaced lines all t.places → proved_from p all steps ≡ Ok whole
      → (more : List LineParts) × AreLinesOf p (tabled_from t steps).table (lines ++ more) × ArePlaced (lines ++ more) whole (tabled_from t steps).places
  steps-tabled t lines all [] whole lines_are are e =
      let same : all ≡ whole = cc in (
        [],
        lines_are ∙ ap (λ (ls : List LineParts). Ok ls) (sym (append-nil lines)),
        subst (λ (xs : List Proved). ArePlaced (lines ++ []) xs t.places) same
            (placed-more lines [] all t.places are),
      )
  steps-tabled t lines all (one ∷ steps) whole lines_are are e =
      let (x, is, later) = first-proved all one steps whole e in
      let (more, more_lines, more_are) = step-tabled t lines all one x lines_are are is in
      let (rest, all_lines, all_are) = steps-tabled (with_tabled t (as_tabled t.places one)) (lines ++ more) (all ++ x ∷ []) steps whole more_lines more_are
      later in
      let same : (lines ++ more) ++ rest ≡ lines ++ (more ++ rest) = rw append_assoc refl in (
        more ++ rest,
        subst (λ (ls : List LineParts). AreLinesOf p (tabled_from (with_tabled t (as_tabled t.places one)) steps).table ls) same all_lines,
        subst (λ (ls : List LineParts). ArePlaced ls whole (tabled_from (with_tabled t (as_tabled t.places one)) steps).places) same all_are,
      )

  -- a list of valid steps that is put into a table
  pub list-tabled : (table : List Step) (lines : List LineParts) (steps : List Step) (whole : List Proved) → AreLinesOf p table lines → proved_from p [] steps
      ≡ Ok whole
      → (more : List LineParts) × AreLinesOf p (tabled table steps).table (lines ++ more) × ArePlaced (lines ++ more) whole (tabled table steps).places
  list-tabled table lines steps whole lines_are e = steps-tabled (record { table = table; places = [] }) lines [] steps whole lines_are tt e
