use Rattle.std.proofs.Common.{◌≡◌, ◌&&◌, ◌||◌, inl, inr, ℕ, zero, suc, ◌+◌, ◌-◌, ◌<◌, ◌≤◌, Bool, true, false, not, if◌then◌else◌, List, [], ◌∷◌, ◌++◌}
use Rattle.std.proofs.Common.{ℤ, pos, length, slice_index_or, Result, Ok, Err, IfOk, refl, sym, ap, ◌∙◌, subst, arith}
use Rattle.std.specs.List.{filter, fold}
use Rattle.std.proofs.lemmas.List.{get_or_past}
use Rattle.std.specs.Ordering.{int_eq}
use Rattle.edit_model.specs.Corrections.{path_order}
use Rattle.edit_model.specs.FieldSets.{has_number, set_of}
use Rattle.edit_line.specs.Boxes.{are_whole}
use Rattle.edit_line.specs.Lines.{HasShape, LineParts}
use Rattle.edit_line.specs.Reductions.{IsIn}
use Rattle.edit_line.specs.Shapes.{Domain, code_fields, has_field, number_fields, shape_of}
use Rattle.edit_line.specs.Sums.{stands_only}
use Rattle.edit_line.specs.declared.derived.Derived.{Derived}
use Rattle.edit_line.proofs.FieldLists.{there-has}
use Rattle.edit_line.specs.EditSets.{edits_of}
use Rattle.linear_elim.specs.Answers.{Answers}
use Rattle.linear_elim.specs.Told.{told_system}
use Rattle.linear_elim.specs.declared.fault.SystemFault.{SystemFault}
use Rattle.linear_elim.specs.Helds.{system_held}
use Rattle.linear_elim.specs.Steps.{pairs_count}
use Rattle.linear_elim.specs.Systems.{SystemParts, system_of}
use Rattle.linear_elim.specs.declared.held.Held.{Held}
use Rattle.categ_combine.specs.BoxLists.{sets_of}
use Rattle.categ_combine.specs.Covers.{cover_count}
use Rattle.categ_combine.specs.FailingBoxes.{failing_from}
use Rattle.categ_combine.specs.declared.box_from.BoxFrom.{BoxFrom}
use Rattle.bound_cert.specs.Paths.{keeps, keeps_bad, kept_set, path_place}
use Rattle.edit_paths.specs.Cases.{SearchCase, IsCase}
use Rattle.edit_paths.specs.Paths.{before_last, changed_numbers, last_field, last_letter, number_count, treats}
use Rattle.edit_paths.specs.States.{asks_kept, boxes_after, boxes_along, first_boxes, or_empty}
use Rattle.edit_paths.specs.Works.{pairs_next, work_of}
use Rattle.edit_paths.proofs.ChildLaws.{child-kept}
use Rattle.edit_paths.proofs.FieldPlaces.{Placed, codes-placed}
use Rattle.edit_paths.proofs.KeptLines.{derived-over, kept-number}
use Rattle.edit_paths.proofs.LetterLaws.{count-kinds, longer, number-field, order-shape}
use Rattle.path_walk.specs.Bases.{IsPathSystem}
use Rattle.path_walk.proofs.LastLetters.{split-last}

-- Paths that say something of numerical fields alone.

-- ---- lists

pub in-index : {X : Type 0} (xs : List X) (i : ℕ) (d : X) → i < length xs → IsIn (slice_index_or xs i d) xs
in-index [] i d below = absurd (omega arith)
in-index (x ∷ xs) zero d below = inl refl
in-index (x ∷ xs) (suc i) d below = inr (in-index xs i d (omega arith))

pub first-of : (xs ys : List ℕ) (i : ℕ) → i < length xs → slice_index_or (xs ++ ys) i 0 ≡ slice_index_or xs i 0
first-of [] ys i below = absurd (omega arith)
first-of (x ∷ xs) ys zero below = refl
first-of (x ∷ xs) ys (suc i) below = first-of xs ys i (omega arith)

-- ---- a line that is tried

only-alike : (s t : ℕ → Bool) (fields : List ℕ) (factors : List ℤ) → ((f : ℕ) → IsIn f fields → s f ≡ t f)
    → stands_only s fields factors ≡ stands_only t fields factors
only-alike s t [] factors same = refl
only-alike s t (f ∷ fields) [] same = refl
only-alike s t (f ∷ fields) (a ∷ factors) same =
    ap (λ b. (int_eq a (pos 0) || b) && stands_only s fields factors) (same f (inl refl))
    ∙ ap (λ b. (int_eq a (pos 0) || t f) && b) (only-alike s t fields factors (λ g at. same g (inr at)))

module _ (c : SearchCase) (is : IsCase c) (path : List Bool) (none : keeps_bad c.survey.fields c.row path ≡ false) where
  -- the tests of the factors and of the sets tell whether a line is asked
  pub asked-when : (line : LineParts) → HasShape (shape_of c.survey.fields) line → (alone full : Bool)
      → alone ≡ stands_only (has_number (kept_set c.survey.fields c.row path)) (number_fields line.shape) line.factors
      → full ≡ are_whole (shape_of c.survey.fields) line.sets → (alone && full) ≡ asks_kept c path line
  asked-when line over alone full alone_is full_is =
      ap (λ b. b && full) alone_is
      ∙ ap (λ b. b && full) (only-alike (has_number (kept_set c.survey.fields c.row path)) (keeps c.survey.fields path) (number_fields line.shape)
      line.factors (λ f there. kept-number c is path none f
      (number-field c f (there-has f (number_fields (shape_of c.survey.fields)) (subst (λ (s : List Domain). IsIn f (number_fields s)) over.same there)))))
      ∙ ap (λ b. stands_only (keeps c.survey.fields path) (number_fields line.shape) line.factors && b) full_is
      ∙ either_way (stands_only (keeps c.survey.fields path) (number_fields line.shape) line.factors) (are_whole (shape_of c.survey.fields) line.sets)
    where
      either_way : (a b : Bool) → (a && b) ≡ (b && a)
      either_way true true = refl
      either_way true false = refl
      either_way false true = refl
      either_way false false = refl

  -- a line of the path's system is over the survey's fields
  pub line-over : (lines : List Derived) → system_of c.edits (changed_numbers c path) ≡ Ok lines → (i : ℕ) (d : Derived) → i < length lines
      → d ≡ slice_index_or lines i d → HasShape (shape_of c.survey.fields) d.line
  line-over lines made i d below same = derived-over c is path none lines made d (subst (λ (e : Derived). IsIn e lines) (sym same) (in-index lines i d below))

-- ---- the work, and the system before

module _ (c : SearchCase) (path : List Bool) where
  -- where the last field is changed, the pairs of its step in the system before
  pub changed-work : (lines : List Derived) (f : ℕ) → 0 < length path → length path ≤ number_count c → last_letter path ≡ true
      → system_of c.edits (changed_numbers c (before_last path)) ≡ Ok lines
      → f ≡ slice_index_or (path_order c.survey.fields) (length path - 1) 0 → work_of c path ≡ 1 + pairs_count lines f
  changed-work lines f some fit changed made is =
      ap (λ b. if b then 1 + pairs_next c (before_last path) (last_field c path) else 1) changed
      ∙ ap (λ g. 1 + pairs_next c (before_last path) g) (sym is)
      ∙ ap (λ b. 1 + (if b then pairs_count (or_empty (system_of c.edits (changed_numbers c (before_last path)))) f else cover_count
      (shape_of c.survey.fields) (sets_of (boxes_along c (before_last path))) f)) numerical
      ∙ ap (λ t. 1 + pairs_count (or_empty t) f) made
    where
      few : length path - 1 < number_count c
      few = omega (arith, some, fit)

      numerical : has_field (number_fields (shape_of c.survey.fields)) f ≡ true
      numerical =
          ap (λ g. has_field (number_fields (shape_of c.survey.fields)) g)
          (is ∙ ap (λ (fs : List ℕ). slice_index_or fs (length path - 1) 0) (order-shape c.survey.fields)
          ∙ first-of (number_fields (shape_of c.survey.fields)) (code_fields (shape_of c.survey.fields)) (length path - 1) few)
          ∙ there-has (slice_index_or (number_fields (shape_of c.survey.fields)) (length path - 1) 0) (number_fields (shape_of c.survey.fields))
          (in-index (number_fields (shape_of c.survey.fields)) (length path - 1) 0 few)

  -- where it is kept, the changed numerical fields are those of the path before
  pub kept-numbers : length path ≤ number_count c → last_letter path ≡ false → changed_numbers c path ≡ changed_numbers c (before_last path)
  kept-numbers fit kept = by path refl
    where
      by : (p : List Bool) → path ≡ p → changed_numbers c path ≡ changed_numbers c (before_last path)
      by [] e = ap (λ (q : List Bool). changed_numbers c q) e ∙ sym (ap (λ (q : List Bool). changed_numbers c (before_last q)) e)
      by (x ∷ p) e =
          let some : 0 < length path = omega (arith, ap (λ (q : List Bool). length q) e) in
          let split = split-last path false some in
          let counted = ap (λ (q : List Bool). length q) split ∙ longer (before_last path) (last_letter path) in
          ap (λ (q : List Bool). changed_numbers c q) split ∙ child-kept c (before_last path) (last_letter path)
          (omega (arith, counted, fit, count-kinds c)) kept

  -- so its system is theirs
  pub kept-system : (held : Held) → changed_numbers c path ≡ changed_numbers c (before_last path) → IsPathSystem c (before_last path) held
      → IsPathSystem c path held
  kept-system held same is = record {
    edits = is.edits;
    fields = is.fields ∙ sym (ap (λ (fs : List ℕ). set_of fs) same);
    lines = ap (λ (fs : List ℕ). system_of c.edits fs) same ∙ is.lines;
  }

-- ---- the boxes of a path that says something of exactly the numerical fields

none-treated : (c : SearchCase) (path : List Bool) (short : length path ≤ number_count c) (k : ℕ) (fields : List ℕ) → Placed c k fields → length path ≤ k
    → filter (treats c path) fields ≡ []
none-treated c path short k [] placed past = refl
none-treated c path short k (f ∷ fields) placed past =
    ap (λ b. if b then f ∷ filter (treats c path) fields else filter (treats c path) fields) untreated
    ∙ none-treated c path short (suc k) fields placed.1 (omega (arith, past))
  where
    untreated : treats c path f ≡ false
    untreated =
        ap (λ b. not b || slice_index_or path (path_place c.survey.fields f) false)
        (get_or_past path (path_place c.survey.fields f) true (omega (arith, past, placed.0)))
        ∙ get_or_past path (path_place c.survey.fields f) false (omega (arith, past, placed.0))

pub numbers-boxes : (c : SearchCase) (path : List Bool) (lines : List Derived) (boxes : List BoxFrom) → length path ≤ number_count c
    → system_of c.edits (changed_numbers c path) ≡ Ok lines → failing_from 0 lines c.row [] ≡ Ok boxes → boxes ≡ boxes_along c path
numbers-boxes c path lines boxes fit made told =
    sym (ap (λ (fs : List ℕ). fold (boxes_after c path) (first_boxes c path) fs)
    (none-treated c path fit (number_count c) (code_fields (shape_of c.survey.fields)) (codes-placed c) fit)
    ∙ ap (λ r. or_empty (failing_from 0 (or_empty r) c.row [])) made
    ∙ ap (λ r. or_empty r) told)

-- the lines that a shared system tells are the path's
pub lines-made : (c : SearchCase) (path : List Bool) (held same : Held) (system : SystemParts) (lines : List Derived) → IsPathSystem c path held
    → same ≡ held → system ≡ system_held same → lines ≡ system.lines
    → system_of c.edits (changed_numbers c path) ≡ Ok lines
lines-made c path held same system lines has is of are =
    has.lines ∙ ap (λ (ls : List Derived). Ok ls) (sym (are ∙ ap (λ (s : SystemParts). s.lines) (of ∙ ap (λ (h : Held). system_held h) is)))

-- a system that a source answers for the set of the changed numerical fields is the path's
pub answered-system : (c : SearchCase) (path : List Bool) (r : Result Held SystemFault)
    → IfOk r (λ held. (system_held held).edits ≡ edits_of (shape_of c.survey.fields) c.edits)
    → IfOk r (λ held. (system_held held).fields ≡ set_of (changed_numbers c path))
    → Answers (λ held. (system_held held).lines) told_system r (system_of c.edits (changed_numbers c path))
    → IfOk r (IsPathSystem c path)
answered-system c path (Ok held) edits fields exact = record { edits = edits; fields = fields; lines = exact }
answered-system c path (Err fault) edits fields exact = tt
