use Rattle.std.proofs.Common.{◌≡◌, ◌<◌, ◌≤◌, ◌+◌, ◌-◌, ◌^◌, ◌++◌, ◌||◌, not, ℕ, suc, inl, Bool, true, false, if◌then◌else◌, List, [], ◌∷◌, Ok}
use Rattle.std.proofs.Common.{append_assoc, get_or, length, length-append, take, refl, sym, ap, ◌∙◌, subst, arith}
use Rattle.std.specs.List.{filter, fold}
use Rattle.std.proofs.Math.Seq.{get_or-append_right, get_or-append_seam, take-suc}
use Rattle.std.proofs.lemmas.List.{get_or-take, get_or_past, length-take-le}
use Rattle.edit_model.proofs.NameLemmas.{false_unless}
use Rattle.edit_model.proofs.OrderLaws.{order-length}
use Rattle.edit_model.specs.Corrections.{path_order}
use Rattle.edit_model.specs.RowPoints.{code_in}
use Rattle.edit_model.specs.Rows.{value_of}
use Rattle.edit_line.specs.Shapes.{Domain, code_fields, has_field, number_fields, shape_of}
use Rattle.edit_line.specs.declared.derived.Derived.{Derived}
use Rattle.edit_line.proofs.FieldLists.{has-right, there-has}
use Rattle.linear_elim.specs.Steps.{pairs_count}
use Rattle.linear_elim.specs.Systems.{system_of}
use Rattle.linear_elim.proofs.PointLaws.{number-no_code}
use Rattle.categ_combine.specs.BoxLists.{sets_of}
use Rattle.categ_combine.specs.Covers.{cover_count, covered}
use Rattle.categ_combine.specs.FailingBoxes.{failing_from}
use Rattle.categ_combine.specs.Fixing.{fixed}
use Rattle.categ_combine.specs.declared.box_from.BoxFrom.{BoxFrom}
use Rattle.bound_cert.specs.Paths.{changes, path_place}
use Rattle.bound_cert.proofs.Letters.{filter-agree}
use Rattle.edit_paths.specs.Cases.{SearchCase}
use Rattle.edit_paths.specs.Paths.{changed_numbers, field_count, number_count, treats}
use Rattle.edit_paths.specs.States.{boxes_after, boxes_along, first_boxes, lines_along, or_empty}
use Rattle.edit_paths.specs.Works.{pairs_next, work_of}
use Rattle.edit_paths.proofs.ChildLaws.{changes-next, child-boxes, child-work}
use Rattle.edit_paths.proofs.FieldPlaces.{Placed, codes-placed}
use Rattle.edit_paths.proofs.LetterLaws.{count-kinds, number-place, order-shape}
use Rattle.edit_paths.proofs.PathBoxes.{sets-along, sets_after}
use Rattle.back_subst.specs.Gifts.{IsCheap}
use Rattle.back_subst.specs.inner.Codes.{AreCountable, settled_after}
use Rattle.back_subst.proofs.PathSetLaws.{place-own}

-- The eliminations of changed categorical fields, one after the other, are those of the paths that the path extends: so none looks at 2^64 pairs or more.

module _ (c : SearchCase) (path : List Bool) (whole : length path ≡ field_count c) where
  abbrev shape : List Domain
  shape = shape_of c.survey.fields

  abbrev codes : List ℕ
  codes = code_fields (shape_of c.survey.fields)

  -- the sets of the boxes of the first letters, so many
  abbrev sets : ℕ → List (List ℕ)
  sets k = sets_of (boxes_along c (take k path))

  -- ---- one categorical field, behind others

  module _ (done : List ℕ) (f : ℕ) (fields : List ℕ) (are : code_fields (shape_of c.survey.fields) ≡ done ++ f ∷ fields) where
    abbrev k : ℕ
    k = number_count c + length done

    below : number_count c + length done < field_count c
    below = omega (arith, count-kinds c, ap (λ (fs : List ℕ). length fs) are, length-append done (f ∷ fields))

    order-at : get_or (path_order c.survey.fields) (number_count c + length done) 0 ≡ f
    order-at =
        ap (λ (fs : List ℕ). get_or fs k 0) (order-shape c.survey.fields) ∙ get_or-append_right (number_fields shape) codes k 0 (omega arith)
        ∙ ap (λ n. get_or codes n 0) back
        ∙ ap (λ (fs : List ℕ). get_or fs (length done) 0) are ∙ get_or-append_seam done f fields 0
      where
        back : number_count c + length done - length (number_fields (shape_of c.survey.fields)) ≡ length done
        back = omega arith

    place-at : path_place c.survey.fields f ≡ number_count c + length done
    place-at = ap (λ n. path_place c.survey.fields n) (sym order-at) ∙ place-own c k (omega (arith, below, order-length c.survey.fields))

    short-is : length (take (number_count c + length done) path) ≡ number_count c + length done
    short-is = length-take-le k path (omega (arith, below, whole))

    short : length (take (number_count c + length done) path) < field_count c
    short = omega (arith, below, short-is)

    enough : number_count c ≤ length (take (number_count c + length done) path)
    enough = omega (arith, short-is)

    abbrev letter : Bool
    letter = get_or path k false

    letter-is : get_or path (number_count c + length done) false ≡ changes c.survey.fields path f
    letter-is = ap (λ n. get_or path n false) (sym place-at)

    longer-is : take (suc (number_count c + length done)) path
        ≡ take (number_count c + length done) path ++ get_or path (number_count c + length done) false ∷ []
    longer-is = take-suc path k false (omega (arith, below, whole))

    next-is : get_or (path_order c.survey.fields) (length (take (number_count c + length done) path)) 0 ≡ f
    next-is = ap (λ n. get_or (path_order c.survey.fields) n 0) short-is ∙ order-at

    sets-next : sets_of (boxes_along c (take (suc (number_count c + length done)) path))
        ≡ (if changes c.survey.fields path f then covered (shape_of c.survey.fields) (sets_of (boxes_along c (take (number_count c + length done) path)))
        f else fixed (shape_of c.survey.fields) (sets_of (boxes_along c (take (number_count c + length done) path))) f (code_in (value_of c.row f)))
    sets-next =
        ap (λ (p : List Bool). sets_of (boxes_along c p)) longer-is ∙ ap (λ (bs : List BoxFrom). sets_of bs) (child-boxes c (take k path) letter short enough)
        ∙ sets-along c (take k path ++ letter ∷ []) (boxes_along c (take k path)) (get_or (path_order c.survey.fields) (length (take k path)) 0 ∷ [])
        ∙ ap (λ n. sets_after c (take k path ++ letter ∷ []) (sets k) n) next-is
        ∙ ap (λ b. if b then covered shape (sets k) f else fixed shape (sets k) f (code_in (value_of c.row f)))
        (changes-next c (take k path) letter short f (place-at ∙ sym short-is) ∙ letter-is)

    -- where the path changes the field, its elimination looks at fewer pairs than the path's work
    count-next : IsCheap c path → changes c.survey.fields path f ≡ true
        → cover_count (shape_of c.survey.fields) (sets_of (boxes_along c (take (number_count c + length done) path))) f < 2 ^ 64
    count-next cheap changed = let small = cheap (suc k) (omega (arith, below, whole)) in omega (arith, small, work)
      where
        no_number : has_field (number_fields (shape_of c.survey.fields)) f ≡ false
        no_number = false_unless (has_field (number_fields shape) f)
            (λ e. absurd (cc (sym (number-no_code f 0 shape e) ∙ ap (λ (fs : List ℕ). has_field fs f) are
            ∙ has-right f done (f ∷ fields) (there-has f (f ∷ fields) (inl refl)))))

        work : work_of c (take (suc (number_count c + length done)) path)
            ≡ 1 + cover_count (shape_of c.survey.fields) (sets_of (boxes_along c (take (number_count c + length done) path))) f
        work =
            ap (λ (p : List Bool). work_of c p) longer-is ∙ child-work c (take k path) letter short
            ∙ ap (λ b. if b then 1 + pairs_next c (take k path) (get_or (path_order c.survey.fields) (length (take k path)) 0) else 1) (letter-is ∙ changed)
            ∙ ap (λ n. 1 + pairs_next c (take k path) n) next-is
            ∙ ap (λ b. 1 + (if b then pairs_count (lines_along c (take k path)) f else cover_count shape (sets k) f)) no_number

  -- ---- all of them

  module _ (left : List ℕ) (left_is : (f : ℕ) → has_field (code_fields (shape_of c.survey.fields)) f ≡ true
      → has_field left f ≡ changes c.survey.fields path f) where
    there-in : (done : List ℕ) (f : ℕ) (fields : List ℕ) → code_fields (shape_of c.survey.fields) ≡ done ++ f ∷ fields
        → has_field (code_fields (shape_of c.survey.fields)) f ≡ true
    there-in done f fields are = ap (λ (fs : List ℕ). has_field fs f) are ∙ has-right f done (f ∷ fields) (there-has f (f ∷ fields) (inl refl))

    along : (done first rest : List ℕ) → code_fields (shape_of c.survey.fields) ≡ done ++ (first ++ rest)
        → sets_of (boxes_along c (take (number_count c + length done + length first) path))
        ≡ settled_after (shape_of c.survey.fields) c.row left first (sets_of (boxes_along c (take (number_count c + length done) path)))
    along done [] rest are = ap sets (omega arith)
    along done (f ∷ first) rest are =
        ap sets longer ∙ along (done ++ f ∷ []) first rest (are ∙ sym (append_assoc done (f ∷ []) (first ++ rest)))
        ∙ ap (λ bs. settled_after shape c.row left first bs)
        (ap sets next ∙ sets-next done f (first ++ rest) are
        ∙ ap (λ b. if b then covered shape (sets (number_count c + length done)) f else fixed shape (sets (number_count c + length done)) f
        (code_in (value_of c.row f))) (sym (left_is f (there-in done f (first ++ rest) are))))
      where
        next : number_count c + length (done ++ f ∷ []) ≡ suc (number_count c + length done)
        next = omega (arith, length-append done (f ∷ []))

        longer : number_count c + length done + suc (length first) ≡ number_count c + length (done ++ f ∷ []) + length first
        longer = omega (arith, length-append done (f ∷ []))

    countable : IsCheap c path → AreCountable (shape_of c.survey.fields) c.row left (sets_of (boxes_along c (take (number_count c) path)))
    countable cheap first rest i are there =
        subst (λ bs. cover_count shape bs i < 2 ^ 64) (ap sets behind ∙ along [] first (i ∷ rest) are
        ∙ ap (λ n. settled_after shape c.row left first (sets n)) start)
        (count-next first i rest are cheap (sym (left_is i (there-in first i rest are)) ∙ there))
      where
        behind : number_count c + length first ≡ number_count c + 0 + length first
        behind = omega arith

        start : number_count c + 0 ≡ number_count c
        start = omega arith

    -- ---- the first boxes are those of the path

    abbrev n : ℕ
    n = number_count c

    changed-first : changed_numbers c (take (number_count c) path) ≡ changed_numbers c path
    changed-first =
        filter-agree (changes c.survey.fields (take n path)) (changes c.survey.fields path) (number_fields shape)
        (λ f at. get_or-take n path (path_place c.survey.fields f) false (number-place c f (there-has f (number_fields shape) at)))

    none-treated : (k : ℕ) (fields : List ℕ) → number_count c ≤ k → Placed c k fields → filter (treats c (take (number_count c) path)) fields ≡ []
    none-treated k [] past placed = refl
    none-treated k (f ∷ fields) past placed =
        ap (λ b. if b then f ∷ filter (treats c (take n path)) fields else filter (treats c (take n path)) fields) out
        ∙ none-treated (suc k) fields (omega (arith, past)) placed.1
      where
        late : length (take (number_count c) path) ≤ path_place c.survey.fields f
        late = omega (arith, past, placed.0, length-take-le n path (omega (arith, whole, count-kinds c)))

        out : treats c (take (number_count c) path) f ≡ false
        out = ap (λ b. not b || changes c.survey.fields (take n path) f) (get_or_past (take n path) (path_place c.survey.fields f) true late)
            ∙ get_or_past (take n path) (path_place c.survey.fields f) false late

    boxes-first : (lines : List Derived) (boxes : List BoxFrom) → system_of c.edits (changed_numbers c path) ≡ Ok lines
        → failing_from 0 lines c.row [] ≡ Ok boxes → boxes_along c (take (number_count c) path) ≡ boxes
    boxes-first lines boxes system made =
        ap (λ fs. fold (boxes_after c (take n path)) (first_boxes c (take n path)) fs) (none-treated n codes (omega arith) (codes-placed c))
        ∙ ap (λ fs. or_empty (failing_from 0 (or_empty (system_of c.edits fs)) c.row [])) changed-first
        ∙ ap (λ r. or_empty (failing_from 0 (or_empty r) c.row [])) system ∙ ap (λ r. or_empty r) made

    -- so each changed categorical field is eliminated with fewer than 2^64 pairs
    pub few-pairs : IsCheap c path → (lines : List Derived) (boxes : List BoxFrom) → system_of c.edits (changed_numbers c path) ≡ Ok lines
        → failing_from 0 lines c.row [] ≡ Ok boxes
        → AreCountable (shape_of c.survey.fields) c.row left (sets_of boxes)
    few-pairs cheap lines boxes system made =
        subst (λ (bs : List BoxFrom). AreCountable shape c.row left (sets_of bs)) (boxes-first lines boxes system made) (countable cheap)
