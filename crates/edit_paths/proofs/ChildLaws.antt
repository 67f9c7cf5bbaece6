use Rattle.std.proofs.Common.{Bool, List, Ok, [], ap, arith, false, if◌then◌else◌, inl, inr, length, nat_lt, not, refl, slice_index_or, suc, sym, take, true, ℕ}
use Rattle.std.proofs.Common.{◌++◌, ◌+◌, ◌-◌, ◌<◌, ◌==◌, ◌||◌, ◌∙◌, ◌∷◌, ◌≡◌, ◌≢◌, ◌≤◌, ◌⊎◌}
use Rattle.std.specs.List.{filter, fold, sum_by}
use Rattle.std.proofs.Math.Seq.{get_or-append_right, take-append_seam}
use Rattle.std.proofs.lemmas.List.{get_or_append_left, get_or_past}
use Rattle.std.proofs.lemmas.Bool.Decides.{Decides-eqb}
use Rattle.std.proofs.lemmas.List.Sums.{fold-append, sum_by-append, sum_by-cons}
use Rattle.foundation.specs.Results.{◌>>=◌, fault_as}
use Rattle.edit_line.specs.EditSets.{base_lines}
use Rattle.edit_line.specs.Reductions.{IsIn, reduce_derived}
use Rattle.edit_line.specs.Shapes.{code_fields, has_field, number_fields, shape_of}
use Rattle.edit_line.proofs.Members.{in-filter-out}
use Rattle.edit_model.specs.RowPoints.{code_in}
use Rattle.edit_model.specs.Rows.{value_of}
use Rattle.categ_combine.specs.Covers.{covered_from}
use Rattle.categ_combine.specs.Fixing.{fixed_from}
use Rattle.categ_combine.specs.FailingBoxes.{failing_from}
use Rattle.edit_line.specs.declared.derived.Derived.{Derived}
use Rattle.linear_elim.specs.Steps.{step_result}
use Rattle.linear_elim.specs.Systems.{chosen_fields, overflow_at, system_of}
use Rattle.edit_model.specs.FieldSets.{has_number}
use Rattle.categ_combine.specs.declared.box_from.BoxFrom.{BoxFrom}
use Rattle.edit_paths.specs.Cases.{SearchCase}
use Rattle.edit_paths.specs.Paths.{before_last, changed_numbers, field_count, last_field, last_letter, number_count, treated_codes, treats}
use Rattle.bound_cert.specs.Paths.{changes, keeps, path_place, path_weight}
use Rattle.edit_model.specs.Corrections.{path_order}
use Rattle.edit_model.specs.Words.{weight_at}
use Rattle.edit_paths.specs.States.{boxes_after, boxes_along, first_boxes, or_empty}
use Rattle.edit_paths.specs.Works.{pairs_next, work_of}
use Rattle.edit_line.proofs.FieldLists.{there-has}
use Rattle.edit_model.proofs.OrderLaws.{order-length}
use Rattle.linear_elim.proofs.FoldLaws.{fold-joined}
use Rattle.bound_cert.proofs.Letters.{filter-agree}
use Rattle.edit_paths.proofs.FieldPlaces.{Placed, codes-placed, fields-placed, numbers-placed}
use Rattle.edit_paths.proofs.LetterLaws.{count-kinds, letter-here, longer, number-place, order-shape}

-- A path with one letter more: its work, weight, system and boxes, from those of the path before.

module _ (c : SearchCase) (path : List Bool) (b : Bool) (short : length path < field_count c) where
  abbrev child : List Bool
  child = path ++ b ∷ []

  -- the field that the child treats
  abbrev next_field : ℕ
  next_field = slice_index_or (path_order c.survey.fields) (length path) 0

  pub child-before : before_last (path ++ b ∷ []) ≡ path
  child-before = ap (λ n. take n (path ++ b ∷ [])) (omega (arith, longer path b)) ∙ take-append_seam path (b ∷ [])

  pub child-letter : last_letter (path ++ b ∷ []) ≡ b
  child-letter = letter-here path b false (length (path ++ b ∷ []) - 1) (omega (arith, longer path b))

  pub child-field : last_field c (path ++ b ∷ []) ≡ slice_index_or (path_order c.survey.fields) (length path) 0
  child-field = ap (λ n. slice_index_or (path_order c.survey.fields) n 0) (omega (arith, longer path b))

  -- its work: 1, and where it changes the field, the pairs that this combines
  pub child-work : work_of c (path ++ b ∷ []) ≡ (if b then 1 + pairs_next c path (slice_index_or (path_order c.survey.fields) (length path) 0) else 1)
  child-work =
      ap (λ l. if l then 1 + pairs_next c (before_last (path ++ b ∷ [])) (last_field c (path ++ b ∷ [])) else 1) child-letter
      ∙ ap (λ (q : List Bool). if b then 1 + pairs_next c q (last_field c (path ++ b ∷ [])) else 1) child-before
      ∙ ap (λ n. if b then 1 + pairs_next c path n else 1) child-field

  -- a field before is kept or changed as before
  pub changes-same : (f : ℕ) → path_place c.survey.fields f ≢ length path → changes c.survey.fields (path ++ b ∷ []) f ≡ changes c.survey.fields path f
  changes-same f other = by (lower (path_place c.survey.fields f) (length path))
    where
      lower : (i n : ℕ) → (i < n) ⊎ (n ≤ i)
      lower i n = order (nat_lt i n) refl
        where
          order : (l : Bool) → nat_lt i n ≡ l → (i < n) ⊎ (n ≤ i)
          order true e = inl (grind (arith, e))
          order false e = inr (grind (arith, e))

      by : (path_place c.survey.fields f < length path) ⊎ (length path ≤ path_place c.survey.fields f) → changes c.survey.fields (path ++ b ∷ []) f
          ≡ changes c.survey.fields path f
      by (inl below) = get_or_append_left path (b ∷ []) false (path_place c.survey.fields f) below
      by (inr past) = get_or_past (path ++ b ∷ []) (path_place c.survey.fields f) false (omega (arith, longer path b, past, other))
          ∙ sym (get_or_past path (path_place c.survey.fields f) false past)

  pub changes-next : (f : ℕ) → path_place c.survey.fields f ≡ length path → changes c.survey.fields (path ++ b ∷ []) f ≡ b
  changes-next f here = letter-here path b false (path_place c.survey.fields f) here

  not-yet : (f : ℕ) → path_place c.survey.fields f ≡ length path → changes c.survey.fields path f ≡ false
  not-yet f here = get_or_past path (path_place c.survey.fields f) false (omega (arith, here))

  -- where the next field is kept, the changed numerical fields stay
  pub child-kept : b ≡ false → changed_numbers c (path ++ b ∷ []) ≡ changed_numbers c path
  child-kept kept = filter-agree (changes c.survey.fields (path ++ b ∷ [])) (changes c.survey.fields path) (number_fields (shape_of c.survey.fields))
      (λ f at. by f (path_place c.survey.fields f == length path) refl)
    where
      by : (f : ℕ) (e : Bool) → (path_place c.survey.fields f == length path) ≡ e → changes c.survey.fields (path ++ b ∷ []) f ≡ changes c.survey.fields path f
      by f true e = let here = (Decides-eqb (path_place c.survey.fields f) (length path)).0 e in changes-next f here ∙ kept ∙ sym (not-yet f here)
      by f false e = changes-same f (λ here. absurd (cc (sym e ∙ (Decides-eqb (path_place c.survey.fields f) (length path)).1 here)))

module _ (c : SearchCase) where
  -- ---- the fields for which a test turns true with one letter more

  module _ (n : ℕ) (s t : ℕ → Bool) (b : Bool) (same : (f : ℕ) → path_place c.survey.fields f ≢ n → t f ≡ s f)
      (none : (f : ℕ) → n ≤ path_place c.survey.fields f → s f ≡ false) (here : (f : ℕ) → path_place c.survey.fields f ≡ n → t f ≡ b) where
    all-none : (k : ℕ) (fields : List ℕ) → n ≤ k → Placed c k fields → filter s fields ≡ []
    all-none k [] past placed = refl
    all-none k (f ∷ fields) past placed = ap (λ x. if x then f ∷ filter s fields else filter s fields) (none f (omega (arith, past, placed.0)))
        ∙ all-none (suc k) fields (omega (arith, past)) placed.1

    all-same : (k : ℕ) (fields : List ℕ) → n < k → Placed c k fields → filter t fields ≡ filter s fields
    all-same k [] past placed = refl
    all-same k (f ∷ fields) past placed =
        ap (λ x. if x then f ∷ filter t fields else filter t fields) (same f (λ e. absurd (omega (arith, past, placed.0, e))))
        ∙ ap (λ (fs : List ℕ). if s f then f ∷ fs else fs) (all-same (suc k) fields (omega (arith, past)) placed.1)

    pub filter-more : (k : ℕ) (fields : List ℕ) → k ≤ n → n < k + length fields → Placed c k fields → filter t fields ≡ filter s fields
        ++ (if b then slice_index_or fields (n - k) 0 ∷ [] else [])
    filter-more k [] low high placed = absurd (omega (arith, low, high))
    filter-more k (f ∷ fields) low high placed = by (k == n) refl (λ lower. filter-more (suc k) fields lower (omega (arith, high)) placed.1)
      where
        by : (e : Bool) → (k == n) ≡ e → (suc k ≤ n → filter t fields ≡ filter s fields ++ (if b then slice_index_or fields (n - suc k) 0 ∷ [] else []))
            → (if t f then f ∷ filter t fields else filter t fields) ≡ (if s f then f ∷ filter s fields else filter s fields)
            ++ (if b then slice_index_or (f ∷ fields) (n - k) 0 ∷ [] else [])
        by true e rest =
            let is : k ≡ n = (Decides-eqb k n).0 e in
            ap (λ x. if x then f ∷ filter t fields else filter t fields) (here f (placed.0 ∙ is))
            ∙ ap (λ (fs : List ℕ). if b then f ∷ fs else fs) (all-same (suc k) fields (omega (arith, is)) placed.1
            ∙ all-none (suc k) fields (omega (arith, is)) placed.1)
            ∙ sym (ap (λ x. (if x then f ∷ filter s fields else filter s fields) ++ (if b then slice_index_or (f ∷ fields) (n - k) 0 ∷ [] else []))
            (none f (omega (arith, is, placed.0)))
            ∙ ap (λ (fs : List ℕ). fs ++ (if b then slice_index_or (f ∷ fields) (n - k) 0 ∷ [] else [])) (all-none (suc k) fields (omega (arith, is)) placed.1)
            ∙ ap (λ i. if b then slice_index_or (f ∷ fields) i 0 ∷ [] else []) zero_left)
          where
            zero_left : n - k ≡ 0
            zero_left = omega (arith, (Decides-eqb k n).0 e)
        by false e rest =
            let other : path_place c.survey.fields f ≢ n = λ at. absurd (cc (sym e ∙ (Decides-eqb k n).1 (sym placed.0 ∙ at))) in
            let lower : suc k ≤ n = apart (λ is. absurd (cc (sym e ∙ (Decides-eqb k n).1 is))) in
            ap (λ x. if x then f ∷ filter t fields else filter t fields) (same f other)
            ∙ ap (λ (fs : List ℕ). if s f then f ∷ fs else fs) (rest lower)
            ∙ moved (s f)
            ∙ ap (λ i. (if s f then f ∷ filter s fields else filter s fields) ++ (if b then i ∷ [] else [])) (shifted lower)
          where
            apart : (k ≡ n → ⊥) → suc k ≤ n
            apart other = omega (arith, low, other)

            moved : (x : Bool) → (if x then f ∷ (filter s fields ++ (if b then slice_index_or fields (n - suc k) 0 ∷ [] else [])) else
                (filter s fields ++ (if b then slice_index_or fields (n - suc k) 0 ∷ [] else [])))
                ≡ (if x then f ∷ filter s fields else filter s fields) ++ (if b then slice_index_or fields (n - suc k) 0 ∷ [] else [])
            moved true = refl
            moved false = refl

            shifted : suc k ≤ n → slice_index_or fields (n - suc k) 0 ≡ slice_index_or (f ∷ fields) (n - k) 0
            shifted lower = sym (ap (λ i. slice_index_or (f ∷ fields) i 0) (one_more lower))
              where
                one_more : suc k ≤ n → n - k ≡ suc (n - suc k)
                one_more lower = omega (arith, lower)

-- ---- a path with one letter more

module _ (c : SearchCase) (path : List Bool) (b : Bool) (short : length path < field_count c) where
  pub not-changed : (f : ℕ) → length path ≤ path_place c.survey.fields f → changes c.survey.fields path f ≡ false
  not-changed f past = get_or_past path (path_place c.survey.fields f) false past

  -- its weight
  pub child-weight : path_weight c.survey.fields (path ++ b ∷ []) ≡ path_weight c.survey.fields path +
      (if b then weight_at c.survey.fields (slice_index_or (path_order c.survey.fields) (length path) 0) else 0)
  child-weight =
      ap (λ (fs : List ℕ). sum_by (weight_at c.survey.fields) fs) (filter-more c (length path) (changes c.survey.fields path)
      (changes c.survey.fields (path ++ b ∷ [])) b (changes-same c path b short) not-changed (changes-next c path b short) 0 (path_order c.survey.fields)
      (omega arith) (omega (arith, short, order-length c.survey.fields)) (fields-placed c))
      ∙ sum_by-append (weight_at c.survey.fields) (filter (changes c.survey.fields path) (path_order c.survey.fields))
      (if b then slice_index_or (path_order c.survey.fields) (length path - 0) 0 ∷ [] else [])
      ∙ ap (λ n. path_weight c.survey.fields path + n) (last b)
    where
      last : (b : Bool) → sum_by (weight_at c.survey.fields) (if b then slice_index_or (path_order c.survey.fields) (length path - 0) 0 ∷ [] else [])
          ≡ (if b then weight_at c.survey.fields (slice_index_or (path_order c.survey.fields) (length path) 0) else 0)
      last true = sum_by-cons (weight_at c.survey.fields) (slice_index_or (path_order c.survey.fields) (length path - 0) 0) []
          ∙ ap (λ (i : ℕ). weight_at c.survey.fields (slice_index_or (path_order c.survey.fields) i 0) + 0) all_of ∙ nothing _
        where
          all_of : length path - 0 ≡ length path
          all_of = omega arith

          nothing : (n : ℕ) → n + 0 ≡ n
          nothing n = omega arith
      last false = refl

  -- its changed numerical fields, where it treats numerical fields alone
  pub child-numbers : length path < number_count c → changed_numbers c (path ++ b ∷ []) ≡ changed_numbers c path
      ++ (if b then slice_index_or (number_fields (shape_of c.survey.fields)) (length path) 0 ∷ [] else [])
  child-numbers few =
      filter-more c (length path) (changes c.survey.fields path) (changes c.survey.fields (path ++ b ∷ [])) b (changes-same c path b short) not-changed
      (changes-next c path b short) 0 (number_fields (shape_of c.survey.fields)) (omega arith) (omega (arith, few)) (numbers-placed c)
      ∙ ap (λ i. changed_numbers c path ++ (if b then slice_index_or (number_fields (shape_of c.survey.fields)) i 0 ∷ [] else [])) (omega arith)

  -- and where it treats a categorical one, they are those before
  pub child-numbers-same : number_count c ≤ length path → changed_numbers c (path ++ b ∷ []) ≡ changed_numbers c path
  child-numbers-same enough = filter-agree (changes c.survey.fields (path ++ b ∷ [])) (changes c.survey.fields path) (number_fields (shape_of c.survey.fields))
      (λ f at. changes-same c path b short f (λ here. absurd (early f at here)))
    where
      early : (f : ℕ) → IsIn f (number_fields (shape_of c.survey.fields)) → path_place c.survey.fields f ≡ length path → ⊥
      early f at here = omega (arith, enough, here, number-place c f (there-has f (number_fields (shape_of c.survey.fields)) at))

  pub keeps-same : (f : ℕ) → path_place c.survey.fields f ≢ length path → keeps c.survey.fields (path ++ b ∷ []) f ≡ keeps c.survey.fields path f
  keeps-same f other = ap not (by (nat_lt (path_place c.survey.fields f) (length path)) refl)
    where
      by : (l : Bool) → nat_lt (path_place c.survey.fields f) (length path) ≡ l → slice_index_or (path ++ b ∷ []) (path_place c.survey.fields f) true
          ≡ slice_index_or path (path_place c.survey.fields f) true
      by true e = get_or_append_left path (b ∷ []) true (path_place c.survey.fields f) (grind (arith, e))
      by false e =
          let past : length path ≤ path_place c.survey.fields f = grind (arith, e) in
          get_or_past (path ++ b ∷ []) (path_place c.survey.fields f) true (omega (arith, longer path b, past, other))
          ∙ sym (get_or_past path (path_place c.survey.fields f) true past)

  -- its treated categorical fields are one more
  pub child-codes : number_count c ≤ length path → treated_codes c (path ++ b ∷ []) ≡ treated_codes c path
      ++ slice_index_or (path_order c.survey.fields) (length path) 0 ∷ []
  child-codes enough =
      filter-more c (length path) (treats c path) (treats c (path ++ b ∷ [])) true same past here (number_count c) (code_fields (shape_of c.survey.fields))
      enough (omega (arith, short, count-kinds c)) (codes-placed c)
      ∙ ap (λ f. treated_codes c path ++ f ∷ []) (sym (ap (λ (fs : List ℕ). slice_index_or fs (length path) 0) (order-shape c.survey.fields)
      ∙ get_or-append_right (number_fields (shape_of c.survey.fields)) (code_fields (shape_of c.survey.fields)) (length path) 0 enough))
    where
      same : (f : ℕ) → path_place c.survey.fields f ≢ length path → treats c (path ++ b ∷ []) f ≡ treats c path f
      same f other = ap (λ x. x || changes c.survey.fields (path ++ b ∷ []) f) (keeps-same f other)
          ∙ ap (λ x. keeps c.survey.fields path f || x) (changes-same c path b short f other)

      past : (f : ℕ) → length path ≤ path_place c.survey.fields f → treats c path f ≡ false
      past f late = ap (λ x. not x || changes c.survey.fields path f) (get_or_past path (path_place c.survey.fields f) true late) ∙ not-changed f late

      here : (f : ℕ) → path_place c.survey.fields f ≡ length path → treats c (path ++ b ∷ []) f ≡ true
      here f at = ap (λ x. not x || changes c.survey.fields (path ++ b ∷ []) f) (letter-here path b true (path_place c.survey.fields f) at)
          ∙ ap (λ x. not b || x) (changes-next c path b short f at) ∙ either b
        where
          either : (b : Bool) → (not b || b) ≡ true
          either true = refl
          either false = refl

  -- a field that the path treats has its place within the path
  pub treated-within : (f : ℕ) → IsIn f (treated_codes c path) → path_place c.survey.fields f ≢ length path
  treated-within f there at =
      absurd (cc (sym (in-filter-out (treats c path) f (code_fields (shape_of c.survey.fields)) there).1
      ∙ ap (λ x. not x || changes c.survey.fields path f) (get_or_past path (path_place c.survey.fields f) true (omega (arith, at)))
      ∙ not-changed f (omega (arith, at))))

  -- and its boxes are treated alike
  pub after-same : (bs : List BoxFrom) (f : ℕ) → path_place c.survey.fields f ≢ length path → boxes_after c (path ++ b ∷ []) bs f ≡ boxes_after c path bs f
  after-same bs f other = ap (λ x. if x then covered_from (shape_of c.survey.fields) bs f else fixed_from (shape_of c.survey.fields) bs f
      (code_in (value_of c.row f))) (changes-same c path b short f other)

  -- its first boxes are those of the path before, where it treats a categorical field
  pub first-same : number_count c ≤ length path → first_boxes c (path ++ b ∷ []) ≡ first_boxes c path
  first-same enough = ap (λ (fs : List ℕ). or_empty (failing_from 0 (or_empty (system_of c.edits fs)) c.row [])) (child-numbers-same enough)

  -- and its boxes are those of the path before, with the field treated
  pub child-boxes : number_count c ≤ length path → boxes_along c (path ++ b ∷ []) ≡ boxes_after c (path ++ b ∷ []) (boxes_along c path)
      (slice_index_or (path_order c.survey.fields) (length path) 0)
  child-boxes enough =
      ap (λ (fs : List ℕ). fold (boxes_after c (path ++ b ∷ [])) (first_boxes c (path ++ b ∷ [])) fs) (child-codes enough)
      ∙ ap (λ (bs : List BoxFrom). fold (boxes_after c (path ++ b ∷ [])) bs (treated_codes c path ++ slice_index_or (path_order c.survey.fields) (length path) 0
      ∷ [])) (first-same enough)
      ∙ fold-append (boxes_after c (path ++ b ∷ [])) (first_boxes c path) (treated_codes c path) (slice_index_or (path_order c.survey.fields) (length path) 0
      ∷ [])
      ∙ ap (λ (bs : List BoxFrom). boxes_after c (path ++ b ∷ []) bs (slice_index_or (path_order c.survey.fields) (length path) 0))
      (early (first_boxes c path) (treated_codes c path) treated-within)
    where
      early : (bs : List BoxFrom) (fields : List ℕ) → ((f : ℕ) → IsIn f fields → path_place c.survey.fields f ≢ length path)
          → fold (boxes_after c (path ++ b ∷ [])) bs fields ≡ fold (boxes_after c path) bs fields
      early bs [] each = refl
      early bs (f ∷ fields) each =
          ap (λ (ds : List BoxFrom). fold (boxes_after c (path ++ b ∷ [])) ds fields) (after-same bs f (each f (inl refl)))
          ∙ early (boxes_after c path bs f) fields (λ g at. each g (inr at))

  -- ---- its system, where it changes a numerical field

  -- one more step of the system of the path before; so an overflow is one of the last step, in the system before
  pub child-system : b ≡ true → length path < number_count c → (lines : List Derived) → system_of c.edits (changed_numbers c path) ≡ Ok lines
      → system_of c.edits (changed_numbers c (path ++ b ∷ []))
      ≡ (fault_as (overflow_at (slice_index_or (number_fields (shape_of c.survey.fields)) (length path) 0))
      (step_result lines (slice_index_or (number_fields (shape_of c.survey.fields)) (length path) 0)) >>= (λ next. Ok next))
  child-system changed few lines made =
      ap (λ (fs : List ℕ). system_of c.edits fs)
      (child-numbers few ∙ ap (λ x. changed_numbers c path ++ (if x then slice_index_or (number_fields (shape_of c.survey.fields)) (length path) 0
      ∷ [] else [])) changed)
      ∙ fold-joined (reduce_derived (base_lines c.edits)) (changed_numbers c path) (slice_index_or (number_fields (shape_of c.survey.fields)) (length path) 0
      ∷ []) lines made

-- the set of the fields that a path changes, as bits, chooses its changed numerical fields
pub chosen-changed : (c : SearchCase) (path : List Bool) (bits : ℕ) → ((f : ℕ) → has_field (number_fields (shape_of c.survey.fields)) f ≡ true
    → has_number bits f ≡ changes c.survey.fields path f) → chosen_fields (shape_of c.survey.fields) bits ≡ changed_numbers c path
chosen-changed c path bits each = filter-agree (has_number bits) (changes c.survey.fields path) (number_fields (shape_of c.survey.fields))
    (λ f at. each f (there-has f (number_fields (shape_of c.survey.fields)) at))
