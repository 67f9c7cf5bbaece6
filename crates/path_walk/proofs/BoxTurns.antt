use Rattle.std.proofs.Common.{◌≡◌, ◌++◌, ◌-◌, ℕ, ◌<◌, ◌≤◌, Bool, false, List, [], ◌∷◌, length, map, slice_index_or, refl, sym, ap, subst, ◌∙◌, inl, arith}
use Rattle.std.proofs.lemmas.List.{length-take-le}
use Rattle.std.proofs.lemmas.List.Sums.{fold-append}
use Rattle.edit_model.specs.Corrections.{path_order}
use Rattle.edit_model.proofs.OrderLaws.{order-length}
use Rattle.edit_line.specs.CodeFields.{TakesCodes}
use Rattle.edit_line.specs.Reductions.{IsIn}
use Rattle.edit_line.specs.Shapes.{shape_of}
use Rattle.edit_line.proofs.Members.{in-right}
use Rattle.categ_combine.specs.declared.box_from.BoxFrom.{BoxFrom}
use Rattle.bound_cert.specs.Paths.{changes}
use Rattle.edit_paths.specs.Cases.{SearchCase, IsCase}
use Rattle.edit_paths.specs.Histories.{History, box_by, with_boxes}
use Rattle.edit_paths.specs.Levels.{history_of, makings_of}
use Rattle.edit_paths.specs.PathHistories.{box_history, line_history}
use Rattle.edit_paths.specs.Paths.{before_last, field_count, number_count, treated_codes}
use Rattle.edit_paths.specs.States.{boxes_after, boxes_along}
use Rattle.edit_paths.specs.declared.levels.Level.{Level}
use Rattle.edit_paths.proofs.ChildLaws.{changes-next, child-boxes, child-codes}
use Rattle.edit_paths.proofs.ClosedPaths.{treated-code}
use Rattle.edit_paths.proofs.FieldPlaces.{fields-placed}
use Rattle.edit_paths.proofs.HistoryLists.{history-last}
use Rattle.path_walk.specs.Lists.{HasBoxLists, boxes_in, own_boxes}
use Rattle.path_walk.specs.inner.Histories.{boxes_by}
use Rattle.path_walk.proofs.HistoryLaws.{box_history-first, box_history-next, boxes-first}
use Rattle.path_walk.proofs.LastLetters.{split-last}
use Rattle.path_walk.proofs.ProblemLaws.{placed-at}

-- The lists of boxes of a path, from those of the path before its last letter.

module _ (c : SearchCase) (path : List Bool) (before levels : List Level) (level : Level) (field : ℕ) (boxes : List BoxFrom)
    (push : levels ≡ before ++ level ∷ [])
    (made : makings_of level ≡ map (λ (b : BoxFrom). box_by field b.origin) boxes) (own : own_boxes level ≡ boxes) where
  -- with boxes behind the others
  box-lists : (history : History) → history_of before ≡ history → with_boxes history field boxes ≡ box_history c path → boxes ≡ boxes_along c path
      → HasBoxLists c path levels
  box-lists history is lists along = record {
    lists =
        ap (λ (ls : List Level). history_of ls) push ∙ history-last before level ∙ ap (λ (h : History). makings_of level ∷ h) is
        ∙ ap (λ ms. ms ∷ history) made ∙ lists;
    along = ap (λ (ls : List Level). boxes_in ls) push ∙ fold-append (λ (bs : List BoxFrom) (l : Level). own_boxes l) [] before (level ∷ []) ∙ own ∙ along;
  }

  -- the record's boxes behind the lines of a path that says something of no categorical field
  pub first-lists : length path ≤ number_count c → history_of before ≡ line_history c path → field ≡ 0 → boxes ≡ boxes_along c path → HasBoxLists c path levels
  first-lists few lines none along =
      box-lists (line_history c path) lists_are
      (ap (λ f. with_boxes (line_history c path) f boxes) none
      ∙ ap (λ (bs : List BoxFrom). with_boxes (line_history c path) 0 bs) (along ∙ boxes-first c path few) ∙ sym (box_history-first c path few)) along
    where
      lists_are : history_of before ≡ line_history c path
      lists_are = lines

module _ (c : SearchCase) (letters : List Bool) (many : number_count c < length letters) (fit : length letters ≤ field_count c) where
  abbrev path : List Bool
  path = before_last letters

  abbrev b : Bool
  b = slice_index_or letters (length letters - 1) false

  abbrev f : ℕ
  f = slice_index_or (path_order c.survey.fields) (length letters - 1) 0

  split : letters ≡ path ++ b ∷ []
  split = split-last letters false (omega (arith, many))

  long : length path ≡ length letters - 1
  long = length-take-le (length letters - 1) letters (omega arith)

  short : length path < field_count c
  short = omega (arith, long, many, fit)

  enough : number_count c ≤ length path
  enough = omega (arith, long, many)

  field-is : slice_index_or (path_order c.survey.fields) (length path) 0 ≡ f
  field-is = ap (λ n. slice_index_or (path_order c.survey.fields) n 0) long

  pub last-takes : IsCase c → TakesCodes (shape_of c.survey.fields) (slice_index_or (path_order c.survey.fields) (length letters - 1) 0)
  last-takes is =
      (treated-code c is (path ++ b ∷ []) f (subst (λ (fs : List ℕ). IsIn f fs)
      (sym (child-codes c path b short enough ∙ ap (λ g. treated_codes c path ++ g ∷ []) field-is))
      (in-right f (treated_codes c path) (f ∷ []) (inl refl)))).0

  -- the boxes after the last letter
  pub last-along : (boxes : List BoxFrom) → boxes ≡ boxes_along c (before_last letters)
      → boxes_by c (slice_index_or letters (length letters - 1) false) boxes (slice_index_or (path_order c.survey.fields) (length letters - 1) 0)
      ≡ boxes_along c letters
  last-along boxes are =
      ap (λ (x : Bool). boxes_by c x boxes f) (sym changed)
      ∙ ap (λ (bs : List BoxFrom). boxes_after c (path ++ b ∷ []) bs f) are
      ∙ ap (λ g. boxes_after c (path ++ b ∷ []) (boxes_along c path) g) (sym field-is)
      ∙ sym (child-boxes c path b short enough)
      ∙ ap (λ (p : List Bool). boxes_along c p) (sym split)
    where
      changed : changes c.survey.fields (path ++ b ∷ []) f ≡ b
      changed =
          changes-next c path b short f (placed-at c 0 (length letters - 1) (path_order c.survey.fields) (fields-placed c)
          (omega (arith, short, long, order-length c.survey.fields)) ∙ omega (arith, long))

  -- the lists with them behind the others
  pub last-lists : (before levels : List Level) (level : Level) (field : ℕ) (boxes : List BoxFrom) → HasBoxLists c (before_last letters) before
      → levels ≡ before ++ level ∷ [] → makings_of level ≡ map (λ (b : BoxFrom). box_by field b.origin) boxes
      → own_boxes level ≡ boxes → field ≡ slice_index_or (path_order c.survey.fields) (length letters - 1) 0 → boxes ≡ boxes_along c letters
      → HasBoxLists c letters levels
  last-lists before levels level field boxes has push made own field_is along =
      box-lists c letters before levels level field boxes push made own (box_history c path) has.lists
      (ap (λ g. with_boxes (box_history c path) g boxes) (field_is ∙ sym field-is)
      ∙ ap (λ (bs : List BoxFrom). with_boxes (box_history c path) (slice_index_or (path_order c.survey.fields) (length path) 0) bs)
      (along ∙ ap (λ (p : List Bool). boxes_along c p) split)
      ∙ sym (box_history-next c path b short enough)
      ∙ ap (λ (p : List Bool). box_history c p) (sym split))
      along
