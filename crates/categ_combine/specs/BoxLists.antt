use Rattle.std.specs.Prelude.{◌≡◌, ◌<◌, ◌↔◌, ℕ, not, Bool, false, List, [], All, IsTrue, map}
use Rattle.std.specs.List.{fold, list_any}
use Rattle.edit_model.specs.Points.{Point}
use Rattle.edit_line.specs.Sets.{are_subsets, are_codes_in}
use Rattle.edit_line.specs.Shapes.{Domain, HasCodes, codes_at}
use Rattle.edit_line.specs.CodeFields.{TakesCodes, size_of, with_code_at}
use Rattle.edit_line.specs.Reductions.{kept_with}
use Rattle.categ_combine.specs.declared.box_from.BoxFrom.{BoxFrom}

-- A box's sets, one for each categorical field in declared order, stand for the box.

-- whether the codes avoid the boxes: no box has them all
abbrev pub avoid : List (List ℕ) → List ℕ → Bool
avoid boxes codes = not (list_any (λ b. are_codes_in b codes) boxes)

-- the point's codes avoid the boxes
abbrev pub Avoids : List Domain → List (List ℕ) → Point → Type 0
Avoids shape boxes p = IsTrue (avoid boxes (codes_at shape p))

-- the kept boxes with one more: a box covers those that lie inside it
abbrev pub with_box : List (List ℕ) → List ℕ → List (List ℕ)
with_box kept box = kept_with (λ a b. are_subsets b a) (λ a. false) kept box

-- the boxes without those that lie inside another
abbrev pub reduce_boxes : List (List ℕ) → List (List ℕ)
reduce_boxes boxes = fold with_box [] boxes

-- the kept boxes with one more, each with its origin
abbrev pub with_from : List BoxFrom → BoxFrom → List BoxFrom
with_from kept new = kept_with (λ (a b : BoxFrom). are_subsets b.code_box.sets a.code_box.sets) (λ (a : BoxFrom). false) kept new

-- the boxes, with their origins, without those that lie inside another
abbrev pub reduce_from : List BoxFrom → List BoxFrom
reduce_from boxes = fold with_from [] boxes

-- the sets of each box
abbrev pub sets_of : List BoxFrom → List (List ℕ)
sets_of boxes = map (λ (b : BoxFrom). b.code_box.sets) boxes

-- the boxes are over the fields of this shape
abbrev pub AreBoxesOver : List Domain → List BoxFrom → Type 0
AreBoxesOver shape boxes = All (λ (b : BoxFrom). b.code_box.shape ≡ shape) boxes

-- the boxes are over the fields of one shape, in which the field is categorical
abbrev pub HaveCodeField : List BoxFrom → ℕ → Type 0
HaveCodeField boxes f = (shape : List Domain) × AreBoxesOver shape boxes × TakesCodes shape f

-- the boxes are over the fields of one shape, in which the field has the code
abbrev pub HaveCode : List BoxFrom → ℕ → ℕ → Type 0
HaveCode boxes f code = (shape : List Domain) × AreBoxesOver shape boxes × (code < size_of shape f)

-- whatever shape the boxes are over, the claim holds of it if the field has the code there; each categorical field has code 0
abbrev pub ForShape : List BoxFrom → ℕ → ℕ → (List Domain → Type 0) → Type 0
ForShape boxes f code P = (shape : List Domain) → AreBoxesOver shape boxes → code < size_of shape f → P shape

-- a point avoids the boxes that are left exactly where, with this code at the field, it avoids the boxes
abbrev pub SayWithCode : List Domain → List BoxFrom → ℕ → ℕ → List BoxFrom → Type 0
SayWithCode shape boxes f code left = (p : Point)
    → HasCodes 0 shape p → Avoids shape (sets_of left) p ↔ Avoids shape (sets_of boxes) (with_code_at p f code)

-- a point avoids the boxes that are left exactly where, with some code at the field, it avoids the boxes
abbrev pub SayWithSomeCode : List Domain → List BoxFrom → ℕ → List BoxFrom → Type 0
SayWithSomeCode shape boxes f left = (p : Point) → HasCodes 0 shape p
    → Avoids shape (sets_of left) p ↔ ((code : ℕ) × (code < size_of shape f) × Avoids shape (sets_of boxes) (with_code_at p f code))
