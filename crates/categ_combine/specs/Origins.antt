use Rattle.std.specs.Prelude.{◌≡◌, ℕ, suc, true, List, [], ◌∷◌, All, Ok, IsSomeAnd, length, slice_get}
use Rattle.edit_model.specs.declared.value.Value.{Value}
use Rattle.edit_line.specs.Boxes.{BoxParts, box_of}
use Rattle.edit_line.specs.CodeFields.{has_code_at, place_of, size_of, whole_at, whole_of}
use Rattle.edit_line.specs.Combinations.{in_both}
use Rattle.edit_line.specs.Sets.{none_is_empty}
use Rattle.edit_line.specs.Shapes.{Domain, whole_sets}
use Rattle.edit_line.specs.Sums.{fails_at}
use Rattle.edit_line.specs.declared.derived.Derived.{Derived}
use Rattle.categ_combine.specs.Covers.{is_whole_at}
use Rattle.categ_combine.specs.declared.box_from.BoxFrom.{BoxFrom}
use Rattle.categ_combine.specs.declared.box_from.BoxOrigin.{BoxOrigin}
use Rattle.categ_combine.specs.declared.box_from.BoxOrigin.TheVariants.{Cover, Failing, Fixed, Unchanged}

-- What the origin of a box names. Places are those in the list that the call took, from 0.

-- each box comes from what its origin names
abbrev pub AllCome : (BoxParts → BoxOrigin → Type 0) → List BoxFrom → Type 0
AllCome Comes boxes = All (λ (b : BoxFrom). Comes b.code_box b.origin) boxes

-- the line fails at the record, and the box has its sets
abbrev pub FailsAs : Derived → List Value → BoxParts → Type 0
FailsAs d row box = (fails_at d.line row ≡ Ok true) × (box ≡ box_of d.line.shape d.line.sets)

-- the line at the place fails at the record, and the box has its sets
abbrev pub ComesFromLine : List Derived → List Value → BoxParts → BoxOrigin → Type 0
ComesFromLine lines row box (Failing i) = IsSomeAnd (slice_get lines i) (λ (d : Derived). FailsAs d row box)
ComesFromLine lines row box (Unchanged i) = ⊥
ComesFromLine lines row box (Fixed i) = ⊥
ComesFromLine lines row box (Cover parts) = ⊥

-- the box of these sets, made whole at the field
abbrev pub whole_box : List Domain → ℕ → List ℕ → BoxParts
whole_box shape f sets = box_of shape (whole_at shape f sets)

-- the box is the one at the place, whole at the field
abbrev pub IsUnchanged : List Domain → List BoxFrom → ℕ → ℕ → BoxParts → Type 0
IsUnchanged shape boxes f i box = IsSomeAnd (slice_get boxes i) (λ (b : BoxFrom).
    (is_whole_at (place_of shape f) (whole_of shape f) b.code_box.sets ≡ true) × (box ≡ b.code_box))

-- the box at the place has the code at the field, and the box is that one: as it was where it is whole there, and else made whole there
abbrev pub ComesFromFix : List Domain → List BoxFrom → ℕ → ℕ → BoxParts → BoxOrigin → Type 0
ComesFromFix shape boxes f code box (Failing i) = ⊥
ComesFromFix shape boxes f code box (Unchanged i) = IsUnchanged shape boxes f i box
ComesFromFix shape boxes f code box (Fixed i) =
    IsSomeAnd (slice_get boxes i) (λ (b : BoxFrom).
    (has_code_at (place_of shape f) code b.code_box.sets ≡ true) × (box ≡ whole_box shape f b.code_box.sets))
ComesFromFix shape boxes f code box (Cover parts) = ⊥

-- the boxes at these places, one for each code from this one on, have each its code, and have the last sets in common with the first ones
abbrev pub HaveInCommon : List BoxFrom → ℕ → ℕ → List ℕ → List ℕ → List ℕ → Type 0
HaveInCommon boxes place code [] sets common = common ≡ sets
HaveInCommon boxes place code (i ∷ parts) sets common =
    IsSomeAnd (slice_get boxes i) (λ (b : BoxFrom). (has_code_at place code b.code_box.sets ≡ true)
    × HaveInCommon boxes place (suc code) parts (in_both sets b.code_box.sets) common)

-- there is one part for each code of the field, which has it, and the box is what the parts have in common, made
-- whole at the field; no set of it is empty
pub record IsCover (shape : List Domain) (boxes : List BoxFrom) (f : ℕ) (parts : List ℕ) (box : BoxParts) : Type 0 where
  pub one_each : length parts ≡ size_of shape f
  pub common : List ℕ
  pub common_is : HaveInCommon boxes (place_of shape f) 0 parts (whole_sets shape) common
  pub box_is : box ≡ whole_box shape f common
  pub codes : none_is_empty box.sets ≡ true

-- the box is the one at the place, whole at the field, or the cover of the boxes at the places
abbrev pub ComesFromCover : List Domain → List BoxFrom → ℕ → BoxParts → BoxOrigin → Type 0
ComesFromCover shape boxes f box (Failing i) = ⊥
ComesFromCover shape boxes f box (Unchanged i) = IsUnchanged shape boxes f i box
ComesFromCover shape boxes f box (Fixed i) = ⊥
ComesFromCover shape boxes f box (Cover parts) = IsCover shape boxes f parts box
