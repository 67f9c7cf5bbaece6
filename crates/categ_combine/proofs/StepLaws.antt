use Rattle.std.proofs.Common.{◌≡◌, ◌↔◌, ℕ, zero, suc, ◌<◌, List, [], ◌∷◌, Some, None, Result, Ok, Err, IfOk, length, slice_get, refl, sym, ap, ◌∙◌, arith}
use Rattle.std.specs.List.{flat_map, fold}
use Rattle.edit_model.specs.Points.{Point}
use Rattle.edit_line.specs.Boxes.{IsBox}
use Rattle.edit_line.specs.Shapes.{Domain, HasCodes, codes_at, whole_sets}
use Rattle.edit_line.proofs.Members.{in-all, in-map-out}
use Rattle.edit_line.proofs.ShapeLaws.{length-wholes}
use Rattle.categ_combine.specs.BoxLists.{AreBoxesOver, Avoids, SayWithSomeCode, avoid, reduce_from, sets_of}
use Rattle.categ_combine.specs.inner.FitBoxes.{AreBoxes}
use Rattle.edit_line.specs.CodeFields.{TakesCodes, codes_of, codes_up, place_of, size_of, whole_of, with_code_at}
use Rattle.categ_combine.specs.Covers.{IsElimination, code_pairs, cover_count, covered, covered_from, first_cover, row_of, with_code, with_code_from}
use Rattle.categ_combine.specs.Each.{each_from}
use Rattle.categ_combine.specs.Fixing.{fixed, fixed_from, fixed_one}
use Rattle.categ_combine.specs.Steps.{IsDone}
use Rattle.categ_combine.specs.declared.box_from.BoxFrom.{BoxFrom}
use Rattle.categ_combine.specs.declared.covered.Covered.{Covered}
use Rattle.categ_combine.specs.declared.covered.Covered.TheVariants.{Done, Passed}
use Rattle.categ_combine.proofs.CoverLaws.{HaveSets, covered-holds, covered-lifts, fixed-avoids}
use Rattle.categ_combine.proofs.OriginLaws.{sets-covered, sets-fixed_from}
use Rattle.edit_line.proofs.SetLaws.{AreSets-length}

-- What the public calls say of their answers, from the exact ones.

-- two facts of an answer give a third
pub if_ok : {A E : Type 0} (P P' Q : A → Type 0) (r : Result A E) → ((a : A) → P a → P' a → Q a) → IfOk r P → IfOk r P' → IfOk r Q
if_ok P P' Q (Ok a) next p p' = next a p p'
if_ok P P' Q (Err e) next p p' = tt

-- the shape of the first box is that of all
pub first-shape : (boxes : List BoxFrom) (first : BoxFrom) (shape : List Domain) → Some first ≡ slice_get boxes 0 → AreBoxesOver shape boxes
    → first.code_box.shape ≡ shape
first-shape [] first shape is over = absurd (cc)
first-shape (b ∷ boxes) first shape is over = let same : first ≡ b = cc in ap (λ (x : BoxFrom). x.code_box.shape) same ∙ over 0 b (omega arith)

pub none-first : (boxes : List BoxFrom) → None ≡ slice_get boxes 0 → boxes ≡ []
none-first [] is = refl
none-first (b ∷ boxes) is = absurd (cc)

-- each box has a set for each categorical field
have-sets : (shape : List Domain) (boxes : List BoxFrom) → AreBoxesOver shape boxes → AreBoxes boxes → HaveSets shape (sets_of boxes)
have-sets shape boxes over are sets there =
    let (b, was, is) = in-map-out (λ (b : BoxFrom). b.code_box.sets) sets boxes there in
    ap length is
    ∙ AreSets-length b.code_box.sets (whole_sets b.code_box.shape) (in-all (λ (b : BoxFrom). IsBox b.code_box) b boxes are was)
    ∙ ap (λ s. length (whole_sets s)) (in-all (λ (b : BoxFrom). b.code_box.shape ≡ shape) b boxes over was)
    ∙ length-wholes 0 shape

-- ---- fixing a code

module _ (own shape : List Domain) (boxes left : List BoxFrom) (f code place whole : ℕ) (same : own ≡ shape) (at : place ≡ place_of own f)
    (is : whole ≡ whole_of own f) (made : left ≡ reduce_from (each_from (fixed_one place whole code) 0 boxes)) where
  pub fixed-exact : left ≡ fixed_from shape boxes f code
  fixed-exact =
      made ∙ ap (λ n. reduce_from (each_from (fixed_one n whole code) 0 boxes)) at
      ∙ ap (λ n. reduce_from (each_from (fixed_one (place_of own f) n code) 0 boxes)) is ∙ ap (λ s. fixed_from s boxes f code) same

  pub fixed-sets : sets_of left ≡ fixed shape (sets_of boxes) f code
  fixed-sets = ap (λ bs. sets_of bs) fixed-exact ∙ sets-fixed_from shape boxes f code

  pub fixed-same : (p : Point) → AreBoxesOver shape boxes → AreBoxes boxes → code < size_of shape f → HasCodes 0 shape p
      → Avoids shape (sets_of left) p ↔ Avoids shape (sets_of boxes) (with_code_at p f code)
  fixed-same p over are below held =
      let told : avoid (sets_of left) (codes_at shape p) ≡ avoid (sets_of boxes) (codes_at shape (with_code_at p f code)) =
      ap (λ bs. avoid bs (codes_at shape p)) fixed-sets ∙ fixed-avoids shape (sets_of boxes) f p (have-sets shape boxes over are) (omega (arith, below))
      held code in
      (λ h. sym told ∙ h, λ h. told ∙ h)

-- ---- elimination

module _ (own shape : List Domain) (boxes : List BoxFrom) (f : ℕ) (same : own ≡ shape) where
  pub done-sets : (told : Covered) → IsDone told (IsElimination own boxes f) → IsDone told (λ left pairs. sets_of left ≡ covered shape (sets_of boxes) f)
  done-sets (Done left pairs) are = ap (λ bs. sets_of bs) are.0 ∙ sets-covered own boxes f ∙ ap (λ s. covered s (sets_of boxes) f) same
  done-sets Passed are = tt

  pub done-same : AreBoxesOver shape boxes → TakesCodes shape f → (told : Covered) → IsDone told (IsElimination own boxes f)
      → IsDone told (λ left pairs. AreBoxes boxes)
      → IsDone told (λ left pairs. SayWithSomeCode shape boxes f left)
  done-same over takes (Done left pairs) are fit = λ p held.
      let is = done-sets (Done left pairs) are in
      let sets = have-sets shape boxes over fit in (
        λ h. covered-lifts shape (sets_of boxes) f p sets takes held (ap (λ bs. avoid bs (codes_at shape p)) (sym is) ∙ h),
        λ h. ap (λ bs. avoid bs (codes_at shape p)) is ∙ covered-holds shape (sets_of boxes) f p sets takes held h.0 h.1 h.2,
      )
  done-same over takes Passed are fit = tt

-- ---- no boxes

module _ (place whole : ℕ) where
  no_rows : (code : ℕ) (covers : List BoxFrom) → flat_map (row_of place whole code []) covers ≡ []
  no_rows code [] = refl
  no_rows code (p ∷ covers) = no_rows code covers

  no_covers : (codes : List ℕ) → fold (λ covers code. with_code_from place whole [] covers code) [] codes ≡ []
  no_covers [] = refl
  no_covers (code ∷ codes) = no_covers codes

  none-covers : (covers : List BoxFrom) (size : ℕ) → 0 < size → fold (λ covers code. with_code_from place whole [] covers code) covers (codes_up 0 size) ≡ []
  none-covers covers zero some = absurd (omega arith)
  none-covers covers (suc k) some =
      ap (λ bs. fold (λ covers code. with_code_from place whole [] covers code) (reduce_from bs) (codes_up 1 k)) (no_rows 0 covers) ∙ no_covers (codes_up 1 k)

  none-pairs : (covers : List (List ℕ)) (codes : List ℕ) → code_pairs place whole [] covers codes ≡ 0
  none-pairs covers [] = refl
  none-pairs covers (code ∷ codes) = omega (arith, none-pairs (with_code place whole [] covers code) codes)

pub none-covered : (shape : List Domain) (f : ℕ) → TakesCodes shape f → covered_from shape [] f ≡ []
none-covered shape f takes = ap (λ bs. reduce_from bs) (none-covers (place_of shape f) (whole_of shape f) (first_cover shape ∷ []) (size_of shape f) takes)

pub none-count : (shape : List Domain) (f : ℕ) → cover_count shape [] f ≡ 0
none-count shape f = none-pairs (place_of shape f) (whole_of shape f) (whole_sets shape ∷ []) (codes_of shape f)
