use Rattle.std.proofs.Common.{◌≡◌, ◌∷◌, ◌∙◌, IsSomeAnd, List, None, Ok, Option, Some, [], ap, false, if◌then◌else◌, map, slice_get, slice_index_or, suc, sym}
use Rattle.std.proofs.Common.{true, ℕ}
use Rattle.std.proofs.lemmas.Bool.Decides.{Decides-eqb}
use Rattle.std.specs.Result.{result_unwrap_or}
use Rattle.foundation.specs.Options.{◌>>?◌}
use Rattle.edit_model.specs.FieldSets.{has_number}
use Rattle.edit_model.specs.Points.{has_code}
use Rattle.edit_model.specs.Rows.{value_of}
use Rattle.edit_model.specs.declared.value.Value.{Value}
use Rattle.edit_model.specs.declared.value.Value.TheVariants.{Code}
use Rattle.edit_line.specs.Boxes.{BoxParts, box_of}
use Rattle.edit_line.specs.CodeFields.{place_of, whole_of}
use Rattle.edit_line.specs.Combinations.{in_both}
use Rattle.edit_line.specs.Reductions.{IsIn}
use Rattle.edit_line.specs.Sets.{none_is_empty}
use Rattle.edit_line.specs.Shapes.{Domain, code_fields, has_field, number_fields, whole_sets}
use Rattle.edit_line.specs.Sums.{fails_at, stands_only}
use Rattle.edit_line.specs.declared.derived.Derived.{Derived}
use Rattle.edit_line.proofs.BoolLaws.{true-both}
use Rattle.edit_line.proofs.ListPlaces.{get-map, some_with}
use Rattle.edit_line.proofs.Members.{in-get}
use Rattle.categ_combine.specs.Covers.{is_whole_at}
use Rattle.categ_combine.specs.Origins.{ComesFromCover, ComesFromFix, ComesFromLine, HaveInCommon, whole_box}
use Rattle.categ_combine.specs.declared.box_from.BoxFrom.{BoxFrom}
use Rattle.categ_combine.specs.declared.box_from.BoxOrigin.{BoxOrigin}
use Rattle.categ_combine.specs.declared.box_from.BoxOrigin.TheVariants as box
use Rattle.derivation.specs.Premises.{Premises}
use Rattle.derivation.specs.ValidSteps.{as_box, as_line, common_from, covered_sets, failed_box, fixed_sets, part_with}
use Rattle.derivation.specs.declared.proved.Proved.{Proved}
use Rattle.derivation.specs.declared.proved.Proved.TheVariants as proved
use Rattle.edit_paths.specs.Histories.{box_by}
use Rattle.edit_paths.proofs.LineHistories.{line-value, line_values}
use Rattle.edit_paths.proofs.StepsWritten.{IsMadeBy}

-- A box that comes from lines, or from boxes, as its origin says is made from them by a step.

-- the boxes, as what steps prove
abbrev pub box_values : List BoxFrom → List Proved
box_values boxes = map (λ (b : BoxFrom). proved.Box b.code_box) boxes

pub box-value : (boxes : List BoxFrom) (i : ℕ) (b : BoxFrom) → slice_get boxes i ≡ Some b → slice_get (box_values boxes) i ≡ Some (proved.Box b.code_box)
box-value boxes i b at = get-map (λ (b : BoxFrom). proved.Box b.code_box) boxes i b at

-- ---- the boxes of failing lines

pub first-made : (p : Premises) (lines : List Derived) → ((d : Derived) → IsIn d lines → d.line.shape ≡ p.shape)
    → ((d : Derived) → IsIn d lines → stands_only (has_number p.kept) (number_fields d.line.shape) d.line.factors ≡ true)
    → (code_box : BoxParts) (o : BoxOrigin) → ComesFromLine lines p.row code_box o → IsMadeBy p (line_values lines) (proved.Box code_box) (box_by 0 o)
first-made p lines over kept code_box (box.Failing i) comes =
    let (d, at, said) = some_with (λ (d : Derived). (fails_at d.line p.row ≡ Ok true) × (code_box ≡ box_of d.line.shape d.line.sets)) (slice_get lines i)
    comes in
    let there = in-get d lines i at in
    ap (λ (o : Option Proved). (as_line o >>? (λ line. failed_box p line))) (line-value lines i d at)
    ∙ ap (λ b. if b then Some (proved.Box (box_of p.shape d.line.sets)) else None) (true-both _ _ (kept d there) (ap (λ r. (result_unwrap_or r false)) said.0))
    ∙ ap (λ (s : List Domain). Some (proved.Box (box_of s d.line.sets))) (sym (over d there))
    ∙ ap (λ (b : BoxParts). Some (proved.Box b)) (sym said.1)
first-made p lines over kept code_box (box.Unchanged i) comes = absurd comes
first-made p lines over kept code_box (box.Fixed i) comes = absurd comes
first-made p lines over kept code_box (box.Cover parts) comes = absurd comes

module _ (p : Premises) (boxes : List BoxFrom) (f : ℕ) (categorical : has_field (code_fields p.shape) f ≡ true) where
  -- a box that is there already
  unchanged-made : (i : ℕ) (code_box : BoxParts)
      → IsSomeAnd (slice_get boxes i) (λ (b : BoxFrom). (is_whole_at (place_of p.shape f) (whole_of p.shape f) b.code_box.sets ≡ true)
      × (code_box ≡ b.code_box)) → slice_get (box_values boxes) i ≡ Some (proved.Box code_box)
  unchanged-made i code_box comes =
      let (b, at, said) = some_with (λ (b : BoxFrom). (is_whole_at (place_of p.shape f) (whole_of p.shape f) b.code_box.sets ≡ true) × (code_box ≡ b.code_box))
      (slice_get boxes i) comes in
      box-value boxes i b at ∙ ap (λ (x : BoxParts). Some (proved.Box x)) (sym said.1)

  -- ---- fixed boxes

  pub fixed-made : (code : ℕ) → has_number p.kept f ≡ true → value_of p.row f ≡ Code code → (code_box : BoxParts) (o : BoxOrigin)
      → ComesFromFix p.shape boxes f code code_box o → IsMadeBy p (box_values boxes) (proved.Box code_box) (box_by f o)
  fixed-made code kept own code_box (box.Failing i) comes = absurd comes
  fixed-made code kept own code_box (box.Unchanged i) comes = unchanged-made i code_box comes
  fixed-made code kept own code_box (box.Fixed i) comes =
      let (b, at, said) = some_with (λ (b : BoxFrom). (has_code (slice_index_or b.code_box.sets (place_of p.shape f) 0) code ≡ true)
      × (code_box ≡ whole_box p.shape f b.code_box.sets)) (slice_get boxes i) comes in
      ap (λ t. if t then (as_box (slice_get (box_values boxes) i) >>? (λ sets. fixed_sets p.shape f (value_of p.row f) sets)) else None)
      (true-both _ _ categorical kept)
      ∙ ap (λ (o : Option Proved). (as_box o >>? (λ sets. fixed_sets p.shape f (value_of p.row f) sets))) (box-value boxes i b at)
      ∙ ap (λ (v : Value). fixed_sets p.shape f v b.code_box.sets) own
      ∙ ap (λ t. if t then Some (proved.Box (whole_box p.shape f b.code_box.sets)) else None) said.0
      ∙ ap (λ (x : BoxParts). Some (proved.Box x)) (sym said.1)
  fixed-made code kept own code_box (box.Cover parts) comes = absurd comes

  -- ---- covers

  -- what parts have in common
  common-made : (code : ℕ) (parts sets common : List ℕ) → HaveInCommon boxes (place_of p.shape f) code parts sets common
      → common_from (box_values boxes) (place_of p.shape f) code parts sets ≡ Some common
  common-made code [] sets common have = ap (λ (s : List ℕ). Some s) (sym have)
  common-made code (i ∷ parts) sets common have =
      let (b, at, said) = some_with (λ (b : BoxFrom). (has_code (slice_index_or b.code_box.sets (place_of p.shape f) 0) code ≡ true)
      × HaveInCommon boxes (place_of p.shape f) (suc code) parts (in_both sets b.code_box.sets) common) (slice_get boxes i) have in
      ap (λ (o : Option (List ℕ)). (o >>? (λ own. common_from (box_values boxes) (place_of p.shape f) (suc code) parts (in_both sets own))))
      (part i b at said.0) ∙ common-made (suc code) parts (in_both sets b.code_box.sets) common said.1
    where
      part : (i : ℕ) (b : BoxFrom) → slice_get boxes i ≡ Some b → has_code (slice_index_or b.code_box.sets (place_of p.shape f) 0) code ≡ true
          → part_with (box_values boxes) (place_of p.shape f) code i ≡ Some b.code_box.sets
      part i b at has =
          ap (λ (o : Option Proved). (as_box o >>? (λ own. if has_code (slice_index_or own (place_of p.shape f) 0) code then Some own else None)))
          (box-value boxes i b at)
          ∙ ap (λ t. if t then Some b.code_box.sets else None) has

  pub covered-made : (code_box : BoxParts) (o : BoxOrigin) → ComesFromCover p.shape boxes f code_box o
      → IsMadeBy p (box_values boxes) (proved.Box code_box) (box_by f o)
  covered-made code_box (box.Failing i) comes = absurd comes
  covered-made code_box (box.Unchanged i) comes = unchanged-made i code_box comes
  covered-made code_box (box.Fixed i) comes = absurd comes
  covered-made code_box (box.Cover parts) comes =
      ap (λ t. if t then (common_from (box_values boxes) (place_of p.shape f) 0 parts (whole_sets p.shape) >>? (λ common. covered_sets p.shape f common)) else
      None) (true-both _ _ categorical ((Decides-eqb _ _).1 comes.one_each))
      ∙ ap (λ (o : Option (List ℕ)). (o >>? (λ common. covered_sets p.shape f common))) (common-made 0 parts (whole_sets p.shape) comes.common comes.common_is)
      ∙ ap (λ t. if t then Some (proved.Box (whole_box p.shape f comes.common)) else None) (ap (λ (x : BoxParts). none_is_empty x.sets) (sym comes.box_is)
      ∙ comes.codes)
      ∙ ap (λ (x : BoxParts). Some (proved.Box x)) (sym comes.box_is)
