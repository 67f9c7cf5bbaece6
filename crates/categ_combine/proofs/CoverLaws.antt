use Rattle.std.proofs.Common.{◌≡◌, ℕ, ◌<◌, not, Bool, true, false, List, length, slice_set, refl, sym, ap, ◌∙◌, arith}
use Rattle.std.specs.List.{list_all, list_any}
use Rattle.edit_model.specs.Points.{Point}
use Rattle.edit_line.specs.Reductions.{IsIn}
use Rattle.edit_line.specs.Sets.{are_codes_in}
use Rattle.edit_line.specs.Shapes.{Domain, HasCodes, code_fields, codes_at, whole_sets}
use Rattle.edit_line.proofs.ShapeLaws.{length-wholes}
use Rattle.categ_combine.specs.BoxLists.{Avoids, avoid}
use Rattle.edit_line.specs.CodeFields.{TakesCodes, codes_of, place_of, size_of, whole_of, with_code_at}
use Rattle.categ_combine.specs.Covers.{covered}
use Rattle.categ_combine.specs.Fixing.{fixed}
use Rattle.categ_combine.proofs.CoverSteps.{any-covered, any-fixed}
use Rattle.edit_line.proofs.PointCodes.{codes_at-with, length-codes_at, not_all, place_of-below, some-code, whole_of-all, whole_of-code, wholes-inside}

-- Which codes avoid the boxes that elimination leaves, and those that a code leaves.

-- a set for each categorical field in each box
abbrev pub HaveSets : List Domain → List (List ℕ) → Type 0
HaveSets shape boxes = (b : List ℕ) → IsIn b boxes → length b ≡ length (code_fields shape)

opposite : (b : Bool) → not b ≡ true → b ≡ false
opposite true h = absurd (cc)
opposite false h = refl

module _ (shape : List Domain) (boxes : List (List ℕ)) (f : ℕ) (p : Point) (sets : HaveSets shape boxes) (takes : TakesCodes shape f)
    (held : HasCodes 0 shape p) where
  within : place_of shape f < length (codes_at shape p)
  within = omega (arith, place_of-below shape f takes, length-codes_at shape p)

  same : (b : List ℕ) → IsIn b boxes → length b ≡ length (codes_at shape p)
  same b there = sets b there ∙ sym (length-codes_at shape p)

  -- a box that is left has the codes exactly where, for each code of the field, a box has them with that code
  in-covered : list_any (λ b. are_codes_in b (codes_at shape p)) (covered shape boxes f)
      ≡ list_all (λ c. list_any (λ b. are_codes_in b (slice_set (codes_at shape p) (place_of shape f) c)) boxes) (codes_of shape f)
  in-covered =
      any-covered (place_of shape f) (whole_of shape f) (codes_at shape p) boxes within (whole_of-code shape p f takes held) same (whole_sets shape)
      (codes_of shape f) (
      omega (arith, length-wholes 0 shape, length-codes_at shape p)
      ) refl (wholes-inside shape p held) (whole_of-all shape f)

  -- where the codes avoid what elimination leaves, they avoid the boxes with some code at the field
  pub covered-lifts : Avoids shape (covered shape boxes f) p → (code : ℕ) × (code < size_of shape f) × Avoids shape boxes (with_code_at p f code)
  covered-lifts avoids =
      let (code, below, fails) = some-code (λ c. list_any (λ b. are_codes_in b (slice_set (codes_at shape p) (place_of shape f) c)) boxes) 0
      (size_of shape f) (sym in-covered ∙ opposite _ avoids) in
      (code, omega (arith, below), ap (λ cs. avoid boxes cs) (codes_at-with shape p f code) ∙ ap not fails)

  -- and the other way round
  pub covered-holds : (code : ℕ) → code < size_of shape f → Avoids shape boxes (with_code_at p f code) → Avoids shape (covered shape boxes f) p
  covered-holds code below avoids =
      let fails : list_any (λ b. are_codes_in b (slice_set (codes_at shape p) (place_of shape f) code)) boxes
      ≡ false = opposite _ (ap (λ cs. avoid boxes cs) (sym (codes_at-with shape p f code)) ∙ avoids) in
      ap not (in-covered ∙ not_all (λ c. list_any (λ b. are_codes_in b (slice_set (codes_at shape p) (place_of shape f) c)) boxes) 0 (size_of shape f) code
      (omega arith) (omega (arith, below)) fails)

  -- the codes avoid the boxes that a code leaves exactly where they avoid the boxes with it
  pub fixed-avoids : (code : ℕ) → avoid (fixed shape boxes f code) (codes_at shape p) ≡ avoid boxes (codes_at shape (with_code_at p f code))
  fixed-avoids code =
      ap not (any-fixed (place_of shape f) (whole_of shape f) (codes_at shape p) boxes within (whole_of-code shape p f takes held) same code)
      ∙ ap (λ cs. avoid boxes cs) (sym (codes_at-with shape p f code))
