use Rattle.std.proofs.Common.{◌≡◌, ◌↔◌, ℕ, zero, suc, ◌||◌, Bool, true, false, not, if◌then◌else◌, List, [], ◌∷◌, All, Result, Ok, Err, refl, sym, ap}
use Rattle.std.proofs.Common.{◌∙◌, subst, arith}
use Rattle.std.specs.List.{list_any}
use Rattle.edit_line.specs.inner.LineFields.{HasNumbers}
use Rattle.foundation.specs.Results.{◌>>=◌, fault_as}
use Rattle.edit_model.specs.Points.{Point}
use Rattle.edit_model.specs.declared.value.Value.{Value}
use Rattle.edit_line.specs.Lines.{AllHold, LineHolds, LineParts, amount}
use Rattle.edit_line.specs.Sets.{AreCodesIn, are_codes_in}
use Rattle.edit_line.specs.Shapes.{Domain, codes_at}
use Rattle.edit_line.specs.Subsumption.{is_enough}
use Rattle.edit_line.specs.Sums.{AgreesOnLine, fails_at}
use Rattle.edit_line.specs.Reductions.{lines_of}
use Rattle.edit_line.specs.declared.derived.Derived.{Derived}
use Rattle.edit_line.proofs.Enough.{is_enough-Decides}
use Rattle.edit_line.proofs.SetLaws.{is_inside-Decides}
use Rattle.edit_line.proofs.SumLaws.{fails_at-truth}
use Rattle.categ_combine.specs.BoxLists.{Avoids, with_box}
use Rattle.categ_combine.specs.FailingBoxes.{boxes_from, failing_boxes, line_fault}
use Rattle.edit_line.proofs.OtherFields.{inside-grows}
use Rattle.categ_combine.proofs.ReducedBoxes.{any-with_box}

-- Which codes avoid the boxes of a record: those of the points that agree with it and at which its lines hold.

opposite : (b : Bool) → not b ≡ true → b ≡ false
opposite true h = absurd (cc)
opposite false h = refl

module _ (shape : List Domain) (row : List Value) (p : Point) where
  -- what is known of a line
  abbrev IsKnown : LineParts → Type 0
  IsKnown line = (line.shape ≡ shape) × HasNumbers row line × AgreesOnLine row p line

  -- some box has the point's codes
  abbrev caught : List (List ℕ) → Bool
  caught boxes = list_any (λ b. are_codes_in b (codes_at shape p)) boxes

  -- a line that fails holds exactly where its sets have not the codes
  failing-holds : (line : LineParts) → IsKnown line → fails_at line row ≡ Ok true → LineHolds line p ↔ (are_codes_in line.sets (codes_at shape p) ≡ false)
  failing-holds line known e = (
    λ holds. by (are_codes_in line.sets (codes_at shape p)) refl holds,
    λ out. record {
      enough = λ inside. absurd (cc (sym out
          ∙ (is_inside-Decides line.sets (codes_at shape p)).1 (subst (λ s. AreCodesIn line.sets (codes_at s p)) known.0 inside)));
    },
  )
    where
      short : is_enough line.relation (amount line p) ≡ false
      short = opposite _ (sym (fails_at-truth line row p true known.1 known.2 e))

      by : (b : Bool) → are_codes_in line.sets (codes_at shape p) ≡ b → LineHolds line p → b ≡ false
      by false there holds = refl
      by true there holds =
          absurd (cc (sym short ∙ (is_enough-Decides line.relation (amount line p)).1
          (holds.enough (subst (λ s. AreCodesIn line.sets (codes_at s p)) (sym known.0) ((is_inside-Decides line.sets (codes_at shape p)).0 there)))))

  -- a line that does not fail holds
  kept-holds : (line : LineParts) → IsKnown line → fails_at line row ≡ Ok false → LineHolds line p
  kept-holds line known e =
      record {
        enough = λ inside. (is_enough-Decides line.relation (amount line p)).0
            (enough (is_enough line.relation (amount line p)) (sym (fails_at-truth line row p false known.1 known.2 e)));
      }
    where
      enough : (b : Bool) → not b ≡ false → b ≡ true
      enough true h = refl
      enough false h = absurd (cc)

  or_parts : (a b : Bool) → (a || b) ≡ false → (a ≡ false) × (b ≡ false)
  or_parts true b h = absurd (cc)
  or_parts false b h = (refl, h)

  or_made : (a b : Bool) → a ≡ false → b ≡ false → (a || b) ≡ false
  or_made true b h i = absurd (cc)
  or_made false b h i = i

  after : (line : LineParts) (lines : List LineParts) → LineHolds line p → AllHold lines p → AllHold (line ∷ lines) p
  after line lines here rest zero d below = here
  after line lines here rest (suc k) d below = rest k d (omega arith)

  -- from one line on
  caught-from : (i : ℕ) (lines : List LineParts) (kept boxes : List (List ℕ)) → All (λ line. IsKnown line) lines → boxes_from i lines row kept ≡ Ok boxes
      → (caught boxes ≡ false) ↔ ((caught kept ≡ false) × AllHold lines p)
  caught-from i [] kept boxes known e = let same : kept
      ≡ boxes = cc in (λ h. (ap (λ bs. caught bs) same ∙ h, λ k d below. absurd (omega arith)), λ h. ap (λ bs. caught bs) (sym same) ∙ h.0)
  caught-from i (line ∷ lines) kept boxes known e =
      by (fails_at line row) refl e (λ kept'. caught-from (suc i) lines kept' boxes (λ k d below. known (suc k) d (omega arith)))
    where
      mine : IsKnown line
      mine = known 0 line (omega arith)

      by : (t : Result Bool ℕ) → fails_at line row ≡ t → (fault_as (line_fault i) t >>=
          (λ fails. boxes_from (suc i) lines row (if fails then with_box kept line.sets else kept))) ≡ Ok boxes
          → ((kept' : List (List ℕ)) → boxes_from (suc i) lines row kept' ≡ Ok boxes → (caught boxes ≡ false) ↔ ((caught kept' ≡ false) × AllHold lines p))
          → (caught boxes ≡ false) ↔ ((caught kept ≡ false) × AllHold (line ∷ lines) p)
      by (Err f) told made rest = absurd (cc)
      by (Ok true) told made rest =
          let law = rest (with_box kept line.sets) made in
          let both : caught (with_box kept line.sets) ≡ (caught kept || are_codes_in line.sets (codes_at shape p)) = any-with_box
          (λ b. are_codes_in b (codes_at shape p)) (λ b c. inside-grows b c (codes_at shape p)) kept line.sets in (
            λ h. let (first, hold) = law.0 h in let (old, new) = or_parts _ _
                (sym both ∙ first) in (old, after line lines ((failing-holds line mine told).1 new) hold),
            λ h. law.1 (both ∙ or_made _ _ h.0 ((failing-holds line mine told).0 (h.1 0 line (omega arith))), λ k d below. h.1 (suc k) d (omega arith)),
          )
      by (Ok false) told made rest =
          let law = rest kept made in (
            λ h. let (first, hold) = law.0 h in (first, after line lines (kept-holds line mine told) hold),
            λ h. law.1 (h.0, λ k d below. h.1 (suc k) d (omega arith)),
          )

  all-known : (lines : List Derived) → All (λ (d : Derived). d.line.shape ≡ shape) lines → All (λ (d : Derived). HasNumbers row d.line) lines
      → All (λ (d : Derived). AgreesOnLine row p d.line) lines → All (λ line. IsKnown line) (lines_of lines)
  all-known [] over held agree k e below = absurd (omega arith)
  all-known (d ∷ lines) over held agree zero e below = (over 0 d (omega arith), held 0 d (omega arith), agree 0 d (omega arith))
  all-known (d ∷ lines) over held agree (suc k) e below =
      all-known lines (λ j g under. over (suc j) g (omega arith)) (λ j g under. held (suc j) g (omega arith)) (λ j g under. agree (suc j) g (omega arith))
      k e (omega arith)

  -- the lines all hold at the point exactly where its codes avoid the boxes of the record
  pub failing-avoids : (lines : List Derived) (boxes : List (List ℕ)) → All (λ (d : Derived). d.line.shape ≡ shape) lines
      → All (λ (d : Derived). HasNumbers row d.line) lines → All (λ (d : Derived). AgreesOnLine row p d.line) lines
      → failing_boxes (lines_of lines) row ≡ Ok boxes → AllHold (lines_of lines) p ↔ Avoids shape boxes p
  failing-avoids lines boxes over held agree made =
      let law = caught-from 0 (lines_of lines) [] boxes (all-known lines over held agree) made in
      (λ hold. ap not (law.1 (refl, hold)), λ avoids. (law.0 (opposite _ avoids)).1)
