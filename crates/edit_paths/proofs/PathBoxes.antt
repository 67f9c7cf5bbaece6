use Rattle.std.proofs.Common.{◌≡◌, ◌==◌, ◌&&◌, subst, inl, inr, ℕ, suc, ◌<◌, Bool, true, false, not, if◌then◌else◌, List, [], ◌∷◌, length, nat_eq}
use Rattle.std.proofs.Common.{slice_index_or, refl, sym, ap, ◌∙◌, arith}
use Rattle.std.specs.Cmp.Lexicographic.{pointwise, same_text}
use Rattle.std.specs.List.{fold}
use Rattle.std.proofs.lemmas.Bool.Decides.{Decides-eqb}
use Rattle.edit_model.specs.Points.{Point}
use Rattle.edit_model.specs.RowPoints.{code_in}
use Rattle.edit_model.specs.Rows.{value_of}
use Rattle.edit_line.specs.Boxes.{are_whole}
use Rattle.edit_line.specs.CodeFields.{TakesCodes, place_of, with_code_at}
use Rattle.edit_line.specs.Reductions.{IsIn}
use Rattle.edit_line.specs.Sets.{are_codes_in}
use Rattle.edit_line.specs.Shapes.{Domain, HasCodes, code_fields, codes_at, has_field, shape_of, whole_sets}
use Rattle.edit_line.proofs.Members.{any-in}
use Rattle.edit_line.proofs.PointCodes.{HasCodes-with, codes-own, place_of-below, wholes-inside}
use Rattle.categ_combine.specs.BoxLists.{AreBoxesOver, Avoids, avoid, sets_of}
use Rattle.categ_combine.specs.Covers.{covered, covered_from}
use Rattle.categ_combine.specs.Fixing.{fixed, fixed_from}
use Rattle.categ_combine.specs.declared.box_from.BoxFrom.{BoxFrom}
use Rattle.categ_combine.proofs.BoxSets.{AreWhole, IsWhole, HaveSets-covered, HaveSets-fixed, covered-whole, fixed-whole, whole-covered, whole-fixed}
use Rattle.categ_combine.proofs.CoverLaws.{HaveSets, covered-holds, covered-lifts, fixed-avoids}
use Rattle.categ_combine.proofs.OriginLaws.{sets-covered, sets-fixed_from}
use Rattle.categ_combine.proofs.OverLaws.{over-covered, over-fixed}
use Rattle.derivation.proofs.CoverLaws.{code-below}
use Rattle.bound_cert.specs.Paths.{changes}
use Rattle.edit_paths.specs.Cases.{SearchCase}
use Rattle.edit_paths.specs.States.{boxes_after}

-- The boxes along a path: which codes avoid them, and that they are whole at each treated field.

module _ (c : SearchCase) (path : List Bool) where
  abbrev shape : List Domain
  shape = shape_of c.survey.fields

  -- the sets of the boxes after one more field
  abbrev pub sets_after : List (List ℕ) → ℕ → List (List ℕ)
  sets_after boxes f = if changes c.survey.fields path f then covered (shape_of c.survey.fields) boxes f else fixed (shape_of c.survey.fields) boxes f
      (code_in (value_of c.row f))

  sets-one : (boxes : List BoxFrom) (f : ℕ) → sets_of (boxes_after c path boxes f) ≡ sets_after (sets_of boxes) f
  sets-one boxes f = by (changes c.survey.fields path f)
    where
      by : (b : Bool) → sets_of (if b then covered_from (shape_of c.survey.fields) boxes f else fixed_from (shape_of c.survey.fields) boxes f
          (code_in (value_of c.row f)))
          ≡ (if b then covered (shape_of c.survey.fields) (sets_of boxes) f else fixed (shape_of c.survey.fields) (sets_of boxes) f
          (code_in (value_of c.row f)))
      by true = sets-covered shape boxes f
      by false = sets-fixed_from shape boxes f (code_in (value_of c.row f))

  pub sets-along : (boxes : List BoxFrom) (fields : List ℕ) → sets_of (fold (boxes_after c path) boxes fields) ≡ fold sets_after (sets_of boxes) fields
  sets-along boxes [] = refl
  sets-along boxes (f ∷ fields) = sets-along (boxes_after c path boxes f) fields ∙ ap (λ bs. fold sets_after bs fields) (sets-one boxes f)

  -- the boxes are over the survey's fields
  pub after-over : (boxes : List BoxFrom) (f : ℕ) → AreBoxesOver (shape_of c.survey.fields) boxes
      → AreBoxesOver (shape_of c.survey.fields) (boxes_after c path boxes f)
  after-over boxes f over = by (changes c.survey.fields path f)
    where
      by : (t : Bool) → AreBoxesOver (shape_of c.survey.fields) (if t then covered_from (shape_of c.survey.fields) boxes f else fixed_from
          (shape_of c.survey.fields) boxes f (code_in (value_of c.row f)))
      by true = over-covered shape boxes f over
      by false = over-fixed shape boxes f (code_in (value_of c.row f)) over

  pub along-over : (boxes : List BoxFrom) (fields : List ℕ) → AreBoxesOver (shape_of c.survey.fields) boxes
      → AreBoxesOver (shape_of c.survey.fields) (fold (boxes_after c path) boxes fields)
  along-over boxes [] over = over
  along-over boxes (f ∷ fields) over = along-over (boxes_after c path boxes f) fields (after-over boxes f over)

  -- ---- boxes that are whole

  after-sets : (boxes : List (List ℕ)) (f : ℕ) → HaveSets shape boxes → HaveSets shape (sets_after boxes f)
  after-sets boxes f sets = by (changes c.survey.fields path f)
    where
      by : (t : Bool) → HaveSets (shape_of c.survey.fields) (if t then covered (shape_of c.survey.fields) boxes f else fixed (shape_of c.survey.fields) boxes f
          (code_in (value_of c.row f)))
      by true = HaveSets-covered shape boxes f sets
      by false = HaveSets-fixed shape boxes f (code_in (value_of c.row f)) sets

  after-here : (boxes : List (List ℕ)) (f : ℕ) → TakesCodes shape f → HaveSets shape boxes → AreWhole shape (place_of shape f) (sets_after boxes f)
  after-here boxes f takes sets = by (changes c.survey.fields path f)
    where
      by : (t : Bool) → AreWhole (shape_of c.survey.fields) (place_of (shape_of c.survey.fields) f)
          (if t then covered (shape_of c.survey.fields) boxes f else fixed (shape_of c.survey.fields) boxes f (code_in (value_of c.row f)))
      by true = covered-whole shape f takes boxes sets
      by false = fixed-whole shape f takes boxes (code_in (value_of c.row f)) sets

  after-stays : (boxes : List (List ℕ)) (f k : ℕ) → k < length (code_fields shape) → AreWhole shape k boxes → AreWhole shape k (sets_after boxes f)
  after-stays boxes f k below whole = by (changes c.survey.fields path f)
    where
      by : (t : Bool) → AreWhole (shape_of c.survey.fields) k (if t then covered (shape_of c.survey.fields) boxes f else fixed (shape_of c.survey.fields) boxes
          f (code_in (value_of c.row f)))
      by true = whole-covered shape k below boxes f whole
      by false = whole-fixed shape k below boxes f (code_in (value_of c.row f)) whole

  all-stay : (boxes : List (List ℕ)) (fields : List ℕ) (k : ℕ) → k < length (code_fields shape) → AreWhole shape k boxes
      → AreWhole shape k (fold sets_after boxes fields)
  all-stay boxes [] k below whole = whole
  all-stay boxes (f ∷ fields) k below whole = all-stay (sets_after boxes f) fields k below (after-stays boxes f k below whole)

  -- the boxes after several fields are whole at each of them
  pub all-whole : (boxes : List (List ℕ)) (fields : List ℕ) (f : ℕ) → ((g : ℕ) → IsIn g fields → TakesCodes (shape_of c.survey.fields) g)
      → HaveSets (shape_of c.survey.fields) boxes → IsIn f fields
      → AreWhole (shape_of c.survey.fields) (place_of (shape_of c.survey.fields) f) (fold sets_after boxes fields)
  all-whole boxes [] f takes sets there = absurd there
  all-whole boxes (g ∷ fields) f takes sets (inl same) =
      let takes_it = takes f (inl same) in
      all-stay (sets_after boxes g) fields (place_of shape f) (place_of-below shape f takes_it) (at (after-here boxes g (takes g (inl refl)) sets))
    where
      at : AreWhole (shape_of c.survey.fields) (place_of (shape_of c.survey.fields) g) (sets_after boxes g)
          → AreWhole (shape_of c.survey.fields) (place_of (shape_of c.survey.fields) f) (sets_after boxes g)
      at whole b b_in = subst (λ (h : ℕ). IsWhole (shape_of c.survey.fields) (place_of (shape_of c.survey.fields) h) b) (sym same) (whole b b_in)
  all-whole boxes (g ∷ fields) f takes sets (inr later) = all-whole (sets_after boxes g) fields f (λ h at. takes h (inr at)) (after-sets boxes g sets) later

  -- and have a set for each categorical field
  pub all-sized : (boxes : List (List ℕ)) (fields : List ℕ) → HaveSets (shape_of c.survey.fields) boxes
      → HaveSets (shape_of c.survey.fields) (fold sets_after boxes fields)
  all-sized boxes [] sets = sets
  all-sized boxes (f ∷ fields) sets = all-sized (sets_after boxes f) fields (after-sets boxes f sets)

  -- ---- which codes avoid them

  -- a point that avoids the boxes, and has the record's code where the path does not change the field, avoids those after the fields
  pub avoids-forward : (boxes : List (List ℕ)) (fields : List ℕ) (q : Point)
      → ((f : ℕ) → IsIn f fields → TakesCodes (shape_of c.survey.fields) f × (has_field (code_fields (shape_of c.survey.fields)) f ≡ true)
      × (changes c.survey.fields path f ≡ false → q.code f ≡ code_in (value_of c.row f)))
      → HaveSets (shape_of c.survey.fields) boxes → HasCodes 0 (shape_of c.survey.fields) q → Avoids (shape_of c.survey.fields) boxes q
      → Avoids (shape_of c.survey.fields) (fold sets_after boxes fields) q
  avoids-forward boxes [] q each sets held avoids = avoids
  avoids-forward boxes (f ∷ fields) q each sets held avoids =
      let (takes, there, own) = each f (inl refl) in
      avoids-forward (sets_after boxes f) fields q (λ g at. each g (inr at)) (after-sets boxes f sets) held
      (by takes there (changes c.survey.fields path f) own)
    where
      by : TakesCodes (shape_of c.survey.fields) f → has_field (code_fields (shape_of c.survey.fields)) f ≡ true → (t : Bool)
          → (t ≡ false → q.code f ≡ code_in (value_of c.row f))
          → Avoids (shape_of c.survey.fields) (if t then covered (shape_of c.survey.fields) boxes f else fixed (shape_of c.survey.fields) boxes f
          (code_in (value_of c.row f))) q
      by takes there true own = covered-holds shape boxes f q sets takes held (q.code f) (code-below shape q f there held)
          (ap (λ cs. avoid boxes cs) (codes-own shape q f (q.code f) refl) ∙ avoids)
      by takes there false own = fixed-avoids shape boxes f q sets takes held (code_in (value_of c.row f))
          ∙ ap (λ cs. avoid boxes cs) (codes-own shape q f (code_in (value_of c.row f)) (own refl)) ∙ avoids

  -- q is p, but for the codes of fields that the path changes
  pub record DiffersInCodes (p q : Point) : Type 0 where
    pub numerators : (i : ℕ) → q.numerator i ≡ p.numerator i
    pub denominator : q.denominator ≡ p.denominator
    pub codes : (i : ℕ) → changes c.survey.fields path i ≡ false → q.code i ≡ p.code i

  -- where a point avoids the boxes after the fields, some other codes at the changed ones avoid the boxes
  pub avoids-back : (boxes : List (List ℕ)) (fields : List ℕ) (p : Point) → ((f : ℕ) → IsIn f fields → TakesCodes (shape_of c.survey.fields) f
      × (changes c.survey.fields path f ≡ false → p.code f ≡ code_in (value_of c.row f)))
      → HaveSets (shape_of c.survey.fields) boxes → HasCodes 0 (shape_of c.survey.fields) p → Avoids (shape_of c.survey.fields) (fold sets_after boxes fields) p
      → (q : Point) × DiffersInCodes p q × HasCodes 0 (shape_of c.survey.fields) q × Avoids (shape_of c.survey.fields) boxes q
  avoids-back boxes [] p each sets held avoids = (p, record { numerators = λ i. refl; denominator = refl; codes = λ i e. refl }, held, avoids)
  avoids-back boxes (f ∷ fields) p each sets held avoids =
      let (takes, own) = each f (inl refl) in
      let (q, differs, q_held, q_avoids) = avoids-back (sets_after boxes f) fields p (λ g at. each g (inr at)) (after-sets boxes f sets) held avoids in
      by takes own q differs q_held (changes c.survey.fields path f) refl q_avoids
    where
      other : (q : Point) (code i : ℕ) → changes c.survey.fields path f ≡ true → changes c.survey.fields path i ≡ false → (with_code_at q f code).code i
          ≡ q.code i
      other q code i changed kept = at (i == f) refl
        where
          at : (b : Bool) → (i == f) ≡ b → (if b then code else q.code i) ≡ q.code i
          at true e = absurd (cc (sym kept ∙ ap (λ j. changes c.survey.fields path j) ((Decides-eqb i f).0 e) ∙ changed))
          at false e = refl

      by : TakesCodes (shape_of c.survey.fields) f → (changes c.survey.fields path f ≡ false → p.code f ≡ code_in (value_of c.row f)) → (q : Point)
          → DiffersInCodes p q → HasCodes 0 (shape_of c.survey.fields) q → (t : Bool) → changes c.survey.fields path f ≡ t
          → Avoids (shape_of c.survey.fields) (if t then covered (shape_of c.survey.fields) boxes f else fixed (shape_of c.survey.fields) boxes f
          (code_in (value_of c.row f))) q
          → (r : Point) × DiffersInCodes p r × HasCodes 0 (shape_of c.survey.fields) r × Avoids (shape_of c.survey.fields) boxes r
      by takes own q differs q_held true changed h =
          let (code, below, avoids_it) = covered-lifts shape boxes f q sets takes q_held h in (
            with_code_at q f code,
            record { numerators = differs.numerators; denominator = differs.denominator; codes = λ i kept. other q code i changed kept ∙ differs.codes i kept },
            HasCodes-with shape q f code q_held below,
            avoids_it,
          )
      by takes own q differs q_held false kept h = (
        q,
        differs,
        q_held,
        ap (λ cs. avoid boxes cs) (sym (codes-own shape q f (code_in (value_of c.row f)) (differs.codes f kept ∙ own kept)))
            ∙ sym (fixed-avoids shape boxes f q sets takes q_held (code_in (value_of c.row f))) ∙ h,
      )

-- ---- boxes of all codes

-- sets that are whole at each place are whole
pub whole-places : (shape : List Domain) (sets : List ℕ) → length sets ≡ length (whole_sets shape)
    → ((k : ℕ) → k < length sets → slice_index_or sets k 0 ≡ slice_index_or (whole_sets shape) k 0) → are_whole shape sets ≡ true
whole-places shape sets same each = from sets (whole_sets shape) same each
  where
    from : (first second : List ℕ) → length first ≡ length second → ((k : ℕ) → k < length first → slice_index_or first k 0 ≡ slice_index_or second k 0)
        → pointwise nat_eq first second ≡ true
    from [] [] same each = refl
    from [] (t ∷ second) same each = absurd (omega (arith, same))
    from (s ∷ first) [] same each = absurd (omega (arith, same))
    from (s ∷ first) (t ∷ second) same each =
        ap (λ b. b && pointwise nat_eq first second) ((Decides-eqb s t).1 (each 0 (omega arith)))
        ∙ from first second (omega (arith, same)) (λ k below. each (suc k) (omega arith))

-- a box of all codes is avoided by no point
pub whole-caught : (shape : List Domain) (boxes : List (List ℕ)) (b : List ℕ) (p : Point) → IsIn b boxes → are_whole shape b ≡ true → HasCodes 0 shape p
    → Avoids shape boxes p → ⊥
whole-caught shape boxes b p there whole held avoids = cc (sym avoids ∙ ap not (any-in (λ b. are_codes_in b (codes_at shape p)) b boxes there inside))
  where
    inside : are_codes_in b (codes_at shape p) ≡ true
    inside = ap (λ s. are_codes_in s (codes_at shape p)) (same_text b (whole_sets shape) (sym whole)) ∙ wholes-inside shape p held
