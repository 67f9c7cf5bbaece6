use Rattle.std.proofs.Common.{◌≡◌, ◌⊎◌, inl, inr, ℕ, suc, ◌&&◌, ◌++◌, nat_lt, not, Bool, true, false, if◌then◌else◌, List, [], ◌∷◌, Option, Some}
use Rattle.std.proofs.Common.{None, Ok, Err, append-nil, append_assoc, reverse, pos, refl, sym, ap, ◌∙◌, subst, arith}
use Rattle.std.specs.List.{filter}
use Rattle.std.specs.Ordering.{int_eq}
use Rattle.std.proofs.lemmas.Bool.Decides.{Decides-int_eq, Decides-ltb}
use Rattle.std.proofs.lemmas.List.{get_or_default, same_lists}
use Rattle.std.specs.Option.{ok_or}
use Rattle.foundation.specs.Results.{◌>>=◌}
use Rattle.edit_model.specs.Corrections as corrections
use Rattle.edit_model.specs.FieldSets.{has_number}
use Rattle.edit_model.specs.Parts.{SurveyParts}
use Rattle.edit_model.specs.Rows.{IsRow, value_of}
use Rattle.edit_model.specs.Trials.{rule_at}
use Rattle.edit_model.specs.declared.rule.Rule.{Rule}
use Rattle.edit_model.specs.declared.value.Value.{Value}
use Rattle.edit_model.specs.declared.value.Value.TheVariants.{Bad, Code, Number}
use Rattle.edit_line.specs.CodeFields.{codes_in}
use Rattle.edit_line.specs.EditSets.{EditsParts}
use Rattle.edit_line.specs.Lines.{HaveShape, LineParts, factor}
use Rattle.edit_line.specs.Reductions.{IsIn}
use Rattle.edit_line.specs.Sets.{are_codes_in}
use Rattle.edit_line.specs.Shapes.{Domain, has_field, number_fields, shape_of}
use Rattle.edit_line.proofs.FactorLaws.{factor-numerical}
use Rattle.edit_line.proofs.Members.{in-all}
use Rattle.edit_line.proofs.ShapeLaws.{same_codes, same_fields}
use Rattle.linear_elim.specs.Systems.{system}
use Rattle.linear_elim.proofs.PointLaws.{number-no_code}
use Rattle.linear_elim.proofs.SystemLaws.{HaveShape-system}
use Rattle.back_subst.specs.GiveFaults.{AllHoldAt, AreAllComputed, AreComputed, AreGivenFirst, IsFirstOut, StopsThere, StopsAtLine, StopsAtRule}
use Rattle.back_subst.specs.Given.{IsGiven, IsImputed, giving_order, number_in, target_of}
use Rattle.back_subst.specs.NumberWalk.{FoundBounds, bound_at, bounds_from, is_bounding, nearest_found, no_bounds, number_result, with_bound}
use Rattle.back_subst.specs.declared.gift.GiveFault.{GiveFault}
use Rattle.back_subst.specs.declared.gift.GiveFault.TheVariants.{Bound, OutOfMemory, Test}
use Rattle.back_subst.specs.inner.Systems.{start_lines}
use Rattle.back_subst.specs.inner.UnderWay.{AreComputedBy}
use Rattle.back_subst.proofs.GivenAlike.{AreNumbersLast, computed-later, computed-part, first-all, first-later, first-part, given-alike, has-code, numbers-last}
use Rattle.back_subst.proofs.ListPlaces.{Places, places}
use Rattle.back_subst.proofs.OrderLaws.{has-filtered}
use Rattle.back_subst.proofs.SameNumbers.{same-number}
use Rattle.back_subst.proofs.StartLaws.{order-there, past-end, row-size}
use Rattle.back_subst.proofs.SystemLines.{system-is}
use Rattle.back_subst.proofs.WalkLaws.{SameBut, has-reverse}

-- One fault alone is shown, and none where all values are given and tested.

-- ---- a field that is not numerical has no bounds

module _ (shape : List Domain) (row : List Value) (f : ℕ) (none : has_field (number_fields shape) f ≡ false) where
  no-bounding : (line : LineParts) → line.shape ≡ shape → is_bounding line row f ≡ false
  no-bounding line is = by (are_codes_in line.sets (codes_in line.shape row)) (int_eq (factor line f) (pos 0)) refl
    where
      by : (a b : Bool) → int_eq (factor line f) (pos 0) ≡ b → (a && not b) ≡ false
      by true true e = refl
      by false true e = refl
      by a false e =
          absurd (cc (sym none ∙ subst (λ (s : List Domain). has_field (number_fields s) f ≡ true) is
          (factor-numerical line f (λ zero. absurd (cc (sym e ∙ (Decides-int_eq (factor line f) (pos 0)).1 zero))))))

  no-ends : (i : ℕ) (lines : List LineParts) (ends : FoundBounds) → ((line : LineParts) → IsIn line lines → line.shape ≡ shape)
      → bounds_from i lines row f ends ≡ Ok ends
  no-ends i [] ends over = refl
  no-ends i (line ∷ lines) ends over =
      ap (λ b. if b then (ok_or (bound_at line row f) i >>= (λ at. bounds_from (suc i) lines row f (with_bound ends line f at i))) else bounds_from (suc i)
      lines row f ends) (no-bounding line (over line (inl refl)))
      ∙ no-ends (suc i) lines ends (λ l there. over l (inr there))

-- ---- the faults

-- each number is what the system of the reduced edits gives
pub computed-inner : (edits : EditsParts) (target : ℕ → Value) (row : List Value) (fields left : List ℕ) → AreComputed edits target row fields left
    → AreComputedBy (start_lines edits) target row fields left
computed-inner edits target row [] left computed = tt
computed-inner edits target row (f ∷ fields) left computed = (
  λ x e.
      let (lines, is, told) = computed.0 x e in
      ap (λ (ls : List LineParts). number_result ls row f (number_in (target f))) (sym (system-is edits (reverse (fields ++ left)) lines is)) ∙ told,
  computed-inner edits target row fields left computed.1,
)

module _ (survey : SurveyParts) (edits : EditsParts) (row : List Value) (changed : ℕ) (donor : Option (List Value))
    (over : HaveShape (shape_of survey.fields) (start_lines edits)) where
  abbrev order : List ℕ
  order = giving_order survey.fields changed

  abbrev shape : List Domain
  shape = shape_of survey.fields

  -- the record's first fields in the order were given values
  record IsGivenTo (given left : List ℕ) (so_far : List Value) : Type 0 where
    pub order_is : giving_order survey.fields changed ≡ given ++ left
    pub fits : IsRow survey.fields so_far
    pub keeps : (f : ℕ) → has_number changed f ≡ false → value_of so_far f ≡ value_of row f
    pub first : AreGivenFirst survey (target_of donor) so_far given left
    pub computed : AreComputedBy (start_lines edits) (target_of donor) so_far given left

  -- the fields of the order, each kind by itself
  last : AreNumbersLast (shape_of survey.fields) (giving_order survey.fields changed)
  last =
      numbers-last (shape_of survey.fields) (reverse (filter (has_number changed) (corrections.code_fields survey.fields)))
      (reverse (filter (has_number changed) (corrections.number_fields survey.fields)))
      (λ k there. ap (λ fs. has_field fs k) (sym (same_codes (corrections.code_fields survey.fields) survey.fields shape refl refl))
      ∙ (has-filtered (has_number changed) (corrections.code_fields survey.fields) k
      (sym (has-reverse k (filter (has_number changed) (corrections.code_fields survey.fields))) ∙ there)).0)
      (λ k there. ap (λ fs. has_field fs k) (sym (same_fields (corrections.number_fields survey.fields) survey.fields shape refl refl))
      ∙ (has-filtered (has_number changed) (corrections.number_fields survey.fields) k
      (sym (has-reverse k (filter (has_number changed) (corrections.number_fields survey.fields))) ∙ there)).0)

  module _ (given left : List ℕ) (a b : List Value) (first : IsGivenTo given left a) (second : IsGivenTo given left b) where
    outside : SameBut (giving_order survey.fields changed) a b
    outside = (row-size survey.fields b second.fits ∙ sym (row-size survey.fields a first.fits), λ i absent. by i absent (has_number changed i) refl)
      where
        past : (i : ℕ) → has_field order i ≡ false → has_number changed i ≡ true → (values : List Value) → IsRow survey.fields values → value_of values i ≡ Bad
        past i absent is values fits = past-end values i (λ below. absurd
            (cc (sym absent ∙ order-there survey changed i (omega (arith, below, row-size survey.fields values fits)) is)))

        by : (i : ℕ) → has_field order i ≡ false → (t : Bool) → has_number changed i ≡ t → value_of b i ≡ value_of a i
        by i absent false e = second.keeps i e ∙ sym (first.keeps i e)
        by i absent true e = past i absent e b second.fits ∙ sym (past i absent e a first.fits)

    alike : SameBut left a b
    alike =
        given-alike survey (start_lines edits) over (target_of donor) a b first.fits second.fits given left
        (subst (λ fs. AreNumbersLast (shape_of survey.fields) fs) first.order_is last) (subst (λ fs. SameBut fs a b) first.order_is outside)
        first.first first.computed second.first second.computed

  part : (given more left : List ℕ) (so_far : List Value) → IsGivenTo (given ++ more) left so_far → IsGivenTo given (more ++ left) so_far
  part given more left so_far way = record {
    order_is = way.order_is ∙ append_assoc given more left;
    fits = way.fits;
    keeps = way.keeps;
    first = first-part survey (start_lines edits) (target_of donor) so_far given more left way.first;
    computed = computed-part survey (start_lines edits) (target_of donor) so_far given more left way.computed;
  }

  -- the giving stopped at a field
  record Stops (given : List ℕ) (f : ℕ) (left : List ℕ) (so_far : List Value) (line : ℕ) : Type 0 where
    pub way : IsGivenTo given (f ∷ left) so_far
    pub out : number_result (system (start_lines edits) (reverse left)) so_far f (number_in (target_of donor f)) ≡ Err line

  module _ (given : List ℕ) (f : ℕ) (left : List ℕ) (so_far : List Value) (line : ℕ) (stops : Stops given f left so_far line) where
    numerical : has_field (number_fields (shape_of survey.fields)) f ≡ true
    numerical = by (has_field (number_fields shape) f) refl
      where
        by : (b : Bool) → has_field (number_fields (shape_of survey.fields)) f ≡ b → b ≡ true
        by true e = refl
        by false e =
            let ends = no-ends shape so_far f e 0 (system (start_lines edits) (reverse left)) no_bounds
            (λ l there. in-all (λ k. k.shape ≡ shape) l (system (start_lines edits) (reverse left))
            (λ j d below. (HaveShape-system shape (start_lines edits) (reverse left) over j d below).same) there) in
            absurd (cc (sym (ap (λ r. r >>= (λ ends. nearest_found ends (number_in (target_of donor f)))) ends) ∙ stops.out))

    numbers : (k : ℕ) → has_field left k ≡ true → has_field (number_fields (shape_of survey.fields)) k ≡ true
    numbers k there = at given (subst (λ fs. AreNumbersLast (shape_of survey.fields) fs) stops.way.order_is last)
      where
        at : (fs : List ℕ) → AreNumbersLast (shape_of survey.fields) (fs ++ f ∷ left) → has_field (number_fields (shape_of survey.fields)) k ≡ true
        at [] h = h.0 numerical k there
        at (g ∷ fs) h = at fs h.1

    told-alike : (new : List Value) → IsGivenTo given (f ∷ left) new
        → number_result (system (start_lines edits) (reverse left)) new f (number_in (target_of donor f)) ≡ Err line
    told-alike new way =
        same-number survey (start_lines edits) over f left numerical numbers so_far new stops.way.fits (alike given (f ∷ left) so_far new stops.way way)
        (number_in (target_of donor f)) ∙ stops.out

    -- so no later field is given a value
    not-later : (more rest : List ℕ) (new : List Value) → left ≡ more ++ rest → IsGivenTo (given ++ f ∷ more) rest new → ⊥
    not-later more rest new left_is way =
        by (value_of new f) refl (first-later survey (start_lines edits) (target_of donor) new given (f ∷ more) rest way.first).0
      where
        here : number_result (system (start_lines edits) (reverse left)) new f (number_in (target_of donor f)) ≡ Err line
        here = told-alike new (subst (λ fs. IsGivenTo given (f ∷ fs) new) (sym left_is) (part given (f ∷ more) rest new way))

        by : (v : Value) → value_of new f ≡ v → IsGiven survey new (f ∷ (more ++ rest)) f (target_of donor f) v → ⊥
        by Bad e none = none
        by (Code c) e is = cc (sym (has-code survey.fields new f way.fits c e) ∙ number-no_code f 0 shape numerical)
        by (Number x) e is =
            let computed = (computed-later survey (start_lines edits) (target_of donor) new given (f ∷ more) rest way.computed).0 x e in
            cc (sym here ∙ ap (λ fs. number_result (system (start_lines edits) (reverse fs)) new f (number_in (target_of donor f))) left_is ∙ computed)

  -- ---- what the faults are

  line-stops : (f line : ℕ) (s : StopsAtLine survey edits row changed donor f line) → Stops s.given f s.left s.so_far line
  line-stops f line s = record {
    way = record {
      order_is = s.order;
      fits = s.fits;
      keeps = s.keeps;
      first = s.first;
      computed = computed-inner edits (target_of donor) s.so_far s.given (f ∷ s.left) s.computed;
    };
    out = let (lines, is, told) = s.stops in ap (λ (ls : List LineParts). number_result ls s.so_far f (number_in (target_of donor f)))
        (sym (system-is edits (reverse s.left) lines is)) ∙ told;
  }

  -- a record that was given all its values
  IsWhole : List Value → Type 0
  IsWhole new = IsGivenTo (giving_order survey.fields changed) [] new

  all-given : (new : List Value) → IsImputed survey row changed donor new → AreAllComputed survey edits changed donor new
      → IsGivenTo (giving_order survey.fields changed) [] new
  all-given new imputed computed = record {
    order_is = sym (append-nil order);
    fits = imputed.fits;
    keeps = imputed.keeps;
    first = first-all survey (start_lines edits) (target_of donor) new order imputed.given;
    computed = computed-inner edits (target_of donor) new order [] computed;
  }

  rule-whole : (rule : ℕ) (s : StopsAtRule survey edits row changed donor rule) → IsGivenTo (giving_order survey.fields changed) [] s.new
  rule-whole rule s = all-given s.new s.imputed s.computed

  line-not_whole : (f line : ℕ) → StopsAtLine survey edits row changed donor f line → (new : List Value)
      → IsGivenTo (giving_order survey.fields changed) [] new → ⊥
  line-not_whole f line s new whole =
      not-later s.given f s.left s.so_far line (line-stops f line s) s.left [] new (sym (append-nil s.left)) (subst (λ fs. IsGivenTo fs [] new) s.order whole)

  one-line : (f line g place : ℕ) → StopsAtLine survey edits row changed donor f line → StopsAtLine survey edits row changed donor g place
      → (f ≡ g) × (line ≡ place)
  one-line f line g place s t = by (places s.given f s.left t.given g t.left (sym s.order ∙ t.order))
    where
      first : Stops s.given f s.left s.so_far line
      first = line-stops f line s

      second : Stops t.given g t.left t.so_far place
      second = line-stops g place t

      by : Places s.given f s.left t.given g t.left → (f ≡ g) × (line ≡ place)
      by (inl (given, here, left)) = (
        here,
        line_same (told-alike s.given f s.left s.so_far line first t.so_far
            (subst (λ (fs : List ℕ). IsGivenTo fs (f ∷ s.left) t.so_far) (sym given)
            (subst (λ (k : ℕ). IsGivenTo t.given (k ∷ s.left) t.so_far) (sym here)
            (subst (λ (fs : List ℕ). IsGivenTo t.given (g ∷ fs) t.so_far) (sym left) second.way))))
            (ap (λ (k : ℕ). number_result (system (start_lines edits) (reverse s.left)) t.so_far k (number_in (target_of donor k))) here
            ∙ ap (λ (fs : List ℕ). number_result (system (start_lines edits) (reverse fs)) t.so_far g (number_in (target_of donor g))) left ∙ second.out),
      )
        where
          line_same : number_result (system (start_lines edits) (reverse s.left)) t.so_far f (number_in (target_of donor f)) ≡ Err line
              → number_result (system (start_lines edits) (reverse s.left)) t.so_far f (number_in (target_of donor f)) ≡ Err place → line ≡ place
          line_same one two = cc
      by (inr (inl (more, is, rest))) =
          absurd (not-later s.given f s.left s.so_far line first more (g ∷ t.left) t.so_far rest
          (subst (λ (fs : List ℕ). IsGivenTo fs (g ∷ t.left) t.so_far) is second.way))
      by (inr (inr (more, is, rest))) =
          absurd (not-later t.given g t.left t.so_far place second more (f ∷ s.left) s.so_far rest
          (subst (λ (fs : List ℕ). IsGivenTo fs (f ∷ s.left) s.so_far) is first.way))

  -- all values are given in one way
  one-whole : (a b : List Value) → IsGivenTo (giving_order survey.fields changed) [] a → IsGivenTo (giving_order survey.fields changed) [] b → b ≡ a
  one-whole a b first second =
      let same = alike order [] a b first second in
      same_lists b a same.0 (λ k d below. get_or_default b k d Bad below ∙ same.1 k refl ∙ get_or_default a k Bad d (omega (arith, below, same.0)))

  -- so one record alone is given
  pub one-gift : (a b : List Value) → IsImputed survey row changed donor a → AreAllComputed survey edits changed donor a
      → IsImputed survey row changed donor b → AreAllComputed survey edits changed donor b → b ≡ a
  one-gift a b first first_computed second second_computed = one-whole a b (all-given a first first_computed) (all-given b second second_computed)

  one-rule : (new : List Value) (r q : ℕ) → IsFirstOut survey new r → IsFirstOut survey new q → r ≡ q
  one-rule new r q first second = by (nat_lt r q) refl (nat_lt q r) refl
    where
      apart : (rule : Rule) → rule_at rule new ≡ None → rule_at rule new ≡ Some true → ⊥
      apart rule none some = absurd (cc (sym none ∙ some))

      by : (l : Bool) → nat_lt r q ≡ l → (m : Bool) → nat_lt q r ≡ m → r ≡ q
      by true l m e = absurd (apart first.tested first.out (second.before r first.tested ((Decides-ltb r q).0 l) first.there))
      by false l true e = absurd (apart second.tested second.out (first.before q second.tested ((Decides-ltb q r).0 e) second.there))
      by false l false e = grind (arith, l, e)

  pub only-fault : (told due : GiveFault) → StopsThere survey edits row changed donor told → StopsThere survey edits row changed donor due → told ≡ due
  only-fault (Bound f line) (Bound g place) s t = let same = one-line f line g place s t in ap (λ n. Bound n line) same.0 ∙ ap (λ n. Bound g n) same.1
  only-fault (Bound f line) (Test rule) s t = absurd (line-not_whole f line s t.new (rule-whole rule t))
  only-fault (Test rule) (Bound f line) s t = absurd (line-not_whole f line t s.new (rule-whole rule s))
  only-fault (Test r) (Test q) s t =
      ap (λ n. Test n) (one-rule s.new r q s.first (subst (λ (new : List Value). IsFirstOut survey new q)
      (one-whole s.new t.new (rule-whole r s) (rule-whole q t)) t.first))
  only-fault OutOfMemory due s t = absurd s
  only-fault told OutOfMemory s t = absurd t

  -- where all values are given and tested, none is shown
  pub no-fault : (new : List Value) → IsRow survey.fields new → ((f : ℕ) → has_number changed f ≡ false → value_of new f ≡ value_of row f)
      → AreGivenFirst survey (target_of donor) new (giving_order survey.fields changed) []
      → AreComputed edits (target_of donor) new (giving_order survey.fields changed) [] → AllHoldAt survey new → (due : GiveFault)
      → StopsThere survey edits row changed donor due → ⊥
  no-fault new fits keeps first computed held due shown = by due shown
    where
      whole : IsGivenTo (giving_order survey.fields changed) [] new
      whole =
          record {
            order_is = sym (append-nil order);
            fits = fits;
            keeps = keeps;
            first = first;
            computed = computed-inner edits (target_of donor) new
                order [] computed;
          }

      by : (due : GiveFault) → StopsThere survey edits row changed donor due → ⊥
      by (Bound f line) s = line-not_whole f line s new whole
      by (Test rule) s =
          let out = subst (λ (values : List Value). IsFirstOut survey values rule) (one-whole new s.new whole (rule-whole rule s)) s.first in
          absurd (cc (sym out.out ∙ held rule out.tested out.there))
      by OutOfMemory none = none

  -- a fault that is told is the only one that is shown
  pub told-fault : (told : GiveFault) → ((f line : ℕ) → told ≡ Bound f line → StopsAtLine survey edits row changed donor f line)
      → ((rule : ℕ) → told ≡ Test rule → StopsAtRule survey edits row changed donor rule)
      → (due : GiveFault) → StopsThere survey edits row changed donor due → (told ≡ due) ⊎ (told ≡ OutOfMemory)
  told-fault (Bound f line) bound test due shown = inl (only-fault (Bound f line) due (bound f line refl) shown)
  told-fault (Test rule) bound test due shown = inl (only-fault (Test rule) due (test rule refl) shown)
  told-fault OutOfMemory bound test due shown = inr refl
