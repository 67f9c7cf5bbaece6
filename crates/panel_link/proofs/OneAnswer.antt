use Rattle.std.proofs.Common.{◌≡◌, ◌++◌, ℕ, Bool, true, false, nat_lt, length, List, [], Some, None, map, reverse, slice_index_or, inl, inr, refl}
use Rattle.std.proofs.Common.{sym, ap, ◌∙◌, subst, arith, ◌<◌}
use Rattle.std.specs.List.{filter}
use Rattle.std.proofs.lemmas.Bool.Decides.{Decides-ltb}
use Rattle.edit_model.specs.Corrections.{code_fields, number_fields, path_order}
use Rattle.edit_model.specs.FieldSets.{has_number}
use Rattle.edit_model.specs.Parts.{SurveyParts}
use Rattle.edit_model.specs.Rows.{IsRow, value_of}
use Rattle.edit_model.specs.declared.value.Value.{Value}
use Rattle.edit_model.specs.declared.value.Value.TheVariants.{Bad}
use Rattle.edit_line.specs.EditSets.{EditsParts}
use Rattle.edit_line.specs.Lines.{HaveShape}
use Rattle.edit_line.specs.Reductions.{IsIn}
use Rattle.edit_line.specs.Shapes.{has_field, place_in, shape_of}
use Rattle.edit_line.proofs.FieldLists.{there-has}
use Rattle.edit_line.proofs.Members.{in-left, in-right}
use Rattle.bound_cert.specs.declared.outcome.GiftFault.{GiftFault}
use Rattle.bound_cert.specs.declared.outcome.GiftFault.TheVariants as fault
use Rattle.bound_cert.specs.declared.outcome.Outcome.{Outcome}
use Rattle.bound_cert.specs.declared.outcome.Outcome.TheVariants as outcome
use Rattle.bound_cert.proofs.Letters.{filter-agree}
use Rattle.edit_paths.specs.Cases.{IsCase, case_of}
use Rattle.edit_paths.specs.Outcomes.{outcome_of}
use Rattle.edit_paths.proofs.CaseSystems.{start_over}
use Rattle.edit_paths.proofs.ChoiceLaws.{word-at}
use Rattle.back_subst.specs.Gifts.{how_of, hows_of, path_of}
use Rattle.back_subst.specs.GiveFaults.{AreAllComputed, AreComputed, StopsThere}
use Rattle.back_subst.specs.Given.{AreGiven, IsImputed, giving_order, target_of}
use Rattle.back_subst.specs.declared.gift.Gift.{Gift}
use Rattle.back_subst.specs.inner.Systems.{start_lines}
use Rattle.back_subst.proofs.FaultLaws.{no-fault, one-gift, only-fault}
use Rattle.back_subst.proofs.GivenAlike.{first-all}
use Rattle.back_subst.proofs.StartLaws.{order-changed, order-there, past-end, row-size}
use Rattle.panel_link.specs.Answers.{FollowsOn, IsGiftAlong, IsLinked, IsLinkedWith, StopsAlong, fault_of}
use Rattle.panel_link.specs.LinkedCorrections.{lacks_value}
use Rattle.panel_link.specs.Pins.{linked_case, linked_edits}
use Rattle.panel_link.specs.declared.linked.Linked.{Linked}
use Rattle.panel_link.specs.declared.linked.Linked.TheVariants as linked

-- There is one answer for a record.

-- ---- two sets that change the fields of one path

module _ (survey : SurveyParts) (a b : ℕ) (same : path_of survey.fields a ≡ path_of survey.fields b) where
  alike : (f : ℕ) → IsIn f (path_order survey.fields) → has_number b f ≡ has_number a f
  alike f there =
      let at = there-has f (path_order survey.fields) there in
      sym (word-at (has_number b) (path_order survey.fields) f false at)
      ∙ ap (λ (w : List Bool). slice_index_or w (place_in (path_order survey.fields) f) false) (sym same)
      ∙ word-at (has_number a) (path_order survey.fields) f false at

  -- values are given in the same order
  same-order : giving_order survey.fields b ≡ giving_order survey.fields a
  same-order =
      ap (λ (fs : List ℕ). reverse fs ++ reverse (filter (has_number b) (number_fields survey.fields))) codes
      ∙ ap (λ (fs : List ℕ). reverse (filter (has_number a) (code_fields survey.fields)) ++ reverse fs) numbers
    where
      codes : filter (has_number b) (code_fields survey.fields) ≡ filter (has_number a) (code_fields survey.fields)
      codes = filter-agree (has_number b) (has_number a) (code_fields survey.fields)
          (λ f there. alike f (in-right f (number_fields survey.fields) (code_fields survey.fields) there))

      numbers : filter (has_number b) (number_fields survey.fields) ≡ filter (has_number a) (number_fields survey.fields)
      numbers = filter-agree (has_number b) (has_number a) (number_fields survey.fields)
          (λ f there. alike f (in-left f (number_fields survey.fields) (code_fields survey.fields) there))

  -- and it is told alike how each was found
  same-hows : (new : List Value) → hows_of survey b None new ≡ hows_of survey a None new
  same-hows new = ap (λ (fs : List ℕ). map (λ f. how_of None f (value_of new f)) fs)
      (filter-agree (has_number b) (has_number a) (path_order survey.fields) alike)

  module _ (row : List Value) (is_row : IsRow survey.fields row) where
    -- the values outside the one are those outside the other
    same-kept : (new : List Value) → IsRow survey.fields new → ((f : ℕ) → has_number b f ≡ false → value_of new f ≡ value_of row f)
        → (f : ℕ) → has_number a f ≡ false → value_of new f ≡ value_of row f
    same-kept new fits keeps f out = by (nat_lt f (length (shape_of survey.fields))) refl (has_number b f) refl
      where
        by : (within : Bool) → nat_lt f (length (shape_of survey.fields)) ≡ within → (has : Bool) → has_number b f ≡ has → value_of new f ≡ value_of row f
        by within e false none = keeps f none
        by false e true has = past new fits ∙ sym (past row is_row)
          where
            past : (values : List Value) → IsRow survey.fields values → value_of values f ≡ Bad
            past values is = past-end values f (λ below.
                let within : f < length (shape_of survey.fields) = omega (arith, below, row-size survey.fields values is) in
                absurd (cc (sym e ∙ (Decides-ltb f (length (shape_of survey.fields))).1 within)))
        by true e true has =
            let there = order-there survey b f ((Decides-ltb f (length (shape_of survey.fields))).0 e) has in
            absurd (cc (sym out ∙ order-changed survey a f (ap (λ (fs : List ℕ). has_field fs f) (sym same-order) ∙ there)))

    module _ (edits : EditsParts) where
      same-imputed : (new : List Value) → IsImputed survey row b None new → IsImputed survey row a None new
      same-imputed new imputed = record {
        fits = imputed.fits;
        keeps = same-kept new imputed.fits imputed.keeps;
        given = subst (λ (fs : List ℕ). AreGiven survey (target_of None) new fs) same-order imputed.given;
      }

      same-computed : (new : List Value) → AreAllComputed survey edits b None new → AreAllComputed survey edits a None new
      same-computed new computed = subst (λ (fs : List ℕ). AreComputed edits (target_of None) new fs []) same-order computed

      -- giving stops at the same fault
      same-stop : (at : GiftFault) → StopsThere survey edits row b None (fault_of at) → StopsThere survey edits row a None (fault_of at)
      same-stop (fault.Bound field line) s = record {
        given = s.given;
        left = s.left;
        order = sym same-order ∙ s.order;
        so_far = s.so_far;
        fits = s.fits;
        keeps = same-kept s.so_far s.fits s.keeps;
        first = s.first;
        computed = s.computed;
        stops = s.stops;
      }
      same-stop (fault.Test rule) s = record {
        new = s.new;
        imputed = same-imputed s.new s.imputed;
        computed = same-computed s.new s.computed;
        first = s.first;
      }

-- ---- what follows on an outcome

one-fault : (at other : GiftFault) → fault_of at ≡ fault_of other → at ≡ other
one-fault (fault.Bound field line) (fault.Bound f place) same = cc
one-fault (fault.Bound field line) (fault.Test rule) same = absurd (cc)
one-fault (fault.Test rule) (fault.Bound field line) same = absurd (cc)
one-fault (fault.Test rule) (fault.Test r) same = cc

module _ (survey : SurveyParts) (edits : EditsParts) (row : List Value) (is : IsCase (case_of survey edits row)) where
  over : HaveShape (shape_of survey.fields) (start_lines edits)
  over = start_over (case_of survey edits row) is

  module _ (path : List Bool) where
    one-stop : (at other : GiftFault) → StopsAlong survey edits row path at → StopsAlong survey edits row path other → at ≡ other
    one-stop at other s t =
        one-fault at other (only-fault survey edits row s.changed None over (fault_of at) (fault_of other) s.stops
        (same-stop survey s.changed t.changed (s.fields ∙ sym t.fields) row is.row edits other t.stops))

    one-given : (gift other : Gift) → IsGiftAlong survey edits row path gift → IsGiftAlong survey edits row path other → gift ≡ other
    one-given gift other g h = λ i. record { row = rows i; how = hows i }
      where
        same : path_of survey.fields g.changed ≡ path_of survey.fields h.changed
        same = g.fields ∙ sym h.fields

        rows : gift.row ≡ other.row
        rows = one-gift survey edits row g.changed None over other.row gift.row
            (same-imputed survey g.changed h.changed same row is.row edits other.row h.imputed)
            (same-computed survey g.changed h.changed same row is.row edits other.row h.computed) g.imputed g.computed

        hows : gift.how ≡ other.how
        hows = g.how ∙ ap (λ (values : List Value). hows_of survey g.changed None values) rows
            ∙ sym (same-hows survey g.changed h.changed same other.row) ∙ sym h.how

    -- values are given, or giving stops, and not both
    not-both : (gift : Gift) (at : GiftFault) → IsGiftAlong survey edits row path gift → StopsAlong survey edits row path at → ⊥
    not-both gift at g s =
        no-fault survey edits row g.changed None over gift.row g.imputed.fits g.imputed.keeps
        (first-all survey (start_lines edits) (target_of None) gift.row (giving_order survey.fields g.changed) g.imputed.given) g.computed g.tested
        (fault_of at) (same-stop survey g.changed s.changed (g.fields ∙ sym s.fields) row is.row edits at s.stops)

  pub one-follows : (o : Outcome) (answer other : Linked) → FollowsOn survey edits row o answer → FollowsOn survey edits row o other → other ≡ answer
  one-follows (outcome.Change path weight cert) answer other (inl (gift, g, told)) (inl (gift_too, h, also)) =
      also ∙ ap (λ (x : Gift). linked.Change path weight cert x) (one-given path gift_too gift h g) ∙ sym told
  one-follows (outcome.Change path weight cert) answer other (inl (gift, g, told)) (inr (at, s, also)) = absurd (not-both path gift at g s)
  one-follows (outcome.Change path weight cert) answer other (inr (at, s, told)) (inl (gift, g, also)) = absurd (not-both path gift at g s)
  one-follows (outcome.Change path weight cert) answer other (inr (at, s, told)) (inr (at_too, t, also)) =
      also ∙ ap (λ (x : GiftFault). linked.Stopped (record { outcome = outcome.Change path weight cert; gift = Some x }))
      (one-stop path at_too at t s) ∙ sym told
  one-follows (outcome.Budget path work) answer other told also = also ∙ sym told
  one-follows (outcome.Overflow path event) answer other told also = also ∙ sym told
  one-follows (outcome.Contradictory cert) answer other told also = also ∙ sym told

pub one-answer : (survey : SurveyParts) (row : List Value) (fixed budget : ℕ) (answer other : Linked) → IsCase (linked_case survey row fixed)
    → IsLinked survey row fixed budget answer → IsLinked survey row fixed budget other → other ≡ answer
one-answer survey row fixed budget answer other is = by (lacks_value survey row fixed)
  where
    by : (b : Bool) → IsLinkedWith b survey row fixed budget answer → IsLinkedWith b survey row fixed budget other → other ≡ answer
    by true told also = also ∙ sym told
    by false told also = one-follows survey (linked_edits survey row fixed) row is (outcome_of (linked_case survey row fixed) budget) answer other told also
