use Rattle.std.proofs.Common.{◌≡◌, ◌<◌, ◌++◌, ℕ, Bool, true, false, nat_lt, List, [], ◌∷◌, Option, Some, None, length, map, reverse, inl, inr, refl, sym, ap}
use Rattle.std.proofs.Common.{◌∙◌, subst, arith}
use Rattle.std.specs.Prelude.{option_map}
use Rattle.std.specs.List.{filter}
use Rattle.std.proofs.lemmas.Bool.Decides.{Decides-ltb}
use Rattle.edit_model.specs.Corrections.{code_fields, number_fields, path_order}
use Rattle.edit_model.specs.FieldSets.{has_number}
use Rattle.edit_model.specs.Parts.{SurveyParts}
use Rattle.edit_model.specs.Rows.{IsRow, value_of}
use Rattle.edit_model.specs.declared.value.Value.{Value}
use Rattle.edit_model.specs.declared.value.Value.TheVariants.{Bad}
use Rattle.edit_line.specs.EditSets.{EditsParts}
use Rattle.edit_line.specs.Lines.{HaveShape}
use Rattle.edit_line.specs.Reductions.{IsIn}
use Rattle.edit_line.specs.Shapes.{has_field, shape_of}
use Rattle.edit_line.proofs.Members.{in-left, in-right}
use Rattle.bound_cert.specs.declared.outcome.GiftFault.{GiftFault}
use Rattle.bound_cert.specs.declared.outcome.GiftFault.TheVariants as fault
use Rattle.bound_cert.specs.declared.outcome.Outcome.{Outcome}
use Rattle.bound_cert.specs.declared.outcome.Outcome.TheVariants as outcome
use Rattle.bound_cert.proofs.Letters.{filter-agree}
use Rattle.edit_paths.specs.Cases.{IsCase, case_of}
use Rattle.edit_paths.proofs.CaseSystems.{start_over}
use Rattle.back_subst.specs.Gifts.{how_of, hows_of, path_of}
use Rattle.back_subst.specs.GiveFaults.{AreAllComputed, AreComputed, StopsThere}
use Rattle.back_subst.specs.Given.{AreGiven, IsImputed, giving_order, target_of}
use Rattle.back_subst.specs.declared.gift.Gift.{Gift}
use Rattle.back_subst.specs.declared.gift.GiveFault.{GiveFault}
use Rattle.back_subst.specs.declared.gift.GiveFault.TheVariants.{Bound, Test}
use Rattle.back_subst.specs.inner.Systems.{start_lines}
use Rattle.back_subst.proofs.FaultLaws.{no-fault, one-gift, only-fault}
use Rattle.back_subst.proofs.GivenAlike.{first-all}
use Rattle.back_subst.proofs.StartLaws.{order-changed, order-there, past-end, row-size}
use Rattle.donor_search.specs.CleanRows.{row_at}
use Rattle.record_ends.specs.Ends.{ComesOf, IsGiftOf, StopsAt, StopsGiving}
use Rattle.record_ends.specs.Laws.{OneEndLaw}

-- A record has one end for a donor.

-- ---- two sets that say the same of all fields

-- two tests with the same answers at a list answer alike at each element
answers-alike : (t u : ℕ → Bool) (fs : List ℕ) → map t fs ≡ map u fs → (f : ℕ) → IsIn f fs → t f ≡ u f
answers-alike t u [] same f there = absurd there
answers-alike t u (g ∷ fs) same f (inl is) = let first : t g ≡ u g = cc in ap t is ∙ first ∙ ap u (sym is)
answers-alike t u (g ∷ fs) same f (inr there) = let rest : map t fs ≡ map u fs = cc in answers-alike t u fs rest f there

module _ (survey : SurveyParts) (a b : ℕ) (same : path_of survey.fields a ≡ path_of survey.fields b) where
  alike : (f : ℕ) → IsIn f (path_order survey.fields) → has_number b f ≡ has_number a f
  alike f there = answers-alike (has_number b) (has_number a) (path_order survey.fields) (sym same) f there

  -- values are given in the same order
  same-order : giving_order survey.fields b ≡ giving_order survey.fields a
  same-order =
      ap (λ (fs : List ℕ). reverse fs ++ reverse (filter (has_number b) (number_fields survey.fields))) codes
      ∙ ap (λ (fs : List ℕ). reverse (filter (has_number a) (code_fields survey.fields)) ++ reverse fs) numbers
    where
      codes : filter (has_number b) (code_fields survey.fields) ≡ filter (has_number a) (code_fields survey.fields)
      codes = filter-agree (has_number b) (has_number a) (code_fields survey.fields)
          (λ f there. alike f (in-right f (number_fields survey.fields) (code_fields survey.fields) there))

      numbers : filter (has_number b) (number_fields survey.fields) ≡ filter (has_number a) (number_fields survey.fields)
      numbers = filter-agree (has_number b) (has_number a) (number_fields survey.fields)
          (λ f there. alike f (in-left f (number_fields survey.fields) (code_fields survey.fields) there))

  -- and it is told alike how each was found
  same-hows : (donor : Option (List Value)) (new : List Value) → hows_of survey b donor new ≡ hows_of survey a donor new
  same-hows donor new = ap (λ (fs : List ℕ). map (λ f. how_of donor f (value_of new f)) fs)
      (filter-agree (has_number b) (has_number a) (path_order survey.fields) alike)

  module _ (row new : List Value) (is_row : IsRow survey.fields row) (fits : IsRow survey.fields new) where
    -- the values outside the one are those outside the other
    same-kept : ((f : ℕ) → has_number b f ≡ false → value_of new f ≡ value_of row f) → (f : ℕ) → has_number a f ≡ false → value_of new f ≡ value_of row f
    same-kept keeps f out = by (nat_lt f (length (shape_of survey.fields))) refl (has_number b f) refl
      where
        by : (within : Bool) → nat_lt f (length (shape_of survey.fields)) ≡ within → (has : Bool) → has_number b f ≡ has → value_of new f ≡ value_of row f
        by within e false none = keeps f none
        by false e true has = past new fits ∙ sym (past row is_row)
          where
            past : (values : List Value) → IsRow survey.fields values → value_of values f ≡ Bad
            past values is = past-end values f (λ below.
                (let within : f < length (shape_of survey.fields) = omega (arith, below, row-size survey.fields values is) in
                absurd (cc (sym e ∙ (Decides-ltb f (length (shape_of survey.fields))).1 within))))
        by true e true has =
            let there = order-there survey b f ((Decides-ltb f (length (shape_of survey.fields))).0 e) has in
            absurd (cc (sym out ∙ order-changed survey a f (ap (λ (fs : List ℕ). has_field fs f) (sym same-order) ∙ there)))

  module _ (edits : EditsParts) (row : List Value) (donor : Option (List Value)) (is_row : IsRow survey.fields row) where
    same-imputed : (new : List Value) → IsImputed survey row b donor new → IsImputed survey row a donor new
    same-imputed new imputed = record {
      fits = imputed.fits;
      keeps = same-kept row new is_row imputed.fits imputed.keeps;
      given = subst (λ (fs : List ℕ). AreGiven survey (target_of donor) new fs) same-order imputed.given;
    }

    same-computed : (new : List Value) → AreAllComputed survey edits b donor new → AreAllComputed survey edits a donor new
    same-computed new computed = subst (λ (fs : List ℕ). AreComputed edits (target_of donor) new fs []) same-order computed

    -- giving stops at the same fault
    same-stop : (stop : GiftFault) → StopsAt survey edits row b donor stop → StopsAt survey edits row a donor stop
    same-stop (fault.Bound field line) s = record {
      given = s.given;
      left = s.left;
      order = sym same-order ∙ s.order;
      so_far = s.so_far;
      fits = s.fits;
      keeps = same-kept row s.so_far is_row s.fits s.keeps;
      first = s.first;
      computed = s.computed;
      stops = s.stops;
    }
    same-stop (fault.Test rule) s = record {
      new = s.new;
      imputed = same-imputed s.new s.imputed;
      computed = same-computed s.new s.computed;
      first = s.first;
    }

-- ---- what follows on an outcome

module _ (survey : SurveyParts) (edits : EditsParts) (row : List Value) (is : IsCase (case_of survey edits row)) (donor : Option (List Value)) where
  over : HaveShape (shape_of survey.fields) (start_lines edits)
  over = start_over (case_of survey edits row) is

  -- as a fault of a call that gives values
  abbrev told-as : GiftFault → GiveFault
  told-as (fault.Bound field line) = Bound field line
  told-as (fault.Test rule) = Test rule

  shown : (changed : ℕ) (stop : GiftFault) → StopsAt survey edits row changed donor stop → StopsThere survey edits row changed donor (told-as stop)
  shown changed (fault.Bound field line) s = s
  shown changed (fault.Test rule) s = s

  told-one : (stop other : GiftFault) → told-as stop ≡ told-as other → stop ≡ other
  told-one (fault.Bound field line) (fault.Bound f place) same = cc
  told-one (fault.Bound field line) (fault.Test rule) same = absurd (cc)
  told-one (fault.Test rule) (fault.Bound field line) same = absurd (cc)
  told-one (fault.Test rule) (fault.Test r) same = cc

  module _ (path : List Bool) where
    one-stop : (stop other : GiftFault) → StopsGiving survey edits row path donor stop → StopsGiving survey edits row path donor other → stop ≡ other
    one-stop stop other s t =
        let stops = same-stop survey s.changed t.changed (s.fields ∙ sym t.fields) edits row donor is.row other t.stops in
        told-one stop other
        (only-fault survey edits row s.changed donor over (told-as stop) (told-as other) (shown s.changed stop s.stops) (shown s.changed other stops))

    one-given : (gift other : Gift) → IsGiftOf survey edits row path donor gift → IsGiftOf survey edits row path donor other → gift ≡ other
    one-given gift other g h = λ i. record { row = rows i; how = hows i }
      where
        same : path_of survey.fields g.changed ≡ path_of survey.fields h.changed
        same = g.fields ∙ sym h.fields

        rows : gift.row ≡ other.row
        rows = one-gift survey edits row g.changed donor over other.row gift.row
            (same-imputed survey g.changed h.changed same edits row donor is.row other.row h.imputed)
            (same-computed survey g.changed h.changed same edits row donor is.row other.row h.computed) g.imputed g.computed

        hows : gift.how ≡ other.how
        hows = g.how ∙ ap (λ (values : List Value). hows_of survey g.changed donor values) rows
            ∙ sym (same-hows survey g.changed h.changed same donor other.row) ∙ sym h.how

    -- values are given, or giving stops, and not both
    not-both : (gift : Gift) (stop : GiftFault) → IsGiftOf survey edits row path donor gift → StopsGiving survey edits row path donor stop → ⊥
    not-both gift stop g s =
        let stops = same-stop survey g.changed s.changed (g.fields ∙ sym s.fields) edits row donor is.row stop s.stops in
        no-fault survey edits row g.changed donor over gift.row g.imputed.fits g.imputed.keeps
        (first-all survey (start_lines edits) (target_of donor) gift.row (giving_order survey.fields g.changed) g.imputed.given) g.computed g.tested
        (told-as stop) (shown g.changed stop stops)

  -- what follows on one outcome is the same
  one-follows : (o : Outcome) (stop : Option GiftFault) (gift : Option Gift) (stop_too : Option GiftFault) (gift_too : Option Gift)
      → ComesOf survey edits row donor o stop gift → ComesOf survey edits row donor o stop_too gift_too → (stop ≡ stop_too) × (gift ≡ gift_too)
  one-follows (outcome.Change path weight cert) None None stop_too gift_too follows too = absurd follows
  one-follows (outcome.Change path weight cert) (Some s) (Some g) stop_too gift_too follows too = absurd follows
  one-follows (outcome.Change path weight cert) None (Some g) None None follows too = absurd too
  one-follows (outcome.Change path weight cert) None (Some g) None (Some h) follows too = (refl, ap (λ x. Some x) (one-given path g h follows too))
  one-follows (outcome.Change path weight cert) None (Some g) (Some t) None follows too = absurd (not-both path g t follows too)
  one-follows (outcome.Change path weight cert) None (Some g) (Some t) (Some h) follows too = absurd too
  one-follows (outcome.Change path weight cert) (Some s) None None None follows too = absurd too
  one-follows (outcome.Change path weight cert) (Some s) None None (Some h) follows too = absurd (not-both path h s too follows)
  one-follows (outcome.Change path weight cert) (Some s) None (Some t) None follows too = (ap (λ x. Some x) (one-stop path s t follows too), refl)
  one-follows (outcome.Change path weight cert) (Some s) None (Some t) (Some h) follows too = absurd too
  one-follows (outcome.Budget path work) stop gift stop_too gift_too follows too =
      let first = nothing stop gift follows in let second = nothing stop_too gift_too too in (first.0 ∙ sym second.0, first.1 ∙ sym second.1)
    where
      nothing : (s : Option GiftFault) (g : Option Gift) → ComesOf survey edits row donor (outcome.Budget path work) s g → (s ≡ None) × (g ≡ None)
      nothing None None c = (refl, refl)
      nothing None (Some g) c = absurd c
      nothing (Some s) None c = absurd c
      nothing (Some s) (Some g) c = absurd c
  one-follows (outcome.Overflow path event) stop gift stop_too gift_too follows too =
      let first = nothing stop gift follows in let second = nothing stop_too gift_too too in (first.0 ∙ sym second.0, first.1 ∙ sym second.1)
    where
      nothing : (s : Option GiftFault) (g : Option Gift) → ComesOf survey edits row donor (outcome.Overflow path event) s g → (s ≡ None) × (g ≡ None)
      nothing None None c = (refl, refl)
      nothing None (Some g) c = absurd c
      nothing (Some s) None c = absurd c
      nothing (Some s) (Some g) c = absurd c
  one-follows (outcome.Contradictory cert) stop gift stop_too gift_too follows too =
      let first = nothing stop gift follows in let second = nothing stop_too gift_too too in (first.0 ∙ sym second.0, first.1 ∙ sym second.1)
    where
      nothing : (s : Option GiftFault) (g : Option Gift) → ComesOf survey edits row donor (outcome.Contradictory cert) s g → (s ≡ None) × (g ≡ None)
      nothing None None c = (refl, refl)
      nothing None (Some g) c = absurd c
      nothing (Some s) None c = absurd c
      nothing (Some s) (Some g) c = absurd c

pub one-end : OneEndLaw
one-end survey edits budget rows row end other is first second same =
    let found : end.proof.outcome ≡ other.proof.outcome = first.outcome ∙ sym second.outcome in
    let values = ap (option_map (row_at rows)) same in
    let follows = subst (λ (donor : Option (List Value)). ComesOf survey edits row donor other.proof.outcome end.proof.gift end.gift) values
    (subst (λ (o : Outcome). ComesOf survey edits row (option_map (row_at rows) end.donor) o end.proof.gift end.gift) found first.follows) in
    let both = one-follows survey edits row is (option_map (row_at rows) other.donor) other.proof.outcome end.proof.gift end.gift other.proof.gift other.gift
    follows second.follows in
    λ i. record { proof = record { outcome = found i; gift = both.0 i }; donor = same i; gift = both.1 i }
