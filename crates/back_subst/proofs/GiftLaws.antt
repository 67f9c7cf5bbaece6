use Rattle.std.proofs.Common.{◌≡◌, ◌<◌, ◌≤◌, ◌==◌, ◌||◌, ◌++◌, [], ◌∷◌, ℕ, true, false, List, All, Option, Ok, length, reverse, refl, sym, ap, ◌∙◌, subst}
use Rattle.std.specs.List.{filter}
use Rattle.std.proofs.lemmas.List.{append-nil, append_assoc, reverse-append}
use Rattle.edit_model.proofs.NameLemmas.{false_unless}
use Rattle.edit_model.specs.Corrections as corrections
use Rattle.edit_model.specs.FieldSets.{has_number}
use Rattle.edit_model.specs.Parts.{SurveyParts}
use Rattle.edit_model.specs.declared.field.Field.{Field}
use Rattle.edit_model.specs.Rows.{IsRow}
use Rattle.edit_model.specs.declared.value.Value.{Value}
use Rattle.edit_model.proofs.OrderLaws.{numbers-below}
use Rattle.edit_line.specs.EditSets.{EditsParts}
use Rattle.edit_line.specs.Lines.{LineParts}
use Rattle.edit_line.specs.Shapes.{code_fields, has_field, shape_of}
use Rattle.edit_line.specs.declared.derived.Derived.{Derived}
use Rattle.edit_line.proofs.BoolLaws.{or_true}
use Rattle.edit_line.proofs.FieldLists.{has-there, there-has}
use Rattle.edit_line.proofs.Members.{all-in, in-all}
use Rattle.linear_elim.specs.Systems.{system_of}
use Rattle.linear_elim.proofs.PointLaws.{number-no_code}
use Rattle.back_subst.specs.GiveFaults.{AreComputed, StopsAtLine}
use Rattle.back_subst.specs.Given.{IsImputed, giving_order, number_in, target_of}
use Rattle.back_subst.specs.NumberWalk.{number_result}
use Rattle.back_subst.specs.inner.Systems.{start_lines}
use Rattle.back_subst.specs.inner.UnderWay.{AreComputedBy, AreOrders, IsUnderWay, StopsAmong}
use Rattle.back_subst.proofs.OrderLaws.{has-filtered, order-categorical}
use Rattle.back_subst.proofs.StartLaws.{order-changed}
use Rattle.back_subst.proofs.SystemLines.{system-first, system-is}
use Rattle.back_subst.proofs.GivenAlike.{has-number}
use Rattle.back_subst.proofs.UnderWayLaws.{all-given, own-there}
use Rattle.back_subst.proofs.WalkLaws.{has-reverse}

-- What is known when all values are given, or the giving stops.

-- what holds of the fields of a list holds of those that are chosen
all-chosen : (P : ℕ → Type 0) (set : ℕ) (fields : List ℕ) → All P fields → All P (reverse (filter (has_number set) fields))
all-chosen P set fields all = all-in P (reverse (filter (has_number set) fields)) (λ f there.
    in-all P f fields all (has-there f fields (has-filtered (has_number set) fields f
    (sym (has-reverse f (filter (has_number set) fields)) ∙ there-has f (reverse (filter (has_number set) fields)) there)).0))

-- the changed fields of each kind, the last first
pub orders-are : (fields : List Field) (changed : ℕ) (codes numbers : List ℕ) → length fields ≤ 64
    → codes ≡ reverse (filter (has_number changed) (corrections.code_fields fields))
    → numbers ≡ reverse (filter (has_number changed) (corrections.number_fields fields))
    → AreOrders fields codes numbers
orders-are fields changed codes numbers few codes_are numbers_are = record {
  changed = changed;
  codes_small =
      subst (λ fs. All (λ f. f < 64) fs) (sym codes_are)
      (all-chosen (λ f. f < 64) changed (corrections.code_fields fields) (numbers-below _ 64 fields (corrections.code_fields fields) few refl));
  numbers_small =
      subst (λ fs. All (λ f. f < 64) fs) (sym numbers_are)
      (all-chosen (λ f. f < 64) changed (corrections.number_fields fields) (numbers-below _ 64 fields (corrections.number_fields fields) few refl));
  codes_are = codes_are;
  numbers_are = numbers_are;
}

pub orders-with : (fields : List Field) (changed : ℕ) (codes numbers : List ℕ) → length fields ≤ 64
    → codes ≡ reverse (filter (has_number changed) (corrections.code_fields fields))
    → numbers ≡ reverse (filter (has_number changed) (corrections.number_fields fields))
    → (orders : AreOrders fields codes numbers) × (orders.changed ≡ changed)
unfolding orders-are
orders-with fields changed codes numbers few codes_are numbers_are = (orders-are fields changed codes numbers few codes_are numbers_are, refl)

pub order-parts : (fields : List Field) (changed : ℕ) (codes numbers : List ℕ)
    → codes ≡ reverse (filter (has_number changed) (corrections.code_fields fields))
    → numbers ≡ reverse (filter (has_number changed) (corrections.number_fields fields))
    → giving_order fields changed ≡ codes ++ numbers
order-parts fields changed codes numbers codes_are numbers_are =
    ap (λ fs. fs ++ reverse (filter (has_number changed) (corrections.number_fields fields))) (sym codes_are) ∙ ap (λ fs. codes ++ fs) (sym numbers_are)

-- a list that was read, by the list that it was made from
pub chosen-read : (set : ℕ) (read items fields declared : List ℕ) → read ≡ items → items ≡ reverse (filter (has_number set) fields) → fields ≡ declared
    → read ≡ reverse (filter (has_number set) declared)
chosen-read set read items fields declared first second third = first ∙ second ∙ ap (λ fs. reverse (filter (has_number set) fs)) third

-- ---- the numbers by the systems of the edits

module _ (edits : EditsParts) (target : ℕ → Value) where
  -- where no number of the system of a whole order leaves the range, none does in those of its parts
  computed-numbers : (done fields left : List ℕ) (all : List Derived) → system_of edits.lines (reverse (done ++ (fields ++ left))) ≡ Ok all
      → (row : List Value) → AreComputedBy (start_lines edits) target row fields left → AreComputed edits target row fields left
  computed-numbers done [] left all made row computed = tt
  computed-numbers done (f ∷ fields) left all made row computed = (
    λ x e.
        let (lines, is) = system-first edits (reverse (fields ++ left)) (reverse (done ++ f ∷ [])) all
        (ap (λ fs. system_of edits.lines fs) (sym (reversed done f (fields ++ left))) ∙ made) in (
          lines,
          is,
          ap (λ (ls : List LineParts). number_result ls row f (number_in (target f))) (system-is edits (reverse (fields ++ left)) lines is)
              ∙ computed.0 x e,
        ),
    computed-numbers (done ++ f ∷ []) fields left all (ap (λ fs. system_of edits.lines (reverse fs)) (append_assoc done (f ∷ []) (fields ++ left)) ∙ made)
        row computed.1,
  )
    where
      reversed : (done : List ℕ) (f : ℕ) (rest : List ℕ) → reverse (done ++ f ∷ rest) ≡ reverse rest ++ reverse (done ++ f ∷ [])
      reversed done f rest = ap (λ fs. reverse fs) (sym (append_assoc done (f ∷ []) rest)) ∙ reverse-append (done ++ f ∷ []) rest

  -- no categorical field has a number
  pub computed-outer : (fields : List Field) (codes numbers : List ℕ) (row : List Value) → IsRow fields row → (first left : List ℕ)
      → numbers ≡ first ++ left → ((k : ℕ) → has_field codes k ≡ true → has_field (code_fields (shape_of fields)) k ≡ true)
      → (all : List Derived) → system_of edits.lines (reverse numbers) ≡ Ok all → AreComputedBy (start_lines edits) target row first left
      → AreComputed edits target row (codes ++ first) left
  computed-outer fields [] numbers row is_row first left numbers_are codes_are all made computed =
      computed-numbers [] first left all (ap (λ fs. system_of edits.lines (reverse fs)) (sym numbers_are) ∙ made) row computed
  computed-outer fields (f ∷ codes) numbers row is_row first left numbers_are codes_are all made computed = (
    λ x e. absurd (cc (sym (codes_are f (own-there f codes)) ∙ number-no_code f 0 (shape_of fields) (has-number fields row f is_row x e))),
    computed-outer fields codes numbers row is_row first left numbers_are (λ k there. codes_are k (ap (λ b. (f == k) || b) there ∙ or_true (f == k))) all
        made computed,
  )

module _ (survey : SurveyParts) (row : List Value) (changed : ℕ) (donor : Option (List Value)) where
  abbrev order : List ℕ
  order = giving_order survey.fields changed

  not-there : (f : ℕ) → has_number changed f ≡ false → has_field order f ≡ false
  not-there f unchanged = false_unless (has_field order f) (λ e. absurd (cc (sym unchanged ∙ order-changed survey changed f e)))

  -- after the last value
  pub imputed-from : (edits : List LineParts) (new : List Value)
      → IsUnderWay survey edits (target_of donor) row (giving_order survey.fields changed) [] new → IsImputed survey row changed donor new
  imputed-from edits new way = record {
    fits = way.is_row;
    keeps = λ f unchanged. way.keeps f (ap (λ fs. has_field fs f) (append-nil order) ∙ not-there f unchanged);
    given = all-given survey (target_of donor) new order way.first;
  }

  -- each number is what the formulas give
  pub whole-computed : (edits : EditsParts) (codes numbers : List ℕ) (new : List Value) → IsRow survey.fields new → AreOrders survey.fields codes numbers
      → giving_order survey.fields changed ≡ codes ++ numbers → ((all : List Derived) × (system_of edits.lines (reverse numbers) ≡ Ok all))
      → AreComputedBy (start_lines edits) (target_of donor) new numbers [] → AreComputed edits (target_of donor) new (giving_order survey.fields changed) []
  whole-computed edits codes numbers new is_row orders order_is (all, made) computed =
      subst (λ fs. AreComputed edits (target_of donor) new fs []) (sym order_is)
      (computed-outer edits (target_of donor) survey.fields codes numbers new is_row numbers [] (sym (append-nil numbers))
      (λ k there. order-categorical survey.fields codes numbers orders k there) all made computed)

  -- where the giving stops among the numbers
  pub stops-from : (edits : EditsParts) (codes numbers : List ℕ) (field line : ℕ) → AreOrders survey.fields codes numbers
      → giving_order survey.fields changed ≡ codes ++ numbers → ((all : List Derived) × (system_of edits.lines (reverse numbers) ≡ Ok all))
      → StopsAmong survey (start_lines edits) (target_of donor) row codes numbers field line → StopsAtLine survey edits row changed donor field line
  stops-from edits codes numbers field line orders order_is (all, made) stop =
      let (lines, is) = system-first edits (reverse stop.rest) (reverse (stop.first ++ field ∷ [])) all
      (ap (λ fs. system_of edits.lines fs) (sym reversed) ∙ made) in
      record {
        given = codes ++ stop.first;
        left = stop.rest;
        order = whole;
        so_far = stop.so_far;
        fits = stop.way.is_row;
        keeps = λ f unchanged. stop.way.keeps f (ap (λ fs. has_field fs f) (sym whole) ∙ not-there f unchanged);
        first = stop.way.first;
        computed = computed-outer edits (target_of donor) survey.fields codes numbers stop.so_far stop.way.is_row stop.first (field ∷ stop.rest)
            stop.order_is (λ k there. order-categorical survey.fields codes numbers orders k there) all made stop.computed;
        stops = (
          lines,
          is,
          ap (λ (ls : List LineParts). number_result ls stop.so_far field (number_in (target_of donor field)))
              (system-is edits (reverse stop.rest) lines is) ∙ stop.stops,
        );
      }
    where
      whole : order ≡ (codes ++ stop.first) ++ field ∷ stop.rest
      whole = order_is ∙ ap (λ fs. codes ++ fs) stop.order_is ∙ sym (append_assoc codes stop.first (field ∷ stop.rest))

      reversed : reverse numbers ≡ reverse stop.rest ++ reverse (stop.first ++ field ∷ [])
      reversed =
          ap (λ fs. reverse fs) (stop.order_is ∙ sym (append_assoc stop.first (field ∷ []) stop.rest)) ∙ reverse-append (stop.first ++ field ∷ []) stop.rest
