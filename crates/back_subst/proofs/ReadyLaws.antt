use Rattle.std.proofs.Common.{◌≡◌, ◌<◌, ◌≤◌, ◌+◌, ◌||◌, ◌++◌, [], ℕ, not, nat_lt, Bool, true, false, if◌then◌else◌, List, Result, Ok, Err, length}
use Rattle.std.proofs.Common.{map, reverse, refl, sym, ap, ◌∙◌, subst, arith}
use Rattle.std.specs.List.{filter}
use Rattle.std.proofs.lemmas.List.{length-map, reverse-reverse}
use Rattle.edit_model.proofs.NameLemmas.{false_unless}
use Rattle.edit_model.specs.Corrections as corrections
use Rattle.edit_model.specs.Corrections.{path_order}
use Rattle.edit_model.specs.FieldSets.{has_number}
use Rattle.edit_model.specs.Parts.{SurveyParts}
use Rattle.edit_model.specs.Points.{Point}
use Rattle.edit_model.specs.Rows.{IsRow, value_of}
use Rattle.edit_model.specs.declared.field.Field.{Field}
use Rattle.edit_model.specs.declared.value.Value.{Value}
use Rattle.edit_model.specs.declared.value.Value.TheVariants.{Bad}
use Rattle.edit_model.proofs.OrderLaws.{order-length}
use Rattle.edit_model.proofs.RowLaws.{row-length}
use Rattle.edit_line.specs.EditSets.{EditsParts, base_lines}
use Rattle.edit_line.specs.Lines.{AllHold, HaveShape, LineParts}
use Rattle.edit_line.specs.Reductions.{reduce_derived}
use Rattle.edit_line.specs.Shapes.{code_fields, domain_of, has_field, number_fields, shape_of}
use Rattle.edit_line.specs.declared.derived.Derived.{Derived}
use Rattle.edit_line.proofs.FieldLists.{has-filter}
use Rattle.edit_line.proofs.ShapeLaws.{same_codes, same_fields}
use Rattle.linear_elim.specs.Systems.{SystemOverflow, system, system_of}
use Rattle.linear_elim.proofs.FoldLaws.{start-same}
use Rattle.categ_combine.specs.BoxLists.{sets_of}
use Rattle.categ_combine.specs.FailingBoxes.{LineFault, failing_boxes, failing_from}
use Rattle.categ_combine.specs.declared.box_from.BoxFrom.{BoxFrom}
use Rattle.categ_combine.proofs.FailingLaws.{failing-sets}
use Rattle.bound_cert.specs.Paths.{changes, keeps, keeps_bad}
use Rattle.edit_paths.specs.Cases.{SearchCase, IsCase, case_of}
use Rattle.edit_paths.specs.Paths.{AgreesAlong, changed_numbers, field_count, number_count}
use Rattle.edit_paths.specs.States.{first_failing, state_with_boxes, state_with_system}
use Rattle.edit_paths.specs.declared.state.PathState.TheVariants.{ClosedBad, Open}
use Rattle.edit_paths.proofs.CaseSystems.{start_over}
use Rattle.edit_paths.proofs.ChildLaws.{chosen-changed}
use Rattle.edit_paths.proofs.ChoiceLaws.{word-at}
use Rattle.edit_paths.proofs.LetterLaws.{code-field, count-kinds, number-field}
use Rattle.edit_paths.proofs.OpenPaths.{open-point}
use Rattle.back_subst.specs.Allowed.{AgreesBut, Completes}
use Rattle.back_subst.specs.Gifts.{CanGive, path_of}
use Rattle.back_subst.specs.Given.{giving_order}
use Rattle.back_subst.specs.inner.Bounds.{DecideFor}
use Rattle.back_subst.specs.inner.Systems.{start_lines}
use Rattle.back_subst.specs.inner.UnderWay.{AreCodesToGive, AreOrders, IsUnderWay}
use Rattle.back_subst.proofs.CoverCounts.{few-pairs}
use Rattle.back_subst.proofs.StartLaws.{in-order, order-changed, order-there, start-way}
use Rattle.back_subst.proofs.SystemLines.{system-is}
use Rattle.back_subst.proofs.WalkLaws.{has-reverse}

-- What an open path tells before values are given.

module _ (survey : SurveyParts) (edits : EditsParts) (row : List Value) (changed : ℕ) (is : IsCase (case_of survey edits row))
    (can : CanGive survey edits row changed) where
  abbrev c : SearchCase
  c = case_of survey edits row

  abbrev path : List Bool
  path = path_of survey.fields changed

  abbrev order : List ℕ
  order = giving_order survey.fields changed

  complete : length path ≡ field_count c
  complete = length-map (path_order survey.fields) (has_number changed) ∙ order-length survey.fields

  shape-length : length (shape_of survey.fields) ≡ length survey.fields
  shape-length = length-map survey.fields (λ (field : Field). domain_of field.kind)

  changes-is : (f : ℕ) → has_field (path_order survey.fields) f ≡ true → changes survey.fields path f ≡ has_number changed f
  changes-is f there = word-at (has_number changed) (path_order survey.fields) f false there

  keeps-is : (f : ℕ) → has_field (path_order survey.fields) f ≡ true → keeps survey.fields path f ≡ not (has_number changed f)
  keeps-is f there = ap not (word-at (has_number changed) (path_order survey.fields) f true there)

  agrees-order : (q : Point) → AgreesAlong c path q → AgreesBut order row q
  agrees-order q agrees f within absent =
      agrees f there (keeps-is f there ∙ ap not unchanged)
    where
      there : has_field (path_order survey.fields) f ≡ true
      there = in-order survey.fields f (omega (arith, within, row-length survey.fields row can.is_row))

      unchanged : has_number changed f ≡ false
      unchanged =
          false_unless (has_number changed f) (λ e. absurd (cc
          (sym absent ∙ order-there survey changed f (omega (arith, within, row-length survey.fields row can.is_row, shape-length)) e)))

  -- some correction has the record's values at all other fields
  pub possible : (p : Point) × Completes survey row (giving_order survey.fields changed) p
  possible = let (q, meets, agrees) = open-point c is path complete can.path in (q, record { correction = can.sound q meets; agrees = agrees-order q agrees })

  start-hold : (p : Point) → (AllHold (start_lines edits) p → AllHold (map (λ (e : ℕ × LineParts). e.1) edits.lines) p)
      × (AllHold (map (λ (e : ℕ × LineParts). e.1) edits.lines) p → AllHold (start_lines edits) p)
  start-hold p = let both = start-same (shape_of survey.fields) edits.lines (reduce_derived (base_lines edits.lines)) is.edits.edits refl p in (both.0, both.1)

  -- and the edits decide which points are corrections
  pub decide : DecideFor survey (start_lines edits) row (giving_order survey.fields changed)
  decide = record {
    sound = λ p codes holds. can.sound p (record { codes = codes; edits = (start-hold p).0 holds });
    complete = λ p correction agrees.
        (start-hold p).1 (can.complete p correction (λ f within unchanged. agrees f within
        (false_unless (has_field order f) (λ e. absurd (cc (sym unchanged ∙ order-changed survey changed f e))))));
  }

  pub over : HaveShape (shape_of survey.fields) (start_lines edits)
  over = start_over c is

  -- ---- the system, and its boxes

  pub record AreInRange : Type 0 where
    pub lines : List Derived
    pub system : system_of edits.lines (changed_numbers c path) ≡ Ok lines
    pub boxes : List BoxFrom
    pub made : failing_from 0 lines row [] ≡ Ok boxes

  pub in-range : AreInRange
  in-range = by_bad (keeps_bad survey.fields row path) can.path
    where
      at_boxes : (lines : List Derived) → system_of edits.lines (changed_numbers c path) ≡ Ok lines → (r : Result (List BoxFrom) LineFault)
          → failing_from 0 lines row [] ≡ r → state_with_boxes c path lines r ≡ Open → AreInRange
      at_boxes lines system (Err fault) told h = absurd (cc)
      at_boxes lines system (Ok boxes) told h = record { lines = lines; system = system; boxes = boxes; made = told }

      at_system : (r : Result (List Derived) SystemOverflow) → system_of edits.lines (changed_numbers c path) ≡ r → state_with_system c path r ≡ Open
          → AreInRange
      at_system (Err o) system h = absurd (cc)
      at_system (Ok lines) system h = by (nat_lt (length path) (number_count c)) refl h
        where
          all : number_count c ≤ length path
          all = omega (arith, complete, count-kinds c)

          by : (b : Bool) → nat_lt (length path) (number_count c) ≡ b
              → (if b then first_failing c path 0 lines else state_with_boxes c path lines (failing_from 0 lines row [])) ≡ Open → AreInRange
          by true e h = absurd (grind (arith, e, all))
          by false e h = at_boxes lines system (failing_from 0 lines row []) refl h

      by_bad : (b : Bool) → (if b then ClosedBad else state_with_system c path (system_of edits.lines (changed_numbers c path))) ≡ Open → AreInRange
      by_bad true h = absurd (cc)
      by_bad false h = at_system (system_of edits.lines (changed_numbers c path)) refl h

  module _ (numbers : List ℕ) (numbers_are : numbers ≡ reverse (filter (has_number changed) (corrections.number_fields survey.fields))) where
    chosen : reverse numbers ≡ changed_numbers c path
    chosen =
        ap (λ fs. reverse fs) numbers_are ∙ reverse-reverse (filter (has_number changed) (corrections.number_fields survey.fields))
        ∙ ap (λ fs. filter (has_number changed) fs) (same_fields (corrections.number_fields survey.fields) survey.fields (shape_of survey.fields) refl refl)
        ∙ chosen-changed c path changed (λ f there. sym (changes-is f (number-field c f there)))

    -- no number of the system of the changed numerical fields leaves the range
    pub system-made : (lines : List Derived) × (system_of edits.lines (reverse numbers) ≡ Ok lines)
    system-made = (in-range.lines, ap (λ fs. system_of edits.lines fs) chosen ∙ in-range.system)

    -- and none of its sums at the record
    boxes-made : (lines : List LineParts) → lines ≡ system (start_lines edits) (reverse numbers) → failing_boxes lines row ≡ Ok (sets_of in-range.boxes)
    boxes-made lines are =
        ap (λ (ls : List LineParts). failing_boxes ls row)
        (are ∙ ap (λ fs. system (start_lines edits) fs) chosen ∙ sym (system-is edits (changed_numbers c path) in-range.lines in-range.system))
        ∙ failing-sets in-range.lines row in-range.boxes in-range.made

    module _ (codes : List ℕ) (orders : AreOrders survey.fields codes numbers) (same : orders.changed ≡ changed) (target : ℕ → Value) (blank : List Value)
        (is_blank : IsRow survey.fields blank)
        (bad : (f : ℕ) → has_number changed f ≡ true → value_of blank f ≡ Bad)
        (kept : (f : ℕ) → has_number changed f ≡ false → value_of blank f ≡ value_of row f) where
      order-is : order ≡ codes ++ numbers
      order-is =
          ap (λ fs. fs ++ reverse (filter (has_number changed) (corrections.number_fields survey.fields)))
          (sym (orders.codes_are ∙ ap (λ n. reverse (filter (has_number n) (corrections.code_fields survey.fields))) same))
          ∙ ap (λ fs. codes ++ fs) (sym numbers_are)

      pub way : IsUnderWay survey (start_lines edits) target row [] (codes ++ numbers) blank
      way =
          subst (λ fs. IsUnderWay survey (start_lines edits) target row [] fs blank) order-is
          (start-way survey changed (start_lines edits) target row blank can.is_row is_blank bad kept decide possible.0 possible.1)

      -- where there are no codes to give, numbers can be given
      pub no-codes : codes ≡ [] → IsUnderWay survey (start_lines edits) target row codes numbers blank
      no-codes none =
          subst (λ fs. IsUnderWay survey (start_lines edits) target row fs numbers blank) (sym none)
          (subst (λ fs. IsUnderWay survey (start_lines edits) target row [] (fs ++ numbers) blank) none way)

      -- the codes change just where the path does
      codes-changed : (f : ℕ) → has_field (code_fields (shape_of survey.fields)) f ≡ true → has_field codes f ≡ changes survey.fields path f
      codes-changed f there =
          ap (λ fs. has_field fs f) (orders.codes_are ∙ ap (λ n. reverse (filter (has_number n) (corrections.code_fields survey.fields))) same
          ∙ ap (λ fs. reverse (filter (has_number changed) fs))
          (same_codes (corrections.code_fields survey.fields) survey.fields (shape_of survey.fields) refl refl))
          ∙ has-reverse f (filter (has_number changed) (code_fields (shape_of survey.fields)))
          ∙ has-filter (has_number changed) f (code_fields (shape_of survey.fields)) there ∙ sym (changes-is f (code-field c f there))

      module _ (lines : List LineParts) (are : lines ≡ system (start_lines edits) (reverse numbers)) where
        -- codes can be given to the record without its changed values
        pub codes-ready : AreCodesToGive survey target lines codes blank
        codes-ready = record {
          row = row;
          numbers = numbers;
          edits = start_lines edits;
          orders = orders;
          over = over;
          lines_are = are;
          boxes = sets_of in-range.boxes;
          made = boxes-made lines are;
          few = few-pairs c path complete codes codes-changed can.few in-range.lines in-range.boxes in-range.system in-range.made;
          way = way;
        }

        -- and when they are, numbers can be
        pub codes-given : (new : List Value) → ((t : AreCodesToGive survey target lines codes blank)
            → IsUnderWay survey t.edits target t.row codes t.numbers new) → IsUnderWay survey (start_lines edits) target row codes numbers new
        unfolding codes-ready
        codes-given new given = given codes-ready
