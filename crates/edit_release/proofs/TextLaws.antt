-- The ends of the records of a sheet are such as can be told.
use Rattle.std.proofs.Common.{◌≡◌, ℕ, Bool, false, List, [], ◌∷◌, Option, Some, None, IfSome, length, sym, ap, ◌∙◌, arith, option_map}
use Rattle.std.specs.List.{AllByRecursion, AllZip, filter}
use Rattle.std.proofs.lemmas.Slice.Zip.{AllZip-long}
use Rattle.edit_model.specs.Corrections.{path_order}
use Rattle.edit_model.specs.FieldSets.{has_number}
use Rattle.edit_model.specs.Parts.{SurveyParts}
use Rattle.edit_model.specs.declared.value.Value.{Value}
use Rattle.std.proofs.lemmas.List.{length-map}
use Rattle.edit_model.proofs.OrderLaws.{order-length}
use Rattle.edit_line.specs.EditSets.{EditsParts}
use Rattle.edit_line.specs.Reductions.{IsIn}
use Rattle.edit_line.proofs.FieldLists.{there-has}
use Rattle.bound_cert.proofs.Letters.{filter-agree}
use Rattle.edit_paths.proofs.ChoiceLaws.{word-at}
use Rattle.bound_cert.specs.Paths.{changes}
use Rattle.bound_cert.specs.declared.outcome.GiftFault.{GiftFault}
use Rattle.bound_cert.specs.declared.outcome.Outcome.{Outcome}
use Rattle.bound_cert.specs.declared.outcome.Outcome.TheVariants.{Budget, Change, Contradictory, Overflow}
use Rattle.back_subst.specs.declared.gift.Gift.{Gift}
use Rattle.back_subst.specs.declared.gift.How.{How}
use Rattle.record_text.specs.Sheets.{SheetParts}
use Rattle.edit_report.specs.Ends.{AreEnds, IsEnd, IsGift, changed_fields, path_found}
use Rattle.edit_report.specs.declared.end.RowEnd.{RowEnd}
use Rattle.record_ends.specs.Ends.{ComesOf, IsEndOf, IsGiftOf}
use Rattle.donor_search.specs.CleanRows.{row_at}

module _ (survey : SurveyParts) (edits : EditsParts) (row : List Value) (path : List Bool) (donor : Option (List Value)) (gift : Gift)
    (is : IsGiftOf survey edits row path donor gift) where
  -- the path says something of all fields
  whole : length path ≡ length survey.fields
  whole = ap (λ (p : List Bool). length p) (sym is.fields) ∙ length-map (path_order survey.fields) (has_number is.changed) ∙ order-length survey.fields

  -- it changes the fields of the set
  changes-is : (f : ℕ) → IsIn f (path_order survey.fields) → has_number is.changed f ≡ changes survey.fields path f
  changes-is f there =
      sym (word-at (has_number is.changed) (path_order survey.fields) f false (there-has f (path_order survey.fields) there))
      ∙ ap (λ (p : List Bool). changes survey.fields p f) is.fields

  hows-many : length gift.how ≡ length (changed_fields survey.fields path)
  hows-many =
      ap (λ (hs : List How). length hs) is.how ∙ length-map (filter (has_number is.changed) (path_order survey.fields)) _
      ∙ ap (λ (fs : List ℕ). length fs) (filter-agree (has_number is.changed) (changes survey.fields path) (path_order survey.fields) changes-is)

  pub gift-tellable : IsGift survey.fields path gift
  gift-tellable = record {
    short = omega (arith, whole);
    row = is.imputed.fits;
    how = hows-many;
  }

-- what follows on an outcome can be told
follows-tellable : (survey : SurveyParts) (edits : EditsParts) (row : List Value) (donor : Option (List Value)) (o : Outcome) (stop : Option GiftFault)
    (gift : Option Gift) → ComesOf survey edits row donor o stop gift → IfSome gift (IsGift survey.fields (path_found o))
follows-tellable survey edits row donor (Change path weight cert) None (Some gift) follows = gift-tellable survey edits row path donor gift follows
follows-tellable survey edits row donor (Change path weight cert) (Some stop) (Some gift) follows = absurd follows
follows-tellable survey edits row donor (Budget path work) None (Some gift) follows = absurd follows
follows-tellable survey edits row donor (Budget path work) (Some stop) (Some gift) follows = absurd follows
follows-tellable survey edits row donor (Overflow path event) None (Some gift) follows = absurd follows
follows-tellable survey edits row donor (Overflow path event) (Some stop) (Some gift) follows = absurd follows
follows-tellable survey edits row donor (Contradictory cert) None (Some gift) follows = absurd follows
follows-tellable survey edits row donor (Contradictory cert) (Some stop) (Some gift) follows = absurd follows
follows-tellable survey edits row donor o stop None follows = tt

-- the ends of all records can be told, and there is one for each
pub each-tellable : (survey : SurveyParts) (edits : EditsParts) (budget : ℕ) (all rows : List (List Value)) (ends : List RowEnd)
    → AllZip (IsEndOf survey edits budget all) rows ends → AllByRecursion (IsEnd survey.fields) ends
each-tellable survey edits budget all [] [] each = tt
each-tellable survey edits budget all [] (end ∷ ends) each = absurd each
each-tellable survey edits budget all (row ∷ rows) [] each = absurd each
each-tellable survey edits budget all (row ∷ rows) (end ∷ ends) each = (
  follows-tellable survey edits row (option_map (row_at all) end.donor) end.proof.outcome end.proof.gift end.gift each.0.follows,
  each-tellable survey edits budget all rows ends each.1,
)

pub ends-tellable : (survey : SurveyParts) (edits : EditsParts) (budget : ℕ) (s : SheetParts) (ends : List RowEnd)
    → AllZip (IsEndOf survey edits budget s.rows) s.rows ends → AreEnds survey s ends
ends-tellable survey edits budget s ends each = record {
  one_each = AllZip-long (IsEndOf survey edits budget s.rows) s.rows ends each;
  each =
      each-tellable survey edits budget s.rows s.rows ends each;
}
