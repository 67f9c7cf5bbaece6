use Rattle.std.proofs.Common.{◌≡◌, ℕ, ◌<◌, ◌≤◌, ◌^◌, Bool, List, All, Result, Ok, Err, IfOk, length, take, sym, subst, ◌∙◌, arith}
use Rattle.foundation.specs.Limits.{most_fields}
use Rattle.edit_model.specs.Corrections.{path_order}
use Rattle.edit_model.specs.FieldSets.{has_number}
use Rattle.edit_model.specs.Parts.{SurveyParts}
use Rattle.edit_model.specs.Rows.{is_bad, value_of}
use Rattle.edit_model.specs.declared.field.Field.{Field}
use Rattle.edit_model.specs.declared.value.Value.{Value}
use Rattle.edit_model.proofs.FieldSetLaws.{has-set_of}
use Rattle.edit_line.specs.EditSets.{EditsParts}
use Rattle.edit_line.proofs.FieldLists.{has-filter}
use Rattle.edit_line.proofs.Members.{all-in}
use Rattle.linear_elim.proofs.PointLaws.{map-agree}
use Rattle.edit_paths.specs.Cases.{case_of}
use Rattle.edit_paths.specs.States.{IsOpen}
use Rattle.edit_paths.proofs.FieldPlaces.{order-within}
use Rattle.prefix_walk.specs.PathWalks.{prefixes, walk_along}
use Rattle.prefix_walk.specs.declared.walk_end.WalkEnd.TheVariants as walk
use Rattle.prefix_walk.proofs.Prefixes.{path-in, take-in}
use Rattle.prefix_walk.proofs.WalkEnds.{open-at}
use Rattle.back_subst.specs.Gifts.{CanGive, IsCheap, path_of}
use Rattle.deduce_fill.specs.Laws.{IsRuleCase}
use Rattle.deduce_fill.specs.Tests.{bad_fields, bad_set, own_path}
use Rattle.deduce_fill.proofs.OwnPaths.{bad-out}

-- What is asked of a record before a candidate is given.

-- each field without a value can be a member of a set
pub bad-below : (fields : List Field) (row : List Value) → length fields ≤ most_fields → All (λ f. f < 64) (bad_fields fields row)
bad-below fields row few =
    all-in (λ f. f < 64) (bad_fields fields row) (λ f there. let below = order-within fields f (bad-out fields row f there).0 in omega (arith, below, few))

-- the path that changes just the set of these is the record's own
own-is : (fields : List Field) (row : List Value) → path_of fields (bad_set fields row) ≡ own_path fields row
own-is fields row =
    map-agree (has_number (bad_set fields row)) (λ f. is_bad (value_of row f)) (path_order fields)
    (λ f there. has-set_of (bad_fields fields row) f ∙ has-filter (λ f. is_bad (value_of row f)) f (path_order fields) there)

-- where it is open, a candidate can be given
pub can-give : (survey : SurveyParts) (edits : EditsParts) (row : List Value) (budget work : ℕ) → IsRuleCase survey edits row → budget < 2 ^ 64
    → walk_along (case_of survey edits row) (own_path survey.fields row) budget 0 ≡ walk.Open work → CanGive survey edits row (bad_set survey.fields row)
can-give survey edits row budget work is small ended = record {
  is_row = is.case.row;
  shape = is.shape;
  path = subst (λ (path : List Bool). IsOpen (case_of survey edits row) path) (sym (own-is survey.fields row))
      ((open-at (case_of survey edits row) budget 0 work (prefixes (own_path survey.fields row)) ended).each (own_path survey.fields row)
      (path-in (own_path survey.fields row))).0;
  sound = λ p meets. (is.rules p).0 (meets.codes, meets.edits);
  complete = λ p correction outside. ((is.rules p).1 correction).1;
  few = subst (λ (path : List Bool). IsCheap (case_of survey edits row) path) (sym (own-is survey.fields row)) (λ k fits.
      let most = ((open-at (case_of survey edits row) budget 0 work (prefixes (own_path survey.fields row)) ended).each (take k (own_path survey.fields row))
      (take-in (own_path survey.fields row) k)).1 in
      omega (arith, most, small));
}

-- what is said of each answer is said of the one that there is, if there is one
pub of-answer : {A F : Type 0} (P Q : A → Type 0) (r : Result A F) → ((a : A) → P a → Q a) → IfOk r P → IfOk r Q
of-answer P Q (Ok a) law told = law a told
of-answer P Q (Err fault) law told = tt
