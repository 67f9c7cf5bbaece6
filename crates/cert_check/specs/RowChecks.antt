-- What a proof has to say of one record.
use Rattle.std.specs.Prelude.{◌≡◌, ◌⊎◌, ℕ, zero, suc, ◌≤◌, ◌==◌, ◌&&◌, not, nat_le, nat_lt, ◌++◌, map, Bool, true, false, List, Option, Some, None, IsSomeAnd, length}
use Rattle.edit_model.specs.Parts.{SurveyParts}
use Rattle.edit_model.specs.declared.field.Field.{Field}
use Rattle.edit_model.specs.declared.value.Value.{Value}
use Rattle.edit_line.specs.Lines.{LineParts}
use Rattle.edit_line.specs.declared.place.Place.{Place}
use Rattle.edit_line.specs.declared.place.Place.TheVariants as place
use Rattle.bound_cert.specs.Paths.{changes, keeps_bad, path_weight}
use Rattle.bound_cert.specs.ValidTrees.{IsFirstFault, IsValidTree, TreeCase, tree_case}
use Rattle.bound_cert.specs.declared.cert.Leaf.{Leaf}
use Rattle.bound_cert.specs.declared.outcome.Event.{Event}
use Rattle.bound_cert.specs.declared.outcome.Event.TheVariants as event
use Rattle.bound_cert.specs.declared.outcome.GiftFault.{GiftFault}
use Rattle.bound_cert.specs.declared.outcome.GiftFault.TheVariants as gift
use Rattle.bound_cert.specs.declared.outcome.Outcome.{Outcome}
use Rattle.bound_cert.specs.declared.outcome.Outcome.TheVariants.{Budget, Change, Contradictory, Overflow}
use Rattle.bound_cert.specs.declared.outcome.RowProof.{RowProof}
use Rattle.cert_check.specs.Places.{tree_offset}
use Rattle.cert_check.specs.Released.{IsReleasedAs}
use Rattle.cert_check.specs.declared.fault.Why.{Why}
use Rattle.cert_check.specs.declared.fault.Why.TheVariants as why

-- by what the records of a survey are checked: its lines, those that may be used, the column of each field, and the most work of a search
pub record RowRules : Type 0 where
  pub survey : SurveyParts
  pub given : List LineParts
  pub usable : List Bool
  pub columns : List ℕ
  pub budget : ℕ

-- the same, where the lines of a table stand behind the others, and may all be used
abbrev pub rules_with : RowRules → List LineParts → RowRules
rules_with r lines = record {
  survey = r.survey;
  given = r.given ++ lines;
  usable = r.usable ++ map (λ line. true) lines;
  columns = r.columns;
  budget = r.budget;
}

-- a record: the texts and the values that were read, and the texts that are released of it, if some are
pub record RowFiles : Type 0 where
  pub reads : List (List ℕ)
  pub row : List Value
  pub texts : Option (List (List ℕ))

-- ---- parts of what is said

-- the path says something of all fields, keeps none at which the record has no value, and has this weight
abbrev pub fits_change : List Field → List Value → List Bool → ℕ → Bool
fits_change fields row path weight =
    (length path == length fields) && (not (keeps_bad fields row path) && (path_weight fields path == weight))

-- the field, or the rule, at which a giving stopped is there
abbrev pub gift_exists : SurveyParts → GiftFault → Bool
gift_exists survey (gift.Bound field line) = nat_lt field (length survey.fields)
gift_exists survey (gift.Test rule) = nat_lt rule (length survey.rules)

-- the place of a number is that of a field that is there, or of the constant
abbrev pub place_exists : List Field → Place → Bool
place_exists fields (place.Field f) = nat_lt f (length fields)
place_exists fields place.Constant = true

-- the path is no longer than the fields, and the field at which a number left the range is there
abbrev pub event_exists : List Field → List Bool → Event → Bool
event_exists fields path (event.Step first second at) = nat_le (length path) (length fields) && place_exists fields at
event_exists fields path (event.Test line field) = nat_le (length path) (length fields) && nat_lt field (length fields)

-- what the tree of a record is about
abbrev pub tree_of : RowRules → RowFiles → Option ℕ → TreeCase
tree_of r f weight = tree_case r.survey r.given r.usable f.row weight

-- texts are released for the record, of which the path changes some fields
abbrev pub AreReleasedTexts : RowRules → RowFiles → List Bool → Type 0
AreReleasedTexts r f path = IsSomeAnd f.texts (λ texts. (new : List Value)
    × IsReleasedAs r.survey r.columns (changes r.survey.fields path) f.reads f.row texts new)

-- the path and the weight of a change are right, and its tree is valid
abbrev pub IsCertified : RowRules → RowFiles → List Bool → ℕ → List Leaf → Type 0
IsCertified r f path weight leaves =
    (fits_change r.survey.fields f.row path weight ≡ true) × IsValidTree (tree_of r f (Some weight)) leaves

-- ---- a valid record

-- a change of nothing is a clean record; any other change is certified; and the record is released so
abbrev pub IsValidChange : RowRules → RowFiles → List Bool → ℕ → List Leaf → Type 0
IsValidChange r f path zero leaves = AreReleasedTexts r f path
IsValidChange r f path (suc w) leaves = IsCertified r f path (suc w) leaves × AreReleasedTexts r f path

-- a change to which no values were given is certified, and there is such a field or rule
abbrev pub IsValidGift : RowRules → RowFiles → List Bool → ℕ → List Leaf → GiftFault → Type 0
IsValidGift r f path weight leaves fault = IsCertified r f path weight leaves × (gift_exists r.survey fault ≡ true)

-- what the proof says of a record is right, as far as it can be checked: that a budget was passed, or that a number left the
-- range, is taken on trust
abbrev pub IsValidSaid : RowRules → RowFiles → Outcome → Option GiftFault → Type 0
IsValidSaid r f (Change path weight cert) None = IsValidChange r f path weight cert.leaves
IsValidSaid r f (Change path weight cert) (Some fault) = IsValidGift r f path weight cert.leaves fault
IsValidSaid r f (Budget path work) fault = work ≤ r.budget
IsValidSaid r f (Overflow path event) fault = event_exists r.survey.fields path event ≡ true
IsValidSaid r f (Contradictory cert) fault = IsValidTree (tree_of r f None) cert.leaves

-- what the proof says of a record is right: what was found, and what became of its values
abbrev pub IsValidRow : RowRules → RowFiles → RowProof → Type 0
IsValidRow r f said = IsValidSaid r f said.outcome said.gift

-- ---- the first fault of a record: how many lines behind its head, and why

-- the tree is not valid; its first fault stands `offset` lines behind the head
abbrev pub IsTreeFault : TreeCase → List Leaf → ℕ → Type 0
IsTreeFault c leaves offset =
    ¬ IsValidTree c leaves × ((leaf : ℕ) × (step : Option ℕ) × IsFirstFault c leaves leaf step × (offset ≡ tree_offset leaves leaf step))

-- of a change that is not certified: the head, where the path or the weight is not right, or the tree
abbrev pub IsCertFault : RowRules → RowFiles → List Bool → ℕ → List Leaf → ℕ → Type 0
IsCertFault r f path weight leaves offset =
    ((fits_change r.survey.fields f.row path weight ≡ false) × (offset ≡ 0))
    ⊎ ((fits_change r.survey.fields f.row path weight ≡ true) × IsTreeFault (tree_of r f (Some weight)) leaves offset)

-- of a change: that of its certificate, or the head, where the record is not released so
abbrev pub IsChangeFault : RowRules → RowFiles → List Bool → ℕ → List Leaf → ℕ → Why → Type 0
IsChangeFault r f path zero leaves offset why.RowText = (offset ≡ 0) × ¬ AreReleasedTexts r f path
IsChangeFault r f path (suc w) leaves offset why.Cert = IsCertFault r f path (suc w) leaves offset
IsChangeFault r f path (suc w) leaves offset why.RowText =
    IsCertified r f path (suc w) leaves × ¬ AreReleasedTexts r f path × (offset ≡ 0)
IsChangeFault r f path weight leaves offset other = ⊥

-- of a change to which no values were given: that of its certificate, or the head, where there is no such field or rule
abbrev pub IsGiftFault : RowRules → RowFiles → List Bool → ℕ → List Leaf → GiftFault → ℕ → Why → Type 0
IsGiftFault r f path weight leaves fault offset why.Cert =
    IsCertFault r f path weight leaves offset
    ⊎ (IsCertified r f path weight leaves × (gift_exists r.survey fault ≡ false) × (offset ≡ 0))
IsGiftFault r f path weight leaves fault offset other = ⊥

-- what the proof says is at fault first `offset` lines behind the head of a record, for this reason
abbrev pub IsSaidFault : RowRules → RowFiles → Outcome → Option GiftFault → ℕ → Why → Type 0
IsSaidFault r f (Change path weight cert) None offset why = IsChangeFault r f path weight cert.leaves offset why
IsSaidFault r f (Change path weight cert) (Some fault) offset why = IsGiftFault r f path weight cert.leaves fault offset why
IsSaidFault r f (Budget path work) fault offset why.Cert = (offset ≡ 0) × ¬ (work ≤ r.budget)
IsSaidFault r f (Overflow path event) fault offset why.Cert = (offset ≡ 0) × (event_exists r.survey.fields path event ≡ false)
IsSaidFault r f (Contradictory cert) fault offset why.Cert = IsTreeFault (tree_of r f None) cert.leaves offset
IsSaidFault r f outcome fault offset other = ⊥

-- what the proof says of a record is at fault first `offset` lines behind its head, for this reason
abbrev pub IsRowFault : RowRules → RowFiles → RowProof → ℕ → Why → Type 0
IsRowFault r f said offset why = IsSaidFault r f said.outcome said.gift offset why
