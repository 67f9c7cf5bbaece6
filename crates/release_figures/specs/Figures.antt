-- What the page of a release says.
use Rattle.std.specs.Prelude.{◌≡◌, ℕ, suc, ◌+◌, List, [], ◌∷◌, Option, Some, None, length, map}
use Rattle.std.specs.List.{count_by, range_with_len}
use Rattle.std.specs.Option.{option_map}
use Rattle.fraction128.specs.Formulas.{ratio_of}
use Rattle.edit_model.specs.Rows.{is_bad}
use Rattle.edit_model.specs.declared.field.Field.{Field}
use Rattle.edit_model.specs.declared.field.Kind.{Kind}
use Rattle.edit_model.specs.declared.field.Kind.TheVariants as kind
use Rattle.edit_model.specs.declared.value.Value.{Value}
use Rattle.reason_lines.specs.declared.entry.Cause.TheVariants as cause
use Rattle.reason_lines.specs.declared.entry.Change.{Change}
use Rattle.reason_lines.specs.declared.entry.How.TheVariants as how
use Rattle.reason_lines.specs.declared.reading.Reasons.{Reasons}
use Rattle.page_counts.specs.Amounts.{AreGreatest, IsTally}
use Rattle.page_counts.specs.Bins.{bin_counts, is_beyond}
use Rattle.page_counts.specs.Columns.{code_counts, column_of}
use Rattle.page_counts.specs.Donors.{donors_of}
use Rattle.page_counts.specs.Fields.{change_count}
use Rattle.page_counts.specs.Numbers.{sum_of}
use Rattle.page_counts.specs.Records.{changed_count, clean_count, left_out_count}
use Rattle.page_counts.specs.Rules.{is_number, rule_count}
use Rattle.page_counts.specs.Weights.{weights_of}
use Rattle.page_counts.specs.declared.amounts.Amount.{Amount}
use Rattle.page_counts.specs.declared.bins.Bins.{Bins}
use Rattle.page_counts.specs.declared.codes.CodeCounts.{CodeCounts}
use Rattle.page_counts.specs.declared.fields.FieldCount.{FieldCount}
use Rattle.page_counts.specs.declared.records.RecordCounts.{RecordCounts}
use Rattle.page_counts.specs.declared.rules.RuleCount.{RuleCount}
use Rattle.release_figures.specs.ReleasedValues.{AreReleasedValues}
use Rattle.release_figures.specs.Releases.{ReleaseParts, released_numbers}
use Rattle.release_figures.specs.declared.figures.FieldValues.{FieldValues}
use Rattle.release_figures.specs.declared.figures.FieldValues.TheVariants.{Codes, Numbers}
use Rattle.release_figures.specs.declared.figures.NumberFigures.{NumberFigures}
use Rattle.release_figures.specs.declared.figures.ReleaseFigures.{ReleaseFigures}

-- ---- records, changes and rules

-- how many of so many records were clean, changed, and left out by each cause
abbrev pub record_counts : ℕ → Reasons → RecordCounts
record_counts rows reasons =
    record {
      clean = clean_count rows reasons.changes reasons.left_out;
      changed = changed_count rows reasons.changes;
      budget = left_out_count cause.Budget reasons.left_out;
      overflow = left_out_count cause.Overflow reasons.left_out;
      contradictory = left_out_count cause.Contradictory reasons.left_out;
      no_last = left_out_count cause.NoLast reasons.left_out;
      no_correction = left_out_count cause.NoCorrection reasons.left_out;
    }

-- how often a field was changed, by how its new value was found
abbrev pub field_count : List Change → ℕ → FieldCount
field_count changes f =
    record {
      donor = change_count how.Donor f changes;
      nearest = change_count how.Nearest f changes;
      default = change_count how.Default f changes;
    }

-- how often a field was changed, in whichever way
abbrev pub change_total : FieldCount → ℕ
change_total count = count.donor + count.nearest + count.default

-- things that are numbered from i on, with a size of each
abbrev pub numbered : ℕ → List ℕ → List Amount
numbered i [] = []
numbered i (size ∷ sizes) = record { number = i; size = size } ∷ numbered (suc i) sizes

-- the amounts are all the sizes with their numbers, the greatest first
abbrev pub AreSorted : List ℕ → List Amount → Type 0
AreSorted sizes amounts = AreGreatest (numbered 0 sizes) (length sizes) amounts

-- ---- values before and after

-- how many values each bin has; no count where there are no bins
abbrev pub counts_in : Option Bins → List Value → List ℕ
counts_in (Some bins) values = bin_counts bins values
counts_in None values = []

-- how many numbers are in no bin: all of them where there are no bins
abbrev pub beyond_in : Option Bins → List Value → ℕ
beyond_in (Some bins) values = count_by (is_beyond bins) values
beyond_in None values = count_by is_number values

-- what is counted of a numerical field's values
pub record AreNumberFigures (bins : Option Bins) (values : List Value) (figures : NumberFigures) : Type 0 where
  pub counts : figures.counts ≡ counts_in bins values
  pub beyond : figures.beyond ≡ beyond_in bins values
  pub none : figures.none ≡ count_by is_bad values
  pub sum : option_map ratio_of figures.sum ≡ sum_of values

-- what is counted of a categorical field's values
pub record AreCodeCounts (codes : ℕ) (values : List Value) (counts : CodeCounts) : Type 0 where
  pub by_code : counts.by_code ≡ code_counts codes values
  pub none : counts.none ≡ count_by is_bad values

-- what is counted of a field's values before and after
abbrev pub AreFieldValues : Kind → List Value → List Value → FieldValues → Type 0
AreFieldValues (kind.Number scale) before after (Numbers numbers) =
    AreNumberFigures numbers.bins before numbers.before × AreNumberFigures numbers.bins after numbers.after
AreFieldValues (kind.Code codes) before after (Codes first second) =
    AreCodeCounts (length codes) before first × AreCodeCounts (length codes) after second
AreFieldValues _ before after values = ⊥

-- the values of a field in the records that were released, as they came
abbrev pub column_before : ReleaseParts → ℕ → List Value
column_before release f = column_of release.records.rows f (released_numbers release)

-- what is counted of the values of a field: of those in the records that were released, as they came, and of those in the released rows
pub record AreValuesOf (release : ReleaseParts) (f : ℕ) (k : Kind) (values : FieldValues) : Type 0 where
  pub after : List Value
  pub released : AreReleasedValues release.released k f after
  pub counted : AreFieldValues k (column_before release f) after values

-- the same of the fields from number f on
abbrev pub AreValues : ReleaseParts → ℕ → List Field → List FieldValues → Type 0
AreValues release f [] [] = Unit {0}
AreValues release f (field ∷ fields) (values ∷ rest) = AreValuesOf release f field.kind values × AreValues release (suc f) fields rest
AreValues release f _ _ = ⊥

-- ---- all of it

-- what the changes of each changed record weigh
abbrev pub release_weights : ReleaseParts → List Amount
release_weights release = weights_of release.survey.fields (length release.records.rows) release.reasons.changes

-- what the page of a release says. Which bins a histogram has is free, since the page says where each begins, and what is in none.
pub record AreFigures (release : ReleaseParts) (figures : ReleaseFigures) : Type 0 where
  pub records_counted : figures.records ≡ record_counts (length release.records.rows) release.reasons
  pub released : figures.released ≡ released_numbers release
  pub fields : figures.fields ≡ map (field_count release.reasons.changes) (range_with_len 0 (length release.survey.fields))
  pub fields_by_changes : AreSorted (map change_total figures.fields) figures.fields_by_changes
  pub rules : figures.rules ≡ map (rule_count release.records.rows) release.survey.rules
  pub rules_by_breaks : AreSorted (map (λ (count : RuleCount). count.broken) figures.rules) figures.rules_by_breaks
  pub weights : IsTally (release_weights release) figures.weights
  pub greatest : AreGreatest (release_weights release) 20 figures.greatest
  pub gifts : IsTally (donors_of (length release.records.rows) release.reasons.changes) figures.gifts
  pub values : AreValues release 0 release.survey.fields figures.values
