-- What an outcome says of the record.
use Rattle.std.specs.Prelude.{◌≡◌, ◌≤◌, ℕ, Bool, List, Some, None}
use Rattle.edit_model.specs.Corrections.{IsFirstLeast, IsLeastWeight}
use Rattle.edit_model.specs.Parts.{SurveyParts}
use Rattle.edit_model.specs.Points.{Point}
use Rattle.edit_model.specs.declared.value.Value.{Value}
use Rattle.edit_line.specs.EditSets.{EditsParts}
use Rattle.edit_line.specs.Lines.{LineParts}
use Rattle.bound_cert.specs.Paths.{path_weight}
use Rattle.bound_cert.specs.ValidTrees.{IsValidTree, tree_case}
use Rattle.bound_cert.specs.declared.cert.Cert.{Cert}
use Rattle.bound_cert.specs.declared.outcome.Event.{Event}
use Rattle.bound_cert.specs.declared.outcome.Outcome.{Outcome}
use Rattle.bound_cert.specs.declared.outcome.Outcome.TheVariants as outcome
use Rattle.edit_paths.specs.Cases.{AreUsableAmong, SearchCase, Meets, TellCorrections}
use Rattle.edit_paths.specs.Choices.{IsChoice}
use Rattle.edit_paths.specs.Outcomes.{total_work}

-- the path of a change is the choice among the points at which the edits hold, and the weight is the path's
abbrev pub ChoosesFirst : SearchCase → Outcome → Type 0
ChoosesFirst c o = (path : List Bool) (weight : ℕ) (cert : Cert) → o ≡ outcome.Change path weight cert
    → IsChoice c path × (weight ≡ path_weight c.survey.fields path)

-- where the edits hold exactly at the corrections, the weight of a change is the least of all corrections, and its path
-- the first that has it
abbrev pub ChoosesLeast : SurveyParts → EditsParts → List Value → Outcome → Type 0
ChoosesLeast survey edits row o = (path : List Bool) (weight : ℕ) (cert : Cert) → o ≡ outcome.Change path weight cert
    → TellCorrections survey edits row
    → IsLeastWeight survey row weight × IsFirstLeast survey row path

-- the certificate of a change is a valid tree with its weight, whatever the given lines are among which the edits stand
abbrev pub Certifies : SearchCase → Outcome → Type 0
Certifies c o = (path : List Bool) (weight : ℕ) (cert : Cert) → o ≡ outcome.Change path weight cert
    → (given : List LineParts) (usable : List Bool) → AreUsableAmong given usable c.edits
    → IsValidTree (tree_case c.survey given usable c.row (Some weight)) cert.leaves

-- at no point do the edits of a contradictory record hold
abbrev pub NoneMeets : SearchCase → Outcome → Type 0
NoneMeets c o = (cert : Cert) → o ≡ outcome.Contradictory cert → (p : Point) → ¬ Meets c p

-- the certificate of a contradiction is a valid tree without a weight, whatever the given lines are
abbrev pub ShowsContradiction : SearchCase → Outcome → Type 0
ShowsContradiction c o = (cert : Cert) → o ≡ outcome.Contradictory cert
    → (given : List LineParts) (usable : List Bool) → AreUsableAmong given usable c.edits
    → IsValidTree (tree_case c.survey given usable c.row None) cert.leaves

-- a budget of at least the total work is not passed
abbrev pub IsBudgetEnough : SearchCase → ℕ → Outcome → Type 0
IsBudgetEnough c budget o = total_work c ≤ budget → (path : List Bool) (work : ℕ) → ¬ (o ≡ outcome.Budget path work)

-- with such a budget, where the edits hold somewhere and no number leaves the range, the outcome is a change
abbrev pub FindsChange : SearchCase → ℕ → Outcome → Type 0
FindsChange c budget o = (p : Point) → Meets c p → total_work c ≤ budget
    → ((path : List Bool) (event : Event) → ¬ (o ≡ outcome.Overflow path event))
    → (path : List Bool) × (weight : ℕ) × (cert : Cert) × (o ≡ outcome.Change path weight cert)
