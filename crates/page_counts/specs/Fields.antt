-- How often a field was changed, and where its new values came from.
use Rattle.std.specs.Prelude.{ℕ, ◌==◌, ◌&&◌, Bool, true, false, List}
use Rattle.std.specs.List.{count_by}
use Rattle.reason_lines.specs.declared.entry.Change.{Change}
use Rattle.reason_lines.specs.declared.entry.How.{How}
use Rattle.reason_lines.specs.declared.entry.How.TheVariants.{Default, Donor, Nearest}

-- whether two ways are one
abbrev pub is_how : How → How → Bool
is_how Donor Donor = true
is_how Nearest Nearest = true
is_how Default Default = true
is_how _ _ = false

-- how many changes of a field were made in this way
abbrev pub change_count : How → ℕ → List Change → ℕ
change_count how field changes = count_by (λ (c : Change). (c.field == field) && is_how how c.how) changes
