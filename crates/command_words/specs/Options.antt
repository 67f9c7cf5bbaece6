-- Options of the command line, as the crate `clap` reads them, and the rule on numbers.
use Rattle.std.specs.Prelude.{◌≡◌, ℕ, ◌≤◌, true, List, [], Option, Some, None, length}
use Rattle.std.specs.Str.Parse.{IsNumeral, digits_value}
use Rattle.clap.specs.Simple.{new_shape}
use Rattle.clap.specs.Words.{App, Rule, new_rule}
use Rattle.clap.specs.declared.builder.action.ArgAction.TheVariants.{Set}

-- ---- what clap is told of a command

-- the option `--name`, which is given one value where it stands
abbrev pub may_stand : List ℕ → Rule
may_stand name = record (new_rule name) { long = Some name; action = Some Set }

-- the same, where the option has to stand
abbrev pub must_stand : List ℕ → Rule
must_stand name = record (may_stand name) { required = true }

-- the command of this name, with these options and nothing else, also no flag that asks for help
abbrev pub command_with : List ℕ → List Rule → App
command_with name options = record {
  top = record (new_shape name) { rules = options; no_binary_name = true; disable_help_flag = true };
  subs = [];
}

-- ---- the rule on numbers

-- the text is 1 to 10 digits, and they spell the number
abbrev pub IsNumberText : List ℕ → ℕ → Type 0
IsNumberText text number = IsNumeral 10 text × (length text ≤ 10) × (number ≡ digits_value 10 text)

-- the number of an option with this text: what it spells, from the least to the most, or the default where there is none
abbrev pub GivesNumber : ℕ → ℕ → ℕ → Option (List ℕ) → ℕ → Type 0
GivesNumber default least most None number = number ≡ default
GivesNumber default least most (Some text) number = IsNumberText text number × (least ≤ number) × (number ≤ most)
