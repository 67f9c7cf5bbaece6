-- What `clap` finds in words.
use Rattle.std.specs.Prelude.{◌≡◌, ℕ, List, []}
use Rattle.clap.specs.Words.{App, Row, fault_of, found_of, matches_of, rows_of}
use Rattle.clap.specs.declared.parser.matches.ArgMatches.{ArgMatches}
use Rattle.command_words.specs.Asked.{IsCommand}

-- what was found, with a row for each option that stands in the words
abbrev pub rows_in : ArgMatches → List Row
rows_in found = rows_of (found_of found)

-- the words behind the command's name are taken, and this is found in them
pub record Takes (command : App) (words : List (List ℕ)) (found : ArgMatches) : Type 0 where
  pub taken : fault_of command words ≡ []
  pub rows : matches_of command words ≡ rows_in found

-- the words are the command, its name and all, and these rows are found in them
abbrev pub Finds : App → List (List ℕ) → List Row → Type 0
Finds command words rows = IsCommand command words (λ found. found ≡ rows)
