-- What the words of the command line ask for.
use Rattle.std.specs.Prelude.{◌≡◌, ℕ, List, [], ◌∷◌, ◌++◌, Some, codes, map, string_bytes, String}
use Rattle.std.specs.declared.alloc.Global.{Global}
use Rattle.foundation.specs.Limits.{most_workers, most_work, most_gifts, most_near, most_records}
use Rattle.clap.specs.Words.{App, Row, Rule, fault_of, first_of, matches_of}
use Rattle.command_words.specs.FileNames.{AreApart}
use Rattle.command_words.specs.Options.{GivesNumber, command_with, may_stand, must_stand}

-- the first word is the name of the command, `clap` takes the others as words of the command, and the claim holds of what it
-- finds in them
pub record IsCommand (command : App) (words : List (List ℕ)) (Holds : List Row → Type 0) : Type 0 where
  pub others : List (List ℕ)
  pub named : words ≡ command.top.name ∷ others
  pub taken : fault_of command others ≡ []
  pub found : Holds (matches_of command others)

-- ---- edit

-- the files that an edit names: its rules, its records, what is released of them, the reasons for that, and the proof
pub record Names : Type 0 where
  pub rules : List ℕ
  pub records : List ℕ
  pub released : List ℕ
  pub reasons : List ℕ
  pub proof : List ℕ

-- what an edit is asked for: its files, how many workers edit the records, the most work that may be spent on one record,
-- how often a donor may be given, and how many donors a record ranks
pub record EditAsked : Type 0 where
  pub names : Names
  pub workers : ℕ
  pub budget : ℕ
  pub limit : ℕ
  pub near : ℕ

-- five options name files, and have to stand
abbrev pub edit_files : List Rule
edit_files =
    must_stand (codes "rules") ∷ must_stand (codes "records") ∷ must_stand (codes "released") ∷ must_stand (codes "reasons")
    ∷ must_stand (codes "proof") ∷ []

-- four options give numbers
abbrev pub edit_numbers : List Rule
edit_numbers = may_stand (codes "workers") ∷ may_stand (codes "budget") ∷ may_stand (codes "limit") ∷ may_stand (codes "near") ∷ []

-- the command `edit` has these options
abbrev pub edit_command : App
edit_command = command_with (codes "edit") (edit_files ++ edit_numbers)

-- the names of the five files
abbrev pub names_in : Names → List (List ℕ)
names_in names = names.rules ∷ names.records ∷ names.released ∷ names.reasons ∷ names.proof ∷ []

-- what is found are five names of files, no two of which lead to one file; 1 to 64 workers, or 1; a budget from 1 to 1,000,000,000, or
-- 1,000,000; a limit from 1 to 1,000, or 1; and 1 to 64 donors that a record ranks, or 5
pub record GivesEdit (found : List Row) (asked : EditAsked) : Type 0 where
  pub rules : first_of (codes "rules") found ≡ Some asked.names.rules
  pub records : first_of (codes "records") found ≡ Some asked.names.records
  pub released : first_of (codes "released") found ≡ Some asked.names.released
  pub reasons : first_of (codes "reasons") found ≡ Some asked.names.reasons
  pub proof : first_of (codes "proof") found ≡ Some asked.names.proof
  pub workers : GivesNumber 1 1 most_workers (first_of (codes "workers") found) asked.workers
  pub budget : GivesNumber 1000000 1 most_work (first_of (codes "budget") found) asked.budget
  pub limit : GivesNumber 1 1 most_gifts (first_of (codes "limit") found) asked.limit
  pub near : GivesNumber 5 1 most_near (first_of (codes "near") found) asked.near
  pub apart : AreApart (names_in asked.names)

-- the words ask for an edit: they are the command, and what is found gives it
abbrev pub IsEdit : List (List ℕ) → EditAsked → Type 0
IsEdit words asked = IsCommand edit_command words (λ found. GivesEdit found asked)

-- ---- classed

-- what the command `classed` is asked for: an edit, and the field by whose codes the records fall into classes, of which each takes
-- its donors from its own
pub record ClassedAsked : Type 0 where
  pub edit : EditAsked
  pub class : List ℕ

-- the options of the command: those of an edit, and one that names a field and has to stand
abbrev pub classed_command : App
classed_command = command_with (codes "classed") (edit_files ++ must_stand (codes "class") ∷ edit_numbers)

-- what is found is what gives an edit; and a field's name, which may be any text
pub record GivesClassed (found : List Row) (asked : ClassedAsked) : Type 0 where
  pub edit : GivesEdit found asked.edit
  pub class : first_of (codes "class") found ≡ Some asked.class

-- the words ask for an edit by classes: they are the command, and what is found gives its edit and its field
abbrev pub IsClassed : List (List ℕ) → ClassedAsked → Type 0
IsClassed words asked = IsCommand classed_command words (λ found. GivesClassed found asked)

-- ---- check

-- the files that a check names: rules, records, what is released of them, and the proof
pub record CheckAsked : Type 0 where
  pub rules : List ℕ
  pub records : List ℕ
  pub released : List ℕ
  pub proof : List ℕ

-- the options of a check: four that name files and have to stand
abbrev pub check_command : App
check_command = command_with (codes "check") (
    must_stand (codes "rules") ∷ must_stand (codes "records") ∷ must_stand (codes "released") ∷ must_stand (codes "proof") ∷ [])

-- the names of the four files
abbrev pub checked_in : CheckAsked → List (List ℕ)
checked_in asked = asked.rules ∷ asked.records ∷ asked.released ∷ asked.proof ∷ []

-- what is found are four names of files, no two of which lead to one file
pub record GivesCheck (found : List Row) (asked : CheckAsked) : Type 0 where
  pub rules : first_of (codes "rules") found ≡ Some asked.rules
  pub records : first_of (codes "records") found ≡ Some asked.records
  pub released : first_of (codes "released") found ≡ Some asked.released
  pub proof : first_of (codes "proof") found ≡ Some asked.proof
  pub apart : AreApart (checked_in asked)

-- the words ask for a check: they are the command, and what is found gives it
abbrev pub IsCheck : List (List ℕ) → CheckAsked → Type 0
IsCheck words asked = IsCommand check_command words (λ found. GivesCheck found asked)

-- ---- rules

-- the file that the command `rules` names
pub record RulesAsked : Type 0 where
  pub rules : List ℕ

-- the one option of the command, which names a file and has to stand
abbrev pub rules_command : App
rules_command = command_with (codes "rules") (must_stand (codes "rules") ∷ [])

-- what is found is the name of a file
pub record GivesRules (found : List Row) (asked : RulesAsked) : Type 0 where
  pub rules : first_of (codes "rules") found ≡ Some asked.rules

-- the words ask what becomes of the lines of rules: they are the command, and what is found gives its file
abbrev pub IsRules : List (List ℕ) → RulesAsked → Type 0
IsRules words asked = IsCommand rules_command words (λ found. GivesRules found asked)

-- ---- fill

-- the files that the command `fill` names, and the most work that may be spent on one record
pub record FillAsked : Type 0 where
  pub rules : List ℕ
  pub records : List ℕ
  pub released : List ℕ
  pub budget : ℕ

-- the options of the command: three that name files and have to stand, and one that gives a number
abbrev pub fill_command : App
fill_command = command_with (codes "fill") (
    must_stand (codes "rules") ∷ must_stand (codes "records") ∷ must_stand (codes "released") ∷ may_stand (codes "budget") ∷ [])

-- what is found are three names of files, no two of which lead to one file; and a budget from 1 to 1,000,000,000, or 1,000,000
pub record GivesFill (found : List Row) (asked : FillAsked) : Type 0 where
  pub rules : first_of (codes "rules") found ≡ Some asked.rules
  pub records : first_of (codes "records") found ≡ Some asked.records
  pub released : first_of (codes "released") found ≡ Some asked.released
  pub budget : GivesNumber 1000000 1 most_work (first_of (codes "budget") found) asked.budget
  pub apart : AreApart (asked.rules ∷ asked.records ∷ asked.released ∷ [])

-- the words ask that records are filled: they are the command, and what is found gives its files and its budget
abbrev pub IsFill : List (List ℕ) → FillAsked → Type 0
IsFill words asked = IsCommand fill_command words (λ found. GivesFill found asked)

-- ---- panel

-- the files that the command `panel` names: the rules, the records, the file of the last period, what is released of the records, the
-- reasons for that, and the proof; the name of the column by which the rows of both periods are joined; and the most work that may be
-- spent on one record
pub record PanelAsked : Type 0 where
  pub rules : List ℕ
  pub records : List ℕ
  pub last : List ℕ
  pub released : List ℕ
  pub reasons : List ℕ
  pub proof : List ℕ
  pub key : List ℕ
  pub budget : ℕ

-- the options of the command: six that name files and one that names a column, which have to stand, and one that gives a number
abbrev pub panel_command : App
panel_command = command_with (codes "panel") (
    must_stand (codes "rules") ∷ must_stand (codes "records") ∷ must_stand (codes "last") ∷ must_stand (codes "released")
    ∷ must_stand (codes "reasons") ∷ must_stand (codes "proof") ∷ must_stand (codes "key") ∷ may_stand (codes "budget") ∷ [])

-- the names of the six files
abbrev pub panel_files_in : PanelAsked → List (List ℕ)
panel_files_in asked = asked.rules ∷ asked.records ∷ asked.last ∷ asked.released ∷ asked.reasons ∷ asked.proof ∷ []

-- what is found are six names of files, no two of which lead to one file; a column's name, which may be any text; and a budget from 1 to
-- 1,000,000,000, or 1,000,000
pub record GivesPanel (found : List Row) (asked : PanelAsked) : Type 0 where
  pub rules : first_of (codes "rules") found ≡ Some asked.rules
  pub records : first_of (codes "records") found ≡ Some asked.records
  pub last : first_of (codes "last") found ≡ Some asked.last
  pub released : first_of (codes "released") found ≡ Some asked.released
  pub reasons : first_of (codes "reasons") found ≡ Some asked.reasons
  pub proof : first_of (codes "proof") found ≡ Some asked.proof
  pub key : first_of (codes "key") found ≡ Some asked.key
  pub budget : GivesNumber 1000000 1 most_work (first_of (codes "budget") found) asked.budget
  pub apart : AreApart (panel_files_in asked)

-- the words ask that records are edited with those of the last period: they are the command, and what is found gives its files, its
-- column and its budget
abbrev pub IsPanel : List (List ℕ) → PanelAsked → Type 0
IsPanel words asked = IsCommand panel_command words (λ found. GivesPanel found asked)

-- ---- make

-- the files that the command `make` names, the number that its records follow from, and how many records there are
pub record MakeAsked : Type 0 where
  pub rules : List ℕ
  pub records : List ℕ
  pub start : ℕ
  pub rows : ℕ

-- the options of the command: two that name files and have to stand, and two that give numbers
abbrev pub make_command : App
make_command = command_with (codes "make") (
    must_stand (codes "rules") ∷ must_stand (codes "records") ∷ may_stand (codes "start") ∷ may_stand (codes "rows") ∷ [])

-- what is found are two names of files, which lead to two; a number to start from, up to 4,294,967,295, or 1; and 1 to 200,000
-- records, or 100
pub record GivesMake (found : List Row) (asked : MakeAsked) : Type 0 where
  pub rules : first_of (codes "rules") found ≡ Some asked.rules
  pub records : first_of (codes "records") found ≡ Some asked.records
  pub start : GivesNumber 1 0 4294967295 (first_of (codes "start") found) asked.start
  pub rows : GivesNumber 100 1 most_records (first_of (codes "rows") found) asked.rows
  pub apart : AreApart (asked.rules ∷ asked.records ∷ [])

-- the words ask that a survey is made: they are the command, and what is found gives its files and numbers
abbrev pub IsMake : List (List ℕ) → MakeAsked → Type 0
IsMake words asked = IsCommand make_command words (λ found. GivesMake found asked)

-- ---- page

-- the files that the command `page` names: the rules, the records, what was released of them, the reasons for that, and the page
pub record PageAsked : Type 0 where
  pub rules : List ℕ
  pub records : List ℕ
  pub released : List ℕ
  pub reasons : List ℕ
  pub page : List ℕ

-- the options of the command: five that name files and have to stand
abbrev pub page_command : App
page_command = command_with (codes "page") (
    must_stand (codes "rules") ∷ must_stand (codes "records") ∷ must_stand (codes "released") ∷ must_stand (codes "reasons")
    ∷ must_stand (codes "page") ∷ [])

-- the names of the five files
abbrev pub page_files_in : PageAsked → List (List ℕ)
page_files_in asked = asked.rules ∷ asked.records ∷ asked.released ∷ asked.reasons ∷ asked.page ∷ []

-- what is found are five names of files, no two of which lead to one file
pub record GivesPage (found : List Row) (asked : PageAsked) : Type 0 where
  pub rules : first_of (codes "rules") found ≡ Some asked.rules
  pub records : first_of (codes "records") found ≡ Some asked.records
  pub released : first_of (codes "released") found ≡ Some asked.released
  pub reasons : first_of (codes "reasons") found ≡ Some asked.reasons
  pub page : first_of (codes "page") found ≡ Some asked.page
  pub apart : AreApart (page_files_in asked)

-- the words ask for a page about an edit: they are the command, and what is found gives its files
abbrev pub IsPage : List (List ℕ) → PageAsked → Type 0
IsPage words asked = IsCommand page_command words (λ found. GivesPage found asked)

-- whatever page the words ask for, the claim holds of it
abbrev pub ForPage : List (String Global) → (PageAsked → Type 0) → Type 0
ForPage words P = (asked : PageAsked) → IsPage (map string_bytes words) asked → P asked

-- ---- any words

-- the words ask for none of these
pub record IsNoCommand (words : List (String Global)) : Type 0 where
  pub no_edit : (asked : EditAsked) → ¬ IsEdit (map string_bytes words) asked
  pub no_classed : (asked : ClassedAsked) → ¬ IsClassed (map string_bytes words) asked
  pub no_check : (asked : CheckAsked) → ¬ IsCheck (map string_bytes words) asked
  pub no_rules : (asked : RulesAsked) → ¬ IsRules (map string_bytes words) asked
  pub no_fill : (asked : FillAsked) → ¬ IsFill (map string_bytes words) asked
  pub no_panel : (asked : PanelAsked) → ¬ IsPanel (map string_bytes words) asked
  pub no_make : (asked : MakeAsked) → ¬ IsMake (map string_bytes words) asked

-- whatever edit the words ask for, the claim holds of it
abbrev pub ForEdit : List (String Global) → (EditAsked → Type 0) → Type 0
ForEdit words P = (asked : EditAsked) → IsEdit (map string_bytes words) asked → P asked

-- whatever edit by classes the words ask for, the claim holds of it
abbrev pub ForClassed : List (String Global) → (ClassedAsked → Type 0) → Type 0
ForClassed words P = (asked : ClassedAsked) → IsClassed (map string_bytes words) asked → P asked

-- whatever check the words ask for, the claim holds of it
abbrev pub ForCheck : List (String Global) → (CheckAsked → Type 0) → Type 0
ForCheck words P = (asked : CheckAsked) → IsCheck (map string_bytes words) asked → P asked

-- whatever the words ask about rules, the claim holds of it
abbrev pub ForRules : List (String Global) → (RulesAsked → Type 0) → Type 0
ForRules words P = (asked : RulesAsked) → IsRules (map string_bytes words) asked → P asked

-- whatever filling the words ask for, the claim holds of it
abbrev pub ForFill : List (String Global) → (FillAsked → Type 0) → Type 0
ForFill words P = (asked : FillAsked) → IsFill (map string_bytes words) asked → P asked

-- whatever editing with the last period the words ask for, the claim holds of it
abbrev pub ForPanel : List (String Global) → (PanelAsked → Type 0) → Type 0
ForPanel words P = (asked : PanelAsked) → IsPanel (map string_bytes words) asked → P asked

-- whatever survey the words ask for, the claim holds of it
abbrev pub ForMake : List (String Global) → (MakeAsked → Type 0) → Type 0
ForMake words P = (asked : MakeAsked) → IsMake (map string_bytes words) asked → P asked
