-- What words ask for, of all commands.
use Rattle.std.specs.Prelude.{◌≡◌, ℕ, List, String, map, string_bytes}
use Rattle.std.specs.declared.alloc.Global.{Global}
use Rattle.command_words.specs.Asked.{CheckAsked, ClassedAsked, EditAsked, FillAsked, MakeAsked, PanelAsked, RulesAsked}
use Rattle.command_words.specs.Asked.{IsCheck, IsClassed, IsEdit, IsFill, IsMake, IsNoCommand, IsPanel, IsRules}
use Rattle.edit_commands.specs.declared.asked.Asked.{Asked}
use Rattle.edit_commands.specs.declared.asked.Asked.TheVariants as asks

-- the texts of words, as bytes
abbrev pub texts_of : List (String Global) → List (List ℕ)
texts_of words = map string_bytes words

-- the words ask for no edit
abbrev pub AsksNoEdit : List (String Global) → Type 0
AsksNoEdit words = (other : EditAsked) → ¬ IsEdit (texts_of words) other

-- the words ask for no edit by classes
abbrev pub AsksNoClassed : List (String Global) → Type 0
AsksNoClassed words = (other : ClassedAsked) → ¬ IsClassed (texts_of words) other

-- the words ask for no check
abbrev pub AsksNoCheck : List (String Global) → Type 0
AsksNoCheck words = (other : CheckAsked) → ¬ IsCheck (texts_of words) other

-- the words ask for nothing about rules
abbrev pub AsksNoRules : List (String Global) → Type 0
AsksNoRules words = (other : RulesAsked) → ¬ IsRules (texts_of words) other

-- the words ask for no filling
abbrev pub AsksNoFill : List (String Global) → Type 0
AsksNoFill words = (other : FillAsked) → ¬ IsFill (texts_of words) other

-- the words ask for no panel
abbrev pub AsksNoPanel : List (String Global) → Type 0
AsksNoPanel words = (other : PanelAsked) → ¬ IsPanel (texts_of words) other

-- the words ask for no survey that is made
abbrev pub AsksNoMake : List (String Global) → Type 0
AsksNoMake words = (other : MakeAsked) → ¬ IsMake (texts_of words) other

-- this is all that the words can be read as, of its kind
abbrev pub IsAll : {A : Type 0} → (A → Type 0) → A → Type 0
IsAll {A} Is asked = (other : A) → Is other → other ≡ asked

-- the words ask for this, and for nothing else
abbrev pub Asks : List (String Global) → Asked → Type 0
Asks words (asks.Edit edit) =
    IsEdit (texts_of words) edit × IsAll (IsEdit (texts_of words)) edit
    × AsksNoClassed words × AsksNoCheck words × AsksNoRules words × AsksNoFill words × AsksNoPanel words × AsksNoMake words
Asks words (asks.Classed classed) =
    IsClassed (texts_of words) classed × IsAll (IsClassed (texts_of words)) classed
    × AsksNoEdit words × AsksNoCheck words × AsksNoRules words × AsksNoFill words × AsksNoPanel words × AsksNoMake words
Asks words (asks.Check check) =
    IsCheck (texts_of words) check × IsAll (IsCheck (texts_of words)) check
    × AsksNoEdit words × AsksNoClassed words × AsksNoRules words × AsksNoFill words × AsksNoPanel words × AsksNoMake words
Asks words (asks.Rules rules) =
    IsRules (texts_of words) rules × IsAll (IsRules (texts_of words)) rules
    × AsksNoEdit words × AsksNoClassed words × AsksNoCheck words × AsksNoFill words × AsksNoPanel words × AsksNoMake words
Asks words (asks.Fill fill) =
    IsFill (texts_of words) fill × IsAll (IsFill (texts_of words)) fill
    × AsksNoEdit words × AsksNoClassed words × AsksNoCheck words × AsksNoRules words × AsksNoPanel words × AsksNoMake words
Asks words (asks.Panel panel) =
    IsPanel (texts_of words) panel × IsAll (IsPanel (texts_of words)) panel
    × AsksNoEdit words × AsksNoClassed words × AsksNoCheck words × AsksNoRules words × AsksNoFill words × AsksNoMake words
Asks words (asks.Make make) =
    IsMake (texts_of words) make × IsAll (IsMake (texts_of words)) make
    × AsksNoEdit words × AsksNoClassed words × AsksNoCheck words × AsksNoRules words × AsksNoFill words × AsksNoPanel words
Asks words asks.Nothing = IsNoCommand words
