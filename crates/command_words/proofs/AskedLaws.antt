-- Words ask for one command at most.
use Rattle.std.proofs.Common.{◌≡◌, ◌≢◌, ◌∙◌, ◌≤◌, ℕ, Option, Some, None, Result, Ok, Err, List, [], ◌∷◌, ap, ap₂, refl, subst, sym}
use Rattle.std.specs.Prelude.{IfNone, IfOk, IfSome}
use Rattle.clap.specs.Words.{App, Row, fault_of, matches_of}
use Rattle.clap.specs.declared.parser.matches.ArgMatches.{ArgMatches}
use Rattle.command_words.specs.Asked.{CheckAsked, ClassedAsked, EditAsked, FillAsked, MakeAsked, PageAsked, PanelAsked, RulesAsked}
use Rattle.command_words.specs.Asked.{GivesCheck, GivesClassed, GivesEdit, GivesFill, GivesMake, GivesPage, GivesPanel, GivesRules, IsCommand}
use Rattle.command_words.specs.Options.{GivesNumber}
use Rattle.command_words.specs.inner.Found.{Finds, Takes, rows_in}

-- ---- what is found

one_number : (default least most : ℕ) (text : Option (List ℕ)) (m n : ℕ) → GivesNumber default least most text m → GivesNumber default least most text n
    → m ≡ n
one_number default least most None m n p q = p ∙ sym q
one_number default least most (Some text) m n p q = p.0.2 ∙ sym q.0.2

-- the number of an option is between the least and the most, where the default is
pub between : (default least most : ℕ) (text : Option (List ℕ)) (n : ℕ) → GivesNumber default least most text n → least ≤ default → default ≤ most
    → (least ≤ n) × (n ≤ most)
between default least most None n gives low high = rw gives (low, high)
between default least most (Some text) n gives low high = (gives.1, gives.2)

one_text : (text : Option (List ℕ)) (a b : List ℕ) → text ≡ Some a → text ≡ Some b → a ≡ b
one_text text a b p q = cc

-- an edit of these files, on these terms
abbrev pub edit_of : List ℕ → List ℕ → List ℕ → List ℕ → List ℕ → ℕ → ℕ → ℕ → ℕ → EditAsked
edit_of r c d s p workers budget limit near = record {
  names = record { rules = r; records = c; released = d; reasons = s; proof = p };
  workers = workers;
  budget = budget;
  limit = limit;
  near = near;
}

same_edit : (r c d s p r' c' d' s' p' : List ℕ) (w b l n w' b' l' n' : ℕ) → r ≡ r' → c ≡ c' → d ≡ d' → s ≡ s' → p ≡ p'
    → w ≡ w' → b ≡ b' → l ≡ l' → n ≡ n' → edit_of r c d s p w b l n ≡ edit_of r' c' d' s' p' w' b' l' n'
same_edit r c d s p r' c' d' s' p' w b l n w' b' l' n' er ec ed es ep ew eb el en = cc

-- what is found gives one edit at most
pub one_edit : (found : List Row) (a b : EditAsked) → GivesEdit found a → GivesEdit found b → a ≡ b
one_edit found a b p q =
    same_edit _ _ _ _ _ _ _ _ _ _ _ _ _ _ _ _ _ _
    (one_text _ _ _ p.rules q.rules) (one_text _ _ _ p.records q.records) (one_text _ _ _ p.released q.released)
    (one_text _ _ _ p.reasons q.reasons) (one_text _ _ _ p.proof q.proof)
    (one_number _ _ _ _ _ _ p.workers q.workers) (one_number _ _ _ _ _ _ p.budget q.budget)
    (one_number _ _ _ _ _ _ p.limit q.limit) (one_number _ _ _ _ _ _ p.near q.near)

-- an edit by the classes of this field
abbrev pub classed_of : EditAsked → List ℕ → ClassedAsked
classed_of edit class = record { edit = edit; class = class }

-- and one edit by classes
pub one_classed : (found : List Row) (a b : ClassedAsked) → GivesClassed found a → GivesClassed found b → a ≡ b
one_classed found a b p q = ap₂ classed_of (one_edit found a.edit b.edit p.edit q.edit) (one_text _ _ _ p.class q.class)

-- a check of these files
abbrev pub check_of : List ℕ → List ℕ → List ℕ → List ℕ → CheckAsked
check_of r c d p = record { rules = r; records = c; released = d; proof = p }

same_check : (r c d p r' c' d' p' : List ℕ) → r ≡ r' → c ≡ c' → d ≡ d' → p ≡ p' → check_of r c d p ≡ check_of r' c' d' p'
same_check r c d p r' c' d' p' er ec ed ep = cc

-- and one check
pub one_check : (found : List Row) (a b : CheckAsked) → GivesCheck found a → GivesCheck found b → a ≡ b
one_check found a b p q =
    same_check _ _ _ _ _ _ _ _ (one_text _ _ _ p.rules q.rules) (one_text _ _ _ p.records q.records)
    (one_text _ _ _ p.released q.released) (one_text _ _ _ p.proof q.proof)

-- a question about the rules of this file
abbrev pub rules_of : List ℕ → RulesAsked
rules_of r = record { rules = r }

-- and one such question
pub one_rules : (found : List Row) (a b : RulesAsked) → GivesRules found a → GivesRules found b → a ≡ b
one_rules found a b p q = ap rules_of (one_text _ _ _ p.rules q.rules)

-- a filling of these files, within this budget
abbrev pub fill_of : List ℕ → List ℕ → List ℕ → ℕ → FillAsked
fill_of r c d budget = record { rules = r; records = c; released = d; budget = budget }

same_fill : (r c d r' c' d' : List ℕ) (b b' : ℕ) → r ≡ r' → c ≡ c' → d ≡ d' → b ≡ b' → fill_of r c d b ≡ fill_of r' c' d' b'
same_fill r c d r' c' d' b b' er ec ed eb = cc

-- and one filling
pub one_fill : (found : List Row) (a b : FillAsked) → GivesFill found a → GivesFill found b → a ≡ b
one_fill found a b p q =
    same_fill _ _ _ _ _ _ _ _ (one_text _ _ _ p.rules q.rules) (one_text _ _ _ p.records q.records)
    (one_text _ _ _ p.released q.released) (one_number _ _ _ _ _ _ p.budget q.budget)

-- an editing of these files with the last period's, joined by this column, within this budget
abbrev pub panel_of : List ℕ → List ℕ → List ℕ → List ℕ → List ℕ → List ℕ → List ℕ → ℕ → PanelAsked
panel_of r c l d s p k budget =
    record { rules = r; records = c; last = l; released = d; reasons = s; proof = p; key = k; budget = budget }

same_panel : (r c l d s p k r' c' l' d' s' p' k' : List ℕ) (b b' : ℕ) → r ≡ r' → c ≡ c' → l ≡ l' → d ≡ d' → s ≡ s' → p ≡ p' → k ≡ k'
    → b ≡ b' → panel_of r c l d s p k b ≡ panel_of r' c' l' d' s' p' k' b'
same_panel r c l d s p k r' c' l' d' s' p' k' b b' er ec el ed es ep ek eb = cc

-- and one such editing
pub one_panel : (found : List Row) (a b : PanelAsked) → GivesPanel found a → GivesPanel found b → a ≡ b
one_panel found a b p q =
    same_panel _ _ _ _ _ _ _ _ _ _ _ _ _ _ _ _
    (one_text _ _ _ p.rules q.rules) (one_text _ _ _ p.records q.records) (one_text _ _ _ p.last q.last)
    (one_text _ _ _ p.released q.released) (one_text _ _ _ p.reasons q.reasons) (one_text _ _ _ p.proof q.proof)
    (one_text _ _ _ p.key q.key) (one_number _ _ _ _ _ _ p.budget q.budget)

-- a survey that is made in these files, from this start, with so many records
abbrev pub make_of : List ℕ → List ℕ → ℕ → ℕ → MakeAsked
make_of r c start rows = record { rules = r; records = c; start = start; rows = rows }

same_make : (r c r' c' : List ℕ) (s n s' n' : ℕ) → r ≡ r' → c ≡ c' → s ≡ s' → n ≡ n' → make_of r c s n ≡ make_of r' c' s' n'
same_make r c r' c' s n s' n' er ec es en = cc

-- and one survey that is made
pub one_make : (found : List Row) (a b : MakeAsked) → GivesMake found a → GivesMake found b → a ≡ b
one_make found a b p q =
    same_make _ _ _ _ _ _ _ _ (one_text _ _ _ p.rules q.rules) (one_text _ _ _ p.records q.records)
    (one_number _ _ _ _ _ _ p.start q.start) (one_number _ _ _ _ _ _ p.rows q.rows)

-- a page of these files
abbrev pub page_of : List ℕ → List ℕ → List ℕ → List ℕ → List ℕ → PageAsked
page_of r c d s p = record { rules = r; records = c; released = d; reasons = s; page = p }

same_page : (r c d s p r' c' d' s' p' : List ℕ) → r ≡ r' → c ≡ c' → d ≡ d' → s ≡ s' → p ≡ p' → page_of r c d s p ≡ page_of r' c' d' s' p'
same_page r c d s p r' c' d' s' p' er ec ed es ep = cc

-- and one page
pub one_page : (found : List Row) (a b : PageAsked) → GivesPage found a → GivesPage found b → a ≡ b
one_page found a b p q =
    same_page _ _ _ _ _ _ _ _ _ _ (one_text _ _ _ p.rules q.rules) (one_text _ _ _ p.records q.records)
    (one_text _ _ _ p.released q.released) (one_text _ _ _ p.reasons q.reasons) (one_text _ _ _ p.page q.page)

-- ---- a command and what is found for it

module _ (command : App) (words : List (List ℕ)) (Holds : List Row → Type 0) where
  -- where nothing is found for it, the words don't ask for it
  pub not_asked : ((rows : List Row) → ¬ Finds command words rows) → ¬ IsCommand command words Holds
  not_asked none is = none _ (record { others = is.others; named = is.named; taken = is.taken; found = refl })

  module _ (rows : List Row) (finds : Finds command words rows) where
    -- what holds of what was found holds of what the words say
    pub asked_by : Holds rows → IsCommand command words Holds
    asked_by holds = record { others = finds.others; named = finds.named; taken = finds.taken; found = subst Holds (sym finds.found) holds }

    same_others : (is : IsCommand command words Holds) → is.others ≡ finds.others
    same_others is = let this = is.named in let that = finds.named in cc

    -- and the other way round
    pub found_by : IsCommand command words Holds → Holds rows
    found_by is = subst Holds (ap (matches_of command) (same_others is) ∙ finds.found) is.found

-- ---- a command and the words behind its name

module _ (command app : App) (same : app ≡ command) (words others : List (List ℕ)) (named : words ≡ command.top.name ∷ others) where
  -- what is found in the words behind the name is found in the words
  pub found_for : {E : Type 0} (r : Result (Option ArgMatches) E) → IfOk r (λ found. IfSome found (Takes app others))
      → IfOk r (λ found. IfSome found (λ one. Finds command words (rows_in one)))
  found_for (Err e) taken = tt
  found_for (Ok None) taken = tt
  found_for (Ok (Some one)) taken =
      let takes = subst (λ (a : App). Takes a others one) same taken in
      record { others = others; named = named; taken = takes.taken; found = takes.rows }

  -- and where `clap` refuses those, nothing is
  pub none_for : {E : Type 0} (r : Result (Option ArgMatches) E) → IfOk r (λ found. IfNone found (fault_of app others ≢ []))
      → IfOk r (λ found. IfNone found ((rows : List Row) → ¬ Finds command words rows))
  none_for (Err e) refused = tt
  none_for (Ok None) refused = λ rows finds.
      let those : finds.others ≡ others = let this = finds.named in let that = named in cc in
      let taken = subst (λ (more : List (List ℕ)). fault_of command more ≡ []) those finds.taken in
      refused (subst (λ (a : App). fault_of a others ≡ []) (sym same) taken)
  none_for (Ok (Some one)) refused = tt

-- ---- answers

pub if_none : {A P Q : Type 0} (r : Option A) → (P → Q) → IfNone r P → IfNone r Q
if_none None f p = f p
if_none (Some a) f p = tt

pub if_some : {A : Type 0} {P Q : A → Type 0} (r : Option A) → ((a : A) → P a → Q a) → IfSome r P → IfSome r Q
if_some None f p = tt
if_some (Some a) f p = f a p
