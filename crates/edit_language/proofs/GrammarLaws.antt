-- A rule text is read in one way, line after line, and its first fault is one.
use Rattle.std.proofs.Common.{◌≡◌, ◌⊎◌, ℕ, ◌+◌, ◌-◌, ◌<◌, ◌≤◌, ◌==◌, true, false, if◌then◌else◌, List, [], ◌∷◌, ◌++◌, length, Option, Some, None, Result, Ok}
use Rattle.std.proofs.Common.{Err, IfErr, refl, sym, ap, ◌∙◌, subst, inl, inr, arith, append_assoc, length-append}
use Rattle.std.specs.List.{after_first, before_first, list_any, position_or_len, slice_split}
use Rattle.std.proofs.lemmas.Bool.{both_ways}
use Rattle.std.proofs.lemmas.List.{length-drop}
use Rattle.std.proofs.lemmas.List.Splits.{slice_split_first, slice_split_none}
use Rattle.std.proofs.lemmas.List.Sums.{fails_before_first}
use Rattle.edit_model.specs.Parts.{SurveyParts}
use Rattle.rule_grammar.specs.LineTexts.{IsLineText}
use Rattle.rule_grammar.specs.declared.line.LineText.{LineText}
use Rattle.rule_grammar.specs.declared.line.LineText.TheVariants as line_text
use Rattle.rule_grammar.specs.Statements.{statement_tokens, conditions_tokens, test_tokens, sign_tokens, term_tokens}
use Rattle.rule_grammar.specs.Tokens.{tokens_of}
use Rattle.rule_grammar.specs.declared.statement.Declaration.TheVariants as declaration
use Rattle.rule_grammar.specs.declared.statement.Statement.{Statement as Written}
use Rattle.rule_grammar.specs.declared.statement.Statement.TheVariants as statement
use Rattle.rule_grammar.specs.declared.statement.TermText.{TermText}
use Rattle.rule_grammar.specs.declared.statement.TermText.TheVariants as term
use Rattle.rule_grammar.specs.declared.statement.TestText.{TestText}
use Rattle.rule_grammar.specs.declared.statement.TestText.TheVariants as test
use Rattle.rule_grammar.specs.declared.token.Sign.{Sign}
use Rattle.rule_grammar.specs.declared.token.Token.{Token}
use Rattle.edit_language.specs.Faults.{has_fault, kind_number}
use Rattle.edit_language.specs.Grammar.{Adds, AddsAll, HasFault, IsLeastFault, IsRuleText, IsRulesFault, SaysStatement, SaysNothing, no_statements}
use Rattle.edit_language.specs.Lines.{has_bad_byte, is_bad_byte, read_part, text_lines}
use Rattle.edit_language.specs.Meaning.{extended}
use Rattle.edit_language.specs.Reading.{IsFaultOf, IsNoRuleText, IsOnlyFaultOf}
use Rattle.edit_language.specs.declared.fault.RulesFault.{RulesFault}
use Rattle.edit_language.specs.declared.fault.RulesFault.TheVariants as faults
use Rattle.edit_language.specs.declared.fault.RulesKind.{RulesKind}
use Rattle.edit_language.specs.declared.fault.RulesKind.TheVariants.{BadByte, Syntax, UnknownField, DoubleField, UnknownCode, DoubleCode, NumberRange, TooMany}
use Rattle.edit_language.specs.declared.fault.RulesKind.TheVariants.{ConditionForm}
use Rattle.edit_language.specs.inner.FirstFault.{IsLeastOf}
use Rattle.edit_language.specs.inner.LineFaults.{IsFaultOfLine, IsFaultOfStatement}
use Rattle.rule_grammar.proofs.StatementLaws.{one_statement}

-- ---- statements

-- a statement has tokens
pub some_token : (s : Written) → statement_tokens s ≡ [] → ⊥
some_token (statement.Declaration (declaration.Number name weight scale)) e = cc
some_token (statement.Declaration (declaration.Code name weight list)) e = cc
some_token (statement.Rule r) e = in_rule r.conditions r.conclusion e
  where
    in_sum : (sign : Option Sign) (t : TermText) (more rest : List Token) → sign_tokens sign ++ term_tokens t ++ more ++ rest ≡ [] → ⊥
    in_sum (Some sign) t more rest e = cc
    in_sum None (term.Product factor times field) more rest e = cc
    in_sum None (term.Field field) more rest e = cc
    in_sum None (term.Constant number) more rest e = cc

    in_test : (t : TestText) → test_tokens t ≡ [] → ⊥
    in_test (test.Codes field negated list) e = cc
    in_test (test.Sums left compare right) e = in_sum left.sign left.first _ _ e

    in_rule : (conditions : List TestText) (conclusion : TestText) → conditions_tokens conditions ++ test_tokens conclusion ≡ [] → ⊥
    in_rule [] conclusion e = in_test conclusion e
    in_rule (first ∷ rest) conclusion e = cc

-- a line says one thing
pub says_once : (line : List ℕ) (s t : Written) → SaysStatement line s → SaysStatement line t → s ≡ t
says_once line s t first second = one_statement s t (sym first.tokens ∙ second.tokens)

-- a line that says something is not empty
pub says_some : (line : List ℕ) (s : Written) → SaysStatement line s → tokens_of (read_part line) ≡ [] → ⊥
says_some line s says empty = some_token s (sym says.tokens ∙ empty)

-- ---- faults

-- a kind is known by its number
kind_of : ℕ → RulesKind
kind_of n = if n == 1 then BadByte else if n == 2 then Syntax else if n == 3 then UnknownField else if n == 4 then DoubleField else if n == 5 then UnknownCode
    else if n == 6 then DoubleCode else if n == 7 then NumberRange else if n == 8 then TooMany else ConditionForm

numbered : (kind : RulesKind) → kind_of (kind_number kind) ≡ kind
unfolding kind_of
numbered BadByte = refl
numbered Syntax = refl
numbered UnknownField = refl
numbered DoubleField = refl
numbered UnknownCode = refl
numbered DoubleCode = refl
numbered NumberRange = refl
numbered TooMany = refl
numbered ConditionForm = refl

-- the fault of a statement is one of its line
pub fault_of_line : (line : List ℕ) (before : SurveyParts) (s : Written) (kind : RulesKind) → SaysStatement line s → has_fault before s kind ≡ true
    → HasFault line before kind
fault_of_line line before s BadByte says e = absurd cc
fault_of_line line before s Syntax says e = absurd cc
fault_of_line line before s UnknownField says e = (s, says, e)
fault_of_line line before s DoubleField says e = (s, says, e)
fault_of_line line before s UnknownCode says e = (s, says, e)
fault_of_line line before s DoubleCode says e = (s, says, e)
fault_of_line line before s NumberRange says e = (s, says, e)
fault_of_line line before s TooMany says e = (s, says, e)
fault_of_line line before s ConditionForm says e = (s, says, e)

-- a fault is of one of three sorts
IsSort : List ℕ → SurveyParts → RulesKind → Type 0
IsSort line before kind = ((kind ≡ BadByte) × (has_bad_byte line ≡ true))
    ⊎ (((kind ≡ Syntax) × SaysNothing line) ⊎ ((s : Written) × SaysStatement line s × (has_fault before s kind ≡ true)))

sort_of : (line : List ℕ) (before : SurveyParts) (kind : RulesKind) → HasFault line before kind → IsSort line before kind
unfolding IsSort
sort_of line before BadByte h = inl (refl, h)
sort_of line before Syntax h = inr (inl (refl, h))
sort_of line before UnknownField h = inr (inr h)
sort_of line before DoubleField h = inr (inr h)
sort_of line before UnknownCode h = inr (inr h)
sort_of line before DoubleCode h = inr (inr h)
sort_of line before NumberRange h = inr (inr h)
sort_of line before TooMany h = inr (inr h)
sort_of line before ConditionForm h = inr (inr h)

-- the least fault of a statement is that of its line
pub least_of_line : (line : List ℕ) (before : SurveyParts) (s : Written) (kind : RulesKind) → SaysStatement line s → IsLeastOf before s kind
    → IsLeastFault line before kind
unfolding IsSort
least_of_line line before s kind says is = record {
  has = fault_of_line line before s kind says is.has;
  least = λ other fault. by other (sort_of line before other fault);
}
  where
    by : (other : RulesKind) → IsSort line before other → kind_number kind ≤ kind_number other
    by other (inl a) = absurd (both_ways (has_bad_byte line) says.clean a.1)
    by other (inr (inl a)) = absurd (a.1.unsaid s says.tokens)
    by other (inr (inr a)) = is.least other (ap (λ (t : Written). has_fault before t other) (says_once line s a.0 says a.1) ∙ a.2)

-- a line has one least fault
pub faults_once : (line : List ℕ) (before : SurveyParts) (k l : RulesKind) → IsLeastFault line before k → IsLeastFault line before l → k ≡ l
faults_once line before k l first second =
    let below = first.least l second.has in
    let above = second.least k first.has in
    let same : kind_number k ≡ kind_number l = omega arith in
    sym (numbered k) ∙ ap kind_of same ∙ numbered l

-- a line with a fault adds nothing
pub fault_stops : (line : List ℕ) (before after : SurveyParts) (kind : RulesKind) → HasFault line before kind → Adds line before after → ⊥
unfolding IsSort
fault_stops line before after kind fault adds = by (sort_of line before kind fault) adds
  where
    by : IsSort line before kind → Adds line before after → ⊥
    by (inl a) (inl b) = both_ways (has_bad_byte line) b.0.clean a.1
    by (inl a) (inr b) = both_ways (has_bad_byte line) b.says.clean a.1
    by (inr (inl a)) (inl b) = a.1.not_empty b.0.tokens
    by (inr (inl a)) (inr b) = a.1.unsaid b.statement b.says.tokens
    by (inr (inr a)) (inl b) = says_some line a.0 a.1 b.0.tokens
    by (inr (inr a)) (inr b) =
        let has : has_fault before b.statement kind ≡ true = ap (λ (t : Written). has_fault before t kind) (says_once line b.statement a.0 b.says a.1) ∙ a.2 in
        both_ways (has_fault before b.statement kind) (b.faultless kind) has

-- a line with a fault is not empty
pub fault_needs_bytes : (before : SurveyParts) (kind : RulesKind) → HasFault [] before kind → ⊥
fault_needs_bytes before kind fault = fault_stops [] before before kind fault (inl (record { clean = refl; tokens = refl }, refl))

-- a line adds one thing
pub adds_once : (line : List ℕ) (before a b : SurveyParts) → Adds line before a → Adds line before b → a ≡ b
adds_once line before a b (inl first) (inl second) = first.1 ∙ sym second.1
adds_once line before a b (inl first) (inr second) = absurd (says_some line second.statement second.says first.0.tokens)
adds_once line before a b (inr first) (inl second) = absurd (says_some line first.statement first.says second.0.tokens)
adds_once line before a b (inr first) (inr second) = first.grown ∙ ap (extended before) (says_once line first.statement second.statement first.says second.says)
    ∙ sym second.grown

-- ---- texts

-- lines that add up, and one line more
pub adds_more : (lines : List (List ℕ)) (line : List ℕ) (a b c : SurveyParts) → AddsAll lines a b → Adds line b c → AddsAll (lines ++ line ∷ []) a c
adds_more [] line a b c all one = (c, subst (λ (s : SurveyParts). Adds line s c) all one, refl)
adds_more (first ∷ lines) line a b c all one = (all.0, all.1, adds_more lines line all.0 b c all.2 one)

-- lines add up to one survey
pub all_once : (lines : List (List ℕ)) (before a b : SurveyParts) → AddsAll lines before a → AddsAll lines before b → a ≡ b
all_once [] before a b first second = first ∙ sym second
all_once (line ∷ lines) before a b first second =
    let next : first.0 ≡ second.0 = adds_once line before first.0 second.0 first.1 second.1 in
    all_once lines second.0 a b (subst (λ (s : SurveyParts). AddsAll lines s a) next first.2) second.2

-- a text is the rule text of one survey
pub rule_text_once : (bytes : List ℕ) (a b : SurveyParts) → IsRuleText bytes a → IsRuleText bytes b → a ≡ b
rule_text_once bytes a b first second = all_once (text_lines bytes) no_statements a b first second

-- lines of which one has a fault add up to nothing
fault_stops_all : (earlier : List (List ℕ)) (line : List ℕ) (later : List (List ℕ)) (before at after : SurveyParts) (kind : RulesKind)
    → AddsAll earlier before at → HasFault line at kind → AddsAll (earlier ++ line ∷ later) before after → ⊥
fault_stops_all [] line later before at after kind read fault all =
    fault_stops line before all.0 kind (subst (λ (s : SurveyParts). HasFault line s kind) read fault) all.1
fault_stops_all (first ∷ earlier) line later before at after kind read fault all =
    let next : all.0 ≡ read.0 = adds_once first before all.0 read.0 all.1 read.1 in
    fault_stops_all earlier line later read.0 at after kind read.2 fault (subst (λ (s : SurveyParts). AddsAll (earlier ++ line ∷ later) s after) next all.2)

-- a text that has a fault is no rule text
pub no_rule_text : (bytes : List ℕ) (number : ℕ) (kind : RulesKind) → IsRulesFault bytes number kind → (survey : SurveyParts) → ¬ IsRuleText bytes survey
no_rule_text bytes number kind fault survey text = fault_stops_all fault.earlier fault.line fault.later no_statements fault.before survey kind fault.read
    fault.fault.has (subst (λ (lines : List (List ℕ)). AddsAll lines no_statements survey) fault.split text)

-- the first fault of lines is one
first_once : (e : List (List ℕ)) (m : List ℕ) (r : List (List ℕ)) (f : List (List ℕ)) (n : List ℕ) (q : List (List ℕ)) (before a b : SurveyParts)
    (k l : RulesKind) → e ++ m ∷ r ≡ f ++ n ∷ q
    → AddsAll e before a → IsLeastFault m a k → AddsAll f before b → IsLeastFault n b l → (length e ≡ length f) × (k ≡ l)
first_once [] m r [] n q before a b k l same read fault also other =
    let line : m ≡ n = cc in (
      refl,
      faults_once n before k l (subst (λ (t : List ℕ). IsLeastFault t before k) line (subst (λ (s : SurveyParts). IsLeastFault m s k) read fault))
          (subst (λ (s : SurveyParts). IsLeastFault n s l) also other),
    )
first_once [] m r (g ∷ f) n q before a b k l same read fault also other =
    let line : m ≡ g = cc in
    absurd (fault_stops g before also.0 k (subst (λ (t : List ℕ). HasFault t before k) line
    (subst (λ (s : SurveyParts). HasFault m s k) read fault.has)) also.1)
first_once (d ∷ e) m r [] n q before a b k l same read fault also other =
    let line : n ≡ d = cc in
    absurd (fault_stops d before read.0 l (subst (λ (t : List ℕ). HasFault t before l) line
    (subst (λ (s : SurveyParts). HasFault n s l) also other.has)) read.1)
first_once (d ∷ e) m r (g ∷ f) n q before a b k l same read fault also other =
    let line : d ≡ g = cc in
    let rest : e ++ m ∷ r ≡ f ++ n ∷ q = cc in
    let next : read.0 ≡ also.0 = adds_once g before read.0 also.0 (subst (λ (t : List ℕ). Adds t before read.0) line read.1) also.1 in
    let both = first_once e m r f n q also.0 a b k l rest (subst (λ (s : SurveyParts). AddsAll e s a) next read.2) fault also.2 other in
    (omega (arith, both.0), both.1)

-- a text has one first fault
pub rules_fault_once : (bytes : List ℕ) (m n : ℕ) (k l : RulesKind) → IsRulesFault bytes m k → IsRulesFault bytes n l → (m ≡ n) × (k ≡ l)
rules_fault_once bytes m n k l first second =
    let both = first_once first.earlier first.line first.later second.earlier second.line second.later no_statements first.before second.before k l
    (sym first.split ∙ second.split) first.read first.fault second.read second.fault in
    (first.counted ∙ ap (λ (n : ℕ). n + 1) both.0 ∙ sym second.counted, both.1)

-- ---- reading line after line

-- the lines that are read make the draft, and the rest of the text has the other lines
pub record IsReadTo (bytes rest : List ℕ) (number : ℕ) (draft : SurveyParts) : Type 0 where
  pub earlier : List (List ℕ)
  pub split : text_lines bytes ≡ earlier ++ slice_split (λ b. b == 10) rest
  pub counted : length earlier ≡ number
  pub read : AddsAll earlier no_statements draft
  pub within : number + length rest ≤ length bytes

-- one line more
pub read_more : (bytes rest : List ℕ) (number : ℕ) (draft next : SurveyParts) (line after : List ℕ) → IsReadTo bytes rest number draft
    → line ≡ before_first (λ b. b == 10) rest → after ≡ after_first (λ b. b == 10) rest → position_or_len (λ b. b == 10) rest < length rest
    → Adds line draft next → IsReadTo bytes after (number + 1) next
read_more bytes rest number draft next line after so_far is_line is_after ended adds =
    let cut : slice_split (λ b. b == 10) rest ≡ line ∷ slice_split (λ b. b == 10) after = slice_split_first (λ b. b == 10) rest 0 ended
    ∙ rw (is_line, is_after) refl in
    record {
      earlier = so_far.earlier ++ line ∷ [];
      split = so_far.split ∙ ap (λ (lines : List (List ℕ)). so_far.earlier ++ lines) cut
          ∙ sym (append_assoc so_far.earlier (line ∷ []) (slice_split (λ b. b == 10) after));
      counted = length-append so_far.earlier (line ∷ []) ∙ ap (λ (n : ℕ). n + 1) so_far.counted;
      read = adds_more so_far.earlier line no_statements draft next so_far.read adds;
      within = let left : length after ≡ length rest - (position_or_len (λ b. b == 10) rest + 1) = ap (λ (bs : List ℕ). length bs) is_after
          ∙ length-drop (position_or_len (λ b. b == 10) rest + 1) rest in
          let bound = so_far.within in omega arith;
    }

-- the fault of the line that comes next
pub fault_at : (bytes rest : List ℕ) (number : ℕ) (draft : SurveyParts) (line after : List ℕ) (kind : RulesKind) → IsReadTo bytes rest number draft
    → line ≡ before_first (λ b. b == 10) rest → after ≡ after_first (λ b. b == 10) rest → position_or_len (λ b. b == 10) rest < length rest
    → IsLeastFault line draft kind → IsRulesFault bytes (number + 1) kind
fault_at bytes rest number draft line after kind so_far is_line is_after ended fault =
    let cut : slice_split (λ b. b == 10) rest ≡ line ∷ slice_split (λ b. b == 10) after = slice_split_first (λ b. b == 10) rest 0 ended
    ∙ rw (is_line, is_after) refl in
    record {
      earlier = so_far.earlier;
      line = line;
      later = slice_split (λ b. b == 10) after;
      before = draft;
      split = so_far.split ∙ ap (λ (lines : List (List ℕ)). so_far.earlier ++ lines) cut;
      counted = ap (λ (n : ℕ). n + 1) (sym so_far.counted);
      read = so_far.read;
      fault = fault;
    }

-- the last line has no line feed
last_line : (rest : List ℕ) → position_or_len (λ b. b == 10) rest ≡ length rest → slice_split (λ b. b == 10) rest ≡ rest ∷ []
last_line rest none = slice_split_none (λ b. b == 10) rest (λ k d below. fails_before_first (λ b. b == 10) rest k d (omega arith))

-- its fault
pub fault_at_last : (bytes rest : List ℕ) (number : ℕ) (draft : SurveyParts) (kind : RulesKind) → IsReadTo bytes rest number draft
    → position_or_len (λ b. b == 10) rest ≡ length rest → IsLeastFault rest draft kind → IsRulesFault bytes (number + 1) kind
fault_at_last bytes rest number draft kind so_far none fault =
    record {
      earlier = so_far.earlier;
      line = rest;
      later = [];
      before = draft;
      split = so_far.split ∙ ap (λ (lines : List (List ℕ)). so_far.earlier ++ lines) (last_line rest none);
      counted = ap (λ (n : ℕ). n + 1) (sym so_far.counted);
      read = so_far.read;
      fault = fault;
    }

-- all lines are read
pub read_all : (bytes rest : List ℕ) (number : ℕ) (draft survey : SurveyParts) → IsReadTo bytes rest number draft
    → position_or_len (λ b. b == 10) rest ≡ length rest → Adds rest draft survey → IsRuleText bytes survey
read_all bytes rest number draft survey so_far none adds =
    let lines : text_lines bytes ≡ so_far.earlier ++ rest ∷ [] = so_far.split ∙ ap (λ (lines : List (List ℕ)). so_far.earlier ++ lines) (last_line rest none) in
    subst (λ (ls : List (List ℕ)). AddsAll ls no_statements survey) (sym lines) (adds_more so_far.earlier rest no_statements draft survey so_far.read adds)

-- ---- what an answer says

-- the fault of a statement, told of its line
pub told_of_line : (line : List ℕ) (before : SurveyParts) (number : ℕ) (s : Written) (fault : RulesFault) → SaysStatement line s
    → IsFaultOfStatement s before number fault → IsFaultOfLine line before number fault
told_of_line line before number s (faults.At at kind) says told = (told.0, least_of_line line before s kind says told.1)
told_of_line line before number s faults.OutOfMemory says told = tt

-- an answer that tells the fault of the statement tells that of its line
pub told_by_line : {A : Type 0} (line : List ℕ) (before : SurveyParts) (number : ℕ) (s : Written) (answer : Result A RulesFault) → SaysStatement line s
    → IfErr answer (λ fault. IsFaultOfStatement s before number fault) → IfErr answer (λ fault. IsFaultOfLine line before number fault)
told_by_line line before number s (Ok x) says told = tt
told_by_line line before number s (Err fault) says told = told_of_line line before number s fault says told

-- an answer that hands on a fault
pub handed_on : {A : Type 0} (answer : Result A RulesFault) (P : RulesFault → Type 0) (told fault : RulesFault) → answer ≡ Err told → told ≡ fault → P fault
    → IfErr answer P
handed_on answer P told fault is same holds = rw (is, same) holds

-- what the reader of a line found is what the line says
pub says_of : (line text : List ℕ) (found : LineText) (s : Written) → text ≡ read_part line → list_any is_bad_byte text ≡ false → found ≡ line_text.Says s
    → IsLineText text found → SaysStatement line s
says_of line text found s part clean is read =
    let says : IsLineText text (line_text.Says s) = subst (λ (l : LineText). IsLineText text l) is read in
    record { clean = ap (list_any is_bad_byte) (sym part) ∙ clean; tokens = ap tokens_of (sym part) ∙ says.0 }

-- the fault is the text's, its only one, and the text is no rule text
IsAnswer : List ℕ → RulesFault → Type 0
IsAnswer bytes fault = IsFaultOf bytes fault × IsOnlyFaultOf bytes fault × IsNoRuleText bytes fault

answer_of : (bytes : List ℕ) (number : ℕ) (kind : RulesKind) → IsRulesFault bytes number kind → IsAnswer bytes (faults.At number kind)
unfolding IsAnswer
answer_of bytes number kind fault = (fault, (λ n k also. rules_fault_once bytes n number k kind also fault), no_rule_text bytes number kind fault)

-- the fault of the line that comes next, told of the text
pub told_next : (bytes rest : List ℕ) (number : ℕ) (draft : SurveyParts) (line after : List ℕ) (fault : RulesFault) → IsReadTo bytes rest number draft
    → line ≡ before_first (λ b. b == 10) rest → after ≡ after_first (λ b. b == 10) rest → position_or_len (λ b. b == 10) rest < length rest
    → IsFaultOfLine line draft (number + 1) fault
    → IsFaultOf bytes fault × IsOnlyFaultOf bytes fault × IsNoRuleText bytes fault
unfolding IsAnswer
told_next bytes rest number draft line after (faults.At at kind) so_far is_line is_after ended told =
    subst (λ (n : ℕ). IsAnswer bytes (faults.At n kind)) (sym told.0)
    (answer_of bytes (number + 1) kind (fault_at bytes rest number draft line after kind so_far is_line is_after ended told.1))
told_next bytes rest number draft line after faults.OutOfMemory so_far is_line is_after ended told = (tt, tt, tt)

-- the fault of the last line
pub told_last : (bytes rest : List ℕ) (number : ℕ) (draft : SurveyParts) (fault : RulesFault) → IsReadTo bytes rest number draft
    → position_or_len (λ b. b == 10) rest ≡ length rest → IsFaultOfLine rest draft (number + 1) fault
    → IsFaultOf bytes fault × IsOnlyFaultOf bytes fault × IsNoRuleText bytes fault
unfolding IsAnswer
told_last bytes rest number draft (faults.At at kind) so_far none told =
    subst (λ (n : ℕ). IsAnswer bytes (faults.At n kind)) (sym told.0)
    (answer_of bytes (number + 1) kind (fault_at_last bytes rest number draft kind so_far none told.1))
told_last bytes rest number draft faults.OutOfMemory so_far none told = (tt, tt, tt)
