-- A printed declaration spells the tokens of its statement.
use Rattle.std.proofs.Common.{ℕ, ◌≤◌, List, [], ◌∷◌, ◌++◌, length, arith}
use Rattle.std.proofs.lemmas.List.Elements.{recursion_from_All}
use Rattle.std.specs.Prelude.{codes, true, false}
use Rattle.std.specs.Fmt.{decimal}
use Rattle.std.specs.List.{AllByRecursion, flat_map}
use Rattle.edit_model.specs.Surveys.{IsField, IsKind, IsName}
use Rattle.edit_model.specs.declared.field.Field.{Field}
use Rattle.edit_model.specs.declared.field.Kind.{Kind}
use Rattle.edit_model.specs.declared.field.Kind.TheVariants as kind
use Rattle.rule_grammar.specs.Names.{IsCodeText}
use Rattle.rule_grammar.specs.Statements.{declaration_tokens, list_tokens, statement_tokens}
use Rattle.rule_grammar.specs.declared.token.Keyword.TheVariants as keyword
use Rattle.rule_grammar.specs.declared.token.Numeral.TheVariants as numeral
use Rattle.rule_grammar.specs.declared.token.Token.{Token}
use Rattle.rule_grammar.specs.declared.token.Token.TheVariants as token
use Rattle.edit_language.specs.Printing.{braced, field_line, kind_text, kind_word}
use Rattle.edit_language.proofs.PrintingPieces.{Leads, Opens, Spells, close_opens, code_spells, comma_opens, keyword_between, keyword_opens, leads_blank}
use Rattle.edit_language.proofs.PrintingPieces.{leads_close, leads_comma, leads_nil, name_spells, number_spells, open_opens, opens_nil, opens_then, spells_from}
use Rattle.edit_language.proofs.PrintingPieces.{spells_opens, spells_then, stops_blank}
use Rattle.edit_language.proofs.PrintingStatements.{code_list, declaration_of, statement_of_field}

-- ---- lists of codes

abbrev later_codes_tokens : List (List ℕ) → List Token
later_codes_tokens list = flat_map (λ (code : List ℕ). token.Comma ∷ token.Code code ∷ []) list

later_codes_lead : (list : List (List ℕ)) → Leads (flat_map (λ (text : List ℕ). codes ", " ++ text) list)
later_codes_lead [] = leads_nil
later_codes_lead (code ∷ list) = leads_comma _

later_codes_spell : (list : List (List ℕ)) → AllByRecursion IsCodeText list
    → Spells true true (flat_map (λ (text : List ℕ). codes ", " ++ text) list) (later_codes_tokens list)
later_codes_spell [] all = spells_from (opens_nil true)
later_codes_spell (code ∷ list) all = spells_then (opens_then comma_opens (code_spells code all.0)) (later_codes_lead list) (later_codes_spell list all.1)

pub braced_spells : (list : List (List ℕ)) → 1 ≤ length list → AllByRecursion IsCodeText list → Spells false false (braced list) (list_tokens (code_list list))
braced_spells [] some all = absurd (omega arith)
braced_spells (code ∷ list) some all =
    spells_then (opens_then open_opens (spells_then (code_spells code all.0) (later_codes_lead list) (later_codes_spell list all.1))) (leads_close [])
    (spells_from close_opens)

-- ---- declarations

front_spells : (name : List ℕ) (weight : ℕ) (k : _) (word : List ℕ) → IsName name → weight ≤ 1000 → Opens false false word (k ∷ [])
    → Spells false false (word ++ name ++ codes " weight " ++ decimal weight)
    (k ∷ token.Name name ∷ token.Keyword keyword.Weight ∷ token.Numeral (numeral.Whole weight) ∷ [])
front_spells name weight k word is small opens =
    opens_then (spells_opens (opens_then opens (name_spells name is)) (λ rest. stops_blank _) (keyword_between keyword.Weight))
    (number_spells weight (omega arith))

kind_spells : (name : List ℕ) (weight : ℕ) (k : Kind) → IsName name → weight ≤ 1000 → IsKind k
    → Spells false false (kind_word k ++ name ++ codes " weight " ++ decimal weight ++ kind_text k) (declaration_tokens (declaration_of name weight k))
kind_spells name weight (kind.Number scale) is small fits =
    spells_then (front_spells name weight _ _ is small (keyword_opens keyword.Number)) (leads_blank _)
    (opens_then (keyword_between keyword.Scale) (number_spells scale (omega (arith, fits.1))))
kind_spells name weight (kind.Code []) is small fits = absurd (omega (arith, fits.0))
kind_spells name weight (kind.Code (code ∷ list)) is small fits =
    let all = recursion_from_All IsCodeText (code ∷ list) fits.2 in
    spells_then (front_spells name weight _ _ is small (keyword_opens keyword.Code)) (leads_blank _)
    (opens_then (keyword_between keyword.In) (braced_spells (code ∷ list) fits.0 all))

pub field_spells : (f : Field) → IsField f → Spells false false (field_line f) (statement_tokens (statement_of_field f))
field_spells f is = kind_spells f.name f.weight f.kind is.name is.weight.1 is.fits
