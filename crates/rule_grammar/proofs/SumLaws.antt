-- What is read as a term and as a sum has its tokens, and its tokens are read as it.
use Rattle.std.proofs.Common.{◌≡◌, refl, ap, ◌∙◌, ℕ, Bool, true, false, Option, Some, None, List, [], ◌∷◌, ◌++◌, if◌then◌else◌, arith}
use Rattle.std.specs.List.{flat_map}
use Rattle.std.proofs.lemmas.List.{append_assoc}
use Rattle.rule_grammar.proofs.ManyLaws.{many_back, many_spells}
use Rattle.rule_grammar.proofs.ReadLaws.{Shortens, Spells, name_spells, shortens_spelled, sign_spells, spells_after, spells_as, spells_behind}
use Rattle.rule_grammar.specs.inner.Parsing.{begins, factor_at, is_sign, many_at, name_at, sign_at, signed_term_at, sum_after, sum_at, term_at, then_read}
use Rattle.rule_grammar.specs.Statements.{sign_tokens, signed_term_tokens, sum_tokens, term_tokens}
use Rattle.rule_grammar.specs.declared.statement.SignedTerm.{SignedTerm}
use Rattle.rule_grammar.specs.declared.statement.SumText.{SumText}
use Rattle.rule_grammar.specs.declared.statement.TermText.{TermText}
use Rattle.rule_grammar.specs.declared.statement.TermText.TheVariants as term
use Rattle.rule_grammar.specs.declared.token.Numeral.{Numeral}
use Rattle.rule_grammar.specs.declared.token.Sign.{Sign}
use Rattle.rule_grammar.specs.declared.token.Token.{Token}
use Rattle.rule_grammar.specs.declared.token.Token.TheVariants as token

-- ---- what is read has its tokens

factor_spells : (number : Numeral) (ts : List Token) → Spells term_tokens (token.Numeral number ∷ ts) (factor_at number ts)
factor_spells number (token.Name field ∷ ts) = refl
factor_spells number (token.Times ∷ ts) = spells_as (λ field. token.Numeral number ∷ token.Times ∷ token.Name field ∷ []) term_tokens
    (λ field. term.Product number true field) (token.Numeral number ∷ token.Times ∷ ts) (name_at ts) (λ field. refl)
    (spells_behind (token.Numeral number ∷ token.Times ∷ []) (λ field. token.Name field ∷ []) ts (name_at ts) (name_spells ts))
factor_spells number _ = refl

pub term_spells : (ts : List Token) → Spells term_tokens ts (term_at ts)
term_spells (token.Name field ∷ ts) = refl
term_spells (token.Numeral number ∷ ts) = factor_spells number ts
term_spells _ = tt

pub signed_term_spells : (ts : List Token) → Spells signed_term_tokens ts (signed_term_at ts)
signed_term_spells ts = spells_after (λ s. token.Sign s ∷ []) signed_term_tokens ts (sign_at ts)
    (λ s after_sign. then_read (term_at after_sign) (λ t left. Some (record { sign = s; term = t }, left))) (sign_spells ts)
    (λ s left. spells_as (λ t. token.Sign s ∷ term_tokens t) signed_term_tokens (λ t. record { sign = s; term = t }) (token.Sign s ∷ left) (term_at left)
    (λ t. refl) (spells_behind (token.Sign s ∷ []) term_tokens left (term_at left) (term_spells left)))

pub signed_term_shortens : (ts : List Token) → Shortens ts (signed_term_at ts)
signed_term_shortens ts = shortens_spelled signed_term_tokens ts (signed_term_at ts) (λ x. omega arith) (signed_term_spells ts)

pub sum_after_spells : (s : Option Sign) (t : TermText) (ts : List Token) → Spells sum_tokens ((sign_tokens s ++ term_tokens t) ++ ts) (sum_after s t ts)
sum_after_spells s t ts = spells_as (λ more. (sign_tokens s ++ term_tokens t) ++ flat_map signed_term_tokens more) sum_tokens
    (λ more. record { sign = s; first = t; rest = more }) ((sign_tokens s ++ term_tokens t) ++ ts) (many_at is_sign signed_term_at ts) (λ more. refl)
    (spells_behind (sign_tokens s ++ term_tokens t) (flat_map signed_term_tokens) ts (many_at is_sign signed_term_at ts)
    (many_spells is_sign signed_term_at signed_term_tokens signed_term_spells ts))

pub sum_spells : (ts : List Token) → Spells sum_tokens ts (sum_at ts)
sum_spells ts = elim (begins is_sign ts) as (λ b. Spells sum_tokens ts
    (if b then then_read (sign_at ts) (λ s after_sign. then_read (term_at after_sign) (sum_after (Some s))) else then_read (term_at ts) (sum_after None))) [
      | true ↦ spells_after (λ s. token.Sign s ∷ []) sum_tokens ts (sign_at ts) (λ s after_sign. then_read (term_at after_sign) (sum_after (Some s)))
          (sign_spells ts) (λ s left. spells_after (λ t. token.Sign s ∷ term_tokens t) sum_tokens (token.Sign s ∷ left) (term_at left) (sum_after (Some s))
          (spells_behind (token.Sign s ∷ []) term_tokens left (term_at left) (term_spells left)) (sum_after_spells (Some s)))
      | false ↦ spells_after term_tokens sum_tokens ts (term_at ts) (sum_after None) (term_spells ts) (sum_after_spells None)
    ]

-- ---- its tokens are read as it

-- what goes on with a term
abbrev pub extends_term : Token → Bool
extends_term (token.Name name) = true
extends_term token.Times = true
extends_term _ = false

-- what goes on with a sum
abbrev pub extends_sum : Token → Bool
extends_sum (token.Name name) = true
extends_sum token.Times = true
extends_sum (token.Sign s) = true
extends_sum _ = false

ends_term : (ts : List Token) → begins extends_sum ts ≡ false → begins extends_term ts ≡ false
ends_term (token.Name name ∷ ts) ends = ends
ends_term (token.Times ∷ ts) ends = ends
ends_term _ ends = refl

ends_signs : (ts : List Token) → begins extends_sum ts ≡ false → begins is_sign ts ≡ false
ends_signs (token.Sign s ∷ ts) ends = ends
ends_signs _ ends = refl

constant_back : (number : Numeral) (ts : List Token) → begins extends_term ts ≡ false → factor_at number ts ≡ Some (term.Constant number, ts)
constant_back number (token.Name name ∷ ts) ends = absurd (cc)
constant_back number (token.Times ∷ ts) ends = absurd (cc)
constant_back number _ ends = refl

product_back : (number : Numeral) (times : Bool) (field : List ℕ) (ts : List Token)
    → term_at (term_tokens (term.Product number times field) ++ ts) ≡ Some (term.Product number times field, ts)
product_back number true field ts = refl
product_back number false field ts = refl

pub term_back : (t : TermText) (ts : List Token) → begins extends_term ts ≡ false → term_at (term_tokens t ++ ts) ≡ Some (t, ts)
term_back (term.Product number times field) ts ends = product_back number times field ts
term_back (term.Field field) ts ends = refl
term_back (term.Constant number) ts ends = constant_back number ts ends

signed_term_back : (x : SignedTerm) (ts : List Token) → begins extends_term ts ≡ false → signed_term_at (signed_term_tokens x ++ ts) ≡ Some (x, ts)
signed_term_back x ts ends = rw (term_back x.term ts ends) refl

signed_terms_back : (ts : List Token) → begins extends_sum ts ≡ false → (xs : List SignedTerm)
    → many_at is_sign signed_term_at (flat_map signed_term_tokens xs ++ ts) ≡ Some (xs, ts)
signed_terms_back ts ends = many_back is_sign signed_term_at extends_term signed_term_tokens signed_term_back (λ x left. refl)
    (λ x left. refl) signed_term_shortens ts (ends_signs ts ends) (ends_term ts ends)

pub sum_after_back : (s : SumText) (ts : List Token) → begins extends_sum ts ≡ false
    → sum_after s.sign s.first (flat_map signed_term_tokens s.rest ++ ts) ≡ Some (s, ts)
sum_after_back s ts ends = rw (signed_terms_back ts ends s.rest) refl

terms_follow : (xs : List SignedTerm) (ts : List Token) → begins extends_sum ts ≡ false → begins extends_term (flat_map signed_term_tokens xs ++ ts) ≡ false
terms_follow [] ts ends = ends_term ts ends
terms_follow (x ∷ xs) ts ends = refl

pub unsigned : (t : TermText) (ts : List Token) → begins is_sign (term_tokens t ++ ts) ≡ false
unsigned (term.Product number times field) ts = refl
unsigned (term.Field field) ts = refl
unsigned (term.Constant number) ts = refl

pub sum_back : (s : SumText) (ts : List Token) → begins extends_sum ts ≡ false → sum_at (sum_tokens s ++ ts) ≡ Some (s, ts)
sum_back s ts ends = by_sign s.sign s.first s.rest
  where
    by_sign : (sign : Option Sign) (first : TermText) (rest : List SignedTerm)
        → sum_at (((sign_tokens sign ++ term_tokens first) ++ flat_map signed_term_tokens rest) ++ ts) ≡ Some
        (record { sign = sign; first = first; rest = rest }, ts)
    by_sign None first rest =
        let more : List Token = flat_map signed_term_tokens rest ++ ts in
        rw append_assoc (rw (unsigned first more, term_back first more (terms_follow rest ts ends))
        (sum_after_back (record { sign = None; first = first; rest = rest }) ts ends))
    by_sign (Some s) first rest =
        let more : List Token = flat_map signed_term_tokens rest ++ ts in
        let joined : (((token.Sign s ∷ []) ++ term_tokens first) ++ flat_map signed_term_tokens rest)
        ++ ts ≡ token.Sign s ∷ (term_tokens first ++ more) =
        ap (λ l. token.Sign s ∷ l) (append_assoc (term_tokens first) (flat_map signed_term_tokens rest) ts) in
        ap sum_at joined ∙ rw (term_back first more (terms_follow rest ts ends)) (sum_after_back (record { sign = Some s; first = first; rest = rest }) ts ends)
