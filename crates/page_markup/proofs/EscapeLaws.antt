-- What stands in an escaped text.
use Rattle.std.proofs.Common.{◌≡◌, ◌≢◌, inl, inr, ℕ, Bool, true, false, ◌==◌, if◌then◌else◌, List, [], ◌∷◌, ◌++◌, codes, refl, sym, ap, ◌∙◌}
use Rattle.std.proofs.lemmas.Bool.{eqb-false}
use Rattle.std.specs.List.{AllByRecursion, flat_map}
use Rattle.std.specs.Str.{is_utf8}
use Rattle.page_markup.specs.Escapes.{escaped, escaped_byte, is_lost, IsEntity, IsInert}

-- what holds of either way holds of the chosen one
pub by_if : (P : List ℕ → Type 0) (t : Bool) (x y : List ℕ) → (t ≡ true → P x) → (t ≡ false → P y) → P (if t then x else y)
by_if P true x y p q = p refl
by_if P false x y p q = q refl

-- a byte means nothing in markup
abbrev is_plain : ℕ → Bool
is_plain b =
    if b == 38 then false
    else if b == 60 then false
    else if b == 62 then false
    else if b == 34 then false
    else if b == 39 then false
    else true

apart : (b n : ℕ) → is_plain b ≡ true → is_plain n ≡ false → b ≢ n
apart b n p q = λ e. cc (sym p ∙ ap is_plain e ∙ q)

-- a byte that means nothing in markup, in front
plain : (b : ℕ) (bytes : List ℕ) → is_plain b ≡ true → IsInert bytes → IsInert (b ∷ bytes)
plain b bytes p rest = (apart b 60 p refl, apart b 62 p refl, apart b 34 p refl, apart b 39 p refl, (λ e. absurd (apart b 38 p refl e)), rest)

-- the name of an entity, in front
word-inert : (word bytes : List ℕ) → AllByRecursion (λ b. is_plain b ≡ true) word → IsInert bytes → IsInert (word ++ bytes)
word-inert [] bytes p rest = rest
word-inert (b ∷ word) bytes p rest = plain b (word ++ bytes) p.0 (word-inert word bytes p.1 rest)

-- the ampersand of an entity, in front
ampersand : (bytes : List ℕ) → IsEntity bytes → IsInert bytes → IsInert (38 ∷ bytes)
ampersand bytes entity rest = (eqb-false 38 60 refl, eqb-false 38 62 refl, eqb-false 38 34 refl, eqb-false 38 39 refl, (λ e. entity), rest)

-- each entity and the replacement, in front
amp-inert : (bytes : List ℕ) → IsInert bytes → IsInert (codes "&amp;" ++ bytes)
amp-inert bytes rest = ampersand _ (bytes, inl refl) (word-inert (codes "amp;") bytes (refl, (refl, (refl, (refl, tt)))) rest)

lt-inert : (bytes : List ℕ) → IsInert bytes → IsInert (codes "&lt;" ++ bytes)
lt-inert bytes rest = ampersand _ (bytes, inr (inl refl)) (word-inert (codes "lt;") bytes (refl, (refl, (refl, tt))) rest)

gt-inert : (bytes : List ℕ) → IsInert bytes → IsInert (codes "&gt;" ++ bytes)
gt-inert bytes rest = ampersand _ (bytes, inr (inr (inl refl))) (word-inert (codes "gt;") bytes (refl, (refl, (refl, tt))) rest)

quot-inert : (bytes : List ℕ) → IsInert bytes → IsInert (codes "&quot;" ++ bytes)
quot-inert bytes rest =
    ampersand _ (bytes, inr (inr (inr (inl refl)))) (word-inert (codes "quot;") bytes (refl, (refl, (refl, (refl, (refl, tt))))) rest)

apos-inert : (bytes : List ℕ) → IsInert bytes → IsInert (codes "&#39;" ++ bytes)
apos-inert bytes rest = ampersand _ (bytes, inr (inr (inr (inr refl)))) (word-inert (codes "#39;") bytes (refl, (refl, (refl, (refl, tt)))) rest)

lost-inert : (bytes : List ℕ) → IsInert bytes → IsInert (239 ∷ 191 ∷ 189 ∷ bytes)
lost-inert bytes rest = word-inert (239 ∷ 191 ∷ 189 ∷ []) bytes (refl, (refl, (refl, tt))) rest

-- what is written for a byte, in front
byte-inert : (readable : Bool) (b : ℕ) (bytes : List ℕ) → IsInert bytes → IsInert (escaped_byte readable b ++ bytes)
byte-inert readable b bytes rest =
    let P = λ (w : List ℕ). IsInert (w ++ bytes) in
    by_if P (b == 38) _ _ (λ _. amp-inert bytes rest) (λ amp.
    by_if P (b == 60) _ _ (λ _. lt-inert bytes rest) (λ lt.
    by_if P (b == 62) _ _ (λ _. gt-inert bytes rest) (λ gt.
    by_if P (b == 34) _ _ (λ _. quot-inert bytes rest) (λ quot.
    by_if P (b == 39) _ _ (λ _. apos-inert bytes rest) (λ apos.
    by_if P (is_lost readable b) _ _ (λ _. lost-inert bytes rest) (λ _. plain b bytes (rw (amp, lt, gt, quot, apos) refl) rest))))))

flat-inert : (readable : Bool) (text : List ℕ) → IsInert (flat_map (escaped_byte readable) text)
flat-inert readable [] = tt
flat-inert readable (b ∷ text) = byte-inert readable b (flat_map (escaped_byte readable) text) (flat-inert readable text)

pub escaped-inert : (text : List ℕ) → IsInert (escaped text)
unfolding escaped
escaped-inert text = flat-inert (is_utf8 text) text
