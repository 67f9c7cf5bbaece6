-- An escaped text is read back.
use Rattle.std.proofs.Common.{◌≡◌, ℕ, Bool, true, false, ◌==◌, if◌then◌else◌, List, [], ◌∷◌, ◌++◌, Option, Some, None, drop, refl, sym, ap, ◌∙◌}
use Rattle.std.proofs.lemmas.Bool.{eqb-true}
use Rattle.std.proofs.lemmas.Str.{is_utf8-from_IsUtf8}
use Rattle.std.specs.List.{AllByRecursion, flat_map}
use Rattle.page_markup.specs.Escapes.{escaped, escaped_byte, is_lost, IsKept}
use Rattle.page_markup.proofs.EscapeLaws.{by_if}

abbrev pair : ℕ → List ℕ → Option (ℕ × List ℕ)
pair b s = Some (b, s)

-- the byte that an entity stands for, behind its ampersand, and what follows it
entity : List ℕ → Option (ℕ × List ℕ)
entity [] = None
entity (c ∷ rest) =
    if c == 97 then Some (38, drop 3 rest)
    else if c == 108 then Some (60, drop 2 rest)
    else if c == 103 then Some (62, drop 2 rest)
    else if c == 113 then Some (34, drop 4 rest)
    else Some (39, drop 3 rest)

-- the first byte that an escaped text stands for, and what follows it
decoded : List ℕ → Option (ℕ × List ℕ)
decoded [] = None
decoded (c ∷ rest) = if c == 38 then entity rest else Some (c, rest)

-- a byte that is told by a test
stands : (b n : ℕ) (s : List ℕ) → (b == n) ≡ true → pair n s ≡ pair b s
stands b n s e = ap (λ (k : ℕ). pair k s) (sym (eqb-true b n e))

decoded-byte : (b : ℕ) (s : List ℕ) → is_lost true b ≡ false → decoded (escaped_byte true b ++ s) ≡ Some (b, s)
unfolding entity decoded
decoded-byte b s kept =
    let P = λ (w : List ℕ). decoded (w ++ s) ≡ Some (b, s) in
    by_if P (b == 38) _ _ (λ e. stands b 38 s e) (λ plain.
    by_if P (b == 60) _ _ (λ e. stands b 60 s e) (λ _.
    by_if P (b == 62) _ _ (λ e. stands b 62 s e) (λ _.
    by_if P (b == 34) _ _ (λ e. stands b 34 s e) (λ _.
    by_if P (b == 39) _ _ (λ e. stands b 39 s e) (λ _.
    by_if P (is_lost true b) _ _ (λ e. absurd (cc (sym e ∙ kept))) (λ _. ap (λ (t : Bool). if t then entity s else Some (b, s)) plain))))))

-- the two parts of what is decoded
byte_of : Option (ℕ × List ℕ) → ℕ
byte_of None = 0
byte_of (Some d) = d.0

rest_of : Option (ℕ × List ℕ) → List ℕ
rest_of None = []
rest_of (Some d) = d.1

bytes-told : (xs ys : List ℕ) → AllByRecursion (λ b. is_lost true b ≡ false) xs → AllByRecursion (λ b. is_lost true b ≡ false) ys
    → flat_map (escaped_byte true) xs ≡ flat_map (escaped_byte true) ys → xs ≡ ys
unfolding decoded byte_of rest_of
bytes-told [] [] kx ky e = refl
bytes-told [] (y ∷ ys) kx ky e = absurd (cc (ap decoded e ∙ decoded-byte y (flat_map (escaped_byte true) ys) ky.0))
bytes-told (x ∷ xs) [] kx ky e = absurd (cc (sym (ap decoded e) ∙ decoded-byte x (flat_map (escaped_byte true) xs) kx.0))
bytes-told (x ∷ xs) (y ∷ ys) kx ky e =
    let same = sym (decoded-byte x (flat_map (escaped_byte true) xs) kx.0) ∙ ap decoded e ∙ decoded-byte y (flat_map (escaped_byte true) ys) ky.0 in
    ap (λ (b : ℕ). b ∷ xs) (ap byte_of same) ∙ ap (λ (bs : List ℕ). y ∷ bs) (bytes-told xs ys kx.1 ky.1 (ap rest_of same))

pub escaped-told : (text other : List ℕ) → IsKept text → IsKept other → escaped other ≡ escaped text → other ≡ text
unfolding escaped
escaped-told text other kept also e =
    bytes-told other text also.1 kept.1
    (ap (λ (r : Bool). flat_map (escaped_byte r) other) (sym (is_utf8-from_IsUtf8 other also.0)) ∙ e
    ∙ ap (λ (r : Bool). flat_map (escaped_byte r) text) (is_utf8-from_IsUtf8 text kept.0))
