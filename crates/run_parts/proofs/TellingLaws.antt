-- What the lines of a run do to what was printed.
use Rattle.std.proofs.Common.{◌≡◌, ◌∙◌, ◌++◌, ◌+◌, ◌<◌, ◌≤◌, ℕ, List, [], ◌∷◌, Vec, Global, ap, append_assoc, append-nil, drop, length, refl, slice_index_or}
use Rattle.std.proofs.Common.{subst, sym, take, take_all}
use Rattle.std.proofs.lemmas.List.{at_drop_more, map-append, take-append-drop, take_more}
use Rattle.edit_desk.specs.Printer.{line_of}
use Rattle.run_parts.specs.Run.{AreCutShort, bytes_of_lines}
use Rattle.run_parts.specs.Parts.{texts_in}

-- ---- the bytes of lines

bytes-append : (front back : List (List ℕ)) → bytes_of_lines (front ++ back) ≡ bytes_of_lines front ++ bytes_of_lines back
bytes-append [] back = refl
bytes-append (text ∷ front) back = ap (λ (l : List ℕ). line_of text ++ l) (bytes-append front back)
    ∙ sym (append_assoc (line_of text) (bytes_of_lines front) (bytes_of_lines back))

bytes-one : (text : List ℕ) → bytes_of_lines (text ∷ []) ≡ line_of text
bytes-one text = append-nil (line_of text)

bytes-more : (front : List (List ℕ)) (text : List ℕ) → bytes_of_lines (front ++ text ∷ []) ≡ bytes_of_lines front ++ line_of text
bytes-more front text = bytes-append front (text ∷ []) ∙ ap (λ (l : List ℕ). bytes_of_lines front ++ l) (bytes-one text)

-- ---- lines that were printed

-- these lines were printed, in order
abbrev pub Appends : List (List ℕ) → List ℕ → List ℕ → Type 0
Appends texts old new = new ≡ old ++ bytes_of_lines texts

pub appends-none : (old new : List ℕ) → new ≡ old → Appends [] old new
appends-none old new same = same ∙ sym (append-nil old)

-- and one more
appends-more : (front : List (List ℕ)) (text old between new : List ℕ) → Appends front old between → new ≡ between ++ line_of text
    → Appends (front ++ text ∷ []) old new
appends-more front text old between new before is =
    is ∙ ap (λ (l : List ℕ). l ++ line_of text) before ∙ append_assoc old (bytes_of_lines front) (line_of text)
    ∙ ap (λ (l : List ℕ). old ++ l) (sym (bytes-more front text))

-- or one that failed
pub appends-cut : (texts front rest : List (List ℕ)) (text old between new : List ℕ) → texts ≡ front ++ text ∷ rest → Appends front old between → (kept : ℕ)
    × (new ≡ between ++ take kept (line_of text)) → AreCutShort texts old new
appends-cut texts front rest text old between new stands before cut = record {
  front = front;
  text = text;
  rest = rest;
  stands = stands;
  kept = cut.0;
  printed = cut.1 ∙ ap (λ (l : List ℕ). l ++ take cut.0 (line_of text)) before ∙ append_assoc old (bytes_of_lines front) (take cut.0 (line_of text));
}

-- ---- the lines of a list, one after the other

module _ (lines : List (Vec ℕ Global)) (i : ℕ) (line : Vec ℕ Global) (here : line ≡ slice_index_or lines i line) (below : i < length lines) (text : List ℕ)
    (is : text ≡ line.items) where
  stands : texts_in lines ≡ texts_in (take i lines) ++ text ∷ texts_in (drop (i + 1) lines)
  stands =
      ap texts_in (sym (take-append-drop i lines) ∙ ap (λ (ls : List (Vec ℕ Global)). take i lines ++ ls)
      (at_drop_more (λ (ls : List (Vec ℕ Global)). ls) lines i line below ∙ ap (λ (l : Vec ℕ Global). l ∷ drop (i + 1) lines) (sym here)))
      ∙ map-append (λ (l : Vec ℕ Global). l.items) (take i lines) (line ∷ drop (i + 1) lines)
      ∙ ap (λ (t : List ℕ). texts_in (take i lines) ++ t ∷ texts_in (drop (i + 1) lines)) (sym is)

  more : texts_in (take (i + 1) lines) ≡ texts_in (take i lines) ++ text ∷ []
  more =
      ap texts_in (take_more lines i line below ∙ ap (λ (l : Vec ℕ Global). take i lines ++ l ∷ []) (sym here))
      ∙ map-append (λ (l : Vec ℕ Global). l.items) (take i lines) (line ∷ []) ∙ ap (λ (t : List ℕ). texts_in (take i lines) ++ t ∷ []) (sym is)

  -- the line at a place was printed
  pub next-line : (old between new : List ℕ) → Appends (texts_in (take i lines)) old between → new ≡ between ++ line_of text
      → Appends (texts_in (take (i + 1) lines)) old new
  next-line old between new before printed = subst (λ (texts : List (List ℕ)). Appends texts old new) (sym more)
      (appends-more (texts_in (take i lines)) text old between new before printed)

  -- or it failed
  pub cut-line : (old between new : List ℕ) → Appends (texts_in (take i lines)) old between → (kept : ℕ) × (new ≡ between ++ take kept (line_of text))
      → AreCutShort (texts_in lines) old new
  cut-line old between new before cut = appends-cut (texts_in lines) (texts_in (take i lines)) (texts_in (drop (i + 1) lines)) text old between new stands
      before cut

-- all of them were printed
pub all-lines : (lines : List (Vec ℕ Global)) (i : ℕ) (old new : List ℕ) → length lines ≤ i → Appends (texts_in (take i lines)) old new
    → Appends (texts_in lines) old new
all-lines lines i old new all h = subst (λ (ls : List (Vec ℕ Global)). Appends (texts_in ls) old new) (take_all i lines all) h
