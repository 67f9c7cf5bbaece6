-- Texts that share one piece of memory, each from where the one before ends.
use Rattle.std.proofs.Common.{◌≡◌, ◌∙◌, sym, ap, ◌-◌, ◌<◌, ◌≤◌, ℕ, List, [], ◌∷◌, ◌++◌, length, take, drop, get_or, refl, arith}
use Rattle.std.proofs.lemmas.List.{drop_at, length-append}
use Rattle.csv.specs.Records.{Rising, cut_from, last_end, prev}
use Rattle.csv.proofs.RecordFacts.{cut-end, cut-length, cut-more, field-bounds, field-cut, field-get, last-append, rising-end, rising-more}

-- what a list of texts keeps: the places rise, and the last of them is the end of the bytes
abbrev pub AreEnds : List ℕ → List ℕ → Type 0
AreEnds ends bytes = Rising 0 ends (length bytes) × (last_end 0 ends ≡ length bytes)

-- no text
pub ends_none : AreEnds [] []
unfolding Rising last_end
ends_none = (omega arith, refl)

pub texts_none : (bytes : List ℕ) → cut_from 0 [] bytes ≡ []
unfolding cut_from
texts_none bytes = refl

-- one text more
module _ (ends bytes text : List ℕ) (are : AreEnds ends bytes) where
  further : Rising 0 ends (length (bytes ++ text))
  further = rising-more 0 ends (length bytes) (length (bytes ++ text)) are.0 (omega (arith, length-append bytes text))

  pub ends_more : AreEnds (ends ++ length (bytes ++ text) ∷ []) (bytes ++ text)
  ends_more = (rising-end 0 ends (length (bytes ++ text)) further, last-append 0 ends (length (bytes ++ text)))

  pub texts_more : cut_from 0 (ends ++ length (bytes ++ text) ∷ []) (bytes ++ text) ≡ cut_from 0 ends bytes ++ text ∷ []
  texts_more =
      cut-end 0 ends (bytes ++ text) further
      ∙ ap (λ (texts : List (List ℕ)). texts ++ drop (last_end 0 ends) (bytes ++ text) ∷ []) (cut-more 0 ends bytes text are.0)
      ∙ ap (λ (last : List ℕ). cut_from 0 ends bytes ++ last ∷ []) (drop_at bytes text (last_end 0 ends) (sym are.1))

-- a text has a place where it ends
pub place_there : (ends bytes : List ℕ) (i : ℕ) → i < length (cut_from 0 ends bytes) → i < length ends
place_there ends bytes i within = rw (cut-length 0 ends bytes) at within

-- a text begins and ends in order, within the bytes
pub text_lies : (ends bytes : List ℕ) → AreEnds ends bytes → (i : ℕ) → i < length ends
    → (prev 0 ends i ≤ get_or ends i 0) × (get_or ends i 0 ≤ length bytes)
text_lies ends bytes are i there = field-bounds 0 ends (length bytes) i are.0 there

-- the text at a place is what lies there
pub text_at : (ends bytes : List ℕ) (i : ℕ) → i < length ends
    → take (get_or ends i 0 - prev 0 ends i) (drop (prev 0 ends i) bytes) ≡ get_or (cut_from 0 ends bytes) i []
text_at ends bytes i there = sym (field-get (cut_from 0 ends bytes) i _ (field-cut 0 ends bytes i there))
