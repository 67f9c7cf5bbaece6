-- What a pass knows of its own: a sound beginning of the history, indexed, and its claims placed in it.
use Rattle.std.proofs.Common.{◌≡◌, ℕ, ◌+◌, ◌<◌, ◌≤◌, Bool, true, false, List, [], ◌∷◌, ◌++◌, map, length, get_or, Some, None, Option, sym, ap, ◌∙◌, subst, eqb}
use Rattle.std.proofs.Common.{arith, length-append}
use Rattle.std.specs.Prelude.{MatchBool, option_map}
use Rattle.std.specs.List.{All, IsDistinct}
use Rattle.std.specs.List.Sorted.{IsStrictlyIncreasing}
use Rattle.std.specs.Option.{IfNone}
use Rattle.std.proofs.lemmas.List.{length-map, map-append}
use Rattle.std.proofs.lemmas.List.Elements.{All-map, All-push}
use Rattle.std.proofs.lemmas.Map.Steps.{length-le_from_distinct_below}
use Rattle.foundation.proofs.Rising.{rising_push}
use Rattle.donor_book.specs.declared.claim.Entry.{Entry}
use Rattle.donor_book.specs.declared.claim.Won.{Won}
use Rattle.donor_book.specs.declared.rule.Known.{Known}
use Rattle.donor_book.specs.declared.rule.Placed.{Placed}
use Rattle.donor_book.specs.declared.rule.Terms.{Terms}
use Rattle.donor_book.specs.Claims.{IsDonor, IsWithin, claim_of}
use Rattle.donor_book.specs.Entries.{won_of}
use Rattle.donor_book.specs.Passes.{ArePlaced, IsSound}
use Rattle.donor_book.specs.inner.Rule.{seeing, with_entry, word_of}
use Rattle.donor_book.specs.inner.Tries.{HasTriedTo, IsRead}
use Rattle.donor_book.proofs.IndexLaws.{any_below, no_claim, once_more, room}

-- ---- what was seen is sound

pub sound_fresh : (terms : Terms) → IsSound terms []
unfolding IsDistinct
sound_fresh terms = record { within = λ k d lt. absurd (omega (arith, lt)); once = tt }

-- and so it is with a claim of a row that was not among it
pub sound_push : (terms : Terms) (seen : List Won) (x : Won) → IsSound terms seen → IsWithin terms.donors terms.rows x → claim_of x.row_no seen ≡ None
    → IsSound terms (seen ++ x ∷ [])
sound_push terms seen x sound within none = record {
  within = All-push (IsWithin terms.donors terms.rows) seen x sound.within within;
  once = subst (IsDistinct eqb) (sym (map-append (λ (w : Won). w.row_no) seen (x ∷ []))) (once_more seen x.row_no sound.once none);
}

-- there are no more claims than rows
pub most_rows : (terms : Terms) (seen : List Won) → IsSound terms seen → length seen ≤ terms.rows
most_rows terms seen sound =
    let rows = map (λ (w : Won). w.row_no) seen in
    let most = length-le_from_distinct_below rows terms.rows sound.once
    (λ q any. any_below terms.rows q rows (All-map (λ (x : ℕ). x < terms.rows) (λ (w : Won). w.row_no) seen (λ k d l. (sound.within k d l).0)) any) in
    let len = length-map seen (λ (w : Won). w.row_no) in
    omega (arith, most, len)

-- while a row has no reply, there are fewer claims than rows
pub room_if : (terms : Terms) (seen : List Won) (row : ℕ) (o : Option (Option ℕ)) → IsSound terms seen → row < terms.rows → o
    ≡ option_map (λ (w : Won). w.reply) (claim_of row seen) → IfNone o (length seen < terms.rows)
room_if terms seen row None sound lt is = room terms.donors terms.rows seen row sound.within sound.once lt (no_claim (claim_of row seen) (sym is))
room_if terms seen row (Some r) sound lt is = tt

-- ---- and indexed

-- a claim of a row and a donor that there are is one of the tables
pub in_tables : (terms : Terms) (uses : List ℕ) (replies : List (Option (Option ℕ))) (x : Won) → length uses ≡ terms.donors → length replies ≡ terms.rows
    → IsWithin terms.donors terms.rows x → IsWithin (length uses) (length replies) x
in_tables terms uses replies x donors rows within = (subst (λ n. x.row_no < n) (sym rows) within.0, subst (λ n. IsDonor n x.reply) (sym donors) within.1)

-- ---- one try

-- what a try has done, whichever way it went: x is seen behind what was seen
pub record HasSeen (terms : Terms) (e : Entry) (old : Known) (entered : Bool) (x : Won) (new : Known × List (ℕ × Unit {0})) : Type 0 where
  pub slots : new.1 ≡ []
  pub terms_are : new.0.terms ≡ old.terms
  pub passes : new.0.passes ≡ old.passes
  pub seen : new.0.seen ≡ old.seen ++ x ∷ []
  pub heard : new.0.heard ≡ old.heard
  pub within : IsWithin terms.donors terms.rows x
  pub first : claim_of x.row_no old.seen ≡ None
  pub mine : MatchBool entered ((x ≡ won_of e) × (new.0.mine ≡ old.mine ++ record { place = length old.seen; entry = e } ∷ [])) (new.0.mine ≡ old.mine)

pub tried_is : (terms : Terms) (e : Entry) (old : Known) (found : ℕ) (x : Won) (new : Known × List (ℕ × Unit {0})) → old.terms ≡ terms
    → terms.donors + 1 < 4294967296 → IsWithin terms.donors terms.rows (won_of e) → claim_of e.row_no old.seen ≡ None
    → HasTriedTo e (old, []) found new → IsRead (won_of e) found x → HasSeen terms e old (eqb found 0) x new
tried_is terms e old found x new same small within first tried read = go (eqb found 0) tried read
  where
    in_word : (reply : Option ℕ) → IsDonor terms.donors reply → IsDonor 4294967295 reply
    in_word None d = tt
    in_word (Some d) lt = omega (arith, lt, small)

    go : (b : Bool) → MatchBool b (new ≡ (with_entry e old, [])) ((y : Won) × (word_of y ≡ found) × IsWithin old.terms.donors old.terms.rows y
        × (claim_of y.row_no old.seen ≡ None) × (new ≡ (seeing (old.seen ++ y ∷ []) old.mine old, [])))
        → MatchBool b (x ≡ won_of e) ((y : Won) → word_of y ≡ found → IsDonor 4294967295 y.reply → x ≡ y) → HasSeen terms e old b x new
    go true t r = record {
      slots = ap (λ (p : Known × List (ℕ × Unit {0})). p.1) t;
      terms_are = ap (λ (p : Known × List (ℕ × Unit {0})). p.0.terms) t;
      passes = ap (λ (p : Known × List (ℕ × Unit {0})). p.0.passes) t;
      seen = ap (λ (p : Known × List (ℕ × Unit {0})). p.0.seen) t ∙ ap (λ (z : Won). old.seen ++ z ∷ []) (sym r);
      heard = ap (λ (p : Known × List (ℕ × Unit {0})). p.0.heard) t;
      within = subst (IsWithin terms.donors terms.rows) (sym r) within;
      first = subst (λ (z : Won). claim_of z.row_no old.seen ≡ None) (sym r) first;
      mine = (r, ap (λ (p : Known × List (ℕ × Unit {0})). p.0.mine) t);
    }
    go false t r =
        let y = t.0 in
        let here : IsWithin terms.donors terms.rows y = subst (λ (m : Terms). IsWithin m.donors m.rows y) same t.2 in
        let is : x ≡ y = r y t.1 (in_word y.reply here.1) in
        record {
          slots = ap (λ (p : Known × List (ℕ × Unit {0})). p.1) t.4;
          terms_are = ap (λ (p : Known × List (ℕ × Unit {0})). p.0.terms) t.4;
          passes = ap (λ (p : Known × List (ℕ × Unit {0})). p.0.passes) t.4;
          seen = ap (λ (p : Known × List (ℕ × Unit {0})). p.0.seen) t.4 ∙ ap (λ (z : Won). old.seen ++ z ∷ []) (sym is);
          heard = ap (λ (p : Known × List (ℕ × Unit {0})). p.0.heard) t.4;
          within = subst (IsWithin terms.donors terms.rows) (sym is) here;
          first = subst (λ (z : Won). claim_of z.row_no old.seen ≡ None) (sym is) t.3;
          mine = ap (λ (p : Known × List (ℕ × Unit {0})). p.0.mine) t.4;
        }

-- ---- the claims of a pass are placed

pub placed_fresh : (seen : List Won) → ArePlaced seen []
placed_fresh seen = record { within = λ k d lt. absurd (omega (arith, lt)); rising = λ k lt. absurd (omega (arith, lt)) }

pub placed_on : (terms : Terms) (e : Entry) (old : Known) (entered : Bool) (x : Won) (new : Known × List (ℕ × Unit {0})) → HasSeen terms e old entered x new
    → ArePlaced old.seen old.mine → ArePlaced new.0.seen new.0.mine
placed_on terms e old entered x new h placed = go entered h.mine
  where
    more : length new.0.seen ≡ length old.seen + 1
    more = ap length h.seen ∙ length-append old.seen (x ∷ [])

    still : All (λ (m : Placed). m.place < length new.0.seen) old.mine
    still k d lt = let p : (get_or old.mine k d).place < length old.seen = placed.within k d lt in omega (arith, p, more)

    last : Placed
    last = record { place = length old.seen; entry = e }

    longer : ArePlaced new.0.seen (old.mine ++ last ∷ [])
    longer = record {
      within = All-push (λ (m : Placed). m.place < length new.0.seen) old.mine last still (omega (arith, more));
      rising = subst IsStrictlyIncreasing (sym (map-append (λ (m : Placed). m.place) old.mine (last ∷ [])))
          (rising_push (map (λ (m : Placed). m.place) old.mine) (length old.seen) placed.rising
          (All-map (λ (n : ℕ). n < length old.seen) (λ (m : Placed). m.place) old.mine placed.within));
    }

    go : (b : Bool) → MatchBool b ((x ≡ won_of e) × (new.0.mine ≡ old.mine ++ last ∷ [])) (new.0.mine ≡ old.mine) → ArePlaced new.0.seen new.0.mine
    go true m = subst (ArePlaced new.0.seen) (sym m.1) longer
    go false m = subst (ArePlaced new.0.seen) (sym m) record { within = still; rising = placed.rising }
