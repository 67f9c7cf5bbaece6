-- One pass takes in the others.
use Rattle.std.proofs.Common.{◌≡◌, ℕ, ◌+◌, ◌<◌, List, [], ◌∷◌, ◌++◌, map, length, cond, refl, sym, ap, ◌∙◌, subst, nat_eq, arith, append_assoc, append-nil}
use Rattle.std.proofs.Common.{length-append}
use Rattle.std.specs.List.{sum_by, All}
use Rattle.std.proofs.lemmas.List.{map-append, get_or-append-add}
use Rattle.std.proofs.lemmas.List.Sums.{sum_by-cons, sum_by-append}
use Rattle.std.proofs.lemmas.List.Elements.{All-append, All-nil, All-head, All-tail, All-cons}
use Rattle.std.proofs.Math.ListN.{get_or-append}
use mathlib.Core.Option.{some}
use lib.ListN.{get_elem?}
use Rattle.donor_book.specs.declared.claim.Won.{Won}
use Rattle.donor_book.specs.declared.rule.Known.{Known}
use Rattle.donor_book.specs.declared.rule.Placed.{Placed}
use Rattle.donor_book.specs.declared.rule.Terms.{Terms}
use Rattle.donor_book.specs.Passes.{IsClaim, IsSound, IsWhole, PassState, StartsWith, claimed_at, claims_at}
use Rattle.donor_book.specs.inner.Rule.{IsHistory, both_known, known, once_below, words_of}
use Rattle.donor_book.specs.inner.Tries.{AreWordsOf}
use Rattle.donor_book.proofs.Moves.{all_claimed}

-- what this pass knows
abbrev pub known_of : PassState → Known
known_of p = known p.book.terms 1 p.seen p.mine

-- all claims of these passes
abbrev pub claims_of : List PassState → List Placed
claims_of [] = []
claims_of (p ∷ ps) = p.mine ++ claims_of ps

-- a view has what these passes had, but for those that are left
pub record HasTaken (all rest : List PassState) (v : Known) : Type 0 where
  pub taken : List PassState
  pub split : all ≡ taken ++ rest
  pub passes : v.passes ≡ length taken
  pub some_pass : 0 < v.passes
  pub mine : v.mine ≡ claims_of taken
  pub heard : v.seen ∷ v.heard ≡ map (λ (p : PassState). p.seen) taken

-- the claims of one pass more
claims_of_push : (ps : List PassState) (p : PassState) → claims_of (ps ++ p ∷ []) ≡ claims_of ps ++ p.mine
claims_of_push [] p = append-nil p.mine
claims_of_push (q ∷ ps) p = ap (λ l. q.mine ++ l) (claims_of_push ps p) ∙ sym (append_assoc q.mine (claims_of ps) p.mine)

-- a pass has what it had itself
pub takes_first : (p : PassState) (rest : List PassState) → HasTaken (p ∷ rest) rest (known_of p)
takes_first p rest = record { taken = p ∷ []; split = refl; passes = refl; some_pass = omega arith; mine = sym (append-nil p.mine); heard = refl }

-- and takes in the next
pub takes_next : (all : List PassState) (p : PassState) (rest : List PassState) (v : Known) → HasTaken all (p ∷ rest) v
    → HasTaken all rest (both_known v (known_of p))
takes_next all p rest v had = record {
  taken = had.taken ++ p ∷ [];
  split = had.split ∙ sym (append_assoc had.taken (p ∷ []) rest);
  passes = (let s = had.passes in let l = length-append had.taken (p ∷ []) in omega (arith, s, l));
  some_pass = omega (arith, had.some_pass);
  mine = ap (λ l. l ++ p.mine) had.mine ∙ sym (claims_of_push had.taken p);
  heard = ap (λ l. l ++ p.seen ∷ []) had.heard ∙ sym (map-append (λ (q : PassState). q.seen) had.taken (p ∷ []));
}

module _ {X : Type 0} (P : X → Type 0) where
  all_left : (xs ys : List X) → All P (xs ++ ys) → All P xs
  all_left xs ys all k d lt = subst P (get_or-append xs ys d k lt) (all k d (let l = length-append xs ys in omega (arith, l, lt)))

  all_right : (xs ys : List X) → All P (xs ++ ys) → All P ys
  all_right xs ys all k d lt = subst P (get_or-append-add xs ys k d) (all (length xs + k) d (let l = length-append xs ys in omega (arith, l, lt)))

-- what holds of all that was seen holds of what each pass has seen
all_seen : (P : List Won → Type 0) (ps : List PassState) → All P (map (λ (p : PassState). p.seen) ps) → All (λ (p : PassState). P p.seen) ps
all_seen P [] all = All-nil (λ (p : PassState). P p.seen)
all_seen P (p ∷ ps) all = All-cons (λ (q : PassState). P q.seen) p ps (All-head P p.seen (map (λ (q : PassState). q.seen) ps) all)
    (all_seen P ps (All-tail P p.seen (map (λ (q : PassState). q.seen) ps) all))

-- what holds of all claims of the passes holds of those of each
pub all_mine : (P : Placed → Type 0) (ps : List PassState) → All P (claims_of ps) → All (λ (p : PassState). All P p.mine) ps
all_mine P [] all = All-nil (λ (p : PassState). All P p.mine)
all_mine P (p ∷ ps) all = All-cons (λ (q : PassState). All P q.mine) p ps (all_left P p.mine (claims_of ps) all)
    (all_mine P ps (all_right P p.mine (claims_of ps) all))

-- the claims of the passes at a place are those of each there
pub places_of : (k : ℕ) (ps : List PassState) → claims_at k (claims_of ps) ≡ sum_by (λ (p : PassState). claims_at k p.mine) ps
places_of k [] = refl
places_of k (p ∷ ps) = sum_by-append (λ (m : Placed). cond (nat_eq m.place k) 1 0) p.mine (claims_of ps) ∙ ap (λ n. claims_at k p.mine + n) (places_of k ps)
    ∙ sym (sum_by-cons (λ (q : PassState). claims_at k q.mine) p ps)

-- what holds of all claims of each pass holds of all claims of the passes
pub all_claims : (P : Placed → Type 0) (ps : List PassState) → All (λ (p : PassState). All P p.mine) ps → All P (claims_of ps)
all_claims P [] all = All-nil P
all_claims P (p ∷ ps) all = All-append P p.mine (claims_of ps) (All-head (λ (q : PassState). All P q.mine) p ps all)
    (all_claims P ps (All-tail (λ (q : PassState). All P q.mine) p ps all))

-- who has taken in all passes has the whole history
pub whole_of : (terms : Terms) (history : List Won) (views : List Known) (by : ℕ) (v : Known) (all rest : List PassState) → IsHistory terms history views
    → get_elem? views by ≡ some v → HasTaken all rest v → length rest ≡ 0 → length all ≡ terms.passes → IsWhole terms.limit all history
whole_of terms history views by v all (p ∷ rest) rule at had none passes = absurd (omega (arith, none))
whole_of terms history views by v all [] rule at had none passes =
    let taken : all ≡ had.taken = had.split ∙ append-nil had.taken in
    let fair = rule.fair by v at in
    let known = all_claimed terms history views by v rule at (let s = had.passes in omega (arith, s, ap length taken, passes)) in
    let each : (place : ℕ) → claimed_at place had.taken ≡ once_below place (length history) = λ place. sym (places_of place had.taken)
    ∙ ap (claims_at place) (sym had.mine) ∙ known.0 place in
    subst (λ l. IsWhole terms.limit l history) (sym taken) (
    record {
      seen = all_seen (StartsWith history) had.taken (subst (All (StartsWith history)) had.heard
          (All-cons (StartsWith history) v.seen v.heard fair.seen fair.heard));
      mine = all_mine (IsClaim terms.limit history) had.taken (subst (All (IsClaim terms.limit history)) had.mine known.1);
      once = λ place lt. (let e = each place in omega (arith, e, lt));
      no_other = λ place ge. (let e = each place in omega (arith, e, ge));
    })

-- the history that is read is the last one
pub closes : (terms key : Terms) (history : List Won) (views : List Known) (words : List ℕ) (by : ℕ) (v : Known) (all rest : List PassState) (result : List Won)
    → key ≡ terms → words ≡ words_of key history → IsHistory key history views → get_elem? views by ≡ some v
    → HasTaken all rest v → length rest ≡ 0 → length all ≡ terms.passes → ((h : List Won) → AreWordsOf terms words h → result ≡ h)
    → IsWhole terms.limit all result × IsSound terms result
closes terms key history views words by v all rest result same words_are rule at had none passes reads =
    let here : IsHistory terms history views = subst (λ t. IsHistory t history views) same rule in
    let sound : IsSound terms history = record { within = here.within; once = here.once } in
    let is : result ≡ history = reads history record { words_are = words_are ∙ ap (λ t. words_of t history) same; sound = sound } in
    subst (λ h. IsWhole terms.limit all h × IsSound terms h) (sym is) (whole_of terms history views by v all rest here at had none passes, sound)
