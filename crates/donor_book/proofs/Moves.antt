-- Each kind of step keeps the rule: the first pass, a try, a split, a join.
use Rattle.std.proofs.Common.{◌≡◌, ◌≢◌, ℕ, zero, suc, ◌+◌, ◌-◌, ◌<◌, ◌≤◌, Bool, true, false, true≢false, List, [], ◌∷◌, ◌++◌, map, length, take, set, Some}
use Rattle.std.proofs.Common.{None, cond, refl, sym, ap, ◌∙◌, subst, ⊎_elim, nat_eq, eqb, arith, append_assoc, append-nil, length-append}
use Rattle.std.specs.Prelude.{slice_get, slice_index}
use Rattle.std.specs.List.{All, IsDistinct}
use Rattle.std.proofs.lemmas.List.{map-append, take-append-le}
use Rattle.std.proofs.lemmas.List.Sums.{sum_by-append, sum_by_push}
use Rattle.std.proofs.lemmas.List.Elements.{All-cons, All-push, All-append}
use Rattle.std.proofs.lemmas.Option.{slice_get_within, get_or_from_slice_get}
use mathlib.Core.Logic.{dite}
use native.Mathlib.Decide.{ℕ_discrete}
use Rattle.std.proofs.lemmas.Bool.{eqb-true}
use Rattle.std.proofs.lemmas.Bool.Decides.{eqb_tells}
use mathlib.Core.Option.{some, some-injective, some-ne-none}
use lib.ListN.{get_elem?, get_or}
use prog.Atomic.{either}
use Rattle.atomic_table.specs.Table.{Act, State, Me, Step, Valid, opening, stepped, carried_after, Allows, Splits, Joins, keeps}
use Rattle.atomic_table.proofs.Lists.{at_set, at_snoc}
use Rattle.foundation.proofs.Totals.{sum_by_set, sum_of_one}
use Rattle.donor_book.specs.declared.claim.Entry.{Entry}
use Rattle.donor_book.specs.declared.claim.Won.{Won}
use Rattle.donor_book.specs.declared.rule.Known.{Known}
use Rattle.donor_book.specs.declared.rule.Placed.{Placed}
use Rattle.donor_book.specs.declared.rule.Terms.{Terms}
use Rattle.donor_book.specs.Claims.{IsWithin, claim_of, first_free}
use Rattle.donor_book.specs.Entries.{won_of}
use Rattle.donor_book.specs.Passes.{IsClaim, StartsWith, claims_at}
use Rattle.donor_book.specs.inner.Rule.{AreClaims, HasTried, IsFair, IsHistory, both_known, first_known, new_known, once_below, seeing, spent_known, with_entry}
use Rattle.donor_book.specs.inner.Rule.{without_a_pass, word_of, words_of}
use Rattle.donor_book.proofs.IndexLaws.{none_before, once_more}
use Rattle.donor_book.proofs.WordLaws.{set_same, some_at, some_same, word_is_not_0, words_behind, words_front, words_push, zeros}

-- one view changes, and the others stay fair
fair_set : (terms : Terms) (history : List Won) (views : List Known) (by : ℕ) (w : Known) → ((j : ℕ) (u : Known) → get_elem? views j ≡ some u
    → IsFair terms history u) → IsFair terms history w → (j : ℕ) (u : Known) → get_elem? (set views by w) j ≡ some u → IsFair terms history u
fair_set terms history views by w fair mine j u at = ⊎_elim (λ (x : (j ≡ by) × (w ≡ u)). subst (IsFair terms history) x.1 mine)
    (λ (x : (j ≢ by) × (get_elem? views j ≡ some u)). fair j u x.1) (at_set views by j w u at)

-- a list that begins a list of its own length is that list
whole : (history seen : List Won) → StartsWith history seen → length history ≡ length seen → history ≡ seen
whole history seen (([], is)) same = is ∙ append-nil seen
whole history seen ((x ∷ rest, is)) same = let l : length history ≡ length seen + length (x ∷ rest) = ap length is ∙ length-append seen (x ∷ rest) in
    absurd (omega arith)

-- what is seen at a place is seen there in a longer list
get_longer : (xs ys : List Won) (k : ℕ) (x : Won) → slice_get xs k ≡ Some x → slice_get (xs ++ ys) k ≡ Some x
get_longer [] ys k x is = absurd (cc)
get_longer (y ∷ xs) ys zero x is = is
get_longer (y ∷ xs) ys (suc k) x is = get_longer xs ys k x is

claim_longer : (limit : ℕ) (xs ys : List Won) (m : Placed) → IsClaim limit xs m → IsClaim limit (xs ++ ys) m
claim_longer limit xs ys m is =
    let within = slice_get_within xs m.place (won_of m.entry) is.0 in
    let same = take-append-le m.place xs ys (omega arith) in
    (get_longer xs ys m.place (won_of m.entry) is.0, is.1 ∙ ap (λ l. first_free limit l m.entry.ranking) (sym same))

-- the place behind a list
get_behind : (xs : List Won) (x : Won) → slice_get (xs ++ x ∷ []) (length xs) ≡ Some x
get_behind [] x = refl
get_behind (y ∷ xs) x = get_behind xs x

take_front : (xs ys : List Won) → take (length xs) (xs ++ ys) ≡ xs
take_front [] ys = refl
take_front (x ∷ xs) ys = ap (λ l. x ∷ l) (take_front xs ys)

one_more : (k n : ℕ) (b : Bool) → nat_eq n k ≡ b → once_below k (n + 1) ≡ once_below k n + cond b 1 0
one_more k n true is = let e = eqb-true n k is in omega (arith, e)
one_more k n false is = ⊎_elim (λ (t : (nat_eq n k ≡ true) × (n ≡ k)). absurd (true≢false (sym t.0 ∙ is))) (λ (f : (nat_eq n k ≡ false) × (n ≢ k)). apart f.1)
    (eqb_tells n k)
  where
    apart : n ≢ k → once_below k (n + 1) ≡ once_below k n + 0
    apart ne = omega (arith, ne)

starts_longer : (history seen : List Won) (w : Won) → StartsWith history seen → StartsWith (history ++ w ∷ []) seen
starts_longer history seen w begins = (begins.0 ++ w ∷ [], ap (λ l. l ++ w ∷ []) begins.1 ∙ append_assoc seen begins.0 (w ∷ []))

-- what is fair is fair of a longer history
fair_longer : (terms : Terms) (history : List Won) (w : Won) (z : Known) → IsFair terms history z → IsFair terms (history ++ w ∷ []) z
fair_longer terms history w z f = record {
  seen = starts_longer history z.seen w f.seen;
  heard = λ k d lt. starts_longer history (get_or z.heard k d) w (f.heard k d lt);
  mine = λ k d lt. claim_longer terms.limit history (w ∷ []) (get_or z.mine k d) (f.mine k d lt);
  idle = f.idle;
  knows = f.knows;
}

-- the claim is entered behind the history, which the claimer had seen whole
pub claims : (terms : Terms) (history : List Won) (views : List Known) (by : ℕ) (v : Known) (e : Entry) → IsHistory terms history views → get_elem? views by
    ≡ some v → 0 < v.passes → length history ≡ length v.seen
    → IsWithin terms.donors terms.rows (won_of e) → claim_of e.row_no v.seen ≡ None → e.reply ≡ first_free terms.limit v.seen e.ranking
    → IsHistory terms (history ++ won_of e ∷ []) (set views by (with_entry e v))
claims terms history views by v e rule at share same within first free =
    let mine = rule.fair by v at in
    let is : history ≡ v.seen = whole history v.seen mine.seen same in
    let u = with_entry e v in
    let w = won_of e in
    record {
      within = All-push (IsWithin terms.donors terms.rows) history w rule.within within;
      once = subst (IsDistinct eqb) (sym (map-append (λ (z : Won). z.row_no) history (w ∷ [])))
          (once_more history w.row_no rule.once (subst (λ h. claim_of w.row_no h ≡ None) (sym is) first));
      passes_are = (let s = sum_by_set (λ (z : Known). z.passes) views by v u at in let p = rule.passes_are in omega arith);
      places = λ k.
          (let s = sum_by_set (λ (z : Known). claims_at k z.mine) views by v u at in
          let p = rule.places k in
          let more = sum_by_push (λ (m : Placed). cond (nat_eq m.place k) 1 0) v.mine record { place = length v.seen; entry = e } in
          let step = one_more k (length v.seen) (nat_eq (length v.seen) k) refl in
          let len = length-append history (w ∷ []) in
          omega (arith, s, p, more, step, len, same));
      fair = fair_set terms (history ++ w ∷ []) views by u (λ j z a. fair_longer terms history w z (rule.fair j z a))
          record {
            seen = ([], ap (λ l. l ++ w ∷ []) is ∙ sym (append-nil (v.seen ++ w ∷ [])));
            heard = (fair_longer terms history w v mine).heard;
            mine = All-push (IsClaim terms.limit (history ++ w ∷ [])) v.mine record { place = length v.seen; entry = e }
                (fair_longer terms history w v mine).mine
                (subst (λ h. IsClaim terms.limit (h ++ w ∷ []) record { place = length v.seen; entry = e }) (sym is)
                (get_behind v.seen w, free ∙ ap (λ l. first_free terms.limit l e.ranking) (sym (take_front v.seen (w ∷ [])))));
            idle = λ none. absurd (omega arith);
            knows = mine.knows;
          };
    }

behind : (seen rest : List Won) (x : Won) → slice_get (seen ++ rest) (length seen) ≡ Some x → (more : List Won) × (rest ≡ x ∷ more)
behind [] [] x is = absurd (cc)
behind [] (y ∷ rest) x is = (rest, ap (λ z. z ∷ rest) (some_same y x is))
behind (y ∷ seen) rest x is = behind seen rest x is

-- the claim that stands behind what was seen is seen
pub sees : (terms : Terms) (history : List Won) (views : List Known) (by : ℕ) (v : Known) (x : Won) → IsHistory terms history views → get_elem? views by
    ≡ some v → slice_get history (length v.seen) ≡ Some x
    → IsHistory terms history (set views by (seeing (v.seen ++ x ∷ []) v.mine v))
sees terms history views by v x rule at here =
    let mine = rule.fair by v at in
    let u = seeing (v.seen ++ x ∷ []) v.mine v in
    record {
      within = rule.within;
      once = rule.once;
      passes_are = (let s = sum_by_set (λ (z : Known). z.passes) views by v u at in let p = rule.passes_are in omega arith);
      places = λ k. (let s = sum_by_set (λ (z : Known). claims_at k z.mine) views by v u at in let p = rule.places k in omega (arith, s, p));
      fair = fair_set terms history views by u rule.fair
          record {
            seen = one_longer history v.seen x mine.seen here;
            heard = mine.heard;
            mine = mine.mine;
            idle = mine.idle;
            knows = mine.knows;
          };
    }
  where
    one_longer : (history seen : List Won) (x : Won) → StartsWith history seen → slice_get history (length seen) ≡ Some x → StartsWith history (seen ++ x ∷ [])
    one_longer history seen x begins here =
        let next = behind seen begins.0 x (subst (λ h. slice_get h (length seen) ≡ Some x) begins.1 here) in
        (next.0, begins.1 ∙ ap (λ l. seen ++ l) next.1 ∙ sym (append_assoc seen (x ∷ []) next.0))

prefix_length : (history seen : List Won) → StartsWith history seen → length seen ≤ length history
prefix_length history seen begins = let l : length history ≡ length seen + length begins.0 = ap length begins.1 ∙ length-append seen begins.0 in
    omega (arith, l)

new_row : (history seen : List Won) (x : Won) → IsDistinct eqb (map (λ (w : Won). w.row_no) history) → StartsWith history seen → slice_get history (length seen)
    ≡ Some x → claim_of x.row_no seen ≡ None
new_row history seen x once begins here =
    let next = behind seen begins.0 x (subst (λ h. slice_get h (length seen) ≡ Some x) begins.1 here) in
    none_before seen next.0 x (subst (λ h. IsDistinct eqb (map (λ (w : Won). w.row_no) h)) (begins.1 ∙ ap (λ l. seen ++ l) next.1) once)

-- what one try may do, at the word that it finds
abbrev MayTry : Terms → State (Unit {0}) Known → ℕ → Me (Unit {0}) Known → Entry → Step (Unit {0}) → ℕ → Type 0
MayTry terms state by me e s n =
    (u : Known) × (a : Act (Unit {0})) × Valid state.homes me.1 a
    × AreClaims terms (stepped state (length me.0.seen) (either (nat_eq n 0) (word_of (won_of e)) n) by me.1 u a)
    × HasTried e s me n (u, carried_after me.1 a)

-- a try keeps the rule, whichever way it goes
pub tries : (terms : Terms) (slots by : ℕ) (me : Me (Unit {0}) Known) (s : Step (Unit {0})) (e : Entry) → me.0.terms ≡ terms → 0 < me.0.passes
    → length me.0.seen < terms.rows + 1
    → IsWithin terms.donors terms.rows (won_of e) → claim_of e.row_no me.0.seen ≡ None → e.reply ≡ first_free terms.limit me.0.seen e.ranking
    → Allows (AreClaims terms) slots by me (length me.0.seen) (λ n. either (nat_eq n 0) (word_of (won_of e)) n) (HasTried e s me)
tries terms slots by me s e same_terms share room within first free state rule homes at small =
    let history = rule.0 in
    let begins = (rule.2.fair by me.0 at).seen in
    let le = prefix_length history me.0.seen begins in
    dite (ℕ_discrete (length me.0.seen) (length history))
    (λ (same : length me.0.seen ≡ length history).
    (let found : slice_index state.words (length me.0.seen) ≡ 0 = ap (λ ws. slice_index ws (length me.0.seen)) rule.1
    ∙ ap (slice_index (words_of terms history)) same ∙ words_behind terms history (omega (arith, same, room)) in
    subst (MayTry terms state by me e s) (sym found) (
      with_entry e me.0,
      keeps,
      tt,
      (
        history ++ won_of e ∷ [],
        ap (λ ws. set ws (length me.0.seen) (word_of (won_of e))) rule.1 ∙ ap (λ k. set (words_of terms history) k (word_of (won_of e))) same
            ∙ words_push terms history (won_of e) (omega (arith, same, room)),
        claims terms history state.views by me.0 e rule.2 at share (sym same) within first free,
      ),
      refl,
    )))
    (λ (apart : length me.0.seen ≢ length history).
    (let there = some_at history (length me.0.seen) (omega (arith, le, apart)) in
    let x = there.0 in
    let u = seeing (me.0.seen ++ x ∷ []) me.0.mine me.0 in
    let found : slice_index state.words (length me.0.seen) ≡ word_of x = ap (λ ws. slice_index ws (length me.0.seen)) rule.1
    ∙ words_front history (zeros (terms.rows + 1 - length history)) (length me.0.seen) x there.1 in
    let same_words : set state.words (length me.0.seen) (word_of x) ≡ state.words = ap (λ n. set state.words (length me.0.seen) n) (sym found)
    ∙ set_same state.words (length me.0.seen) in
    let mine : IsWithin me.0.terms.donors me.0.terms.rows x = subst (λ (t : Terms). IsWithin t.donors t.rows x) (sym same_terms)
    (within_at terms history (length me.0.seen) x rule.2.within there.1) in
    subst (MayTry terms state by me e s) (sym found) (
      u,
      keeps,
      tt,
      (
        history,
        ap (λ (b : Bool). set state.words (length me.0.seen) (either b (word_of (won_of e)) (word_of x))) (word_is_not_0 x) ∙ same_words
            ∙ rule.1,
        sees terms history state.views by me.0 x rule.2 at there.1,
      ),
      rw (word_is_not_0 x) (x, refl, mine, new_row history me.0.seen x rule.2.once begins there.1, refl),
    )))
  where
    within_at : (terms : Terms) (history : List Won) (k : ℕ) (x : Won) → All (IsWithin terms.donors terms.rows) history → slice_get history k ≡ Some x
        → IsWithin terms.donors terms.rows x
    within_at terms history k x all is = subst (IsWithin terms.donors terms.rows) (get_or_from_slice_get history k x x is)
        (all k x (slice_get_within history k x is))

-- at the start nobody has claimed, and the first pass stands for all
pub begins : (terms : Terms) → AreClaims terms (opening (zeros (terms.rows + 1)) [] (first_known terms))
unfolding IsDistinct
begins terms = (
  [],
  ap zeros (omega arith),
  record {
    within = λ k d lt. absurd (omega (arith, lt));
    once = tt;
    passes_are = omega arith;
    places =
        λ k. omega arith;
    fair = one;
  },
)
  where
    one : (by : ℕ) (v : Known) → get_elem? (first_known terms ∷ []) by ≡ some v → IsFair terms [] v
    one zero v at = subst (IsFair terms []) (some-injective _ _ at) record {
      seen = ([], refl);
      heard = λ k d lt. absurd (omega (arith, lt));
      mine =
          λ k d lt. absurd (omega (arith, lt));
      idle = λ _. refl;
      knows = λ _. refl;
    }
    one (suc by) v at = absurd (some-ne-none v (sym at))

-- where a pass is split off, the rule is kept
pub splits : (terms : Terms) (history : List Won) (views : List Known) (by : ℕ) (v : Known) → IsHistory terms history views → get_elem? views by ≡ some v
    → 1 < v.passes → IsHistory terms history (set views by (without_a_pass v) ++ new_known v ∷ [])
splits terms history views by v rule at two =
    let left = without_a_pass v in
    let rest = set views by left in
    let new = new_known v in
    let mine = rule.fair by v at in
    record {
      within = rule.within;
      once = rule.once;
      passes_are = (let s = sum_by_set (λ (z : Known). z.passes) views by v left at in let t = sum_by_push (λ (z : Known). z.passes) rest new in
          let p = rule.passes_are in omega arith);
      places = λ k. (let s = sum_by_set (λ (z : Known). claims_at k z.mine) views by v left at in
          let t = sum_by_push (λ (z : Known). claims_at k z.mine) rest new in let p = rule.places k in omega (arith, s, t, p));
      fair = λ j u a. ⊎_elim
          (λ e. fair_set terms history views by left rule.fair record {
            seen = mine.seen;
            heard = mine.heard;
            mine = mine.mine;
            idle =
                λ none. absurd (omega (arith, none, two));
            knows = λ _. mine.knows (omega (arith, two));
          } j u e)
          (λ e. subst (IsFair terms history) e record {
            seen = (history, refl);
            heard = λ k d lt. absurd (omega (arith, lt));
            mine =
                λ k d lt. absurd (omega (arith, lt));
            idle = λ _. refl;
            knows = λ _. mine.knows (omega (arith, two));
          })
          (at_snoc rest new u j a);
    }

-- and where one takes in another
pub joins : (terms : Terms) (history : List Won) (views : List Known) (by : ℕ) (v : Known) (other : ℕ) (u : Known) → IsHistory terms history views
    → get_elem? views by ≡ some v → ¬ (other ≡ by) → get_elem? (set views by (both_known v u)) other ≡ some u → 0 < v.passes
    → IsHistory terms history (set (set views by (both_known v u)) other spent_known)
joins terms history views by v other u rule at apart there share =
    let w = both_known v u in
    let mid = set views by w in
    let mine = rule.fair by v at in
    let theirs : IsFair terms history u = ⊎_elim (λ (t : (other ≡ by) × (w ≡ u)). absurd (apart t.0))
    (λ (t : (other ≢ by) × (get_elem? views other ≡ some u)). rule.fair other u t.1) (at_set views by other w u there) in
    record {
      within = rule.within;
      once = rule.once;
      passes_are = (let s = sum_by_set (λ (z : Known). z.passes) views by v w at in let t = sum_by_set (λ (z : Known). z.passes) mid other u spent_known
          there in let p = rule.passes_are in omega arith);
      places = λ k.
          (let s = sum_by_set (λ (z : Known). claims_at k z.mine) views by v w at in
          let t = sum_by_set (λ (z : Known). claims_at k z.mine) mid other u spent_known there in
          let more = sum_by-append (λ (m : Placed). cond (nat_eq m.place k) 1 0) v.mine u.mine in
          let p = rule.places k in omega (arith, s, t, more, p));
      fair = fair_set terms history mid other spent_known
          (fair_set terms history views by w rule.fair
          record {
            seen = mine.seen;
            heard = All-append (StartsWith history) v.heard (u.seen ∷ u.heard) mine.heard (All-cons (StartsWith history) u.seen u.heard theirs.seen
                theirs.heard);
            mine = All-append (IsClaim terms.limit history) v.mine u.mine mine.mine theirs.mine;
            idle = λ none. absurd (omega (arith, none, share));
            knows = λ _. mine.knows share;
          })
          record {
            seen = (history, refl);
            heard = λ k d lt. absurd (omega (arith, lt));
            mine = λ k d lt. absurd (omega (arith, lt));
            idle = λ _. refl;
            knows =
                λ some_share. absurd (omega (arith, some_share));
          };
    }

-- the same, as the table asks it
pub splits_as : (terms : Terms) (by : ℕ) (v : Known) → 1 < v.passes → Splits (AreClaims terms) by v (without_a_pass v) (new_known v)
splits_as terms by v two s rule at = (rule.0, rule.1, splits terms rule.0 s.views by v rule.2 at two)

pub joins_as : (terms : Terms) (by : ℕ) (v : Known) (other : ℕ) (u : Known) → 0 < v.passes → Joins (AreClaims terms) by v other u (both_known v u) spent_known
joins_as terms by v other u share s rule at apart there = (rule.0, rule.1, joins terms rule.0 s.views by v other u rule.2 at apart there share)

-- who has every share has every claim of the history
pub all_claimed : (terms : Terms) (history : List Won) (views : List Known) (by : ℕ) (v : Known) → IsHistory terms history views → get_elem? views by ≡ some v
    → v.passes ≡ terms.passes
    → ((k : ℕ) → claims_at k v.mine ≡ once_below k (length history)) × All (IsClaim terms.limit history) v.mine
all_claimed terms history views by v rule at all =
    let whole_share = rule.passes_are ∙ sym all in
    let mine = rule.fair by v at in (
      (λ k. sym (sum_of_one (λ (u : Known). claims_at k u.mine) (λ (u : Known). u.passes) views by v
          (λ j u a none. ap (claims_at k) ((rule.fair j u a).idle none)) at whole_share) ∙ rule.places k),
      mine.mine,
    )
