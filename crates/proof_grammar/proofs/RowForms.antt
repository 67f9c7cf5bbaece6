use Rattle.std.proofs.Common.{◌≡◌, ℕ, suc, List, [], ◌∷◌, ◌++◌, Some, codes, refl, ap, ◌∙◌, subst}
use Rattle.std.specs.Fmt.{decimal}
use Rattle.bound_cert.specs.declared.outcome.Event.TheVariants as event
use Rattle.proof_grammar.specs.declared.heads.RowHead.{RowHead}
use Rattle.proof_grammar.specs.declared.heads.RowHead.TheVariants.{BudgetAt, ChangeAt, CleanAt, ContradictoryAt, EventAt, GiftAt}
use Rattle.proof_grammar.proofs.HeadLines.{IsRowHead, row_head}
use Rattle.proof_grammar.specs.Limits.{IsLong, IsPlace, IsShort}
use Rattle.bound_cert.specs.Paths.{named, path_text}
use Rattle.proof_grammar.specs.ProofLines.{Line, gift_words, place_word}
use Rattle.proof_grammar.specs.inner.RowReading.{budget_in, change_in, clean_in, contradictory_in, gift_in, row_in, step_event_in, test_event_in}
use Rattle.proof_grammar.proofs.LeafForms.{IsPath, path-and-number, path_form}
use Rattle.proof_grammar.proofs.MoreWordForms.{IsLess, gift-next, gift-then, place_form, positive_form}
use Rattle.proof_grammar.proofs.Productions.{LineForm}
use Rattle.proof_grammar.proofs.StepForms.{first-found}
use Rattle.proof_grammar.proofs.WordForms.{end-found, long_form, named_long_form, named_short_form, next-again, next-found}

-- The form of a row's first line.

-- a head whose line has this word, and these behind it
abbrev Found : RowHead → List ℕ → Line → Type 0
Found head word ws = IsRowHead head × (word ∷ ws ≡ row_head head)

clean-found : (ws : Line) (head : RowHead) → clean_in ws ≡ Some head → Found head (codes "clean") ws
clean-found ws head e = let (own, none) = end-found CleanAt head ws e in (subst IsRowHead own tt, ap (λ (v : Line). codes "clean" ∷ v) none ∙ ap row_head own)

change-found : (ws : Line) (head : RowHead) → change_in ws ≡ Some head → Found head (codes "change") ws
change-found ws head e =
    let (w, w1, w_fits, e1, h1) = next-found IsLess (λ (w : ℕ). decimal (suc w)) positive_form ws _ head e in
    let (path, w2, p_fits, e2, h2) = next-found IsPath path_text path_form w1 _ head h1 in
    let (n, w3, n_fits, e3, h3) = next-found IsLong decimal long_form w2 _ head h2 in
    let (own, none) = end-found (ChangeAt w path n) head w3 h3 in (
      subst IsRowHead own (w_fits, n_fits),
      ap (λ (v : Line). codes "change" ∷ v)
          (e1 ∙ ap (λ (v : Line). decimal (suc w) ∷ v) (e2 ∙ ap (λ (v : Line). path_text path ∷ v) (e3 ∙ ap (λ (v : Line). decimal n ∷ v) none)))
          ∙ ap row_head own,
    )

gift-found : (ws : Line) (head : RowHead) → gift_in ws ≡ Some head → Found head (codes "gift") ws
gift-found ws head e =
    let (weight, w1, w_fits, e1, h1) = next-found IsLong decimal long_form ws _ head e in
    let (path, w2, p_fits, e2, h2) = next-found IsPath path_text path_form w1 _ head h1 in
    let (fault, w3, g_fits, e3, h3) = gift-next w2 _ head h2 in
    let (n, w4, n_fits, e4, h4) = next-found IsLong decimal long_form w3 _ head h3 in
    let (own, none) = end-found (GiftAt weight path fault n) head w4 h4 in
    let behind : w2 ≡ gift_words fault ++ decimal n ∷ [] = e3 ∙ ap (λ (v : Line). gift_words fault ++ v) (e4 ∙ ap (λ (v : Line). decimal n ∷ v) none) in (
      subst IsRowHead own (w_fits, g_fits, n_fits),
      ap (λ (v : Line). codes "gift" ∷ v) (e1 ∙ ap (λ (v : Line). decimal weight ∷ v) (e2 ∙ ap (λ (v : Line). path_text path ∷ v) behind)) ∙ ap row_head own,
    )

budget-found : (ws : Line) (head : RowHead) → budget_in ws ≡ Some head → Found head (codes "budget") ws
budget-found ws head e = let (path, work, fits, own, words) = path-and-number (λ p m. BudgetAt p m) ws head e in
    (subst IsRowHead own fits, ap (λ (v : Line). codes "budget" ∷ v) words ∙ ap row_head own)

step-found : (ws : Line) (head : RowHead) → step_event_in ws ≡ Some head → Found head (codes "step") ws
step-found ws head e =
    let (path, w1, p_fits, e1, h1) = next-found IsPath path_text path_form ws _ head e in
    let (first, w2, f_fits, e2, h2) = next-found IsLong named named_long_form w1 _ head h1 in
    let (second, w3, s_fits, e3, h3) = next-found IsLong named named_long_form w2 _ head h2 in
    let (place, w4, l_fits, e4, h4) = next-found IsPlace place_word place_form w3 _ head h3 in
    let (own, none) = end-found (EventAt path (event.Step first second place)) head w4 h4 in
    let words : ws ≡ path_text path ∷ named first ∷ named second ∷ place_word place ∷ [] =
    e1 ∙ ap (λ (v : Line). path_text path ∷ v)
    (e2 ∙ ap (λ (v : Line). named first ∷ v) (e3 ∙ ap (λ (v : Line). named second ∷ v) (e4 ∙ ap (λ (v : Line). place_word place ∷ v) none))) in
    (subst IsRowHead own (f_fits, s_fits, l_fits), ap (λ (v : Line). codes "step" ∷ v) words ∙ ap row_head own)

test-found : (ws : Line) (head : RowHead) → test_event_in ws ≡ Some head → Found head (codes "test") ws
test-found ws head e =
    let (path, w1, p_fits, e1, h1) = next-found IsPath path_text path_form ws _ head e in
    let (line, w2, l_fits, e2, h2) = next-found IsLong named named_long_form w1 _ head h1 in
    let (field, w3, f_fits, e3, h3) = next-found IsShort named named_short_form w2 _ head h2 in
    let (own, none) = end-found (EventAt path (event.Test line field)) head w3 h3 in
    let words : ws ≡ path_text path ∷ named line ∷ named field ∷ [] = e1 ∙ ap (λ (v : Line). path_text path ∷ v)
    (e2 ∙ ap (λ (v : Line). named line ∷ v) (e3 ∙ ap (λ (v : Line). named field ∷ v) none)) in
    (subst IsRowHead own (l_fits, f_fits), ap (λ (v : Line). codes "test" ∷ v) words ∙ ap row_head own)

contradictory-found : (ws : Line) (head : RowHead) → contradictory_in ws ≡ Some head → Found head (codes "contradictory") ws
contradictory-found ws head e =
    let (n, w1, n_fits, e1, h1) = next-found IsLong decimal long_form ws _ head e in
    let (own, none) = end-found (ContradictoryAt n) head w1 h1 in
    (subst IsRowHead own n_fits, ap (λ (v : Line). codes "contradictory" ∷ v) (e1 ∙ ap (λ (v : Line). decimal n ∷ v) none) ∙ ap row_head own)

pub row-found : (l : Line) (head : RowHead) → row_in l ≡ Some head → IsRowHead head × (l ≡ row_head head)
row-found [] head e = absurd (cc (e))
row-found (w ∷ ws) head e =
    first-found IsRowHead row_head
    ((codes "clean", clean_in) ∷ (codes "change", change_in) ∷ (codes "gift", gift_in) ∷ (codes "budget", budget_in) ∷ (codes "step", step_event_in)
    ∷ (codes "test", test_event_in) ∷ (codes "contradictory", contradictory_in) ∷ [])
    (clean-found, (change-found, (gift-found, (budget-found, (step-found, (test-found, (contradictory-found, tt))))))) w ws head e

pub row-again : (head : RowHead) → IsRowHead head → row_in (row_head head) ≡ Some head
row-again CleanAt fits = refl
row-again (ChangeAt w path n) fits =
    next-again IsLess (λ (w : ℕ). decimal (suc w)) positive_form w _ _ fits.0 ∙ next-again IsPath path_text path_form path _ _ tt
    ∙ next-again IsLong decimal long_form n [] _ fits.1
row-again (GiftAt weight path fault n) fits =
    next-again IsLong decimal long_form weight _ _ fits.0 ∙ next-again IsPath path_text path_form path _ _ tt ∙ gift-then fault (decimal n ∷ []) _ fits.1
    ∙ next-again IsLong decimal long_form n [] _ fits.2
row-again (BudgetAt path work) fits = next-again IsPath path_text path_form path _ _ tt ∙ next-again IsLong decimal long_form work [] _ fits
row-again (EventAt path (event.Step first second place)) fits =
    next-again IsPath path_text path_form path _ _ tt ∙ next-again IsLong named named_long_form first _ _ fits.0
    ∙ next-again IsLong named named_long_form second _ _ fits.1 ∙ next-again IsPlace place_word place_form place [] _ fits.2
row-again (EventAt path (event.Test line field)) fits =
    next-again IsPath path_text path_form path _ _ tt ∙ next-again IsLong named named_long_form line _ _ fits.0
    ∙ next-again IsShort named named_short_form field [] _ fits.1
row-again (ContradictoryAt n) fits = next-again IsLong decimal long_form n [] _ fits

abbrev pub row_form : LineForm IsRowHead row_head
row_form = record { read = row_in; sample = CleanAt; sound_sample = tt; again = row-again; found = row-found }
