use Rattle.std.proofs.Common.{Bool, List, rules, ap, sym, subst, ◌∙◌, ℕ}
use Rattle.std.specs.BTreeMap.{get}
use Rattle.std.specs.Ordering.{nat_cmp}
use Rattle.localise_tree.specs.declared.best_first.Taken.{Taken}
use Rattle.localise_tree.specs.inner.Knowns.{IsFound, IsPlaceOf, letters_number, place_at}
use Rattle.localise_tree.specs.inner.Takens.{taken_paths}
use Rattle.localise_tree.proofs.KnownLaws.{place-below, place-found}
use Rattle.localise_tree.proofs.known.taken_path.Goals as goal

pub offset_bounds-known-place : goal.offset_bounds-known-place
offset_bounds-known-place c =
    let letters = c.args.letters.now.items in
    let places = c.args.known.now.places in
    let numbered = ap (λ (n : ℕ). get nat_cmp places n) c.letters_number.ensures
    ∙ ap (λ (ls : List Bool). get nat_cmp places (letters_number ls)) c.deref.ensures.value in
    let below = place-below c.args.known.now.taken.now letters c.in-Some.place (place_at places letters)
    (sym (sym c.in-Some.is ∙ c.copied.ensures ∙ c.get.ensures.value ∙ numbered)) (c.requires.known letters) in
    search rules

pub bounds-known-place : goal.bounds-known-place
bounds-known-place c =
    let letters = c.args.letters.now.items in
    let places = c.args.known.now.places in
    let numbered = ap (λ (n : ℕ). get nat_cmp places n) c.letters_number.ensures
    ∙ ap (λ (ls : List Bool). get nat_cmp places (letters_number ls)) c.deref.ensures.value in
    place-below c.args.known.now.taken.now letters c.in-Some.place (place_at places letters)
    (sym (sym c.in-Some.is ∙ c.copied.ensures ∙ c.get.ensures.value ∙ numbered)) (c.requires.known letters)

pub returns-in-Some-clause-some : goal.returns-in-Some-clause-some
returns-in-Some-clause-some c =
    let letters = c.args.letters.now.items in
    let places = c.args.known.now.places in
    let numbered = ap (λ (n : ℕ). get nat_cmp places n) c.letters_number.ensures
    ∙ ap (λ (ls : List Bool). get nat_cmp places (letters_number ls)) c.deref.ensures.value in
    subst (λ (t : Taken). IsFound c.args.known.now.taken.now letters t) c.index-known-place.is
    (place-found c.args.known.now.taken.now letters c.in-Some.place (place_at places letters) c.index-known-place.result
    (sym (sym c.in-Some.is ∙ c.copied.ensures ∙ c.get.ensures.value ∙ numbered)) (c.requires.known letters) c.index-known-place.is)

pub returns-in-None-clause-none : goal.returns-in-None-clause-none
returns-in-None-clause-none c =
    let letters = c.args.letters.now.items in
    let places = c.args.known.now.places in
    let numbered = ap (λ (n : ℕ). get nat_cmp places n) c.letters_number.ensures
    ∙ ap (λ (ls : List Bool). get nat_cmp places (letters_number ls)) c.deref.ensures.value in
    subst (λ o. IsPlaceOf (taken_paths c.args.known.now.taken.now) letters o) (sym (sym c.in-None.is ∙ c.copied.ensures ∙ c.get.ensures.value ∙ numbered))
    (c.requires.known letters)
