use Rattle.std.proofs.Common.{◌≡◌, ◌∙◌, ◌+◌, ◌∷◌, ◌++◌, ◌<◌, [], List, ℕ, Bool, true, false, ap, arith, sym, get_or, length, take}
use Rattle.std.specs.Prelude.{not}
use Rattle.std.proofs.lemmas.List.{take_more}
use Rattle.std.proofs.lemmas.Slice.Eq.{bytes_eq-Decides}
use Rattle.cert_check.proofs.released_file.are_equal.Goals as goal

not-false : (b : Bool) → not b ≡ false → b ≡ true
not-false true e = cc
not-false false e = cc

-- one text more is the same
one-more : (xs ys : List (List ℕ)) (i : ℕ) → i < length xs → i < length ys → take i xs ≡ take i ys → get_or xs i [] ≡ get_or ys i [] → take (i + 1) xs
    ≡ take (i + 1) ys
one-more xs ys i in_xs in_ys before same =
    take_more xs i [] in_xs ∙ ap (λ (zs : List (List ℕ)). zs ++ get_or xs i [] ∷ []) before ∙ ap (λ (z : List ℕ). take i ys ++ z ∷ []) same
    ∙ sym (take_more ys i [] in_ys)

pub loop-place-preserved : goal.loop-place-preserved
loop-place-preserved c =
    one-more c.args.texts.now c.args.others.now c.loop-place.place
    (omega (arith, c.loop-place-test.true, c.len-place-end.ensures))
    (omega (arith, c.loop-place-test.true, c.len-place-end.ensures, c.len.ensures, c.len-2.ensures, c.if-len.false)) c.loop-place.invariant
    (sym c.get.ensures ∙ (bytes_eq-Decides c.get.result.now c.get-in-loop-place.result.now).0 (not-false _ (sym c.ne.ensures ∙ c.if-ne.false))
    ∙ c.get-in-loop-place.ensures)
