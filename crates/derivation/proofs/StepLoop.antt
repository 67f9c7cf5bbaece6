use Rattle.std.proofs.Common.{◌≡◌, ℕ, suc, ◌+◌, ◌<◌, List, [], ◌∷◌, ◌++◌, Option, Some, None, Result, Ok, Err, drop, get_or, length, map, sym, ap, ◌∙◌, inl}
use Rattle.std.proofs.Common.{inr, refl, add-one, arith}
use Rattle.std.proofs.Math.Seq.{drop-cons}
use Rattle.std.proofs.lemmas.List.Elements.{All-cons}
use Rattle.std.proofs.lemmas.Result.{err_from_is_err_and}
use Rattle.std.specs.Option.{ok_or}
use Rattle.std.specs.Result.{IsErrAnd}
use Rattle.foundation.specs.Results.{◌>>=◌}
use Rattle.derivation.specs.inner.Meanings.{AllOver, meaning}
use Rattle.derivation.specs.Premises.{Premises}
use Rattle.derivation.specs.Shown.{IsOver}
use Rattle.derivation.specs.ValidSteps.{last_from, proved_by, proved_from}
use Rattle.derivation.specs.declared.fault.StepsFault.{StepsFault}
use Rattle.derivation.specs.declared.fault.StepsFault.TheVariants.{Bad, OutOfMemory}
use Rattle.derivation.specs.declared.known.Known.{Known}
use Rattle.derivation.specs.declared.proved.Proved.{Proved}
use Rattle.derivation.specs.declared.step.Step.{Step}
use Rattle.derivation.proofs.Soundness.{AllKnown}

-- The loop over the steps.

module _ (p : Premises) (steps : List Step) (earlier : List Proved) (i : ℕ) (whole : Result (List Proved) ℕ)
    (before : proved_from p earlier (drop i steps) ≡ whole) where
  -- the next step
  next : (one : Step) → i < length steps → one ≡ get_or steps i one
      → (ok_or (proved_by p earlier one) (length earlier) >>= (λ x. proved_from p (earlier ++ x ∷ []) (drop (suc i) steps))) ≡ whole
  next one below is = ap (λ (s : Step). (ok_or (proved_by p earlier s) (length earlier) >>= (λ x. proved_from p (earlier ++ x ∷ []) (drop (suc i) steps)))) is
      ∙ sym (ap (λ (ss : List Step). proved_from p earlier ss) (drop-cons steps i one below)) ∙ before

  -- a valid one goes on with what it proves
  pub valid-more : (one : Step) (x : Proved) → i < length steps → one ≡ get_or steps i one → Some x ≡ proved_by p earlier one
      → proved_from p (earlier ++ x ∷ []) (drop (i + 1) steps) ≡ whole
  valid-more one x below is some =
      rw (add-one) (ap (λ (o : Option Proved). (ok_or o (length earlier) >>= (λ x. proved_from p (earlier ++ x ∷ []) (drop (suc i) steps)))) some
      ∙ next one below is)

  -- one that is not valid ends in the fault that names it
  pub invalid-there : (one : Step) → i < length steps → one ≡ get_or steps i one → None ≡ proved_by p earlier one → whole ≡ Err (length earlier)
  invalid-there one below is none =
      sym (ap (λ (o : Option Proved). (ok_or o (length earlier) >>= (λ x. proved_from p (earlier ++ x ∷ []) (drop (suc i) steps)))) none ∙ next one below is)

-- where memory is refused, no step is named
pub memory-named : {T : Type 0} (r : Result T StepsFault) (place : ℕ) → IsErrAnd r (λ (f : StepsFault). f ≡ OutOfMemory) → r ≡ Err (Bad place) → ⊥
memory-named r place refused named = let memory = err_from_is_err_and r refused in absurd (cc (memory.1, memory.2, named))

-- a fault names one place
pub named-place : {T : Type 0} (r : Result T StepsFault) (a b : ℕ) → r ≡ Err (Bad a) → r ≡ Err (Bad b) → a ≡ b
named-place r a b first second = cc (first, second)

-- the last of what was proved
pub last-push : (before : Option Proved) (all : List Proved) (x : Proved) → last_from before (all ++ x ∷ []) ≡ Ok x
last-push None [] x = refl
last-push (Some y) [] x = refl
last-push None (z ∷ all) x = last-push (Some z) all x
last-push (Some y) (z ∷ all) x = last-push (Some z) all x

-- all that is known is over the fields
pub over-known : (p : Premises) (known : List Known) → AllKnown p (map meaning known) → AllOver p.shape known
over-known p [] all = λ k d below. absurd (omega arith)
over-known p (one ∷ known) all = All-cons (λ k. IsOver p.shape (meaning k)) one known (all (meaning one) (inl refl)).1
    (over-known p known (λ x there. all x (inr there)))
