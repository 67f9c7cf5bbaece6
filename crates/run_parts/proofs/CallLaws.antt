-- The calls of the parts of a run, one after the other.
use Rattle.std.proofs.Common.{◌≡◌, ◌⊎◌, ◌∙◌, ◌+◌, ℕ, zero, suc, List, [], ◌∷◌, ◌++◌, Option, Result, Ok, Err, IfErr, ap, append-nil, append_assoc, arith, inl}
use Rattle.std.proofs.Common.{inr, length, refl, subst, sym, take, take_all}
use Rattle.std.specs.Prelude.{⊤}
use Rattle.std.proofs.Math.Seq.{take-append-add}
use Rattle.run_parts.specs.Refused.{check_fault}
use Rattle.edit_desk.specs.Desk.{Asked, PutsOnRecord, failing, fetched, stored}
use Rattle.cert_check.specs.declared.fault.CheckFault.{CheckFault}
use Rattle.cert_check.specs.declared.fault.CheckFault.TheVariants as check
use Rattle.run_parts.specs.Faults.{IsOfEdit, IsOfInput, IsOfStores}
use Rattle.run_parts.specs.Run.{AreCallsTo, CallsEndAt}
use Rattle.run_parts.specs.Parts.{AreCallsOf, IsOfFetch, IsOfLast, IsOfRecords, IsOfRules, faults_after}
use Rattle.run_parts.specs.declared.fault.Fault.{Fault}
use Rattle.run_parts.specs.declared.fault.Fault.TheVariants as fault
use Rattle.run_parts.proofs.ToldLaws.{less-told, then-told}

-- ---- calls on record

-- the calls of two parts
pub then-calls : (a b c : Option (List Asked)) {P Q : List Asked → Type 0} (R : List Asked → Type 0) → ((x y : List Asked) → P x → Q y → R (x ++ y))
    → PutsOnRecord a b P → PutsOnRecord b c Q → PutsOnRecord a c R
then-calls a b c R both p q =
    then-told a b c (λ x y z h k. (h.0 ++ k.0, k.1 ∙ ap (λ (l : List Asked). l ++ k.0) h.1 ∙ append_assoc x h.0 k.0, both h.0 k.0 h.2 k.2)) p q

-- the same calls, of which less is said
pub less-calls : (a b : Option (List Asked)) {P : List Asked → Type 0} (R : List Asked → Type 0) → ((x : List Asked) → P x → R x) → PutsOnRecord a b P
    → PutsOnRecord a b R
less-calls a b R less p = less-told a b (λ x y h. (h.0, h.1, less h.0 h.2)) p

-- all calls of two parts
pub all-calls : (a b c : Option (List Asked)) (x y : List Asked) → PutsOnRecord a b (λ calls. calls ≡ x) → PutsOnRecord b c (λ calls. calls ≡ y)
    → PutsOnRecord a c (λ calls. calls ≡ x ++ y)
all-calls a b c x y p q = then-calls a b c (λ calls. calls ≡ x ++ y) (λ s t e f. ap (λ (l : List Asked). l ++ t) e ∙ ap (λ (l : List Asked). x ++ l) f) p q

-- ---- a call among others

-- some first of a list are some first of a longer one
pub some-first : {A : Type 0} (count : ℕ) (xs ys : List A) → (more : ℕ) × (take count xs ≡ take more (xs ++ ys))
some-first zero xs ys = (0, refl)
some-first (suc count) [] ys = (0, refl)
some-first (suc count) (x ∷ xs) ys = let more = some-first count xs ys in (suc more.0, ap (λ (l : List _). x ∷ l) more.1)

-- a fault that a call meets, or that memory is refused
abbrev pub IsOfCall : Fault → Type 0
IsOfCall (fault.Read name) = ⊤
IsOfCall (fault.Write name) = ⊤
IsOfCall (fault.TooLong name) = ⊤
IsOfCall fault.OutOfMemory = ⊤
IsOfCall fault = ⊥

pub of-fetch : (name : List ℕ) (f : Fault) → IsOfFetch name f → IsOfCall f
of-fetch name (fault.Read n) kind = tt
of-fetch name (fault.TooLong n) kind = tt
of-fetch name fault.OutOfMemory kind = tt
of-fetch name f kind = absurd kind

pub of-stores : (f : Fault) → IsOfStores f → IsOfCall f
of-stores (fault.Write n) kind = tt
of-stores fault.OutOfMemory kind = tt
of-stores f kind = absurd kind

-- a fault of the rules or the records is one that a command may be refused for
pub of-input : (f : Fault) → IsOfInput f → IsOfEdit f
of-input (fault.Rules line k) kind = tt
of-input (fault.Records what) kind = tt
of-input (fault.Read n) kind = tt
of-input (fault.TooLong n) kind = tt
of-input fault.OutOfMemory kind = tt
of-input f kind = absurd kind

module _ (before order rest calls : List Asked) where
  end-later : (call last : Asked) → CallsEndAt order call last calls → CallsEndAt (before ++ (order ++ rest)) call last (before ++ calls)
  end-later call last h = record {
    before = before ++ h.before;
    after = h.after ++ rest;
    stands =
        ap (λ (l : List Asked). before ++ (l ++ rest)) h.stands ∙ ap (λ (l : List Asked). before ++ l) (append_assoc h.before (call ∷ h.after) rest)
        ∙ sym (append_assoc before h.before (call ∷ (h.after ++ rest)));
    ended = ap (λ (l : List Asked). before ++ l) h.ended ∙ sym (append_assoc before h.before (last ∷ []));
  }

  -- the calls up to a fault, between those of the parts before and behind
  pub calls-between : (f : Fault) → IsOfCall f → AreCallsTo order f calls → AreCallsTo (before ++ (order ++ rest)) f (before ++ calls)
  calls-between (fault.Read name) kind h = end-later (fetched name) (failing (fetched name)) h
  calls-between (fault.Write name) kind h = end-later (stored name) (failing (stored name)) h
  calls-between (fault.TooLong name) kind h = end-later (fetched name) (fetched name) h
  calls-between fault.OutOfMemory kind h =
      let more = some-first h.0 order rest in
      (length before + more.0, ap (λ (l : List Asked). before ++ l) (h.1 ∙ more.1) ∙ sym (take-append-add before (order ++ rest) more.0))
  calls-between f kind h = absurd kind

-- the same, where those of the parts before are on record
pub behind-calls : (a b c : Option (List Asked)) (before order rest : List Asked) (f : Fault) → IsOfCall f → PutsOnRecord a b (λ calls. calls ≡ before)
    → PutsOnRecord b c (AreCallsTo order f) → PutsOnRecord a c (AreCallsTo (before ++ (order ++ rest)) f)
behind-calls a b c before order rest f kind p q =
    then-calls a b c (AreCallsTo (before ++ (order ++ rest)) f) (λ x y e h. subst (λ (l : List Asked). AreCallsTo (before ++ (order ++ rest)) f (l ++ y))
    (sym e) (calls-between before order rest y f kind h)) p q

-- the same, where the later part stores, and may have met no fault
pub calls-then : {A : Type 0} (a b c : Option (List Asked)) (before order : List Asked) (r : Result A Fault) → IfErr r IsOfStores
    → PutsOnRecord a b (λ calls. calls ≡ before) → PutsOnRecord b c (AreCallsOf order r) → PutsOnRecord a c (AreCallsOf (before ++ order) r)
calls-then a b c before order (Ok done) kind p q = all-calls a b c before order p q
calls-then a b c before order (Err f) kind p q =
    subst (λ (l : List Asked). PutsOnRecord a c (AreCallsTo (before ++ l) f)) (append-nil order) (behind-calls a b c before order [] f (of-stores f kind) p q)

-- the calls up to a refusal of the rules, which are fetched first
pub rules-calls : (name : List ℕ) (rest calls : List Asked) (f : Fault) → IsOfRules name f → AreCallsTo (fetched name ∷ []) f calls
    → AreCallsTo (fetched name ∷ rest) f calls
rules-calls name rest calls (fault.Rules line k) kind h = h
rules-calls name rest calls (fault.Read n) kind h = calls-between [] (fetched name ∷ []) rest calls (fault.Read n) tt h
rules-calls name rest calls (fault.TooLong n) kind h = calls-between [] (fetched name ∷ []) rest calls (fault.TooLong n) tt h
rules-calls name rest calls fault.OutOfMemory kind h = calls-between [] (fetched name ∷ []) rest calls fault.OutOfMemory tt h
rules-calls name rest calls f kind h = absurd kind

-- and of the records, which are fetched second
pub records-calls : (first name : List ℕ) (rest calls : List Asked) (f : Fault) → IsOfRecords name f → AreCallsTo (fetched name ∷ []) f calls
    → AreCallsTo (fetched first ∷ fetched name ∷ rest) f (fetched first ∷ calls)
records-calls first name rest calls (fault.Records what) kind h = ap (λ (l : List Asked). fetched first ∷ l) h
records-calls first name rest calls (fault.Read n) kind h = calls-between (fetched first ∷ []) (fetched name ∷ []) rest calls (fault.Read n) tt h
records-calls first name rest calls (fault.TooLong n) kind h = calls-between (fetched first ∷ []) (fetched name ∷ []) rest calls (fault.TooLong n) tt h
records-calls first name rest calls fault.OutOfMemory kind h = calls-between (fetched first ∷ []) (fetched name ∷ []) rest calls fault.OutOfMemory tt h
records-calls first name rest calls f kind h = absurd kind

-- and of the file of the last period, which is fetched third
pub last-calls : (first second name : List ℕ) (rest calls : List Asked) (f : Fault) → IsOfLast name f → AreCallsTo (fetched name ∷ []) f calls
    → AreCallsTo (fetched first ∷ fetched second ∷ fetched name ∷ rest) f (fetched first ∷ fetched second ∷ calls)
last-calls first second name rest calls (fault.Last what) kind h = ap (λ (l : List Asked). fetched first ∷ fetched second ∷ l) h
last-calls first second name rest calls (fault.Read n) kind h =
    calls-between (fetched first ∷ fetched second ∷ []) (fetched name ∷ []) rest calls (fault.Read n) tt h
last-calls first second name rest calls (fault.TooLong n) kind h =
    calls-between (fetched first ∷ fetched second ∷ []) (fetched name ∷ []) rest calls (fault.TooLong n) tt h
last-calls first second name rest calls fault.OutOfMemory kind h =
    calls-between (fetched first ∷ fetched second ∷ []) (fetched name ∷ []) rest calls fault.OutOfMemory tt h
last-calls first second name rest calls f kind h = absurd kind

-- and of the rules and the records, whatever is called behind them
pub input-calls : (rules records : List ℕ) (rest calls : List Asked) (f : Fault) → IsOfInput f
    → AreCallsTo (fetched rules ∷ fetched records ∷ []) f calls → AreCallsTo (fetched rules ∷ fetched records ∷ rest) f calls
input-calls rules records rest calls (fault.Rules line k) kind h = h
input-calls rules records rest calls (fault.Records what) kind h = h
input-calls rules records rest calls (fault.Read n) kind h =
    calls-between [] (fetched rules ∷ fetched records ∷ []) rest calls (fault.Read n) tt h
input-calls rules records rest calls (fault.TooLong n) kind h =
    calls-between [] (fetched rules ∷ fetched records ∷ []) rest calls (fault.TooLong n) tt h
input-calls rules records rest calls fault.OutOfMemory kind h =
    calls-between [] (fetched rules ∷ fetched records ∷ []) rest calls fault.OutOfMemory tt h
input-calls rules records rest calls f kind h = absurd kind

-- ---- all calls, and then perhaps want of memory

pub memory-calls : {A : Type 0} (a b : Option (List Asked)) (order : List Asked) (r : Result A Fault) → IfErr r (λ f. f ≡ fault.OutOfMemory)
    → PutsOnRecord a b (λ calls. calls ≡ order) → PutsOnRecord a b (AreCallsOf order r)
memory-calls a b order (Ok done) memory p = p
memory-calls a b order (Err f) memory p =
    less-calls a b (AreCallsTo order f) (λ x e. rw memory (length order, e ∙ sym (take_all (length order) order (omega arith)))) p

pub memory-faults : {A : Type 0} (r : Result A Fault) (faults : ℕ) → IfErr r (λ f. f ≡ fault.OutOfMemory) → faults_after r faults ≡ faults
memory-faults (Ok done) faults memory = refl
memory-faults (Err f) faults memory = rw memory refl

-- all calls, and then a refusal of the release that they gave
as-told : (order : List Asked) (told : CheckFault) → AreCallsTo order (check_fault told) order
as-told order (check.Rejected line why) = refl
as-told order check.OutOfMemory = (length order, sym (take_all (length order) order (omega arith)))

pub told-calls : (a b : Option (List Asked)) (order : List Asked) (told : CheckFault) (f : Fault) → (f ≡ check_fault told) ⊎ (f ≡ fault.OutOfMemory)
    → PutsOnRecord a b (λ calls. calls ≡ order) → PutsOnRecord a b (AreCallsTo order f)
told-calls a b order told f (inl same) p =
    less-calls a b (AreCallsTo order f) (λ x e. rw same (subst (AreCallsTo order (check_fault told)) (sym e) (as-told order told))) p
told-calls a b order told f (inr memory) p =
    less-calls a b (AreCallsTo order f) (λ x e. rw memory (subst (AreCallsTo order fault.OutOfMemory) (sym e) (as-told order check.OutOfMemory))) p
