-- What stores, one after the other, leave of the files.
use Rattle.std.proofs.Common.{◌∙◌, ℕ, suc, List, [], ◌∷◌, ◌++◌, Option, Result, Ok, Err, IfErr, ap, append_assoc, refl, subst, sym, take}
use Rattle.edit_desk.specs.Desk.{Files, SameElsewhere, Told}
use Rattle.run_parts.specs.Faults.{IsOfStores}
use Rattle.run_parts.specs.Run.{AreStored, IsCutOff, LeavesOf}
use Rattle.run_parts.specs.Parts.{StoresOf}
use Rattle.run_parts.specs.declared.fault.Fault.{Fault}
use Rattle.run_parts.specs.declared.fault.Fault.TheVariants as fault
use Rattle.run_parts.proofs.CallLaws.{some-first}
use Rattle.run_parts.proofs.ToldLaws.{less-told, then-told}

-- files, each with its name
abbrev pub Texts : Type 0
Texts = List (List ℕ × List ℕ)

-- ---- one store

-- a store that failed leaves its one file cut off or as it was
pub one-left : (name bytes : List ℕ) (a b : Option Files) → Told a b (λ old new. IsCutOff name bytes old new × SameElsewhere old new name)
    → Told a b (LeavesOf ((name, bytes) ∷ []) (fault.Write name))
one-left name bytes a b h = less-told a b (λ old new left. record {
  front = [];
  bytes = bytes;
  rest = [];
  stands = refl;
  between = old;
  stored = refl;
  cut = left.0;
  elsewhere = left.1;
}) h

-- ---- stores, and then others

stored-then : (first second : Texts) (a b c : Files) → AreStored first a b → AreStored second b c → AreStored (first ++ second) a c
stored-then [] second a b c h k = subst (λ (f : Files). AreStored second f c) h k
stored-then (file ∷ first) second a b c (between, puts, rest) k = (between, puts, stored-then first second between b c rest k)

some-then : (first second : Texts) (count : ℕ) (a b c : Files) → AreStored first a b → AreStored (take count second) b c → (more : ℕ)
    × AreStored (take more (first ++ second)) a c
some-then [] second count a b c h k = (count, subst (λ (f : Files). AreStored (take count second) f c) h k)
some-then (file ∷ first) second count a b c (between, puts, rest) k = let more = some-then first second count between b c rest k in
    (suc more.0, (between, puts, more.1))

module _ (first second : Texts) where
  -- what is left where the later of two groups of files met a fault
  left-then : (f : Fault) (a b c : Files) → IsOfStores f → AreStored first a b → LeavesOf second f b c → LeavesOf (first ++ second) f a c
  left-then (fault.Write name) a b c kind h k = record {
    front = first ++ k.front;
    bytes = k.bytes;
    rest = k.rest;
    stands = ap (λ (l : Texts). first ++ l) k.stands ∙ sym (append_assoc first k.front ((name, k.bytes) ∷ k.rest));
    between = k.between;
    stored = stored-then first k.front a b k.between h k.stored;
    cut = k.cut;
    elsewhere = k.elsewhere;
  }
  left-then fault.OutOfMemory a b c kind h k = some-then first second k.0 a b c h k.1
  left-then f a b c kind h k = absurd kind

  -- and where the earlier did
  left-first : (f : Fault) (a b : Files) → IsOfStores f → LeavesOf first f a b → LeavesOf (first ++ second) f a b
  left-first (fault.Write name) a b kind h = record {
    front = h.front;
    bytes = h.bytes;
    rest = h.rest ++ second;
    stands = ap (λ (l : Texts). l ++ second) h.stands ∙ append_assoc h.front ((name, h.bytes) ∷ h.rest) second;
    between = h.between;
    stored = h.stored;
    cut = h.cut;
    elsewhere = h.elsewhere;
  }
  left-first fault.OutOfMemory a b kind h = let more = some-first h.0 first second in (more.0, subst (λ (l : Texts). AreStored l a b) more.1 h.1)
  left-first f a b kind h = absurd kind

  pub stores-first : (f : Fault) (a b : Option Files) → IsOfStores f → Told a b (LeavesOf first f) → Told a b (LeavesOf (first ++ second) f)
  stores-first f a b kind h = less-told a b (λ x y left. left-first f x y kind left) h

  pub stores-both : (a b c : Option Files) → Told a b (AreStored first) → Told b c (AreStored second) → Told a c (AreStored (first ++ second))
  stores-both a b c h k = then-told a b c (λ x y z p q. stored-then first second x y z p q) h k

  pub stores-then : {A : Type 0} (r : Result A Fault) (a b c : Option Files) → IfErr r IsOfStores → Told a b (AreStored first) → Told b c (StoresOf second r)
      → Told a c (StoresOf (first ++ second) r)
  stores-then (Ok end) a b c kind h k = stores-both a b c h k
  stores-then (Err f) a b c kind h k = then-told a b c (λ x y z p q. left-then f x y z kind p q) h k
