-- What stands under a name in a list of files is what the map that they come from has there.
use Rattle.std.proofs.Common.{◌≡◌, refl, ℕ, List, [], ◌∷◌, map, Option, Some, string_bytes, String, Vec, Bool, true, false, cond}
use Rattle.std.specs.Option.{option_map}
use Rattle.std.specs.Ordering.{nat_cmp}
use Rattle.std.specs.Cmp.Lexicographic.{slice_cmp}
use Rattle.std.specs.Str.{bytes_eq}
use Rattle.std.specs.Map.{lookup}
use Rattle.std.specs.BTreeMap.{BTreeMap, get_by_text, is_at}
use Rattle.std.specs.declared.alloc.Global.{Global}
use Rattle.std.proofs.lemmas.Map.Text.{is_eq-slice_cmp}
use Rattle.edit_desk.specs.Memory.{named_files, under}

-- the same entry is found by either test
found : {A : Type 0} (f : A → List ℕ) (b : Bool) (x : A) (rest : Option A) (others : Option (List ℕ)) → others ≡ option_map f rest
    → cond b (Some (f x)) others ≡ option_map f (cond b (Some x) rest)
found f true x rest others e = refl
found f false x rest others e = e

-- the bytes under a name, in terms of the entries
under_entries : (es : List (String Global × Vec ℕ Global)) (name : List ℕ)
    → under (map (λ e. (string_bytes e.0, e.1.items)) es) name ≡ option_map (λ v. v.items) (lookup (is_at (λ k. slice_cmp nat_cmp name (string_bytes k))) es)
under_entries [] name = refl
under_entries (e ∷ es) name = rw (is_eq-slice_cmp name (string_bytes e.0))
    (found (λ (v : Vec ℕ Global). v.items) (bytes_eq name (string_bytes e.0)) e.1 _ _ (under_entries es name))

-- the bytes under a name, in terms of the map
pub under_named : (m : BTreeMap (String Global) (Vec ℕ Global)) (name : List ℕ) → under (named_files m) name ≡ option_map (λ v. v.items) (get_by_text m name)
under_named m name = under_entries m.entries name
