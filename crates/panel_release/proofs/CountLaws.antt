-- What is counted of the records.
use Rattle.std.proofs.Common.{◌≡◌, ◌==◌, ◌||◌, not, if◌then◌else◌, Bool, true, false, ℕ, List, [], ◌∷◌, length, refl, ap}
use Rattle.std.proofs.Math.Dec.{eqb-suc-zero}
use Rattle.std.specs.List.{filter, list_any}
use Rattle.edit_model.specs.declared.field.Field.{Field}
use Rattle.bound_cert.specs.declared.cert.Cert.{Cert}
use Rattle.back_subst.specs.declared.gift.Gift.{Gift}
use Rattle.panel_link.specs.declared.linked.Linked.TheVariants as linked
use Rattle.panel_release.specs.PanelReleases.{end_of}
use Rattle.panel_release.specs.declared.counts.Resolution.{Resolution}
use Rattle.panel_release.specs.declared.counts.Resolution.TheVariants as resolution
use Rattle.panel_release.specs.inner.Counts.{IsPathResolution, IsResolution}

-- a change is counted by its path
pub by-path : (fields : List Field) (path : List Bool) (weight : ℕ) (cert : Cert) (gift : Gift) (r : Resolution)
    → IsPathResolution fields path r → IsResolution fields (end_of (linked.Change path weight cert gift)) r
by-path fields path weight cert gift resolution.Clean kept = (kept, ap not kept, refl)
by-path fields path weight cert gift (resolution.Changed w) (changed, weighs) = (changed, ap not changed, refl, weighs)
by-path fields path weight cert gift resolution.Unresolved none = absurd none

-- none is counted exactly where none passes
pub none-counted : {X : Type 0} (test : X → Bool) (xs : List X) → (length (filter test xs) == 0) ≡ not (list_any test xs)
none-counted test [] = refl
none-counted {X} test (x ∷ xs) = by (test x) (none-counted test xs)
  where
    by : (b : Bool) → (length (filter test xs) == 0) ≡ not (list_any test xs)
        → (length (if b then x ∷ filter test xs else filter test xs) == 0) ≡ not (b || list_any test xs)
    by true rest = eqb-suc-zero (length (filter test xs))
    by false rest = rest
