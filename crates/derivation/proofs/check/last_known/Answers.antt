use Rattle.std.proofs.Common.{[], ◌∷◌, List, Ok, None, map, sym, ap, ◌∙◌}
use Rattle.std.proofs.lemmas.List.{map-append}
use Rattle.derivation.specs.inner.Meanings.{meaning}
use Rattle.derivation.specs.ValidSteps.{last_from}
use Rattle.derivation.specs.declared.known.Known.{Known}
use Rattle.derivation.specs.declared.proved.Proved.{Proved}
use Rattle.derivation.proofs.StepLoop.{last-push}
use Rattle.derivation.proofs.check.last_known.Goals as goal

pub returns-clause-proved : goal.returns-clause-proved
returns-clause-proved c =
    ap (λ (ks : List Known). last_from None (map meaning ks)) c.in-Some.ensures.items
    ∙ ap (λ (xs : List Proved). last_from None xs) (map-append meaning c.pop.new.self.items (c.in-Some.last ∷ []))
    ∙ last-push None (map meaning c.pop.new.self.items) (meaning c.in-Some.last)
    ∙ ap (λ (x : Proved). Ok x) (sym c.in_ok-into_proved-in-Some.ensures)
