use Rattle.std.proofs.Common.{◌≡◌, ◌∙◌, ℕ, suc, ◌-◌, Some, ap, sym, arith}
use Rattle.bound_cert.specs.inner.Tasks.{path_before}
use Rattle.bound_cert.proofs.OrderLoop.{path_before-at}
use Rattle.bound_cert.proofs.order.path_before.Goals as goal

pub returns-else-place-eq0 : goal.returns-else-place-eq0
returns-else-place-eq0 c =
    let before : ℕ = c.args.place - 1 in
    let same : suc before ≡ c.args.place = omega (arith, c.if-place-eq0.false) in
    let leaf = c.index-leaves-place.result in
    ap Some (c.letters.ensures ∙ ap (λ l. l.path) (sym c.index-leaves-place.is))
    ∙ sym (path_before-at c.args.leaves.now before leaf (omega (arith, same, c.requires)) c.index-leaves-place.is)
    ∙ ap (λ n. path_before c.args.leaves.now n) same
