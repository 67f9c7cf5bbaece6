use Rattle.std.proofs.Common.{◌≡◌, ◌<◌, All, nat_lt, subst, sym}
use Rattle.std.specs.Prelude.{slice_index}
use Rattle.donor_book.specs.Claims.{first_free}
use Rattle.donor_book.specs.Passes.{PassState}
use Rattle.donor_book.proofs.IndexLaws.{found_within, free_is}
use Rattle.donor_book.proofs.shared.Pass.first_free.Goals as goal

pub returns-clause-free : goal.returns-clause-free
returns-clause-free c =
    let inv = c.self.invariant in
    let below = subst (λ (p : PassState). All (λ d. d < p.book.terms.donors) c.args.ranking.now) (sym c.self.view_is) c.requires in
    let within = subst (λ n. All (λ d. d < n) c.args.ranking.now) (sym inv.8) below in
    subst (λ (p : PassState). c.first_below.result ≡ first_free p.book.terms.limit p.seen c.args.ranking.now) c.self.view_is
    (rw (c.first_below.ensures, c.deref.ensures.value) (free_is c.self.inside.terms.limit c.self.inside.seat.me.0.seen c.self.inside.uses.items
    c.self.inside.replies.items c.args.ranking.now inv.10 within))

pub returns-clause-donor : goal.returns-clause-donor
returns-clause-donor c = rw c.first_below.ensures (found_within c.args.self.now.book.terms.donors
    (λ d. nat_lt (slice_index c.deref.result.now d) c.self.inside.terms.limit) c.args.ranking.now c.requires)
