use Rattle.std.proofs.Common.{◌<◌, ◌∙◌, ℕ, List, [], None, Option, ap, length, subst, sym}
use Rattle.std.proofs.Math.ListN.{length-set}
use Rattle.std.proofs.lemmas.List.{length-replicate}
use Rattle.record_ends.specs.inner.Donors.{ListsDonors}
use Rattle.record_ends.proofs.DonorLaws.{donors-more, donors-none}
use Rattle.record_ends.proofs.ends.donors_of.Goals as goal

pub loop-entry-init : goal.loop-entry-init
loop-entry-init c =
    let none = c.in_ok-donors.ensures in
    record {
      as_many = ap (λ (ds : List (Option ℕ)). length ds) none ∙ length-replicate c.args.rows None;
      lists = subst (λ (ds : List (Option ℕ)). ListsDonors [] c.args.rows ds) (sym none) (donors-none c.args.rows);
    }

pub loop-entry-preserved : goal.loop-entry-preserved
loop-entry-preserved c =
    let loop = c.loop-entry in
    let e = c.entry-item.result in
    let within : e.row_no < c.args.rows = rw (← c.entry-item.is) at (c.requires.within loop.entry-index e c.loop-entry-test.true) in
    record {
      as_many = length-set loop.donors.items e.row_no e.reply ∙ loop.invariant.as_many;
      lists = donors-more c.args.rows c.args.history.now c.requires.once loop.entry-index e c.loop-entry-test.true c.entry-item.is loop.donors.items
          loop.invariant.as_many within loop.invariant.lists;
    }
