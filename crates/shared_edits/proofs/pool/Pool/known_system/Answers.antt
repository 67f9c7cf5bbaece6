use Rattle.std.proofs.Common.{List, map, subst, sym, ◌≡◌}
use lib.ListN.{get_or}
use Rattle.shared_edits.specs.Pools.{Carries, IsOf, Knows}
use Rattle.shared_edits.specs.declared.entry.Entry.{Entry}
use Rattle.shared_edits.specs.inner.Entries.{walked_of}
use Rattle.shared_edits.proofs.FindLaws.{carries-lines, found, unknown}
use Rattle.shared_edits.proofs.pool.Pool.known_system.Goals as goal

-- the entry at the place is found
module _ (c : goal.After-index-as_slice-place) where
  abbrev e : Entry
  e = c.index-as_slice-place.result

  is_found : IsOf c.args.self.now (walked_of e) × Carries c.args.self.now c.args.fields (walked_of e)
      × Knows c.args.self.now c.args.fields (map walked_of c.args.entries.now)
  is_found =
      let at = subst (λ (es : List Entry). e ≡ get_or es c.in_ok-place.place e) c.as_slice.ensures c.index-as_slice-place.is in
      found c.args.self.now c.args.fields c.args.entries.now c.requires c.in_ok-place.place e (sym c.in_ok-place.ensures) at

-- and is so when its system is lent
module _ (c : goal.After-system_at) where
  abbrev d : Entry
  d = c.index-as_slice-place.result

  was_found : IsOf c.args.self.now (walked_of d) × Carries c.args.self.now c.args.fields (walked_of d)
      × Knows c.args.self.now c.args.fields (map walked_of c.args.entries.now)
  was_found =
      let at = subst (λ (es : List Entry). d ≡ get_or es c.in_ok-place.place d) c.as_slice.ensures c.index-as_slice-place.is in
      found c.args.self.now c.args.fields c.args.entries.now c.requires c.in_ok-place.place d (sym c.in_ok-place.ensures) at

pub system_at-requires : goal.system_at-requires
system_at-requires c = (is_found c).0.shown

pub returns-in_err-place-clause-none : goal.returns-in_err-place-clause-none
returns-in_err-place-clause-none c = rw c.from_residual.ensures (unknown c.args.self.now c.args.fields c.args.entries.now c.requires
    (sym c.in_err-place.ensures))

pub returns-clause-edits : goal.returns-clause-edits
returns-clause-edits c = rw c.system_at.ensures (was_found c).1.0

pub returns-clause-fields : goal.returns-clause-fields
returns-clause-fields c = rw c.system_at.ensures (was_found c).1.1

pub returns-clause-exact : goal.returns-clause-exact
returns-clause-exact c =
    let f = was_found c in
    rw c.system_at.ensures (carries-lines c.args.self.now c.args.fields (walked_of c.index-as_slice-place.result) f.0 f.1)

pub returns-clause-known : goal.returns-clause-known
returns-clause-known c = (was_found c).2
