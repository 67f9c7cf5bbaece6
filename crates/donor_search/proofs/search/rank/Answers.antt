use Rattle.std.proofs.Common.{◌∙◌, List, subst, arith, rules}
use Rattle.donor_search.specs.CleanRows.{row_at}
use Rattle.donor_search.specs.declared.candidate.Candidate.{Candidate}
use Rattle.donor_search.specs.inner.Candidates.{Ranks, candidate_of}
use Rattle.donor_search.specs.inner.Searches.{far_in, yardsticks_in}
use Rattle.donor_search.proofs.ProfileLaws.{as_many_marks, farther_told}
use Rattle.donor_search.proofs.search.rank.Goals as goal

pub is_farther-requires-clause-equal : goal.is_farther-requires-clause-equal
is_farther-requires-clause-equal g c =
    let s = c.args.search.now in
    as_many_marks (yardsticks_in s) s.kept s.row.now (row_at s.sheet.now.rows c.args.donor) c.as_slice.result.now c.args.marks.now
    (c.as_slice.ensures.same ∙ c.requires.profile.weighed) c.requires.marks

pub returns-then-is_farther-clause-ranks : goal.returns-then-is_farther-clause-ranks
returns-then-is_farther-clause-ranks g c =
    let s = c.args.search.now in
    let far = farther_told (yardsticks_in s) s.kept s.row.now (row_at s.sheet.now.rows c.args.donor) c.as_slice.result.now c.args.marks.now
    (c.as_slice.ensures.same ∙ c.requires.profile.weighed) c.requires.marks
    c.in-Some.most c.requires.profile.fit c.requires.search.row c.requires.donor.1 (c.is_farther.ensures (search rules)) in
    subst (λ (cs : List Candidate). Ranks (far_in s) s.near c.args.donor cs cs) c.deref.ensures.value
    (c.in-Some.ensures.closed (candidate_of (far_in s) c.args.donor) (omega (arith, far)))
