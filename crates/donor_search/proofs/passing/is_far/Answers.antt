use Rattle.std.proofs.Common.{◌≡◌, ◌<◌, ◌∙◌, List, ap, refl, sym, take, arith}
use Rattle.edit_model.specs.declared.value.Value.{Value}
use Rattle.donor_measure.specs.Buckets.{marks_of}
use Rattle.donor_search.specs.CleanRows.{row_at}
use Rattle.donor_search.specs.Decks.{first_fields, slot_at}
use Rattle.donor_search.specs.declared.slot.Slot.{Slot}
use Rattle.donor_search.specs.inner.Passings.{slots_of}
use Rattle.donor_search.specs.inner.Profiles.{told}
use Rattle.donor_search.specs.inner.Searches.{yardsticks_in}
use Rattle.donor_search.proofs.ProfileLaws.{as_many_first, as_many_marks, farther_first, farther_told}
use Rattle.donor_search.proofs.passing.is_far.Goals as goal

pub least_distance_at_first-first-requires-clause-first : goal.least_distance_at_first-first-requires-clause-first
least_distance_at_first-first-requires-clause-first g c =
    let s = c.args.passing.now.search.now in
    let ys = yardsticks_in s in
    let row = row_at s.sheet.now.rows (slot_at c.args.passing.now.slots.now c.args.place).donor in
    as_many_first ys s.kept s.row.now row c.args.passing.now.own.now
    (marks_of ys row) c.requires.passing.profile.weighed refl c.first_marks_in_walk-first_marks.result.now c.first_marks_in_walk-first_marks.ensures

pub returns-then-from-passing : goal.returns-then-from-passing
returns-then-from-passing g c is =
    let s = c.args.passing.now.search.now in
    let ys = yardsticks_in s in
    let can = c.requires.passing.slots c.args.place (record { bucket = 0; donor = 0 }) c.requires.place in
    let row = row_at s.sheet.now.rows (slot_at (slots_of c.args.passing.now) c.args.place).donor in
    let same : row_at s.sheet.now.rows (slot_at c.args.passing.now.slots.now c.args.place).donor ≡ row =
    ap (λ (ss : List Slot). row_at s.sheet.now.rows (slot_at ss c.args.place).donor) c.requires.passing.walked in
    let first_is = c.first_marks_in_walk-first_marks.ensures ∙ ap (λ (r : List Value). take first_fields (marks_of ys r)) same in
    let more : c.args.passing.now.most < told c.args.passing.now.own.now c.first_marks_in_walk-first_marks.result.now =
    omega (arith, c.if-from-passing.true, c.from.ensures, c.least_distance_at_first-first.ensures) in
    farther_first ys s.kept s.row.now row c.args.passing.now.own.now
    (marks_of ys row) c.requires.passing.profile.weighed refl c.args.passing.now.most c.first_marks_in_walk-first_marks.result.now first_is
    c.requires.passing.profile.fit c.requires.passing.search.row can.1 more

pub is_farther_with-requires-clause-equal : goal.is_farther_with-requires-clause-equal
is_farther_with-requires-clause-equal g c =
    let s = c.args.passing.now.search.now in
    let ys = yardsticks_in s in
    let row = row_at s.sheet.now.rows (slot_at c.args.passing.now.slots.now c.args.place).donor in
    as_many_marks ys s.kept s.row.now row c.args.passing.now.own.now c.marks_in_walk-marks.result.now c.requires.passing.profile.weighed
    c.marks_in_walk-marks.ensures

pub is_farther_with-requires-clause-first : goal.is_farther_with-requires-clause-first
is_farther_with-requires-clause-first g c =
    c.least_distance_at_first-first.ensures ∙ ap (told c.args.passing.now.own.now)
    (c.first_marks_in_walk-first_marks.ensures ∙ ap (take first_fields) (sym c.marks_in_walk-marks.ensures))

pub returns : goal.returns
returns g c is =
    let s = c.args.passing.now.search.now in
    let ys = yardsticks_in s in
    let can = c.requires.passing.slots c.args.place (record { bucket = 0; donor = 0 }) c.requires.place in
    let row = row_at s.sheet.now.rows (slot_at (slots_of c.args.passing.now) c.args.place).donor in
    let same : row_at s.sheet.now.rows (slot_at c.args.passing.now.slots.now c.args.place).donor ≡ row =
    ap (λ (ss : List Slot). row_at s.sheet.now.rows (slot_at ss c.args.place).donor) c.requires.passing.walked in
    farther_told ys s.kept s.row.now row c.args.passing.now.own.now c.marks_in_walk-marks.result.now c.requires.passing.profile.weighed
    (c.marks_in_walk-marks.ensures ∙ ap (marks_of ys) same) c.args.passing.now.most
    c.requires.passing.profile.fit c.requires.passing.search.row can.1 (c.is_farther_with.ensures is)
