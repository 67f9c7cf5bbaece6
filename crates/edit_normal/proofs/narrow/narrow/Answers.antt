use Rattle.std.proofs.Common.{◌≡◌, ◌<◌, length, rules, ap, arith, slice_index_or}
use Rattle.std.proofs.lemmas.List.{get_or_read}
use Rattle.std.proofs.lemmas.Nat.{and_le_l}
use Rattle.edit_line.specs.Shapes.{code_fields, whole_sets}
use Rattle.edit_line.proofs.SetLaws.{AreWithin-length, AreWithin-set}
use Rattle.edit_line.proofs.ShapeLaws.{length-wholes, place-within}
use Rattle.edit_normal.proofs.narrow.narrow.Goals as goal

pub offset_bounds-wholes-place : goal.offset_bounds-wholes-place
offset_bounds-wholes-place c =
    let below = place-within (code_fields c.args.fields.now) c.args.field c.requires.field in
    let within : c.place-place.result < length c.wholes-wholes.result.now = omega (
      arith,
      below,
      c.place-place.ensures,
      length-wholes 0 c.args.fields.now,
      ap length c.wholes-wholes.ensures,
    ) in search rules

pub bounds-wholes-place : goal.bounds-wholes-place
bounds-wholes-place c =
    let below = place-within (code_fields c.args.fields.now) c.args.field c.requires.field in
    omega (arith, below, c.place-place.ensures, length-wholes 0 c.args.fields.now, ap length c.wholes-wholes.ensures)

pub index_mut-requires : goal.index_mut-requires
index_mut-requires c =
    let below = place-within (code_fields c.args.fields.now) c.args.field c.requires.field in
    let many = AreWithin-length c.args.sets.now.items (whole_sets c.args.fields.now) c.requires.within in
    let within : c.place-place.result < length c.args.sets.now.items = omega (arith, below, c.place-place.ensures, length-wholes 0 c.args.fields.now, many) in
    search rules

pub returns-clause-within : goal.returns-clause-within
returns-clause-within c =
    let below = place-within (code_fields c.args.fields.now) c.args.field c.requires.field in
    let many = AreWithin-length c.args.sets.now.items (whole_sets c.args.fields.now) c.requires.within in
    let within : c.place-place.result < length c.args.sets.now.items = omega (arith, below, c.place-place.ensures, length-wholes 0 c.args.fields.now, many) in
    let read : c.index_mut.result.now ≡ slice_index_or c.args.sets.now.items c.place-place.result 0 = get_or_read c.args.sets.now.items c.place-place.result _
    within c.index_mut.ensures.value 0 in
    AreWithin-set c.args.sets.now.items (whole_sets c.args.fields.now) c.place-place.result _
    (omega (arith, and_le_l c.index_mut.result.now c.if-negated.wanted, read)) c.requires.within
