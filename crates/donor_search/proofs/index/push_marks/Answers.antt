use Rattle.std.proofs.Common.{◌≡◌, ◌<◌, ◌∙◌, ◌++◌, ◌∷◌, [], List, ℕ, ap, length, length-append, min, sym, subst, take, arith}
use Rattle.std.proofs.lemmas.List.{take_min}
use Rattle.edit_model.specs.PlainNumbers.{IsPlainValue}
use Rattle.donor_measure.specs.Buckets.{mark_of, marks_of}
use Rattle.donor_measure.specs.declared.yardstick.Yardstick.{Yardstick}
use Rattle.donor_search.proofs.MarkTables.{marks_more, plain_here}
use Rattle.donor_search.proofs.ProfileLaws.{marks_long}
use Rattle.donor_search.proofs.index.push_marks.Goals as goal

pub loop-field-preserved : goal.loop-field-preserved
loop-field-preserved c =
    let ys = c.args.yardsticks.now in
    let row = c.args.row.now in
    let field = c.loop-field.field in
    let inv = c.loop-field.invariant in
    let put : c.push.new.self.items ≡ c.loop-field.marks.items ++ (c.mark_of.result ∷ []) = c.in_ok-push.ensures.items in
    let below : field < length ys = omega (arith, c.loop-field-test.true, c.min-field-end.ensures, c.count.ensures.fields) in
    record {
      size = omega (arith, inv.size, simp length-append at (ap (λ (ms : List ℕ). length ms) put));
      marks = λ plain.
          let here : IsPlainValue c.value.result.now =
          subst IsPlainValue (sym c.value.ensures) (plain_here row field plain (omega (arith, below, c.requires))) in
          let is = c.mark_of.ensures here ∙ ap (λ (y : Yardstick). mark_of y.scale c.value.result.now) c.at.ensures.is ∙ ap (mark_of _) c.value.ensures in
          marks_more ys row field c.mark_of.result c.args.marks.now.items c.loop-field.marks.items c.push.new.self.items below (marks_long 0 ys row)
          (inv.marks plain) is put;
    }

pub returns-clause-marks : goal.returns-clause-marks
returns-clause-marks c plain =
    let marks = marks_of c.args.yardsticks.now c.args.row.now in
    let end : c.loop-field.field ≡ min c.args.most (length marks) =
    omega (
      arith,
      c.loop-field-test.false,
      c.loop-field.auto.field-end,
      c.min-field-end.ensures,
      c.count.ensures.fields,
      marks_long 0 c.args.yardsticks.now
          c.args.row.now,
    ) in
    c.loop-field.invariant.marks plain ∙ ap (λ (ms : List ℕ). c.args.marks.now.items ++ ms) (ap (λ n. take n marks) end ∙ take_min c.args.most marks)
