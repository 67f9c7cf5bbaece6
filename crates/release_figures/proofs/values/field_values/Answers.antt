use Rattle.std.proofs.Common.{◌≡◌, ◌∙◌, ◌+◌, ◌++◌, List, [], ◌∷◌, ap, arith, subst, sym, take}
use Rattle.std.proofs.lemmas.List.{length-take-le, take_more}
use Rattle.edit_model.specs.declared.field.Field.{Field}
use Rattle.edit_model.specs.declared.value.Value.{Value}
use Rattle.page_counts.specs.Columns.{column_of}
use Rattle.release_figures.specs.Figures.{AreFieldValues, AreValues, AreValuesOf, column_before}
use Rattle.release_figures.specs.ReleasedValues.{AreReleasedValues}
use Rattle.release_figures.specs.Releases.{release_parts}
use Rattle.release_figures.proofs.FigureLaws.{values_more, with_both}
use Rattle.release_figures.proofs.values.field_values.Goals as goal

pub loop-number-preserved : goal.loop-number-preserved
loop-number-preserved c =
    let n = c.loop-number.number in
    let release = release_parts c.args.release.now in
    let fields = c.fields-fields.result.now in
    let field = c.index-fields-number.result in
    let values = c.loop-number.values.items in
    let value = c.in_ok-values_of.field-0 in
    let before : c.deref.result.now ≡ column_before release n =
    c.deref.ensures.value ∙ c.in_ok-before.ensures ∙ ap (column_of release.records.rows n) c.requires in
    let is : AreValuesOf release n field.kind value = record {
      after = c.deref-in-loop-number.result.now;
      released = subst (AreReleasedValues release.released field.kind n) (sym c.deref-in-loop-number.ensures.value) c.in_ok-after.ensures;
      counted = subst (λ (column : List Value). AreFieldValues field.kind column c.deref-in-loop-number.result.now value) before c.in_ok-values_of.ensures;
    } in
    let more : take (n + 1) fields ≡ take n fields ++ field ∷ [] = take_more fields n field (omega arith)
    ∙ ap (λ (f : Field). take n fields ++ f ∷ []) (sym c.index-fields-number.is) in
    with_both (AreValues release 0) (sym more) (sym c.in_ok-push.ensures.items)
    (values_more release 0 n (take n fields) field values value (omega (arith, length-take-le n fields (omega arith))) c.loop-number.invariant is)
