use Rattle.std.proofs.Common.{◌≡◌, List, ℕ, not, true, ap, sym, ◌∙◌}
use Rattle.std.specs.List.{list_any}
use Rattle.std.specs.Str.{bytes_eq}
use Rattle.edit_model.specs.Surveys.{has_name_form, reserved_words}
use Rattle.edit_model.proofs.NameLemmas.{none_of_words}
use Rattle.edit_model.proofs.check.name.is_field_name.Goals as goal

pub returns-then-has_name_form : goal.returns-then-has_name_form
returns-then-has_name_form c =
    let same : c.is_reserved.result ≡ list_any (λ word. bytes_eq c.args.name.now word) reserved_words =
    c.is_reserved.ensures ∙ ap (λ (name : List ℕ). list_any (λ word. bytes_eq name word) reserved_words) c.as_bytes-bytes.ensures.bytes in
    let form : has_name_form c.args.name.now ≡ true = ap has_name_form (sym c.as_bytes-bytes.ensures.bytes) ∙ sym c.has_name_form.ensures
    ∙ c.if-has_name_form.true in (
      λ free. record {
        size = c.as_bytes-bytes.ensures.size;
        form = form;
        free = (none_of_words c.args.name.now reserved_words).0 (ap not (sym same) ∙ free);
      },
      λ name. ap not same ∙ (none_of_words c.args.name.now reserved_words).1 name.free,
    )
