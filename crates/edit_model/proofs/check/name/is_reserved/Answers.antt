use Rattle.std.proofs.Common.{◌∙◌, ◌||◌, ap, sym}
use Rattle.std.proofs.lemmas.List.Folds.{list_any-append}
use Rattle.std.specs.List.{list_any}
use Rattle.std.specs.Str.{bytes_eq}
use Rattle.edit_model.specs.inner.ReservedWords.{field_words, rule_words}
use Rattle.edit_model.proofs.check.name.is_reserved.Goals as goal

pub returns-then-is_field_word : goal.returns-then-is_field_word
returns-then-is_field_word c =
    c.if-is_field_word.true ∙ sym (list_any-append (bytes_eq c.args.bytes.now) field_words rule_words
    ∙ ap (λ b. b || list_any (bytes_eq c.args.bytes.now) rule_words) (sym c.is_field_word.ensures ∙ c.if-is_field_word.true))

pub returns-else-is_field_word : goal.returns-else-is_field_word
returns-else-is_field_word c =
    c.is_rule_word.ensures ∙ sym (list_any-append (bytes_eq c.args.bytes.now) field_words rule_words
    ∙ ap (λ b. b || list_any (bytes_eq c.args.bytes.now) rule_words) (sym c.is_field_word.ensures ∙ c.if-is_field_word.false))
