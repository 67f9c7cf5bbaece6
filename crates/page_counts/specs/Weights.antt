-- What the changes of records weigh.
use Rattle.std.specs.Prelude.{ℕ, ◌==◌, List, map, filter, slice_index}
use Rattle.std.specs.List.{sum_by, range_with_len}
use Rattle.edit_model.specs.declared.field.Field.{Field}
use Rattle.reason_lines.specs.declared.entry.Change.{Change}
use Rattle.page_counts.specs.Records.{is_changed}
use Rattle.page_counts.specs.declared.amounts.Amount.{Amount}

-- the weight of a field, 0 where there is none of this number
abbrev pub field_weight : List Field → ℕ → ℕ
field_weight fields f = slice_index (map (λ (field : Field). field.weight) fields) f

-- the sum of the weights of a record's changed fields
abbrev pub record_weight : List Field → List Change → ℕ → ℕ
record_weight fields changes number =
    sum_by (λ (c : Change). field_weight fields c.field) (filter (λ (c : Change). c.record == number) changes)

-- the changed ones of so many records, in order, with what their changes weigh
abbrev pub weights_of : List Field → ℕ → List Change → List Amount
weights_of fields rows changes =
    map (λ number. record { number = number; size = record_weight fields changes number })
    (filter (is_changed changes) (range_with_len 0 rows))
