-- What one line of a reasons file says. Records, fields and columns are numbered from 0.
use Rattle.std.specs.Prelude.{ℕ, zero, suc, ◌+◌, ◌==◌, ◌&&◌, ◌||◌, nat_lt, Bool, if◌then◌else◌, List, [], ◌∷◌, length, Option, None, Some, Result, Ok, Err}
use Rattle.std.specs.Prelude.{codes, position, slice_get, slice_index_or}
use Rattle.std.specs.Fmt.{decimal}
use Rattle.std.specs.Map.{lookup}
use Rattle.std.specs.Option.{option_map_or}
use Rattle.std.specs.Str.{bytes_eq}
use Rattle.foundation.specs.Limits.{most_fields}
use Rattle.edit_model.specs.Corrections.{is_numerical}
use Rattle.edit_model.specs.declared.field.Field.{Field}
use Rattle.reason_lines.specs.declared.entry.Cause.{Cause}
use Rattle.reason_lines.specs.declared.entry.Cause.TheVariants as cause
use Rattle.reason_lines.specs.declared.entry.Entry.{Entry}
use Rattle.reason_lines.specs.declared.entry.Entry.TheVariants.{Changed, LeftOut}
use Rattle.reason_lines.specs.declared.entry.How.{How}
use Rattle.reason_lines.specs.declared.entry.How.TheVariants as how
use Rattle.reason_lines.specs.declared.fault.LineFault.{LineFault}
use Rattle.reason_lines.specs.declared.fault.LineFault.TheVariants as wrong

-- ---- one text

-- the record, of the first so many, whose number from 1 is printed so
abbrev pub record_named : ℕ → List ℕ → Option ℕ
record_named zero text = None
record_named (suc n) text = if bytes_eq text (decimal (suc n)) then Some n else record_named n text

-- the field of this name
abbrev pub field_named : List Field → List ℕ → Option ℕ
field_named fields name = position (λ (field : Field). bytes_eq field.name name) fields

-- how a value was found
abbrev pub how_named : List ℕ → Option How
how_named text =
    lookup (bytes_eq text) ((codes "donor", how.Donor) ∷ (codes "nearest", how.Nearest) ∷ (codes "default", how.Default) ∷ [])

-- why a record was left out
abbrev pub cause_named : List ℕ → Option Cause
cause_named text =
    lookup (bytes_eq text)
    ((codes "budget", cause.Budget) ∷ (codes "overflow", cause.Overflow) ∷ (codes "contradictory", cause.Contradictory)
    ∷ (codes "nolast", cause.NoLast) ∷ (codes "nocorrection", cause.NoCorrection) ∷ [])

-- the donor, which is not the record itself
abbrev pub other_than : ℕ → Option ℕ → Option (Option ℕ)
other_than record_no None = None
other_than record_no (Some donor) = if donor == record_no then None else Some (Some donor)

-- the donor of a record, of the first so many: another record, or none where nothing is said
abbrev pub donor_named : ℕ → ℕ → List ℕ → Option (Option ℕ)
donor_named rows record_no text = if length text == 0 then Some None else other_than record_no (record_named rows text)

-- ---- one line

-- the text in a column
abbrev pub text_in : List (List ℕ) → ℕ → List ℕ
text_in texts column = slice_index_or texts column []

-- the text in a column is empty
abbrev pub is_empty_in : List (List ℕ) → ℕ → Bool
is_empty_in texts column = length (text_in texts column) == 0

-- what a line says with a part of it that is known; what is wrong with the line where it is not
abbrev pub with_known : {A : Type 0} → Option A → LineFault → (A → Result Entry LineFault) → Result Entry LineFault
with_known None fault says = Err fault
with_known (Some x) fault says = says x

-- what the line of a changed field says: the field, the donor, and how the value was found
abbrev pub change_of : List Field → ℕ → ℕ → List (List ℕ) → Result Entry LineFault
change_of fields rows record_no texts =
    with_known (field_named fields (text_in texts 2)) wrong.Field (λ field.
    with_known (donor_named rows record_no (text_in texts 5)) wrong.Donor (λ donor.
    with_known (how_named (text_in texts 6)) wrong.Detail (λ found.
    Ok (Changed (record { «record» = record_no; field = field; how = found; donor = donor })))))

-- what the line of a record says that is left out: the cause, and nothing of a field, values and a donor
abbrev pub left_out_of : ℕ → List (List ℕ) → Result Entry LineFault
left_out_of record_no texts =
    with_known (cause_named (text_in texts 1)) wrong.Cause (λ why.
    if is_empty_in texts 2 && is_empty_in texts 3 && is_empty_in texts 4 && is_empty_in texts 5
    then Ok (LeftOut (record { «record» = record_no; cause = why }))
    else Err wrong.NotEmpty)

-- what a line says of one of so many records, or what is wrong with it
abbrev pub entry_of : List Field → ℕ → List (List ℕ) → Result Entry LineFault
entry_of fields rows texts =
    with_known (record_named rows (text_in texts 0)) wrong.Record (λ record_no.
    if bytes_eq (text_in texts 1) (codes "changed") then change_of fields rows record_no texts else left_out_of record_no texts)

-- ---- the order of lines

-- the record of which a line speaks
abbrev pub record_of : Entry → ℕ
record_of (Changed change) = change.«record»
record_of (LeftOut left_out) = left_out.«record»

-- the place of a field in the order of a record's lines: numerical fields come before categorical ones
abbrev pub place_of : List Field → ℕ → ℕ
place_of fields f = option_map_or (λ (field : Field). if is_numerical field.kind then f else most_fields + f) (slice_get fields f) f

-- a line may stand behind another: its record comes later, or both are changes of one record, and its field comes later
abbrev pub may_follow : List Field → Entry → Entry → Bool
may_follow fields (Changed first) (Changed second) =
    nat_lt first.«record» second.«record»
    || ((first.«record» == second.«record») && nat_lt (place_of fields first.field) (place_of fields second.field))
may_follow fields first second = nat_lt (record_of first) (record_of second)

-- what is wrong with a line that says this, behind one that says that, or behind none
abbrev pub line_fault : List Field → Option Entry → Result Entry LineFault → Option LineFault
line_fault fields before (Err fault) = Some fault
line_fault fields None (Ok entry) = None
line_fault fields (Some before) (Ok entry) = if may_follow fields before entry then None else Some wrong.Order
