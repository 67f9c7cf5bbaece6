-- The record file that is made: a header, and a line for each business, in which there may be a slip. All follows from the first state.
use Rattle.std.specs.Prelude.{ℕ, zero, suc, ◌+◌, ◌*◌, ◌==◌, Bool, List, [], ◌++◌, codes, map, if◌then◌else◌, slice_index_or, slice_set}
use Rattle.std.specs.Fmt.{decimal}
use Rattle.std.specs.List.{flat_map}
use Rattle.edit_model.specs.declared.field.Field.{Field}
use Rattle.survey_maker.specs.Businesses.{codes_at, numbers_at}
use Rattle.survey_maker.specs.Draws.{draw, state_after}
use Rattle.survey_maker.specs.SurveyMade.{made_fields}
use Rattle.survey_maker.specs.declared.answers.Answer.{Answer}
use Rattle.survey_maker.specs.declared.answers.Answer.TheVariants.{Right, LeftOut, Tenfold}

-- ---- slips

-- about one row in four has a slip
unfoldable pub has_slip : ℕ → Bool
has_slip s = draw 12 s 4 == 0

-- the number of the numerical field that has it
abbrev pub slip_field : ℕ → ℕ
slip_field s = draw 13 s 12

-- whether its number is left out, or else given as ten times itself and 1 more
abbrev pub is_left_out : ℕ → Bool
is_left_out s = draw 14 s 2 == 0

-- the answer with a slip
abbrev pub slipped : Bool → Answer → Answer
slipped is_left_out (Right number) = if is_left_out then LeftOut else Tenfold number
slipped is_left_out LeftOut = LeftOut
slipped is_left_out (Tenfold number) = Tenfold number

-- the numbers as they are
abbrev pub right_answers : ℕ → List Answer
right_answers s = map Right (numbers_at s)

-- what is given for the numbers
unfoldable pub answers_at : ℕ → List Answer
answers_at s =
    if has_slip s
    then slice_set (right_answers s) (slip_field s) (slipped (is_left_out s) (slice_index_or (right_answers s) (slip_field s) LeftOut))
    else right_answers s

-- the state behind a row
unfoldable pub after_row : ℕ → ℕ
after_row s = state_after (if has_slip s then 14 else 12) s

-- ---- lines

-- the number in decimal, nothing, or ten times the number and 1 more
abbrev pub answer_text : Answer → List ℕ
answer_text (Right number) = decimal number
answer_text LeftOut = []
answer_text (Tenfold number) = decimal (10 * number + 1)

-- what is given for the numbers, each behind a comma
abbrev pub answers_text : List Answer → List ℕ
answers_text answers = flat_map (λ (answer : Answer). codes "," ++ answer_text answer) answers

-- texts, each behind a comma
abbrev pub texts_behind_commas : List (List ℕ) → List ℕ
texts_behind_commas texts = flat_map (λ (text : List ℕ). codes "," ++ text) texts

-- a row's line: its number, and then what is given for each field
unfoldable pub row_line : ℕ → ℕ → List ℕ
row_line number s = decimal number ++ answers_text (answers_at s) ++ texts_behind_commas (codes_at s) ++ codes "\n"

-- the names of the columns: a row's number, and the fields in order
unfoldable pub header_line : List ℕ
header_line = codes "id" ++ texts_behind_commas (map (λ (field : Field). field.name) made_fields) ++ codes "\n"

-- ---- the file

-- the state behind so many rows
abbrev pub after_rows : ℕ → ℕ → ℕ
after_rows start zero = start
after_rows start (suc rows) = after_row (after_rows start rows)

-- a line for each of so many rows, numbered from 1
abbrev pub row_lines : ℕ → ℕ → List ℕ
row_lines start zero = []
row_lines start (suc rows) = row_lines start rows ++ row_line (suc rows) (after_rows start rows)

-- the record file of so many rows
abbrev pub record_file : ℕ → ℕ → List ℕ
record_file start rows = header_line ++ row_lines start rows
