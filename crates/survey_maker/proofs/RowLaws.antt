-- What the draws of a row come to behind the eleven draws of its business, and what its line is made of.
use Rattle.std.proofs.Common.{◌≡◌, refl, append_assoc, ℕ, Bool, true, false, List, ◌++◌, codes, map, if◌then◌else◌, ◌==◌}
use Rattle.std.specs.Fmt.{decimal}
use Rattle.survey_maker.specs.Businesses.{codes_at}
use Rattle.survey_maker.specs.Draws.{draw, state_after}
use Rattle.survey_maker.specs.RecordFiles.{after_row, answers_at, answers_text, has_slip, row_line, texts_behind_commas}
use Rattle.survey_maker.specs.declared.answers.Answer.TheVariants.{Right}
use Rattle.survey_maker.specs.inner.Drawn.{answers_from, business_at, draws_from, numbers_in}

pub answers-drawn : (s : ℕ) → answers_from (map Right (numbers_in (business_at s))) (state_after 11 s) ≡ answers_at s
unfolding answers_at has_slip
answers-drawn s = refl

pub state-drawn : (s : ℕ) → state_after (draws_from (state_after 11 s)) (state_after 11 s) ≡ after_row s
unfolding after_row has_slip
state-drawn s = by_slip (draw 12 s 4 == 0)
  where
    by_slip : (b : Bool) → state_after (if b then 3 else 1) (state_after 11 s) ≡ state_after (if b then 14 else 12) s
    by_slip true = refl
    by_slip false = refl

-- the parts of a line, each appended to what was there before
pub line-appended : (number s : ℕ) (before a b c d : List ℕ) → a ≡ before ++ decimal number → b ≡ a ++ answers_text (answers_at s)
    → c ≡ b ++ texts_behind_commas (codes_at s) → d ≡ c ++ codes "\n" → d ≡ before ++ row_line number s
unfolding row_line
line-appended number s before a b c d is_a is_b is_c is_d =
    let answers = answers_text (answers_at s) in
    let kinds = texts_behind_commas (codes_at s) in
    let two = append_assoc before (decimal number) answers in
    let three = append_assoc before (decimal number ++ answers) kinds in
    rw (is_d, is_c, is_b, is_a) (rw (two, three) (append_assoc before (decimal number ++ answers ++ kinds) (codes "\n")))
