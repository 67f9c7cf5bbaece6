-- A business as it is held while its row is written. Private contracts alone cite this page.
use Rattle.std.specs.Prelude.{ℕ, ◌==◌, List, [], ◌∷◌, if◌then◌else◌, slice_index_or, slice_set}
use Rattle.survey_maker.specs.Businesses.{activity_at, bought_at, costs_at, form_at, full_at, goods_at, invest_at, other_at, part_at, profit_at, region_at, size_at, social_at, staff_at, turnover_at, wages_at}
use Rattle.survey_maker.specs.Draws.{draw}
use Rattle.survey_maker.specs.Kinds.{activity_text, form_text, region_text, size_text}
use Rattle.survey_maker.specs.RecordFiles.{slipped}
use Rattle.survey_maker.specs.declared.answers.Answer.{Answer}
use Rattle.survey_maker.specs.declared.answers.Answer.TheVariants.{LeftOut}
use Rattle.survey_maker.specs.declared.business.Business.{Business}

-- the business that is drawn from a state on
abbrev pub business_at : ℕ → Business
business_at s = record {
  turnover = turnover_at s;
  goods = goods_at s;
  bought = bought_at s;
  wages = wages_at s;
  social = social_at s;
  other = other_at s;
  costs = costs_at s;
  profit = profit_at s;
  staff = staff_at s;
  full = full_at s;
  part = part_at s;
  invest = invest_at s;
  activity = activity_at s;
  size = size_at s;
  region = region_at s;
  form = form_at s;
}

-- its numbers, in the order of the fields
abbrev pub numbers_in : Business → List ℕ
numbers_in b = b.turnover ∷ b.goods ∷ b.bought ∷ b.wages ∷ b.social ∷ b.other
    ∷ b.costs ∷ b.profit ∷ b.staff ∷ b.full ∷ b.part ∷ b.invest ∷ []

-- its codes, in the order of the fields
abbrev pub codes_in : Business → List (List ℕ)
codes_in b = activity_text b.activity ∷ size_text b.size ∷ region_text b.region ∷ form_text b.form ∷ []

-- what is given in the place of right answers, by draws from a state on
abbrev pub answers_from : List Answer → ℕ → List Answer
answers_from right s =
    if draw 1 s 4 == 0
    then slice_set right (draw 2 s 12) (slipped (draw 3 s 2 == 0) (slice_index_or right (draw 2 s 12) LeftOut))
    else right

-- how many draws these are
abbrev pub draws_from : ℕ → ℕ
draws_from s = if draw 1 s 4 == 0 then 3 else 1
