-- What the row of a business says before a slip: what is drawn, by the first to the eleventh draw behind the state before the row,
-- and what follows from it.
use Rattle.std.specs.Prelude.{ℕ, ◌+◌, ◌-◌, ◌*◌, ◌/◌, ◌==◌, ◌&&◌, List, [], ◌∷◌, if◌then◌else◌, slice_index_or}
use Rattle.survey_maker.specs.Draws.{draw}
use Rattle.survey_maker.specs.Kinds.{activities, activity_text, form_text, least_staff, may_be_sole, region_text, regions, size_text, sizes, staff_numbers}
use Rattle.survey_maker.specs.declared.kinds.Activity.{Activity}
use Rattle.survey_maker.specs.declared.kinds.Activity.TheVariants.{Service}
use Rattle.survey_maker.specs.declared.kinds.Form.{Form}
use Rattle.survey_maker.specs.declared.kinds.Form.TheVariants.{Sole, Company}
use Rattle.survey_maker.specs.declared.kinds.Region.{Region}
use Rattle.survey_maker.specs.declared.kinds.Region.TheVariants.{West}
use Rattle.survey_maker.specs.declared.size.Size.{Size}
use Rattle.survey_maker.specs.declared.size.Size.TheVariants.{Large}

-- ---- staff

-- each size class is as likely
unfoldable pub size_at : ℕ → Size
size_at s = slice_index_or sizes (draw 1 s 4) Large

-- a number of staff that the size class has
unfoldable pub staff_at : ℕ → ℕ
staff_at s = least_staff (size_at s) + draw 2 s (staff_numbers (size_at s))

-- those of the staff who work part time: nobody to all
abbrev pub part_at : ℕ → ℕ
part_at s = draw 3 s (staff_at s + 1)

-- and those who work full time
abbrev pub full_at : ℕ → ℕ
full_at s = staff_at s - part_at s

-- ---- accounts

-- goods, in tens
abbrev pub goods_at : ℕ → ℕ
goods_at s = 10 * draw 4 s 1000

-- purchases
abbrev pub bought_at : ℕ → ℕ
bought_at s = draw 5 s 1000

-- other costs
abbrev pub other_at : ℕ → ℕ
other_at s = draw 6 s 500

-- each of the staff has the same wage
abbrev pub wages_at : ℕ → ℕ
wages_at s = 20 * staff_at s

-- and the same social contribution
abbrev pub social_at : ℕ → ℕ
social_at s = 4 * staff_at s

-- all costs together
unfoldable pub costs_at : ℕ → ℕ
costs_at s = goods_at s + bought_at s + wages_at s + social_at s + other_at s

-- nothing to a quarter of the costs
unfoldable pub profit_at : ℕ → ℕ
profit_at s = draw 7 s (costs_at s / 4 + 1)

-- the profit is what the turnover leaves
abbrev pub turnover_at : ℕ → ℕ
turnover_at s = costs_at s + profit_at s

-- what is invested
abbrev pub invest_at : ℕ → ℕ
invest_at s = draw 8 s 40

-- the numbers, in the order of the fields
abbrev pub numbers_at : ℕ → List ℕ
numbers_at s = turnover_at s ∷ goods_at s ∷ bought_at s ∷ wages_at s ∷ social_at s ∷ other_at s
    ∷ costs_at s ∷ profit_at s ∷ staff_at s ∷ full_at s ∷ part_at s ∷ invest_at s ∷ []

-- ---- codes

-- each activity is as likely
abbrev pub activity_at : ℕ → Activity
activity_at s = slice_index_or activities (draw 9 s 4) Service

-- each region is as likely
abbrev pub region_at : ℕ → Region
region_at s = slice_index_or regions (draw 10 s 4) West

-- one person owns every second business that one person may own, and companies own all others
abbrev pub form_at : ℕ → Form
form_at s = if (draw 11 s 2 == 0) && may_be_sole (size_at s) then Sole else Company

-- the codes, in the order of the fields
abbrev pub codes_at : ℕ → List (List ℕ)
codes_at s = activity_text (activity_at s) ∷ size_text (size_at s) ∷ region_text (region_at s) ∷ form_text (form_at s) ∷ []
