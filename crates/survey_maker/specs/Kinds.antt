-- Of what kind a business is: the codes of four fields, in order, and what a size class says of the staff.
use Rattle.std.specs.Prelude.{ℕ, Bool, true, false, List, [], ◌∷◌, codes}
use Rattle.survey_maker.specs.declared.kinds.Activity.{Activity}
use Rattle.survey_maker.specs.declared.kinds.Activity.TheVariants.{Farm, Industry, Trade, Service}
use Rattle.survey_maker.specs.declared.kinds.Form.{Form}
use Rattle.survey_maker.specs.declared.kinds.Form.TheVariants.{Sole, Company, Public}
use Rattle.survey_maker.specs.declared.kinds.Region.{Region}
use Rattle.survey_maker.specs.declared.kinds.Region.TheVariants.{North, South, East, West}
use Rattle.survey_maker.specs.declared.size.Size.{Size}
use Rattle.survey_maker.specs.declared.size.Size.TheVariants.{Micro, Small, Medium, Large}

-- what businesses do
abbrev pub activities : List Activity
activities = Farm ∷ Industry ∷ Trade ∷ Service ∷ []

-- the code of an activity
abbrev pub activity_text : Activity → List ℕ
activity_text Farm = codes "farm"
activity_text Industry = codes "industry"
activity_text Trade = codes "trade"
activity_text Service = codes "service"

-- the size classes, by staff
abbrev pub sizes : List Size
sizes = Micro ∷ Small ∷ Medium ∷ Large ∷ []

-- the code of a size class
abbrev pub size_text : Size → List ℕ
size_text Micro = codes "micro"
size_text Small = codes "small"
size_text Medium = codes "medium"
size_text Large = codes "large"

-- the least staff of a size class
abbrev pub least_staff : Size → ℕ
least_staff Micro = 1
least_staff Small = 10
least_staff Medium = 50
least_staff Large = 250

-- how many numbers of staff a size class has
abbrev pub staff_numbers : Size → ℕ
staff_numbers Micro = 9
staff_numbers Small = 40
staff_numbers Medium = 200
staff_numbers Large = 750

-- where businesses are
abbrev pub regions : List Region
regions = North ∷ South ∷ East ∷ West ∷ []

-- the code of a region
abbrev pub region_text : Region → List ℕ
region_text North = codes "north"
region_text South = codes "south"
region_text East = codes "east"
region_text West = codes "west"

-- who owns a business: one person, a company, or the public
abbrev pub forms : List Form
forms = Sole ∷ Company ∷ Public ∷ []

-- the code of a form
abbrev pub form_text : Form → List ℕ
form_text Sole = codes "sole"
form_text Company = codes "company"
form_text Public = codes "public"

-- whether one person may own a business of the size
abbrev pub may_be_sole : Size → Bool
may_be_sole Micro = true
may_be_sole Small = true
may_be_sole Medium = false
may_be_sole Large = false
