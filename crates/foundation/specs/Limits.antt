-- How much the editor takes: of fields, rules and records, and of what is asked of an edit.
use Rattle.std.specs.Prelude.{ℕ, ◌^◌}

-- ---- a survey

-- the most fields of a survey
abbrev pub most_fields : ℕ
most_fields = 64

-- the most codes of a categorical field
abbrev pub most_codes : ℕ
most_codes = 64

-- the most rules of a survey
abbrev pub most_rules : ℕ
most_rules = 500

-- the most bytes of a name, and of a code
abbrev pub most_letters : ℕ
most_letters = 32

-- the greatest weight of a field
abbrev pub most_weight : ℕ
most_weight = 1000

-- the greatest scale of a numerical field
abbrev pub most_scale : ℕ
most_scale = 10 ^ 12

-- the greatest size of a factor, in a rule as it is written and where its terms are added up
abbrev pub most_factor : ℕ
most_factor = 10 ^ 9

-- ---- a record file

-- the most columns of a record file
abbrev pub most_columns : ℕ
most_columns = 256

-- the most records of a record file, its header not counted
abbrev pub most_records : ℕ
most_records = 200000

-- ---- an edit

-- the most workers that edit records side by side
abbrev pub most_workers : ℕ
most_workers = 64

-- the greatest budget of work for one record
abbrev pub most_work : ℕ
most_work = 1000000000

-- the greatest limit on how often a clean record gives its values
abbrev pub most_gifts : ℕ
most_gifts = 1000

-- the most of the nearest donors that a record chooses from
abbrev pub most_near : ℕ
most_near = 64
