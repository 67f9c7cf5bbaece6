use Rattle.std.specs.Prelude.{◌≡◌, ℕ, ℤ, ◌++◌, Bool, true, false, List}
use Rattle.std.specs.List.{filter}
use lib.IntN.{neg_ℤ}
use Rattle.edit_model.specs.declared.rule.Linear.{Linear}
use Rattle.edit_line.specs.Lines.{LineParts}
use Rattle.edit_line.specs.Sets.{none_is_empty}
use Rattle.edit_line.specs.declared.relation.Relation.{Relation}
use Rattle.edit_line.specs.declared.relation.Relation.TheVariants as relation
use Rattle.edit_line.specs.Shapes.{Domain, whole_sets}
use Rattle.edit_normal.specs.NormalForm.{positive_line_of, negative_line_of}
use Rattle.edit_normal.specs.RuleLines.{numbered}
use Rattle.edit_normal.specs.declared.rule_line.RuleLine.{RuleLine}
use Rattle.edit_normal.specs.declared.side.Side.{Side}
use Rattle.edit_normal.specs.declared.side.Side.TheVariants.{AtLeast, Above, AtMost, Below, Zero}

-- a number, or its negative
abbrev pub signed : Bool → ℤ → ℤ
signed true z = neg_ℤ z
signed false z = z

-- whether the line is that of the negative of the sum
abbrev pub is_negative : Side → Bool
is_negative AtLeast = false
is_negative Above = false
is_negative AtMost = true
is_negative Below = true
is_negative Zero = false

-- what the line asks of that sum
abbrev pub relation_of : Side → Relation
relation_of AtLeast = relation.AtLeast
relation_of Above = relation.Above
relation_of AtMost = relation.AtLeast
relation_of Below = relation.Above
relation_of Zero = relation.Equal

-- the sets are whole, if the line is an equality
abbrev pub MayAsk : List Domain → List ℕ → Side → Type 0
MayAsk shape sets Zero = sets ≡ whole_sets shape
MayAsk shape sets _ = Unit {0}

-- the line that says that the sum is on this side of 0, or is 0, where the codes are in the sets
abbrev pub side_line : List Domain → List ℕ → Linear → Side → LineParts
side_line shape sets e AtLeast = positive_line_of shape sets e relation.AtLeast
side_line shape sets e Above = positive_line_of shape sets e relation.Above
side_line shape sets e AtMost = negative_line_of shape sets e relation.AtLeast
side_line shape sets e Below = negative_line_of shape sets e relation.Above
side_line shape sets e Zero = positive_line_of shape sets e relation.Equal

-- the lines before, and of these the ones without an empty set, with the number of their rule
abbrev pub joined_by : List RuleLine → ℕ → List LineParts → List RuleLine
joined_by before rule lines = before ++ numbered rule (filter (λ line. none_is_empty line.sets) lines)
