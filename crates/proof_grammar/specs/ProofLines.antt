-- The lines of a proof file, each a list of words. These equations are the grammar: bytes are in it where they are the text of a proof.
use Rattle.std.specs.Prelude.{ℕ, zero, suc, ◌-◌, ◌==◌, nat_lt, Bool, true, false, if◌then◌else◌, List, [], ◌∷◌, ◌++◌, Option, Some, None, codes, length, map}
use Rattle.std.specs.Fmt.{decimal, signed_decimal}
use Rattle.std.specs.List.{flat_map}
use Rattle.edit_line.specs.declared.place.Place.{Place}
use Rattle.edit_line.specs.declared.place.Place.TheVariants.{Field, Constant}
use Rattle.derivation.specs.declared.step.Step.{Step}
use Rattle.derivation.specs.declared.step.Step.TheVariants as step
use Rattle.bound_cert.specs.Paths.{named, path_text}
use Rattle.bound_cert.specs.declared.cert.Leaf.{Leaf}
use Rattle.bound_cert.specs.declared.cert.LeafWhy.{LeafWhy}
use Rattle.bound_cert.specs.declared.cert.LeafWhy.TheVariants as why
use Rattle.donor_book.specs.declared.claim.Entry.{Entry}
use Rattle.bound_cert.specs.declared.outcome.Event.{Event}
use Rattle.bound_cert.specs.declared.outcome.Event.TheVariants as event
use Rattle.bound_cert.specs.declared.outcome.GiftFault.{GiftFault}
use Rattle.bound_cert.specs.declared.outcome.GiftFault.TheVariants as gift
use Rattle.bound_cert.specs.declared.outcome.Outcome.{Outcome}
use Rattle.bound_cert.specs.declared.outcome.Outcome.TheVariants as outcome
use Rattle.proof_grammar.specs.declared.proof.Proof.{Proof}
use Rattle.bound_cert.specs.declared.outcome.RowProof.{RowProof}

-- a line: its words
abbrev pub Line : Type 0
Line = List (List ℕ)

-- ---- words

-- the name, from 1, of what has this number, from 0; the word 0 where there is none
abbrev pub named_or_0 : Option ℕ → List ℕ
named_or_0 None = codes "0"
named_or_0 (Some i) = named i

-- the field of a number that left the range, 0 for the constant
abbrev pub place_word : Place → List ℕ
place_word Constant = codes "0"
place_word (Field f) = named f

-- ---- steps, and leaves

-- a given line, where those of a table stand behind this many others, if one is there: such a line is named by its number in the table
abbrev pub given_words : Option ℕ → ℕ → Line
given_words None i = codes "given" ∷ named i ∷ []
given_words (Some count) i = if nat_lt i count then codes "given" ∷ named i ∷ [] else codes "shared" ∷ named (i - count) ∷ []

-- a step of a list where given lines are named so
abbrev pub step_line_in : Option ℕ → Step → Line
step_line_in shared (step.Given i) = given_words shared i
step_line_in shared (step.Combine a m b n g) =
    codes "combine" ∷ named a ∷ signed_decimal m ∷ named b ∷ signed_decimal n ∷ signed_decimal g ∷ []
step_line_in shared (step.Fail a) = codes "fail" ∷ named a ∷ []
step_line_in shared (step.Cover field parts) = codes "cover" ∷ named field ∷ map named parts
step_line_in shared (step.Fix field part) = codes "fix" ∷ named field ∷ named part ∷ []

-- a step, where there is no table, or of the table
abbrev pub step_line : Step → Line
step_line step = step_line_in None step

-- words and the number of steps, and then a line for each step
abbrev pub with_steps : Option ℕ → Line → List Step → List Line
with_steps shared words steps = (words ++ decimal (length steps) ∷ []) ∷ map (step_line_in shared) steps

-- the lines of a leaf: the word of its reason and its path, and then those of its steps, where it has some
abbrev pub leaf_lines_in : Option ℕ → Leaf → List Line
leaf_lines_in shared leaf = reason_lines (path_text leaf.path) leaf.why
  where
    reason_lines : List ℕ → LeafWhy → List Line
    reason_lines path why.Bound = (codes "bound" ∷ path ∷ []) ∷ []
    reason_lines path why.BadKept = (codes "bad" ∷ path ∷ []) ∷ []
    reason_lines path (why.Line steps) = with_steps shared (codes "line" ∷ path ∷ []) steps
    reason_lines path (why.Box steps) = with_steps shared (codes "box" ∷ path ∷ []) steps

-- words and the number of leaves, and then the lines of each leaf
abbrev pub with_leaves_in : Option ℕ → Line → List Leaf → List Line
with_leaves_in shared words leaves = (words ++ decimal (length leaves) ∷ []) ∷ flat_map (leaf_lines_in shared) leaves

-- ---- verdicts, rows and claims

-- the lines of a verdict on a line of the rules: `keep`, or `drop` and those of the steps
abbrev pub verdict_lines : Option (List Step) → List Line
verdict_lines None = (codes "keep" ∷ []) ∷ []
verdict_lines (Some steps) = with_steps None (codes "drop" ∷ []) steps

-- a number that left the range while values were given: the field and the line, or 0 and the rule
abbrev pub gift_words : GiftFault → Line
gift_words (gift.Bound field line) = named field ∷ named line ∷ []
gift_words (gift.Test rule) = codes "0" ∷ named rule ∷ []

-- a change without such a number; one that weighs nothing is a clean row
abbrev pub change_lines_in : Option ℕ → List Bool → ℕ → List Leaf → List Line
change_lines_in shared path zero leaves = (codes "clean" ∷ []) ∷ []
change_lines_in shared path (suc w) leaves = with_leaves_in shared (codes "change" ∷ decimal (suc w) ∷ path_text path ∷ []) leaves

-- the line of a search that ended since a number left the range
abbrev pub event_line : List Bool → Event → Line
event_line path (event.Step first second place) =
    codes "step" ∷ path_text path ∷ named first ∷ named second ∷ place_word place ∷ []
event_line path (event.Test line field) = codes "test" ∷ path_text path ∷ named line ∷ named field ∷ []

-- the lines of what is said of a record: its head, and then those of its leaves, where it has a tree
abbrev pub row_lines_in : Option ℕ → RowProof → List Line
row_lines_in shared row = outcome_lines row.outcome row.gift
  where
    outcome_lines : Outcome → Option GiftFault → List Line
    outcome_lines (outcome.Change path weight cert) None = change_lines_in shared path weight cert.leaves
    outcome_lines (outcome.Change path weight cert) (Some fault) =
        with_leaves_in shared (codes "gift" ∷ decimal weight ∷ path_text path ∷ gift_words fault) cert.leaves
    outcome_lines (outcome.Budget path work) fault = (codes "budget" ∷ path_text path ∷ decimal work ∷ []) ∷ []
    outcome_lines (outcome.Overflow path event) fault = event_line path event ∷ []
    outcome_lines (outcome.Contradictory cert) fault = with_leaves_in shared (codes "contradictory" ∷ []) cert.leaves

-- the same of version 1; in both versions they are as many

-- the lines of a leaf, of version 1
abbrev pub leaf_lines : Leaf → List Line
leaf_lines leaf = leaf_lines_in None leaf

-- the lines of what is said of a record, of version 1
abbrev pub row_lines : RowProof → List Line
row_lines row = row_lines_in None row

-- the line of a claim: its row, the donor that it was given or 0, and the donors that it ranks
abbrev pub claim_line : Entry → Line
claim_line entry = codes "claim" ∷ named entry.row_no ∷ named_or_0 entry.reply ∷ map named entry.ranking

-- ---- the file

-- a word and how many there are
abbrev pub count_line : {X : Type 0} → List ℕ → List X → Line
count_line word xs = word ∷ decimal (length xs) ∷ []

-- the first line: what the file is, and the version of its grammar
abbrev pub version_line : ℕ → Line
version_line version = codes "fh-proof" ∷ decimal version ∷ []

-- how often a donor may be given, how many donors a row ranks, and how much work a search may take
abbrev pub limits_words : ℕ → ℕ → ℕ → Line
limits_words limit near budget =
    codes "limit" ∷ decimal limit ∷ codes "near" ∷ decimal near ∷ codes "budget" ∷ decimal budget ∷ []

-- the last line
abbrev pub end_line : Line
end_line = codes "end" ∷ []

-- whether the lines that all records share are written once, in a table
abbrev pub has_table : ℕ → Bool
has_table version = version == 2

-- the table, where there is one
abbrev pub table_lines : Bool → List Step → List Line
table_lines true table = count_line (codes "table") table ∷ map step_line table
table_lines false table = []

-- behind how many given lines those of the table stand, where there is one
abbrev pub shared_from : Bool → ℕ → Option ℕ
shared_from true count = Some count
shared_from false count = None

-- all lines of a proof
abbrev pub proof_lines : Proof → List Line
proof_lines p =
    version_line p.version
    ∷ limits_words p.limit p.near p.budget
    ∷ count_line (codes "lines") p.verdicts
    ∷ (flat_map verdict_lines p.verdicts
    ++ (table_lines (has_table p.version) p.table
    ++ count_line (codes "records") p.rows
    ∷ (flat_map (row_lines_in (shared_from (has_table p.version) (length p.verdicts))) p.rows
    ++ count_line (codes "claims") p.claims
    ∷ (map claim_line p.claims
    ++ end_line ∷ []))))

-- the words, parted by one space
abbrev pub words_text : Line → List ℕ
words_text [] = []
words_text (word ∷ []) = word
words_text (word ∷ next ∷ words) = word ++ 32 ∷ words_text (next ∷ words)

-- a line, ended by a line feed
abbrev pub line_text : Line → List ℕ
line_text line = words_text line ++ 10 ∷ []

-- lines, each ended by a line feed
abbrev pub lines_text : List Line → List ℕ
lines_text lines = flat_map line_text lines

-- the text of a proof
abbrev pub proof_text : Proof → List ℕ
proof_text p = lines_text (proof_lines p)
