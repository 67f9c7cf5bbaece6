use Rattle.std.proofs.Common.{◌++◌, drop, option_copied, take}
use Rattle.edit_line.specs.Reductions.{lines_of}
use Rattle.back_subst.specs.Given.{target_of}
use Rattle.back_subst.specs.inner.UnderWay.{AreCodesToGive, IsUnderWay}
use Rattle.back_subst.proofs.giving.give_codes.Given as goal

abbrev pub invariant-loop-field : goal.invariant-loop-field
invariant-loop-field l = (t : AreCodesToGive l.survey (target_of (option_copied l.donor)) (lines_of l.lines) l.order l.initial.new)
    → IsUnderWay l.survey t.edits (target_of (option_copied l.donor)) t.row (take l.field-index l.order) (drop l.field-index l.order ++ t.numbers) l.new
