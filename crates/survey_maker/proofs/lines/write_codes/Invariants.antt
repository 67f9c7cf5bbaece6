use Rattle.std.proofs.Common.{◌≡◌, ◌++◌, codes, take}
use Rattle.std.specs.List.{flat_map}
use Rattle.survey_maker.proofs.lines.write_codes.Given as goal

abbrev pub invariant-loop-code : goal.invariant-loop-code
invariant-loop-code l =
    l.text.items ≡ l.fn.text.items ++ flat_map (λ code. codes "," ++ code.now) (take l.code-index l.list)
