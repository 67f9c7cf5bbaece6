use Rattle.std.proofs.Common.{[], append-nil, refl, sym}
use Rattle.run_parts.proofs.ToldLaws.{same-told}
use Rattle.panel_command.proofs.panel_rows.fetch_rows.Goals as goal

-- the surveys of both files are of the rules that were read
pub fetch_parts-requires : goal.fetch_parts-requires
fetch_parts-requires g c = record {
  parts = (c.args.survey.now, c.requires.rules, (c.args.set, c.requires.set, c.in-Ok.ensures.parts));
}

-- memory is refused for the surveys of both files
pub returns-in_default-clause-asked : goal.returns-in_default-clause-asked
returns-in_default-clause-asked g c =
    rw c.out_of_memory.ensures
    (same-told (g.D.Desk.calls c.args.desk.now) _ _ refl (λ x. ([], sym (append-nil x), (1, refl))))

-- both files were read
pub returns-clause-own : goal.returns-clause-own
returns-clause-own g c = rw c.in-Ok.ensures.parts.own at c.fetch_parts.ensures.own

pub returns-clause-last : goal.returns-clause-last
returns-clause-last g c = rw c.in-Ok.ensures.parts.last at c.fetch_parts.ensures.last
