-- One more turn: what was written, and then what this write took.
use Rattle.std.proofs.Common.{rules, ◌≡◌, ℕ, ◌+◌, List, drop, ap, ◌∙◌, Bor}
use Rattle.std.proofs.lemmas.List.{drop-drop, take_rest}
use Rattle.std.proofs.KnownBytes.{Appends-kept}
use Rattle.edit_desk.proofs.FileLaws.{write_more}
use Rattle.edit_desk.proofs.writing.write_whole.Goals as goal
use Rattle.edit_desk.proofs.writing.write_whole.Goals.{in-Ok, in-Err}

pub loop-preserved : goal.loop-preserved
loop-preserved g c =
    let (done, left, appended) = c.loop.invariant in
    elim c.match-write.branch [
      | in-Ok w ↦
          let moved : c.match-write.rest.now ≡ drop w.in-Ok.count c.loop.rest.now = ap (λ (r : Bor (List ℕ)). r.now) w.rest-is
          ∙ take_rest c.loop.rest.now w.in-Ok.count in (
            done + w.in-Ok.count,
            moved ∙ ap (drop w.in-Ok.count) left
                ∙ drop-drop w.in-Ok.count done c.args.bytes.now,
            write_more _ _ _ _ _ done _ left appended w.in-Ok.ensures.bytes,
          )
      | in-Err w ↦ (done, search rules, Appends-kept _ _ _ _ appended w.in-Err.ensures.bytes)
    ]
