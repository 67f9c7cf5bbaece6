use Rattle.std.proofs.Common.{[], ◌∷◌, List}
use Rattle.edit_desk.specs.Desk.{Asked, stored}
use Rattle.run_parts.proofs.CallLaws.{calls-between, calls-then, less-calls, of-stores}
use Rattle.run_parts.proofs.StoreLaws.{Texts, stores-first, stores-then}
use Rattle.run_parts.proofs.ToldLaws.{handed}
use Rattle.make_command.proofs.make_run.store_survey.Goals as goal

pub returns-in_err-store_file-clause-files : goal.returns-in_err-store_file-clause-files
returns-in_err-store_file-clause-files g c =
    let first : Texts = (c.args.rules.now, c.args.made.now.rules.items) ∷ [] in
    let second : Texts = (c.args.records.now, c.args.made.now.records.items) ∷ [] in
    rw (handed c.from_residual.result _ c.from_residual.ensures.1)
    (stores-first first second c.in_err-store_file.field-0.0 _ _ c.in_err-store_file.ensures.kind
    (rw c.deref.ensures.value at c.in_err-store_file.ensures.files))

pub returns-in_err-store_file-clause-asked : goal.returns-in_err-store_file-clause-asked
returns-in_err-store_file-clause-asked g c =
    let f = c.in_err-store_file.field-0.0 in
    rw (handed c.from_residual.result _ c.from_residual.ensures.1)
    (less-calls (g.D.Desk.calls c.args.desk.now) _ _
    (λ calls h. calls-between [] (stored c.args.rules.now ∷ []) (stored c.args.records.now ∷ []) calls f (of-stores _ c.in_err-store_file.ensures.kind) h)
    c.in_err-store_file.ensures.asked)

pub returns-clause-files : goal.returns-clause-files
returns-clause-files g c =
    let first : Texts = (c.args.rules.now, c.args.made.now.rules.items) ∷ [] in
    let second : Texts = (c.args.records.now, c.args.made.now.records.items) ∷ [] in
    stores-then first second c.store_file-2.result _ _ _ c.store_file-2.ensures.kind
    (rw c.deref.ensures.value at c.in_ok-store_file.ensures.files) (rw c.deref-2.ensures.value at c.store_file-2.ensures.files)

pub returns-clause-asked : goal.returns-clause-asked
returns-clause-asked g c =
    let first : List Asked = stored c.args.rules.now ∷ [] in
    let second : List Asked = stored c.args.records.now ∷ [] in
    calls-then (g.D.Desk.calls c.args.desk.now) _ _ first second c.store_file-2.result c.store_file-2.ensures.kind c.in_ok-store_file.ensures.asked
    c.store_file-2.ensures.asked
