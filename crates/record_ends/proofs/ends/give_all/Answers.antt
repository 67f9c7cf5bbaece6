use Rattle.std.proofs.Common.{◌≡◌, ◌∙◌, Err, List, Result, IfOk, ap, get_or, length, refl, rules, subst}
use Rattle.std.specs.List.{AllZip, Contains}
use Rattle.std.specs.Vec.{vec_len}
use Rattle.rayon.proofs.ListFacts.{IfOk-then}
use Rattle.rayon.specs.Lists.{vec_items}
use Rattle.foundation.specs.declared.memory.OutOfMemory.{OutOfMemory}
use Rattle.edit_report.specs.declared.end.RowEnd.{RowEnd}
use Rattle.record_pieces.specs.declared.piece.Piece.{Piece}
use Rattle.record_ends.specs.Givings.{EndsIn}
use Rattle.record_ends.specs.inner.Donors.{donor_at}
use Rattle.record_ends.proofs.CollectedLaws.{collected}
use Rattle.record_ends.proofs.GivenLaws.{at-place, claims-within, ends-by, piece-ready}
use Rattle.record_ends.proofs.ends.give_all.Goals as goal

pub donors_of-requires-clause-within : goal.donors_of-requires-clause-within
donors_of-requires-clause-within g c =
    let long : vec_len c.args.pieces ≡ length c.args.pieces.items = search rules in
    rw (c.len.ensures ∙ long)
    (claims-within c.args.rest.now c.args.pieces.items c.requires.pieces c.requires.history.0 c.args.history.now c.requires.history.1)

pub collect-requires-clause-ready : goal.collect-requires-clause-ready
collect-requires-clause-ready g c κs within =
    let rest = c.args.rest.now in
    let pieces = c.args.pieces.items in
    let history = c.args.history.now in
    let donors = c.in_ok-donors.donors.items in
    let same = ap (λ it. vec_items it.base) c.map.ensures.base ∙ ap (λ it. vec_items it) c.with_min_len.ensures.base ∙ c.into_par_iter.ensures in
    let long : vec_len c.args.pieces ≡ length pieces = search rules in
    let many = c.in_ok-donors.ensures.as_many ∙ c.len.ensures ∙ long in
    let lists = rw (c.len.ensures ∙ long) at c.in_ok-donors.ensures.each in
    let ready = piece-ready rest pieces c.requires.pieces c.requires.history.0 history c.requires.history.1 donors many lists in
    rw (c.map.ensures.f, same) (λ k d lt.
    let now = ready (get_or pieces k d) (at-place pieces k d (get_or pieces k d) lt refl) in
    ((c.requires.rest, now.0, now.1, now.2), λ y p. tt))

pub returns : goal.returns
returns g c =
    let rest = c.args.rest.now in
    let pieces = c.args.pieces.items in
    let history = c.args.history.now in
    let donors = c.in_ok-donors.donors.items in
    let long : vec_len c.args.pieces ≡ length pieces = search rules in
    let lists = rw (c.len.ensures ∙ long) at c.in_ok-donors.ensures.each in
    let given = c.in_ok-collect.ensures in
    let same = ap (λ it. vec_items it.base) c.map.ensures.base ∙ ap (λ it. vec_items it) c.with_min_len.ensures.base ∙ c.into_par_iter.ensures in
    let found = rw c.map.ensures.f at given.1.2 in
    let P = λ (p : Piece) (end : RowEnd). EndsIn rest p (donor_at donors p.row_no) end in
    let Ends = λ (p : Piece) (r : Result RowEnd OutOfMemory). IfOk r (P p) in
    let each = subst (λ (ps : List Piece). AllZip Ends ps given.0) (given.1.1 ∙ same) found in
    let all = collected OutOfMemory P pieces given.0 c.in_ok-collect.field-0 (λ e. Contains given.0 (Err e)) each given.2 in
    IfOk-then c.in_ok-collect.field-0 _ _ all (λ v h. ends-by rest pieces c.requires.pieces history donors lists v.items h)
