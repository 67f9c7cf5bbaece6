use Rattle.std.proofs.Common.{◌≡◌, ◌∙◌, ◌++◌, ℕ, List, [], ◌∷◌, ap, subst, sym}
use Rattle.std.specs.List.{All}
use Rattle.std.proofs.lemmas.List.{map-append}
use Rattle.std.proofs.lemmas.List.Elements.{All-push}
use Rattle.std.proofs.lemmas.Result.{IfOk-from_err}
use Rattle.record_pieces.specs.Rests.{IsPieceIn, KeepsFor, rows_of}
use Rattle.record_pieces.specs.declared.piece.Piece.{Piece}
use Rattle.record_workers.specs.Workers.{AreClaimedIn, kept_by, last_class}
use Rattle.record_workers.proofs.ClaimedLaws.{claimed-in}
use Rattle.record_workers.proofs.KeepLaws.{keeps-later, keeps-more}
use Rattle.record_workers.proofs.worker.Worker.work_on.Goals as goal

pub find_piece-requires-clause-rest : goal.find_piece-requires-clause-rest
find_piece-requires-clause-rest g c = c.requires.shared.rest

pub find_piece-requires-clause-reader : goal.find_piece-requires-clause-reader
find_piece-requires-clause-reader g c = c.requires.worked.reader

pub claim_for-requires-clause-piece : goal.claim_for-requires-clause-piece
claim_for-requires-clause-piece g c = c.in_ok-piece.ensures.piece

pub claim_for-requires-clause-classes : goal.claim_for-requires-clause-classes
claim_for-requires-clause-classes g c = c.requires.worked.pass

pub claim_for-requires-clause-placed : goal.claim_for-requires-clause-placed
claim_for-requires-clause-placed g c = c.requires.worked.places

pub returns-clause-found : goal.returns-clause-found
returns-clause-found g c =
    let old = c.args.self.now.pieces.items in
    let piece = c.in_ok-piece.piece in
    ap rows_of (c.push_reserved.ensures.items ∙ ap (λ (ps : List Piece). ps ++ piece ∷ []) c.in_ok-reserve.ensures.items)
    ∙ map-append (λ (p : Piece). p.row_no) old (piece ∷ [])
    ∙ ap (λ (row_no : ℕ). rows_of old ++ row_no ∷ []) c.in_ok-piece.ensures.row
    ∙ sym c.requires.drawn.last

pub returns-in_err-piece-clause-worked : goal.returns-in_err-piece-clause-worked
returns-in_err-piece-clause-worked g c =
    let rest = c.args.shared.now.rest in
    let worked = c.requires.worked in
    let found = c.find_piece.ensures in
    let keeps = kept_by rest c.find_piece.new.reader in
    let same = sym c.in_ok-reserve.ensures.items in
    let kept = keeps-later rest (kept_by rest c.args.self.now.reader) keeps found.keeps c.args.self.now.pieces.items worked.kept in
    record {
      seat = worked.seat;
      pass = worked.pass;
      reader = found.reader;
      pieces = subst (All (IsPieceIn rest)) same worked.pieces;
      claims = subst (λ (ps : List Piece). AreClaimedIn (last_class c.args.shared.now) ps c.args.self.now.pass) same worked.claims;
      places = worked.places;
      kept = subst (All (KeepsFor rest keeps)) same kept;
    }

pub returns-in_err-reserve-clause-worked : goal.returns-in_err-reserve-clause-worked
returns-in_err-reserve-clause-worked g c =
    let rest = c.args.shared.now.rest in
    let worked = c.requires.worked in
    let same = sym c.in_err-reserve.ensures.items in
    record {
      seat = worked.seat;
      pass = worked.pass;
      reader = worked.reader;
      pieces = subst (All (IsPieceIn rest)) same worked.pieces;
      claims = subst (λ (ps : List Piece). AreClaimedIn (last_class c.args.shared.now) ps c.args.self.now.pass) same worked.claims;
      places = worked.places;
      kept = subst (All (KeepsFor rest (kept_by rest c.args.self.now.reader))) same worked.kept;
    }

pub returns-clause-worked : goal.returns-clause-worked
returns-clause-worked g c =
    let rest = c.args.shared.now.rest in
    let worked = c.requires.worked in
    let old = c.args.self.now.pieces.items in
    let keeps = kept_by rest c.find_piece.new.reader in
    let piece = c.in_ok-piece.piece in
    let pass = c.claim_for.new.pass in
    let found = c.in_ok-piece.ensures in
    let items : c.push_reserved.new.self.items ≡ old ++ piece ∷ [] =
    c.push_reserved.ensures.items ∙ ap (λ (ps : List Piece). ps ++ piece ∷ []) c.in_ok-reserve.ensures.items in
    let kept = keeps-more rest (kept_by rest c.args.self.now.reader) keeps found.keeps old worked.kept piece found.kept in
    record {
      seat = worked.seat;
      pass = c.claim_for.ensures.classes ∙ worked.pass;
      reader = found.reader;
      pieces = subst (All (IsPieceIn rest)) (sym items) (All-push (IsPieceIn rest) old piece worked.pieces found.piece);
      claims = subst (λ (ps : List Piece). AreClaimedIn (last_class c.args.shared.now) ps pass) (sym items)
          (claimed-in (last_class c.args.shared.now) old piece c.args.self.now.pass pass c.args.self.now.seat.drawn worked.claims
          (rw found.row c.requires.drawn) c.claim_for.ensures.asked);
      places = c.claim_for.ensures.placed;
      kept = subst (All (KeepsFor rest keeps)) (sym items) kept;
    }

pub returns-in_err-piece-clause-found : goal.returns-in_err-piece-clause-found
returns-in_err-piece-clause-found g c = IfOk-from_err _ _ c.from_residual-in_err-piece.ensures.0

pub returns-in_err-reserve-clause-found : goal.returns-in_err-reserve-clause-found
returns-in_err-reserve-clause-found g c = IfOk-from_err _ _ c.from_residual.ensures.0
