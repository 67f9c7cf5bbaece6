use Rattle.std.proofs.Common.{◌≡◌, ◌∙◌, length, refl, subst, sym}
use Rattle.std.specs.List.{AllZip}
use Rattle.record_text.proofs.Refusals.{no_value}
use Rattle.record_pieces.specs.Rests.{ArePiecesIn, IsRest, class_field_in, rows_in}
use Rattle.record_pieces.specs.declared.rest.Rest.{Rest}
use Rattle.record_ends.specs.Givings.{IsEndIn, SaysIn}
use Rattle.record_workers.specs.Workers.{AnswersInClasses}
use Rattle.record_editing.specs.Donations.{AreInOrder}
use Rattle.record_editing.specs.declared.terms.Terms.{Terms}
use Rattle.record_editing.specs.inner.Givings.{AreDonationsIn}
use Rattle.record_editing.proofs.DonationLaws.{alone-in-order, donations-are, ends-become, ends-say}
use Rattle.record_editing.proofs.records.edit_by.Goals as goal

pub ready_workers-requires-clause-rest : goal.ready_workers-requires-clause-rest
ready_workers-requires-clause-rest g c = c.requires.rest

pub run_all-requires-clause-shared : goal.run_all-requires-clause-shared
run_all-requires-clause-shared g c κs within = c.in_ok-shared.ensures.shared

pub run_all-requires-clause-ready : goal.run_all-requires-clause-ready
run_all-requires-clause-ready g c κs within = c.in_ok-shared.ensures.ready

pub run_all-requires-clause-seats : goal.run_all-requires-clause-seats
run_all-requires-clause-seats g c κs within = c.in_ok-shared.ensures.workers ∙ sym c.in_ok-shared.ensures.seats

pub run_all-requires-clause-passes : goal.run_all-requires-clause-passes
run_all-requires-clause-passes g c κs within = c.in_ok-shared.ensures.workers ∙ sym c.in_ok-shared.ensures.passes

pub give_all-requires-clause-pieces : goal.give_all-requires-clause-pieces
give_all-requires-clause-pieces g c κs within =
    subst (λ (r : Rest g.row.F.Denot). ArePiecesIn r c.in_ok-pieces.field-0.pieces.items) (sym c.in_ok-pieces.ensures.rest) c.in_ok-pieces.ensures.pieces

pub give_all-requires-clause-rest : goal.give_all-requires-clause-rest
give_all-requires-clause-rest g c κs within =
    subst (λ (r : Rest g.row.F.Denot). IsRest g.F.Fn r) (sym c.in_ok-pieces.ensures.rest) c.in_ok-shared.ensures.shared.rest

pub returns-in_err-shared-clause-rest : goal.returns-in_err-shared-clause-rest
returns-in_err-shared-clause-rest g c = no_value c.from_residual.result _ _ c.from_residual.ensures.1

pub returns-in_err-shared-clause-ends : goal.returns-in_err-shared-clause-ends
returns-in_err-shared-clause-ends g c = no_value c.from_residual.result _ _ c.from_residual.ensures.1

pub returns-in_err-shared-clause-say : goal.returns-in_err-shared-clause-say
returns-in_err-shared-clause-say g c = no_value c.from_residual.result _ _ c.from_residual.ensures.1

pub returns-in_err-shared-clause-donations : goal.returns-in_err-shared-clause-donations
returns-in_err-shared-clause-donations g c = no_value c.from_residual.result _ _ c.from_residual.ensures.1

pub returns-in_err-shared-clause-order : goal.returns-in_err-shared-clause-order
returns-in_err-shared-clause-order g c = no_value c.from_residual.result _ _ c.from_residual.ensures.1

pub returns-in_err-pieces-clause-rest : goal.returns-in_err-pieces-clause-rest
returns-in_err-pieces-clause-rest g c = no_value c.from_residual-in_err-pieces.result _ _ c.from_residual-in_err-pieces.ensures.1

pub returns-in_err-pieces-clause-ends : goal.returns-in_err-pieces-clause-ends
returns-in_err-pieces-clause-ends g c = no_value c.from_residual-in_err-pieces.result _ _ c.from_residual-in_err-pieces.ensures.1

pub returns-in_err-pieces-clause-say : goal.returns-in_err-pieces-clause-say
returns-in_err-pieces-clause-say g c = no_value c.from_residual-in_err-pieces.result _ _ c.from_residual-in_err-pieces.ensures.1

pub returns-in_err-pieces-clause-donations : goal.returns-in_err-pieces-clause-donations
returns-in_err-pieces-clause-donations g c = no_value c.from_residual-in_err-pieces.result _ _ c.from_residual-in_err-pieces.ensures.1

pub returns-in_err-pieces-clause-order : goal.returns-in_err-pieces-clause-order
returns-in_err-pieces-clause-order g c = no_value c.from_residual-in_err-pieces.result _ _ c.from_residual-in_err-pieces.ensures.1

pub returns-in_err-ends-clause-rest : goal.returns-in_err-ends-clause-rest
returns-in_err-ends-clause-rest g c = no_value c.from_residual-in_err-ends.result _ _ c.from_residual-in_err-ends.ensures.1

pub returns-in_err-ends-clause-ends : goal.returns-in_err-ends-clause-ends
returns-in_err-ends-clause-ends g c = no_value c.from_residual-in_err-ends.result _ _ c.from_residual-in_err-ends.ensures.1

pub returns-in_err-ends-clause-say : goal.returns-in_err-ends-clause-say
returns-in_err-ends-clause-say g c = no_value c.from_residual-in_err-ends.result _ _ c.from_residual-in_err-ends.ensures.1

pub returns-in_err-ends-clause-donations : goal.returns-in_err-ends-clause-donations
returns-in_err-ends-clause-donations g c = no_value c.from_residual-in_err-ends.result _ _ c.from_residual-in_err-ends.ensures.1

pub returns-in_err-ends-clause-order : goal.returns-in_err-ends-clause-order
returns-in_err-ends-clause-order g c = no_value c.from_residual-in_err-ends.result _ _ c.from_residual-in_err-ends.ensures.1

pub returns : goal.returns
returns g c =
    let gathered = c.in_ok-pieces.field-0 in
    let rest = gathered.rest in
    let pieces = gathered.pieces.items in
    let history = gathered.history.items in
    let ends = c.in_ok-ends.ends.items in
    let was : rest ≡ c.in_ok-shared.shared.rest = c.in_ok-pieces.ensures.rest in
    let same : rest ≡ c.args.rest = was ∙ c.in_ok-shared.ensures.rest in
    let are = subst (λ (r : Rest g.row.F.Denot). ArePiecesIn r pieces) (sym was) c.in_ok-pieces.ensures.pieces in
    let limit = c.in_ok-shared.shared.books.terms.limit in
    let answers = c.in_ok-pieces.ensures.history in
    let alone = length c.in_ok-shared.ready.items ≡ 1 in
    let classes = subst (λ (r : Rest g.row.F.Denot). AnswersInClasses limit (length r.decks.of_class.items) alone pieces history) (sym was)
    c.in_ok-pieces.ensures.classes in
    let each = rw c.deref.ensures.value at c.in_ok-ends.ensures in
    let terms : Terms = record { budget = rest.budget; limit = c.args.limit; near = rest.near; class_field = class_field_in rest } in
    let last = length rest.decks.of_class.items in
    let decks = subst (λ (r : Rest g.row.F.Denot). IsRest g.F.Fn r) (sym was) c.in_ok-shared.ensures.shared.rest in
    let donations = donations-are rest pieces are ends limit history answers each last decks.decks.as_many alone classes terms
    (sym c.in_ok-shared.ensures.limit) refl refl in
    let order = alone-in-order rest pieces are ends limit history answers each last decks.decks.as_many alone classes in
    record {
      rest = same;
      ends = subst (λ (r : Rest g.row.F.Denot). AllZip (IsEndIn r) (rows_in r) ends) same (ends-become rest pieces are ends limit history answers each);
      say = subst (λ (r : Rest g.row.F.Denot). AllZip (SaysIn r) (rows_in r) ends) same (ends-say rest pieces are ends limit history answers each);
      donations = subst (λ (r : Rest g.row.F.Denot). AreDonationsIn r c.args.limit ends history) same donations;
      order = λ one. subst (λ (r : Rest g.row.F.Denot). AreInOrder r.survey (rows_in r) (class_field_in r) ends history) same
          (order (c.in_ok-shared.ensures.workers ∙ one));
    }
