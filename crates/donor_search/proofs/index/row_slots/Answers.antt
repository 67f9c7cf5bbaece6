use Rattle.std.proofs.Common.{◌<◌, List, All, length, subst, sym}
use Rattle.std.proofs.lemmas.List.Elements.{All-push}
use Rattle.record_text.proofs.Refusals.{no_value}
use Rattle.donor_search.specs.Decks.{slot_of}
use Rattle.donor_search.specs.declared.slot.Slot.{Slot}
use Rattle.donor_search.proofs.TableLaws.{mapped_more}
use Rattle.donor_search.proofs.index.row_slots.Goals as goal

pub returns-in_err-slots-clause-slots : goal.returns-in_err-slots-clause-slots
returns-in_err-slots-clause-slots c = no_value c.from_residual.result _ _ c.from_residual.ensures.1

pub returns-in_err-slots-clause-donors : goal.returns-in_err-slots-clause-donors
returns-in_err-slots-clause-donors c = no_value c.from_residual.result _ _ c.from_residual.ensures.1

pub returns-in_err-push-clause-slots : goal.returns-in_err-push-clause-slots
returns-in_err-push-clause-slots c = no_value c.from_residual-in_err-push.result _ _ c.from_residual-in_err-push.ensures.1

pub returns-in_err-push-clause-donors : goal.returns-in_err-push-clause-donors
returns-in_err-push-clause-donors c = no_value c.from_residual-in_err-push.result _ _ c.from_residual-in_err-push.ensures.1

pub loop-donor-preserved : goal.loop-donor-preserved
loop-donor-preserved c =
    let rows = c.args.sheet.now.rows in
    let slots = c.loop-donor.slots.items in
    let inv = c.loop-donor.invariant in
    record {
      slots = λ plain. mapped_more (slot_of c.args.scale rows c.args.field) c.args.donors.now c.loop-donor.donor-index _ c.slot.result slots
          c.push.new.self.items c.loop-donor-test.true (c.slot.ensures.slot plain) (inv.slots plain) c.in_ok-push.ensures.items;
      donors = subst (λ (l : List Slot). All (λ (s : Slot). s.donor < length rows) l) (sym c.in_ok-push.ensures.items)
          (All-push (λ (s : Slot). s.donor < length rows) slots c.slot.result inv.donors
          (subst (λ d. d < length rows) (sym c.slot.ensures.donor)
          (c.requires.donors c.loop-donor.donor-index _ c.loop-donor-test.true)));
    }
