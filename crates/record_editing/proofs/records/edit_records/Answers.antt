use Rattle.std.proofs.Common.{◌∙◌, ℕ, Option, IfOk, arith, subst, sym}
use Rattle.record_text.proofs.Refusals.{no_value}
use Rattle.record_editing.specs.Donations.{AreDonations}
use Rattle.record_editing.proofs.records.edit_records.Goals as goal

-- ---- the records are edited by what was made ready

pub edit_by-requires-clause-rest : goal.edit_by-requires-clause-rest
edit_by-requires-clause-rest g c κs within = record {
  shape = rw c.in_ok-edits.ensures.edits c.requires.over;
  same = λ row p. rw c.in_ok-edits.ensures.edits (
    λ meets. (c.requires.same p).0 (meets.codes, meets.edits),
    λ is. record { codes = ((c.requires.same p).1 is).0; edits = ((c.requires.same p).1 is).1 },
  );
  rows = c.requires.rows;
  plain = c.requires.plain;
  decks = rw c.in_ok-decks.ensures.class_field (c.in_ok-decks.ensures.decks c.requires.plain);
  measures = c.requires.measures;
  yardsticks = c.requires.yardsticks;
  near = c.requires.near;
  budget = omega arith;
  pool = c.in_ok-edits.ensures.pool ∙ sym c.in_ok-edits.ensures.edits;
}

-- ---- what becomes of the records

pub returns-clause-ends : goal.returns-clause-ends
returns-clause-ends g c = rw (← c.in_ok-edits.ensures.edits) c.edit_by.ensures.ends

pub returns-clause-say : goal.returns-clause-say
returns-clause-say g c = rw (← c.in_ok-edits.ensures.edits) c.edit_by.ensures.say

pub returns-clause-donations : goal.returns-clause-donations
returns-clause-donations g c =
    subst (λ (class_field : Option ℕ). IfOk c.edit_by.result (λ edited. AreDonations c.args.survey c.args.sheet.rows (record {
      budget = c.args.terms.budget;
      limit = c.args.terms.limit;
      near = c.args.terms.near;
      class_field = class_field;
    }) edited.ends.items edited.history.items)) c.in_ok-decks.ensures.class_field c.edit_by.ensures.donations

pub returns-clause-order : goal.returns-clause-order
returns-clause-order g c = rw (← c.in_ok-decks.ensures.class_field) c.edit_by.ensures.order

-- ---- the decks could not be made

pub returns-in_err-decks-clause-survey : goal.returns-in_err-decks-clause-survey
returns-in_err-decks-clause-survey g c = no_value c.from_residual.result _ _ c.from_residual.ensures.1

pub returns-in_err-decks-clause-sheet : goal.returns-in_err-decks-clause-sheet
returns-in_err-decks-clause-sheet g c = no_value c.from_residual.result _ _ c.from_residual.ensures.1

pub returns-in_err-decks-clause-ends : goal.returns-in_err-decks-clause-ends
returns-in_err-decks-clause-ends g c = no_value c.from_residual.result _ _ c.from_residual.ensures.1

pub returns-in_err-decks-clause-say : goal.returns-in_err-decks-clause-say
returns-in_err-decks-clause-say g c = no_value c.from_residual.result _ _ c.from_residual.ensures.1

pub returns-in_err-decks-clause-donations : goal.returns-in_err-decks-clause-donations
returns-in_err-decks-clause-donations g c = no_value c.from_residual.result _ _ c.from_residual.ensures.1

pub returns-in_err-decks-clause-order : goal.returns-in_err-decks-clause-order
returns-in_err-decks-clause-order g c = no_value c.from_residual.result _ _ c.from_residual.ensures.1

-- ---- the pool could not be made

pub returns-in_err-edits-clause-survey : goal.returns-in_err-edits-clause-survey
returns-in_err-edits-clause-survey g c = no_value c.from_residual-in_err-edits.result _ _ c.from_residual-in_err-edits.ensures.1

pub returns-in_err-edits-clause-sheet : goal.returns-in_err-edits-clause-sheet
returns-in_err-edits-clause-sheet g c = no_value c.from_residual-in_err-edits.result _ _ c.from_residual-in_err-edits.ensures.1

pub returns-in_err-edits-clause-ends : goal.returns-in_err-edits-clause-ends
returns-in_err-edits-clause-ends g c = no_value c.from_residual-in_err-edits.result _ _ c.from_residual-in_err-edits.ensures.1

pub returns-in_err-edits-clause-say : goal.returns-in_err-edits-clause-say
returns-in_err-edits-clause-say g c = no_value c.from_residual-in_err-edits.result _ _ c.from_residual-in_err-edits.ensures.1

pub returns-in_err-edits-clause-donations : goal.returns-in_err-edits-clause-donations
returns-in_err-edits-clause-donations g c = no_value c.from_residual-in_err-edits.result _ _ c.from_residual-in_err-edits.ensures.1

pub returns-in_err-edits-clause-order : goal.returns-in_err-edits-clause-order
returns-in_err-edits-clause-order g c = no_value c.from_residual-in_err-edits.result _ _ c.from_residual-in_err-edits.ensures.1
