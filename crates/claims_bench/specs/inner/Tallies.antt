-- What the answers of closing the tickets and the book say, and what is printed of them.
use Rattle.std.specs.Prelude.{◌≡◌, ℕ, List}
use Rattle.donor_book.specs.declared.claim.Entry.{Entry}
use Rattle.donor_book.specs.declared.rule.Terms.{Terms}
use Rattle.donor_book.specs.Entries.{IsLegalHistory, wins_of}
use Rattle.donor_book.specs.Passes.{IsSound}
use Rattle.claims_bench.specs.declared.tally.Plan.{Plan}
use Rattle.claims_bench.specs.declared.tally.Tally.{Tally}
use Rattle.claims_bench.specs.inner.Rankings.{donors_for}
use Rattle.claims_bench.specs.inner.Texts.{counts_text}

-- each donor is given once at most, and there is a row for each ticket and a pass for each thread
abbrev pub terms_of : Plan → Terms
terms_of plan = record { limit = 1; donors = donors_for plan.count; rows = plan.count; passes = plan.threads }

-- all numbers were drawn, and the claims are those of a legal history, in which no row stands twice
pub record IsTally (plan : Plan) (tally : Tally) : Type 0 where
  pub drawn : tally.drawn ≡ plan.count
  pub sound : IsSound (terms_of plan) tally.history.items
  pub legal : (entries : List Entry) × (wins_of entries ≡ tally.history.items) × IsLegalHistory 1 entries

-- the text has the counts of such a tally
abbrev pub IsTold : Plan → List ℕ → Type 0
IsTold plan text = (tally : Tally) × IsTally plan tally × (text ≡ counts_text tally.drawn tally.history.items)
