-- What a row that claims a donor is answered after a history.
use Rattle.std.specs.Prelude.{◌≡◌, ℕ, ◌<◌, ◌≤◌, ◌==◌, Bool, false, Option, Some, None, List, nat_lt}
use Rattle.std.specs.List.{All, count_by, find}
use Rattle.donor_book.specs.declared.claim.Won.{Won}
use Rattle.donor_book.specs.declared.claim.Claim.{Claim}
use Rattle.donor_book.specs.declared.claim.Claim.TheVariants as claim

-- whether the reply is this donor
abbrev pub gave : ℕ → Option ℕ → Bool
gave donor None = false
gave donor (Some d) = donor == d

-- how many claims of the history were given the donor
abbrev pub uses_of : ℕ → List Won → ℕ
uses_of donor history = count_by (λ (w : Won). gave donor w.reply) history

-- the first donor of the ranking that fewer than `limit` claims of the history were given; nobody where there is none
abbrev pub first_free : ℕ → List Won → List ℕ → Option ℕ
first_free limit history ranking = find (λ donor. nat_lt (uses_of donor history) limit) ranking

-- the row's claim in the history
abbrev pub claim_of : ℕ → List Won → Option Won
claim_of row history = find (λ (w : Won). w.row_no == row) history

-- the answer to a first claim
abbrev pub given : Option ℕ → Claim
given None = claim.Nobody
given (Some donor) = claim.Given donor

-- a row claims once: it had its reply before, and else this is the answer
abbrev pub had_or : Option Won → Claim → Claim
had_or None answer = answer
had_or (Some w) answer = claim.Had w.reply

-- what a row is answered after a history: the reply that it had, or the first donor of its ranking with uses left
abbrev pub answer_to : ℕ → List Won → ℕ → List ℕ → Claim
answer_to limit history row ranking = had_or (claim_of row history) (given (first_free limit history ranking))

-- the row has not claimed, and each donor of its ranking was given as often as the limit allows
abbrev pub GetsNobody : ℕ → List Won → ℕ → List ℕ → Type 0
GetsNobody limit history row ranking = (claim_of row history ≡ None) × All (λ donor. limit ≤ uses_of donor history) ranking

-- a donor that there is, or nobody
abbrev pub IsDonor : ℕ → Option ℕ → Type 0
IsDonor donors None = Unit {0}
IsDonor donors (Some donor) = donor < donors

-- a claim of a row that there is, with a donor that there is or nobody
abbrev pub IsWithin : ℕ → ℕ → Won → Type 0
IsWithin donors rows w = (w.row_no < rows) × IsDonor donors w.reply
