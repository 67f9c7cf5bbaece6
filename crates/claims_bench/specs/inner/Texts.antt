use Rattle.std.specs.Prelude.{ℕ, List, ◌++◌, codes, is_none, is_some, length}
use Rattle.std.specs.Fmt.{decimal}
use Rattle.std.specs.List.{filter}
use Rattle.donor_book.specs.declared.claim.Won.{Won}

-- how many numbers were drawn, how many rows have claimed, and how many of these were given a donor, and nobody
abbrev pub counts_text : ℕ → List Won → List ℕ
counts_text drawn history =
    codes "drawn " ++ (decimal drawn
    ++ (codes " claimed " ++ (decimal (length history)
    ++ (codes " given " ++ (decimal (length (filter (λ (w : Won). is_some w.reply) history))
    ++ (codes " nobody " ++ (decimal (length (filter (λ (w : Won). is_none w.reply) history)) ++ codes "\n")))))))
