use Rattle.search_calls.proofs.values.gift_of.Given as goal

abbrev pub ghosts-counted_gift : goal.ghosts-counted_gift
ghosts-counted_gift a = record { name = a.blank.name; parts = a.blank.parts }
