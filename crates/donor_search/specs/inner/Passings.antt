-- What donors that the walk passes over are told by.
use Rattle.std.specs.Prelude.{◌≡◌, ◌≤◌, All, ℕ, List, length}
use Rattle.std.specs.Borrow.{Bor}
use Rattle.std.specs.Fn.{Shared}
use Rattle.foundation.specs.Limits.{most_fields, most_weight}
use Rattle.edit_model.specs.declared.value.Value.{Value}
use Rattle.donor_search.specs.Decks.{slots_at}
use Rattle.donor_search.specs.declared.passing.Passing.{Passing}
use Rattle.donor_search.specs.declared.profile.Weighed.{Weighed}
use Rattle.donor_search.specs.declared.slot.Slot.{Slot}
use Rattle.donor_search.specs.inner.Profiles.{IsProfile}
use Rattle.donor_search.specs.inner.Searches.{HasSlots, IsSearch, far_in, yardsticks_in}
use Rattle.donor_search.specs.inner.Spans.{AreFarther}

-- the slots of the field that is walked along
abbrev pub slots_of : {F : Type 0} → Passing F → List Slot
slots_of p = slots_at p.search.now.deck.now.index p.field

-- the donors at the places from `low` up to `high`, without that, are farther than the most
abbrev pub AreFar : {F : Type 0} → Passing F → ℕ → ℕ → Type 0
AreFar p low high = AreFarther (far_in p.search.now) p.most (slots_of p) low high

-- the own marks are the profile of the record of the search, within the limits of a survey, the slots are those of the field, and each
-- donor of the slots can be measured
pub record IsPassing {F : Type 0} (calls : Shared F (ℕ × (Bor Value × (Bor Value × Unit {0}))) ℕ) (p : Passing F) : Type 0 where
  pub search : IsSearch calls p.search.now
  pub profile : IsProfile (yardsticks_in p.search.now) p.search.now.kept p.search.now.row.now p.own.now
  pub few : length p.own.now ≤ most_fields
  pub weights : All (λ (w : Weighed). w.weight ≤ most_weight) p.own.now
  pub walked : p.slots.now ≡ slots_of p
  pub slots : HasSlots p.search.now p.field
