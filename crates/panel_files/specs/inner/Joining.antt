-- Two lists, joined up to a field.
use Rattle.std.specs.Prelude.{◌≡◌, ◌≤◌, ◌+◌, ◌-◌, ◌++◌, ℕ, List, drop, length}
use Rattle.edit_model.specs.declared.field.Field.{Field}
use Rattle.panel_files.specs.Joined.{joined}
use Rattle.panel_files.specs.LastFields.{flagged, flags_from, flags_of, unflagged}

-- of both lists joined, the elements of the first n fields are done, so many of which are last fields; what is left of the lists
-- serves the other fields
pub record AreJoinedTo {A : Type 0} (fields : List Field) (set : ℕ) (own last : List A) (n taken : ℕ) (done : List A) : Type 0 where
  pub fewer : taken ≤ n
  pub own_left : length own ≡ (n - taken) + length (unflagged (flags_from set n (drop n fields)) (drop n fields))
  pub last_left : length last ≡ taken + length (flagged (flags_from set n (drop n fields)) (drop n fields))
  pub rest : done ++ joined (flags_from set n (drop n fields)) (drop (n - taken) own) (drop taken last)
      ≡ joined (flags_of set fields) own last
