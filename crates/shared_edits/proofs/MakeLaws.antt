use Rattle.std.proofs.Common.{◌≡◌, ◌+◌, ◌≤◌, ℕ, List, [], ◌∷◌, length, length-append, Err, sym, ap, ◌∙◌, subst}
use Rattle.edit_model.specs.FieldSets.{without_number}
use Rattle.edit_line.specs.EditSets.{EditsParts}
use Rattle.edit_line.specs.Shapes.{IsNumerical}
use Rattle.linear_elim.specs.LastFields.{IsFirstOf, IsLast}
use Rattle.linear_elim.specs.Systems.{AreNumerical, SystemOverflow, chosen_fields, pairs_at, system_at}
use Rattle.linear_elim.proofs.ExtensionLaws.{fault-stays, first-less, last-chosen, last-past, last-with, pairs-first, pairs-part}
use Rattle.shared_edits.specs.Pools.{Knows, PoolParts, Walked}

-- The system of a set of fields, and the one without the last of them.

module _ (edits : EditsParts) (fields last : ℕ) (all : AreNumerical edits.shape fields) (is : IsLast fields last) where
  number : IsNumerical edits.shape last
  number = all last is.own

  -- the set without it has one field less
  pub one-less : length (chosen_fields edits.shape fields) ≡ length (chosen_fields edits.shape (without_number fields last)) + 1
  one-less = ap (λ fs. length fs) (last-chosen edits.shape fields last is number) ∙ length-append (chosen_fields edits.shape (without_number fields last))
      (last ∷ [])

  -- where the fold over the others stops, the whole stops there
  pub fault-with : (fault : SystemOverflow) → system_at edits (without_number fields last) ≡ Err fault → system_at edits fields ≡ Err fault
  fault-with fault stops = ap (λ set. system_at edits set) (sym (last-with fields last is))
      ∙ fault-stays edits (without_number fields last) last number (last-past fields last is) fault stops

  -- the fold over the others combines no more pairs
  pub pairs-with : pairs_at edits (without_number fields last) ≤ pairs_at edits fields
  pairs-with = subst (λ (set : ℕ). pairs_at edits (without_number fields last) ≤ pairs_at edits set) (last-with fields last is)
      (pairs-part edits (without_number fields last) last number (last-past fields last is))

  -- first fields that the reader knows are first of the others, where it does not know the set
  pub first-others : (pool : PoolParts) (reader : List Walked) (first : ℕ) → IsFirstOf first fields → Knows pool first reader → ¬ Knows pool fields reader
      → IsFirstOf first (without_number fields last)
  first-others pool reader first firsts knows unknown = first-less first fields firsts last is
      (λ same. unknown (subst (λ (set : ℕ). Knows pool set reader) same knows))

  -- and the fold over them combines no more pairs than the one over the others
  pub pairs-others : (first : ℕ) → IsFirstOf first (without_number fields last) → pairs_at edits first ≤ pairs_at edits (without_number fields last)
  pairs-others first firsts = pairs-first first (without_number fields last) firsts edits
