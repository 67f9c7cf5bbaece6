-- The fields that a word changes, and what they weigh, as laws speak of them.
use Rattle.std.proofs.Common.{ℕ, Bool, true, false, List, [], ◌∷◌}
use Rattle.std.specs.List.{sum_by}
use Rattle.edit_model.specs.Corrections.{path_order}
use Rattle.edit_model.specs.Words.{weight_at}
use Rattle.edit_model.specs.declared.field.Field.{Field}

-- the fields beside a letter that says changed
abbrev pub changed_in : List ℕ → List Bool → List ℕ
changed_in (f ∷ fields) (true ∷ word) = f ∷ changed_in fields word
changed_in (f ∷ fields) (false ∷ word) = changed_in fields word
changed_in _ _ = []

-- what a word weighs: the sum of the weights of the fields that it says are changed
abbrev pub word_weight : List Field → List Bool → ℕ
word_weight fields word = sum_by (weight_at fields) (changed_in (path_order fields) word)
