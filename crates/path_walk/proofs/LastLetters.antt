use Rattle.std.proofs.Common.{◌≡◌, ◌++◌, ◌-◌, ◌+◌, ◌<◌, ◌≤◌, Bool, false, true, List, [], ◌∷◌, length, slice_index_or, sym, ap, ◌∙◌, ◌⊎◌, inl, inr, arith}
use Rattle.std.proofs.lemmas.List.{length-take-le, nil_from_length, take_all, take_more}
use Rattle.linear_elim.specs.Systems.{system_of}
use Rattle.edit_paths.specs.Cases.{SearchCase}
use Rattle.edit_paths.specs.Histories.{History}
use Rattle.edit_paths.specs.Levels.{history_of}
use Rattle.edit_paths.specs.PathHistories.{line_history}
use Rattle.edit_paths.specs.Paths.{before_last, changed_numbers, field_count, number_count}
use Rattle.edit_paths.specs.declared.levels.Level.{Level}
use Rattle.edit_paths.proofs.LetterLaws.{count-kinds}
use Rattle.path_walk.specs.Lists.{HasListsBefore}
use Rattle.path_walk.specs.inner.Histories.{with_system}
use Rattle.path_walk.proofs.HistoryLaws.{history-changed, history-first}

-- The lists of lines of a path, from those of the path before its last letter.

pub split-last : (letters : List Bool) (d : Bool) → 0 < length letters → letters ≡ before_last letters ++ slice_index_or letters (length letters - 1) d ∷ []
split-last letters d some =
    sym (take_all (length letters - 1 + 1) letters (omega arith)) ∙ take_more letters (length letters - 1) d (omega (arith, some))

module _ (c : SearchCase) (letters : List Bool) (some : 0 < length letters) (fit : length letters ≤ field_count c) where
  length-before : length (before_last letters) ≡ length letters - 1
  length-before = length-take-le (length letters - 1) letters (omega arith)

  pub next-changed : length letters - 1 < number_count c → slice_index_or letters (length letters - 1) false ≡ true
      → with_system (line_history c (before_last letters)) (system_of c.edits (changed_numbers c letters)) ≡ line_history c letters
  next-changed few changed =
      ap (λ (p : List Bool). with_system (line_history c (before_last letters)) (system_of c.edits (changed_numbers c p))) (split-last letters false some)
      ∙ sym (history-changed c (before_last letters) (slice_index_or letters (length letters - 1) false) (omega (arith, length-before, some, fit)) changed
      (omega (arith, few, length-before)))
      ∙ ap (λ (p : List Bool). line_history c p) (sym (split-last letters false some))

-- where the last letter changes a field, or there is none, the lines of the path's system come last
pub lines-pushed : (c : SearchCase) (letters : List Bool) (levels : List Level) → length letters ≤ number_count c → HasListsBefore c letters levels
    → (length letters ≡ 0) ⊎ ((0 < length letters) × (slice_index_or letters (length letters - 1) false ≡ true))
    → with_system (history_of levels) (system_of c.edits (changed_numbers c letters)) ≡ line_history c letters
lines-pushed c letters levels few before (inl none) =
    ap (λ (ls : List Level). with_system (history_of ls) (system_of c.edits (changed_numbers c letters))) (before.first none)
    ∙ ap (λ (p : List Bool). with_system [] (system_of c.edits (changed_numbers c p))) (nil_from_length letters none)
    ∙ history-first c
    ∙ ap (λ (p : List Bool). line_history c p) (sym (nil_from_length letters none))
lines-pushed c letters levels few before (inr (some, changed)) =
    let fit : length letters ≤ field_count c = omega (arith, few, count-kinds c) in
    ap (λ (h : History). with_system h (system_of c.edits (changed_numbers c letters)))
    ((before.later some).lines (omega (arith, length-before c letters some fit, few)))
    ∙ next-changed c letters some fit (omega (arith, few, some)) changed
