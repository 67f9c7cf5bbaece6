use Rattle.std.specs.Prelude.{ℕ, suc, ◌==◌, ◌++◌, ◌&&◌, Bool, List, [], ◌∷◌, if◌then◌else◌, length, map, slice_index_or}
use Rattle.std.specs.List.{fold, list_any}
use Rattle.edit_line.specs.declared.derived.Derived.{Derived}
use Rattle.edit_line.specs.declared.derived.Origin.{Origin}
use Rattle.edit_line.specs.declared.derived.Origin.TheVariants as origin
use Rattle.categ_combine.specs.declared.box_from.BoxFrom.{BoxFrom}
use Rattle.categ_combine.specs.declared.box_from.BoxOrigin.{BoxOrigin}
use Rattle.categ_combine.specs.declared.box_from.BoxOrigin.TheVariants as box
use Rattle.derivation.specs.declared.step.Step.{Step}
use Rattle.derivation.specs.declared.step.Step.TheVariants.{Combine, Cover, Fail, Fix, Given}
use Rattle.edit_paths.specs.declared.making.Making.{Making}
use Rattle.edit_paths.specs.declared.making.Making.TheVariants.{By, Same}
use Rattle.edit_paths.specs.declared.making.Written.{Written}

-- A list of lines or boxes is derived from the list before it. A history is these lists, the last one first;
-- of each element it says how it was made.

-- of each derived list, how its elements were made, the last list first
abbrev pub History : Type 0
History = List (List Making)

-- how a line with this origin was made
abbrev pub line_by : Origin → Making
line_by (origin.Base number) = By (Given number)
line_by (origin.Same place) = Same place
line_by (origin.Pair a m b n g) = By (Combine a m b n g)

-- how a box with this origin was made, where the field was treated last
abbrev pub box_by : ℕ → BoxOrigin → Making
box_by field (box.Failing place) = By (Fail place)
box_by field (box.Unchanged place) = Same place
box_by field (box.Fixed place) = By (Fix field place)
box_by field (box.Cover parts) = By (Cover field parts)

-- the history, and derived lines
abbrev pub with_lines : History → List Derived → History
with_lines before lines = map (λ (d : Derived). line_by d.origin) lines ∷ before

-- the history, and the boxes after the field
abbrev pub with_boxes : History → ℕ → List BoxFrom → History
with_boxes before field boxes = map (λ (b : BoxFrom). box_by field b.origin) boxes ∷ before

-- ---- the steps of a derivation that prove an element

-- how the element at a place was made
abbrev pub making_at : List Making → ℕ → Making
making_at list place = slice_index_or list place (Same 0)

-- an element, by the number of lists before its own and its place there
abbrev pub Element : Type 0
Element = ℕ × ℕ

-- whether two are the same element
abbrev pub is_element : Element → Element → Bool
is_element a b = (a.0 == b.0) && (a.1 == b.1)

-- an element that a step made, or the earlier one that it is
abbrev pub made_or : Element → (ℕ → Element) → Making → Element
made_or here earlier (By step) = here
made_or here earlier (Same place) = earlier place

-- the element at a place of the last list, where it was made
abbrev pub maker : History → ℕ → Element
maker [] place = (0, place)
maker (list ∷ before) place = made_or (length before, place) (λ i. maker before i) (making_at list place)

-- the number of the step that proves the element
abbrev pub step_number : List Written → Element → ℕ
step_number [] element = 0
step_number (w ∷ done) element = if is_element w.element element then 0 else suc (step_number done element)

-- the places that a step builds on, in order
abbrev pub step_parts : Step → List ℕ
step_parts (Given number) = []
step_parts (Combine a m b n g) = a ∷ b ∷ []
step_parts (Fail a) = a ∷ []
step_parts (Cover field parts) = parts
step_parts (Fix field part) = part ∷ []

-- the step, with other numbers for its parts
abbrev pub with_step_numbers : (ℕ → ℕ) → Step → Step
with_step_numbers number (Given i) = Given i
with_step_numbers number (Combine a m b n g) = Combine (number a) m (number b) n g
with_step_numbers number (Fail a) = Fail (number a)
with_step_numbers number (Cover field parts) = Cover field (map number parts)
with_step_numbers number (Fix field part) = Fix field (number part)

-- one more step, whose parts have their steps
abbrev pub with_step : Element → (ℕ → Element) → Step → List Written → List Written
with_step element maker step done =
    done ++ record { element = element; step = with_step_numbers (λ i. step_number done (maker i)) step } ∷ []

-- whether one of the steps proves the element
abbrev pub has_step : Element → List Written → Bool
has_step element done = list_any (λ (w : Written). is_element w.element element) done

-- the step that makes the element, behind the steps of its parts, those of the first part first; none if the element has a step
abbrev pub proof_by : Element → (ℕ → Element) → (ℕ → List Written → List Written) → Making → List Written → List Written
proof_by element maker prove (Same place) done = prove place done
proof_by element maker prove (By step) done =
    if has_step element done then done else with_step element maker step (fold (λ done i. prove i done) done (step_parts step))

-- the steps, and those that prove the element at a place of the last list: each element once, parts before the whole, the first part first
abbrev pub with_proof : History → ℕ → List Written → List Written
with_proof [] place done = done
with_proof (list ∷ before) place done =
    proof_by (length before, place) (λ i. maker before i) (λ i done. with_proof before i done) (making_at list place) done

-- the steps that prove the element at a place of the last list
abbrev pub steps_to : History → ℕ → List Step
steps_to history place = map (λ (w : Written). w.step) (with_proof history place [])
