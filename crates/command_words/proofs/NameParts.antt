-- What is in front of a name's parts.
use Rattle.std.proofs.Common.{◌≡◌, ◌∙◌, ℕ, Bool, true, false, List, [], ◌∷◌, ap, if◌then◌else◌, sym}
use Rattle.std.specs.Path.{cur_dir, path_components}
use Rattle.std.specs.Str.{bytes_eq}
use Rattle.command_words.specs.FileNames.{file_parts, without_here}

-- behind a `.` in front stand the parts
pub behind_here : (name part : List ℕ) (rest : List (List ℕ)) → bytes_eq part cur_dir ≡ true → path_components name ≡ part ∷ rest → rest ≡ file_parts name
unfolding file_parts
behind_here name part rest here e = sym (ap without_here e ∙ ap (λ (b : Bool). if b then rest else part ∷ rest) here)

-- and with no `.` in front they are all
pub all_parts : (name part : List ℕ) (rest : List (List ℕ)) → bytes_eq part cur_dir ≡ false → path_components name ≡ part ∷ rest
    → path_components name ≡ file_parts name
unfolding file_parts
all_parts name part rest other e = sym (ap without_here e ∙ ap (λ (b : Bool). if b then rest else part ∷ rest) other ∙ sym e)

-- a name without components has no parts
pub no_parts : (name : List ℕ) (rest : List (List ℕ)) → path_components name ≡ [] → rest ≡ [] → rest ≡ file_parts name
unfolding file_parts
no_parts name rest e none = none ∙ sym (ap without_here e)
