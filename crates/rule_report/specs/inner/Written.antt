-- Texts as they are written.
use Rattle.std.specs.Prelude.{ℕ, ℤ, pos, ◌++◌, Bool, List, [], Vec, if◌then◌else◌, map, unsigned_abs}
use Rattle.std.specs.Ordering.{int_eq}
use Rattle.std.specs.declared.alloc.Global.{Global}
use Rattle.edit_language.specs.Printing.{joint_text, name_at, product_text, sign_text}
use Rattle.edit_model.specs.declared.field.Field.{Field}

-- what the texts hold
abbrev pub texts_in : List (Vec ℕ Global) → List (List ℕ)
texts_in texts = map (λ (t : Vec ℕ Global). t.items) texts

-- a term of a sum, with its sign before it: the first one, or a later one
abbrev pub led_text : Bool → List Field → ℕ → ℤ → List ℕ
led_text first fields field factor =
    (if first then sign_text factor else joint_text factor) ++ product_text (unsigned_abs factor) (name_at fields field)

-- a term of a sum, none where the factor is 0
abbrev pub factor_text : Bool → List Field → ℕ → ℤ → List ℕ
factor_text first fields field factor = if int_eq factor (pos 0) then [] else led_text first fields field factor
