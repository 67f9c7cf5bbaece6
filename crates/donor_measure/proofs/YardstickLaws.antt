use Rattle.std.proofs.Common.{◌≡◌, All, List, get_or, length}
use Rattle.std.proofs.lemmas.List.{length-map}
use Rattle.std.proofs.lemmas.List.Elements.{All-map}
use Rattle.edit_model.specs.declared.field.Field.{Field}
use Rattle.edit_model.specs.Surveys.{IsField, IsKind}
use Rattle.edit_model.specs.declared.field.Kind.{Kind}
use Rattle.edit_model.specs.declared.field.Kind.TheVariants as kind
use Rattle.donor_measure.specs.Yardsticks.{IsScale, IsYardstick, scale_of, yardstick_of, yardsticks_of}

-- The yardsticks of a survey's fields are within its limits.

scale_fits : (k : Kind) → IsKind k → IsScale (scale_of k)
scale_fits (kind.Number scale) is = is
scale_fits (kind.Code codes) is = tt

pub yardstick_fits : (f : Field) → IsField f → IsYardstick (yardstick_of f)
yardstick_fits f is = record { weight = is.weight.1; scale = scale_fits f.kind is.fits }

pub all_fit : (fields : List Field) → All IsField fields → All IsYardstick (yardsticks_of fields)
all_fit fields are = All-map IsYardstick yardstick_of fields (λ k d below. yardstick_fits (get_or fields k d) (are k d below))

pub as_many : (fields : List Field) → length (yardsticks_of fields) ≡ length fields
as_many fields = length-map fields yardstick_of
