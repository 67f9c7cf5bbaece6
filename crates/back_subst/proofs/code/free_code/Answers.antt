use Rattle.std.proofs.Common.{◌≡◌, ◌<◌, ◌∙◌, false, length, refl, sym, ap, arith}
use Rattle.edit_line.specs.CodeFields.{place_of, size_of}
use Rattle.edit_line.specs.Shapes.{code_fields, place_in, shape_of}
use Rattle.edit_line.proofs.ShapeLaws.{place-within, same_codes}
use Rattle.categ_combine.specs.BoxLists.{sets_of}
use Rattle.back_subst.specs.inner.Codes.{is_free_at}
use Rattle.back_subst.proofs.CodeSteps.{none-free, some-given, target-free}
use Rattle.back_subst.proofs.code.free_code.Goals as goal
use Rattle.back_subst.proofs.code.free_code.Goals.{After-first_free_code, After-place_among-place, else-target-size-via-then-target-size+else-is_free}
use Rattle.back_subst.proofs.code.free_code.Goals.{else-target-size-via-else-target-size}

module _ (c : After-place_among-place) where
  place-is : c.place_among-place.result ≡ place_of (shape_of c.args.survey.now.fields) c.args.field
  place-is =
      c.place_among-place.ensures ∙ ap (λ fs. place_in fs c.args.field)
      (same_codes c.codes.result.now c.args.survey.now.fields (shape_of c.args.survey.now.fields) c.codes.ensures refl)

  place-below : c.place_among-place.result < length (code_fields (shape_of c.args.survey.now.fields))
  place-below = let found = place-within (code_fields (shape_of c.args.survey.now.fields)) c.args.field c.requires.field in omega (arith, place-is, found)

  size-is : c.size_of-size.result ≡ size_of (shape_of c.args.survey.now.fields) c.args.field
  size-is = c.size_of-size.ensures.size ∙ ap (λ s. size_of s c.args.field) c.of.ensures

pub is_free-requires : goal.is_free-requires
is_free-requires c = (shape_of c.args.survey.now.fields, c.requires.over, place-below (goal.at.is_free-requires c).After-place_among-place)

pub returns-then-is_free : goal.returns-then-is_free
returns-then-is_free c =
    let at = (goal.at.returns-then-is_free c).After-place_among-place in
    target-free (shape_of c.args.survey.now.fields) (sets_of c.args.boxes.now) c.args.field c.args.target c.size_of-size.result c.place_among-place.result
    (size-is at) (place-is at) c.if-target-size.true (sym c.if-is_free.ensures)

pub first_free_code-requires : goal.first_free_code-requires
first_free_code-requires c = (shape_of c.args.survey.now.fields, c.requires.over, place-below (goal.at.first_free_code-requires c).After-place_among-place)

module _ (c : After-first_free_code) where
  out : (c.args.target < c.size_of-size.result) → is_free_at (sets_of c.args.boxes.now) c.place_among-place.result c.args.target ≡ false
  out = elim c.else-target-size.branch [
    | else-target-size-via-then-target-size+else-is_free w ↦ λ below. sym w.if-is_free.ensures
    | else-target-size-via-else-target-size w ↦ λ below. absurd (omega (arith, below, w.if-target-size.false))
  ]

pub returns : goal.returns
returns c =
    let at = (goal.at.returns c).After-place_among-place in
    some-given (shape_of c.args.survey.now.fields) (sets_of c.args.boxes.now) c.args.field c.args.target c.size_of-size.result c.place_among-place.result
    (size-is at) (place-is at) (out (goal.at.returns c).After-first_free_code) c.first_free_code.result c.first_free_code.ensures.free c.in-Some.code
    c.in-Some.is

pub unreachable-requires : goal.unreachable-requires
unreachable-requires c =
    let at = (goal.at.unreachable-requires c).After-place_among-place in
    none-free (shape_of c.args.survey.now.fields) (sets_of c.args.boxes.now) c.args.field c.args.target c.size_of-size.result c.place_among-place.result
    (size-is at) (place-is at) c.requires.some c.first_free_code.result c.first_free_code.ensures.none c.in-None.is
