use Rattle.std.proofs.Common.{◌≡◌, ℕ, List, All, map, sym, ap, ◌∙◌, subst, refl}
use Rattle.edit_line.specs.EditSets.{base_lines}
use Rattle.edit_line.specs.Lines.{AreOver, HasShape, HaveShape, IsLine, LineParts}
use Rattle.edit_line.specs.Reductions.{lines_of, reduce, reduce_derived}
use Rattle.edit_line.specs.Shapes.{Domain, whole_sets}
use Rattle.edit_line.specs.declared.derived.Derived.{Derived}
use Rattle.edit_line.proofs.Members.{all-in, in-all, in-map}
use Rattle.edit_line.proofs.ReductionLaws.{HaveShape-reduce, reduce-lines}
use Rattle.edit_line.proofs.SetLaws.{AreSets-length}
use Rattle.edit_line.proofs.ShapeLaws.{length-wholes}
use Rattle.linear_elim.specs.Combinations.{SameShape}
use Rattle.linear_elim.specs.Steps.{OneShape}
use Rattle.linear_elim.proofs.ResultLaws.{base-plain}

-- Lines over one survey's fields.

-- two lines over the fields of a shape
pub SameShape-have : (shape : List Domain) (s t : LineParts) → HasShape shape s → HasShape shape t → SameShape s t
SameShape-have shape s t one two = record {
  shape = two.same ∙ sym one.same;
  sets = one.sets ∙ sym two.sets;
  factors = one.factors ∙ sym two.factors;
}

-- lines over the fields of a shape are over one survey's fields
pub OneShape-have : (shape : List Domain) (lines : List Derived) → HaveShape shape (lines_of lines) → OneShape lines
OneShape-have shape lines over =
    all-in (λ (s : Derived). All (λ (t : Derived). SameShape s.line t.line) lines) lines (λ s s_in.
    all-in (λ (t : Derived). SameShape s.line t.line) lines (λ t t_in.
    SameShape-have shape s.line t.line
    (in-all (λ l. HasShape shape l) s.line (lines_of lines) over (in-map (λ (d : Derived). d.line) s lines s_in))
    (in-all (λ l. HasShape shape l) t.line (lines_of lines) over (in-map (λ (d : Derived). d.line) t lines t_in))))

-- each of the lines has the shape
pub derived-shape : (shape : List Domain) (lines : List Derived) → HaveShape shape (lines_of lines) → All (λ (d : Derived). d.line.shape ≡ shape) lines
derived-shape shape lines over =
    all-in (λ (d : Derived). d.line.shape ≡ shape) lines
    (λ d there. (in-all (λ l. HasShape shape l) d.line (lines_of lines) over (in-map (λ (d : Derived). d.line) d lines there)).same)

-- a line is over the fields of its shape
pub HasShape-line : (line : LineParts) → IsLine line → HasShape line.shape line
HasShape-line line is = record {
  same = refl;
  sets = AreSets-length line.sets (whole_sets line.shape) is.sets ∙ length-wholes 0 line.shape;
  factors = is.factors;
  fit = is.sets;
  whole = is.whole;
}

-- so are all lines
pub HaveShape-lines : (shape : List Domain) (lines : List LineParts) → All IsLine lines → AreOver shape lines → HaveShape shape lines
HaveShape-lines shape lines are over = all-in (λ l. HasShape shape l) lines (λ line there.
    subst (λ (s : List Domain). HasShape s line) (in-all (λ (l : LineParts). l.shape ≡ shape) line lines over there)
    (HasShape-line line (in-all IsLine line lines are there)))

-- the lines that elimination begins with are over the fields of the edits
pub HaveShape-base : (shape : List Domain) (edits : List (ℕ × LineParts)) → HaveShape shape (map (λ (e : ℕ × LineParts). e.1) edits)
    → HaveShape shape (lines_of (reduce_derived (base_lines edits)))
HaveShape-base shape edits over =
    subst (λ (ls : List LineParts). HaveShape shape ls) (sym (reduce-lines (base_lines edits) ∙ ap (λ (ls : List LineParts). reduce ls) (base-plain edits)))
    (HaveShape-reduce shape (map (λ (e : ℕ × LineParts). e.1) edits) over)
