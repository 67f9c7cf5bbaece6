use Rattle.std.proofs.Common.{◌≡◌, inl, inr, ℕ, ◌++◌, List, [], ◌∷◌, All, length, refl, sym, ap, ◌∙◌, subst, arith}
use Rattle.std.proofs.lemmas.List.{map-append}
use Rattle.std.proofs.lemmas.List.Sums.{fold-append}
use Rattle.edit_line.specs.EditSets.{AreEdits, base_lines}
use Rattle.edit_line.specs.Lines.{IsLine, LineParts}
use Rattle.edit_line.specs.Reductions.{IsIn, lines_of, reduce_derived, with_derived}
use Rattle.edit_line.specs.Shapes.{shape_of}
use Rattle.edit_line.specs.declared.derived.Derived.{Derived}
use Rattle.edit_line.specs.declared.derived.Origin.TheVariants.{Base}
use Rattle.edit_line.proofs.Members.{all-in, in-all, in-either, in-map, in-map-out, in-taken}
use Rattle.edit_paths.specs.Cases.{IsCase, SearchCase}
use Rattle.deduce_fill.specs.Tests.{ArePlacedFrom, with_line}
use Rattle.deduce_fill.proofs.PlacedEdits.{placed-more, placed-rising}

-- A case with one more line is a case.

module _ (c : SearchCase) (is : IsCase c) (placed : ArePlacedFrom 0 c.edits) (line : LineParts) (fits : IsLine line)
    (over : line.shape ≡ shape_of c.survey.fields) where
  abbrev more : List (ℕ × LineParts)
  more = c.edits ++ (length c.edits, line) ∷ []

  -- the edits with the line are edits
  pub more-edits : AreEdits (shape_of c.survey.fields) more
  more-edits = record {
    over = all-in (λ (e : ℕ × LineParts). e.1.shape ≡ shape_of c.survey.fields) more each;
    rising = placed-rising more (placed-more 0 (length c.edits) c.edits line placed (omega arith));
  }
    where
      each : (e : ℕ × LineParts) → IsIn e more → e.1.shape ≡ shape_of c.survey.fields
      each e there = elim (in-either e c.edits ((length c.edits, line) ∷ []) there) [
        | inl old ↦ in-all (λ (e : ℕ × LineParts). e.1.shape ≡ shape_of c.survey.fields) e c.edits is.edits.edits.over old
        | inr last ↦ elim last [ inl same ↦ ap (λ (e : ℕ × LineParts). e.1.shape) same ∙ over | inr none ↦ absurd none ]
      ]

  abbrev new : Derived
  new = record { line = line; origin = Base (length c.edits) }

  reduced-more : reduce_derived (base_lines more) ≡ with_derived (reduce_derived (base_lines c.edits)) new
  reduced-more = ap (λ (ds : List Derived). reduce_derived ds)
      (map-append (λ (e : ℕ × LineParts). record { line = e.1; origin = Base e.0 }) c.edits ((length c.edits, line) ∷ []))
      ∙ fold-append with_derived [] (base_lines c.edits) (new ∷ [])

  pub with-case : IsCase (with_line c line)
  with-case = record {
    fields = is.fields;
    row = is.row;
    edits = record {
      edits = more-edits;
      lines_are = refl;
      are_lines = subst (λ (ds : List Derived). All IsLine (lines_of ds)) (sym reduced-more)
          (all-in IsLine (lines_of (with_derived (reduce_derived (base_lines c.edits)) new)) each);
    };
  }
    where
      at_derived : (d : Derived) → IsIn d (with_derived (reduce_derived (base_lines c.edits)) new) → IsLine d.line
      at_derived d there = elim (in-taken _ _ d new (reduce_derived (base_lines c.edits)) there) [
        | inl old ↦ in-all IsLine d.line (lines_of (reduce_derived (base_lines c.edits))) is.edits.are_lines
            (in-map (λ (d : Derived). d.line) d (reduce_derived (base_lines c.edits)) old)
        | inr same ↦ subst (λ (d : Derived). IsLine d.line) (sym same) fits
      ]

      each : (l : LineParts) → IsIn l (lines_of (with_derived (reduce_derived (base_lines c.edits)) new)) → IsLine l
      each l there =
          let (d, d_in, same) = in-map-out (λ (d : Derived). d.line) l (with_derived (reduce_derived (base_lines c.edits)) new) there in
          subst IsLine (sym same) (at_derived d d_in)
