-- How many rows and lines there are.
use Rattle.std.proofs.Common.{IfSome, ◌≡◌, ℕ, suc, ◌+◌, ◌&&◌, Bool, true, false, if◌then◌else◌, List, [], ◌∷◌, Option, Some, None, length, length-append, refl}
use Rattle.std.proofs.Common.{ap, ◌∙◌, arith, subst}
use Rattle.std.specs.Prelude.{is_none, is_some}
use Rattle.std.specs.List.{filter}
use Rattle.edit_model.specs.Corrections.{path_order}
use Rattle.edit_model.specs.declared.field.Field.{Field}
use Rattle.edit_model.specs.declared.value.Value.{Value}
use Rattle.bound_cert.specs.Paths.{changes}
use Rattle.bound_cert.specs.Trees.{all_kept}
use Rattle.back_subst.specs.declared.gift.Gift.{Gift}
use Rattle.back_subst.specs.declared.gift.How.{How}
use Rattle.edit_report.specs.Ends.{IsGift, changed_fields, path_found}
use Rattle.edit_report.specs.Laws.{ChangedCountLaw, CleanLaw, ReleasedCountLaw, UnresolvedLaw}
use Rattle.edit_report.specs.Reasons.{changed_lines, lines_with}
use Rattle.edit_report.specs.Released.{released_rows, released_of, row_with}
use Rattle.edit_report.specs.declared.end.RowEnd.{RowEnd}
use Rattle.edit_report.proofs.ChangedLaws.{none-changed}
use Rattle.edit_report.proofs.ReleasedLaws.{texts-kept}

-- ---- released rows

row-count : (fields : List Field) (columns : List ℕ) (texts : List (List ℕ)) (path : List Bool) (gift : Option Gift)
    → length (row_with fields columns texts path gift) ≡ (if is_some gift then 1 else 0)
row-count fields columns texts path None = refl
row-count fields columns texts path (Some gift) = refl

pub released-count : ReleasedCountLaw
released-count fields columns [] [] same = refl
released-count fields columns [] (end ∷ ends) same = absurd (omega (arith, same))
released-count fields columns (texts ∷ row_texts) [] same = absurd (omega (arith, same))
released-count fields columns (texts ∷ row_texts) (end ∷ ends) same = joined (released-count fields columns row_texts ends (omega (arith, same)))
  where
    more : (b : Bool) (n : ℕ) → n ≡ length (filter (λ (e : RowEnd). is_some e.gift) ends) → (if b then 1 else 0) + n
        ≡ length (if b then end ∷ filter (λ (e : RowEnd). is_some e.gift) ends else filter (λ (e : RowEnd). is_some e.gift) ends)
    more true n is = omega (arith, is)
    more false n is = omega (arith, is)

    joined : length (released_rows fields columns row_texts ends) ≡ length (filter (λ (e : RowEnd). is_some e.gift) ends)
        → length (released_rows fields columns (texts ∷ row_texts) (end ∷ ends)) ≡ length (filter (λ (e : RowEnd). is_some e.gift) (end ∷ ends))
    joined rest =
        length-append (released_of fields columns texts end) (released_rows fields columns row_texts ends)
        ∙ ap (λ n. n + length (released_rows fields columns row_texts ends)) (row-count fields columns texts (path_found end.proof.outcome) end.gift)
        ∙ more (is_some end.gift) (length (released_rows fields columns row_texts ends)) rest

-- ---- lines

filter-none : (test : ℕ → Bool) (xs : List ℕ) → ((x : ℕ) → test x ≡ false) → filter test xs ≡ []
filter-none test [] none = refl
filter-none test (x ∷ xs) none = ap (λ b. if b then x ∷ filter test xs else filter test xs) (none x) ∙ filter-none test xs none

pub clean-told : CleanLaw
clean-told fields columns number texts end clean = by end.gift clean
  where
    by : (gift : Option Gift) → (is_some gift && all_kept (path_found end.proof.outcome)) ≡ true
        → (row_with fields columns texts (path_found end.proof.outcome) gift ≡ texts ∷ [])
        × (lines_with fields columns number texts end.proof end.donor gift ≡ [])
    by None e = absurd (cc)
    by (Some gift) e =
        let none = none-changed fields (path_found end.proof.outcome) e in (
          ap (λ (ts : List (List ℕ)). ts ∷ []) (texts-kept fields columns gift.row (changes fields (path_found end.proof.outcome)) 0 texts none),
          ap (λ (fs : List ℕ). changed_lines fields columns number texts end.donor gift.row fs gift.how)
              (filter-none (changes fields (path_found end.proof.outcome)) (path_order fields) none) ∙ no-lines gift.how,
        )
      where
        no-lines : (hows : List How) → changed_lines fields columns number texts end.donor gift.row [] hows ≡ []
        no-lines [] = refl
        no-lines (how ∷ hows) = refl

line-count : (fields : List Field) (columns : List ℕ) (number : ℕ) (texts : List (List ℕ)) (donor : Option ℕ) (new : List Value) (changed : List ℕ)
    (hows : List How) → length hows ≡ length changed
    → length (changed_lines fields columns number texts donor new changed hows) ≡ length changed
line-count fields columns number texts donor new [] hows many = no-lines hows
  where
    no-lines : (hows : List How) → length (changed_lines fields columns number texts donor new [] hows) ≡ 0
    no-lines [] = refl
    no-lines (how ∷ hows) = refl
line-count fields columns number texts donor new (f ∷ changed) [] many = absurd (omega (arith, many))
line-count fields columns number texts donor new (f ∷ changed) (how ∷ hows) many =
    ap suc (line-count fields columns number texts donor new changed hows (omega (arith, many)))

pub changed-told : ChangedCountLaw
changed-told fields columns number texts end gift parts given =
    let there = subst (λ (g : Option Gift). IfSome g (IsGift fields (path_found end.proof.outcome))) given parts in
    ap (λ (g : Option Gift). length (lines_with fields columns number texts end.proof end.donor g)) given
    ∙ line-count fields columns number texts end.donor gift.row (changed_fields fields (path_found end.proof.outcome)) gift.how there.how

pub unresolved-told : UnresolvedLaw
unresolved-told fields columns number texts end none = by end.gift none
  where
    by : (gift : Option Gift) → is_none gift ≡ true → (row_with fields columns texts (path_found end.proof.outcome) gift ≡ [])
        × (length (lines_with fields columns number texts end.proof end.donor gift) ≡ 1)
    by None e = (refl, refl)
    by (Some gift) e = absurd (cc)
