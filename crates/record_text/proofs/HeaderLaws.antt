use Rattle.std.proofs.Common.{◌≡◌, ◌∙◌, ap, refl, ℕ, zero, suc, ◌+◌, ◌==◌, if◌then◌else◌, List, [], ◌∷◌, ◌++◌, false, length, take, Some, None, arith}
use Rattle.std.proofs.lemmas.Bool.Decides.{nat_tests}
use Rattle.std.proofs.lemmas.List.{take_all}
use Rattle.csv.specs.Records.{field_at}
use Rattle.record_text.specs.Trimming.{header_of, without_marks}
use Rattle.record_text.proofs.RecordLaws.{copied_more, field_past}

-- one text of the header more, and all of them
pub header_more : (texts done : List (List ℕ)) (x y : List ℕ) (i j : ℕ) → done ≡ header_of (take i texts) → Some x ≡ field_at texts i
    → y ≡ (if length done == 0 then without_marks x else x) → j ≡ i + 1
    → done ++ y ∷ [] ≡ header_of (take j texts)
unfolding field_at
header_more [] done x y i j e at shown next = cc at
header_more (t ∷ texts) [] x y zero j e at shown next =
    let first : x ≡ t = cc at in
    let one : j ≡ 1 = omega arith in
    rw (one, shown, first) refl
header_more (t ∷ texts) (d ∷ done) x y zero j e at shown next = cc e
header_more (t ∷ texts) [] x y (suc i) j e at shown next = cc e
header_more (t ∷ texts) (d ∷ done) x y (suc i) j e at shown next =
    let head : d ≡ without_marks t = cc e in
    let rest : done ≡ take i texts = cc e in
    let more : done ++ x ∷ [] ≡ take (i + 1) texts = copied_more texts done x i (i + 1) rest at refl in
    let far : j ≡ suc (i + 1) = omega arith in
    let later : (length (d ∷ done) == 0) ≡ false = grind (arith, nat_tests) in
    let same : y ≡ x = shown ∙ rw later refl in
    rw (far, same, head, more) refl

pub header_all : (texts done : List (List ℕ)) (i : ℕ) → done ≡ header_of (take i texts) → None ≡ field_at texts i → done ≡ header_of texts
header_all texts done i e at = e ∙ ap header_of (take_all i texts (field_past texts i at))

-- the header has as many texts as the first record
pub header_length : (texts : List (List ℕ)) → length (header_of texts) ≡ length texts
header_length [] = refl
header_length (t ∷ texts) = refl
