use Rattle.std.proofs.Common.{◌≡◌, ℕ, suc, ◌+◌, ◌-◌, ◌*◌, ◌<◌, ◌≤◌, List, [], ◌∷◌, length, sym, ap, ◌∙◌, arith}
use Rattle.std.specs.List.{filter, fold}
use Rattle.std.proofs.lemmas.List.{length-map}
use Rattle.edit_line.specs.Shapes.{Domain, whole_sets}
use Rattle.categ_combine.specs.BoxLists.{AreBoxesOver, sets_of}
use Rattle.edit_line.specs.CodeFields.{codes_up}
use Rattle.categ_combine.specs.Covers.{code_pairs, first_cover, takes_part, with_code, with_code_from}
use Rattle.categ_combine.specs.declared.box_from.BoxFrom.{BoxFrom}
use Rattle.categ_combine.proofs.OriginLaws.{length-parts, sets-with_code}

-- The covers of the codes so far, and the pairs that were looked at for them.

module _ (shape : List Domain) (place whole : ℕ) (boxes : List BoxFrom) (size most : ℕ) where
  -- the covers of the codes from this one on
  abbrev pub rest_of : ℕ → List BoxFrom → List BoxFrom
  rest_of code covers = fold (λ covers code. with_code_from place whole boxes covers code) covers (codes_up code (size - code))

  -- the pairs that are looked at for them
  abbrev pub pairs_of : ℕ → List BoxFrom → ℕ
  pairs_of code covers = code_pairs place whole (sets_of boxes) (sets_of covers) (codes_up code (size - code))

  -- what stands before the code's turn
  pub record IsSoFar (code : ℕ) (covers : List BoxFrom) (pairs : ℕ) : Type 0 where
    pub over : AreBoxesOver shape covers
    pub covers_are : rest_of code covers ≡ rest_of 0 (first_cover shape ∷ [])
    pub pairs_are : pairs + pairs_of code covers ≡ pairs_of 0 (first_cover shape ∷ [])
    pub few : pairs ≤ most

  -- the pairs for a code
  abbrev pub more_for : ℕ → List BoxFrom → ℕ
  more_for code covers = length covers * length (filter (λ (b : BoxFrom). takes_part place whole code b.code_box.sets) boxes)

  codes_left : (code : ℕ) → code < size → codes_up code (size - code) ≡ code ∷ codes_up (code + 1) (size - (code + 1))
  codes_left code below = ap (λ n. codes_up code n) left ∙ ap (λ n. code ∷ codes_up n (size - (code + 1))) next
    where
      left : size - code ≡ suc (size - (code + 1))
      left = omega arith

      next : suc code ≡ code + 1
      next = omega arith

  pub pairs-turn : (code : ℕ) (covers : List BoxFrom) → code < size
      → pairs_of code covers ≡ more_for code covers + pairs_of (code + 1) (with_code_from place whole boxes covers code)
  pairs-turn code covers below =
      ap (λ cs. code_pairs place whole (sets_of boxes) (sets_of covers) cs) (codes_left code below)
      ∙ ap (λ n. n * length (filter (takes_part place whole code) (sets_of boxes))
      + code_pairs place whole (sets_of boxes) (with_code place whole (sets_of boxes) (sets_of covers) code) (codes_up (code + 1) (size - (code + 1))))
      (length-map covers (λ (b : BoxFrom). b.code_box.sets))
      ∙ ap (λ n. length covers * n + code_pairs place whole (sets_of boxes) (with_code place whole (sets_of boxes) (sets_of covers) code)
      (codes_up (code + 1) (size - (code + 1)))) (sym (length-parts place whole code boxes))
      ∙ ap (λ bs. more_for code covers + code_pairs place whole (sets_of boxes) bs (codes_up (code + 1) (size - (code + 1))))
      (sym (sets-with_code place whole boxes covers code))

  pub so_far-next : (code : ℕ) (covers next : List BoxFrom) (pairs more : ℕ) → code < size → IsSoFar code covers pairs
      → next ≡ with_code_from place whole boxes covers code → AreBoxesOver shape next → more ≡ more_for code covers → more ≤ most - pairs
      → IsSoFar (code + 1) next (pairs + more)
  so_far-next code covers next pairs more below before is over counted fits = record {
    over = over;
    covers_are =
        ap (λ bs. rest_of (code + 1) bs) is ∙ ap (λ cs. fold (λ covers code. with_code_from place whole boxes covers code) covers cs)
        (sym (codes_left code below)) ∙ before.covers_are;
    pairs_are = omega (arith, before.pairs_are, pairs-turn code covers below, counted, ap (λ bs. pairs_of (code + 1) bs) is);
    few = omega (arith, before.few, fits);
  }

  pub so_far-passed : (code : ℕ) (covers : List BoxFrom) (pairs more : ℕ) → code < size → IsSoFar code covers pairs → more ≡ more_for code covers
      → most - pairs < more → most < code_pairs place whole (sets_of boxes) (whole_sets shape ∷ []) (codes_up 0 size)
  so_far-passed code covers pairs more below is counted past =
      omega (
        arith,
        is.pairs_are,
        is.few,
        pairs-turn code covers below,
        counted,
        past,
        ap (λ n. code_pairs place whole (sets_of boxes) (whole_sets shape ∷ []) (codes_up 0 n)) whole_size,
      )
    where
      whole_size : size - 0 ≡ size
      whole_size = omega arith
