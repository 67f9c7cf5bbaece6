use Rattle.std.proofs.Common.{◌≡◌, ◌==◌, ◌∙◌, sym, ap, refl, ℕ, Bool, true, false, if◌then◌else◌, ◌&&◌, List, [], ◌∷◌, ◌++◌, take, drop}
use Rattle.std.proofs.Math.Bool.{and-false, and-true}
use Rattle.std.specs.List.{list_all}
use Rattle.csv.specs.Reading.{strip_bom}
use lib.Pointwise.{pointwise}
use Rattle.record_text.specs.Trimming.{is_blank, without_end}

-- a blank at the end, and none
all_blank : (front : List ℕ) (b : ℕ) → is_blank b ≡ true → list_all is_blank (front ++ b ∷ []) ≡ list_all is_blank front
all_blank [] b blank = rw blank refl
all_blank (c ∷ front) b blank = rw (all_blank front b blank) refl

not_blank : (front : List ℕ) (b : ℕ) → is_blank b ≡ false → list_all is_blank (front ++ b ∷ []) ≡ false
not_blank [] b other = rw other refl
not_blank (c ∷ front) b other = rw (not_blank front b other) (and-false (is_blank c))

end_shorter : (front : List ℕ) (b : ℕ) → is_blank b ≡ true → without_end (front ++ b ∷ []) ≡ without_end front
end_shorter [] b blank = rw blank refl
end_shorter (c ∷ front) b blank = rw (all_blank front b blank, end_shorter front b blank) refl

end_stays : (front : List ℕ) (b : ℕ) → is_blank b ≡ false → without_end (front ++ b ∷ []) ≡ front ++ b ∷ []
end_stays [] b other = rw other refl
end_stays (c ∷ front) b other = rw (not_blank front b other, and-false (is_blank c), end_stays front b other) refl

pub end_more : (text front : List ℕ) (b : ℕ) → text ≡ front ++ b ∷ [] → is_blank b ≡ true → without_end text ≡ without_end front
end_more text front b split blank = ap without_end split ∙ end_shorter front b blank

pub end_done : (text front : List ℕ) (b : ℕ) → text ≡ front ++ b ∷ [] → is_blank b ≡ false → without_end text ≡ text
end_done text front b split other = ap without_end split ∙ end_stays front b other ∙ sym split

-- ---- the byte order mark

-- three tests, as a slice asks them of its front and as csv asks them
three_tests : (p q r : Bool) → (p && (q && (r && true))) ≡ (p && q && r)
three_tests false q r = refl
three_tests true false r = refl
three_tests true true r = and-true r

-- csv takes off the mark where the slice begins with it
pub without_mark_by : (bytes : List ℕ) (marked : Bool) → pointwise ◌==◌ (take 3 bytes) (0xEF ∷ 0xBB ∷ 0xBF ∷ []) ≡ marked
    → strip_bom bytes ≡ (if marked then drop 3 bytes else bytes)
unfolding strip_bom
without_mark_by [] marked e = rw (← e) refl
without_mark_by (a ∷ []) marked e = rw (← e, and-false (a == 0xEF)) refl
without_mark_by (a ∷ b ∷ []) marked e = rw (← e, and-false (b == 0xBB), and-false (a == 0xEF)) refl
without_mark_by (a ∷ b ∷ c ∷ rest) marked e =
    ap (λ (m : Bool). if m then rest else a ∷ b ∷ c ∷ rest) (sym (three_tests (a == 0xEF) (b == 0xBB) (c == 0xBF)) ∙ e)
