use Rattle.std.proofs.Common.{◌≡◌, ◌||◌, ◌++◌, Bool, true, false, not, if◌then◌else◌, List, [], ◌∷◌, refl, sym, ap, ◌∙◌, subst, append_assoc, append-nil}
use Rattle.std.specs.List.{filter, fold, list_any}
use Rattle.edit_line.specs.Lines.{LineParts}
use Rattle.edit_line.specs.Reductions.{AreApart, AreOwn, IsApart, lines_of, reduce_derived, with_derived, with_line}
use Rattle.edit_line.specs.Subsumption.{is_trivial, subsumes}
use Rattle.edit_line.specs.declared.derived.Derived.{Derived}
use Rattle.edit_line.proofs.BoolLaws.{false-both}
use Rattle.edit_line.proofs.ReductionLaws.{lines_of-append, reduce-lines}

-- A part of a reduced list, in order, is reduced.

-- ---- a part of such a list is such a list

apart-filter : (test : LineParts → Bool) (a : LineParts) (lines : List LineParts) → IsApart a lines → IsApart a (filter test lines)
apart-filter test a [] apart = tt
apart-filter test a (b ∷ lines) (here, rest) = by (test b) (apart-filter test a lines rest)
  where
    by : (t : Bool) → IsApart a (filter test lines) → IsApart a (if t then b ∷ filter test lines else filter test lines)
    by true more = (here, more)
    by false more = more

pub own-filter : (test : LineParts → Bool) (lines : List LineParts) → AreOwn lines → AreOwn (filter test lines)
own-filter test [] own = tt
own-filter test (a ∷ lines) (says, apart, rest) = by (test a) (own-filter test lines rest)
  where
    by : (t : Bool) → AreOwn (filter test lines) → AreOwn (if t then a ∷ filter test lines else filter test lines)
    by true more = (says, apart-filter test a lines apart, more)
    by false more = more

-- ---- a reduced list is such a list

apart-last : (a new : LineParts) (lines : List LineParts) → IsApart a lines → AreApart a new → IsApart a (lines ++ new ∷ [])
apart-last a new [] apart last = (last, tt)
apart-last a new (b ∷ lines) (here, rest) last = (here, apart-last a new lines rest last)

-- none of the lines subsumes the new one, which subsumes none of them
abbrev AllApart : LineParts → List LineParts → Type 0
AllApart new [] = Unit {0}
AllApart new (a ∷ lines) = AreApart a new × AllApart new lines

own-last : (new : LineParts) (lines : List LineParts) → AreOwn lines → AllApart new lines → is_trivial new ≡ false → AreOwn (lines ++ new ∷ [])
own-last new [] own apart says = (says, tt, tt)
own-last new (a ∷ lines) (own, beside, rest) (here, apart) says = (own, apart-last a new lines beside here, own-last new lines rest apart says)

left-apart : (new : LineParts) (lines : List LineParts) → list_any (λ a. subsumes a new) lines ≡ false → AllApart new (filter (λ b. not (subsumes new b)) lines)
left-apart new [] none = tt
left-apart new (a ∷ lines) none = by (subsumes new a) refl (left-apart new lines (false-both _ _ none).1)
  where
    by : (t : Bool) → subsumes new a ≡ t → AllApart new (filter (λ b. not (subsumes new b)) lines)
        → AllApart new (if not t then a ∷ filter (λ b. not (subsumes new b)) lines else filter (λ b. not (subsumes new b)) lines)
    by true test more = more
    by false test more = (((false-both _ _ none).0, test), more)

own-with : (kept : List LineParts) (new : LineParts) → AreOwn kept → AreOwn (with_line kept new)
own-with kept new own = by (is_trivial new) (list_any (λ a. subsumes a new) kept) refl refl
  where
    by : (t s : Bool) → is_trivial new ≡ t → list_any (λ a. subsumes a new) kept ≡ s → AreOwn (if t || s then kept else filter (λ b. not (subsumes new b)) kept
        ++ new ∷ [])
    by true s says none = own
    by false true says none = own
    by false false says none = own-last new (filter (λ b. not (subsumes new b)) kept) (own-filter (λ b. not (subsumes new b)) kept own)
        (left-apart new kept none) says

own-fold : (kept lines : List LineParts) → AreOwn kept → AreOwn (fold with_line kept lines)
own-fold kept [] own = own
own-fold kept (new ∷ lines) own = own-fold (with_line kept new) lines (own-with kept new own)

pub own-reduced : (lines : List Derived) → AreOwn (lines_of (reduce_derived lines))
own-reduced lines = subst (λ (ls : List LineParts). AreOwn ls) (sym (reduce-lines lines)) (own-fold [] (lines_of lines) tt)

-- ---- and such a list is reduced

apart-there : (a b : LineParts) (before after : List LineParts) → IsApart a (before ++ b ∷ after) → AreApart a b
apart-there a b [] after (here, rest) = here
apart-there a b (c ∷ before) after (here, rest) = apart-there a b before after rest

own-there : (new : LineParts) (before after : List LineParts) → AreOwn (before ++ new ∷ after) → AllApart new before × (is_trivial new ≡ false)
own-there new [] after (says, apart, rest) = (tt, says)
own-there new (a ∷ before) after (says, apart, rest) = let (more, own) = own-there new before after rest in ((apart-there a new before after apart, more), own)

any-apart : (new : LineParts) (kept : List Derived) → AllApart new (lines_of kept) → list_any (λ (a : Derived). subsumes a.line new) kept ≡ false
any-apart new [] apart = refl
any-apart new (a ∷ kept) ((here, back), rest) = both_false _ _ here (any-apart new kept rest)
  where
    both_false : (p q : Bool) → p ≡ false → q ≡ false → (p || q) ≡ false
    both_false true q e h = e
    both_false false q e h = h

all-stay : (new : LineParts) (kept : List Derived) → AllApart new (lines_of kept) → filter (λ (b : Derived). not (subsumes new b.line)) kept ≡ kept
all-stay new [] apart = refl
all-stay new (a ∷ kept) ((here, back), rest) = by (subsumes new a.line) back (all-stay new kept rest)
  where
    by : (t : Bool) → t ≡ false → filter (λ (b : Derived). not (subsumes new b.line)) kept ≡ kept
        → (if not t then a ∷ filter (λ (b : Derived). not (subsumes new b.line)) kept else filter (λ (b : Derived). not (subsumes new b.line)) kept) ≡ a ∷ kept
    by true test more = absurd (cc)
    by false test more = ap (λ (ds : List Derived). a ∷ ds) more

-- a line that is apart from all comes last
with-own : (kept : List Derived) (new : Derived) → AllApart new.line (lines_of kept) → is_trivial new.line ≡ false → with_derived kept new ≡ kept ++ new ∷ []
with-own kept new apart says = by (is_trivial new.line) (list_any (λ (a : Derived). subsumes a.line new.line) kept) says (any-apart new.line kept apart)
  where
    by : (t s : Bool) → t ≡ false → s ≡ false → (if t || s then kept else filter (λ (b : Derived). not (subsumes new.line b.line)) kept ++ new ∷ []) ≡ kept
        ++ new ∷ []
    by true s e h = absurd (cc)
    by false true e h = absurd (cc)
    by false false e h = ap (λ (ds : List Derived). ds ++ new ∷ []) (all-stay new.line kept apart)

folded-own : (kept lines : List Derived) → AreOwn (lines_of kept ++ lines_of lines) → fold with_derived kept lines ≡ kept ++ lines
folded-own kept [] own = sym (append-nil kept)
folded-own kept (new ∷ lines) own =
    let (apart, says) = own-there new.line (lines_of kept) (lines_of lines) own in
    let more : AreOwn (lines_of (kept ++ new ∷ []) ++ lines_of lines) =
    subst (λ (ls : List LineParts). AreOwn ls) (sym (ap (λ (ls : List LineParts). ls ++ lines_of lines) (lines_of-append kept (new ∷ []))
    ∙ append_assoc (lines_of kept) (new.line ∷ []) (lines_of lines))) own in
    ap (λ (ds : List Derived). fold with_derived ds lines) (with-own kept new apart says) ∙ folded-own (kept ++ new ∷ []) lines more
    ∙ append_assoc kept (new ∷ []) lines

pub reduce-own : (lines : List Derived) → AreOwn (lines_of lines) → reduce_derived lines ≡ lines
reduce-own lines own = folded-own [] lines own
