use Rattle.std.proofs.Common.{◌≡◌, ◌∙◌, cond, ℕ, ◌+◌, ◌<◌, Bool, List, [], ◌∷◌, ◌++◌, Option}
use Rattle.std.proofs.Common.{is_none, length, get_or, set, take, drop, map, replicate, refl, sym, ap, arith, append_assoc}
use Rattle.std.specs.List.{count_by}
use Rattle.std.proofs.lemmas.List.{drop_more, get_or_at, length-map, length-take-le, map-append, set_at, take_more}
use Rattle.std.proofs.lemmas.List.Sums.{sum_by_more}
use Rattle.edit_model.specs.declared.rule.Rule.{Rule}
use Rattle.edit_model.specs.declared.value.Value.{Value}
use Rattle.page_counts.specs.Rules.{answer_at, is_broken, is_false, is_untried, no_count, rule_count}
use Rattle.page_counts.specs.declared.rules.RuleCount.{RuleCount}

-- Counts of rules, one rule after the other.

-- no record is counted yet
pub none_counted : (rules : List Rule) → replicate (length rules) no_count ≡ map (rule_count []) rules
none_counted [] = refl
none_counted (rule ∷ rules) = ap (λ counts. no_count ∷ counts) (none_counted rules)

module _ {A B : Type 0} (f g : A → B) (xs : List A) (i : ℕ) (d : A) (below : i < length xs) where
  front_long : length (map f (take i xs)) ≡ i
  front_long = length-map (take i xs) f ∙ length-take-le i xs (omega arith)

  halves : map f (take i xs) ++ map g (drop i xs) ≡ map f (take i xs) ++ (g (get_or xs i d) ∷ map g (drop (i + 1) xs))
  halves = ap (λ (ys : List A). map f (take i xs) ++ map g ys) (drop_more xs i d below)

  -- what stands at a place that is not yet written
  pub unwritten : (e : B) → get_or (map f (take i xs) ++ map g (drop i xs)) i e ≡ g (get_or xs i d)
  unwritten e =
      ap (λ (ys : List B). get_or ys i e) halves ∙ get_or_at (map f (take i xs)) (g (get_or xs i d)) (map g (drop (i + 1) xs)) e i front_long

  -- and when it is written
  pub written : set (map f (take i xs) ++ map g (drop i xs)) i (f (get_or xs i d)) ≡ map f (take (i + 1) xs) ++ map g (drop (i + 1) xs)
  written =
      ap (λ (ys : List B). set ys i (f (get_or xs i d))) halves
      ∙ set_at (map f (take i xs)) (g (get_or xs i d)) (map g (drop (i + 1) xs)) (f (get_or xs i d)) i front_long
      ∙ sym (append_assoc (map f (take i xs)) (f (get_or xs i d) ∷ []) (map g (drop (i + 1) xs)))
      ∙ ap (λ (ys : List B). ys ++ map g (drop (i + 1) xs)) (sym (ap (map f) (take_more xs i d below) ∙ map-append f (take i xs) (get_or xs i d ∷ [])))

module _ {A B : Type 0} (f g : A → B) (xs : List A) (i : ℕ) (below : i < length xs) (counts : List B) (r : A) (half : counts ≡ map f (take i xs) ++ map g
    (drop i xs)) (read : r ≡ get_or xs i r) where
  -- what is read
  pub read_unwritten : (x : B) → x ≡ get_or counts i x → x ≡ g r
  read_unwritten x x_read = x_read ∙ ap (λ (ys : List B). get_or ys i x) half ∙ unwritten f g xs i r below x ∙ ap g (sym read)

  -- what is written in its place
  pub write_more : (y : B) → y ≡ f r → set counts i y ≡ map f (take (i + 1) xs) ++ map g (drop (i + 1) xs)
  write_more y y_is =
      ap (λ (ys : List B). set ys i y) half ∙ ap (λ (z : B). set (map f (take i xs) ++ map g (drop i xs)) i z) (y_is ∙ ap f read) ∙ written f g xs i r below

-- the counts of a rule with a row more
pub counted_row : (rows : List (List Value)) (rule : Rule) (n : ℕ) (row : List Value) (count : RuleCount) (answer : Option Bool) (b u : ℕ) → n < length rows
    → row ≡ get_or rows n []
    → count ≡ rule_count (take n rows) rule → answer ≡ answer_at row rule → b ≡ count.broken + cond (is_false answer) 1 0
    → u ≡ count.untried + cond (is_none answer) 1 0
    → record { broken = b; untried = u } ≡ rule_count (take (n + 1) rows) rule
counted_row rows rule n row count answer b u below is was told b_is u_is =
    let told_there : answer ≡ answer_at (get_or rows n []) rule = told ∙ ap (λ (r : List Value). answer_at r rule) is in
    let broken_is : b ≡ count_by (is_broken rule) (take (n + 1) rows) =
    b_is ∙ ap (λ (a : Option Bool). count.broken + cond (is_false a) 1 0) told_there
    ∙ ap (λ (c : RuleCount). c.broken + cond (is_broken rule (get_or rows n [])) 1 0) was
    ∙ sym (sum_by_more (λ (r : List Value). cond (is_broken rule r) 1 0) rows n [] below) in
    let untried_is : u ≡ count_by (is_untried rule) (take (n + 1) rows) =
    u_is ∙ ap (λ (a : Option Bool). count.untried + cond (is_none a) 1 0) told_there
    ∙ ap (λ (c : RuleCount). c.untried + cond (is_untried rule (get_or rows n [])) 1 0) was
    ∙ sym (sum_by_more (λ (r : List Value). cond (is_untried rule r) 1 0) rows n [] below) in
    λ i. record { broken = broken_is i; untried = untried_is i }
