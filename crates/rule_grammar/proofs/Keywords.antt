-- The nine keywords.
use Rattle.rule_grammar.specs.declared.token.Keyword.{Keyword}
use Rattle.rule_grammar.specs.declared.token.Keyword.TheVariants as keyword

-- what holds of each of the nine holds of every keyword
pub each_keyword : (P : Keyword → Type 0) → P keyword.Number → P keyword.Code → P keyword.Weight → P keyword.Scale → P keyword.In → P keyword.Not → P keyword.If
    → P keyword.And → P keyword.Then → (k : Keyword) → P k
each_keyword P number code weight scale in_list negated conditional conjunction conclusion k = elim k as (λ (k : Keyword). P k) [
  | keyword.Number ↦ number
  | keyword.Code ↦ code
  | keyword.Weight ↦ weight
  | keyword.Scale ↦ scale
  | keyword.In ↦ in_list
  | keyword.Not ↦ negated
  | keyword.If ↦ conditional
  | keyword.And ↦ conjunction
  | keyword.Then ↦ conclusion
]
