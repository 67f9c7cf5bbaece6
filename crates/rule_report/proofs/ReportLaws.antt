-- What is left to print once the lines or the verdicts are at their end.
use Rattle.std.proofs.Common.{◌≡◌, ◌∙◌, refl, sym, ap, ℕ, ◌<◌, ◌≤◌, ◌⊎◌, inl, inr, List, [], ◌∷◌, ◌++◌, drop, length, min, arith}
use Rattle.std.proofs.lemmas.Bool.{cases_lt}
use Rattle.std.proofs.lemmas.List.{append-nil, drop_all}
use Rattle.edit_model.specs.declared.field.Field.{Field}
use Rattle.edit_line.specs.Lines.{LineParts}
use Rattle.redundancy.specs.declared.verdict.Verdict.{Verdict}
use Rattle.rule_report.specs.Reports.{reports_from}

-- no line, or no verdict
none-left : (fields : List Field) (number : ℕ) (lines : List LineParts) → reports_from fields number lines [] ≡ []
none-left fields number [] = refl
none-left fields number (line ∷ lines) = refl

pub texts-end : (fields : List Field) (number place : ℕ) (lines : List LineParts) (verdicts : List Verdict) (texts all : List (List ℕ))
    → min (length lines) (length verdicts) ≤ place
    → texts ++ reports_from fields number (drop place lines) (drop place verdicts) ≡ all → texts ≡ all
texts-end fields number place lines verdicts texts all past rest = sym (append-nil texts) ∙ ap (λ (ts : List (List ℕ)). texts ++ ts) (sym left) ∙ rest
  where
    left : reports_from fields number (drop place lines) (drop place verdicts) ≡ []
    left = by (cases_lt place (length lines))
      where
        by : (place < length lines) ⊎ (length lines ≤ place) → reports_from fields number (drop place lines) (drop place verdicts) ≡ []
        by (inl below) = ap (λ (vs : List Verdict). reports_from fields number (drop place lines) vs) (drop_all place verdicts (omega (arith, past, below)))
            ∙ none-left fields number (drop place lines)
        by (inr past_lines) = ap (λ (ls : List LineParts). reports_from fields number ls (drop place verdicts)) (drop_all place lines past_lines)
