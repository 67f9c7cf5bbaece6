-- The first bytes of a line, where some first bytes of it were written.
use Rattle.std.proofs.Common.{◌≡◌, ℕ, ◌+◌, List, [], ◌∷◌, ◌++◌, take, length, ◌∙◌, arith, min}
use Rattle.std.proofs.lemmas.List.{take-append-le, take_min}
use Rattle.std.proofs.Math.Seq.{take-append-add}
use Rattle.edit_desk.specs.Printer.{line_of}

-- some first bytes of the text are first bytes of its line
pub of_text : (text : List ℕ) (kept : ℕ) → take (min kept (length text)) (line_of text) ≡ take kept text
of_text text kept = take-append-le (min kept (length text)) text (10 ∷ []) (omega arith) ∙ take_min kept text

-- the text and some first bytes of the line feed are first bytes of its line
pub of_line : (text : List ℕ) (kept : ℕ) → take (length text + kept) (line_of text) ≡ text ++ take kept (10 ∷ [])
of_line text kept = take-append-add text (10 ∷ []) kept
