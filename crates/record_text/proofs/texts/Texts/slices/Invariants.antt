use Rattle.std.proofs.Common.{Bor, List, ◌≡◌, map, take, ℕ}
use Rattle.record_text.proofs.texts.Texts.slices.Given as goal

abbrev pub invariant-loop-place : goal.invariant-loop-place
invariant-loop-place l = map (λ (text : Bor (List ℕ)). text.now) l.slices.items ≡ take l.place l.self
