-- Runs of bytes that pass a test at the front of a text.
use Rattle.std.proofs.Common.{◌≡◌, refl, ℕ, zero, suc, ◌+◌, ◌≤◌, min, Bool, true, false, cond, List, [], ◌∷◌, length, take, arith}
use Rattle.std.proofs.lemmas.Bool.{cond_both}
use Rattle.std.proofs.lemmas.List.Sums.{prefix_len-le-length}
use Rattle.std.specs.List.{list_all, prefix_len}

-- where few of the bytes are looked at
take_step : (p : ℕ → Bool) (n b : ℕ) (bs : List ℕ) (t : Bool) → prefix_len p (take n bs) ≡ min n (prefix_len p bs)
    → cond t (1 + prefix_len p (take n bs)) 0 ≡ min (suc n) (cond t (1 + prefix_len p bs) 0)
take_step p n b bs true same = omega arith
take_step p n b bs false same = omega arith

pub prefix_len_take : (p : ℕ → Bool) (n : ℕ) (bs : List ℕ) → prefix_len p (take n bs) ≡ min n (prefix_len p bs)
prefix_len_take p zero bs = omega arith
prefix_len_take p (suc n) [] = omega arith
prefix_len_take p (suc n) (b ∷ bs) = take_step p n b bs (p b) (prefix_len_take p n bs)

-- each byte of a run passes, and of its front
pub run_passes : (p : ℕ → Bool) (n : ℕ) (bs : List ℕ) → n ≤ prefix_len p bs → list_all p (take n bs) ≡ true
run_passes p zero bs h = refl
run_passes p (suc n) [] h = refl
run_passes p (suc n) (b ∷ bs) h = cond_both (p b) _ _ (λ m. suc n ≤ m → list_all p (take (suc n) (b ∷ bs)) ≡ true)
    (λ passes more. rw passes (run_passes p n bs (omega arith))) (λ fails none. absurd (omega arith)) h

-- a whole run, and the run of at most 32 bytes
pub prefix_passes : (p : ℕ → Bool) (bs : List ℕ) → list_all p (take (prefix_len p bs) bs) ≡ true
prefix_passes p bs = run_passes p (prefix_len p bs) bs (omega arith)

pub prefix_len_few : (p : ℕ → Bool) (most few n : ℕ) (bs : List ℕ) → few ≡ min (length bs) most → n ≡ prefix_len p (take few bs)
    → (n ≡ min most (prefix_len p bs)) × (n ≤ length bs)
prefix_len_few p most few n bs fewer run =
    let short = prefix_len-le-length p bs in
    let taken = prefix_len_take p few bs in
    (omega arith, omega arith)
