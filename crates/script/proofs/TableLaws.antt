-- Tables that a loop fills from the first element on. Assumes nothing.
use Prim.Native.Nat.{ℕ, zero, suc, ◌+◌, ◌*◌, ◌<◌}
use mathlib.Core.Path.{◌≡◌}
use mathlib.Core.List.{List, [], ◌∷◌, ◌++◌}
use native.Mathlib.Numerals.{add-one}
use native.Mathlib.Omega.{arith}
use lib.ListN.{length, take, set, get_or}
use lib.Seq.{take-suc-set}
use Rattle.profile.specs.declared.Share.{Share}
use Rattle.script.specs.Profiles.{share_of, share_row}

-- the first n of what f gives, in order
unfoldable pub firsts : {A : Type 0} → (ℕ → A) → ℕ → List A
firsts f zero = []
firsts f (suc n) = firsts f n ++ (f n ∷ [])

pub fill_turn : {A : Type 0} (f : ℕ → A) (xs : List A) (i : ℕ) (a : A) → i < length xs → take i xs ≡ firsts f i → a ≡ f i → take (i + 1) (set xs i a) ≡ firsts f (i + 1)
unfolding firsts
fill_turn f xs i a h e q = rw (add-one, take-suc-set xs i a h, e, q)

-- a row's pair, where its two numbers stand
share_at : (row : List ℕ) {a b c d : ℕ} → a ≡ b → c ≡ d → share_of (get_or row a 0) (get_or row c 0) ≡ share_of (get_or row b 0) (get_or row d 0)
share_at row e f = cc

eight : {a0 a1 a2 a3 a4 a5 a6 a7 b0 b1 b2 b3 b4 b5 b6 b7 : Share} → a0 ≡ b0 → a1 ≡ b1 → a2 ≡ b2 → a3 ≡ b3 → a4 ≡ b4 → a5 ≡ b5 → a6 ≡ b6 → a7 ≡ b7
    → a0 ∷ a1 ∷ a2 ∷ a3 ∷ a4 ∷ a5 ∷ a6 ∷ a7 ∷ [] ≡ b0 ∷ b1 ∷ b2 ∷ b3 ∷ b4 ∷ b5 ∷ b6 ∷ b7 ∷ []
eight e0 e1 e2 e3 e4 e5 e6 e7 = cc

pub pairs_same : (row : List ℕ) (at : ℕ) → firsts (λ k. share_of (get_or row (at + 2 * k) 0) (get_or row (at + 2 * k + 1) 0)) 8 ≡ share_row row at
unfolding firsts share_row
pairs_same row at =
    eight
    (share_at row (omega arith) (omega arith))
    (share_at row (omega arith) (omega arith))
    (share_at row (omega arith) (omega arith))
    (share_at row (omega arith) (omega arith))
    (share_at row (omega arith) (omega arith))
    (share_at row (omega arith) (omega arith))
    (share_at row (omega arith) (omega arith))
    (share_at row (omega arith) (omega arith))
