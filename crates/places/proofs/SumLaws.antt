-- Laws of `sum` and `every` over functions that agree, or differ at one number. Assumes nothing.
use Prim.Native.Nat.{ℕ, zero, suc, ◌+◌, ◌≤◌, ◌<◌}
use mathlib.Core.Path.{◌≡◌, refl, sym, ap, ◌∙◌}
use mathlib.Core.Bool.{Bool, true, false, cond}
use native.Mathlib.Nat.{not-suc-le-zero}
use native.Mathlib.Omega.{arith}
use lib.Dec.{eqb}
use borrow.Author.Tests.{eqb-true, eqb-false, eq-eqb, ne_eqb}
use Rattle.codec.specs.Codec.{both}
use Rattle.codec.proofs.Good.{both_true}
use Rattle.profile.specs.Counting.{every, sum}
use Rattle.profile.proofs.CountLaws.{sum_more}

pub every_all : (n : ℕ) (test : ℕ → Bool) → ((i : ℕ) → i < n → test i ≡ true) → every n test ≡ true
unfolding every
every_all zero test h = refl
every_all (suc n) test h = both_true (every n test) (test n) (every_all n test (λ i l. h i (omega arith))) (h n (omega arith))

pub every_same : (n : ℕ) (s t : ℕ → Bool) → ((i : ℕ) → i < n → s i ≡ t i) → every n s ≡ every n t
unfolding every
every_same zero s t e = refl
every_same (suc n) s t e = ap (λ (b : Bool). both b (s n)) (every_same n s t (λ i h. e i (omega arith))) ∙ ap (λ (b : Bool). both (every n t) b) (e n (omega arith))

-- ---- a loop that adds up

pub sum_turn : (f : ℕ → ℕ) (i total part : ℕ) → total ≡ sum i f → part ≡ f i → total + part ≡ sum (i + 1) f
sum_turn f i total part e d = rw (e, d) (sum_more i f)

-- ---- sums of two functions

pub sum_same : (n : ℕ) (f g : ℕ → ℕ) → ((q : ℕ) → q < n → g q ≡ f q) → sum n g ≡ sum n f
unfolding sum
sum_same zero f g e = refl
sum_same (suc n) f g e = let h : sum n g ≡ sum n f = sum_same n f g (λ q l. e q (omega arith)) in omega (arith, e n (omega arith))

-- two functions that differ at p alone
pub sum_bump : (n p : ℕ) (f g : ℕ → ℕ) → p < n → ((q : ℕ) → (q ≡ p → ⊥) → g q ≡ f q) → sum n g + f p ≡ sum n f + g p
unfolding sum
sum_bump zero p f g l e = absurd (not-suc-le-zero l)
sum_bump (suc n) p f g l e = go (eqb p n) refl (λ m. sum_bump n p f g m e)
  where
    go : (b : Bool) → eqb p n ≡ b → (p < n → sum n g + f p ≡ sum n f + g p) → sum n g + g n + f p ≡ sum n f + f n + g p
    go true t ih =
        let z : p ≡ n = eqb-true p n t in
        let h : sum n g ≡ sum n f = sum_same n f g (λ q m. e q (λ k. omega arith)) in
        omega (arith, ap f z, ap g z)
    go false t ih =
        let z : p ≡ n → ⊥ = eqb-false p n t in
        let m : p < n = omega arith in
        omega (arith, ih m, e n (λ k. z (sym k)))

pub sum_zero : (n : ℕ) (f : ℕ → ℕ) → ((q : ℕ) → f q ≡ 0) → sum n f ≡ 0
unfolding sum
sum_zero zero f e = refl
sum_zero (suc n) f e = omega (arith, sum_zero n f e, e n)

pub sum_add : (n : ℕ) (f g : ℕ → ℕ) → sum n (λ (q : ℕ). f q + g q) ≡ sum n f + sum n g
unfolding sum
sum_add zero f g = refl
sum_add (suc n) f g = omega (arith, sum_add n f g)

-- a sum without the part of p
pub sum_without : (n p : ℕ) (f : ℕ → ℕ) → p < n → sum n (λ (q : ℕ). cond (eqb q p) 0 (f q)) + f p ≡ sum n f
sum_without n p f l =
    let e = sum_bump n p f (λ (q : ℕ). cond (eqb q p) 0 (f q)) l (λ q h. rw (ne_eqb q p h)) in
    let z : cond (eqb p p) 0 (f p) ≡ 0 = rw (eq-eqb p p refl) in
    omega (arith, e, z)

-- of ones and zeros
pub sum_few : (n : ℕ) (f : ℕ → ℕ) → ((q : ℕ) → f q ≤ 1) → sum n f ≤ n
unfolding sum
sum_few zero f h = omega arith
sum_few (suc n) f h = omega (arith, sum_few n f h, h n)

pub sum_full : (n : ℕ) (f : ℕ → ℕ) → ((q : ℕ) → q < n → f q ≡ 1) → sum n f ≡ n
unfolding sum
sum_full zero f h = refl
sum_full (suc n) f h = omega (arith, sum_full n f (λ q l. h q (omega arith)), h n (omega arith))

-- a sum of sums, taken the other way round
pub sum_swap : (n m : ℕ) (f : ℕ → ℕ → ℕ) → sum n (λ (q : ℕ). sum m (λ (i : ℕ). f q i)) ≡ sum m (λ (i : ℕ). sum n (λ (q : ℕ). f q i))
unfolding sum
sum_swap n zero f = sum_zero n (λ (q : ℕ). 0) (λ q. refl)
sum_swap n (suc m) f = omega (arith, sum_add n (λ (q : ℕ). sum m (λ (i : ℕ). f q i)) (λ (q : ℕ). f q m), sum_swap n m f)
