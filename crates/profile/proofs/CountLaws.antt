-- Laws of `every`, `sum` and `lowest_from`, as a loop going up takes them, and as what a chain over a list finds. Assumes nothing.
use Prim.Native.Nat.{ℕ, zero, suc, ◌+◌, ◌<◌, ◌≤◌}
use mathlib.Core.Path.{◌≡◌, refl, sym, ◌∙◌, subst, ap}
use mathlib.Core.List.{List, [], ◌∷◌}
use lib.ListN.{length, get_or, take}
use Rattle.std.proofs.Common.{Some, None, nat_lt, add-zero, zero-add}
use Rattle.std.specs.Option.{unwrap_or}
use Rattle.std.specs.List.{list_all, sum_by, position, position_or_len}
use Rattle.std.proofs.lemmas.List.{take_all}
use Rattle.std.proofs.lemmas.List.Folds.{list_all_more}
use Rattle.std.proofs.lemmas.List.Sums.{sum_by_more, prefix_len-le-length}
use borrow.Author.Tests.{ltb-false}
use mathlib.Core.Bool.{Bool, true, false, cond, not, ◌&&◌}
use mathlib.Core.Logic.{⊎_elim}
use native.Mathlib.Nat.{eq-or-lt_of_le, le_of_suc-le-suc}
use native.Mathlib.Numerals.{add-one, unary_clauses}
use native.Mathlib.Omega.{arith}
use Rattle.codec.specs.Codec.{both}
use Rattle.codec.proofs.Good.{both_true, both_left, both_right, both_none}
use Rattle.profile.specs.Counting.{every, sum, lowest_from}

-- ---- every, as a loop going up takes it

pub every_none : (test : ℕ → Bool) → every 0 test ≡ true
unfolding every
every_none test = refl

pub every_more : (n : ℕ) (test : ℕ → Bool) → every n test ≡ true → test n ≡ true → every (n + 1) test ≡ true
unfolding every
every_more n test e h = rw add-one (both_true (every n test) (test n) e h)

pub every_not : (n : ℕ) (test : ℕ → Bool) (i : ℕ) → i < n → test i ≡ false → every n test ≡ false
unfolding every both
every_not zero test i h e = absurd (omega arith)
every_not (suc n) test i h e =
    ⊎_elim
    (λ d. rw (subst (λ (k : ℕ). test k ≡ false) d e) (both_none (every n test)))
    (λ k. rw (every_not n test i k e))
    (eq-or-lt_of_le (le_of_suc-le-suc h))

-- what holds of every number below n holds of one
pub every_at : (n : ℕ) (test : ℕ → Bool) → every n test ≡ true → (i : ℕ) → i < n → test i ≡ true
unfolding every
every_at zero test e i h = absurd (omega arith)
every_at (suc n) test e i h =
    ⊎_elim
    (λ d. subst (λ (k : ℕ). test k ≡ true) (sym d) (both_right (every n test) (test n) e))
    (λ k. every_at n test (both_left (every n test) (test n) e) i k)
    (eq-or-lt_of_le (le_of_suc-le-suc h))

-- ---- sum

pub sum_none : (f : ℕ → ℕ) → sum 0 f ≡ 0
unfolding sum
sum_none f = refl

pub sum_more : (n : ℕ) (f : ℕ → ℕ) → sum n f + f n ≡ sum (n + 1) f
unfolding sum
sum_more n f = rw add-one

-- the loop's end
pub every_end : (n i : ℕ) (test : ℕ → Bool) → every i test ≡ true → i ≡ n → true ≡ every n test
every_end n i test e d = sym (subst (λ (k : ℕ). every k test ≡ true) d e)

-- ---- the lowest that passes

-- the number that it gives passes, where it is one of them
pub lowest_passes : (n i : ℕ) (test : ℕ → Bool) → lowest_from n i test < i + n → test (lowest_from n i test) ≡ true
unfolding lowest_from
lowest_passes zero i test h = absurd (omega arith)
lowest_passes (suc n) i test h = go (test i) refl h (λ k. lowest_passes n (suc i) test k)
  where
    go : (b : Bool) → test i ≡ b → cond b i (lowest_from n (suc i) test) < i + suc n → (lowest_from n (suc i) test < suc i + n → test (lowest_from n (suc i) test) ≡ true)
        → test (cond b i (lowest_from n (suc i) test)) ≡ true
    go true e k ih = e
    go false e k ih = ih (omega arith)

-- ---- what a chain finds in a list, and in its first n elements, said of their numbers

and_both : (x y : Bool) → (x && y) ≡ both x y
unfolding both
and_both true y = refl
and_both false y = refl

module _ {X : Type 0} (xs : List X) (d : X) where
  pub every_taken : (test : X → Bool) (n : ℕ) → n ≤ length xs → list_all test (take n xs) ≡ every n (λ k. test (get_or xs k d))
  unfolding every
  every_taken test zero h = refl
  every_taken test (suc n) h =
      rw (← add-one n, list_all_more test xs n d (omega arith), every_taken test n (omega arith)) (and_both _ _)

  pub sum_taken : (f : X → ℕ) (n : ℕ) → n ≤ length xs → sum_by f (take n xs) ≡ sum n (λ k. f (get_or xs k d))
  unfolding sum
  sum_taken f zero h = refl
  sum_taken f (suc n) h = rw (← add-one n, sum_by_more f xs n d (omega arith), sum_taken f n (omega arith))

  pub every_listed : (test : X → Bool) (n : ℕ) → n ≡ length xs → list_all test xs ≡ every n (λ k. test (get_or xs k d))
  every_listed test n e = ap (λ (ys : List X). list_all test ys) (sym (take_all n xs (omega arith))) ∙ every_taken test n (omega arith)

  pub sum_listed : (f : X → ℕ) (n : ℕ) → n ≡ length xs → sum_by f xs ≡ sum n (λ k. f (get_or xs k d))
  sum_listed f n e = ap (λ (ys : List X). sum_by f ys) (sym (take_all n xs (omega arith))) ∙ sum_taken f n (omega arith)

-- the lowest number whose element passes, counted from i; the number after them where none does
lowest_position : {X : Type 0} (test : X → Bool) (d : X) (xs : List X) (i : ℕ) (at : ℕ → Bool)
    → ((k : ℕ) → k < length xs → at (i + k) ≡ test (get_or xs k d)) → lowest_from (length xs) i at ≡ i + position_or_len test xs
unfolding lowest_from
lowest_position test d [] i at h = sym (add-zero i)
lowest_position test d (x ∷ xs) i at h =
    let here : at i ≡ test x = (simp unary_clauses at (h 0 (omega arith))) in
    let on = lowest_position test d xs (suc i) at (λ k l. subst (λ (j : ℕ). at j ≡ test (get_or xs k d)) (omega arith) (h (suc k) (omega arith))) in
    go (test x) here on
  where
    go : (b : Bool) → at i ≡ b → lowest_from (length xs) (suc i) at ≡ suc i + position_or_len test xs
        → cond (at i) i (lowest_from (length xs) (suc i) at) ≡ i + cond (not b) (1 + position_or_len test xs) 0
    go true e o = rw e (sym (add-zero i))
    go false e o = rw (e, o) (omega arith)

-- the lowest of all of them
pub lowest_listed : {X : Type 0} (test : X → Bool) (d : X) (xs : List X) (n : ℕ) → n ≡ length xs → unwrap_or (position test xs) n ≡ lowest_from n 0 (λ k. test (get_or xs k d))
lowest_listed test d xs n e =
    go (nat_lt (position_or_len test xs) (length xs)) refl ∙ sym (rw e (lowest_position test d xs 0 (λ k. test (get_or xs k d)) (λ k l. rw zero-add) ∙ zero-add _))
  where
    go : (b : Bool) → nat_lt (position_or_len test xs) (length xs) ≡ b → unwrap_or (cond b (Some (position_or_len test xs)) None) n ≡ position_or_len test xs
    go true q = refl
    go false q =
        let most = prefix_len-le-length (λ x. not (test x)) xs in
        omega (arith, ltb-false)
