-- A test of each of the first n numbers, a sum over them, the lowest that passes, and a test as a number: of range values, posts, places,
-- outcomes.
use Rattle.std.specs.Prelude.{ℕ, zero, suc, ◌+◌, Bool, true, cond}
use Rattle.codec.specs.Codec.{both}

unfoldable pub every : ℕ → (ℕ → Bool) → Bool
every zero test = true
every (suc n) test = both (every n test) (test n)

unfoldable pub sum : ℕ → (ℕ → ℕ) → ℕ
sum zero f = 0
sum (suc n) f = sum n f + f n

-- the lowest of the n numbers from i on that passes a test; the number after them where none does
unfoldable pub lowest_from : ℕ → ℕ → (ℕ → Bool) → ℕ
lowest_from zero i test = i
lowest_from (suc n) i test = cond (test i) i (lowest_from n (suc i) test)

-- 1 if it holds, else 0: what a sum counts, and what stands in a mask
abbrev pub one : Bool → ℕ
one b = cond b 1 0
