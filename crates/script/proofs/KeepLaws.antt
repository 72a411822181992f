-- A line of any length: no line of over 1,051 bytes is understood, so what is kept of a line asks for what the whole line asks for.
--     long-unknown   a line of over 1,051 bytes is of another shape
--     kept-none      nothing is kept of no line
--     kept_more      what is kept after one more piece is kept of the line with that piece
--     kept-asks      what is kept of a line asks for what the line asks for
-- Assumes nothing.
use Prim.Native.Nat.{ℕ, zero, suc, ◌+◌, ◌-◌, ◌*◌, ◌≤◌, ◌<◌}
use mathlib.Core.Path.{◌≡◌, refl, sym, ap, ◌∙◌}
use mathlib.Core.Bool.{Bool, true, false, cond}
use mathlib.Core.List.{List, [], ◌∷◌, ◌++◌}
use mathlib.Core.Logic.{◌⊎◌, inl, inr, ⊎_elim}
use native.Mathlib.Omega.{arith}
use lib.Dec.{eqb, leb, ltb}
use lib.ListN.{length, get_or, take, drop, set, length-drop}
use lib.Seq.{take_all, length-take-le}
use borrow.Author.Tests.{ne_eqb, lt-leb, ltb-true}
use Rattle.bits.proofs.SetLaws.{lt_or}
use Rattle.std.specs.Prelude.{Option, Some, None}
use Rattle.lines.specs.Shape.{is_digit, hex_of, no_hex, hex_at}
use Rattle.lines.proofs.ShapeLaws.{hex_long}
use Rattle.script.specs.Shape.{number_if, digits_then, number_at, no_row, no_numbers, after_number, numbers_from, numbers_at}
use Rattle.script.specs.Profiles.{pairs_in, is_profile, is_pairs}
use Rattle.script.specs.Lines.{when, record_task, set_up_task, reject_task, cancel_task, out_task, place_task, unplace_task, second_task, cause_task, plain_line, post_line, profile_line, shares_line, task_of, line_of}
use Rattle.blocks.specs.Texts.{no_text, text_of, keep_of}
use Rattle.script.specs.declared.Task.TheVariants as task
use Rattle.script.specs.declared.shape.Number.{Number}
use Rattle.script.specs.declared.shape.Numbers.{Numbers}
use Rattle.blocks.proofs.TextLaws.{keep_text, kept_first}

-- ---- a number ends within ten bytes

-- if there is one, it ends there at the latest
abbrev Near : Option Number → ℕ → Type 0
Near None m = Unit
Near (Some d) m = d.next ≤ m

near_on : (o : Option Number) (m n : ℕ) → m ≤ n → Near o m → Near o n
near_on None m n h p = tt
near_on (Some d) m n h p = omega (arith, p)

number_next : (seen value at : ℕ) → Near (number_if seen value at) at
unfolding number_if
number_next seen value at = go (leb 1 seen) (leb value 4294967295)
  where
    go : (a b : Bool) → Near (cond a (cond b (Some (record { value = value; next = at })) None) None) at
    go true true = omega arith
    go true false = tt
    go false b = tt

digits_next : (at seen value : ℕ) (l : List ℕ) → seen ≤ 10 → Near (digits_then at seen value l) (at + (10 - seen))
unfolding digits_then
digits_next at seen value [] h = near_on _ _ _ (omega arith) (number_next seen value at)
digits_next at seen value (b ∷ rest) h =
    go (is_digit b) (ltb seen 10) refl (λ e. digits_next (suc at) (suc seen) (value * 10 + hex_of b) rest (ltb-true seen 10 e))
  where
    go : (d f : Bool) → ltb seen 10 ≡ f → (ltb seen 10 ≡ true → Near (digits_then (suc at) (suc seen) (value * 10 + hex_of b) rest) (suc at + (10 - suc seen)))
        → Near (cond d (cond f (digits_then (suc at) (suc seen) (value * 10 + hex_of b) rest) None) (number_if seen value at)) (at + (10 - seen))
    go true true e k = near_on (digits_then (suc at) (suc seen) (value * 10 + hex_of b) rest) _ _ (omega (arith, ltb-true seen 10 e)) (k e)
    go true false e k = tt
    go false f e k = near_on _ _ _ (omega arith) (number_next seen value at)

next_near : (l : List ℕ) (at : ℕ) → Near (number_at l at) (at + 10)
unfolding number_at
next_near l at = digits_next at 0 0 (drop at l) (omega arith)

-- ---- of a long line there are no numbers, or as many as may come and the line goes on

not_both : ◌≡◌ {A = Bool} true false → ⊥
not_both x = let z : ◌≡◌ {A = ℕ} 0 1 = cc in omega arith

abbrev NoneOrAll : ℕ → Numbers → Type 0
NoneOrAll n r = (r.count ≡ 0) ⊎ ((r.count ≡ n) × (0 < r.next))

numbers_long : (k n : ℕ) (row l : List ℕ) (at : ℕ) → 0 < at → at + 11 * k ≤ length l → NoneOrAll (n + k) (numbers_from k n row l at)
unfolding numbers_from no_numbers
numbers_long zero n row l at p h = inr (omega arith, p)
numbers_long (suc k) n row l at p h = go (number_at l at) (next_near l at) (λ more from q i. numbers_long k (n + 1) more l from q i)
  where
    step : (d : Number) (e s : Bool) → e ≡ false → NoneOrAll (n + 1 + k) (numbers_from k (n + 1) (set row n d.value) l (d.next + 1))
        → NoneOrAll (n + suc k)
        (cond e (record { count = n + 1; next = 0; number = set row n d.value })
        (cond s (numbers_from k (n + 1) (set row n d.value) l (d.next + 1)) no_numbers))
    step d true s z r = absurd (not_both z)
    step d false true z r = ⊎_elim (λ a. inl a) (λ a. inr (omega arith, a.1)) r
    step d false false z r = inl refl

    go : (o : Option Number) → Near o (at + 10)
        → ((more : List ℕ) (from : ℕ) → 0 < from → from + 11 * k ≤ length l → NoneOrAll (n + 1 + k) (numbers_from k (n + 1) more l from))
        → NoneOrAll (n + suc k) (after_number o n row l (λ d. numbers_from k (n + 1) (set row n d.value) l (d.next + 1)))
    go None near again = inl refl
    go (Some d) near again =
        step d (leb (length l) d.next) (eqb (get_or l d.next 0) 32) (lt-leb (length l) d.next (omega (arith, near)))
        (again (set row n d.value) (d.next + 1) (omega arith) (omega (arith, near)))

numbers_near : (k n : ℕ) (row l : List ℕ) (at : ℕ) → (numbers_from k n row l at).next ≤ at + 11 * k
unfolding numbers_from no_numbers
numbers_near zero n row l at = omega arith
numbers_near (suc k) n row l at = go (number_at l at) (next_near l at) (λ more from. numbers_near k (n + 1) more l from)
  where
    step : (d : Number) (e s : Bool) → d.next ≤ at + 10 → (numbers_from k (n + 1) (set row n d.value) l (d.next + 1)).next ≤ d.next + 1 + 11 * k
        → (cond e (record { count = n + 1; next = 0; number = set row n d.value })
        (cond s (numbers_from k (n + 1) (set row n d.value) l (d.next + 1)) no_numbers)).next
        ≤ at + 11 * suc k
    step d true s z r = omega arith
    step d false true z r = omega arith
    step d false false z r = omega arith

    go : (o : Option Number) → Near o (at + 10)
        → ((more : List ℕ) (from : ℕ) → (numbers_from k (n + 1) more l from).next ≤ from + 11 * k)
        → (after_number o n row l (λ d. numbers_from k (n + 1) (set row n d.value) l (d.next + 1))).next ≤ at + 11 * suc k
    go None near again = omega arith
    go (Some d) near again = step d (leb (length l) d.next) (eqb (get_or l d.next 0) 32) near (again (set row n d.value) (d.next + 1))

-- ---- so no line of over 1,051 bytes is of a shape

cond_unknown : (b : Bool) → cond b task.Unknown task.Unknown ≡ task.Unknown
cond_unknown true = refl
cond_unknown false = refl

line_unknown : (b : Bool) → cond b (plain_line task.Unknown) (plain_line task.Unknown) ≡ plain_line task.Unknown
line_unknown true = refl
line_unknown false = refl

-- 40 numbers are no line's, and neither are none
not_counted : (n : Numbers) (k : ℕ) → NoneOrAll 40 n → 0 < k → k < 40 → eqb n.count k ≡ false
not_counted n k s p q = ne_eqb n.count k (no s)
  where
    no : NoneOrAll 40 n → n.count ≡ k → ⊥
    no (inl a) e = omega arith
    no (inr (a, b)) e = omega arith

set_up_none : (n : Numbers) → NoneOrAll 40 n → set_up_task n ≡ task.Unknown
unfolding set_up_task
set_up_none n s = ⊎_elim (λ a. rw a) (λ a. rw a.0) s

reject_none : (n : Numbers) → NoneOrAll 40 n → reject_task n ≡ task.Unknown
unfolding reject_task
reject_none n s = rw (not_counted n 2 s (omega arith) (omega arith))

cancel_none : (n : Numbers) → NoneOrAll 40 n → cancel_task n ≡ task.Unknown
unfolding cancel_task
cancel_none n s = rw (not_counted n 1 s (omega arith) (omega arith))

record_none : (n : Numbers) → NoneOrAll 40 n → record_task n ≡ task.Unknown
unfolding record_task
record_none n s = rw (not_counted n 6 s (omega arith) (omega arith))

out_none : (n : Numbers) → NoneOrAll 40 n → out_task n ≡ task.Unknown
unfolding out_task
out_none n s = rw (not_counted n 1 s (omega arith) (omega arith))

place_none : (n : Numbers) → NoneOrAll 40 n → place_task n ≡ task.Unknown
unfolding place_task
place_none n s = rw (not_counted n 3 s (omega arith) (omega arith))

unplace_none : (n : Numbers) → NoneOrAll 40 n → unplace_task n ≡ task.Unknown
unfolding unplace_task
unplace_none n s = rw (not_counted n 1 s (omega arith) (omega arith))

second_none : (n : Numbers) → NoneOrAll 40 n → second_task n ≡ task.Unknown
unfolding second_task
second_none n s = rw (not_counted n 2 s (omega arith) (omega arith))

cause_none : (n : Numbers) → NoneOrAll 40 n → cause_task n ≡ task.Unknown
unfolding cause_task
cause_none n s = rw (not_counted n 2 s (omega arith) (omega arith))

module _ (l : List ℕ) (h : 1051 < length l) where
  -- from a position of up to 8 on
  counted : (at : ℕ) → 0 < at → at ≤ 8 → NoneOrAll 40 (numbers_at 40 l at)
  unfolding numbers_at
  counted at p q = numbers_long 40 0 no_row l at p (omega arith)

  no_dump : when (eqb (length l) 4) task.Dump ≡ task.Unknown
  no_dump = rw (ne_eqb (length l) 4 other)
    where
      other : length l ≡ 4 → ⊥
      other e = omega arith

  task_long : task_of l ≡ task.Unknown
  unfolding task_of
  task_long =
      rw (
        set_up_none (numbers_at 40 l 6) (counted 6 (omega arith) (omega arith)),
        reject_none (numbers_at 40 l 7) (counted 7 (omega arith) (omega arith)),
        cancel_none (numbers_at 40 l 7) (counted 7 (omega arith) (omega arith)),
        record_none (numbers_at 40 l 7) (counted 7 (omega arith) (omega arith)),
        out_none (numbers_at 40 l 4) (counted 4 (omega arith) (omega arith)),
        place_none (numbers_at 40 l 6) (counted 6 (omega arith) (omega arith)),
        unplace_none (numbers_at 40 l 8) (counted 8 (omega arith) (omega arith)),
        second_none (numbers_at 40 l 7) (counted 7 (omega arith) (omega arith)),
        cause_none (numbers_at 40 l 6) (counted 6 (omega arith) (omega arith)),
        no_dump,
      )
      (simp cond_unknown)

  profile_long : profile_line (numbers_at 40 l 8) ≡ plain_line task.Unknown
  unfolding profile_line pairs_in is_profile
  profile_long = ⊎_elim (λ a. rw a) (λ a. rw a.0) (counted 8 (omega arith) (omega arith))

  shares_long : shares_line (numbers_at 40 l 7) ≡ plain_line task.Unknown
  unfolding shares_line is_pairs
  shares_long = ⊎_elim (λ a. rw a) (λ a. rw a.0) (counted 7 (omega arith) (omega arith))

  post_long : post_line (numbers_at 2 l 5) l ≡ plain_line task.Unknown
  unfolding post_line numbers_at hex_at no_hex
  post_long = ⊎_elim (λ a. rw a) (λ a. two a.0 a.1) (numbers_long 2 0 no_row l 5 (omega arith) (omega arith))
    where
      long : 2 * 512 < length (drop (numbers_from 2 0 no_row l 5).next l)
      long = rw length-drop (omega (arith, numbers_near 2 0 no_row l 5))

      two : (numbers_from 2 0 no_row l 5).count ≡ 2 → 0 < (numbers_from 2 0 no_row l 5).next → post_line (numbers_from 2 0 no_row l 5) l ≡ plain_line task.Unknown
      two e p = rw (e, ne_eqb (numbers_from 2 0 no_row l 5).next 0 (λ z. omega arith), hex_long 512 0 _ (drop (numbers_from 2 0 no_row l 5).next l) long)

  pub long_unknown : line_of l ≡ plain_line task.Unknown
  unfolding line_of
  long_unknown = rw (post_long, profile_long, shares_long, task_long) (simp line_unknown)

-- ---- what is kept of a line that came in pieces

line_kept : (l : List ℕ) → line_of (take 1152 l) ≡ line_of l
line_kept l = ⊎_elim long short (lt_or 1152 (length l))
  where
    long : 1152 < length l → line_of (take 1152 l) ≡ line_of l
    long h = long_unknown (take 1152 l) (rw (length-take-le 1152 l (omega arith)) (omega arith)) ∙ sym (long_unknown l (omega arith))

    short : length l ≤ 1152 → line_of (take 1152 l) ≡ line_of l
    short h = rw (take_all 1152 l h)

pub kept_none : no_text ≡ text_of []
unfolding no_text text_of
kept_none = refl

pub kept_more : (p piece : List ℕ) → keep_of (text_of p) piece ≡ text_of (p ++ piece)
kept_more p piece = keep_text p piece

pub kept_asks : (p : List ℕ) → line_of (take (text_of p).len (text_of p).bytes) ≡ line_of p
kept_asks p = ap (λ (l : List ℕ). line_of l) (kept_first p) ∙ line_kept p
