-- Hex digits that are looked at all together, and the bytes that pairs of them make: that both are what `hex_at` says. Assumes nothing.
use Rattle.std.proofs.Common.{◌≡◌, ℕ, zero, suc, ◌+◌, ◌-◌, ◌*◌, ◌/◌, ◌%◌, ◌<◌, ◌≤◌, Bool, true, false, cond, ◌&&◌, ltb, List, [], ◌∷◌, length, get_or, drop, set, sym, refl, ap, ◌∙◌, ⊎_elim, add-zero, mod-eq_of_lt, add-one, arith, length-drop, length-set, get_or-drop, get_or-set_other, get_or-set_same, ltb-true}
use Rattle.bits.proofs.SetLaws.{eq_or}
use Rattle.codec.proofs.Good.{not_both}
use Rattle.lines.specs.Shape.{hex_of, is_hex, no_bytes, no_hex, hex_then, hex_at}
use Rattle.lines.specs.Parsing.{pair_of, pairs_in, hex_up_to}
use Rattle.lines.specs.declared.Hex.{Hex}
use Rattle.lines.proofs.ShapeLaws.{hex_end, hex_more}

-- ---- what is no hex

-- nothing but hex digits, an even number of them, with room for the bytes
record Digits (room : ℕ) (l : List ℕ) : Type 0 where
  pub even : length l % 2 ≡ 0
  pub few : length l ≤ 2 * room
  pub each : (i : ℕ) → i < length l → is_hex (get_or l i 0) ≡ true

digits_of : (room n : ℕ) (row l : List ℕ) → (hex_then room n row l).good ≡ true → Digits room l
unfolding hex_then no_hex
digits_of room n row [] e = record { even = refl; few = omega arith; each = λ i h. absurd (omega arith) }
digits_of room n row (x ∷ []) e = not_both e
digits_of zero n row (x ∷ y ∷ l) e = not_both e
digits_of (suc room) n row (x ∷ y ∷ l) e = go (is_hex x) (is_hex y) refl refl (λ g. digits_of room (n + 1) (set row n (hex_of x * 16 + hex_of y)) l g) e
  where
    pair : is_hex x ≡ true → is_hex y ≡ true → Digits room l → (i : ℕ) → i < length (x ∷ y ∷ l) → is_hex (get_or (x ∷ y ∷ l) i 0) ≡ true
    pair ex ey d zero h = ex
    pair ex ey d (suc zero) h = ey
    pair ex ey d (suc (suc i)) h = d.each i (omega arith)

    go : (a b : Bool) → is_hex x ≡ a → is_hex y ≡ b → ((hex_then room (n + 1) (set row n (hex_of x * 16 + hex_of y)) l).good ≡ true → Digits room l)
        → (cond a (cond b (hex_then room (n + 1) (set row n (hex_of x * 16 + hex_of y)) l) no_hex) no_hex).good ≡ true → Digits (suc room) (x ∷ y ∷ l)
    go true true ex ey k g =
        let d = k g in
        record { even = omega (arith, d.even); few = omega (arith, d.few); each = pair ex ey d }
    go true false ex ey k g = not_both g
    go false b ex ey k g = not_both g

none_of : (room n : ℕ) (row l : List ℕ) → (hex_then room n row l).good ≡ false → hex_then room n row l ≡ no_hex
unfolding hex_then
none_of room n row [] e = not_both (sym e)
none_of room n row (x ∷ []) e = refl
none_of zero n row (x ∷ y ∷ l) e = refl
none_of (suc room) n row (x ∷ y ∷ l) e = go (is_hex x) (is_hex y) (λ g. none_of room (n + 1) (set row n (hex_of x * 16 + hex_of y)) l g) e
  where
    go : (a b : Bool) → ((hex_then room (n + 1) (set row n (hex_of x * 16 + hex_of y)) l).good ≡ false → hex_then room (n + 1) (set row n (hex_of x * 16 + hex_of y)) l ≡ no_hex)
        → (cond a (cond b (hex_then room (n + 1) (set row n (hex_of x * 16 + hex_of y)) l) no_hex) no_hex).good ≡ false
        → cond a (cond b (hex_then room (n + 1) (set row n (hex_of x * 16 + hex_of y)) l) no_hex) no_hex ≡ no_hex
    go true true k g = k g
    go true false k g = refl
    go false b k g = refl

-- ---- the bytes of pairs

-- the byte of the pair k from a position on
abbrev byte_at : List ℕ → ℕ → ℕ → ℕ
byte_at l from k = pair_of (get_or l (from + 2 * k) 0) (get_or l (from + 2 * k + 1) 0)

pub length_pairs : (row l : List ℕ) (from n : ℕ) → length (pairs_in row l from n) ≡ length row
unfolding pairs_in
length_pairs row l from zero = refl
length_pairs row l from (suc n) = length-set (pairs_in row l from n) n _ ∙ length_pairs row l from n

-- one more, as a loop puts it
pub pairs_more : (row so_far l : List ℕ) (from k x y : ℕ) → so_far ≡ pairs_in row l from k → x ≡ hex_of (get_or l (from + 2 * k) 0) → y ≡ hex_of (get_or l (from + 2 * k + 1) 0)
    → set so_far k (x % 16 * 16 + y % 16) ≡ pairs_in row l from (k + 1)
unfolding pairs_in pair_of
pairs_more row so_far l from k x y e ex ey = rw (add-one, e, ex, ey)

-- whatever the row was
pub pair_at_lem : (row l : List ℕ) (from n k : ℕ) → k < n → n ≤ length row
    → get_or (pairs_in row l from n) k 0 ≡ byte_at l from k
unfolding pairs_in
pair_at_lem row l from zero k h m = absurd (omega arith)
pair_at_lem row l from (suc n) k h m = ⊎_elim last (before (λ b. pair_at_lem row l from n k b (omega arith))) (eq_or k n)
  where
    last : k ≡ n → get_or (set (pairs_in row l from n) n (byte_at l from n)) k 0 ≡ byte_at l from k
    last e = rw e (get_or-set_same (pairs_in row l from n) n _ 0 (omega (arith, m, length_pairs row l from n)))

    before : (k < n → get_or (pairs_in row l from n) k 0 ≡ byte_at l from k) → (k ≡ n → ⊥)
        → get_or (set (pairs_in row l from n) n (byte_at l from n)) k 0 ≡ byte_at l from k
    before d e = get_or-set_other (pairs_in row l from n) n k _ 0 e ∙ d (omega (arith, h, e))

-- ---- hex digits from a position to the end

and_left : (a b : Bool) → a && b ≡ true → a ≡ true
and_left true b e = refl
and_left false b e = e

and_right : (a b : Bool) → a && b ≡ true → b ≡ true
and_right true b e = e
and_right false b e = not_both e

hex_lt : (b : ℕ) → is_hex b ≡ true → hex_of b < 16
unfolding is_hex
hex_lt b e = ltb-true (hex_of b) 16 e

module _ (row l : List ℕ) (from : ℕ) (each : (i : ℕ) → i < length l - from → is_hex (get_or l (from + i) 0) ≡ true) where
  -- k pairs have been taken, and m are left
  pairs_then : (m k room : ℕ) → m ≤ room → length l ≡ from + 2 * (k + m)
      → hex_then room k (pairs_in row l from k) (drop (from + 2 * k) l) ≡ record { good = true; count = k + m; bytes = pairs_in row l from (k + m) }
  pairs_then zero k room h e = hex_end l (pairs_in row l from k) (from + 2 * k) room k (omega (arith, e)) ∙ rw add-zero
  pairs_then (suc m) k room h e =
      hex_more l (pairs_in row l from k) (from + 2 * k) room k (omega (arith, e)) (room - 1) (omega (arith, h)) _ _ refl refl first second
      ∙ ap (λ (r : List ℕ). hex_then (room - 1) (k + 1) r (drop (from + 2 * k + 2) l)) (whole _ _ first second ∙ pairs_more row _ l from k _ _ refl refl refl)
      ∙ ap (λ (i : ℕ). hex_then (room - 1) (k + 1) (pairs_in row l from (k + 1)) (drop i l)) next
      ∙ pairs_then m (k + 1) (room - 1) (omega (arith, h)) (omega (arith, e))
      ∙ ap (λ (n : ℕ). record { good = true; count = n; bytes = pairs_in row l from n }) sum
    where
      first : hex_of (get_or l (from + 2 * k) 0) < 16
      first = hex_lt _ (each (2 * k) (omega (arith, e)))

      second : hex_of (get_or l (from + 2 * k + 1) 0) < 16
      second = let i : from + (2 * k + 1) ≡ from + 2 * k + 1 = omega arith in hex_lt _ (ap (λ (j : ℕ). is_hex (get_or l j 0)) (sym i) ∙ each (2 * k + 1) (omega (arith, e)))

      whole : (x y : ℕ) → x < 16 → y < 16 → set (pairs_in row l from k) k (x * 16 + y) ≡ set (pairs_in row l from k) k (x % 16 * 16 + y % 16)
      whole x y a b = rw (mod-eq_of_lt a, mod-eq_of_lt b)

      next : from + 2 * k + 2 ≡ from + 2 * (k + 1)
      next = omega arith

      sum : k + 1 + m ≡ k + suc m
      sum = omega arith

module _ (l : List ℕ) (from : ℕ) where
  abbrev left : ℕ
  left = length l - from

  digits_at : (hex_at l from).good ≡ true → Digits 512 (drop from l)
  unfolding hex_at
  digits_at e = digits_of 512 0 no_bytes (drop from l) e

  each_at : Digits 512 (drop from l) → (i : ℕ) → i < left → is_hex (get_or l (from + i) 0) ≡ true
  each_at d i h = ap (λ (b : ℕ). is_hex b) (sym (get_or-drop from l i 0)) ∙ d.each i (omega (arith, h, length-drop from l))

  pub hex_room : (hex_at l from).good ≡ true → left ≤ 1024
  hex_room e = omega (arith, length-drop from l, (digits_at e).few)

  -- where nothing else stands there: half as many bytes
  all_pairs : from ≤ length l → left % 2 ≡ 0 → left ≤ 1024 → ((i : ℕ) → i < left → is_hex (get_or l (from + i) 0) ≡ true)
      → hex_at l from ≡ record { good = true; count = left / 2; bytes = pairs_in no_bytes l from (left / 2) }
  unfolding hex_at pairs_in
  all_pairs h e f each =
      ap (λ (i : ℕ). hex_then 512 0 no_bytes (drop i l)) (start from) ∙ ap (λ (r : List ℕ). hex_then 512 0 r (drop (from + 2 * 0) l)) none
      ∙ pairs_then no_bytes l from each (left / 2) 0 512 (omega (arith, f)) (omega (arith, h, e))
      ∙ ap (λ (n : ℕ). record { good = true; count = n; bytes = pairs_in no_bytes l from n }) (sum (left / 2))
    where
      start : (n : ℕ) → n ≡ n + 2 * 0
      start n = omega arith

      sum : (n : ℕ) → 0 + n ≡ n
      sum n = omega arith

      none : no_bytes ≡ pairs_in no_bytes l from 0
      none = refl

  pub hex_is : from ≤ length l → (hex_at l from).good ≡ true → hex_at l from ≡ record { good = true; count = left / 2; bytes = pairs_in no_bytes l from (left / 2) }
  hex_is h e =
      let d = digits_at e in
      let long = length-drop from l in
      all_pairs h (omega (arith, long, d.even)) (omega (arith, long, d.few)) (each_at d)

  pub hex_none : (hex_at l from).good ≡ false → hex_at l from ≡ no_hex
  unfolding hex_at
  hex_none e = none_of 512 0 no_bytes (drop from l) e

  -- ---- the code's test

  by_case : ((hex_at l from).good ≡ true → ⊥) → (hex_at l from).good ≡ false
  by_case k = go (hex_at l from).good refl
    where
      go : (b : Bool) → (hex_at l from).good ≡ b → (hex_at l from).good ≡ false
      go true e = absurd (k e)
      go false e = e

  pub hex_odd : (left % 2 ≡ 0 → ⊥) → (hex_at l from).good ≡ false
  hex_odd o = by_case (λ e. o (omega (arith, length-drop from l, (digits_at e).even)))

  pub hex_many : 1024 < left → (hex_at l from).good ≡ false
  hex_many o = by_case (λ e. omega (arith, o, hex_room e))

  pub up_to_none : true ≡ hex_up_to l from 0
  unfolding hex_up_to
  up_to_none = refl

  pub up_to_more : (n x : ℕ) (b : Bool) → b ≡ hex_up_to l from n → x ≡ hex_of (get_or l (from + n) 0) → b && ltb x 16 ≡ hex_up_to l from (n + 1)
  unfolding hex_up_to is_hex
  up_to_more n x b e d = rw (add-one, e, d)

  up_to_all : (n : ℕ) → ((i : ℕ) → i < n → is_hex (get_or l (from + i) 0) ≡ true) → hex_up_to l from n ≡ true
  unfolding hex_up_to
  up_to_all zero each = refl
  up_to_all (suc n) each = rw (up_to_all n (λ i h. each i (omega arith)), each n (omega arith))

  up_to_each : (n : ℕ) → hex_up_to l from n ≡ true → (i : ℕ) → i < n → is_hex (get_or l (from + i) 0) ≡ true
  unfolding hex_up_to
  up_to_each zero e i h = absurd (omega arith)
  up_to_each (suc n) e i h = ⊎_elim (λ k. rw k (and_right (hex_up_to l from n) (is_hex (get_or l (from + n) 0)) e)) (λ k. up_to_each n (and_left (hex_up_to l from n) (is_hex (get_or l (from + n) 0)) e) i (omega (arith, h, k))) (eq_or i n)

  pub hex_tested : from ≤ length l → left % 2 ≡ 0 → left ≤ 1024 → hex_up_to l from left ≡ (hex_at l from).good
  hex_tested h e f = go (hex_up_to l from left) refl
    where
      go : (b : Bool) → hex_up_to l from left ≡ b → hex_up_to l from left ≡ (hex_at l from).good
      go true k = k ∙ sym (ap (λ (r : Hex). r.good) (all_pairs h e f (up_to_each left k)))
      go false k = k ∙ sym (by_case (λ g. not_both (sym k ∙ up_to_all left (each_at (digits_at g)))))

-- what all_hex answers rests on
pub ruleset all_hex_laws = (hex_odd, hex_many, hex_tested)
