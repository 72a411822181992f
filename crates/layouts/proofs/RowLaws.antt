-- Numbers and things of one size in bytes, both ways. Assumes nothing.
use Prim.Native.Nat.{ℕ, zero, suc, ◌+◌, ◌*◌, ◌/◌, ◌%◌, ◌^◌, ◌≤◌, ◌<◌}
use mathlib.Core.Path.{◌≡◌, refl, sym, ap, ◌∙◌}
use mathlib.Core.List.{List, [], ◌∷◌, ◌++◌, append_assoc}
use native.Mathlib.Omega.{arith}
use lib.ListN.{length, get_or, take, drop, length-append, take-append-drop, get_or-append}
use lib.Pow.{pow-add}
use lib.Seq.{take-add, take-suc, drop-cons, drop-drop, drop_at, get_or_at, get_or-drop, get_or-append-add, drop-append-add}
use Rattle.layouts.specs.Bytes.{number_from, number_bytes, rows_from, rows_bytes}
use Rattle.layouts.proofs.ByteLaws.{length_number}

-- ---- bytes

pub AreBytes : List ℕ → Type 0
AreBytes l = (i : ℕ) → get_or l i 0 < 256

pub bytes_drop : (k : ℕ) (l : List ℕ) → AreBytes l → AreBytes (drop k l)
unfolding AreBytes
bytes_drop k l h i = rw (get_or-drop k l i 0) (h (k + i))

-- a byte is its own low byte
pub low_byte : (l : List ℕ) → AreBytes l → (i : ℕ) → get_or l i 0 % 256 ≡ get_or l i 0
unfolding AreBytes
low_byte l h i = let k = h i in omega arith

-- ---- numbers

-- the number in n bytes is written as those bytes
pub number_there : (n : ℕ) (l : List ℕ) → AreBytes l → n ≤ length l → number_bytes n (number_from n l) ≡ take n l
unfolding number_bytes number_from AreBytes
number_there zero l h k = refl
number_there (suc n) l h k =
    let b = h n in
    let d : (number_from n l * 256 + get_or l n 0) / 256 ≡ number_from n l = omega arith in
    let m : (number_from n l * 256 + get_or l n 0) % 256 ≡ get_or l n 0 = omega arith in
    rw (d, m, number_there n l h (omega arith)) (sym (take-suc l n 0 (omega arith)))

-- bytes beyond the number do not count
number_front : (n : ℕ) (xs ys : List ℕ) → n ≤ length xs → number_from n (xs ++ ys) ≡ number_from n xs
unfolding number_from
number_front zero xs ys h = refl
number_front (suc n) xs ys h = rw (number_front n xs ys (omega arith), get_or-append xs ys 0 n (omega arith))

-- a number that fits n bytes is taken from them as it was
pub number_back : (n v : ℕ) (ys : List ℕ) → v < 2 ^ (8 * n) → number_from n (number_bytes n v ++ ys) ≡ v
unfolding number_bytes number_from
number_back zero v ys h = omega arith
number_back (suc n) v ys h =
    let xs = number_bytes n (v / 256) in
    let e : 8 * suc n ≡ 8 * n + 8 = omega arith in
    let p : 2 ^ (8 * suc n) ≡ 2 ^ (8 * n) * 256 = ap (λ (k : ℕ). 2 ^ k) e ∙ pow-add 2 (8 * n) 8 in
    let q : v / 256 < 2 ^ (8 * n) = omega (arith, p) in
    let a : (xs ++ (v % 256 ∷ [])) ++ ys ≡ xs ++ (v % 256 ∷ ys) = append_assoc xs (v % 256 ∷ []) ys in
    let b : get_or (xs ++ (v % 256 ∷ ys)) n 0 ≡ v % 256 = get_or_at xs (v % 256) ys 0 n (length_number n (v / 256)) in
    rw (a, b, number_back n (v / 256) (v % 256 ∷ ys) q) (omega arith)

-- ---- things of one size

-- each in turn
pub data All {A : Type 0} (P : A → Type 0) : List A → Type 0 where
  none : All P []
  more : {a : A} {l : List A} → P a → All P l → All P (a ∷ l)

pub all_of : {A : Type 0} (P : A → Type 0) (d : A) (l : List A) → ((i : ℕ) → i < length l → P (get_or l i d)) → All P l
all_of {A} P d [] h = none
all_of {A} P d (a ∷ l) h = more (h 0 (omega arith)) (all_of P d l (λ i k. h (suc i) (omega arith)))

module _ {A : Type 0} (f : List ℕ → A) (g : A → List ℕ) (k : ℕ) where
  pub rows_there : (n : ℕ) (l : List ℕ) → ((i : ℕ) → i < n → g (f (drop (k * i) l)) ≡ take k (drop (k * i) l)) → rows_bytes g (rows_from f k n l) ≡ take (n * k) l
  unfolding rows_bytes rows_from
  rows_there zero l t = let z : 0 * k ≡ 0 = omega arith in rw z
  rows_there (suc n) l t =
      let e : suc n * k ≡ k + n * k = omega arith in
      let z : k * 0 ≡ 0 = omega arith in
      let head : g (f l) ≡ take k l = rw z at (t 0 (omega arith)) in
      let tail = rows_there n (drop k l) (λ i h. rw (drop-drop (k * i) k l, step i) (t (suc i) (omega arith))) in
      rw (head, tail, e) (sym (take-add k (n * k) l))
    where
      step : (i : ℕ) → k + k * i ≡ k * suc i
      step i = omega arith

  pub rows_back : (P : A → Type 0) → ((a : A) → length (g a) ≡ k) → ((a : A) (ys : List ℕ) → P a → f (g a ++ ys) ≡ a)
      → (n : ℕ) (l : List A) (ys : List ℕ) → length l ≡ n → All P l → rows_from f k n (rows_bytes g l ++ ys) ≡ l
  unfolding rows_bytes rows_from
  rows_back P s b zero [] ys e none = refl
  rows_back P s b zero (a ∷ l) ys e p = absurd (omega arith)
  rows_back P s b (suc n) [] ys e p = absurd (omega arith)
  rows_back P s b (suc n) (a ∷ l) ys e (more p ps) =
      let r : (g a ++ rows_bytes g l) ++ ys ≡ g a ++ (rows_bytes g l ++ ys) = append_assoc (g a) (rows_bytes g l) ys in
      rw (r, b a (rows_bytes g l ++ ys) p, drop_at (g a) (rows_bytes g l ++ ys) k (s a), rows_back P s b n l ys (omega arith) ps)

  pub rows_length : ((a : A) → length (g a) ≡ k) → (l : List A) → length (rows_bytes g l) ≡ length l * k
  unfolding rows_bytes
  rows_length s [] = omega arith
  rows_length s (a ∷ l) =
      let e : suc (length l) * k ≡ k + length l * k = omega arith in
      rw (length-append (g a) (rows_bytes g l), s a, rows_length s l, e)

-- ---- the bytes from a position on, one element in front of the others

module _ (l : List ℕ) where
  pub byte_front : (at x : ℕ) (rest : List ℕ) → at < length l → x ≡ get_or l at 0 → rest ≡ drop (suc at) l → x ∷ rest ≡ drop at l
  byte_front at x rest h e d = rw (e, d) (sym (drop-cons l at 0 h))

  pub run_front : (at n : ℕ) (xs rest : List ℕ) → xs ≡ take n (drop at l) → rest ≡ drop (at + n) l → xs ++ rest ≡ drop at l
  run_front at n xs rest e d = rw (e, d, ← drop-drop n at l) (take-append-drop n (drop at l))

-- ---- what stands after n bytes

module _ (n : ℕ) (xs ys : List ℕ) (e : length xs ≡ n) where
  pub past_byte : (k : ℕ) → get_or (xs ++ ys) (n + k) 0 ≡ get_or ys k 0
  past_byte k = ap (λ (m : ℕ). get_or (xs ++ ys) (m + k) 0) (sym e) ∙ get_or-append-add xs ys k 0

  pub past_run : (k : ℕ) → drop (n + k) (xs ++ ys) ≡ drop k ys
  past_run k = ap (λ (m : ℕ). drop (m + k) (xs ++ ys)) (sym e) ∙ drop-append-add xs ys k
