-- What the code goes by that reads and writes bytes: a number's bytes one by one, the loops over things of one size. Assumes nothing.
use Prim.Native.Nat.{ℕ, zero, suc, ◌+◌, ◌-◌, ◌*◌, ◌/◌, ◌%◌, ◌^◌, ◌≤◌, ◌<◌}
use mathlib.Core.Path.{◌≡◌, refl, sym, ap, ◌∙◌}
use mathlib.Core.Bool.{Bool, true, false}
use mathlib.Core.List.{List, [], ◌∷◌, ◌++◌, append-nil}
use native.Mathlib.Nat.{add-zero, sub-zero, lt_of_lt_of_le}
use native.Mathlib.Numerals.{add-one}
use native.Mathlib.Omega.{arith}
use lib.Dec.{eqb}
use lib.ListN.{length, get_or, drop, set, length-append, drop_of_length-le}
use lib.Pow.{pow-add, pow_mono}
use lib.Seq.{sets, sets-eq, length-sets, set_comm, get_or-drop, drop-drop, drop-cons}
use borrow.Author.Tests.{eq-eqb, ne_eqb}
use Rattle.codec.specs.Codec.{both}
use Rattle.message.specs.declared.Group.{Group}
use Rattle.message.specs.declared.Lists.{Lists}
use Rattle.message.specs.declared.Value.{Value}
use Rattle.layouts.specs.Bytes.{number_from, number_bytes, rows_from, rows_bytes, are_zero}
use Rattle.layouts.specs.Values.{group_from, value_from, lists_from}

-- ---- the first byte, and the next, from position at on

pub byte_here : (l : List ℕ) (at : ℕ) → get_or (drop at l) 0 0 ≡ get_or l at 0
byte_here l at = get_or-drop at l 0 0 ∙ ap (λ (k : ℕ). get_or l k 0) (add-zero at)

-- ---- numbers read

pub number_none : (l : List ℕ) → 0 ≡ number_from 0 l
unfolding number_from
number_none l = refl

-- the most significant byte stands first: each further byte is worth less
number_step : (n : ℕ) (l : List ℕ) → number_from (suc n) l ≡ number_from n l * 256 + get_or l n 0
unfolding number_from
number_step n l = refl

pub number_more : (l : List ℕ) (at k v x b : ℕ) → v ≡ number_from k (drop at l) → b ≡ get_or l (at + k) 0 → x ≡ b → v * 256 + x ≡ number_from (k + 1) (drop at l)
number_more l at k v x b e f g = rw (add-one k, number_step k (drop at l), get_or-drop at l k 0, ← f, ← e, g)

-- a byte more leaves the number in its bytes
pub more_lt : (k v b : ℕ) → v < 2 ^ (8 * k) → b < 256 → v * 256 + b < 2 ^ (8 * (k + 1))
more_lt k v b h g =
    let e : 8 * (k + 1) ≡ 8 * k + 8 = omega arith in
    let p : 2 ^ (8 * (k + 1)) ≡ 2 ^ (8 * k) * 256 = ap (λ (n : ℕ). 2 ^ n) e ∙ pow-add 2 (8 * k) 8 in
    omega (arith, p)

-- and fewer than eight bytes leave room for one
pub fewer_lt : (k v : ℕ) → k < 8 → v < 2 ^ (8 * k) → v < 2 ^ 56
fewer_lt k v h e = lt_of_lt_of_le e (pow_mono {j = 56} (omega arith))

-- ---- runs of stores

pub sets_append : {A : Type 0} (l : List A) (i : ℕ) (xs ys : List A) → sets l i (xs ++ ys) ≡ sets (sets l i xs) (i + length xs) ys
sets_append {A} l i [] ys = ap (λ (k : ℕ). sets l k ys) (sym (add-zero i))
sets_append {A} l i (x ∷ xs) ys =
    let e : suc i + length xs ≡ i + suc (length xs) = omega arith in
    sets_append (set l i x) (suc i) xs ys ∙ ap (λ (k : ℕ). sets (sets (set l i x) (suc i) xs) k ys) e

-- a store after a run may as well come before it
sets_set : {A : Type 0} (xs l : List A) (i j : ℕ) (b : A) → i + length xs ≤ j → set (sets l i xs) j b ≡ sets (set l j b) i xs
sets_set {A} [] l i j b h = refl
sets_set {A} (x ∷ xs) l i j b h =
    sets_set xs (set l i x) (suc i) j b (omega arith) ∙ ap (λ (m : List A). sets m (suc i) xs) (set_comm l i j x b (λ e. omega arith))

-- as many as there are places
pub sets_all : {A : Type 0} (xs l : List A) → length xs ≡ length l → sets l 0 xs ≡ xs
sets_all {A} xs l e =
    sets-eq xs l 0 (omega arith) ∙ ap (λ (m : List A). xs ++ m) (drop_of_length-le l {i = 0 + length xs} (omega arith)) ∙ append-nil xs

-- ---- numbers written, from the last byte to the first

pub length_number : (n v : ℕ) → length (number_bytes n v) ≡ n
unfolding number_bytes
length_number zero v = refl
length_number (suc n) v = length-append (number_bytes n (v / 256)) (v % 256 ∷ []) ∙ ap (λ (k : ℕ). k + 1) (length_number n (v / 256)) ∙ add-one n

pub put_turn : (l out m : List ℕ) (at n w k j v b : ℕ) → sets l at (number_bytes n w) ≡ sets out at (number_bytes k v) → k ≡ suc j → b ≡ v % 256
    → m ≡ set out (at + j) b → sets l at (number_bytes n w) ≡ sets m at (number_bytes j (v / 256))
unfolding number_bytes
put_turn l out m at n w k j v b e d f g =
    let s = number_bytes j (v / 256) in
    let z : at + length s ≡ at + j = ap (λ (i : ℕ). at + i) (length_number j (v / 256)) in
    e
    ∙ ap (λ (i : ℕ). sets out at (number_bytes i v)) d
    ∙ sets_append out at s (v % 256 ∷ [])
    ∙ ap (λ (i : ℕ). set (sets out at s) i (v % 256)) z
    ∙ sets_set s out at (at + j) (v % 256) (omega (arith, length_number j (v / 256)))
    ∙ ap (λ (x : List ℕ). sets x at s) (ap (λ (x : ℕ). set out (at + j) x) (sym f) ∙ sym g)

pub put_end : (l out : List ℕ) (at n w k v : ℕ) → sets l at (number_bytes n w) ≡ sets out at (number_bytes k v) → k ≡ 0 → out ≡ sets l at (number_bytes n w)
unfolding number_bytes
put_end l out at n w k v e d = sym (e ∙ ap (λ (i : ℕ). sets out at (number_bytes i v)) d)

pub put_same : (l out : List ℕ) (at n w k v : ℕ) → sets l at (number_bytes n w) ≡ sets out at (number_bytes k v) → length out ≡ length l
put_same l out at n w k v e =
    sym (length-sets out at (number_bytes k v)) ∙ ap (λ (x : List ℕ). length x) (sym e) ∙ length-sets l at (number_bytes n w)

-- ---- things of one size, read into an array

module _ {A : Type 0} (f : List ℕ → A) (k : ℕ) where
  length_rows : (n : ℕ) (l : List ℕ) → length (rows_from f k n l) ≡ n
  unfolding rows_from
  length_rows zero l = refl
  length_rows (suc n) l = ap suc (length_rows n (drop k l))

  -- what is left of n that begin at position at, in a list whose first i are there
  unfoldable pub rows_left : ℕ → ℕ → List ℕ → List A → ℕ → List A
  rows_left n at l list i = sets list i (rows_from f k (n - i) (drop (at + k * i) l))

  pub rows_start : (n at : ℕ) (l : List ℕ) (list : List A) → length list ≡ n → rows_from f k n (drop at l) ≡ rows_left n at l list 0
  unfolding rows_left
  rows_start n at l list e =
      let z : at + k * 0 ≡ at = omega arith in
      rw (sub-zero n, z) (sym (sets_all (rows_from f k n (drop at l)) list (length_rows n (drop at l) ∙ sym e)))

  module _ (n at : ℕ) (l : List ℕ) (list whole : List A) (i : ℕ) (so : whole ≡ rows_left n at l list i) where
    pub rows_more : (p : ℕ) (a : A) → i < n → p ≡ at + k * i → a ≡ f (drop p l) → whole ≡ rows_left n at l (set list i a) (i + 1)
    unfolding rows_left rows_from
    rows_more p a h q e =
        let m : n - i ≡ suc (n - (i + 1)) = omega arith in
        let d : at + k * i + k ≡ at + k * (i + 1) = omega arith in
        let b : a ≡ f (drop (at + k * i) l) = e ∙ ap (λ (x : ℕ). f (drop x l)) q in
        so ∙ rw (m, drop-drop k (at + k * i) l, d, ← b, add-one i)

    pub rows_end : n ≤ i → whole ≡ list
    unfolding rows_left rows_from
    rows_end h = let z : n - i ≡ 0 = omega arith in so ∙ rw z

-- ---- and written from one

module _ {A : Type 0} (f : A → List ℕ) (k : ℕ) (size : (a : A) → length (f a) ≡ k) where
  -- what is left to write of the rows from the i-th on
  unfoldable pub bytes_left : ℕ → List A → List ℕ → ℕ → List ℕ
  bytes_left at list out i = sets out (at + k * i) (rows_bytes f (drop i list))

  pub bytes_start : (at : ℕ) (list : List A) (out : List ℕ) → sets out at (rows_bytes f list) ≡ bytes_left at list out 0
  unfolding bytes_left
  bytes_start at list out = let z : at + k * 0 ≡ at = omega arith in rw z

  module _ (at : ℕ) (list : List A) (out whole : List ℕ) (i : ℕ) (so : whole ≡ bytes_left at list out i) where
    pub bytes_more : (d a : A) (m : List ℕ) → i < length list → a ≡ get_or list i d → m ≡ sets out (at + k * i) (f a) → whole ≡ bytes_left at list m (i + 1)
    unfolding bytes_left rows_bytes
    bytes_more d a m h e w =
        let z : at + k * i + length (f a) ≡ at + k * (i + 1) = omega (arith, size a) in
        let c : drop i list ≡ a ∷ drop (i + 1) list = drop-cons list i d h ∙ rw (← e, add-one i) in
        so ∙ rw (c, sets_append out (at + k * i) (f a) (rows_bytes f (drop (i + 1) list)), z, ← w)

    pub bytes_end : length list ≤ i → out ≡ whole
    unfolding bytes_left rows_bytes
    bytes_end h = sym (so ∙ rw (drop_of_length-le list h))

  pub bytes_same : (at : ℕ) (list : List A) (out l : List ℕ) (i : ℕ) → sets l at (rows_bytes f list) ≡ bytes_left at list out i → length out ≡ length l
  unfolding bytes_left
  bytes_same at list out l i so =
      sym (length-sets out (at + k * i) (rows_bytes f (drop i list))) ∙ ap (λ (x : List ℕ). length x) (sym so) ∙ length-sets l at (rows_bytes f list)

-- ---- bytes that are zero

module _ (l : List ℕ) (i : ℕ) (so : Bool) (from : so ≡ are_zero (drop i l)) (h : i < length l) where
  pub zero_more : get_or l i 0 ≡ 0 → so ≡ are_zero (drop (i + 1) l)
  unfolding are_zero both
  zero_more e = from ∙ rw (drop-cons l i 0 h, eq-eqb _ _ e, add-one i)

  pub zero_not : (get_or l i 0 ≡ 0 → ⊥) → false ≡ so
  unfolding are_zero both
  zero_not e = sym (from ∙ rw (drop-cons l i 0 h, ne_eqb _ _ e))

pub zero_end : (l : List ℕ) (i : ℕ) (so : Bool) → so ≡ are_zero (drop i l) → length l ≤ i → true ≡ so
unfolding are_zero
zero_end l i so from h = sym (from ∙ rw (drop_of_length-le l h))

-- ---- a value, from what each of its bytes says

module _ (l : List ℕ) (users dispatchers : Group) (identifier cause result reason mni a₁ a₂ s₁ s₂ t₁ t₂ : ℕ) (lists : Lists) (o₀ o₁ o₂ o₃ o₄ o₅ o₆ pdu present mask : ℕ) where
  pub value_from_all : users ≡ group_from (drop 1 l) → dispatchers ≡ group_from (drop 122 l) → identifier ≡ number_from 2 (drop 119 l) → cause ≡ get_or l 118 0
      → result ≡ get_or l 116 0 → reason ≡ get_or l 117 0 → mni ≡ number_from 3 (drop 234 l) → a₁ ≡ get_or l 237 0 → a₂ ≡ get_or l 238 0 → s₁ ≡ get_or l 239 0
      → s₂ ≡ get_or l 240 0 → t₁ ≡ get_or l 241 0 → t₂ ≡ get_or l 242 0 → lists ≡ lists_from l → o₀ ≡ get_or l 121 0 → o₁ ≡ get_or l 228 0 → o₂ ≡ get_or l 229 0 → o₃ ≡ get_or l 230 0 → o₄ ≡ get_or l 231 0 → o₅ ≡ get_or l 232 0
      → o₆ ≡ get_or l 233 0 → pdu ≡ get_or l 0 0 → present ≡ get_or l 107 0 → mask ≡ number_from 8 (drop 108 l)
      → ◌≡◌ {A = Value}
      (record {
        pdu = pdu;
        numbers = identifier ∷ cause ∷ result ∷ reason ∷ mni ∷ a₁ ∷ a₂ ∷ s₁ ∷ s₂ ∷ t₁ ∷ t₂ ∷ 0 ∷ [];
        users = users;
        masked = eqb present 1;
        mask = mask;
        given = eqb o₀ 1 ∷ eqb o₁ 1 ∷ eqb o₂ 1 ∷ eqb o₃ 1 ∷ eqb o₄ 1 ∷ eqb o₅ 1 ∷ eqb o₆ 1 ∷ [];
        dispatchers = dispatchers;
        lists = lists;
      })
      (value_from l)
  unfolding value_from
  value_from_all e₁ e₂ e₃ e₄ e₅ e₆ e₇ e₈ e₉ e₁₀ e₁₁ e₁₂ e₁₃ e₁₄ e₁₅ e₁₆ e₁₇ e₁₈ e₁₉ e₂₀ e₂₁ e₂₂ e₂₃ e₂₄ =
      rw (e₁, e₂, e₃, e₄, e₅, e₆, e₇, e₈, e₉, e₁₀, e₁₁, e₁₂, e₁₃, e₁₄, e₁₅, e₁₆, e₁₇, e₁₈, e₁₉, e₂₀, e₂₁, e₂₂, e₂₃, e₂₄)
