-- What the functions go by that lay a message as it is read. Assumes nothing.
use Rattle.std.proofs.Common.{◌≡◌, ℕ, zero, suc, ◌+◌, ◌-◌, ◌*◌, ◌/◌, ◌%◌, ◌^◌, ◌<◌, ◌≤◌, min, Bool, true, false, ◌&&◌, eqb, leb, List, ◌++◌, length, get_or, take, drop, set, replicate, sym, refl, ap, ◌∙◌, subst, mod-eq_of_lt, zero-mul, arith, length-set, take-append-drop, length-take-le, length-drop, get_or-drop, take_all, drop-drop, shl_lt, shr-shr, eq-eqb, ne_eqb, eqb-true, le-leb, leb-false, leb-true}
use native.Mathlib.Nat.{zero-div}
use lib.Seq.{sets, sets-eq}
use borrow.Rule.Slice.PartMut.{put_mid}
use Rattle.std.proofs.lemmas.List.{length-replicate}
use Rattle.std.proofs.lemmas.Slice.{put_mid-paste}
use borrow.Author.Tests.{lt-leb, eqb-false}
use Rattle.bits.specs.Fields.{bit_at, field_at, field_of, eight_of}
use Rattle.bits.proofs.FieldLaws.{bit_lt, field_lt, field_split, field_front, field_past, field_is, eight_there}
use Rattle.bits.proofs.WordLaws.{byte_front, byte_field, one_word, last_field}
use Rattle.codec.specs.Codec.{both}
use Rattle.message.specs.Groups.{range_ok}
use Rattle.message.specs.declared.Address.{Address}
use Rattle.layouts.specs.Bytes.{number_from}
use Rattle.layouts.specs.Values.{address_from}
use Rattle.layouts.proofs.ByteLaws.{byte_here, sets_append}
use Rattle.layouts.proofs.PartLaws.{mark_at}

-- ---- bits

pub bit_is : (l : List ℕ) (at x : ℕ) → x ≡ get_or l (at / 8) 0 → x / 2 ^ (7 - at % 8) % 2 ≡ field_at (bit_at l) at 1
unfolding field_at bit_at
bit_is l at x e = let z : at + 0 ≡ at = omega arith in rw (z, e) (omega arith)

pub take_is : (l : List ℕ) (at w x : ℕ) → w ≤ 57 → x ≡ field_at (bit_at l) at 57 → x / 2 ^ (57 - w) ≡ field_at (bit_at l) at w
take_is l at w x h e =
    let u : w + (57 - w) ≡ 57 = omega arith in
    ap (λ (y : ℕ). y / 2 ^ (57 - w)) (e ∙ ap (λ (n : ℕ). field_at (bit_at l) at n) (sym u)) ∙ field_front (bit_at l) (bit_lt l) at w (57 - w)

-- the first eleven bits, from the first two bytes
pub head_is : (l : List ℕ) (x y : ℕ) → x ≡ get_or l 0 0 → x < 256 → y ≡ get_or l 1 0 → y < 256 → x * 8 + y / 32 ≡ field_at (bit_at l) 0 11
head_is l x y e h g k =
    let first : field_at (bit_at l) 0 8 ≡ x = byte_field l 0 (subst (λ (b : ℕ). b < 256) e h) ∙ sym e in
    let second : field_at (bit_at l) 8 3 ≡ y / 32 = byte_front l 1 3 (subst (λ (b : ℕ). b < 256) g k) (omega arith) ∙ ap (λ (b : ℕ). b / 32) (sym g) in
    sym (field_split (bit_at l) 0 8 3 ∙ rw (first, second))

module _ (l : List ℕ) (at : ℕ) (h : 8 ≤ length l) where
  -- the eight bytes that the position is in, or the last eight
  inside : (x w : ℕ) → w ≤ 57 → at / 8 + 8 ≤ length l → x ≡ eight_of l (at / 8) → x * 2 ^ (at % 8) % 2 ^ 64 / 2 ^ (64 - w) ≡ field_at (bit_at l) at w
  inside x w k there e =
      ap (λ (y : ℕ). y * 2 ^ (at % 8) % 2 ^ 64 / 2 ^ (64 - w)) (e ∙ eight_there l (at / 8) there) ∙ one_word l at w (omega arith) (omega arith)

  at_end : (x w : ℕ) → w ≤ 57 → 8 * (length l - 8) ≤ at → at ≤ 8 * length l → x ≡ eight_of l (length l - 8)
      → x * 2 ^ (at - 8 * (length l - 8)) % 2 ^ 64 / 2 ^ (64 - w) ≡ field_at (bit_at l) at w
  at_end x w k lo hi e =
      ap (λ (y : ℕ). y * 2 ^ (at - 8 * (length l - 8)) % 2 ^ 64 / 2 ^ (64 - w)) (e ∙ eight_there l (length l - 8) (omega arith)) ∙ last_field l at w h lo hi (omega arith)

  module _ (i : ℕ) (is : i ≡ min (at / 8) (length l - 8)) where
    pub window_past : 63 < at - 8 * i → 0 ≡ field_at (bit_at l) at 57
    window_past s = sym (field_past l at 57 (omega (arith, is, s)))

    pub window_there : (x : ℕ) → at - 8 * i ≤ 63 → x ≡ eight_of l i → x * 2 ^ (at - 8 * i) % 2 ^ 64 / 2 ^ 7 ≡ field_at (bit_at l) at 57
    window_there x s e = go (leb (at / 8 + 8) (length l)) refl
      where
        go : (b : Bool) → leb (at / 8 + 8) (length l) ≡ b → x * 2 ^ (at - 8 * i) % 2 ^ 64 / 2 ^ 7 ≡ field_at (bit_at l) at 57
        go true t =
            let there : at / 8 + 8 ≤ length l = leb-true _ _ t in
            let j : i ≡ at / 8 = omega (arith, is, there) in
            let r : at - 8 * i ≡ at % 8 = omega (arith, j) in
            ap (λ (n : ℕ). x * 2 ^ n % 2 ^ 64 / 2 ^ 7) r ∙ inside x 57 (omega arith) there (e ∙ ap (λ (n : ℕ). eight_of l n) j)
        go false t =
            let past : length l < at / 8 + 8 = leb-false _ _ t in
            let j : i ≡ length l - 8 = omega (arith, is, past) in
            let r : at - 8 * i ≡ at - 8 * (length l - 8) = omega (arith, j) in
            ap (λ (n : ℕ). x * 2 ^ n % 2 ^ 64 / 2 ^ 7) r
            ∙ at_end x 57 (omega arith) (omega (arith, past)) (omega (arith, past, s, j)) (e ∙ ap (λ (n : ℕ). eight_of l n) j)

  low_byte : (x : ℕ) → x / 2 ^ 6 / 256 ≡ x / 2 ^ 14
  low_byte x = shr-shr x 6 8

  pub ahead_there : (x : ℕ) → at / 8 ≤ length l - 8 → x ≡ eight_of l (at / 8) → x * 2 ^ (at % 8) % 2 ^ 64 / 2 ^ 6 / 256 ≡ field_at (bit_at l) at 50
  ahead_there x k e = low_byte (x * 2 ^ (at % 8) % 2 ^ 64) ∙ inside x 50 (omega arith) (omega arith) e

  pub ahead_past : 63 < at - 8 * (length l - 8) → 0 / 256 ≡ field_at (bit_at l) at 50
  ahead_past s = zero-div 256 ∙ sym (field_past l at 50 (omega (arith, s)))

  pub ahead_last : (x : ℕ) → length l - 8 < at / 8 → at - 8 * (length l - 8) ≤ 63 → x ≡ eight_of l (length l - 8)
      → x * 2 ^ (at - 8 * (length l - 8)) % 2 ^ 64 / 2 ^ 6 / 256 ≡ field_at (bit_at l) at 50
  ahead_last x k s e = low_byte (x * 2 ^ (at - 8 * (length l - 8)) % 2 ^ 64) ∙ at_end x 50 (omega arith) (omega (arith, k)) (omega (arith, s)) e

-- ---- bytes

pub triple_is : (l : List ℕ) (at x y z : ℕ) → x ≡ get_or l at 0 → y ≡ get_or l (at + 1) 0 → z ≡ get_or l (at + 2) 0 → x * 65536 + y * 256 + z ≡ number_from 3 (drop at l)
unfolding number_from
triple_is l at x y z e f g = rw (byte_here l at, get_or-drop at l 1 0, get_or-drop at l 2 0, ← e, ← f, ← g) (omega arith)

-- ---- the ends of a range

module _ (l : List ℕ) (p : ℕ) where
  abbrev first : Address
  first = address_from (drop p l)

  abbrev last : Address
  last = address_from (drop (p + 7) l)

  kind_at : (q : ℕ) → (address_from (drop q l)).kind ≡ get_or l q 0
  unfolding address_from
  kind_at q = byte_here l q

  ssi_at : (q x n : ℕ) → n ≡ q + 1 → x ≡ number_from 3 (drop n l) → (address_from (drop q l)).ssi ≡ x
  unfolding address_from
  ssi_at q x n h e = sym (e ∙ ap (λ (k : ℕ). number_from 3 (drop k l)) h ∙ ap (λ (y : List ℕ). number_from 3 y) (sym (drop-drop 1 q l)))

  extension_at : (q x n : ℕ) → n ≡ q + 4 → x ≡ number_from 3 (drop n l) → (address_from (drop q l)).extension ≡ x
  unfolding address_from
  extension_at q x n h e = sym (e ∙ ap (λ (k : ℕ). number_from 3 (drop k l)) h ∙ ap (λ (y : List ℕ). number_from 3 y) (sym (drop-drop 4 q l)))

  pub ends_kind : (get_or l p 0 ≡ get_or l (p + 7) 0 → ⊥) → false ≡ range_ok first last
  unfolding range_ok both
  ends_kind e = sym (rw (kind_at p, kind_at (p + 7), ne_eqb _ _ e))

  module _ (same : get_or l p 0 ≡ get_or l (p + 7) 0) (x y : ℕ) (ex : x ≡ number_from 3 (drop (p + 4) l)) (ey : y ≡ number_from 3 (drop (p + 11) l)) where
    kinds : eqb first.kind last.kind ≡ true
    kinds = rw (kind_at p, kind_at (p + 7)) (eq-eqb _ _ same)

    ext_first : first.extension ≡ x
    ext_first = extension_at p x (p + 4) refl ex

    ext_last : last.extension ≡ y
    ext_last = extension_at (p + 7) y (p + 11) (omega arith) ey

    pub ends_extension : (x ≡ y → ⊥) → false ≡ range_ok first last
    unfolding range_ok both
    ends_extension e = sym (rw (kinds, ext_first, ext_last, ne_eqb x y e))

    module _ (one : x ≡ y) (a b : ℕ) (ea : a ≡ number_from 3 (drop (p + 1) l)) (eb : b ≡ number_from 3 (drop (p + 8) l)) where
      ssi_first : first.ssi ≡ a
      ssi_first = ssi_at p a (p + 1) refl ea

      ssi_last : last.ssi ≡ b
      ssi_last = ssi_at (p + 7) b (p + 8) (omega arith) eb

      pub ends_fall : b < a → false ≡ range_ok first last
      unfolding range_ok both
      ends_fall h = sym (rw (kinds, ext_first, ext_last, eq-eqb x y one, ssi_first, ssi_last, lt-leb a b h))

      pub ends_far : a ≤ b → 63 < b - a → false ≡ range_ok first last
      unfolding range_ok both
      ends_far h k = sym (rw (kinds, ext_first, ext_last, eq-eqb x y one, ssi_first, ssi_last, le-leb a b h, lt-leb (b - a + 1) 64 (omega arith)))

      pub ends_good : a ≤ b → b - a ≤ 63 → true ≡ range_ok first last
      unfolding range_ok both
      ends_good h k = sym (rw (kinds, ext_first, ext_last, eq-eqb x y one, ssi_first, ssi_last, le-leb a b h, le-leb (b - a + 1) 64 (omega arith)))

-- ---- masks and marks

pub aligned_none : (v k : ℕ) → v < 2 ^ k → k ≡ 0 → 0 ≡ v * 2 ^ (64 - k)
aligned_none v k h e =
    let z : v ≡ 0 = few (rw e at h) in
    sym (ap (λ (x : ℕ). x * 2 ^ (64 - k)) z ∙ zero-mul (2 ^ (64 - k)))
  where
    few : v < 2 ^ 0 → v ≡ 0
    few i = omega (arith, i)

pub aligned_there : (v k : ℕ) → v < 2 ^ k → k ≤ 64 → v * 2 ^ (64 - k) % 2 ^ 64 ≡ v * 2 ^ (64 - k)
aligned_there v k h few =
    let d : k + (64 - k) ≡ 64 = omega arith in
    mod-eq_of_lt (rw (ap (λ (n : ℕ). 2 ^ n) d) at (shl_lt k (64 - k) h))

pub mark_there : (l : List ℕ) (i b : ℕ) → (i ≡ 0 → ⊥) → set l (227 + i) b ≡ set l (mark_at i) b
unfolding mark_at
mark_there l zero b e = absurd (e refl)
mark_there l (suc i) b e = let z : 227 + suc i ≡ 228 + i = omega arith in ap (λ (n : ℕ). set l n b) z

pub zero_bit : (l : List ℕ) (at x : ℕ) → x ≡ field_at (bit_at l) at 1 → (x ≡ 1 → ⊥) → field_at (bit_at l) at 1 ≡ 0
zero_bit l at x e h =
    let few = field_lt (bit_at l) (bit_lt l) at 1 in
    go (eqb x 1) refl few
  where
    go : (b : Bool) → eqb x 1 ≡ b → field_at (bit_at l) at 1 < 2 ^ 1 → field_at (bit_at l) at 1 ≡ 0
    go true t few = absurd (h (eqb-true x 1 t))
    go false t few = omega (arith, e, eqb-false x 1 t, few)

pub one_bit : (l : List ℕ) (at x : ℕ) → x ≡ field_at (bit_at l) at 1 → (x ≡ 0 → ⊥) → field_at (bit_at l) at 1 ≡ 1
one_bit l at x e h = omega (arith, e, h, field_lt (bit_at l) (bit_lt l) at 1)

pub mask_is : (l : List ℕ) (at k x : ℕ) → x ≡ field_of l at k → k ≤ 64 → x * 2 ^ (64 - k) ≡ field_at (bit_at l) at k * 2 ^ (64 - k)
mask_is l at k x e h = ap (λ (y : ℕ). y * 2 ^ (64 - k)) (e ∙ field_is l at k h)

pub mask_few : (l : List ℕ) (at k x : ℕ) → x ≡ field_of l at k → k ≤ 64 → x < 2 ^ k
mask_few l at k x e h = subst (λ (y : ℕ). y < 2 ^ k) (sym (e ∙ field_is l at k h)) (field_lt (bit_at l) (bit_lt l) at k)

-- the first address is held as the others are
pub double_is : (l : List ℕ) (at x : ℕ) → x ≡ field_at (bit_at l) at 57 → x * 2 / 256 ≡ field_at (bit_at l) at 50
double_is l at x e =
    let half : x * 2 / 256 ≡ x / 128 = omega arith in
    half ∙ ap (λ (y : ℕ). y / 128) e ∙ field_front (bit_at l) (bit_lt l) at 50 7

same_set : (l m : List ℕ) (i b : ℕ) → m ≡ set l i b → length m ≡ length l
same_set l m i b e = ap (λ (x : List ℕ). length x) e ∙ length-set l i b

pub state_stored : (a : List ℕ) (x y i j c d : ℕ) (m₁ m₂ m₃ m : List ℕ) → m₁ ≡ set (set a 116 x) 117 y → m₂ ≡ set (set m₁ 241 i) 242 j → m₃ ≡ set m₂ 240 c → m ≡ set m₃ 239 d
    → (length m ≡ length a) × (m ≡ set (set (set (set (set (set a 116 x) 117 y) 241 i) 242 j) 240 c) 239 d)
state_stored a x y i j c d m₁ m₂ m₃ m e₁ e₂ e₃ e =
    let whole : m ≡ set (set (set (set (set (set a 116 x) 117 y) 241 i) 242 j) 240 c) 239 d =
    e ∙ ap (λ (l : List ℕ). set l 239 d) (e₃ ∙ ap (λ (l : List ℕ). set l 240 c) (e₂ ∙ ap (λ (l : List ℕ). set (set l 241 i) 242 j) e₁)) in (
      same_set m₃ m 239 d e ∙ same_set m₂ m₃ 240 c e₃ ∙ same_set (set m₁ 241 i) m₂ 242 j e₂ ∙ length-set m₁ 241 i ∙ same_set (set a 116 x) m₁ 117 y e₁ ∙ length-set a 116 x,
      whole,
    )

-- ---- tests

pub and_both : (a b : Bool) → a && b ≡ both a b
unfolding both
and_both true b = refl
and_both false b = refl

-- ---- a part of a slice that is written at once

pub front_put : (l m xs : List ℕ) (k : ℕ) → k ≤ length l → m ≡ xs → length xs ≡ k → m ++ drop k l ≡ sets l 0 xs
front_put l m xs k h e n =
    let long : k ≡ 0 + length xs = omega (arith, n) in
    ap (λ (x : List ℕ). x ++ drop k l) e ∙ ap (λ (x : ℕ). xs ++ drop x l) long ∙ sym (sets-eq xs l 0 (omega (arith, n)))

pub part_put : (l m xs : List ℕ) (i k : ℕ) → i + k ≤ length l → m ≡ xs → length xs ≡ k → put_mid i k l m ≡ sets l i xs
part_put l m xs i k h e n =
    put_mid-paste i k l m xs k e refl (sym n)
    ∙ ap (λ (x : List ℕ). take i l ++ x ++ drop (i + k) l) (take_all k xs (omega (arith, n)))
    ∙ ap (λ (x : ℕ). take i l ++ xs ++ drop (i + x) l) (sym n)
    ∙ sym (sets-eq xs l i (omega (arith, n)))

pub zeros_put : (l m : List ℕ) (i e : ℕ) → i ≤ e → e ≤ length l → m ≡ replicate (length (take (e - i) (drop i l))) 0 → put_mid i (e - i) l m ≡ sets l i (replicate (e - i) 0)
zeros_put l m i e h k so =
    let long : length (take (e - i) (drop i l)) ≡ e - i = length-take-le (e - i) (drop i l) (omega (arith, length-drop i l)) in
    part_put l m (replicate (e - i) 0) i (e - i) (omega arith) (so ∙ ap (λ (n : ℕ). replicate n 0) long) (length-replicate (e - i) 0)

-- ---- an area copied

pub copied_all : (l m a : List ℕ) → length a ≡ 471 → m ≡ sets l 0 (take 471 a) → m ≡ sets l 0 a
copied_all l m a h e = e ∙ ap (λ (x : List ℕ). sets l 0 x) (take_all 471 a (omega (arith, h)))

pub copied_front : (l m₁ m a : List ℕ) → length a ≡ 471 → drop 243 a ≡ replicate 228 0 → m₁ ≡ sets l 0 (take 243 a) → m ≡ sets m₁ 243 (replicate 228 0) → m ≡ sets l 0 a
copied_front l m₁ m a h z e₁ e =
    let long : length (take 243 a) ≡ 243 = length-take-le 243 a (omega (arith, h)) in
    let here : 0 + length (take 243 a) ≡ 243 = omega (arith, long) in
    e ∙ ap (λ (x : List ℕ). sets x 243 (replicate 228 0)) e₁ ∙ ap (λ (x : List ℕ). sets (sets l 0 (take 243 a)) 243 x) (sym z)
    ∙ sym (ap (λ (x : List ℕ). sets l 0 x) (sym (take-append-drop 243 a)) ∙ sets_append l 0 (take 243 a) (drop 243 a) ∙ ap (λ (n : ℕ). sets (sets l 0 (take 243 a)) n (drop 243 a)) here)
