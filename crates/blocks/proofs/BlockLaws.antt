-- Blocks: a line's end looked for byte by byte, and bytes put one after the other. Assumes nothing.
use Prim.Native.Nat.{ℕ, suc, ◌+◌, ◌-◌, ◌≤◌, ◌<◌, min}
use mathlib.Core.Path.{◌≡◌, refl, sym, ap, ◌∙◌}
use mathlib.Core.Bool.{Bool, true, false, cond, ◌||◌}
use mathlib.Core.List.{List, [], ◌∷◌, ◌++◌, append-nil, append_assoc}
use mathlib.Core.Logic.{⊎_elim}
use native.Mathlib.Nat.{add-zero, add-suc, add_assoc, suc-add}
use native.Mathlib.Numerals.{add-one}
use native.Mathlib.Omega.{arith}
use borrow.Rule.Slice.PartMut.{put_mid}
use Rattle.std.specs.List.{position, position_or_len}
use Rattle.std.specs.Option.{option_map_or}
use Rattle.std.proofs.lemmas.List.Recursion.{is_position_or_len}
use borrow.Author.Tests.{lt-ltb, le-ltb, eq-eqb, ne_eqb, eqb-false}
use lib.Dec.{eqb}
use lib.ListN.{length, get_or, set, take, drop, length-drop, length-append, drop_of_length-le}
use lib.Seq.{sets, sets-eq, drop-drop, length-sets, take_all, take-add, take-length, take-append-le, take-append-add, drop-cons, length-take-le}
use Rattle.bits.proofs.SetLaws.{lt_or}
use Rattle.blocks.specs.Blocks.{before_lf, line_end, fits, text_end, put_text, Wrote}
use Rattle.blocks.specs.Texts.{room_for, keep_of}
use Rattle.blocks.specs.declared.Text.{Text}

-- what stands from an index on
pub rest_of : (l : List ℕ) (i : ℕ) → take (length l - i) (drop i l) ≡ drop i l
rest_of l i = take_all _ _ (omega (arith, length-drop i l))

-- ---- the end of a line

pub at_lf : (l : List ℕ) (i : ℕ) → i < length l → get_or l i 0 ≡ 10 → line_end l i ≡ i
unfolding line_end before_lf
at_lf l i h e = rw (drop-cons l i 0 h, eq-eqb _ _ e) (add-zero i)

pub past_byte : (l : List ℕ) (i : ℕ) → i < length l → (get_or l i 0 ≡ 10 → ⊥) → line_end l i ≡ line_end l (i + 1)
unfolding line_end before_lf
past_byte l i h n = rw (drop-cons l i 0 h, ne_eqb _ _ n, add-one) (rw (add-suc, suc-add))

-- one byte more of some that are looked at together, where none so far is LF
pub past_bytes : (l : List ℕ) (i j : ℕ) (seen : Bool) → (seen ≡ false → line_end l i ≡ line_end l (i + j)) → i + j < length l
    → seen || eqb (get_or l (i + j) 0) 10 ≡ false → line_end l i ≡ line_end l (i + (j + 1))
past_bytes l i j true h k e = let z : ◌≡◌ {A = ℕ} 0 1 = cc in absurd (omega arith)
past_bytes l i j false h k e = h refl ∙ past_byte l (i + j) k (eqb-false _ _ e) ∙ ap (λ (n : ℕ). line_end l n) (add_assoc i j 1)

before_lf_is : (xs : List ℕ) → before_lf xs ≡ position_or_len (λ x. eqb x 10) xs
unfolding before_lf
before_lf_is xs = is_position_or_len before_lf (λ x. eqb x 10) refl (λ x r. let e : suc (before_lf r) ≡ 1 + before_lf r = omega arith in rw e) xs

before_lf_most : (xs : List ℕ) → before_lf xs ≤ length xs
unfolding before_lf
before_lf_most [] = omega arith
before_lf_most (x ∷ xs) =
    let more = before_lf_most xs in
    elim (eqb x 10) as (λ b. cond b 0 (suc (before_lf xs)) ≤ suc (length xs)) [ true ↦ omega arith | false ↦ omega arith ]

-- the first LF from an index on, as the library looks for it
pub first_lf : (l : List ℕ) (i : ℕ) → i ≤ length l
    → option_map_or (λ n. i + n) (position (λ x. eqb x 10) (drop i l)) (length l) ≡ line_end l i
unfolding line_end
first_lf l i h =
    let xs = drop i l in
    let e = length-drop i l in
    let b = position_or_len (λ x. eqb x 10) xs in
    let most : b ≤ length xs = rw (← before_lf_is xs) (before_lf_most xs) in
    rw before_lf_is
    (⊎_elim
    (λ (k : b < length xs). rw (lt-ltb _ _ k))
    (λ (k : length xs ≤ b). rw (le-ltb _ _ k) (omega arith))
    (lt_or b (length xs)))

pub line_end_most : (l : List ℕ) (i : ℕ) → i ≤ length l → (i ≤ line_end l i) × (line_end l i ≤ length l)
unfolding line_end
line_end_most l i h = (omega arith, omega (arith, before_lf_most (drop i l), length-drop i l))

pub at_end : (l : List ℕ) (i : ℕ) → length l ≤ i → line_end l i ≡ i
unfolding line_end before_lf
at_end l i h = rw (drop_of_length-le l h) (add-zero i)

-- ---- bytes one after the other

pub sets_join : (l : List ℕ) (i : ℕ) (xs ys : List ℕ) → sets l i (xs ++ ys) ≡ sets (sets l i xs) (i + length xs) ys
sets_join l i [] ys = rw add-zero
sets_join l i (x ∷ xs) ys = sets_join (set l i x) (suc i) xs ys ∙ rw (add-suc, suc-add)

-- a text put into a part of a block at once
pub put_part : (l : List ℕ) (at n : ℕ) (text : List ℕ) → at + n ≤ length l → n ≤ length text → put_mid at (at + n - at) l (take n text) ≡ sets l at (take n text)
put_part l at n text h k =
    let e : length (take n text) ≡ n = length-take-le n text k in
    let d : at + n - at ≡ n = omega arith in
    rw (d, sets-eq (take n text) l at (rw e h), e, append_assoc, drop-drop n at l)

-- a text put at once, or its first bytes and then the others
pub put_two : (l : List ℕ) (at k m n : ℕ) (text : List ℕ) → m ≡ k → k ≤ n → at + n ≤ length l → n ≤ length text
    → put_mid (at + m) (at + n - (at + m)) (put_mid at (at + k - at) l (take k text)) (take (k + n - m - k) (drop k text)) ≡ sets l at (take n text)
put_two l at k m n text e j h t =
    let w : k + (n - k) ≡ n = omega arith in
    let x : at + n ≡ at + k + (n - k) = omega arith in
    let y : k + n - k - k ≡ n - k = omega arith in
    let z : length (take k text) ≡ k = length-take-le k text (omega arith) in
    let s : length (sets l at (take k text)) ≡ length l = length-sets l at (take k text) in
    rw (
      e,
      x,
      y,
      put_part l at k text (omega arith) (omega arith),
      put_part (sets l at (take k text)) (at + k) (n - k) (drop k text) (omega arith) (omega (arith, length-drop k text)),
    )
    (ap (λ (i : ℕ). sets (sets l at (take k text)) (at + i) (take (n - k) (drop k text))) (sym z)
    ∙ sym (sets_join l at (take k text) (take (n - k) (drop k text)))
    ∙ ap (λ (ys : List ℕ). sets l at ys) (sym (take-add k (n - k) text) ∙ ap (λ (i : ℕ). take i text) w))

-- ---- as much of some bytes as there is room for

pub some_of : (room : ℕ) (xs : List ℕ) → take (min room (length xs)) xs ≡ take room xs
some_of room xs =
    ⊎_elim
    (λ h. let e : min room (length xs) ≡ length xs = omega arith in rw (e, take-length) (sym (take_all room xs (omega arith))))
    (λ h. let e : min room (length xs) ≡ room = omega arith in rw e)
    (lt_or (length xs) room)

-- of two texts one after the other: of the second what the first leaves
module _ (room : ℕ) (xs ys : List ℕ) where
  abbrev left : ℕ
  left = room - min room (length xs)

  pub some_of_both : take (min room (length xs)) xs ++ take (min left (length ys)) ys ≡ take (min room (length (xs ++ ys))) (xs ++ ys)
  some_of_both = rw (some_of room xs, some_of left ys, some_of room (xs ++ ys)) (⊎_elim part full (lt_or (length xs) room))
    where
      full : room ≤ length xs → take room xs ++ take left ys ≡ take room (xs ++ ys)
      full h = let z : left ≡ 0 = omega arith in rw (z, append-nil) (sym (take-append-le room xs ys h))

      part : length xs < room → take room xs ++ take left ys ≡ take room (xs ++ ys)
      part h =
          let e : left ≡ room - length xs = omega arith in
          let whole : length xs + (room - length xs) ≡ room = omega arith in
          ap (λ (k : ℕ). take room xs ++ take k ys) e
          ∙ ap (λ (l : List ℕ). l ++ take (room - length xs) ys) (take_all room xs (omega arith))
          ∙ sym (take-append-add xs ys (room - length xs))
          ∙ ap (λ (k : ℕ). take k (xs ++ ys)) whole

both_long : (room x y : ℕ) → min room x + min (room - min room x) y ≡ min room (x + y)
both_long room x y = omega arith

-- ---- what is put one after the other

pub wrote_none : (l : List ℕ) (at : ℕ) → Wrote l at l at []
unfolding text_end put_text fits
wrote_none l at = let z : min (length l - at) 0 ≡ 0 = omega arith in record { ends = omega arith; holds = rw z }

-- the block stays as long
pub wrote_long : {l m : List ℕ} {a b : ℕ} {xs : List ℕ} → Wrote l a m b xs → length m ≡ length l
unfolding put_text
wrote_long {l} {m} {a} {b} {xs} p = ap (λ (k : List ℕ). length k) p.holds ∙ length-sets l a (take (fits l a xs) xs)

module _ {l m n : List ℕ} {a b c : ℕ} {xs ys : List ℕ} (p : Wrote l a m b xs) (q : Wrote m b n c ys) where
  abbrev first : ℕ
  first = min (length l - a) (length xs)

  abbrev second : ℕ
  second = min (length l - a - first) (length ys)

  first_ends : b ≡ a + first
  unfolding text_end fits
  first_ends = p.ends

  second_fits : fits m b ys ≡ second
  unfolding fits
  second_fits = let e = wrote_long p in let f = first_ends in omega arith

  second_ends : c ≡ a + min (length l - a) (length (xs ++ ys))
  unfolding text_end
  second_ends =
      q.ends
      ∙ sums _ _ _ _ first_ends second_fits (both_long (length l - a) (length xs) (length ys))
      ∙ ap (λ (k : ℕ). a + min (length l - a) k) (sym (length-append xs ys))
    where
      sums : (u v w x : ℕ) → b ≡ a + u → v ≡ w → u + w ≡ x → b + v ≡ a + x
      sums u v w x d e f = omega arith

  pub wrote_join : Wrote l a n c (xs ++ ys)
  unfolding text_end put_text fits
  wrote_join = record { ends = second_ends; holds = q.holds ∙ joined }
    where
      next : b ≡ a + length (take first xs)
      next = first_ends ∙ ap (λ (k : ℕ). a + k) (sym (length-take-le first xs (omega arith)))

      joined : sets m b (take (fits m b ys) ys) ≡ sets l a (take (min (length l - a) (length (xs ++ ys))) (xs ++ ys))
      joined =
          ap (λ (k : ℕ). sets m b (take k ys)) second_fits
          ∙ ap (λ (k : List ℕ). sets k b (take second ys)) p.holds
          ∙ ap (λ (k : ℕ). sets (sets l a (take first xs)) k (take second ys)) next
          ∙ sym (sets_join l a (take first xs) (take second ys))
          ∙ ap (λ (k : List ℕ). sets l a k) (some_of_both (length l - a) xs ys)

-- the same bytes, put together in another way
pub wrote_as : {l m : List ℕ} {a b : ℕ} {xs ys : List ℕ} → Wrote l a m b xs → xs ≡ ys → Wrote l a m b ys
wrote_as {l} {m} {a} {b} p e = record { ends = p.ends ∙ ap (λ (k : List ℕ). text_end l a k) e; holds = p.holds ∙ ap (λ (k : List ℕ). put_text l a k) e }

-- what was put after a text is kept with it
pub keep_wrote : {t : Text} {m : List ℕ} {b : ℕ} {xs : List ℕ} → length t.bytes ≡ 1152 → Wrote t.bytes t.len m b xs
    → ◌≡◌ {A = Text} (record { len = b; bytes = m }) (keep_of t xs)
unfolding keep_of room_for text_end put_text fits
keep_wrote {t} {m} {b} {xs} e p = rw (p.ends, p.holds, e)

-- what is yet to be written: whatever has xs after the one has ys after the other
abbrev pub Yet : List ℕ → ℕ → List ℕ → List ℕ → ℕ → List ℕ → Type 0
Yet l a xs m b ys = (n : List ℕ) (c : ℕ) → Wrote l a n c xs → Wrote m b n c ys
