-- Texts: what is kept of pieces is kept of the whole, however many and however long. Assumes nothing.
use Prim.Native.Nat.{ℕ, ◌-◌, ◌≤◌, min}
use mathlib.Core.Path.{◌≡◌, refl, sym, ap, ◌∙◌}
use mathlib.Core.List.{List, ◌++◌}
use native.Mathlib.Omega.{arith}
use lib.ListN.{length, take, length-take, length-replicate}
use lib.Seq.{sets, sets-eq, length-sets, take_at}
use Rattle.blocks.proofs.BlockLaws.{some_of, wrote_join}
use Rattle.blocks.specs.Blocks.{fits, text_end, put_text, Wrote}
use Rattle.blocks.specs.Texts.{no_room, text_of, room_for, keep_of}
use Rattle.blocks.specs.declared.Text.{Text}

-- ---- a piece after a text

both_parts : {a b : ℕ} {p q : List ℕ} → a ≡ b → p ≡ q → ◌≡◌ {A = Text} (record { len = a; bytes = p }) (record { len = b; bytes = q })
both_parts e f = cc

room_long : length no_room ≡ 1152
unfolding no_room
room_long = length-replicate {A = ℕ} 1152 0

-- what was written from the start of a block of zeros is the text
pub wrote_text : {m : List ℕ} {b : ℕ} {xs : List ℕ} → Wrote no_room 0 m b xs → record { len = b; bytes = m } ≡ text_of xs
unfolding text_of text_end put_text fits
wrote_text {m} {b} {xs} p =
    let e = room_long in
    let f : min (length no_room - 0) (length xs) ≡ min 1152 (length xs) = omega arith in
    both_parts
    (omega (arith, p.ends, length-take 1152 xs))
    (p.holds ∙ ap (λ (k : ℕ). sets no_room 0 (take k xs)) f ∙ ap (λ (k : List ℕ). sets no_room 0 k) (some_of 1152 xs))

text_wrote : (xs : List ℕ) → Wrote no_room 0 (text_of xs).bytes (text_of xs).len xs
unfolding text_of text_end put_text fits
text_wrote xs =
    let e = room_long in
    let f : min (length no_room - 0) (length xs) ≡ min 1152 (length xs) = omega arith in
    record {
      ends = omega (arith, length-take 1152 xs);
      holds = sym (ap (λ (k : ℕ). sets no_room 0 (take k xs)) f ∙ ap (λ (k : List ℕ). sets no_room 0 k) (some_of 1152 xs));
    }

-- a piece kept is a piece put into the text's bytes
kept_wrote : (xs piece : List ℕ) → Wrote (text_of xs).bytes (text_of xs).len (keep_of (text_of xs) piece).bytes (keep_of (text_of xs) piece).len piece
unfolding text_of keep_of room_for text_end put_text fits
kept_wrote xs piece =
    let long : length (sets no_room 0 (take 1152 xs)) ≡ 1152 = length-sets no_room 0 (take 1152 xs) ∙ room_long in
    record { ends = rw long; holds = rw long }

pub keep_text : (xs piece : List ℕ) → keep_of (text_of xs) piece ≡ text_of (xs ++ piece)
keep_text xs piece = wrote_text (wrote_join (text_wrote xs) (kept_wrote xs piece))

-- ---- what is kept of some bytes

front : (xs : List ℕ) → length xs ≤ 1152 → take (length xs) (sets no_room 0 xs) ≡ xs
unfolding no_room
front xs h = rw (sets-eq xs no_room 0 (omega (arith, length-replicate {A = ℕ} 1152 0))) (take_at xs _ (length xs) refl)

pub kept_first : (p : List ℕ) → take (text_of p).len (text_of p).bytes ≡ take 1152 p
unfolding text_of
kept_first p = front (take 1152 p) (omega (arith, length-take 1152 p))
