-- Demand 2's round trips, of `read` and `write` themselves, over every profile, every message and every area:
--     read-write   what `write` wrote, `read` reads as the value
--     write_read   what `read` read, `write` writes as the same bits
--     writes       a valid value is written wherever there is room for it
-- Assumes nothing.
use Rattle.std.proofs.Common.{◌≡◌, ℕ, Result, Ok, ◌+◌, ◌*◌, ◌≤◌, Bool, true, false, cond, eqb, leb, List, ◌++◌, length, sym, refl, ap, ◌∙◌, subst, arith, length-append, eq-eqb, eqb-true, le-leb, leb-true}
use Rattle.std.specs.Result.{is_ok}
use Rattle.bits.specs.Fields.{bit_at}
use Rattle.bits.specs.Puts.{put_bits, binary, spare}
use Rattle.bits.proofs.PutLaws.{length_put, length_binary}
use Rattle.bits.proofs.Stands.{Stands, stands_left, stands_agree, bits_join, put_stands}
use Rattle.bits.proofs.RoundLaws.{binary_bits}
use Rattle.codec.specs.Stops.{refusal, no_stop}
use Rattle.codec.specs.declared.Stop.{Stop}
use Rattle.codec.specs.Codec.{Codec, Read, got, no, bind, both}
use Rattle.codec.proofs.Good.{Agree, Found, Good, both_right, not_both}
use Rattle.codec.proofs.RoundTrips.{read_found}
use Rattle.profile.specs.Rules.{profile_ok}
use Rattle.profile.specs.declared.Profile.{Profile}
use Rattle.message.specs.Messages.{message_c}
use Rattle.message.specs.Reading.{whole, whole_of, length_ok, read_bits, read_of}
use Rattle.message.proofs.MessageLaws.{good_message}
use Rattle.message.specs.declared.Value.{Value}
use Rattle.reading.specs.Answers.{reading_of}
use Rattle.validity.specs.Validity.{valid_of}
use Rattle.writing.specs.Writing.{bits_of, bytes_for, padded, lay_of, lay_in, laid, refused, Write, write_valid, write_of, written_of, area_of}
use Rattle.writing.proofs.LengthLaws.{message_some, message_most}

-- ---- what the two functions promise

-- `read`, on n bits of the bytes l, may answer r
abbrev pub Reads : Profile → List ℕ → ℕ → Result Value Stop → Type 0
Reads p l n r = r ≡ reading_of (read_of p l n)

-- `write`, of the value v into the area l, may answer w and leave the area m
abbrev pub Writes : Profile → Value → List ℕ → List ℕ → Result ℕ Stop → Type 0
Writes p v l m w = (w ≡ written_of (write_of p v l 0)) × (m ≡ area_of l (write_of p v l 0))

-- ---- what was written

-- the grounds on which something is written at all
pub record Can (p : Profile) (v : Value) (l : List ℕ) (b : ℕ) : Type 0 where
  pub passes : profile_ok p ≡ true
  pub valid : valid_of p.air v ≡ true
  pub room : b + bytes_for (length (bits_of p.air v)) ≤ length l

pub can_write : (p : Profile) (v : Value) (l : List ℕ) (b : ℕ) → Can p v l b
    → write_of p v l b ≡ laid (lay_of l b (bits_of p.air v)) (length (bits_of p.air v))
unfolding write_of write_valid lay_in
can_write p v l b k = rw (k.passes, k.valid, le-leb (b + bytes_for (length (bits_of p.air v))) (length l) k.room)

pub wrote_can : (p : Profile) (v : Value) (l : List ℕ) (b : ℕ) → is_ok (written_of (write_of p v l b)) ≡ true → Can p v l b
unfolding write_of write_valid lay_in written_of
wrote_can p v l b = go (profile_ok p) refl (valid_of p.air v) refl (leb (b + bytes_for (length (bits_of p.air v))) (length l)) refl
  where
    go : (x : Bool) → profile_ok p ≡ x → (y : Bool) → valid_of p.air v ≡ y → (z : Bool) → leb (b + bytes_for (length (bits_of p.air v))) (length l) ≡ z
        → is_ok (written_of (cond x (cond y (cond z (laid (lay_of l b (bits_of p.air v)) (length (bits_of p.air v))) (refused (refusal 14))) (refused (refusal 22))) (refused (refusal 1)))) ≡ true
        → Can p v l b
    go false ex y ey z ez e = not_both e
    go true ex false ey z ez e = not_both e
    go true ex true ey false ez e = not_both e
    go true ex true ey true ez e = record { passes = ex; valid = ey; room = leb-true _ _ ez }

-- ---- the bits that stand in an area

-- what is laid from the first byte on stands there
laid_stands : (l : List ℕ) {A : Type 0} (C : Codec A) → Good C → (a : A) → C.ok a ≡ true → bytes_for (length (C.bits a)) ≤ length l
    → Stands (bit_at (lay_of l 0 (C.bits a))) 0 (C.bits a)
unfolding lay_of padded spare
laid_stands l C G a ok h =
    let bs = C.bits a in
    let rest = binary (spare (length bs)) 0 in
    let inside : 0 + length (bs ++ rest) ≤ 8 * length l = omega (arith, length-append bs rest, length_binary (spare (length bs)) 0) in
    stands_left (bit_at (put_bits l 0 (bs ++ rest))) 0 bs rest (put_stands l 0 (bs ++ rest) (bits_join bs rest (G.are_bits a ok) (binary_bits (spare (length bs)) 0)) inside)

-- an area keeps its length
pub laid_length : (l : List ℕ) (b : ℕ) (bs : List ℕ) → length (lay_of l b bs) ≡ length l
unfolding lay_of
laid_length l b bs = length_put l (8 * b) (padded bs)

laid_message : (a : List ℕ) (p : Profile) (v : Value) → Can p v a 0 → Stands (bit_at (lay_of a 0 (bits_of p.air v))) 0 (bits_of p.air v)
unfolding valid_of bits_of
laid_message a p v k = laid_stands a (message_c p.air) (good_message p.air) v k.valid (omega (arith, k.room))

-- ---- writing, then reading

-- a value that stands in the bytes is read whole
stands_read : {A : Type 0} (C : Codec A) → Good C → (f : ℕ → ℕ) (a : A) → C.ok a ≡ true → Stands f 0 (C.bits a)
    → whole C f (length (C.bits a)) ≡ got a (length (C.bits a))
stands_read C G f a ok s =
    let n = length (C.bits a) in
    let z : 0 + n ≡ n = omega arith in
    let r : C.read f n 0 ≡ got a n = G.forward f n 0 a ok s (omega arith) ∙ ap (λ (q : ℕ). got a q) z in
    rw (r, eq-eqb n n refl)

laid_read : (p : Profile) (v : Value) (l : List ℕ) → Can p v l 0 → read_of p (lay_of l 0 (bits_of p.air v)) (length (bits_of p.air v)) ≡ got v (length (bits_of p.air v))
unfolding read_of read_bits whole_of length_ok both valid_of bits_of
laid_read p v l k =
    let bs = bits_of p.air v in
    let n = length bs in
    let some : 1 ≤ n = omega (arith, message_some p.air v) in
    let most : n ≤ 4096 = omega (arith, message_most p.air v k.valid) in
    let held : n ≤ 8 * length (lay_of l 0 bs) = omega (arith, laid_length l 0 bs, k.room) in
    let st : Stands (bit_at (lay_of l 0 bs)) 0 bs = laid_message l p v k in
    rw (k.passes, le-leb 1 n some, le-leb n 4096 most, le-leb n (8 * length (lay_of l 0 bs)) held) (stands_read (message_c p.air) (good_message p.air) (bit_at (lay_of l 0 bs)) v k.valid st)

-- a valid value is written wherever there is room for it, in as many bits as it has
pub writes : (p : Profile) (v : Value) (l m : List ℕ) (w : Result ℕ Stop) → Writes p v l m w → profile_ok p ≡ true → valid_of p.air v ≡ true
    → bytes_for (length (bits_of p.air v)) ≤ length l → w ≡ Ok (length (bits_of p.air v))
unfolding written_of
writes p v l m w e passes valid room = e.0 ∙ ap (λ (x : Write). written_of x) (can_write p v l 0 (record { passes = passes; valid = valid; room = omega arith }))

-- what was written is read as the value
pub read_write : (p : Profile) (v : Value) (l m : List ℕ) (w : Result ℕ Stop) (n : ℕ) (r : Result Value Stop) → Writes p v l m w → w ≡ Ok n → Reads p m n r
    → r ≡ Ok v
unfolding written_of area_of reading_of
read_write p v l m w n r e done h =
    let k : Can p v l 0 = wrote_can p v l 0 (ap (λ (x : Result ℕ Stop). is_ok x) (sym e.0 ∙ done)) in
    let c = can_write p v l 0 k in
    let em : m ≡ lay_of l 0 (bits_of p.air v) = e.1 ∙ ap (λ (x : Write). area_of l x) c in
    let same : ◌≡◌ {A = Result ℕ Stop} (Ok n) (Ok (length (bits_of p.air v))) = sym done ∙ e.0 ∙ ap (λ (x : Write). written_of x) c in
    let en : n ≡ length (bits_of p.air v) = cc in
    h ∙ ap (λ (x : List ℕ). reading_of (read_of p x n)) em ∙ ap (λ (k : ℕ). reading_of (read_of p (lay_of l 0 (bits_of p.air v)) k)) en ∙ ap (λ (x : Read Value). reading_of x) (laid_read p v l k)

-- ---- reading, then writing

-- what was read: the grounds, and the value that stands there
record Was (p : Profile) (l : List ℕ) (n : ℕ) (v : Value) : Type 0 where
  passes : profile_ok p ≡ true
  valid : valid_of p.air v ≡ true
  long : length (bits_of p.air v) ≡ n
  held : n ≤ 8 * length l
  stands : Stands (bit_at l) 0 (bits_of p.air v)

-- a whole reading is one that ends at the last bit
whole_got : {A : Type 0} (C : Codec A) (f : ℕ → ℕ) (n : ℕ) (x : Read A) (a : A) (q : ℕ)
    → bind x (λ b p. cond (eqb p n) (got b p) (no (refusal 13))) ≡ got a q → x ≡ got a n
whole_got C f n (no s) a q e = let z : ◌≡◌ {A = ℕ} 0 1 = cc in absurd (omega arith)
whole_got {A} C f n (got b p) a q e₀ = go (eqb p n) refl e₀
  where
    go : (t : Bool) → eqb p n ≡ t → cond t (got b p) (no (refusal 13)) ≡ got a q → got b p ≡ got a n
    go false et e = let z : ◌≡◌ {A = ℕ} 0 1 = cc in absurd (omega arith)
    go true et e = let ab : b ≡ a = cc in ap (λ (y : A). got y p) ab ∙ ap (λ (y : ℕ). got a y) (eqb-true p n et)

read_was : (p : Profile) (l : List ℕ) (n : ℕ) (v : Value) (q : ℕ) → read_of p l n ≡ got v q → Was p l n v
unfolding read_of read_bits whole_of length_ok valid_of bits_of
read_was p l n v q = go (profile_ok p) refl (both (leb 1 n) (both (leb n 4096) (leb n (8 * length l)))) refl
  where
    C : Codec Value
    C = message_c p.air

    go : (x : Bool) → profile_ok p ≡ x → (y : Bool) → both (leb 1 n) (both (leb n 4096) (leb n (8 * length l))) ≡ y
        → cond x (cond y (whole C (bit_at l) n) (no (refusal 3))) (no (refusal 1)) ≡ got v q → Was p l n v
    go false ex y ey e = let z : ◌≡◌ {A = ℕ} 0 1 = cc in absurd (omega arith)
    go true ex false ey e = let z : ◌≡◌ {A = ℕ} 0 1 = cc in absurd (omega arith)
    go true ex true ey e =
        let w : Found C (bit_at l) n 0 v n = read_found C (good_message p.air) l n 0 v n (whole_got C (bit_at l) n (C.read (bit_at l) n 0) v q e) in
        record {
          passes = ex;
          valid = w.valid;
          long = omega (arith, w.next);
          held = leb-true n (8 * length l) (both_right _ _ (both_right _ _ ey));
          stands = w.stands;
        }

-- the grounds of a reading that found something
found_was : (p : Profile) (l : List ℕ) (n : ℕ) (v : Value) (x : Read Value) → read_of p l n ≡ x → reading_of x ≡ Ok v → Was p l n v
unfolding reading_of
found_was p l n v (got u q) e f = let uv : u ≡ v = cc in read_was p l n v q (e ∙ ap (λ (y : Value). got y q) uv)
found_was p l n v (no s) e f = let z : ◌≡◌ {A = ℕ} 0 1 = cc in absurd (omega arith)

-- what was read is written as the same bits, wherever there is room for them: it is written, has as many bits, and they agree
pub write_read : (p : Profile) (l : List ℕ) (n : ℕ) (r : Result Value Stop) (v : Value) (a m : List ℕ) (w : Result ℕ Stop) → Reads p l n r → r ≡ Ok v
    → bytes_for n ≤ length a → Writes p v a m w
    → (w ≡ Ok n) × Agree (bit_at m) (bit_at l) n
unfolding written_of area_of
write_read p l n r v a m w h f room e =
    let k : Was p l n v = found_was p l n v (read_of p l n) refl (sym h ∙ f) in
    let bs = bits_of p.air v in
    let can : Can p v a 0 = record { passes = k.passes; valid = k.valid; room = omega (arith, k.long) } in
    let c : write_of p v a 0 ≡ laid (lay_of a 0 bs) (length bs) = can_write p v a 0 can in
    let em : m ≡ lay_of a 0 bs = e.1 ∙ ap (λ (x : Write). area_of a x) c in
    let st : Stands (bit_at m) 0 bs = subst (λ (o : List ℕ). Stands (bit_at o) 0 bs) (sym em) (laid_message a p v can) in
    let ew : w ≡ Ok (length bs) = e.0 ∙ ap (λ (x : Write). written_of x) c in
    (ew ∙ ap (λ (k : ℕ). Ok k) k.long, λ i i<n. stands_agree (bit_at m) (bit_at l) 0 bs st k.stands i (omega arith) (omega (arith, k.long)))

-- what was read is valid
pub read_valid : (p : Profile) (l : List ℕ) (n : ℕ) (r : Result Value Stop) (v : Value) → Reads p l n r → r ≡ Ok v → valid_of p.air v ≡ true
read_valid p l n r v h f = (found_was p l n v (read_of p l n) refl (sym h ∙ f)).valid
