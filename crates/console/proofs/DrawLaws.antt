-- A message that was drawn is what `cad_write` lays, if it is read back as the value's bytes, has zeros in its spare bits, and finds room:
-- the round trip says which bits are laid, and the bytes that hold them are copied. Assumes nothing.
use Rattle.std.proofs.Common.{◌≡◌, ℕ, zero, suc, ◌+◌, ◌-◌, ◌*◌, ◌/◌, ◌%◌, ◌^◌, ◌<◌, ◌≤◌, Bool, true, false, ◌&&◌, eqb, List, [], ◌∷◌, ◌++◌, length, get_or, take, set, sym, refl, ap, ◌∙◌, subst, inr, ⊎_elim, arith, length-append, take_all, get_or-set_same, ext_get_or, pow_pos, eqb-true}
use native.Mathlib.Nat.{zero-div}
use lib.Pow.{low, field, shl-shr}
use lib.Seq.{set_out}
use Rattle.bits.specs.Fields.{bit_at, field_at}
use Rattle.bits.specs.Puts.{with_digit, set_bit, put_bits, binary, spare}
use Rattle.bits.proofs.FieldLaws.{bit_lt, field_lt, field_split, field_same}
use Rattle.bits.proofs.WordLaws.{byte_field}
use Rattle.bits.proofs.PutLaws.{byte_digit_lt, length_binary}
use Rattle.bits.proofs.SetLaws.{eq_or, lt_or, byte_set_other}
use Rattle.bits.proofs.Stands.{AreBits, Stands, stands_right, bits_join, put_stands, byte_other}
use Rattle.bits.proofs.RoundLaws.{binary_bits, read_binary}
use Rattle.codec.specs.declared.Stop.{Stop}
use Rattle.codec.proofs.Good.{Agree, not_both}
use Rattle.message.specs.declared.Value.{Value}
use Rattle.message.proofs.MessageLaws.{good_message}
use Rattle.profile.specs.declared.Profile.{Profile}
use Rattle.validity.specs.Validity.{valid_of}
use Rattle.std.specs.Prelude.{Result, Ok, Err, is_err, ⊤}
use Rattle.std.specs.Result.{is_ok}
use Rattle.writing.specs.Writing.{Write, laid, refused, bits_of, bytes_for, padded, lay_of, write_of, written_of, area_of}
use Rattle.writing.proofs.RoundTrips.{Can, can_write, wrote_can, laid_length}
use Rattle.layouts.specs.Profiles.{profile_from}
use Rattle.layouts.specs.Values.{value_size, value_from}
use Rattle.console.specs.Console.{stop_of, cad_read_area, cad_read_stop, cad_write, cad_write_of, cad_write_area, cad_write_bits, write_number, write_bits}
use Rattle.console.specs.Drawing.{Alike, Copied, ReadsBack, Drawn}
use Rattle.console.proofs.CallLaws.{CadWrite, laid_number}
use Rattle.console.proofs.RoundTrips.{c_read_write, Went, went_laid, went}

-- ---- bytes, and the bits in them

-- a byte with another bit is a byte
set_byte : (l : List ℕ) (i b j : ℕ) → b < 2 → get_or l j 0 < 256 → get_or (set_bit l i b) j 0 < 256
unfolding set_bit with_digit
set_byte l i b j hb h = ⊎_elim here (λ n. rw (byte_set_other l i b j n) h) (eq_or j (i / 8))
  where
    x : ℕ
    x = get_or l (i / 8) 0

    y : ℕ
    y = with_digit x (7 - i % 8) b

    here : j ≡ i / 8 → get_or (set l (i / 8) y) j 0 < 256
    here e =
        ⊎_elim (λ inside. rw (e, get_or-set_same l (i / 8) y 0 inside) (byte_digit_lt refl (rw e at h) (omega arith) hb)) (λ past. rw (set_out l (i / 8) y past) h)
        (lt_or (i / 8) (length l))

put_byte : (l : List ℕ) (at : ℕ) (bs : List ℕ) (j : ℕ) → AreBits bs → get_or l j 0 < 256 → get_or (put_bits l at bs) j 0 < 256
unfolding put_bits
put_byte l at [] j hb h = h
put_byte l at (b ∷ bs) j hb h = put_byte (set_bit l at b) (suc at) bs j hb.1 (set_byte l at b j hb.0 h)

-- bytes of the same bits are the same
same_byte : (l m : List ℕ) (j : ℕ) → get_or l j 0 < 256 → get_or m j 0 < 256 → ((i : ℕ) → 8 * j ≤ i → i < 8 * j + 8 → bit_at l i ≡ bit_at m i)
    → get_or l j 0 ≡ get_or m j 0
same_byte l m j hl hm e = sym (byte_field l j hl) ∙ field_same (bit_at l) (bit_at m) (8 * j) 8 e ∙ byte_field m j hm

-- a field of 0 has no bit
zero_bits : (f : ℕ → ℕ) (at w : ℕ) → field_at f at w ≡ 0 → (i : ℕ) → at ≤ i → i < at + w → f i ≡ 0
unfolding field_at
zero_bits f at zero e i h k = absurd (omega arith)
zero_bits f at (suc w) e i h k =
    ⊎_elim (λ x. zero_bits f at w (omega arith) i h x) (λ (y : at + w ≤ i). let p : i ≡ at + w = omega arith in rw p (omega arith)) (lt_or i (at + w))

-- the bits from a position to the end of its byte, by what a shift leaves of the byte
pub spare_bits : (l : List ℕ) (at : ℕ) → get_or l (at / 8) 0 < 256 → get_or l (at / 8) 0 * 2 ^ (56 + at % 8) % 2 ^ 64 ≡ 0 → field_at (bit_at l) at (8 - at % 8) ≡ 0
spare_bits l at h e =
    let x = get_or l (at / 8) 0 in
    let r = at % 8 in
    let j = 8 - r in
    let k = 56 + r in
    let f = bit_at l in
    let t : j + k ≡ 64 = omega arith in
    let u : r + j ≡ 8 = omega arith in
    let p : 8 * (at / 8) + r ≡ at = omega arith in
    let parts : field_at f (8 * (at / 8)) r * 2 ^ j + field_at f at j ≡ x =
    sym (field_split f (8 * (at / 8)) r j ∙ ap (λ (q : ℕ). field_at f (8 * (at / 8)) r * 2 ^ j + field_at f q j) p) ∙ ap (λ (w : ℕ). field_at f (8 * (at / 8)) w) u ∙ byte_field l (at / 8) h in
    let rest : x % 2 ^ j ≡ field_at f at j = ap (λ (y : ℕ). y % 2 ^ j) (sym parts) ∙ low (field_at f (8 * (at / 8)) r) j (field_lt f (bit_lt l) at j) in
    let gone : x * 2 ^ k % 2 ^ (j + k) ≡ 0 = ap (λ (w : ℕ). x * 2 ^ k % 2 ^ w) t ∙ e in
    let top : x * 2 ^ k / 2 ^ k % 2 ^ j ≡ 0 = sym (field (x * 2 ^ k) j k) ∙ ap (λ (y : ℕ). y / 2 ^ k) gone ∙ zero-div (2 ^ k) in
    sym rest ∙ ap (λ (y : ℕ). y % 2 ^ j) (sym (shl-shr x k)) ∙ top

-- ---- bytes that are compared

pub alike_none : (a b : List ℕ) (from : ℕ) → Alike a b from from
alike_none a b from j h k = absurd (omega arith)

pub alike_more : (a b : List ℕ) (from i : ℕ) (s : Bool) → (s ≡ true → Alike a b from i) → s && eqb (get_or a i 0) (get_or b i 0) ≡ true → Alike a b from (i + 1)
alike_more a b from i true h e j g k =
    ⊎_elim (λ (x : j < i). h refl j g x) (λ (y : i ≤ j). let q : j ≡ i = omega arith in rw q (eqb-true _ _ e)) (lt_or j i)
alike_more a b from i false h e j g k = not_both e

pub alike_end : (a b : List ℕ) (from i to : ℕ) → Alike a b from i → to ≤ i → Alike a b from to
alike_end a b from i to h e j g k = h j g (omega arith)

pub alike_all : (a b : List ℕ) (m n : ℕ) → Alike a b 0 m → Alike a b m n → length a ≡ n → length b ≡ n → (a ≡ b) × (length a ≡ n)
alike_all a b m n h k ea eb =
    (ext_get_or 0 a b (ea ∙ sym eb) (λ j x. ⊎_elim (λ (y : j < m). h j (omega arith) y) (λ (y : m ≤ j). k j y (omega arith)) (lt_or j m)), ea)

-- ---- what is laid, byte by byte

module _ (l bs : List ℕ) (are : AreBits bs) where
  -- bits and zeros up to the end of their last byte
  abbrev rest : List ℕ
  rest = binary (spare (length bs)) 0

  whole_bits : AreBits (bs ++ rest)
  whole_bits = bits_join bs rest are (binary_bits (spare (length bs)) 0)

  whole_long : length (bs ++ rest) ≡ 8 * bytes_for (length bs)
  unfolding spare
  whole_long = omega (arith, length-append bs rest, length_binary (spare (length bs)) 0)

  laid_byte : (j : ℕ) → get_or l j 0 < 256 → get_or (lay_of l 0 bs) j 0 < 256
  unfolding lay_of padded
  laid_byte j h = put_byte l 0 (bs ++ rest) j whole_bits h

  laid_past : (j : ℕ) → bytes_for (length bs) ≤ j → get_or (lay_of l 0 bs) j 0 ≡ get_or l j 0
  unfolding lay_of padded
  laid_past j h = byte_other l 0 (bs ++ rest) j (inr (omega (arith, whole_long)))

  laid_spare : bytes_for (length bs) ≤ length l → (i : ℕ) → length bs ≤ i → i < 8 * bytes_for (length bs) → bit_at (lay_of l 0 bs) i ≡ 0
  unfolding lay_of padded
  laid_spare room i h k =
      let f = bit_at (put_bits l 0 (bs ++ rest)) in
      let st : Stands f (0 + length bs) rest = stands_right f 0 bs rest (put_stands l 0 (bs ++ rest) whole_bits (omega (arith, whole_long))) in
      zero_bits f (0 + length bs) (spare (length bs)) (read_binary f (0 + length bs) (spare (length bs)) 0 (pow_pos (spare (length bs))) st) i (omega arith)
      (omega (arith, whole_long, length-append bs rest, length_binary (spare (length bs)) 0))

  -- bytes that hold the bits, with zeros in the spare ones, are copied
  module _ (from : List ℕ) (small : (j : ℕ) → get_or l j 0 < 256) (room : bytes_for (length bs) ≤ length l)
      (agree : Agree (bit_at (lay_of l 0 bs)) (bit_at from) (length bs)) (none : field_at (bit_at from) (length bs) (8 - length bs % 8) ≡ 0) where
    bit_here : (i : ℕ) → i < 8 * bytes_for (length bs) → bit_at (lay_of l 0 bs) i ≡ bit_at from i
    bit_here i k =
        ⊎_elim (λ x. agree i x)
        (λ y. laid_spare room i y k ∙ sym (zero_bits (bit_at from) (length bs) (8 - length bs % 8) none i y (omega arith)))
        (lt_or i (length bs))

    laid_copied : (m : List ℕ) → Copied l from (bytes_for (length bs)) m → lay_of l 0 bs ≡ m
    laid_copied m c = ext_get_or 0 (lay_of l 0 bs) m (laid_length l 0 bs ∙ sym c.long) each
      where
        each : (j : ℕ) → j < length (lay_of l 0 bs) → get_or (lay_of l 0 bs) j 0 ≡ get_or m j 0
        each j h =
            ⊎_elim (λ k. same_byte (lay_of l 0 bs) from j (laid_byte j (small j)) (c.bytes j k) (λ i a b. bit_here i (omega arith)) ∙ sym (c.front j k))
            (λ k. laid_past j k ∙ sym (c.rest j k)) (lt_or j (bytes_for (length bs)))

-- ---- what is drawn

module _ (profile value l from : List ℕ) (n : ℕ) (back : ReadsBack profile value from n) (room : bytes_for n ≤ length l) where
  abbrev p : Profile
  p = profile_from profile

  abbrev v : Value
  v = value_from value

  -- the round trip
  trip : (b : ℕ) → (cad_write_of profile value l ≡ 0) × ((cad_write_bits profile value l b ≡ n) × Agree (bit_at (cad_write_area profile value l)) (bit_at from) n)
  trip b =
      subst (λ (x : List ℕ). (cad_write_of profile x l ≡ 0) × ((cad_write_bits profile x l b ≡ n) × Agree (bit_at (cad_write_area profile x l)) (bit_at from) n)) back.bytes
      (c_read_write profile from n back.area l b room back.read)

  module _ (small : (j : ℕ) → get_or l j 0 < 256) (none : field_at (bit_at from) n (8 - n % 8) ≡ 0) (m : List ℕ)
      (copied : Copied l from (bytes_for n) m) where
    by_laid : (a : List ℕ) (k : ℕ) → write_of p v l 0 ≡ laid a k → k ≡ n → Agree (bit_at a) (bit_at from) n → laid a k ≡ laid m n
    unfolding written_of bits_of valid_of area_of write_bits
    by_laid a k e kn agree =
        let can : Can p v l 0 = wrote_can p v l 0 (ap (λ (x : Write). is_ok (written_of x)) e) in
        let bs = bits_of p.air v in
        let same : laid a k ≡ laid (lay_of l 0 bs) (length bs) = sym e ∙ can_write p v l 0 can in
        let ea : a ≡ lay_of l 0 bs = ap (λ (x : Write). area_of l x) same in
        let long : n ≡ length bs = sym kn ∙ ap (λ (x : Write). write_bits 0 x) same in
        let is_zero : field_at (bit_at from) (length bs) (8 - length bs % 8) ≡ 0 = subst (λ (q : ℕ). field_at (bit_at from) q (8 - q % 8) ≡ 0) long none in
        let agrees : Agree (bit_at (lay_of l 0 bs)) (bit_at from) (length bs) =
        subst (λ (x : List ℕ). Agree (bit_at x) (bit_at from) (length bs)) ea (subst (λ (q : ℕ). Agree (bit_at a) (bit_at from) q) long agree) in
        let em : lay_of l 0 bs ≡ m =
        laid_copied l bs ((good_message p.air).are_bits v can.valid) from small (subst (λ (q : ℕ). bytes_for q ≤ length l) long room) agrees is_zero m
        (subst (λ (q : ℕ). Copied l from (bytes_for q) m) long copied) in
        ap (λ (x : List ℕ). laid x k) (ea ∙ em) ∙ ap (λ (q : ℕ). laid m q) kn

    pub drawn_laid : Drawn profile value l m n
    unfolding cad_write_bits cad_write_area write_bits area_of
    drawn_laid = record { none = empty; some = λ _. go (cad_write profile value l) refl (went profile value l) }
      where
        empty : n ≡ 0 → m ≡ l
        empty z = ext_get_or 0 m l copied.long (λ j h. copied.rest j (omega arith))

        go : (x : Write) → cad_write profile value l ≡ x → Went profile value l x → x ≡ laid m n
        go (laid a k) e (went_laid w) =
            by_laid a k w.write (sym (ap (λ (x : Write). write_bits 0 x) e) ∙ (trip 0).1.0)
            (subst (λ (x : Write). Agree (bit_at (area_of l x)) (bit_at from) n) e (trip 0).1.1)
        go (refused s) e c = let z : suc n ≡ n = sym (ap (λ (x : Write). write_bits (suc n) x) e) ∙ (trip (suc n)).1.0 in absurd (omega arith)

-- what was read into an area and stands there as the value's bytes
pub reads_back : (profile value message : List ℕ) (n : ℕ) (old new : List ℕ) (r : Result ⊤ Stop) → stop_of r ≡ cad_read_stop profile message n old
    → new ≡ cad_read_area profile message n old → is_err r ≡ false → (value ≡ new) × (length value ≡ value_size) → ReadsBack profile value message n
reads_back profile value message n old new (Err s) e a z same = not_both (sym z)
reads_back profile value message n old new (Ok done) e a z same =
    record {
      area = old;
      read = sym (laid_number profile message n old e);
      bytes = ap (λ (x : List ℕ). take value_size x) (sym (same.0 ∙ a)) ∙ take_all value_size value (omega (arith, same.1));
    }

-- nothing was drawn that can go out
pub drawn_not : (profile value l : List ℕ) → Drawn profile value l l 0
drawn_not profile value l = record { none = λ _. refl; some = λ n. absurd (n refl) }

-- ---- what `cad_write` answers then

module _ (profile value l m : List ℕ) (n : ℕ) (d : Drawn profile value l m n) (b₀ : ℕ) where
  pub drawn_0 : 0 < n → CadWrite profile value l b₀ 0 m n
  unfolding cad_write_of cad_write_area cad_write_bits write_number write_bits area_of
  drawn_0 h = rw (d.some (λ e. omega arith)) (refl, (refl, refl))

  -- nothing went out, and all stands as it stood
  pub drawn_past : n ≤ 0 → (c : ℕ) (a : List ℕ) (b : ℕ) → CadWrite profile value m b₀ c a b → CadWrite profile value l b₀ c a b
  drawn_past h c a b = subst (λ (x : List ℕ). CadWrite profile value x b₀ c a b) (d.none (omega arith))
