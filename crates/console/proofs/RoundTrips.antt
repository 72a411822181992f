-- The round trips as a C caller sees them, on bytes alone:
--     c-read-write   the bytes that `cad_read` laid, `cad_write` writes as the bits that were read
--     c-write-read   what `cad_write` wrote of a value's bytes, `cad_read` lays as those bytes
-- and that an answer other than 0 is in the table of refusals, so that 0 is none: c-read-known, c-write-known. Assumes nothing.
use Rattle.std.proofs.Common.{◌≡◌, ℕ, ◌+◌, ◌≤◌, Bool, true, false, cond, leb, List, length, take, sym, refl, ap, ◌∙◌, leb-true}
use lib.Seq.{sets}
use Rattle.bits.specs.Fields.{bit_at}
use Rattle.codec.specs.Stops.{refusal, published}
use Rattle.codec.specs.Codec.{Read, got, no}
use Rattle.codec.proofs.Good.{Agree, not_both, both_left}
use Rattle.codec.specs.declared.Stop.{Stop}
use Rattle.profile.specs.Rules.{profile_ok}
use Rattle.profile.specs.declared.Profile.{Profile}
use Rattle.std.specs.Prelude.{Ok}
use Rattle.message.specs.Reading.{read_of}
use Rattle.message.proofs.StopLaws.{read_published}
use Rattle.message.specs.declared.Value.{Value}
use Rattle.reading.specs.Answers.{reading_of}
use Rattle.validity.specs.Validity.{valid_of}
use Rattle.writing.specs.Writing.{bits_of, bytes_for, lay_of, lay_in, Write, laid, refused, write_valid, write_of, written_of, area_of}
use Rattle.writing.proofs.RoundTrips.{read_write, write_read, read_valid}
use Rattle.layouts.specs.Profiles.{passes, profile_from}
use Rattle.layouts.specs.Values.{value_size, value_bytes, value_from, is_value}
use Rattle.console.specs.Console.{room_for, cad_read, read_number, read_area, cad_read_of, cad_read_area, cad_write, write_number, write_bits, cad_write_of, cad_write_area, cad_write_bits}
use Rattle.console.proofs.CallLaws.{read_0, laid_number, done_leaves}
use Rattle.layouts.proofs.RowLaws.{AreBytes}
use Rattle.layouts.proofs.LayoutLaws.{value_there, value_back, value_taken, area_value}

-- ---- no refusal has the number 0

not_zero : {A : Type 0} (c : ℕ) → published c ≡ true → c ≡ 0 → A
unfolding published
not_zero {A} c e z = not_both (sym (ap (λ (k : ℕ). published k) z) ∙ e)

-- the numbers that the interface and writing give
known_1 : published 1 ≡ true
unfolding published
known_1 = refl

known_14 : published 14 ≡ true
unfolding published
known_14 = refl

known_22 : published 22 ≡ true
unfolding published
known_22 = refl

module _ (profile : List ℕ) where
  abbrev p : Profile
  p = profile_from profile

  -- ---- what `cad_read` found, or refused

  -- the grounds on which a value is laid in an area of k bytes
  record Was (message : List ℕ) (n k : ℕ) (v : Value) (q : ℕ) : Type 0 where
    ok : passes profile ≡ true
    read : read_of p message n ≡ got v q
    room : value_size ≤ k

  data Came (message : List ℕ) (n k : ℕ) : Read Value → Type 0 where
    came_got : {v : Value} {q : ℕ} → Was message n k v q → Came message n k (got v q)
    came_no : {s : Stop} → published s.number ≡ true → Came message n k (no s)

  came : (message : List ℕ) (n k : ℕ) → Came message n k (cad_read profile message n k)
  unfolding cad_read room_for refusal
  came message n k = go (passes profile) refl
    where
      room : passes profile ≡ true → (v : Value) (q : ℕ) → read_of p message n ≡ got v q → (b : Bool) → leb value_size k ≡ b
          → Came message n k (cond b (got v q) (no (refusal 14)))
      room ok v q e true h = came_got (record { ok = ok; read = e; room = leb-true value_size k h })
      room ok v q e false h = came_no known_14

      found : passes profile ≡ true → (x : Read Value) → read_of p message n ≡ x → Came message n k (room_for k x)
      found ok (got v q) e = room ok v q e (leb value_size k) refl
      found ok (no s) e = came_no (read_published p message n s e)

      go : (b : Bool) → passes profile ≡ b → Came message n k (cond b (room_for k (read_of p message n)) (no (refusal 1)))
      go true ok = found ok (read_of p message n) refl
      go false ok = came_no known_1

  -- an answer of `cad_read` is 0, or a number of the table
  pub c_read_known : (message : List ℕ) (n : ℕ) (area : List ℕ) → (cad_read_of profile message n area ≡ 0 → ⊥) → published (cad_read_of profile message n area) ≡ true
  unfolding cad_read_of read_number
  c_read_known message n area = go (cad_read profile message n (length area)) (came message n (length area))
    where
      go : (x : Read Value) → Came message n (length area) x → (read_number x ≡ 0 → ⊥) → published (read_number x) ≡ true
      go (got v q) c z = absurd (z refl)
      go (no s) (came_no k) z = k

  -- ---- what `cad_write` wrote, or refused

  pub record WroteBy (value l a : List ℕ) (n : ℕ) : Type 0 where
    pub ok : passes profile ≡ true
    pub shape : is_value value ≡ true
    pub write : write_of p (value_from value) l 0 ≡ laid a n

  pub data Went (value l : List ℕ) : Write → Type 0 where
    went_laid : {a : List ℕ} {n : ℕ} → WroteBy value l a n → Went value l (laid a n)
    went_no : {s : Stop} → published s.number ≡ true → Went value l (refused s)

  -- writing's own numbers
  data WritesKnown : Write → Type 0 where
    known_laid : {a : List ℕ} {n : ℕ} → WritesKnown (laid a n)
    known_no : {s : Stop} → published s.number ≡ true → WritesKnown (refused s)

  writes_known : (v : Value) (l : List ℕ) → WritesKnown (write_of p v l 0)
  unfolding write_of write_valid lay_in refusal
  writes_known v l = go (profile_ok p) (valid_of p.air v) (leb (0 + bytes_for (length (bits_of p.air v))) (length l))
    where
      go : (x y z : Bool)
          → WritesKnown (cond x (cond y (cond z (laid (lay_of l 0 (bits_of p.air v)) (length (bits_of p.air v))) (refused (refusal 14))) (refused (refusal 22))) (refused (refusal 1)))
      go true true true = known_laid
      go true true false = known_no known_14
      go true false z = known_no known_22
      go false y z = known_no known_1

  pub went : (value l : List ℕ) → Went value l (cad_write profile value l)
  unfolding cad_write refusal
  went value l = go (passes profile) refl (is_value value) refl
    where
      by : passes profile ≡ true → is_value value ≡ true → (x : Write) → write_of p (value_from value) l 0 ≡ x → WritesKnown x → Went value l x
      by ok shape (laid a n) e k = went_laid (record { ok = ok; shape = shape; write = e })
      by ok shape (refused s) e (known_no k) = went_no k

      go : (b : Bool) → passes profile ≡ b → (c : Bool) → is_value value ≡ c
          → Went value l (cond b (cond c (write_of p (value_from value) l 0) (refused (refusal 22))) (refused (refusal 1)))
      go true ok true shape = by ok shape (write_of p (value_from value) l 0) refl (writes_known (value_from value) l)
      go true ok false shape = went_no known_22
      go false ok c shape = went_no known_1

  -- an answer of `cad_write` is 0, or a number of the table
  pub c_write_known : (value l : List ℕ) → (cad_write_of profile value l ≡ 0 → ⊥) → published (cad_write_of profile value l) ≡ true
  unfolding cad_write_of write_number
  c_write_known value l = go (cad_write profile value l) (went value l)
    where
      go : (x : Write) → Went value l x → (write_number x ≡ 0 → ⊥) → published (write_number x) ≡ true
      go (laid a n) c z = absurd (z refl)
      go (refused s) (went_no k) z = k

  -- ---- reading, then writing

  module _ (message : List ℕ) (n : ℕ) (area l : List ℕ) (b : ℕ) (room : bytes_for n ≤ length l) where
    -- the bytes value are written as the n bits of the message
    abbrev WritesBack : List ℕ → Type 0
    WritesBack value =
        (cad_write_of profile value l ≡ 0) × ((cad_write_bits profile value l b ≡ n) × Agree (bit_at (cad_write_area profile value l)) (bit_at message) n)

    was_back : (v : Value) (q : ℕ) → Was message n (length area) v q → WritesBack (take value_size (sets area 0 (value_bytes v)))
    unfolding cad_write_of cad_write_area cad_write_bits cad_write reading_of
    was_back v q w =
        let reads = ap (λ (y : Read Value). reading_of y) (sym w.read) in
        let valid : valid_of p.air v ≡ true = read_valid p message n (reading_of (got v q)) v reads refl in
        let x = write_of p v l 0 in
        let trip = write_read p message n (reading_of (got v q)) v l (area_of l x) (written_of x) reads refl room (refl, refl) in
        let done = done_leaves l (area_of l x) b (written_of x) x n refl refl trip.0 in
        rw (area_value p.air v area valid w.room, w.ok, value_taken p.air v valid, value_back p.air v valid)
        (sym done.0, (sym done.1.1, trip.1))

    pub c_read_write : cad_read_of profile message n area ≡ 0 → WritesBack (take value_size (cad_read_area profile message n area))
    unfolding cad_read_of cad_read_area read_number read_area
    c_read_write = go (cad_read profile message n (length area)) (came message n (length area))
      where
        go : (x : Read Value) → Came message n (length area) x → read_number x ≡ 0 → WritesBack (take value_size (read_area area x))
        go (got v q) (came_got w) z = was_back v q w
        go (no s) (came_no k) z = not_zero s.number k z

  -- ---- writing, then reading

  module _ (value l area : List ℕ) (b : ℕ) (are : AreBytes value) (room : value_size ≤ length area) where
    -- the n bits of the message are read as the bytes of the value
    abbrev IsReadBack : List ℕ → ℕ → Type 0
    IsReadBack message n = (cad_read_of profile message n area ≡ 0) × (cad_read_area profile message n area ≡ sets area 0 value)

    laid_back : (a : List ℕ) (n : ℕ) → WroteBy value l a n → IsReadBack a n
    unfolding written_of area_of passes
    laid_back a n w =
        let v = value_from value in
        let r = reading_of (read_of p a n) in
        let trip : r ≡ Ok v =
        read_write p v l a (written_of (laid a n)) n r (ap (λ (x : Write). written_of x) (sym w.write), ap (λ (x : Write). area_of l x) (sym w.write)) refl refl in
        let back : value_bytes v ≡ value = value_there value are w.shape in
        let found = read_0 profile a n area (both_left _ _ w.ok) p refl r refl v trip room (sets area 0 (value_bytes v)) refl in
        (sym (laid_number profile a n area found.0), sym found.1 ∙ ap (λ (x : List ℕ). sets area 0 x) back)

    pub c_write_read : cad_write_of profile value l ≡ 0 → IsReadBack (cad_write_area profile value l) (cad_write_bits profile value l b)
    unfolding cad_write_of cad_write_area cad_write_bits write_number write_bits area_of
    c_write_read = go (cad_write profile value l) (went value l)
      where
        go : (x : Write) → Went value l x → write_number x ≡ 0 → IsReadBack (area_of l x) (write_bits b x)
        go (laid a n) (went_laid w) z = laid_back a n w
        go (refused s) (went_no k) z = not_zero s.number k z
