-- What `cad_read`, `cad_read_at` and `cad_write` answer and leave at each of their returns. Assumes nothing.
use Rattle.std.proofs.Common.{◌≡◌, ℕ, ◌<◌, ◌≤◌, Bool, true, false, cond, leb, List, length, get_or, drop, replicate, sym, refl, ap, ◌∙◌, subst, arith, eq-eqb, ne_eqb, le-leb}
use Rattle.std.specs.Prelude.{Result, Ok, Err, Option, IfSome}
use Rattle.std.specs.Result.{result_err}
use lib.Seq.{sets}
use borrow.Author.Tests.{lt-leb}
use Rattle.codec.specs.Stops.{refusal, no_stop}
use Rattle.codec.specs.declared.Stop.{Stop}
use Rattle.codec.specs.Codec.{Read, got, no, both}
use Rattle.codec.proofs.Good.{both_right}
use Rattle.profile.specs.Rules.{profile_ok}
use Rattle.profile.specs.declared.Profile.{Profile}
use Rattle.message.specs.Reading.{read_bits, read_of}
use Rattle.message.specs.declared.Value.{Value}
use Rattle.message.proofs.BreakLaws.{position_most}
use Rattle.reading.specs.Answers.{reading_of}
use Rattle.reading.specs.Walks.{type_in, type_of}
use Rattle.writing.specs.Writing.{Write, laid, refused, write_of, written_of, area_of}
use Rattle.validity.specs.Validity.{valid_of}
use Rattle.writing.proofs.RoundTrips.{read_valid}
use Rattle.layouts.specs.Profiles.{air_from, is_profile, passes, profile_from}
use Rattle.layouts.specs.Values.{value_size, value_bytes, lists_bytes, value_from, is_value}
use Rattle.layouts.proofs.ListLaws.{no_lists_lem, lists_zero}
use Rattle.layouts.proofs.LaidLaws.{lists_behind}
use Rattle.layouts.proofs.RowReads.{Reads}
use Rattle.console.specs.Console.{room_for, cad_read, Refused, read_number, read_stop, read_area, cad_read_stop, cad_read_of, cad_read_area, tells, cad_read_position, cad_read_element, cad_write, write_number, write_bits, cad_write_of, cad_write_area, cad_write_bits}

-- ---- reading

-- the refusal s, and the area a afterwards, where l stood, are those of a reading x
abbrev ReadLeaves : Stop → List ℕ → List ℕ → Read Value → Type 0
ReadLeaves s l a x = (s ≡ read_stop x) × (a ≡ read_area l x)

module _ (l : List ℕ) where
  found_short : (x : Read Value) (v : Value) → reading_of x ≡ Ok v → length l < value_size → ReadLeaves (refusal 14) l l (room_for (length l) x)
  unfolding reading_of room_for read_stop read_area
  found_short (got u q) v e h = rw (lt-leb value_size (length l) h) (refl, refl)
  found_short (no s) v e h = let z : ◌≡◌ {A = ℕ} 0 1 = cc in absurd (omega arith)

  found_room : (x : Read Value) (v : Value) → reading_of x ≡ Ok v → value_size ≤ length l → (a : List ℕ) → a ≡ sets l 0 (value_bytes v)
      → ReadLeaves no_stop l a (room_for (length l) x)
  unfolding reading_of room_for read_stop read_area
  found_room (got u q) v e h a w =
      let z : v ≡ u = cc in rw (le-leb value_size (length l) h) (refl, w ∙ ap (λ (y : Value). sets l 0 (value_bytes y)) z)
  found_room (no s) v e h a w = let z : ◌≡◌ {A = ℕ} 0 1 = cc in absurd (omega arith)

  found_not : (x : Read Value) (s : Stop) → reading_of x ≡ Err s → ReadLeaves s l l (room_for (length l) x)
  unfolding reading_of room_for read_stop read_area
  found_not (got u q) s e = let z : ◌≡◌ {A = ℕ} 0 1 = cc in absurd (omega arith)
  found_not (no t) s e = let z : s ≡ t = cc in (z, refl)

module _ (profile message : List ℕ) (n : ℕ) (l : List ℕ) where
  -- by the contract of `read_into`
  abbrev pub CadStop : Stop → List ℕ → Type 0
  CadStop s a = (s ≡ cad_read_stop profile message n l) × (a ≡ cad_read_area profile message n l)

  -- a profile that breaks a rule is refused by `read`, with 1 too
  by_shape : is_profile profile ≡ true → cad_read profile message n (length l) ≡ room_for (length l) (read_of (profile_from profile) message n)
  unfolding cad_read passes read_of room_for both
  by_shape e = rw e (go (profile_ok (profile_from profile)))
    where
      go : (b : Bool)
          → cond b (room_for (length l) (cond b (read_bits (profile_from profile).air message n) (no (refusal 1)))) (no (refusal 1))
          ≡ room_for (length l) (cond b (read_bits (profile_from profile).air message n) (no (refusal 1)))
      go true = refl
      go false = refl

  pub read_1 : is_profile profile ≡ false → CadStop (refusal 1) l
  unfolding cad_read_stop cad_read_area cad_read passes both read_stop read_area
  read_1 e = rw e (refl, refl)

  module _ (ok : is_profile profile ≡ true) (p : Profile) (is : p ≡ profile_from profile) (r : Result Value Stop) (said : r ≡ reading_of (read_of p message n)) where
    same : reading_of (read_of (profile_from profile) message n) ≡ r
    same = sym (said ∙ ap (λ (x : Profile). reading_of (read_of x message n)) is)

    pub read_14 : (v : Value) → r ≡ Ok v → length l < value_size → CadStop (refusal 14) l
    unfolding cad_read_stop cad_read_area
    read_14 v f h = rw (by_shape ok) (found_short l (read_of (profile_from profile) message n) v (same ∙ f) h)

    pub read_0 : (v : Value) → r ≡ Ok v → value_size ≤ length l → (a : List ℕ) → a ≡ sets l 0 (value_bytes v) → CadStop no_stop a
    unfolding cad_read_stop cad_read_area
    read_0 v f h a w = rw (by_shape ok) (found_room l (read_of (profile_from profile) message n) v (same ∙ f) h a w)

    pub read_no : (s : Stop) → r ≡ Err s → CadStop s l
    unfolding cad_read_stop cad_read_area
    read_no s f = rw (by_shape ok) (found_not l (read_of (profile_from profile) message n) s (same ∙ f))

  -- ---- what was laid as it was read

  by_passes : passes profile ≡ true → read_of (profile_from profile) message n ≡ read_bits (air_from profile) message n
  unfolding passes read_of profile_from
  by_passes ok = rw (both_right (is_profile profile) (profile_ok (profile_from profile)) ok)

  -- ---- what a walk refused

  pub refused_leaves : (s : Stop) → Refused profile message n s → CadStop s l
  unfolding cad_read_stop cad_read_area read_stop read_area
  refused_leaves s h = rw (h (length l)) (refl, refl)

  module _ (ok : passes profile ≡ true) (t : Stop) (said : type_of (type_in (read_bits (air_from profile) message n)) ≡ Err t) where
    stopped : (x : Read Value) → type_of (type_in x) ≡ Err t → (k : ℕ) → room_for k x ≡ no t
    unfolding type_of room_for
    stopped (got v p) e k = let z : ◌≡◌ {A = ℕ} 0 1 = cc in absurd (omega arith)
    stopped (no s) e k = let z : s ≡ t = cc in ap (λ (y : Stop). no y) z

    walk_refused : Refused profile message n t
    unfolding cad_read
    walk_refused k = rw (ok, by_passes ok) (stopped (read_bits (air_from profile) message n) said k)

  pub err_refused : passes profile ≡ true → (r : Result ℕ Stop) → type_of (type_in (read_bits (air_from profile) message n)) ≡ r → (o : Option Stop) → o ≡ result_err r
      → IfSome o (λ s. Refused profile message n s)
  err_refused ok r said o e = rw e (go r said)
    where
      go : (r : Result ℕ Stop) → type_of (type_in (read_bits (air_from profile) message n)) ≡ r → IfSome (result_err r) (λ s. Refused profile message n s)
      go (Ok t) said = tt
      go (Err s) said = walk_refused ok s said

  module _ (ok : passes profile ≡ true) (area : List ℕ) (x : Reads (air_from profile) message n area) where
    found_so : read_of (profile_from profile) message n ≡ got x.value n
    found_so = by_passes ok ∙ x.read

    pub quick_0 : value_size ≤ length l → (m : List ℕ) → m ≡ sets l 0 area → CadStop no_stop m
    unfolding cad_read_stop cad_read_area cad_read room_for read_stop read_area
    quick_0 h m e = rw (ok, found_so, le-leb value_size (length l) h) (refl, e ∙ ap (λ (bs : List ℕ). sets l 0 bs) x.laid.bytes)

    valid_so : valid_of (air_from profile) x.value ≡ true
    unfolding reading_of profile_from
    valid_so = read_valid (profile_from profile) message n (reading_of (read_of (profile_from profile) message n)) x.value refl (ap (λ (y : Read Value). reading_of y) found_so)

    type_there : get_or area 0 0 ≡ x.value.pdu
    unfolding value_bytes
    type_there = ap (λ (y : List ℕ). get_or y 0 0) x.laid.bytes

    -- no lists but of an INTERROGATE ACK
    pub quick_tail : (get_or area 0 0 ≡ 9 → ⊥) → drop 243 area ≡ replicate 228 0
    quick_tail other =
        let none = no_lists_lem (air_from profile) x.value valid_so (λ e. other (type_there ∙ e)) in
        ap (λ (y : List ℕ). drop 243 y) x.laid.bytes ∙ lists_behind x.value x.laid.fits ∙ ap lists_bytes none ∙ lists_zero

  -- of an area that stayed as it was
  pub same_stop : (l₁ : List ℕ) → l₁ ≡ l → (s : Stop) (a : List ℕ) → (s ≡ cad_read_stop profile message n l₁) × (a ≡ cad_read_area profile message n l₁) → CadStop s a
  same_stop l₁ e s a h = subst (λ (y : List ℕ). (s ≡ cad_read_stop profile message n y) × (a ≡ cad_read_area profile message n y)) e h

  number_of : (x : Read Value) → (read_stop x).number ≡ read_number x
  unfolding read_stop read_number no_stop
  number_of (got v q) = refl
  number_of (no s) = refl

  -- the number that is answered
  pub read_number_lem : (s : Stop) → s ≡ cad_read_stop profile message n l → s.number ≡ cad_read_of profile message n l
  unfolding cad_read_stop cad_read_of
  read_number_lem s e = ap (λ (t : Stop). t.number) e ∙ number_of (cad_read profile message n (length l))

  pub laid_number : no_stop ≡ cad_read_stop profile message n l → 0 ≡ cad_read_of profile message n l
  unfolding no_stop
  laid_number e = read_number_lem no_stop e

  plain_low : (c : ℕ) → (refusal c).at ≤ 4096
  unfolding refusal
  plain_low c = omega arith

  none_low : no_stop.at ≤ 4096
  unfolding no_stop
  none_low = omega arith

  room_low : (x : Read Value) → ((s : Stop) → x ≡ no s → s.at ≤ 4096) → (read_stop (room_for (length l) x)).at ≤ 4096
  unfolding room_for read_stop
  room_low (no s) h = h s refl
  room_low (got v q) h = go (leb value_size (length l))
    where
      go : (b : Bool) → (read_stop (cond b (got v q) (no (refusal 14)))).at ≤ 4096
      go true = none_low
      go false = plain_low 14

  -- a position is at most 2,048, so it crosses whole
  pub position_low : (s : Stop) → s ≡ cad_read_stop profile message n l → s.at ≤ 4096
  unfolding cad_read_stop cad_read read_stop
  position_low s e = subst (λ (t : Stop). t.at ≤ 4096) (sym e) (go (passes profile))
    where
      go : (b : Bool) → (read_stop (cond b (room_for (length l) (read_of (profile_from profile) message n)) (no (refusal 1)))).at ≤ 4096
      go true = room_low (read_of (profile_from profile) message n) (position_most (profile_from profile) message n)
      go false = plain_low 1

  -- a 4 is told, and any other answer leaves what stood there
  module _ (s : Stop) (e : s ≡ cad_read_stop profile message n l) where
    pub told_position : s.number ≡ 4 → (x : ℕ) → s.at ≡ cad_read_position profile message n l x
    unfolding cad_read_position tells
    told_position four x = rw (← e, eq-eqb s.number 4 four)

    pub told_element : s.number ≡ 4 → (x : ℕ) → s.element ≡ cad_read_element profile message n l x
    unfolding cad_read_element tells
    told_element four x = rw (← e, eq-eqb s.number 4 four)

    pub left_position : (s.number ≡ 4 → ⊥) → (x : ℕ) → x ≡ cad_read_position profile message n l x
    unfolding cad_read_position tells
    left_position other x = rw (← e, ne_eqb s.number 4 other)

    pub left_element : (s.number ≡ 4 → ⊥) → (x : ℕ) → x ≡ cad_read_element profile message n l x
    unfolding cad_read_element tells
    left_element other x = rw (← e, ne_eqb s.number 4 other)

  module _ (e : no_stop ≡ cad_read_stop profile message n l) (x : ℕ) where
    pub laid_position : x ≡ cad_read_position profile message n l x
    unfolding no_stop
    laid_position = left_position no_stop e (λ z. absurd (omega (arith, z))) x

    pub laid_element : x ≡ cad_read_element profile message n l x
    unfolding no_stop
    laid_element = left_element no_stop e (λ z. absurd (omega (arith, z))) x

-- ---- writing

-- the answer c, the area a and the length b afterwards, where l and b₀ stood, are those of a writing x
abbrev pub WriteLeaves : ℕ → List ℕ → List ℕ → ℕ → ℕ → Write → Type 0
WriteLeaves c l a b₀ b x = (c ≡ write_number x) × ((a ≡ area_of l x) × (b ≡ write_bits b₀ x))

module _ (l a : List ℕ) (b : ℕ) (w : Result ℕ Stop) where
  pub done_leaves : (x : Write) (k : ℕ) → w ≡ written_of x → a ≡ area_of l x → w ≡ Ok k → WriteLeaves 0 l a b k x
  unfolding written_of write_number write_bits
  done_leaves (laid m n) k e h d = let z : k ≡ n = cc in (refl, (h, z))
  done_leaves (refused s) k e h d = let z : ◌≡◌ {A = ℕ} 0 1 = cc in absurd (omega arith)

  not_leaves : (x : Write) (t : Stop) → w ≡ written_of x → a ≡ area_of l x → w ≡ Err t → WriteLeaves t.number l a b b x
  unfolding written_of write_number write_bits
  not_leaves (laid m n) t e h d = let z : ◌≡◌ {A = ℕ} 0 1 = cc in absurd (omega arith)
  not_leaves (refused s) t e h d = let z : t ≡ s = cc in (ap (λ (y : Stop). y.number) z, (h, refl))

module _ (profile value l : List ℕ) (b₀ : ℕ) where
  -- by the contract of `cad_write`
  abbrev pub CadWrite : ℕ → List ℕ → ℕ → Type 0
  CadWrite c a b = (c ≡ cad_write_of profile value l) × ((a ≡ cad_write_area profile value l) × (b ≡ cad_write_bits profile value l b₀))

  pub write_1 : passes profile ≡ false → CadWrite 1 l b₀
  unfolding cad_write_of cad_write_area cad_write_bits cad_write write_number write_bits area_of refusal
  write_1 e = rw e (refl, (refl, refl))

  pub write_22 : passes profile ≡ true → is_value value ≡ false → CadWrite 22 l b₀
  unfolding cad_write_of cad_write_area cad_write_bits cad_write write_number write_bits area_of refusal
  write_22 e f = rw (e, f) (refl, (refl, refl))

  module _ (ok : passes profile ≡ true) (shape : is_value value ≡ true) (p : Profile) (is : p ≡ profile_from profile) (v : Value) (are : v ≡ value_from value)
      (w : Result ℕ Stop) (a : List ℕ) (said : (w ≡ written_of (write_of p v l 0)) × (a ≡ area_of l (write_of p v l 0))) where
    same_write : write_of p v l 0 ≡ write_of (profile_from profile) (value_from value) l 0
    same_write = ap (λ (x : Profile). write_of x v l 0) is ∙ ap (λ (x : Value). write_of (profile_from profile) x l 0) are

    pub write_0 : (k : ℕ) → w ≡ Ok k → CadWrite 0 a k
    unfolding cad_write_of cad_write_area cad_write_bits cad_write
    write_0 k d =
        rw (ok, shape) (done_leaves l a b₀ w _ k (said.0 ∙ ap (λ (x : Write). written_of x) same_write) (said.1 ∙ ap (λ (x : Write). area_of l x) same_write) d)

    pub write_no : (t : Stop) → w ≡ Err t → CadWrite t.number a b₀
    unfolding cad_write_of cad_write_area cad_write_bits cad_write
    write_no t d =
        rw (ok, shape) (not_leaves l a b₀ w _ t (said.0 ∙ ap (λ (x : Write). written_of x) same_write) (said.1 ∙ ap (λ (x : Write). area_of l x) same_write) d)
