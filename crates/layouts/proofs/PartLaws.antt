-- The bytes of the value so far, and those of the value that a part read makes of it. Assumes nothing.
use Prim.Native.Nat.{ℕ, zero, suc, ◌+◌, ◌-◌, ◌*◌, ◌/◌, ◌%◌, ◌≤◌, ◌<◌, ◌^◌, min}
use mathlib.Core.Path.{◌≡◌, refl, sym, ap, ◌∙◌, subst}
use mathlib.Core.Bool.{Bool, true, false}
use mathlib.Core.List.{List, [], ◌∷◌, append-nil}
use native.Mathlib.Nat.{lt_of_lt_of_le, mod-eq_of_lt}
use native.Mathlib.Omega.{arith}
use lib.ListN.{length, get_or, set}
use lib.Pow.{pow_mono}
use lib.Seq.{sets}
use Rattle.codec.specs.Codec.{Codec, Read, got, no, bind, vec_read}
use Rattle.codec.specs.Options.{flag}
use Rattle.codec.proofs.Good.{Good, Binary, View, found, refused, Ended, came, failed, broke, not_both}
use Rattle.codec.proofs.Combinators.{number_got}
use Rattle.bits.specs.Fields.{bit_at, field_at}
use Rattle.bits.proofs.FieldLaws.{bit_lt, field_lt, field_split}
use Rattle.profile.specs.declared.Air.{Air}
use Rattle.message.specs.Elements as element
use Rattle.message.specs.Numbers as place
use Rattle.message.specs.Numbers.{element_of, widths, width_of}
use Rattle.message.specs.Addresses.{nobody, address_c}
use Rattle.message.specs.Groups.{group_c, span_of}
use Rattle.message.specs.Areas.{areas_c}
use Rattle.message.specs.Acks.{mask_c, masked_c, result_c, why_not_c, if_accepted_c, state_c}
use Rattle.message.specs.Values.{with_number, with_given}
use Rattle.message.specs.Rows.{Holds, part_c, put}
use Rattle.message.specs.declared.Address.{Address}
use Rattle.message.specs.declared.Group.{Group}
use Rattle.message.specs.declared.Areas.{Areas}
use Rattle.message.specs.declared.State.{State}
use Rattle.message.specs.declared.Part.{Part}
use Rattle.message.specs.declared.Part.TheVariants as part
use Rattle.message.specs.declared.Value.{Value}
use Rattle.message.proofs.GroupLaws.{good_group}
use Rattle.message.proofs.AreaLaws.{good_areas}
use Rattle.message.proofs.MessageLaws.{good_part}
use Rattle.reading.specs.Parts.{part_read}
use Rattle.layouts.specs.Bytes.{number_bytes, rows_bytes}
use Rattle.layouts.specs.Values.{address_bytes, group_bytes, areas_bytes, value_bytes}
use Rattle.layouts.proofs.FitLaws.{ValueFits, sizes, size_of, number_fits, has_bytes, part_fits, group_fits, areas_fit, with_given_lem}
use Rattle.layouts.proofs.LaidLaws.{identifier_bytes, cause_bytes, result_bytes, reason_bytes, mni_bytes, calling_area_bytes, called_area_bytes, calling_service_bytes, called_service_bytes, activation_bytes, interception_bytes, group_users, group_dispatchers, group_sources, group_destinations, all_areas, whole_mask, user_bytes, dispatcher_bytes, first_given, more_given}

-- the bytes a are those of the value v, which the layout has room for
pub record Laid (a : List ℕ) (v : Value) : Type 0 where
  pub bytes : a ≡ value_bytes v
  pub fits : ValueFits v

-- what is read from position at up to position r, of any length that reaches so far, has the bytes b
pub record Lays (rd : ℕ → Read Value) (at : ℕ) (b : List ℕ) (r : ℕ) : Type 0 where
  pub value : Value
  pub after : at ≤ r
  pub laid : Laid b value
  pub read : (n : ℕ) → r ≤ n → rd n ≡ got value r

-- a number in one byte
byte_laid : (a : List ℕ) (v : Value) → Laid a v → (k x o : ℕ) → size_of k ≡ 1 → value_bytes (with_number k x v) ≡ sets (value_bytes v) o (number_bytes 1 x) → x < 2 ^ 8
    → Laid (set a o x) (with_number k x v)
unfolding number_bytes
byte_laid a v l k x o z e h =
    let same : set a o x ≡ sets a o (number_bytes 1 x) = ap (λ (y : ℕ). set a o y) (sym (mod-eq_of_lt h)) in
    record {
      bytes = same ∙ ap (λ (m : List ℕ). sets m o (number_bytes 1 x)) l.bytes ∙ sym e;
      fits = number_fits k x v l.fits (subst (λ (c : ℕ). x < 2 ^ (8 * c)) (sym z) h);
    }

-- the i-th option of the row
unfoldable pub mark_at : ℕ → ℕ
mark_at zero = 121
mark_at (suc i) = 228 + i

pub mark_laid : (a : List ℕ) (v : Value) → Laid a v → (i : ℕ) → i < 7 → Laid (set a (mark_at i) 1) (with_given i true v)
unfolding mark_at
mark_laid a v l zero h =
    record { bytes = ap (λ (m : List ℕ). set m 121 1) l.bytes ∙ sym (first_given v l.fits true); fits = with_given_lem v 0 true l.fits }
mark_laid a v l (suc i) h =
    record { bytes = ap (λ (m : List ℕ). set m (228 + i) 1) l.bytes ∙ sym (more_given v l.fits true i (omega arith)); fits = with_given_lem v (suc i) true l.fits }

-- ---- what a good codec read

module _ {A : Type 0} {C : Codec A} (good : Good C) (f : ℕ → ℕ) (binary : Binary f) (n at : ℕ) (a : A) (p : ℕ) where
  abbrev value_or : Read A → A
  value_or (got x q) = x
  value_or (no s) = a

  abbrev end_or : Read A → ℕ
  end_or (got x q) = q
  end_or (no s) = p

  abbrev is_got : Read A → Bool
  is_got (got x q) = true
  is_got (no s) = false

  pub ok_of : C.read f n at ≡ got a p → C.ok a ≡ true
  ok_of e = go (C.read f n at) (good.backward f n binary at) e
    where
      go : (y : Read A) → View C f n at y → y ≡ got a p → C.ok a ≡ true
      go (no s) (refused _) e = not_both (ap is_got e)
      go (got x q) (found _ _ w) e = subst (λ (z : A). C.ok z ≡ true) (ap value_or e) w.valid

  pub after_of : C.read f n at ≡ got a p → at ≤ p
  after_of e = go (C.read f n at) (good.ended f n binary at) e
    where
      go : (y : Read A) → Ended C f n at (C.order f n at) y → y ≡ got a p → at ≤ p
      go (no s) (failed _ w) e = not_both (ap is_got e)
      go (no s) (broke _ w) e = not_both (ap is_got e)
      go (got x q) (came _ _ w) e = subst (λ (z : ℕ). at ≤ z) (ap end_or e) w.after

-- ---- a part

module _ (air : Air) (f : ℕ → ℕ) (binary : Binary f) (a b : List ℕ) (at r : ℕ) where
  pub part_lays : (v : Value) → Laid a v → (p : Part) → has_bytes p ≡ true → (x : Holds p) → ((n : ℕ) → r ≤ n → (part_c air v p).read f n at ≡ got x r)
      → b ≡ value_bytes (put p x v) → Lays (λ n. part_read air v p f n at) at b r
  unfolding part_read
  part_lays v l p h x e w =
      record {
        value = put p x v;
        after = after_of (good_part air v p) f binary r at x r (e r (omega arith));
        laid = record { bytes = w; fits = part_fits air v p x v l.fits h (ok_of (good_part air v p) f binary r at x r (e r (omega arith))) };
        read = λ n k. ap (λ (y : Read (Holds p)). bind y (λ z q. got (put p z v) q)) (e n k);
      }

  -- a group, from byte o on
  pub record Grouped (none : Bool) (o : ℕ) : Type 0 where
    pub group : Group
    pub area : b ≡ sets a o (group_bytes group)
    pub read : (external : Bool) (n : ℕ) → r ≤ n → (group_c air none external).read f n at ≡ got group r

  fifteen : (none : Bool) (o : ℕ) (g : Grouped none o) → length g.group.addresses ≡ 15
  fifteen none o g =
      (group_fits air none false g.group (ok_of (good_group air none false) f binary r at g.group r (g.read false r (omega arith)))).places

  module _ (v : Value) (l : Laid a v) where
    in_value : (o : ℕ) (bs : List ℕ) → b ≡ sets a o bs → b ≡ sets (value_bytes v) o bs
    in_value o bs e = e ∙ ap (λ (x : List ℕ). sets x o bs) l.bytes

    pub users_lay : Grouped false 1 → Lays (λ n. part_read air v part.Users f n at) at b r
    users_lay g = part_lays v l part.Users refl g.group (g.read false) (in_value 1 (group_bytes g.group) g.area ∙ sym (group_users v l.fits g.group (fifteen false 1 g)))

    pub dispatchers_lay : Grouped true 122 → Lays (λ n. part_read air v part.Dispatchers f n at) at b r
    dispatchers_lay g = part_lays v l part.Dispatchers refl g.group (g.read false) (in_value 122 (group_bytes g.group) g.area ∙ sym (group_dispatchers v l.fits g.group (fifteen true 122 g)))

    pub sources_lay : Grouped true 243 → Lays (λ n. part_read air v part.Sources f n at) at b r
    sources_lay g = part_lays v l part.Sources refl g.group (g.read false) (in_value 243 (group_bytes g.group) g.area ∙ sym (group_sources v l.fits g.group (fifteen true 243 g)))

    pub destinations_lay : Grouped true 349 → Lays (λ n. part_read air v part.Destinations f n at) at b r
    destinations_lay g = part_lays v l part.Destinations refl g.group (g.read true) (in_value 349 (group_bytes g.group) g.area ∙ sym (group_destinations v l.fits g.group (fifteen true 349 g)))

    -- ---- a number in c bytes from byte o on

    number_lay : (k o c : ℕ) → ((x : ℕ) → value_bytes (with_number k x v) ≡ sets (value_bytes v) o (number_bytes c x)) → has_bytes (part.Number k) ≡ true
        → r ≡ at + width_of k → b ≡ sets a o (number_bytes c (field_at f at (width_of k))) → Lays (λ n. part_read air v (part.Number k) f n at) at b r
    number_lay k o c bytes h e w =
        part_lays v l (part.Number k) h (field_at f at (width_of k))
        (λ n i. number_got (element_of k) f n at (width_of k) (omega (arith, e, i)) ∙ ap (λ (q : ℕ). got (field_at f at (width_of k)) q) (sym e))
        (in_value o (number_bytes c (field_at f at (width_of k))) w ∙ sym (bytes (field_at f at (width_of k))))

    -- one byte holds it
    byte_lay : (o w x : ℕ) → x ≡ field_at f at w → w ≤ 8 → b ≡ set a o x → b ≡ sets a o (number_bytes 1 (field_at f at w))
    unfolding number_bytes
    byte_lay o w x is h e =
        let few : field_at f at w < 2 ^ 8 = lt_of_lt_of_le (field_lt f binary at w) (pow_mono h) in
        let same : x ≡ field_at f at w % 256 = is ∙ sym (mod-eq_of_lt few) in
        e ∙ ap (λ (y : ℕ). set a o y) same

    pub identifier_lay : r ≡ at + 14 → b ≡ sets a 119 (number_bytes 2 (field_at f at 14)) → Lays (λ n. part_read air v (part.Number 0) f n at) at b r
    unfolding width_of widths size_of sizes
    identifier_lay e w = number_lay 0 119 2 (λ x. identifier_bytes v l.fits x) refl e w

    pub mni_lay : r ≡ at + 24 → b ≡ sets a 234 (number_bytes 3 (field_at f at 24)) → Lays (λ n. part_read air v (part.Number 4) f n at) at b r
    unfolding width_of widths size_of sizes
    mni_lay e w = number_lay 4 234 3 (λ x. mni_bytes v l.fits x) refl e w

    pub cause_lay : (x : ℕ) → x ≡ field_at f at 5 → r ≡ at + 5 → b ≡ set a 118 x → Lays (λ n. part_read air v (part.Number 1) f n at) at b r
    unfolding width_of widths size_of sizes
    cause_lay x is e w = number_lay 1 118 1 (λ y. cause_bytes v l.fits y) refl e (byte_lay 118 5 x is (omega arith) w)

    pub calling_area_lay : (x : ℕ) → x ≡ field_at f at 4 → r ≡ at + 4 → b ≡ set a 237 x → Lays (λ n. part_read air v (part.Number 5) f n at) at b r
    unfolding width_of widths size_of sizes
    calling_area_lay x is e w = number_lay 5 237 1 (λ y. calling_area_bytes v l.fits y) refl e (byte_lay 237 4 x is (omega arith) w)

    pub called_area_lay : (x : ℕ) → x ≡ field_at f at 4 → r ≡ at + 4 → b ≡ set a 238 x → Lays (λ n. part_read air v (part.Number 6) f n at) at b r
    unfolding width_of widths size_of sizes
    called_area_lay x is e w = number_lay 6 238 1 (λ y. called_area_bytes v l.fits y) refl e (byte_lay 238 4 x is (omega arith) w)

    pub calling_service_lay : (x : ℕ) → x ≡ field_at f at 2 → r ≡ at + 2 → b ≡ set a 239 x → Lays (λ n. part_read air v (part.Number 7) f n at) at b r
    unfolding width_of widths size_of sizes
    calling_service_lay x is e w = number_lay 7 239 1 (λ y. calling_service_bytes v l.fits y) refl e (byte_lay 239 2 x is (omega arith) w)

    pub called_service_lay : (x : ℕ) → x ≡ field_at f at 2 → r ≡ at + 2 → b ≡ set a 240 x → Lays (λ n. part_read air v (part.Number 8) f n at) at b r
    unfolding width_of widths size_of sizes
    called_service_lay x is e w = number_lay 8 240 1 (λ y. called_service_bytes v l.fits y) refl e (byte_lay 240 2 x is (omega arith) w)

    -- ---- nothing

    pub nothing_lay : b ≡ a → r ≡ at → Lays (λ n. part_read air v part.Nothing f n at) at b r
    nothing_lay e h = part_lays v l part.Nothing refl tt (λ n i. ap (λ (q : ℕ). got tt q) (sym h)) (e ∙ l.bytes)

    -- ---- result and reason

    abbrev with_reason : ℕ → ℕ → Value
    with_reason x y = with_number place.reason y (with_number place.result x v)

    two_numbers : (x y : ℕ) → x < 2 ^ 8 → y < 2 ^ 8 → Laid (set (set a 116 x) 117 y) (with_reason x y)
    unfolding size_of sizes
    two_numbers x y h k =
        let l₁ = byte_laid a v l place.result x 116 refl (result_bytes v l.fits x) h in
        byte_laid (set a 116 x) (with_number place.result x v) l₁ place.reason y 117 refl (reason_bytes (with_number place.result x v) l₁.fits y) k

    pub accepted_lay : field_at f at 1 ≡ 1 → r ≡ at + 1 → b ≡ set (set a 116 1) 117 0 → Lays (λ n. part_read air v part.Result f n at) at b r
    unfolding result_c
    accepted_lay bit e w =
        part_lays v l part.Result refl (1, 0) (λ n i. rw (number_got element.result f n at 1 (omega (arith, e, i)), bit, ← e)) (w ∙ (two_numbers 1 0 (omega arith) (omega arith)).bytes)

    pub rejected_lay : (x : ℕ) → field_at f at 1 ≡ 0 → x ≡ field_at f (at + 1) 7 → r ≡ at + 8 → b ≡ set (set a 116 0) 117 x → Lays (λ n. part_read air v part.Result f n at) at b r
    unfolding result_c
    rejected_lay x bit is e w =
        let few : x < 2 ^ 8 = omega (arith, is, field_lt f binary (at + 1) 7) in
        let q : at + 1 + 7 ≡ r = omega (arith, e) in
        part_lays v l part.Result refl (0, x)
        (λ n i. rw (number_got element.result f n at 1 (omega (arith, e, i)), bit, number_got element.reason f n (at + 1) 7 (omega (arith, e, i)), q, is)) (w ∙ (two_numbers 0 x (omega arith) few).bytes)

    -- ---- the state of INTERROGATE ACK

    -- its six numbers, in the order in which they are put into the value
    abbrev stored : ℕ → ℕ → ℕ → ℕ → ℕ → ℕ → List ℕ
    stored x y i j c d = set (set (set (set (set (set a 116 x) 117 y) 241 i) 242 j) 240 c) 239 d

    six_numbers : (s : State) → s.result < 2 ^ 8 → s.reason < 2 ^ 8 → s.activation < 2 ^ 8 → s.interception < 2 ^ 8 → s.called < 2 ^ 8 → s.calling < 2 ^ 8
        → Laid (stored s.result s.reason s.activation s.interception s.called s.calling) (put part.Interrogation s v)
    unfolding size_of sizes
    six_numbers s h₁ h₂ h₃ h₄ h₅ h₆ =
        let l₂ = two_numbers s.result s.reason h₁ h₂ in
        let l₃ = byte_laid _ _ l₂ place.activation_type s.activation 241 refl (activation_bytes _ l₂.fits s.activation) h₃ in
        let l₄ = byte_laid _ _ l₃ place.interception_type s.interception 242 refl (interception_bytes _ l₃.fits s.interception) h₄ in
        let l₅ = byte_laid _ _ l₄ place.called_service s.called 240 refl (called_service_bytes _ l₄.fits s.called) h₅ in
        byte_laid _ _ l₅ place.calling_service s.calling 239 refl (calling_service_bytes _ l₅.fits s.calling) h₆

    -- the parts of seven bits
    module _ (w : ℕ) (is : w ≡ field_at f at 7) where
      first_of : w ≡ field_at f at 1 * 64 + field_at f (at + 1) 6
      first_of = is ∙ field_split f at 1 6

      pub state_lay : 64 ≤ w → r ≡ at + 7 → b ≡ stored 1 0 (w / 32 % 2) (w / 16 % 2) (w / 4 % 4) (w % 4) → Lays (λ n. part_read air v part.Interrogation f n at) at b r
      unfolding state_c why_not_c if_accepted_c
      state_lay h e area =
          let p₂ : at + 1 + 1 ≡ at + 2 = omega arith in
          let p₃ : at + 2 + 1 ≡ at + 3 = omega arith in
          let p₅ : at + 3 + 2 ≡ at + 5 = omega arith in
          let p₇ : at + 5 + 2 ≡ at + 7 = omega arith in
          let x₁ = field_at f at 1 in
          let s₁ : field_at f (at + 1) 6 ≡ field_at f (at + 1) 1 * 32 + field_at f (at + 1 + 1) 5 = field_split f (at + 1) 1 5 in
          let s₂ : field_at f (at + 2) 5 ≡ field_at f (at + 2) 1 * 16 + field_at f (at + 2 + 1) 4 = field_split f (at + 2) 1 4 in
          let s₃ : field_at f (at + 3) 4 ≡ field_at f (at + 3) 2 * 4 + field_at f (at + 3 + 2) 2 = field_split f (at + 3) 2 2 in
          let t₁ : field_at f (at + 1) 6 ≡ field_at f (at + 1) 1 * 32 + field_at f (at + 2) 5 = rw p₂ at s₁ in
          let t₂ : field_at f (at + 2) 5 ≡ field_at f (at + 2) 1 * 16 + field_at f (at + 3) 4 = rw p₃ at s₂ in
          let t₃ : field_at f (at + 3) 4 ≡ field_at f (at + 3) 2 * 4 + field_at f (at + 5) 2 = rw p₅ at s₃ in
          let b₁ = field_lt f binary at 1 in
          let b₂ = field_lt f binary (at + 1) 1 in
          let b₃ = field_lt f binary (at + 2) 1 in
          let b₄ = field_lt f binary (at + 3) 2 in
          let b₅ = field_lt f binary (at + 5) 2 in
          let one_bit : field_at f at 1 ≡ 1 = omega (arith, first_of, field_lt f binary (at + 1) 6, b₁, h) in
          let activation : field_at f (at + 1) 1 ≡ w / 32 % 2 = omega (arith, first_of, t₁, t₂, t₃, b₁, b₂, b₃, b₄, b₅) in
          let interception : field_at f (at + 2) 1 ≡ w / 16 % 2 = omega (arith, first_of, t₁, t₂, t₃, b₁, b₂, b₃, b₄, b₅) in
          let called : field_at f (at + 3) 2 ≡ w / 4 % 4 = omega (arith, first_of, t₁, t₂, t₃, b₁, b₂, b₃, b₄, b₅) in
          let calling : field_at f (at + 5) 2 ≡ w % 4 = omega (arith, first_of, t₁, t₂, t₃, b₁, b₂, b₃, b₄, b₅) in
          part_lays v l part.Interrogation refl
          (record { result = 1; reason = 0; activation = w / 32 % 2; interception = w / 16 % 2; called = w / 4 % 4; calling = w % 4 })
          (λ n i.
          rw (
            number_got element.result f n at 1 (omega (arith, e, i)),
            one_bit,
            number_got element.activation_type f n (at + 1) 1 (omega (arith, e, i)),
            p₂,
            number_got element.interception_type f n (at + 2) 1 (omega (arith, e, i)),
            p₃,
            number_got element.basic_service f n (at + 3) 2 (omega (arith, e, i)),
            p₅,
            number_got element.basic_service f n (at + 5) 2 (omega (arith, e, i)),
            p₇,
            activation,
            interception,
            called,
            calling,
            e,
          ))
          (area ∙ (six_numbers (record { result = 1; reason = 0; activation = w / 32 % 2; interception = w / 16 % 2; called = w / 4 % 4; calling = w % 4 })
          (omega arith) (omega arith) (omega arith) (omega arith) (omega arith) (omega arith)).bytes)

      pub no_state_lay : w < 64 → r ≡ at + 4 → b ≡ stored 0 (w / 8) 0 0 0 0 → Lays (λ n. part_read air v part.Interrogation f n at) at b r
      unfolding state_c why_not_c if_accepted_c
      no_state_lay h e area =
          let p₄ : at + 1 + 3 ≡ r = omega (arith, e) in
          let zero_bit : field_at f at 1 ≡ 0 = omega (arith, first_of, h) in
          let s₁ : field_at f (at + 1) 6 ≡ field_at f (at + 1) 3 * 8 + field_at f (at + 1 + 3) 3 = field_split f (at + 1) 3 3 in
          let reason : field_at f (at + 1) 3 ≡ w / 8 = omega (arith, first_of, zero_bit, s₁, field_lt f binary (at + 1 + 3) 3) in
          part_lays v l part.Interrogation refl (record { result = 0; reason = w / 8; activation = 0; interception = 0; called = 0; calling = 0 })
          (λ n i. rw (number_got element.result f n at 1 (omega (arith, e, i)), zero_bit, number_got element.reason f n (at + 1) 3 (omega (arith, e, i)), p₄, reason))
          (area ∙ (six_numbers (record { result = 0; reason = w / 8; activation = 0; interception = 0; called = 0; calling = 0 })
          (omega arith) (omega arith) (omega arith) (omega arith) (omega arith) (omega arith)).bytes)

    -- ---- the mask

    pub no_mask_lay : field_at f at 1 ≡ 0 → r ≡ at + 1 → b ≡ sets a 107 (0 ∷ number_bytes 8 0) → Lays (λ n. part_read air v part.Masked f n at) at b r
    unfolding masked_c flag
    no_mask_lay bit e w =
        part_lays v l part.Masked refl (false, 0) (λ n i. rw (number_got element.mask_present f n at 1 (omega (arith, e, i)), bit, ← e))
        (in_value 107 (0 ∷ number_bytes 8 0) w ∙ sym (whole_mask v l.fits false 0))

    pub mask_lay : (k m : ℕ) → k ≡ min (span_of air v.users) 64 → field_at f at 1 ≡ 1 → m ≡ field_at f (at + 1) k * 2 ^ (64 - k) → r ≡ at + 1 + k
        → b ≡ sets a 107 (1 ∷ number_bytes 8 m) → Lays (λ n. part_read air v part.Masked f n at) at b r
    unfolding masked_c mask_c flag
    mask_lay k m few bit is e w =
        part_lays v l part.Masked refl (true, m)
        (λ n i. rw (← few, number_got element.mask_present f n at 1 (omega (arith, e, i)), bit, number_got element.mask f n (at + 1) k (omega (arith, e, i)), ← e, ← is))
        (in_value 107 (1 ∷ number_bytes 8 m) w ∙ sym (whole_mask v l.fits true m))

    -- ---- the areas

    pub record AreaList : Type 0 where
      pub areas : Areas
      pub area : b ≡ sets a 455 (areas_bytes areas)
      pub read : (n : ℕ) → r ≤ n → (areas_c air).read f n at ≡ got areas r

    pub areas_lay : AreaList → Lays (λ n. part_read air v part.Areas f n at) at b r
    areas_lay g =
        let long = areas_fit air g.areas (ok_of (good_areas air) f binary r at g.areas r (g.read r (omega arith))) in
        part_lays v l part.Areas refl g.areas g.read (in_value 455 (areas_bytes g.areas) g.area ∙ sym (all_areas v l.fits g.areas long))

-- ---- addresses, one after the other from byte p on

pub record Addresses (f : ℕ → ℕ) (k at : ℕ) (a b : List ℕ) (p r : ℕ) : Type 0 where
  pub list : List Address
  pub long : length list ≡ k
  pub area : b ≡ sets a p (rows_bytes address_bytes list)
  pub read : (external : Bool) (n : ℕ) → r ≤ n → vec_read (address_c external) k f n at ≡ got list r
  pub after : at ≤ r

abbrev first_in : Read (List Address) → Read Address
first_in (got l q) = got (get_or l 0 nobody) q
first_in (no s) = no s

vec_one : (external : Bool) (f : ℕ → ℕ) (n at : ℕ) → first_in (vec_read (address_c external) 1 f n at) ≡ (address_c external).read f n at
unfolding vec_read
vec_one external f n at = go ((address_c external).read f n at)
  where
    go : (y : Read Address) → first_in (bind y (λ x p. bind (got [] p) (λ xs q. got (x ∷ xs) q))) ≡ y
    go (got x p) = refl
    go (no s) = refl

one_row : (l : List Address) → length l ≡ 1 → rows_bytes address_bytes l ≡ address_bytes (get_or l 0 nobody)
unfolding rows_bytes
one_row [] e = absurd (omega (arith, e))
one_row (x ∷ []) e = append-nil (address_bytes x)
one_row (x ∷ y ∷ l) e = absurd (omega (arith, e))

module _ (air : Air) (f : ℕ → ℕ) (binary : Binary f) (a b : List ℕ) (at r : ℕ) (v : Value) (l : Laid a v) where
  one_read : (p : ℕ) (d : Addresses f 1 at a b p r) (n : ℕ) → r ≤ n → (address_c false).read f n at ≡ got (get_or d.list 0 nobody) r
  one_read p d n h = sym (vec_one false f n at) ∙ ap first_in (d.read false n h)

  pub user_lay : (i : ℕ) → i < 15 → Addresses f 1 at a b (2 + 7 * i) r → Lays (λ n. part_read air v (part.User i) f n at) at b r
  user_lay i h d =
      let x = get_or d.list 0 nobody in
      part_lays air f binary a b at r v l (part.User i) refl x (one_read (2 + 7 * i) d)
      (in_value air f binary a b at r v l (2 + 7 * i) (address_bytes x) (d.area ∙ ap (λ (m : List ℕ). sets a (2 + 7 * i) m) (one_row d.list d.long)) ∙ sym (user_bytes v l.fits i x h))

  pub dispatcher_lay : Addresses f 1 at a b 123 r → Lays (λ n. part_read air v part.Dispatcher f n at) at b r
  dispatcher_lay d =
      let x = get_or d.list 0 nobody in
      part_lays air f binary a b at r v l part.Dispatcher refl x (one_read 123 d)
      (in_value air f binary a b at r v l 123 (address_bytes x) (d.area ∙ ap (λ (m : List ℕ). sets a 123 m) (one_row d.list d.long)) ∙ sym (dispatcher_bytes v l.fits x))

-- by the contract of `lay_group`
abbrev pub GroupLays : Air → List ℕ → Bool → ℕ → List ℕ → List ℕ → ℕ → ℕ → Type 0
GroupLays air l none at a b o r = Grouped air (bit_at l) (bit_lt l) a b at r none o

-- the parts that are groups, and where each lies
pub data GroupPart : Part → ℕ → Type 0 where
  of_users : GroupPart part.Users 1
  of_dispatchers : GroupPart part.Dispatchers 122
  of_sources : GroupPart part.Sources 243
  of_destinations : GroupPart part.Destinations 349

pub group_place : (p : Part) (o : ℕ) → GroupPart p o → o + 106 < 471
group_place p o of_users = omega arith
group_place p o of_dispatchers = omega arith
group_place p o of_sources = omega arith
group_place p o of_destinations = omega arith

-- users alone may not be "none"
abbrev pub AnyGroup : Air → List ℕ → ℕ → List ℕ → List ℕ → ℕ → ℕ → Type 0
AnyGroup air l at a b o r = (may : Bool) → (may ≡ false → o ≡ 1) → GroupLays air l may at a b o r

pub group_lay : (air : Air) (l a b : List ℕ) (at r : ℕ) (v : Value) → Laid a v → (p : Part) (o : ℕ) → GroupPart p o → AnyGroup air l at a b o r
    → Lays (λ n. part_read air v p (bit_at l) n at) at b r
group_lay air l a b at r v h p o of_users g = users_lay air (bit_at l) (bit_lt l) a b at r v h (g false (λ e. refl))
group_lay air l a b at r v h p o of_dispatchers g = dispatchers_lay air (bit_at l) (bit_lt l) a b at r v h (g true (λ e. not_both (sym e)))
group_lay air l a b at r v h p o of_sources g = sources_lay air (bit_at l) (bit_lt l) a b at r v h (g true (λ e. not_both (sym e)))
group_lay air l a b at r v h p o of_destinations g = destinations_lay air (bit_at l) (bit_lt l) a b at r v h (g true (λ e. not_both (sym e)))

pub may_be : (may : Bool) (o : ℕ) → (may ≡ false → o ≡ 1) → (o ≡ 1 → ⊥) → may ≡ true
may_be true o h k = refl
may_be false o h k = absurd (k (h refl))
