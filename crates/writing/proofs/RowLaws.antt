-- The bits of a row's parts and options, one after the other, and that these are the bits of the message's codec. Assumes nothing.
use Rattle.std.proofs.Common.{◌≡◌, ℕ, zero, suc, ◌+◌, ◌-◌, ◌^◌, ◌<◌, ◌≤◌, min, Bool, true, false, not, List, [], ◌∷◌, ◌++◌, length, get_or, take, drop, sym, refl, ap, ◌∙◌, append_assoc, append-nil, add-one, arith}
use Rattle.std.specs.List.{list_any, range_with_len}
use Rattle.bits.specs.Puts.{binary}
use Rattle.codec.specs.Codec.{Codec, number, pure, guard, choose}
use Rattle.codec.specs.Options.{is_there, flag, optional}
use Rattle.profile.specs.declared.Air.{Air}
use Rattle.message.specs.Elements as element
use Rattle.message.specs.Values.{blank, given_at}
use Rattle.message.specs.Rows.{row_of, part_c, put, get, copy_of, parts_c, puts, gets, if_given, put_option, get_option, copy_option, get_options, some_of, none_of, each_c, options_c, first_parts, parts_of, options_of}
use Rattle.message.specs.Messages.{body_c}
use Rattle.message.specs.declared.Part.{Part}
use Rattle.message.specs.declared.Part.TheVariants as part
use Rattle.message.specs.declared.Slot.{Slot}
use Rattle.message.specs.declared.Value.{Value}
use Rattle.message.proofs.SlotLaws.{slot_more, slot_end}
use Rattle.writing.specs.Parts.{part_bits, behind, some_given, option_bits, each_bits, options_bits, parts_bits}
use Rattle.writing.specs.Wrote.{Wrote}
use Rattle.writing.proofs.PartLaws.{few_taken}
use Rattle.writing.proofs.WroteLaws.{Left, wrote_none, wrote_join, left_some, left_none, left_last}

-- ---- the row of a type is its codec

optional_bits : {A : Type 0} (p : ℕ) (C : Codec A) (b : Bool) (a : A) → (optional p C).bits (if_given b a) ≡ behind b (C.bits a)
unfolding flag number
optional_bits p C true a = refl
optional_bits p C false a = append-nil (binary 1 0)

is_there_lem : {A : Type 0} (b : Bool) (a : A) → is_there (if_given b a) ≡ b
is_there_lem true a = refl
is_there_lem false a = refl

some_of_lem : (i : ℕ) (qs : List Part) (v : Value) → some_of qs (get_options i qs v) ≡ some_given i (length qs) v
unfolding get_options some_given
some_of_lem i [] v = refl
some_of_lem i (q ∷ qs) v = rw (is_there_lem (given_at i v) (get q v), some_of_lem (suc i) qs v)

each_codec : (air : Air) (i : ℕ) (w : Value) (qs : List Part) (v : Value) → (each_c air i w qs).bits (get_options i qs v) ≡ each_bits air i w qs v
unfolding each_c get_options each_bits option_bits part_bits copy_option
each_codec air i w [] v = refl
each_codec air i w (q ∷ qs) v =
    rw (optional_bits element.p_bit (part_c air w q) (given_at i v) (get q v), each_codec air (suc i) (put_option i q (get_option i q v) w) qs v)

options_bits_lem : {A : Type 0} (o : ℕ) (none : A) (is_none some : A → Bool) (D : Codec A) (b : Bool) (x : A)
    → (flag o).bits b ++ (choose b (guard 12 some D) (pure none is_none)).bits x ≡ behind b (D.bits x)
unfolding flag number
options_bits_lem o none is_none some D true x = refl
options_bits_lem o none is_none some D false x = append-nil (binary 1 0)

options_codec : (air : Air) (w : Value) (qs : List Part) (v : Value) → (options_c air w qs).bits (get_options 0 qs v) ≡ options_bits air w qs v
unfolding options_c options_bits
options_codec air w [] v = refl
options_codec air w (q ∷ qs) v =
    options_bits_lem element.o_bit (none_of (q ∷ qs)) (λ x. not (some_of (q ∷ qs) x)) (some_of (q ∷ qs)) (each_c air 0 w (q ∷ qs)) (some_of (q ∷ qs) (get_options 0 (q ∷ qs) v)) (get_options 0 (q ∷ qs) v)
    ∙ ap (λ (b : Bool). behind b ((each_c air 0 w (q ∷ qs)).bits (get_options 0 (q ∷ qs) v))) (some_of_lem 0 (q ∷ qs) v)
    ∙ ap (λ (bs : List ℕ). behind (some_given 0 (length (q ∷ qs)) v) bs) (each_codec air 0 w (q ∷ qs) v)

parts_codec : (air : Air) (w : Value) (ps qs : List Part) (v : Value)
    → (parts_c air w ps).bits (gets ps v) ++ (options_c air (puts ps (gets ps v) w) qs).bits (get_options 0 qs v) ≡ parts_bits air w ps qs v
unfolding parts_c puts gets parts_bits part_bits copy_of
parts_codec air w [] qs v = options_codec air w qs v
parts_codec air w (p ∷ ps) qs v =
    append_assoc ((part_c air w p).bits (get p v)) _ _
    ∙ ap (λ (r : List ℕ). (part_c air w p).bits (get p v) ++ r) (parts_codec air (put p (get p v) w) ps qs v)

pub body_row : (air : Air) (t : ℕ) (v : Value) → (body_c air t).bits v ≡ parts_bits air (blank t) (parts_of (row_of t)) (options_of (row_of t)) v
unfolding body_c
body_row air t v = parts_codec air (blank t) (parts_of (row_of t)) (options_of (row_of t)) v

-- ---- a part that is nothing, and what is behind a bit

pub wrote_nothing : (air : Air) (w v : Value) (l : List ℕ) (at : ℕ) → at < 2 ^ 64 → Wrote l l at at (part_bits air w part.Nothing v)
unfolding part_bits
wrote_nothing air w v l at h = wrote_none l at h

module _ {l m : List ℕ} {at p : ℕ} (air : Air) (i : ℕ) (w : Value) (part : Part) (v : Value) where
  pub option_there : {x : List ℕ} {q : ℕ} → given_at i v ≡ true → Wrote l m at p (binary 1 1) → Wrote m x p q (part_bits air w part v)
      → Wrote l x at q (option_bits air i w part v)
  unfolding option_bits
  option_there e a b = rw e (wrote_join a b)

  pub option_none : given_at i v ≡ false → Wrote l m at p (binary 1 0) → Wrote l m at p (option_bits air i w part v)
  unfolding option_bits
  option_none e a = rw e a

-- ---- the options, and how many they are

first_length : (k : ℕ) (l : List Slot) → length (first_parts k l) ≡ min k (length l)
unfolding first_parts
first_length zero l = omega arith
first_length (suc k) [] = omega arith
first_length (suc k) (s ∷ l) = omega (arith, first_length k l)

none_bits : (air : Air) (w : Value) (qs : List Part) (v : Value) → length qs ≡ 0 → options_bits air w qs v ≡ []
unfolding options_bits
none_bits air w [] v e = refl
none_bits air w (q ∷ qs) v e = absurd (omega arith)

some_bits : (air : Air) (w : Value) (qs : List Part) (v : Value) → (length qs ≡ 0 → ⊥) → options_bits air w qs v ≡ behind (some_given 0 (length qs) v) (each_bits air 0 w qs v)
unfolding options_bits
some_bits air w [] v e = absurd (e refl)
some_bits air w (q ∷ qs) v e = refl

module _ (air : Air) (w : Value) (k : ℕ) (l : List Slot) (v : Value) (n : ℕ) (h : n ≡ min k 7) (f : length l ≡ 7) where
  many : length (first_parts k l) ≡ n
  many = omega (arith, first_length k l)

  pub options_none : (o : List ℕ) (at : ℕ) → n ≡ 0 → at < 2 ^ 64 → Wrote o o at at (options_bits air w (first_parts k l) v)
  options_none o at z a = rw (none_bits air w (first_parts k l) v (many ∙ z)) (wrote_none o at a)

  behind_bits : (n ≡ 0 → ⊥) → (b : Bool) → b ≡ some_given 0 n v → options_bits air w (first_parts k l) v ≡ behind b (each_bits air 0 w (first_parts k l) v)
  behind_bits z b e =
      some_bits air w (first_parts k l) v (λ y. z (sym many ∙ y)) ∙ ap (λ (j : ℕ). behind (some_given 0 j v) (each_bits air 0 w (first_parts k l) v)) many
      ∙ ap (λ (c : Bool). behind c (each_bits air 0 w (first_parts k l) v)) (sym e)

  pub options_there : {o m x : List ℕ} {at p q : ℕ} → (n ≡ 0 → ⊥) → (b : Bool) → b ≡ some_given 0 n v → b ≡ true → Wrote o m at p (binary 1 1) → Wrote m x p q (each_bits air 0 w (first_parts k l) v)
      → Wrote o x at q (options_bits air w (first_parts k l) v)
  options_there z b e d a r = rw (behind_bits z true (sym d ∙ e)) (wrote_join a r)

  pub options_absent : {o m : List ℕ} {at p : ℕ} → (n ≡ 0 → ⊥) → (b : Bool) → b ≡ some_given 0 n v → b ≡ false → Wrote o m at p (binary 1 0) → Wrote o m at p (options_bits air w (first_parts k l) v)
  options_absent z b e d a = rw (behind_bits z false (sym d ∙ e)) a

-- one of them is there, as `any` finds it
pub any_given : (i k : ℕ) (v : Value) → list_any (λ j. given_at j v) (range_with_len i k) ≡ some_given i k v
unfolding some_given
any_given i zero v = refl
any_given i (suc k) v = rw (add-one, any_given (suc i) k v)

-- ---- those of the first slots that are counted

all_first : (k : ℕ) (l : List Slot) → first_parts (length (take k l)) (take k l) ≡ first_parts k l
unfolding first_parts
all_first zero l = refl
all_first (suc k) [] = refl
all_first (suc k) (s ∷ l) = rw (all_first k l)

pub first_taken : (l : List Slot) (m n k : ℕ) → m ≡ min n k → length l ≡ k → first_parts n l ≡ first_parts (length (take m l)) (take m l)
first_taken l m n k e h = sym (rw (few_taken l m n k e h) (all_first n l))

-- ---- the loop over the options

module _ {o m : List ℕ} {at p : ℕ} {bs : List ℕ} (air : Air) (w : Value) (k : ℕ) (l : List Slot) (i : ℕ) (v : Value) where
  pub each_turn : {x : List ℕ} {q : ℕ} (u : Value) → i < k → i < length l → u ≡ copy_option i (get_or l i (record { part = part.Nothing })).part v w
      → Left o m at p bs (each_bits air i w (first_parts (k - i) (drop i l)) v) → Wrote m x p q (option_bits air i w (get_or l i (record { part = part.Nothing })).part v)
      → Left o x at q bs (each_bits air (i + 1) u (first_parts (k - (i + 1)) (drop (i + 1) l)) v)
  unfolding each_bits
  each_turn u h n d e r = rw (d, add-one) (left_some _ _ (rw (slot_more k l i h n, add-one) at e) r)

  pub each_end : k ≤ i → Left o m at p bs (each_bits air i w (first_parts (k - i) (drop i l)) v) → Wrote o m at p bs
  unfolding each_bits
  each_end h e = left_none (rw (slot_end k l i h) at e)

-- ---- the loop over the parts

module _ {o m : List ℕ} {at p : ℕ} {bs : List ℕ} (air : Air) (w : Value) (k : ℕ) (l : List Slot) (i : ℕ) (qs : List Part) (v : Value) where
  pub parts_turn : {x : List ℕ} {q : ℕ} (u : Value) → i < k → i < length l → u ≡ copy_of (get_or l i (record { part = part.Nothing })).part v w
      → Left o m at p bs (parts_bits air w (first_parts (k - i) (drop i l)) qs v) → Wrote m x p q (part_bits air w (get_or l i (record { part = part.Nothing })).part v)
      → Left o x at q bs (parts_bits air u (first_parts (k - (i + 1)) (drop (i + 1) l)) qs v)
  unfolding parts_bits
  parts_turn u h n d e r = rw d (left_some _ _ (rw (slot_more k l i h n) at e) r)

  module _ {x : List ℕ} {q : ℕ} (r : Wrote m x p q (options_bits air w qs v)) where
    pub parts_end : k ≤ i → Left o m at p bs (parts_bits air w (first_parts (k - i) (drop i l)) qs v) → Wrote o x at q bs
    unfolding parts_bits
    parts_end h e = left_last (rw (slot_end k l i h) at e) r
