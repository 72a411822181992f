-- A row's parts and options read one after the other. Assumes nothing.
use Prim.Native.Nat.{ℕ, zero, suc, ◌+◌, ◌-◌, ◌≤◌, ◌<◌, min}
use mathlib.Core.Path.{◌≡◌, refl, sym, ap, ◌∙◌}
use mathlib.Core.Bool.{Bool, true, false, not, cond, ◌||◌}
use mathlib.Core.List.{List, [], ◌∷◌}
use native.Mathlib.Nat.{sub-zero}
use native.Mathlib.Numerals.{add-one}
use native.Mathlib.Omega.{arith}
use lib.Dec.{leb}
use lib.ListN.{length, drop, get_or, drop_of_length-le}
use lib.Seq.{drop-cons}
use borrow.Author.Tests.{le-leb}
use Rattle.std.proofs.lemmas.Bool.{leb-true, leb-false}
use Rattle.std.proofs.Math.Nat.{min-eq_left, min-eq_right}
use Rattle.bits.specs.Fields.{bit_at}
use Rattle.codec.specs.Stops.{refusal}
use Rattle.codec.specs.Codec.{Read, got, no, bind, number, pure, guard, choose}
use Rattle.codec.specs.Options.{Optional, absent, there, is_there, is_absent, there_c, flag, optional}
use Rattle.codec.specs.declared.Stop.{Stop}
use Rattle.profile.specs.declared.Air.{Air}
use Rattle.message.specs.Elements as element
use Rattle.message.specs.Numbers.{width_of}
use Rattle.message.specs.Groups.{group_c}
use Rattle.message.specs.Values.{blank, with_users, with_given}
use Rattle.message.specs.Rows.{row_of, Holds, Tuple, part_c, put, parts_c, puts, Options, put_option, put_options, some_of, none_of, each_c, options_c, first_parts, parts_of, options_of}
use Rattle.message.specs.Messages.{body_c}
use Rattle.message.specs.declared.Part.{Part}
use Rattle.message.specs.declared.Part.TheVariants as part
use Rattle.message.specs.declared.Slot.{Slot}
use Rattle.message.specs.declared.Value.{Value}
use Rattle.message.proofs.RowLaws.{width_few, seven_options, option_absent, options_absent}
use Rattle.reading.specs.Answers.{up_to}
use Rattle.reading.specs.Parts.{part_read, parts_read, option_read, each_read, behind_read, options_read}

-- ---- a number of its own width

pub word_number : (e k : ℕ) (l : List ℕ) (n at : ℕ) → up_to 32 e l n at (width_of k) ≡ (number e (width_of k)).read (bit_at l) n at
word_number e k l n at = rw (le-leb (width_of k) 32 (width_few k))

-- ---- the loops over the slots

-- a loop over the first k of w slots that is over
module _ {P : Type 0} (k w m i : ℕ) (e : m ≡ min k w) (h : m ≤ i) (p : k ≤ i → P) (q : w ≤ i → P) where
  over_by : (b : Bool) → leb k w ≡ b → P
  over_by true t = let a : k ≤ w = leb-true k w t in p (omega (arith, min-eq_left a))
  over_by false t = let a : w < k = leb-false k w t in let b : w ≤ k = omega arith in q (omega (arith, min-eq_right b))

  pub over : P
  over = over_by (leb k w) refl

module _ (k : ℕ) (l : List Slot) (i : ℕ) where
  abbrev pub slot_here : Slot
  slot_here = get_or l i (record { part = part.Nothing })

  pub slots_more : i < k → k - i ≡ suc (k - (i + 1))
  slots_more h = omega arith

  pub slots_cut : i < length l → drop i l ≡ slot_here ∷ drop (i + 1) l
  slots_cut m = rw (add-one, drop-cons l i (record { part = part.Nothing }) m)

  module _ (air : Air) (v : Value) (f : ℕ → ℕ) (n at : ℕ) where
    pub parts_turn : i < k → i < length l → (w : Value) (q : ℕ) → part_read air v slot_here.part f n at ≡ got w q
        → parts_read air v (k - i) (drop i l) f n at ≡ parts_read air w (k - (i + 1)) (drop (i + 1) l) f n q
    unfolding parts_read
    parts_turn h m w q e = rw (slots_more h, slots_cut m, e)

    pub parts_stop : i < k → i < length l → (s : Stop) → part_read air v slot_here.part f n at ≡ no s → parts_read air v (k - i) (drop i l) f n at ≡ no s
    unfolding parts_read
    parts_stop h m s e = rw (slots_more h, slots_cut m, e)

    pub parts_end : k ≤ i → parts_read air v (k - i) (drop i l) f n at ≡ got v at
    unfolding parts_read
    parts_end h = let z : k - i ≡ 0 = omega arith in rw z

    parts_none : (j : ℕ) → parts_read air v j [] f n at ≡ got v at
    unfolding parts_read
    parts_none zero = refl
    parts_none (suc j) = refl

    parts_past : length l ≤ i → parts_read air v (k - i) (drop i l) f n at ≡ got v at
    parts_past h = rw (drop_of_length-le l h) (parts_none (k - i))

    pub parts_over : (w m : ℕ) → length l ≡ w → m ≡ min k w → m ≤ i → parts_read air v (k - i) (drop i l) f n at ≡ got v at
    parts_over w m z e h = over k w m i e h parts_end (λ a. parts_past (rw z a))

    pub each_turn : (some b : Bool) → i < k → i < length l → (w : Value) (q : ℕ) → option_read air i v slot_here.part f n at ≡ got (b, w) q
        → each_read air i some v (k - i) (drop i l) f n at ≡ each_read air (i + 1) (some || b) w (k - (i + 1)) (drop (i + 1) l) f n q
    unfolding each_read
    each_turn some b h m w q e = rw (slots_more h, slots_cut m, e) (ap (λ (j : ℕ). each_read air j (some || b) w (k - (i + 1)) (drop (i + 1) l) f n q) (sym (add-one i)))

    pub each_stop : (some : Bool) → i < k → i < length l → (s : Stop) → option_read air i v slot_here.part f n at ≡ no s → each_read air i some v (k - i) (drop i l) f n at ≡ no s
    unfolding each_read
    each_stop some h m s e = rw (slots_more h, slots_cut m, e)

    pub each_end : (some : Bool) → k ≤ i → each_read air i some v (k - i) (drop i l) f n at ≡ got (some, v) at
    unfolding each_read
    each_end some h = let z : k - i ≡ 0 = omega arith in rw z

    each_none : (some : Bool) (j : ℕ) → each_read air i some v j [] f n at ≡ got (some, v) at
    unfolding each_read
    each_none some zero = refl
    each_none some (suc j) = refl

    each_past : (some : Bool) → length l ≤ i → each_read air i some v (k - i) (drop i l) f n at ≡ got (some, v) at
    each_past some h = rw (drop_of_length-le l h) (each_none some (k - i))

    pub each_over : (some : Bool) (w m : ℕ) → length l ≡ w → m ≡ min k w → m ≤ i → each_read air i some v (k - i) (drop i l) f n at ≡ got (some, v) at
    each_over some w m z e h = over k w m i e h (each_end some) (λ a. each_past some (rw z a))

module _ (air : Air) (v : Value) (k : ℕ) (l : List Slot) (f : ℕ → ℕ) (n at : ℕ) where
  pub parts_start : parts_read air v k l f n at ≡ parts_read air v (k - 0) (drop 0 l) f n at
  parts_start = rw sub-zero

  pub each_start : each_read air 0 false v k l f n at ≡ each_read air 0 false v (k - 0) (drop 0 l) f n at
  each_start = rw sub-zero

-- ---- before the loop over the options

module _ (air : Air) (v : Value) (l : List Slot) (f : ℕ → ℕ) (n at : ℕ) where
  pub options_zero : (k : ℕ) → k ≡ 0 → options_read air v k l f n at ≡ got v at
  unfolding options_read
  options_zero k e = rw e

  pub options_some : (k : ℕ) → (k ≡ 0 → ⊥)
      → options_read air v k l f n at ≡ bind ((flag element.o_bit).read f n at) (λ b q. cond b (behind_read air v k l f n q) (got v q))
  unfolding options_read
  options_some zero e = absurd (e refl)
  options_some (suc k) e = refl

-- ---- the row of a type is its codec

bind_bind : {A B C : Type 0} (r : Read A) (g : A → ℕ → Read B) (h : B → ℕ → Read C) → bind (bind r g) h ≡ bind r (λ a p. bind (g a p) h)
bind_bind (got a p) g h = refl
bind_bind (no s) g h = refl

bind_same : {A B : Type 0} (r : Read A) (g h : A → ℕ → Read B) → ((a : A) (p : ℕ) → g a p ≡ h a p) → bind r g ≡ bind r h
bind_same (got a p) g h e = e a p
bind_same (no s) g h e = refl

parts_codec : (air : Air) (v : Value) (k : ℕ) (l : List Slot) (f : ℕ → ℕ) (n at : ℕ)
    → bind ((parts_c air v (first_parts k l)).read f n at) (λ (x : Tuple (first_parts k l)) q. got (puts (first_parts k l) x v) q) ≡ parts_read air v k l f n at
unfolding parts_c first_parts puts parts_read part_read
parts_codec air v zero l f n at = refl
parts_codec air v (suc k) [] f n at = refl
parts_codec air v (suc k) (s ∷ l) f n at =
    bind_bind ((part_c air v s.part).read f n at) _ _
    ∙ bind_same ((part_c air v s.part).read f n at) _ _ (λ x p. bind_bind ((parts_c air (put s.part x v) (first_parts k l)).read f n p) _ _ ∙ parts_codec air (put s.part x v) k l f n p)
    ∙ sym (bind_bind ((part_c air v s.part).read f n at) _ _)

abbrev pair_at : {A B : Type 0} → A → B → ℕ → Read (A × B)
pair_at a b q = got (a, b) q

-- an option as its codec reads it, put into the value
module _ (air : Air) (i : ℕ) (v : Value) (q : Part) (f : ℕ → ℕ) (n : ℕ) where
  part_there : (r : Read (Holds q))
      → bind (bind (bind (bind r (λ a t. got (there a) t)) (λ o t. pair_at true o t)) (λ (x : Bool × Optional (Holds q)) t. got x.1 t)) (λ x t. pair_at (is_there x) (put_option i q x v) t)
      ≡ bind (bind r (λ x t. got (put q x v) t)) (λ w t. pair_at true (with_given i true w) t)
  part_there (got a t) = refl
  part_there (no s) = refl

  by_p_bit : (r : Read Bool)
      → bind
      (bind (bind r (λ b p. bind ((choose b (there_c (part_c air v q)) (pure absent is_absent)).read f n p) (λ o t. pair_at b o t))) (λ (x : Bool × Optional (Holds q)) t. got x.1 t))
      (λ x t. pair_at (is_there x) (put_option i q x v) t)
      ≡ bind r (λ b p. cond b (bind (part_read air v q f n p) (λ w t. pair_at true (with_given i true w) t)) (pair_at false v p))
  unfolding part_read
  by_p_bit (got true p) = part_there ((part_c air v q).read f n p)
  by_p_bit (got false p) = ap (λ (w : Value). pair_at false w p) (option_absent i q v)
  by_p_bit (no s) = refl

  option_codec : (at : ℕ) → bind ((optional element.p_bit (part_c air v q)).read f n at) (λ (x : Optional (Holds q)) t. pair_at (is_there x) (put_option i q x v) t) ≡ option_read air i v q f n at
  unfolding option_read
  option_codec at = by_p_bit ((flag element.p_bit).read f n at)

or_none : (b : Bool) → b || false ≡ b
or_none true = refl
or_none false = refl

or_or : (a b c : Bool) → a || (b || c) ≡ (a || b) || c
or_or true b c = refl
or_or false b c = refl

each_codec : (air : Air) (i : ℕ) (some : Bool) (v : Value) (k : ℕ) (l : List Slot) (f : ℕ → ℕ) (n at : ℕ)
    → bind ((each_c air i v (first_parts k l)).read f n at) (λ (x : Options (first_parts k l)) q. pair_at (some || some_of (first_parts k l) x) (put_options i (first_parts k l) x v) q)
    ≡ each_read air i some v k l f n at
unfolding each_c first_parts put_options each_read
each_codec air i some v zero l f n at = ap (λ (b : Bool). pair_at b v at) (or_none some)
each_codec air i some v (suc k) [] f n at = ap (λ (b : Bool). pair_at b v at) (or_none some)
each_codec air i some v (suc k) (s ∷ l) f n at =
    bind_bind opt _ _
    ∙ bind_same opt _ _
    (λ x p. bind_bind ((each_c air (suc i) (put_option i s.part x v) (first_parts k l)).read f n p) _ _
    ∙ bind_same ((each_c air (suc i) (put_option i s.part x v) (first_parts k l)).read f n p) _ _
    (λ y q. ap (λ (b : Bool). pair_at b (put_options (suc i) (first_parts k l) y (put_option i s.part x v)) q) (or_or some (is_there x) (some_of (first_parts k l) y)))
    ∙ each_codec air (suc i) (some || is_there x) (put_option i s.part x v) k l f n p)
    ∙ sym (bind_bind opt _ _)
    ∙ ap (λ (r : Read (Bool × Value)). bind r (λ x q. each_read air (suc i) (some || x.0) x.1 k l f n q)) (option_codec air i v s.part f n at)
  where
    opt : Read (Optional (Holds s.part))
    opt = (optional element.p_bit (part_c air v s.part)).read f n at

module _ (air : Air) (v : Value) (k : ℕ) (s : Slot) (l : List Slot) (f : ℕ → ℕ) (n : ℕ) where
  abbrev parts : List Part
  parts = first_parts (suc k) (s ∷ l)

  some_there : (b : Bool) (x : Options parts) (q : ℕ)
      → bind (bind (bind (cond b (got x q) (no (refusal 12))) (λ y r. pair_at true y r)) (λ (z : Bool × Options parts) r. got z.1 r)) (λ y r. got (put_options 0 parts y v) r)
      ≡ cond b (got (put_options 0 parts x v) q) (no (refusal 12))
  some_there true x q = refl
  some_there false x q = refl

  behind_read_lem : (r : Read (Options parts))
      → bind (bind (bind (bind r (λ x q. cond (some_of parts x) (got x q) (no (refusal 12)))) (λ y q. pair_at true y q)) (λ (z : Bool × Options parts) q. got z.1 q)) (λ y q. got (put_options 0 parts y v) q)
      ≡ bind (bind r (λ x q. pair_at (false || some_of parts x) (put_options 0 parts x v) q)) (λ (x : Bool × Value) q. cond x.0 (got x.1 q) (no (refusal 12)))
  behind_read_lem (got x q) = some_there (some_of parts x) x q
  behind_read_lem (no t) = refl

  by_o_bit : (r : Read Bool)
      → bind
      (bind (bind r (λ b p. bind ((choose b (guard 12 (some_of parts) (each_c air 0 v parts)) (pure (none_of parts) (λ x. not (some_of parts x)))).read f n p) (λ y q. pair_at b y q))) (λ (z : Bool × Options parts) q. got z.1 q))
      (λ y q. got (put_options 0 parts y v) q)
      ≡ bind r (λ b p. cond b (behind_read air v (suc k) (s ∷ l) f n p) (got v p))
  unfolding behind_read
  by_o_bit (got true p) =
      behind_read_lem ((each_c air 0 v parts).read f n p)
      ∙ ap (λ (r : Read (Bool × Value)). bind r (λ x q. cond x.0 (got x.1 q) (no (refusal 12)))) (each_codec air 0 false v (suc k) (s ∷ l) f n p)
  by_o_bit (got false p) = ap (λ (w : Value). got w p) (options_absent 0 parts v)
  by_o_bit (no t) = refl

options_codec : (air : Air) (v : Value) (k : ℕ) (l : List Slot) (f : ℕ → ℕ) (n at : ℕ) → length l ≡ 7
    → bind ((options_c air v (first_parts k l)).read f n at) (λ (x : Options (first_parts k l)) q. got (put_options 0 (first_parts k l) x v) q) ≡ options_read air v k l f n at
unfolding options_c first_parts put_options options_read
options_codec air v zero l f n at h = refl
options_codec air v (suc k) [] f n at h = absurd (omega (arith, h))
options_codec air v (suc k) (s ∷ l) f n at h = by_o_bit air v k s l f n ((flag element.o_bit).read f n at)

pub body_row : (air : Air) (t : ℕ) (f : ℕ → ℕ) (n at : ℕ)
    → (body_c air t).read f n at ≡ bind (parts_read air (blank t) (row_of t).count (row_of t).parts f n at) (λ w q. options_read air w (row_of t).options (row_of t).optional f n q)
unfolding body_c
body_row air t f n at =
    bind_bind these _ _
    ∙ bind_same these _ _
    (λ x p. bind_bind ((options_c air (puts ps x (blank t)) (options_of (row_of t))).read f n p) _ _ ∙ options_codec air (puts ps x (blank t)) (row_of t).options (row_of t).optional f n p (seven_options t))
    ∙ sym (bind_bind these _ _)
    ∙ ap (λ (r : Read Value). bind r (λ w q. options_read air w (row_of t).options (row_of t).optional f n q)) (parts_codec air (blank t) (row_of t).count (row_of t).parts f n at)
  where
    ps : List Part
    ps = parts_of (row_of t)

    these : Read (Tuple ps)
    these = (parts_c air (blank t) ps).read f n at

pub nothing_read : (air : Air) (v : Value) (f : ℕ → ℕ) (n at : ℕ) → part_read air v part.Nothing f n at ≡ got v at
unfolding part_read
nothing_read air v f n at = refl

pub users_read : (air : Air) (v : Value) (f : ℕ → ℕ) (n at : ℕ) → part_read air v part.Users f n at ≡ bind ((group_c air false false).read f n at) (λ g q. got (with_users g v) q)
unfolding part_read
users_read air v f n at = refl
