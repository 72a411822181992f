-- A row's parts and options tested one after the other, and that this is the test of the message's codec. Assumes nothing.
use Prim.Native.Nat.{ℕ, suc, ◌+◌, ◌-◌, ◌≤◌, ◌<◌}
use mathlib.Core.Path.{◌≡◌, refl, sym, ap, ◌∙◌}
use mathlib.Core.Bool.{Bool, true, false, not, cond}
use mathlib.Core.List.{List, [], ◌∷◌}
use native.Mathlib.Numerals.{add-one}
use native.Mathlib.Omega.{arith}
use lib.Dec.{leb}
use lib.ListN.{length, length-take, take, drop, get_or}
use lib.Seq.{get_or-take}
use Rattle.std.specs.Prelude.{min}
use borrow.Author.Tests.{leb-true, leb-false}
use Rattle.codec.specs.Codec.{Codec, both, pure, guard, choose}
use Rattle.codec.specs.Options.{absent, flag, optional}
use Rattle.codec.proofs.Good.{both_none}
use Rattle.profile.specs.declared.Air.{Air}
use Rattle.message.specs.Elements as element
use Rattle.message.specs.Values.{blank, given_at, same_value}
use Rattle.message.specs.Rows.{row_of, part_c, put, get, copy_of, parts_c, puts, gets, Options, if_given, put_option, get_option, copy_option, put_options, get_options, some_of, none_of, each_c, options_c, first_parts, parts_of, options_of}
use Rattle.message.specs.Messages.{body_c}
use Rattle.message.specs.declared.Part.{Part}
use Rattle.message.specs.declared.Part.TheVariants as part
use Rattle.message.specs.declared.Slot.{Slot}
use Rattle.message.specs.declared.Value.{Value}
use Rattle.message.proofs.RowLaws.{none_only}
use Rattle.message.proofs.SlotLaws.{slot_more, slot_end, slot_past, slot_start}
use Rattle.validity.specs.Parts.{part_ok, option_ok, options_ok, parts_ok}
use Rattle.validity.proofs.ValidLaws.{both_yes, both_all, flag_ok}

-- ---- the first k of some slots, as many as there are

abbrev no_slot : Slot
no_slot = record { part = part.Nothing }

module _ (k : ℕ) (l : List Slot) (n : ℕ) (e : n ≡ min k (length l)) (i : ℕ) where
  slot_here : i < length (take n l) → first_parts (k - i) (drop i l) ≡ (get_or (take n l) i no_slot).part ∷ first_parts (k - (i + 1)) (drop (i + 1) l)
  slot_here h =
      let t = length-take n l in
      let m : i < n = omega arith in
      rw (get_or-take n l i no_slot m) (slot_more k l i (omega arith) (omega arith))

  slot_done : length (take n l) ≤ i → first_parts (k - i) (drop i l) ≡ []
  slot_done h = go (leb k i) refl
    where
      go : (b : Bool) → leb k i ≡ b → first_parts (k - i) (drop i l) ≡ []
      go true f = slot_end k l i (leb-true k i f)
      go false f = let m = leb-false k i f in let t = length-take n l in slot_past k l i (omega arith)

-- ---- the loop over the options

module _ (air : Air) (w : Value) (k : ℕ) (l : List Slot) (n : ℕ) (e : n ≡ min k (length l)) (i : ℕ) (v : Value) where
  abbrev option : Part
  option = (get_or (take n l) i no_slot).part

  module _ (h : i < length (take n l)) where
    pub options_turn : (u : Value) → option_ok air i w option v ≡ true → u ≡ copy_option i option v w
        → options_ok air i w (first_parts (k - i) (drop i l)) v ≡ options_ok air (i + 1) u (first_parts (k - (i + 1)) (drop (i + 1) l)) v
    unfolding options_ok both
    options_turn u f d = rw (slot_here k l n e i h, f, d, add-one)

    pub options_not : option_ok air i w option v ≡ false → options_ok air i w (first_parts (k - i) (drop i l)) v ≡ false
    unfolding options_ok both
    options_not f = rw (slot_here k l n e i h, f)

  pub options_done : length (take n l) ≤ i → options_ok air i w (first_parts (k - i) (drop i l)) v ≡ same_value w v
  unfolding options_ok
  options_done h = rw (slot_done k l n e i h)

pub options_start : (air : Air) (w : Value) (k : ℕ) (l : List Slot) (v : Value) → options_ok air 0 w (first_parts k l) v ≡ options_ok air 0 w (first_parts (k - 0) (drop 0 l)) v
options_start air w k l v = rw (slot_start k l)

-- ---- the loop over the parts

module _ (air : Air) (w : Value) (k : ℕ) (l : List Slot) (n : ℕ) (e : n ≡ min k (length l)) (i : ℕ) (qs : List Part) (v : Value) where
  abbrev here : Part
  here = (get_or (take n l) i no_slot).part

  module _ (h : i < length (take n l)) where
    pub parts_turn : (u : Value) → part_ok air w here v ≡ true → u ≡ copy_of here v w
        → parts_ok air w (first_parts (k - i) (drop i l)) qs v ≡ parts_ok air u (first_parts (k - (i + 1)) (drop (i + 1) l)) qs v
    unfolding parts_ok both
    parts_turn u f d = rw (slot_here k l n e i h, f, d)

    pub parts_not : part_ok air w here v ≡ false → parts_ok air w (first_parts (k - i) (drop i l)) qs v ≡ false
    unfolding parts_ok both
    parts_not f = rw (slot_here k l n e i h, f)

  pub parts_done : length (take n l) ≤ i → parts_ok air w (first_parts (k - i) (drop i l)) qs v ≡ options_ok air 0 w qs v
  unfolding parts_ok
  parts_done h = rw (slot_done k l n e i h)

pub parts_start : (air : Air) (w : Value) (k : ℕ) (l : List Slot) (qs : List Part) (v : Value) → parts_ok air w (first_parts k l) qs v ≡ parts_ok air w (first_parts (k - 0) (drop 0 l)) qs v
parts_start air w k l qs v = rw (slot_start k l)

-- ---- one part, one option

pub nothing_ok : (air : Air) (w v : Value) → true ≡ part_ok air w part.Nothing v
unfolding part_ok
nothing_ok air w v = refl

pub option_given : (air : Air) (i : ℕ) (w : Value) (q : Part) (v : Value) → given_at i v ≡ true → option_ok air i w q v ≡ part_ok air w q v
unfolding option_ok
option_given air i w q v e = rw e

pub option_not : (air : Air) (i : ℕ) (w : Value) (q : Part) (v : Value) → given_at i v ≡ false → option_ok air i w q v ≡ true
unfolding option_ok
option_not air i w q v e = rw e

-- ---- options under their O-bit: it says no more than their P-bits do

absent_ok : {A : Type 0} (p : ℕ) (C : Codec A) → (optional p C).ok absent ≡ true
absent_ok p C = both_yes _ _ refl ∙ both_yes _ _ (flag_ok p false)

optional_ok : {A : Type 0} (p : ℕ) (C : Codec A) (b : Bool) (a : A) → (optional p C).ok (if_given b a) ≡ cond b (C.ok a) true
optional_ok p C true a = both_yes _ _ refl ∙ both_yes _ _ (flag_ok p true)
optional_ok p C false a = absent_ok p C

none_ok : (air : Air) (i : ℕ) (w : Value) (qs : List Part) → (each_c air i w qs).ok (none_of qs) ≡ true
unfolding each_c
none_ok air i w [] = refl
none_ok air i w (q ∷ qs) = both_yes _ _ (absent_ok element.p_bit (part_c air w q)) ∙ none_ok air (suc i) (put_option i q absent w) qs

options_each : (air : Air) (w : Value) (qs : List Part) (x : Options qs) → (options_c air w qs).ok x ≡ (each_c air 0 w qs).ok x
unfolding options_c each_c
options_each air w [] x = refl
options_each air w (q ∷ qs) x = go (some_of (q ∷ qs) x) refl
  where
    go : (b : Bool) → some_of (q ∷ qs) x ≡ b
        → both true (both ((flag element.o_bit).ok b) ((choose b (guard 12 (some_of (q ∷ qs)) (each_c air 0 w (q ∷ qs))) (pure (none_of (q ∷ qs)) (λ y. not (some_of (q ∷ qs) y)))).ok x))
        ≡ (each_c air 0 w (q ∷ qs)).ok x
    go true e = both_yes _ _ refl ∙ both_yes _ _ (flag_ok element.o_bit true) ∙ ap (both ((each_c air 0 w (q ∷ qs)).ok x)) e ∙ both_all _
    go false e =
        both_yes _ _ refl ∙ both_yes _ _ (flag_ok element.o_bit false) ∙ ap not e
        ∙ sym (ap (λ (y : Options (q ∷ qs)). (each_c air 0 w (q ∷ qs)).ok y) (none_only (q ∷ qs) x (ap not e)) ∙ none_ok air 0 w (q ∷ qs))

-- ---- the row of a type is its codec

-- a test in the midst goes to the front
both_front : (s a b c : Bool) → both s b ≡ c → both s (both a b) ≡ both a c
unfolding both
both_front s true b c e = e
both_front s false b c e = both_none s

both_midst : (s a b d c : Bool) → both s (both b d) ≡ c → both s (both (both a b) d) ≡ both a c
unfolding both
both_midst s true b d c e = e
both_midst s false b d c e = both_none s

each_codec : (air : Air) (i : ℕ) (w : Value) (qs : List Part) (v : Value)
    → both (same_value (put_options i qs (get_options i qs v) w) v) ((each_c air i w qs).ok (get_options i qs v)) ≡ options_ok air i w qs v
unfolding each_c put_options get_options options_ok option_ok part_ok copy_option
each_codec air i w [] v = both_all _
each_codec air i w (q ∷ qs) v =
    rw (optional_ok element.p_bit (part_c air w q) (given_at i v) (get q v))
    (both_front _ _ _ _ (each_codec air (suc i) (put_option i q (get_option i q v) w) qs v))

parts_codec : (air : Air) (w : Value) (ps qs : List Part) (v : Value)
    → both (same_value (put_options 0 qs (get_options 0 qs v) (puts ps (gets ps v) w)) v)
    (both ((parts_c air w ps).ok (gets ps v)) ((options_c air (puts ps (gets ps v) w) qs).ok (get_options 0 qs v))) ≡ parts_ok air w ps qs v
unfolding parts_c puts gets parts_ok part_ok copy_of
parts_codec air w [] qs v = rw (both_yes true ((options_c air w qs).ok (get_options 0 qs v)) refl, options_each air w qs (get_options 0 qs v)) (each_codec air 0 w qs v)
parts_codec air w (p ∷ ps) qs v = both_midst _ _ _ _ _ (parts_codec air (put p (get p v) w) ps qs v)

pub body_row : (air : Air) (t : ℕ) (v : Value) → (body_c air t).ok v ≡ parts_ok air (blank t) (parts_of (row_of t)) (options_of (row_of t)) v
unfolding body_c
body_row air t v = parts_codec air (blank t) (parts_of (row_of t)) (options_of (row_of t)) v
