-- No message but INTERROGATE ACK has lists: sources, destinations, areas. So of any other their bytes are zeros. Assumes nothing.
use Prim.Native.Nat.{ℕ, zero, suc, ◌+◌, ◌-◌, ◌≤◌, ◌<◌}
use mathlib.Core.Path.{◌≡◌, refl, sym, ap, ◌∙◌}
use mathlib.Core.Bool.{Bool, true, false, cond}
use mathlib.Core.List.{List, [], ◌∷◌}
use native.Mathlib.Omega.{arith}
use lib.Dec.{eqb}
use lib.ListN.{length, set, replicate}
use lib.Seq.{sets, length-sets, set_out}
use borrow.Author.Tests.{ne_eqb}
use Rattle.codec.specs.Codec.{both}
use Rattle.codec.proofs.Good.{both_left, both_right, not_both}
use Rattle.message.specs.Groups.{no_group, nobodies}
use Rattle.message.specs.Areas.{no_areas}
use Rattle.message.specs.Values.{no_lists, blank}
use Rattle.message.specs.Rows.{table, no_row, row_in, row_of, Holds, put, get, Tuple, puts, gets, Options, or_else, put_option, put_options, get_options, first_parts, parts_of, options_of}
use Rattle.message.specs.Messages.{fill, taken, body_c}
use Rattle.message.specs.declared.Lists.{Lists}
use Rattle.message.specs.declared.Part.{Part}
use Rattle.message.specs.declared.Part.TheVariants as part
use Rattle.message.specs.declared.Row.{Row}
use Rattle.message.specs.declared.Value.{Value}
use Rattle.message.proofs.TableLaws.{each_row}
use Rattle.message.proofs.ValueLaws.{value_one}
use Rattle.profile.specs.declared.Air.{Air}
use Rattle.validity.specs.Validity.{valid_of}
use Rattle.writing.proofs.LengthLaws.{valid_body}
use Rattle.layouts.specs.Bytes.{number_bytes, rows_bytes}
use Rattle.layouts.specs.Values.{address_bytes, group_bytes, areas_bytes, lists_bytes}

-- ---- the parts that have none

abbrev is_plain : Part → Bool
is_plain part.Nothing = true
is_plain (part.Number k) = true
is_plain part.Users = true
is_plain (part.User i) = true
is_plain part.Masked = true
is_plain part.Result = true
is_plain part.Dispatchers = true
is_plain part.Dispatcher = true
is_plain part.Interrogation = true
is_plain part.Sources = false
is_plain part.Destinations = false
is_plain part.Areas = false

put_plain : (p : Part) → is_plain p ≡ true → (x : Holds p) (v : Value) → (put p x v).lists ≡ v.lists
put_plain part.Nothing e x v = refl
put_plain (part.Number k) e x v = refl
put_plain part.Users e x v = refl
put_plain (part.User i) e x v = refl
put_plain part.Masked e x v = refl
put_plain part.Result e x v = refl
put_plain part.Dispatchers e x v = refl
put_plain part.Dispatcher e x v = refl
put_plain part.Interrogation e x v = refl
put_plain part.Sources e x v = not_both e
put_plain part.Destinations e x v = not_both e
put_plain part.Areas e x v = not_both e

abbrev all_plain : List Part → Bool
all_plain [] = true
all_plain (p ∷ ps) = both (is_plain p) (all_plain ps)

puts_plain : (ps : List Part) → all_plain ps ≡ true → (x : Tuple ps) (v : Value) → (puts ps x v).lists ≡ v.lists
unfolding puts
puts_plain [] e x v = refl
puts_plain (p ∷ ps) e x v = puts_plain ps (both_right (is_plain p) _ e) x.1 (put p x.0 v) ∙ put_plain p (both_left _ _ e) x.0 v

options_plain : (i : ℕ) (qs : List Part) → all_plain qs ≡ true → (x : Options qs) (v : Value) → (put_options i qs x v).lists ≡ v.lists
unfolding put_options
options_plain i [] e x v = refl
options_plain i (q ∷ qs) e x v =
    options_plain (suc i) qs (both_right (is_plain q) _ e) x.1 (put_option i q x.0 v) ∙ put_plain q (both_left _ _ e) (or_else x.0 (get q v)) v

-- ---- every row but that of INTERROGATE ACK

abbrev row_plain : ℕ → Row → Bool
row_plain t r = cond (eqb t 9) true (both (all_plain (parts_of r)) (all_plain (options_of r)))

none_plain : (t : ℕ) → row_plain t no_row ≡ true
unfolding first_parts both
none_plain t = go (eqb t 9)
  where
    go : (b : Bool) → cond b true true ≡ true
    go true = refl
    go false = refl

row_plain_lem : (t : ℕ) → row_plain t (row_of t) ≡ true
unfolding row_of row_in table first_parts both
row_plain_lem t = each_row row_plain table t refl (none_plain t)

module _ (air : Air) (v : Value) (ok : valid_of air v ≡ true) where
  -- a valid value of any other type has no lists
  pub no_lists_lem : (v.pdu ≡ 9 → ⊥) → v.lists ≡ no_lists
  unfolding body_c blank
  no_lists_lem other =
      let t = v.pdu in
      let ps = parts_of (row_of t) in
      let qs = options_of (row_of t) in
      let plain : both (all_plain ps) (all_plain qs) ≡ true = ap (λ (b : Bool). cond b true (both (all_plain ps) (all_plain qs))) (sym (ne_eqb t 9 other)) ∙ row_plain_lem t in
      sym (ap (λ (w : Value). w.lists) (value_one (fill t ps qs (taken t ps qs v)) v (both_left _ _ (valid_body air v ok))))
      ∙ options_plain 0 qs (both_right (all_plain ps) _ plain) (get_options 0 qs v) (puts ps (gets ps v) (blank t))
      ∙ puts_plain ps (both_left _ _ plain) (gets ps v) (blank t)

-- ---- their bytes

pub lists_zero : lists_bytes no_lists ≡ replicate 228 0
unfolding lists_bytes group_bytes areas_bytes address_bytes number_bytes rows_bytes no_lists no_group no_areas nobodies
lists_zero = refl

pub none_put : (lists : Lists) (l m : List ℕ) → m ≡ sets l 243 (replicate 228 0) → lists ≡ no_lists → m ≡ sets l 243 (lists_bytes lists)
none_put lists l m put none = put ∙ ap (λ (bs : List ℕ). sets l 243 bs) (sym (ap lists_bytes none ∙ lists_zero))

-- a loop that stores them, one more at each turn
abbrev zeros : ℕ → List ℕ
zeros k = replicate k 0

pub zeros_turn : (l : List ℕ) (at i : ℕ) → sets l at (zeros (suc i)) ≡ set (sets l at (zeros i)) (at + i) 0
zeros_turn l at zero = let z : at ≡ at + 0 = omega arith in ap (λ (k : ℕ). set l k 0) z
zeros_turn l at (suc i) = let z : suc at + i ≡ at + suc i = omega arith in zeros_turn (set l at 0) (suc at) i ∙ ap (λ (k : ℕ). set (sets l at (zeros (suc i))) k 0) z

pub zeros_more : (l : List ℕ) (at : ℕ) → 243 ≤ at → set (sets l 243 (replicate (at - 243) 0)) at 0 ≡ sets l 243 (replicate (at + 1 - 243) 0)
zeros_more l at e =
    let i = at - 243 in
    let here : at ≡ 243 + i = omega arith in
    let more : suc i ≡ at + 1 - 243 = omega arith in
    ap (λ (k : ℕ). set (sets l 243 (zeros i)) k 0) here ∙ sym (zeros_turn l 243 i) ∙ ap (λ (k : ℕ). sets l 243 (zeros k)) more

-- past the area's end they change nothing
zeros_past : (l : List ℕ) (at i j : ℕ) → length l ≤ at + i → sets l at (zeros (j + i)) ≡ sets l at (zeros i)
zeros_past l at i zero e = let z : 0 + i ≡ i = omega arith in ap (λ (k : ℕ). sets l at (zeros k)) z
zeros_past l at i (suc j) e =
    let z : suc j + i ≡ suc (j + i) = omega arith in
    ap (λ (k : ℕ). sets l at (zeros k)) z
    ∙ zeros_turn l at (j + i)
    ∙ set_out (sets l at (zeros (j + i))) (at + (j + i)) 0 (omega (arith, length-sets l at (zeros (j + i)), e))
    ∙ zeros_past l at i j e

pub zeros_all : (l : List ℕ) → length l < 471 → sets l 243 (replicate (length l - 243) 0) ≡ sets l 243 (replicate 228 0)
zeros_all l e =
    let i = length l - 243 in
    let all : (228 - i) + i ≡ 228 = omega arith in
    let past : length l ≤ 243 + i = omega arith in
    sym (zeros_past l 243 i (228 - i) past) ∙ ap (λ (k : ℕ). sets l 243 (zeros k)) all
