-- What is put into a value and taken out of it again; the tables past their ends, and widths that fit a number of 32 bits. Assumes nothing.
use Prim.Native.Nat.{ℕ, zero, suc, ◌≤◌}
use mathlib.Core.Path.{◌≡◌, refl, sym, ap, ◌∙◌}
use mathlib.Core.Bool.{Bool, true, false, not, ◌||◌}
use mathlib.Core.List.{List, [], ◌∷◌}
use native.Mathlib.Omega.{arith}
use lib.Dec.{eqb, leb}
use lib.ListN.{length, get_or, set, get_or-eq_default}
use lib.Seq.{set-get_or}
use borrow.Author.Tests.{eqb-true, leb-true}
use Rattle.codec.specs.Codec.{both}
use Rattle.codec.specs.Options.{Optional, absent, there, is_there}
use Rattle.codec.proofs.Good.{both_left, both_right, not_both}
use Rattle.message.specs.Addresses.{nobody}
use Rattle.message.specs.Numbers as place
use Rattle.message.specs.Numbers.{elements, element_of, widths, width_of}
use Rattle.message.specs.Values.{number_at, given_at, with_number, with_given}
use Rattle.message.specs.Rows.{table, row_of, put, get, Options, or_else, if_given, put_option, copy_option, put_options, some_of, none_of}
use Rattle.message.specs.declared.Group.{Group}
use Rattle.message.specs.declared.Part.{Part}
use Rattle.message.specs.declared.Part.TheVariants as part
use Rattle.message.specs.declared.Value.{Value}
use Rattle.message.proofs.TableLaws.{each_row}

-- ---- past the end of an array

pub past_end : {A : Type 0} (l : List A) (n i : ℕ) (d : A) → length l ≡ n → n ≤ i → d ≡ get_or l i d
past_end l n i d e h = let k : length l ≤ i = omega arith in sym (get_or-eq_default l d k)

-- ---- every row has seven slots for its options

pub seven_options : (t : ℕ) → length (row_of t).optional ≡ 7
unfolding row_of table both
seven_options t = eqb-true _ _ (each_row (λ u r. eqb (length r.optional) 7) table t refl refl)

-- ---- no number is wider than 32 bits

abbrev all_up_to : ℕ → List ℕ → Bool
all_up_to k [] = true
all_up_to k (x ∷ l) = both (leb x k) (all_up_to k l)

at_most : (k : ℕ) (l : List ℕ) → all_up_to k l ≡ true → (i : ℕ) → get_or l i 0 ≤ k
at_most k [] e i = omega arith
at_most k (x ∷ l) e zero = leb-true x k (both_left _ _ e)
at_most k (x ∷ l) e (suc i) = at_most k l (both_right (leb x k) _ e) i

pub width_few : (k : ℕ) → width_of k ≤ 32
unfolding width_of widths both
width_few k = at_most 32 widths refl k

-- ---- what is there, put back, changes nothing

number_back : (k : ℕ) (v : Value) → with_number k (number_at k v) v ≡ v
number_back k v = rw (set-get_or v.numbers k 0)

-- and so after another that changed nothing
number_back_on : (k : ℕ) (v w : Value) → w ≡ v → with_number k (number_at k v) w ≡ v
number_back_on k v w e = ap (λ (u : Value). with_number k (number_at k v) u) e ∙ number_back k v

group_back : (i : ℕ) (g : Group) → ◌≡◌ {A = Group} (record { range = g.range; addresses = set g.addresses i (get_or g.addresses i nobody) }) g
group_back i g = rw (set-get_or g.addresses i nobody)

pub put_get : (p : Part) (v : Value) → put p (get p v) v ≡ v
put_get part.Nothing v = refl
put_get (part.Number k) v = number_back k v
put_get part.Users v = refl
put_get (part.User i) v = rw (group_back i v.users)
put_get part.Masked v = refl
put_get part.Result v = number_back_on place.reason v _ (number_back place.result v)
put_get part.Dispatchers v = refl
put_get part.Dispatcher v = rw (group_back 0 v.dispatchers)
put_get part.Interrogation v =
    number_back_on place.calling_service v _
    (number_back_on place.called_service v _
    (number_back_on place.interception_type v _
    (number_back_on place.activation_type v _ (number_back_on place.reason v _ (number_back place.result v)))))
put_get part.Sources v = refl
put_get part.Destinations v = refl
put_get part.Areas v = refl

-- an option that is absent changes nothing
pub option_absent : (i : ℕ) (q : Part) (v : Value) → put_option i q absent v ≡ v
option_absent i q v = ap (λ (w : Value). with_given i (given_at i v) w) (put_get q v) ∙ rw (set-get_or v.given i false)

pub copy_absent : (i : ℕ) (q : Part) (v w : Value) → given_at i v ≡ false → w ≡ copy_option i q v w
unfolding copy_option
copy_absent i q v w e = sym (ap (λ (b : Bool). put_option i q (if_given b (get q v)) w) e ∙ option_absent i q w)

pub options_absent : (i : ℕ) (qs : List Part) (v : Value) → put_options i qs (none_of qs) v ≡ v
unfolding put_options
options_absent i [] v = refl
options_absent i (q ∷ qs) v = ap (λ (w : Value). put_options (suc i) qs (none_of qs) w) (option_absent i q v) ∙ options_absent (suc i) qs v

-- ---- options that are there or not

-- an option that was put into a blank value, taken out again
pub given_back : {A : Type 0} (x : Optional A) (d : A) → if_given (is_there x || false) (or_else x d) ≡ x
given_back absent d = refl
given_back (there a) d = refl

pub none_none : (qs : List Part) → some_of qs (none_of qs) ≡ false
none_none [] = refl
none_none (q ∷ qs) = none_none qs

pub none_only : (qs : List Part) (x : Options qs) → not (some_of qs x) ≡ true → x ≡ none_of qs
none_only [] x e = refl
none_only (q ∷ qs) (absent, y) e = ap (λ (z : Options qs). (absent, z)) (none_only qs y e)
none_only (q ∷ qs) (there a, y) e = not_both e
