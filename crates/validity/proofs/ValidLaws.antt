-- What the tests of validity go by. Assumes nothing.
use Prim.Native.Nat.{ℕ, zero, suc, ◌+◌, ◌-◌, ◌*◌, ◌/◌, ◌%◌, ◌^◌, ◌≤◌, ◌<◌}
use mathlib.Core.Path.{◌≡◌, refl, sym, ap, ◌∙◌}
use mathlib.Core.Bool.{Bool, true, false, not, cond, ◌&&◌}
use Rattle.std.specs.List.{list_all}
use Rattle.std.proofs.lemmas.List.{length-drop, length-take-le, take_all}
use mathlib.Core.List.{List, [], ◌∷◌}
use native.Mathlib.Omega.{arith}
use lib.Dec.{eqb, leb, ltb}
use lib.ListN.{length, take, drop}
use lib.Pow.{shr_lt, shl_exact}
use borrow.Author.Tests.{eqb-true, eqb-false, eq-eqb, ne_eqb, lt-ltb, le-ltb, le-leb, leb-true, leb-false}
use Rattle.codec.specs.Codec.{Codec, both, number, pure, choose, vec_ok}
use Rattle.codec.specs.Options.{flag}
use Rattle.codec.proofs.Good.{both_true, both_left, both_right, both_none}
use Rattle.profile.specs.Rules.{meaning_in}
use Rattle.profile.specs.declared.Air.{Air}
use Rattle.message.specs.Addresses.{is_zero, is_kind, kind_c, address_c}
use Rattle.message.specs.Groups.{addresses_in, are_none, places_c, addresses_c, group_c}
use Rattle.message.specs.Elements as element
use Rattle.message.specs.Acks.{mask_c, masked_c, why_not_c, if_accepted_c, state_c}
use Rattle.message.specs.Rows.{table, row_of}
use Rattle.message.specs.Messages.{is_known, is_carried, header_c}
use Rattle.message.specs.declared.State.{State}
use Rattle.message.specs.declared.Row.{Row}
use Rattle.message.specs.declared.Address.{Address}
use Rattle.message.specs.declared.Group.{Group}
use Rattle.message.proofs.TableLaws.{all_rows, each_row}
use Rattle.validity.specs.Parts.{accepted_ok, not_accepted_ok}

-- ---- both

pub both_yes : (a b : Bool) → a ≡ true → both a b ≡ b
unfolding both
both_yes a b e = rw e

both_no : (a b : Bool) → a ≡ false → both a b ≡ false
unfolding both
both_no a b e = rw e

pub both_all : (a : Bool) → both a true ≡ a
unfolding both
both_all true = refl
both_all false = refl

-- ---- the kind

two_fits : (k : ℕ) (b : Bool) → eqb k 2 ≡ b → eqb k 2 ≡ both (ltb k (2 ^ 2)) (eqb k 2)
two_fits k true e = let h = eqb-true k 2 e in sym (both_yes _ _ (lt-ltb k (2 ^ 2) (omega arith)))
two_fits k false e = rw e (sym (both_none _))

-- a kind that is not 1 is good if it is 2
pub kind_two : (k : ℕ) → (k ≡ 1 → ⊥) → eqb k 2 ≡ (kind_c false).ok k
unfolding kind_c number
kind_two k h = rw (ne_eqb _ _ h) (two_fits k (eqb k 2) refl)

-- ---- fifteen places: the first k are good, those beyond are none

pub and_both : (a b : Bool) → (a && b) ≡ both a b
unfolding both
and_both true b = refl
and_both false b = refl

none_all : {A : Type 0} (is_none : A → Bool) (k : ℕ) (l : List A) → length l ≡ k → list_all is_none l ≡ are_none is_none k l
unfolding are_none
none_all {A = A} is_none k l e = rw (sym e) (go l)
  where
    go : (l : List A) → list_all is_none l ≡ are_none is_none (length l) l
    go [] = refl
    go (a ∷ l) = rw (go l) (and_both _ _)

first_all : {A : Type 0} (C : Codec A) (k : ℕ) (l : List A) → length l ≡ k → list_all (λ a. C.ok a) l ≡ vec_ok C k l
first_all {A = A} C k l e = rw (sym e) (go l)
  where
    go : (l : List A) → list_all (λ a. C.ok a) l ≡ vec_ok C (length l) l
    go [] = refl
    go (a ∷ l) = rw (go l) (and_both _ _)

-- a slice from k to the fifteenth is what lies beyond k
pub all_beyond : {A : Type 0} (l : List A) (k : ℕ) → length l ≡ 15 → take (15 - k) (drop k l) ≡ drop k l
all_beyond l k e = take_all (15 - k) (drop k l) (let d = length-drop k l in omega arith)

module _ {A : Type 0} (is_none : A → Bool) (C : Codec A) (l : List A) (k : ℕ) (e : length l ≡ 15) (h : k ≤ 15) where
  abbrev places : Bool
  places = both (are_none is_none (15 - k) (drop k l)) (vec_ok C k (take k l))

  beyond : list_all is_none (drop k l) ≡ are_none is_none (15 - k) (drop k l)
  beyond = none_all is_none (15 - k) (drop k l) (length-drop k l ∙ ap (λ n. n - k) e)

  first : list_all (λ a. C.ok a) (take k l) ≡ vec_ok C k (take k l)
  first = first_all C k (take k l) (let m : k ≤ length l = omega arith in length-take-le k l m)

  pub places_then : list_all is_none (drop k l) ≡ true → list_all (λ a. C.ok a) (take k l) ≡ places
  places_then t = first ∙ sym (both_yes _ _ (sym beyond ∙ t))

  pub places_else : list_all is_none (drop k l) ≡ false → false ≡ places
  places_else f = sym (both_no _ _ (sym beyond ∙ f))

-- ---- a destination is good as any other address is

module _ (k : ℕ) where
  kind_by : (b : Bool) → eqb k 3 ≡ b → both (both (ltb k (2 ^ 2)) (not b)) (is_kind k) ≡ both (ltb k (2 ^ 2)) (is_kind k)
  unfolding both
  kind_by true e = rw (eqb-true k 3 e)
  kind_by false e = ap (λ (b : Bool). both b (is_kind k)) (both_all (ltb k (2 ^ 2)))

  kind_alike : (kind_c true).ok k ≡ (kind_c false).ok k
  unfolding kind_c number
  kind_alike = kind_by (eqb k 3) refl

address_alike : (a : Address) → (address_c true).ok a ≡ (address_c false).ok a
unfolding address_c
address_alike a = rw (kind_alike a.kind)

vec_alike : (k : ℕ) (xs : List Address) → vec_ok (address_c true) k xs ≡ vec_ok (address_c false) k xs
vec_alike zero [] = refl
vec_alike zero (a ∷ xs) = refl
vec_alike (suc k) [] = refl
vec_alike (suc k) (a ∷ xs) = rw (address_alike a, vec_alike k xs)

pub group_alike : (air : Air) (none : Bool) (g : Group) → (group_c air none true).ok g ≡ (group_c air none false).ok g
unfolding group_c addresses_c places_c
group_alike air none g = rw (vec_alike (addresses_in (meaning_in air.meanings g.range)) (take (addresses_in (meaning_in air.meanings g.range)) g.addresses))

-- ---- a mask of n identities in 64 bits

module _ (n m : ℕ) (h : n ≤ 64) (f : m < 2 ^ 64) where
  mask_lt : m / 2 ^ (64 - n) < 2 ^ n
  mask_lt = let w : n + (64 - n) ≡ 64 = omega arith in shr_lt n (64 - n) (rw w f)

  -- its number is never too wide
  mask_ok : (mask_c n).ok m ≡ eqb (m / 2 ^ (64 - n) * 2 ^ (64 - n)) m
  unfolding mask_c number
  mask_ok = rw (lt-ltb _ _ mask_lt) (both_all _)

  pub mask_some : eqb (m / 2 ^ (64 - n) * 2 ^ (64 - n) % 2 ^ 64) m ≡ (mask_c n).ok m
  mask_some = rw (mask_ok, shl_exact n (64 - n) 64 mask_lt (omega arith))

zero_first : (m : ℕ) (b : Bool) → eqb m 0 ≡ b → eqb m 0 ≡ eqb 0 m
zero_first m true e = let z = eqb-true m 0 e in rw z
zero_first m false e = rw e (sym (ne_eqb 0 m (λ z. eqb-false m 0 e (sym z))))

pub mask_none : (n m : ℕ) → n ≡ 0 → m < 2 ^ 64 → eqb m 0 ≡ (mask_c n).ok m
mask_none n m e f = rw e (of_none (mask_lt 0 m (omega arith) f))
  where
    of_none : m / 2 ^ 64 < 2 ^ 0 → eqb m 0 ≡ (mask_c 0).ok m
    of_none k = let z : m / 2 ^ 64 ≡ 0 = omega arith in rw (mask_ok 0 m (omega arith) f, z) (zero_first m (eqb m 0) refl)

-- ---- the state of an INTERROGATE ACK

below : (n m k : ℕ) → m ≡ suc k → ltb n m ≡ leb n k
below n m k e = go (leb n k) refl
  where
    go : (b : Bool) → leb n k ≡ b → ltb n m ≡ b
    go true h = let l = leb-true n k h in lt-ltb n m (omega arith)
    go false h = let l = leb-false n k h in le-ltb n m (omega arith)

both_eq : {a b c d : Bool} → a ≡ b → c ≡ d → both a c ≡ both b d
both_eq e h = rw (e, h)

module _ (s : State) where
  content : (b : Bool)
      → both ((choose b (pure 0 is_zero) (number element.reason 3)).ok s.reason)
      (both ((choose b (number element.activation_type 1) (pure 0 is_zero)).ok s.activation)
      (both ((choose b (number element.interception_type 1) (pure 0 is_zero)).ok s.interception)
      (both ((choose b (number element.basic_service 2) (pure 0 is_zero)).ok s.called) ((choose b (number element.basic_service 2) (pure 0 is_zero)).ok s.calling))))
      ≡ cond b (accepted_ok s) (not_accepted_ok s)
  unfolding number accepted_ok not_accepted_ok
  content true =
      both_eq refl
      (both_eq (below s.activation (2 ^ 1) 1 refl)
      (both_eq (below s.interception (2 ^ 1) 1 refl) (both_eq (below s.called (2 ^ 2) 3 refl) (below s.calling (2 ^ 2) 3 refl))))
  content false = both_eq (below s.reason (2 ^ 3) 7 refl) refl

  pub state_by_lem : state_c.ok s ≡ both (leb s.result 1) (cond (eqb s.result 1) (accepted_ok s) (not_accepted_ok s))
  unfolding state_c why_not_c if_accepted_c number
  state_by_lem = both_yes _ _ refl ∙ both_eq (below s.result (2 ^ 1) 1 refl) (content (eqb s.result 1))

-- ---- what is there or not

pub flag_ok : (e : ℕ) (b : Bool) → (flag e).ok b ≡ true
unfolding flag number both
flag_ok e true = refl
flag_ok e false = refl

pub masked_there : (n m : ℕ) (b : Bool) → b ≡ true → (masked_c n).ok (b, m) ≡ (mask_c n).ok m
unfolding masked_c
masked_there n m b e = rw e (both_yes _ _ (flag_ok _ true))

pub masked_none : (n m : ℕ) (b : Bool) → b ≡ false → (masked_c n).ok (b, m) ≡ is_zero m
unfolding masked_c
masked_none n m b e = rw e (both_yes _ _ (flag_ok _ false))

-- ---- the header

-- a type that is carried is a known one
abbrev only_known : ℕ → Row → Bool
only_known t r = cond r.carried (is_known t) true

all_known : all_rows only_known table ≡ true
unfolding table is_known both
all_known = refl

carried_known : (t : ℕ) → is_carried t ≡ true → is_known t ≡ true
unfolding is_carried row_of
carried_known t e = ap (λ (b : Bool). cond b (is_known t) true) (sym e) ∙ each_row only_known table t all_known refl

carried_small : (t : ℕ) → is_carried t ≡ true → (2 ≤ t) × (t ≤ 18)
unfolding is_known
carried_small t e = let k = carried_known t e in (leb-true 2 t (both_left _ _ k), leb-true t 18 (both_right (leb 2 t) _ k))

-- so the header of a carried type is a good one
pub carried_ok : (ss t : ℕ) → ss < 64 → is_carried t ≡ true → (header_c ss).ok (ss, t) ≡ true
unfolding header_c number is_known
carried_ok ss t h e =
    let s = carried_small t e in
    both_true _ _
    (both_true _ _
    (both_true _ _ (both_true _ _ (lt-ltb ss (2 ^ 6) (omega arith)) (lt-ltb t (2 ^ 5) (omega (arith, s)))) (eq-eqb ss ss refl))
    (both_true _ _ (le-leb 2 t (omega (arith, s))) (le-leb t 18 (omega (arith, s)))))
    e

uncarried : (ss t : ℕ) → is_carried t ≡ false → (header_c ss).ok (ss, t) ≡ false
unfolding header_c
uncarried ss t e = rw e (both_none _)

header_by : (ss t : ℕ) (b : Bool) → ss < 64 → is_carried t ≡ b → is_carried t ≡ (header_c ss).ok (ss, t)
header_by ss t true h e = e ∙ sym (carried_ok ss t h e)
header_by ss t false h e = e ∙ sym (uncarried ss t e)

-- a carried type is known and fits; the SS type is itself
pub header_fits : (ss t : ℕ) → ss < 64 → is_carried t ≡ (header_c ss).ok (ss, t)
header_fits ss t h = header_by ss t (is_carried t) h refl

pub header_wide : (ss t : ℕ) → 64 ≤ ss → (header_c ss).ok (ss, t) ≡ false
unfolding header_c number both
header_wide ss t h = rw (le-ltb ss (2 ^ 6) h)
