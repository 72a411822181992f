-- The two layouts lose nothing: what is taken from bytes is written as those bytes, and what is written as bytes is taken from them as it
-- was.
--     profile-there, profile-back     for profiles
--     value_there, value-back         for values
-- So bytes that are taken are the bytes of exactly one profile or value. And no valid value is left out, nor profile that keeps the rules:
--     profile-taken, value_taken      its bytes are taken
-- Assumes nothing.
use Prim.Native.Nat.{ℕ, zero, suc, ◌+◌, ◌*◌, ◌%◌, ◌^◌, ◌≤◌, ◌<◌}
use mathlib.Core.Path.{◌≡◌, refl, sym, ap, ◌∙◌}
use mathlib.Core.Bool.{Bool, true, false, cond}
use mathlib.Core.List.{List, [], ◌∷◌, ◌++◌, append_assoc, append-nil}
use native.Mathlib.Omega.{arith}
use lib.Dec.{eqb, leb}
use lib.ListN.{length, get_or, take, drop, length-append, length-drop, drop_of_length-le}
use lib.Seq.{sets, sets-eq, take-add, take_all, take_at, drop-cons, drop-drop, drop_at, drop-nil, get_or-drop}
use borrow.Author.Tests.{eq-eqb, eqb-true, ne_eqb, leb-true, le-leb}
use Rattle.codec.proofs.Good.{both_true, both_left, both_right}
use Rattle.profile.specs.Counting.{every, one}
use Rattle.profile.proofs.CountLaws.{every_at}
use Rattle.profile.specs.Rules.{reserved, no_share, meaning_of, meaning_ok_by, meaning_ok, meaning_in, air_ok, profile_ok}
use Rattle.profile.specs.declared.Kind.{Kind}
use Rattle.profile.specs.declared.Kind.TheVariants as kind
use Rattle.profile.specs.declared.Meaning.{Meaning}
use Rattle.profile.specs.declared.Air.{Air}
use Rattle.profile.specs.declared.Share.{Share}
use Rattle.profile.specs.declared.Profile.{Profile}
use Rattle.message.specs.Numbers as place
use Rattle.message.specs.Values.{number_at, given_at, with_numbers, with_givens}
use Rattle.message.specs.Addresses.{is_zero}
use Rattle.message.proofs.AddressLaws.{zero_is}
use Rattle.message.specs.declared.Address.{Address}
use Rattle.message.specs.declared.Group.{Group}
use Rattle.message.specs.declared.Areas.{Areas}
use Rattle.message.specs.declared.Value.{Value}
use Rattle.validity.specs.Validity.{valid_of}
use Rattle.layouts.specs.Bytes.{number_from, number_bytes, rows_from, rows_bytes, are_zero}
use Rattle.layouts.specs.Profiles.{byte_by, meaning_bytes, meaning_from, share_bytes, share_from, profile_bytes, air_from, shares_from, profile_from, spare_zero, is_profile}
use Rattle.layouts.specs.Values.{address_bytes, address_from, group_bytes, group_from, byte_from, byte_bytes, areas_bytes, areas_from, value_size, first_bytes, more_bytes, type_bytes, lists_bytes, lists_from, value_bytes, value_from, is_value}
use Rattle.layouts.proofs.ByteLaws.{byte_here, length_number}
use Rattle.layouts.proofs.PutLaws.{length_address, length_group, length_more, length_types}
use Rattle.layouts.proofs.RowLaws.{AreBytes, bytes_drop, low_byte, number_there, number_back, rows_there, rows_back, byte_front, run_front, past_byte, past_run, all_of, rows_length}
use Rattle.layouts.proofs.FitLaws.{AddressFits, GroupFits, sizes, size_of, NumbersFit, ValueFits, valid_fits}

-- ---- addresses and groups

address_there : (l : List ℕ) → AreBytes l → 7 ≤ length l → address_bytes (address_from l) ≡ take 7 l
unfolding address_bytes address_from
address_there l h k =
    let a : 3 ≤ length (drop 1 l) = omega (arith, length-drop 1 l) in
    let b : 3 ≤ length (drop 4 l) = omega (arith, length-drop 4 l) in
    let c : drop 0 l ≡ get_or l 0 0 ∷ drop 1 l = drop-cons l 0 0 (omega arith) in
    rw (number_there 3 (drop 1 l) (bytes_drop 1 l h) a, number_there 3 (drop 4 l) (bytes_drop 4 l h) b)
    (ap (λ (x : List ℕ). get_or l 0 0 ∷ x) (sym (take-add 3 3 (drop 1 l) ∙ rw (drop-drop 3 1 l))) ∙ sym (ap (λ (x : List ℕ). take 7 x) c))

pub address_back : (a : Address) (ys : List ℕ) → AddressFits a → address_from (address_bytes a ++ ys) ≡ a
unfolding address_bytes address_from
address_back a ys p =
    let xs = number_bytes 3 a.ssi in
    let zs = number_bytes 3 a.extension in
    let r : (xs ++ zs) ++ ys ≡ xs ++ (zs ++ ys) = append_assoc xs zs ys in
    rw (r, number_back 3 a.ssi (zs ++ ys) p.ssi, drop_at xs (zs ++ ys) 3 (length_number 3 a.ssi), number_back 3 a.extension ys p.extension)

group_there : (l : List ℕ) → AreBytes l → 106 ≤ length l → group_bytes (group_from l) ≡ take 106 l
unfolding group_bytes group_from
group_there l h k =
    let c : drop 0 l ≡ get_or l 0 0 ∷ drop 1 l = drop-cons l 0 0 (omega arith) in
    rw (rows_there address_from address_bytes 7 15 (drop 1 l) each) (sym (ap (λ (x : List ℕ). take 106 x) c))
  where
    each : (i : ℕ) → i < 15 → address_bytes (address_from (drop (7 * i) (drop 1 l))) ≡ take 7 (drop (7 * i) (drop 1 l))
    each i m =
        address_there (drop (7 * i) (drop 1 l)) (bytes_drop (7 * i) (drop 1 l) (bytes_drop 1 l h)) (omega (arith, length-drop (7 * i) (drop 1 l), length-drop 1 l))

group_back : (g : Group) (ys : List ℕ) → GroupFits g → group_from (group_bytes g ++ ys) ≡ g
unfolding group_bytes group_from
group_back g ys p = rw (rows_back address_from address_bytes 7 AddressFits length_address address_back 15 g.addresses ys p.places p.each)

-- ---- areas

areas_there : (l : List ℕ) → 16 ≤ length l → areas_bytes (areas_from l) ≡ take 16 l
unfolding areas_bytes areas_from
areas_there l k =
    let c : drop 0 l ≡ get_or l 0 0 ∷ drop 1 l = drop-cons l 0 0 (omega arith) in
    rw (rows_there byte_from byte_bytes 1 15 (drop 1 l) each) (sym (ap (λ (x : List ℕ). take 16 x) c))
  where
    one_there : (m : List ℕ) → 1 ≤ length m → get_or m 0 0 ∷ [] ≡ take 1 m
    one_there [] h = absurd (omega arith)
    one_there (b ∷ m) h = refl

    each : (i : ℕ) → i < 15 → byte_bytes (byte_from (drop (1 * i) (drop 1 l))) ≡ take 1 (drop (1 * i) (drop 1 l))
    each i m = one_there (drop (1 * i) (drop 1 l)) (omega (arith, length-drop (1 * i) (drop 1 l), length-drop 1 l))

areas_back : (a : Areas) (ys : List ℕ) → length a.areas ≡ 15 → areas_from (areas_bytes a ++ ys) ≡ a
unfolding areas_bytes areas_from
areas_back a ys h =
    rw (rows_back byte_from byte_bytes 1 (λ (b : ℕ). Unit {0}) (λ b. refl) (λ b zs t. refl) 15 a.areas ys h (all_of (λ (b : ℕ). Unit {0}) 0 a.areas (λ i k. tt)))

length_areas : (a : Areas) → length a.areas ≡ 15 → length (areas_bytes a) ≡ 16
unfolding areas_bytes
length_areas a h = omega (arith, h, rows_length byte_from byte_bytes 1 (λ b. refl) a.areas)

-- ---- values

flag_there : (b : ℕ) → b ≤ 1 → one (eqb b 1) ≡ b
flag_there zero h = refl
flag_there (suc zero) h = refl
flag_there (suc (suc b)) h = absurd (omega arith)

flag_back : (b : Bool) → eqb (one b) 1 ≡ b
flag_back true = refl
flag_back false = refl

low_small : {n : ℕ} → n < 256 → n % 256 ≡ n
low_small {n} h = omega arith

-- the bytes of the types and the lists; those after the dispatchers, after the identifier, after the mask, and after the users
abbrev last_of : Value → List ℕ
last_of v = type_bytes v.numbers ++ lists_bytes v.lists

abbrev after_dispatchers : Value → List ℕ
after_dispatchers v = more_bytes v.numbers v.given ++ last_of v

abbrev after_identifier : Value → List ℕ
after_identifier v = one (given_at 0 v) ∷ (group_bytes v.dispatchers ++ after_dispatchers v)

abbrev after_mask : Value → List ℕ
after_mask v =
    number_at place.result v % 256 ∷ (number_at place.reason v % 256 ∷ (number_at place.cause v % 256 ∷ (number_bytes 2 (number_at place.identifier v) ++ after_identifier v)))

abbrev after_users : Value → List ℕ
after_users v = one v.masked ∷ (number_bytes 8 v.mask ++ after_mask v)

mask_is : (v : Value) → first_bytes v.numbers v.given ++ (group_bytes v.dispatchers ++ after_dispatchers v) ≡ after_mask v
unfolding first_bytes
mask_is v =
    ap (λ (x : List ℕ). number_at place.result v % 256 ∷ (number_at place.reason v % 256 ∷ (number_at place.cause v % 256 ∷ x)))
    (append_assoc (number_bytes 2 (number_at place.identifier v)) (one (given_at 0 v) ∷ []) (group_bytes v.dispatchers ++ after_dispatchers v))

value_is : (v : Value) → value_bytes v ≡ v.pdu ∷ (group_bytes v.users ++ after_users v)
unfolding value_bytes
value_is v = simp append_assoc (ap (λ (x : List ℕ). v.pdu ∷ (group_bytes v.users ++ (one v.masked ∷ (number_bytes 8 v.mask ++ x)))) (mask_is v))

-- the bytes of the types and the lists
last_there : (l : List ℕ) → AreBytes l → is_value l ≡ true → last_of (value_from l) ≡ drop 241 l
unfolding value_from is_value type_bytes lists_bytes lists_from
last_there l h e =
    let n : length l ≡ value_size = eqb-true _ _ (both_left _ _ e) in
    let sources = group_there (drop 243 l) (bytes_drop 243 l h) (omega (arith, length-drop 243 l)) in
    let destinations = group_there (drop 349 l) (bytes_drop 349 l h) (omega (arith, length-drop 349 l)) in
    let areas = areas_there (drop 455 l) (omega (arith, length-drop 455 l)) ∙ take_all 16 (drop 455 l) (omega (arith, length-drop 455 l)) in
    let d243 = run_front l 243 106 _ _ sources (run_front l 349 106 _ _ destinations areas) in
    byte_front l 241 _ _ (omega arith) (low_byte l h 241) (byte_front l 242 _ _ (omega arith) (low_byte l h 242) d243)

-- and those from the further options on
more_is : (n : List ℕ) (g : List Bool) (rest : List ℕ)
    → more_bytes n g ++ rest
    ≡ one (get_or g 1 false) ∷ (one (get_or g 2 false) ∷ (one (get_or g 3 false) ∷ (one (get_or g 4 false) ∷ (one (get_or g 5 false) ∷ (one (get_or g 6 false)
    ∷ (number_bytes 3 (get_or n place.mni 0) ++ (get_or n place.calling_area 0 % 256 ∷ (get_or n place.called_area 0 % 256 ∷ (get_or n place.calling_service 0 % 256 ∷ (get_or n place.called_service 0 % 256 ∷ rest))))))))))
unfolding more_bytes
more_is n g rest =
    ap (λ (x : List ℕ). one (get_or g 1 false) ∷ (one (get_or g 2 false) ∷ (one (get_or g 3 false) ∷ (one (get_or g 4 false) ∷ (one (get_or g 5 false) ∷ (one (get_or g 6 false) ∷ x))))))
    (append_assoc (number_bytes 3 (get_or n place.mni 0)) (get_or n place.calling_area 0 % 256 ∷ get_or n place.called_area 0 % 256 ∷ get_or n place.calling_service 0 % 256 ∷ get_or n place.called_service 0 % 256 ∷ []) rest)

more_there : (l : List ℕ) → AreBytes l → is_value l ≡ true → after_dispatchers (value_from l) ≡ drop 228 l
unfolding value_from is_value
more_there l h e =
    let n : length l ≡ value_size = eqb-true _ _ (both_left _ _ e) in
    let small = every_at 6 _ (both_right (leb (get_or l 121 0) 1) _ (both_right (leb (get_or l 107 0) 1) _ (both_right (eqb (length l) value_size) _ e))) in
    let flag : (r : ℕ) → r < 6 → one (eqb (get_or l (228 + r) 0) 1) ≡ get_or l (228 + r) 0 = λ r k. flag_there _ (leb-true _ _ (small r k)) in
    let mni = number_there 3 (drop 234 l) (bytes_drop 234 l h) (omega (arith, length-drop 234 l)) in
    let d241 : last_of (value_from l) ≡ drop 241 l = last_there l h e in
    let d239 = byte_front l 239 _ _ (omega arith) (low_byte l h 239) (byte_front l 240 _ _ (omega arith) (low_byte l h 240) d241) in
    let d237 = byte_front l 237 _ _ (omega arith) (low_byte l h 237) (byte_front l 238 _ _ (omega arith) (low_byte l h 238) d239) in
    let d232 = byte_front l 232 _ _ (omega arith) (flag 4 (omega arith)) (byte_front l 233 _ _ (omega arith) (flag 5 (omega arith)) (run_front l 234 3 _ _ mni d237)) in
    let d230 = byte_front l 230 _ _ (omega arith) (flag 2 (omega arith)) (byte_front l 231 _ _ (omega arith) (flag 3 (omega arith)) d232) in
    more_is _ _ _ ∙ byte_front l 228 _ _ (omega arith) (flag 0 (omega arith)) (byte_front l 229 _ _ (omega arith) (flag 1 (omega arith)) d230)

-- what is taken from a value's bytes is written as those bytes
pub value_there : (l : List ℕ) → AreBytes l → is_value l ≡ true → value_bytes (value_from l) ≡ l
unfolding value_from is_value
value_there l h e =
    let n : length l ≡ value_size = eqb-true _ _ (both_left _ _ e) in
    let flags = both_right (eqb (length l) value_size) _ e in
    let masked : one (eqb (get_or l 107 0) 1) ≡ get_or l 107 0 = flag_there _ (leb-true _ _ (both_left _ _ flags)) in
    let option : one (eqb (get_or l 121 0) 1) ≡ get_or l 121 0 = flag_there _ (leb-true _ _ (both_left _ _ (both_right (leb (get_or l 107 0) 1) _ flags))) in
    let users = group_there (drop 1 l) (bytes_drop 1 l h) (omega (arith, length-drop 1 l)) in
    let mask = number_there 8 (drop 108 l) (bytes_drop 108 l h) (omega (arith, length-drop 108 l)) in
    let identifier = number_there 2 (drop 119 l) (bytes_drop 119 l h) (omega (arith, length-drop 119 l)) in
    let dispatchers = group_there (drop 122 l) (bytes_drop 122 l h) (omega (arith, length-drop 122 l)) in
    let d122 = run_front l 122 106 _ _ dispatchers (more_there l h e) in
    let d119 = run_front l 119 2 _ _ identifier (byte_front l 121 _ _ (omega arith) option d122) in
    let d116 = byte_front l 116 _ _ (omega arith) (low_byte l h 116) (byte_front l 117 _ _ (omega arith) (low_byte l h 117) (byte_front l 118 _ _ (omega arith) (low_byte l h 118) d119)) in
    let d107 = byte_front l 107 _ _ (omega arith) masked (run_front l 108 8 _ _ mask d116) in
    value_is (value_from l) ∙ byte_front l 0 _ _ (omega arith) refl (run_front l 1 106 _ _ users d107)

-- n elements from the i-th on, one by one
abbrev each_of : {A : Type 0} → A → List A → ℕ → ℕ → List A
each_of d l i zero = []
each_of d l i (suc n) = get_or l i d ∷ each_of d l (suc i) n

each_are : {A : Type 0} (d : A) (l : List A) (i n : ℕ) → i + n ≡ length l → drop i l ≡ each_of d l i n
each_are d l i zero e = drop_of_length-le l {i = i} (omega arith)
each_are d l i (suc n) e = drop-cons l i d (omega arith) ∙ ap (λ x. get_or l i d ∷ x) (each_are d l (suc i) n (omega arith))

-- the last number has no bytes
numbers_are : (l : List ℕ) → NumbersFit l
    → l ≡ get_or l 0 0 ∷ get_or l 1 0 ∷ get_or l 2 0 ∷ get_or l 3 0 ∷ get_or l 4 0 ∷ get_or l 5 0 ∷ get_or l 6 0 ∷ get_or l 7 0 ∷ get_or l 8 0 ∷ get_or l 9 0 ∷ get_or l 10 0 ∷ 0 ∷ []
unfolding size_of sizes
numbers_are l n = each_are 0 l 0 12 (sym n.long) ∙ rw (none 11 refl)
  where
    none : (k : ℕ) → size_of k ≡ 0 → get_or l k 0 ≡ 0
    none k e = let h = n.each k in let z : 2 ^ (8 * size_of k) ≡ 1 = rw e in omega (arith, h, z)

value_of : (v : Value) (ns : List ℕ) (gs : List Bool) → v.numbers ≡ ns → v.given ≡ gs → with_numbers ns (with_givens gs v) ≡ v
value_of v ns gs e f = ap (λ (x : List ℕ). with_numbers x (with_givens gs v)) (sym e) ∙ ap (λ (x : List Bool). with_givens x v) (sym f)

module _ (v : Value) (p : ValueFits v) where
  abbrev bytes : List ℕ
  bytes = group_bytes v.users ++ after_users v

  nu : length (group_bytes v.users) ≡ 106
  nu = length_group v.users p.users.places

  nd : length (group_bytes v.dispatchers) ≡ 106
  nd = length_group v.dispatchers p.dispatchers.places

  -- where the mask's bytes end, and the identifier's
  past_mask : drop 115 bytes ≡ after_mask v
  past_mask = past_run 106 (group_bytes v.users) (after_users v) nu 9 ∙ past_run 8 (number_bytes 8 v.mask) (after_mask v) (length_number 8 v.mask) 0

  past_identifier : drop 120 bytes ≡ after_identifier v
  past_identifier =
      sym (drop-drop 5 115 bytes)
      ∙ ap (λ (x : List ℕ). drop 5 x) past_mask
      ∙ past_run 2 (number_bytes 2 (number_at place.identifier v)) (after_identifier v) (length_number 2 (number_at place.identifier v)) 0

  past_dispatchers : drop 227 bytes ≡ after_dispatchers v
  past_dispatchers = sym (drop-drop 107 120 bytes) ∙ ap (λ (x : List ℕ). drop 107 x) past_identifier ∙ past_run 106 (group_bytes v.dispatchers) (after_dispatchers v) nd 0

  past_more : drop 240 bytes ≡ last_of v
  past_more =
      sym (drop-drop 13 227 bytes) ∙ ap (λ (x : List ℕ). drop 13 x) past_dispatchers
      ∙ past_run 13 (more_bytes v.numbers v.given) (last_of v) (length_more v.numbers v.given) 0

  past_types : drop 242 bytes ≡ lists_bytes v.lists
  past_types =
      sym (drop-drop 2 240 bytes) ∙ ap (λ (x : List ℕ). drop 2 x) past_more
      ∙ past_run 2 (type_bytes v.numbers) (lists_bytes v.lists) (length_types v.numbers v.given) 0

  ns : length (group_bytes v.lists.sources) ≡ 106
  ns = length_group v.lists.sources p.lists.sources.places

  nt : length (group_bytes v.lists.destinations) ≡ 106
  nt = length_group v.lists.destinations p.lists.destinations.places

  abbrev after_sources : List ℕ
  after_sources = group_bytes v.lists.destinations ++ areas_bytes v.lists.areas

  past_sources : drop 348 bytes ≡ after_sources
  unfolding lists_bytes
  past_sources = sym (drop-drop 106 242 bytes) ∙ ap (λ (x : List ℕ). drop 106 x) past_types ∙ past_run 106 (group_bytes v.lists.sources) after_sources ns 0

  past_destinations : drop 454 bytes ≡ areas_bytes v.lists.areas
  past_destinations =
      sym (drop-drop 106 348 bytes) ∙ ap (λ (x : List ℕ). drop 106 x) past_sources ∙ past_run 106 (group_bytes v.lists.destinations) (areas_bytes v.lists.areas) nt 0

  lists_back : lists_from (v.pdu ∷ bytes) ≡ v.lists
  unfolding lists_from lists_bytes
  lists_back =
      let es : group_from (drop 242 bytes) ≡ v.lists.sources = ap (λ (x : List ℕ). group_from x) past_types ∙ group_back v.lists.sources after_sources p.lists.sources in
      let ed : group_from (drop 348 bytes) ≡ v.lists.destinations =
      ap (λ (x : List ℕ). group_from x) past_sources ∙ group_back v.lists.destinations (areas_bytes v.lists.areas) p.lists.destinations in
      let ea : areas_from (drop 454 bytes) ≡ v.lists.areas =
      ap (λ (x : List ℕ). areas_from x) (past_destinations ∙ sym (append-nil (areas_bytes v.lists.areas))) ∙ areas_back v.lists.areas [] p.lists.areas in
      rw (es, ed, ea)

  type_at : (k : ℕ) → get_or bytes (240 + k) 0 ≡ get_or (last_of v) k 0
  type_at k = sym (get_or-drop 240 bytes k 0) ∙ ap (λ (x : List ℕ). get_or x k 0) past_more

  -- so the k-th byte after each
  masked_at : get_or bytes 106 0 ≡ one v.masked
  masked_at = past_byte 106 (group_bytes v.users) (after_users v) nu 0

  mask_at : (k : ℕ) → get_or bytes (115 + k) 0 ≡ get_or (after_mask v) k 0
  mask_at k = sym (get_or-drop 115 bytes k 0) ∙ ap (λ (x : List ℕ). get_or x k 0) past_mask

  option_at : get_or bytes 120 0 ≡ one (given_at 0 v)
  option_at = sym (get_or-drop 120 bytes 0 0) ∙ ap (λ (x : List ℕ). get_or x 0 0) past_identifier

  more_at : (k : ℕ) → get_or bytes (227 + k) 0 ≡ get_or (after_dispatchers v) k 0
  more_at k = sym (get_or-drop 227 bytes k 0) ∙ ap (λ (x : List ℕ). get_or x k 0) past_dispatchers

  pub fits_back : value_from (value_bytes v) ≡ v
  unfolding value_from more_bytes type_bytes size_of sizes
  fits_back =
      let small = p.numbers.each in
      let last = number_bytes 3 (number_at place.mni v) in
      let nl = length_number 3 (number_at place.mni v) in
      let areas = number_at place.calling_area v % 256 ∷ (number_at place.called_area v % 256 ∷ (number_at place.calling_service v % 256 ∷ (number_at place.called_service v % 256 ∷ last_of v))) in
      let is = more_is v.numbers v.given (last_of v) in
      let eu : group_from bytes ≡ v.users = group_back v.users (after_users v) p.users in
      let ek : number_from 8 (drop 107 bytes) ≡ v.mask =
      ap (λ (x : List ℕ). number_from 8 x) (past_run 106 (group_bytes v.users) (after_users v) nu 1) ∙ number_back 8 v.mask (after_mask v) p.mask in
      let er : get_or bytes 115 0 ≡ number_at place.result v = mask_at 0 ∙ low_small (small place.result) in
      let es : get_or bytes 116 0 ≡ number_at place.reason v = mask_at 1 ∙ low_small (small place.reason) in
      let ec : get_or bytes 117 0 ≡ number_at place.cause v = mask_at 2 ∙ low_small (small place.cause) in
      let ei : number_from 2 (drop 118 bytes) ≡ number_at place.identifier v =
      ap (λ (x : List ℕ). number_from 2 x) (sym (drop-drop 3 115 bytes) ∙ ap (λ (x : List ℕ). drop 3 x) past_mask)
      ∙ number_back 2 (number_at place.identifier v) (after_identifier v) (small place.identifier) in
      let ed : group_from (drop 121 bytes) ≡ v.dispatchers =
      ap (λ (x : List ℕ). group_from x) (sym (drop-drop 1 120 bytes) ∙ ap (λ (x : List ℕ). drop 1 x) past_identifier) ∙ group_back v.dispatchers (after_dispatchers v) p.dispatchers in
      let en : number_from 3 (drop 233 bytes) ≡ number_at place.mni v =
      ap (λ (x : List ℕ). number_from 3 x) (sym (drop-drop 6 227 bytes) ∙ ap (λ (x : List ℕ). drop 6 x) (past_dispatchers ∙ is)) ∙ number_back 3 (number_at place.mni v) areas (small place.mni) in
      let ea : get_or bytes 236 0 ≡ number_at place.calling_area v = more_at 9 ∙ ap (λ (x : List ℕ). get_or x 9 0) is ∙ past_byte 3 last areas nl 0 ∙ low_small (small place.calling_area) in
      let eb : get_or bytes 237 0 ≡ number_at place.called_area v = more_at 10 ∙ ap (λ (x : List ℕ). get_or x 10 0) is ∙ past_byte 3 last areas nl 1 ∙ low_small (small place.called_area) in
      let ey : get_or bytes 238 0 ≡ number_at place.calling_service v = more_at 11 ∙ ap (λ (x : List ℕ). get_or x 11 0) is ∙ past_byte 3 last areas nl 2 ∙ low_small (small place.calling_service) in
      let ez : get_or bytes 239 0 ≡ number_at place.called_service v = more_at 12 ∙ ap (λ (x : List ℕ). get_or x 12 0) is ∙ past_byte 3 last areas nl 3 ∙ low_small (small place.called_service) in
      let et : get_or bytes 240 0 ≡ number_at place.activation_type v = type_at 0 ∙ low_small (small place.activation_type) in
      let ev : get_or bytes 241 0 ≡ number_at place.interception_type v = type_at 1 ∙ low_small (small place.interception_type) in
      ap (λ (x : List ℕ). value_from x) (value_is v)
      ∙ rw (
        eu,
        ek,
        er,
        es,
        ec,
        ei,
        ed,
        en,
        ea,
        eb,
        ey,
        ez,
        et,
        ev,
        lists_back,
        masked_at,
        option_at,
        more_at 0,
        more_at 1,
        more_at 2,
        more_at 3,
        more_at 4,
        more_at 5,
        flag_back v.masked,
        flag_back (given_at 0 v),
        flag_back (given_at 1 v),
        flag_back (given_at 2 v),
        flag_back (given_at 3 v),
        flag_back (given_at 4 v),
        flag_back (given_at 5 v),
        flag_back (given_at 6 v),
      )
      (value_of v _ _ (numbers_are v.numbers p.numbers) (each_are false v.given 0 7 (sym p.given)))

-- a valid value is taken from its bytes as it was
pub value_back : (air : Air) (v : Value) → valid_of air v ≡ true → value_from (value_bytes v) ≡ v
value_back air v e = fits_back v (valid_fits air v e)

lists_length : (v : Value) → ValueFits v → length (lists_bytes v.lists) ≡ 228
unfolding lists_bytes
lists_length v p =
    omega (
      arith,
      length-append (group_bytes v.lists.sources) (after_sources v p),
      length-append (group_bytes v.lists.destinations) (areas_bytes v.lists.areas),
      ns v p,
      nt v p,
      length_areas v.lists.areas p.lists.areas,
    )

value_length : (v : Value) → ValueFits v → length (value_bytes v) ≡ value_size
value_length v p =
    let u = group_bytes v.users in
    let m = number_bytes 8 v.mask in
    let i = number_bytes 2 (number_at place.identifier v) in
    let d = group_bytes v.dispatchers in
    let w = more_bytes v.numbers v.given in
    let x = v.lists in
    ap (λ (x : List ℕ). length x) (value_is v)
    ∙ omega (
      arith,
      length-append u (after_users v),
      length-append m (after_mask v),
      length-append i (after_identifier v),
      length-append d (after_dispatchers v),
      length-append w (last_of v),
      length-append (type_bytes v.numbers) (lists_bytes x),
      length_types v.numbers v.given,
      lists_length v p,
      length_number 8 v.mask,
      length_number 2 (number_at place.identifier v),
      nu v p,
      nd v p,
      length_more v.numbers v.given,
    )

flag_small : (b : Bool) → leb (one b) 1 ≡ true
flag_small true = refl
flag_small false = refl

more_small : (n : List ℕ) (g : List Bool) (rest : List ℕ) (r : ℕ) → r < 6 → leb (get_or (more_bytes n g ++ rest) r 0) 1 ≡ true
unfolding more_bytes
more_small n g rest zero h = flag_small (get_or g 1 false)
more_small n g rest (suc zero) h = flag_small (get_or g 2 false)
more_small n g rest (suc (suc zero)) h = flag_small (get_or g 3 false)
more_small n g rest (suc (suc (suc zero))) h = flag_small (get_or g 4 false)
more_small n g rest (suc (suc (suc (suc zero)))) h = flag_small (get_or g 5 false)
more_small n g rest (suc (suc (suc (suc (suc zero))))) h = flag_small (get_or g 6 false)
more_small n g rest (suc (suc (suc (suc (suc (suc r)))))) h = absurd (omega arith)

every_of : (n : ℕ) (test : ℕ → Bool) → ((i : ℕ) → i < n → test i ≡ true) → every n test ≡ true
unfolding every
every_of zero test h = refl
every_of (suc n) test h = both_true _ _ (every_of n test (λ i k. h i (omega arith))) (h n (omega arith))

fits_taken : (v : Value) → ValueFits v → is_value (value_bytes v) ≡ true
unfolding is_value
fits_taken v p =
    let here : (k : ℕ) → get_or (value_bytes v) (suc k) 0 ≡ get_or (bytes v p) k 0 = λ k. ap (λ (x : List ℕ). get_or x (suc k) 0) (value_is v) in
    let further : (r : ℕ) → r < 6 → leb (get_or (value_bytes v) (228 + r) 0) 1 ≡ true =
    λ r h. let z : 228 + r ≡ suc (227 + r) = omega arith in
    ap (λ (k : ℕ). leb (get_or (value_bytes v) k 0) 1) z ∙ ap (λ (b : ℕ). leb b 1) (here (227 + r) ∙ more_at v p r) ∙ more_small v.numbers v.given (last_of v) r h in
    both_true _ _ (eq-eqb _ _ (value_length v p))
    (both_true _ _ (ap (λ (b : ℕ). leb b 1) (here 106 ∙ masked_at v p) ∙ flag_small v.masked)
    (both_true _ _ (ap (λ (b : ℕ). leb b 1) (here 120 ∙ option_at v p) ∙ flag_small (given_at 0 v)) (every_of 6 _ further)))

-- the bytes of a valid value are taken
pub value_taken : (air : Air) (v : Value) → valid_of air v ≡ true → is_value (value_bytes v) ≡ true
value_taken air v e = fits_taken v (valid_fits air v e)

-- they fill the first bytes of an area, and what it has beyond them stays
pub value_area : (air : Air) (v : Value) (l : List ℕ) → valid_of air v ≡ true → value_size ≤ length l → sets l 0 (value_bytes v) ≡ value_bytes v ++ drop value_size l
value_area air v l e h =
    let n = value_length v (valid_fits air v e) in
    sets-eq (value_bytes v) l 0 (omega (arith, n)) ∙ ap (λ (k : ℕ). value_bytes v ++ drop k l) (let z : 0 + length (value_bytes v) ≡ value_size = omega (arith, n) in z)

-- so they are found there again
pub area_value : (air : Air) (v : Value) (l : List ℕ) → valid_of air v ≡ true → value_size ≤ length l → take value_size (sets l 0 (value_bytes v)) ≡ value_bytes v
area_value air v l e h =
    ap (λ (x : List ℕ). take value_size x) (value_area air v l e h) ∙ take_at (value_bytes v) (drop value_size l) value_size (value_length v (valid_fits air v e))

-- ---- meanings and shares

meaning_byte : (b : ℕ) → meaning_bytes (meaning_of b) ≡ b ∷ []
unfolding meaning_bytes meaning_of
meaning_byte b = go (eqb b 0) refl (eqb b 16) refl (eqb b 17) refl
  where
    go : (x : Bool) → eqb b 0 ≡ x → (y : Bool) → eqb b 16 ≡ y → (z : Bool) → eqb b 17 ≡ z
        → meaning_bytes (cond x reserved (cond y (record { kind = kind.Nobody; count = 0 }) (cond z (record { kind = kind.FirstLast; count = 0 }) (record { kind = kind.Listed; count = b }))))
        ≡ b ∷ []
    go true ex y ey z ez = ap (λ (k : ℕ). k ∷ []) (sym (eqb-true b 0 ex))
    go false ex true ey z ez = ap (λ (k : ℕ). k ∷ []) (sym (eqb-true b 16 ey))
    go false ex false ey true ez = ap (λ (k : ℕ). k ∷ []) (sym (eqb-true b 17 ez))
    go false ex false ey false ez = refl

share_there : (l : List ℕ) → 2 ≤ length l → share_bytes (share_from l) ≡ take 2 l
unfolding share_bytes share_from
share_there [] h = absurd (omega arith)
share_there (a ∷ []) h = absurd (omega arith)
share_there (a ∷ (b ∷ l)) h = refl

share_back : (s : Share) (ys : List ℕ) → Unit {0} → share_from (share_bytes s ++ ys) ≡ s
unfolding share_bytes share_from
share_back s ys t = refl

length_share : (s : Share) → length (share_bytes s) ≡ 2
unfolding share_bytes
length_share s = refl

length_meaning : (m : Meaning) → length (meaning_bytes m) ≡ 1
unfolding meaning_bytes
length_meaning m = refl

meaning_there : (l : List ℕ) → 1 ≤ length l → get_or l 0 0 ≤ 17 → meaning_bytes (meaning_from l) ≡ take 1 l
meaning_there [] h k = absurd (omega arith)
meaning_there (b ∷ l) h k = meaning_byte b

-- the length beside a meaning that is no list is zero
abbrev alone_by : Kind → ℕ → Bool
alone_by kind.Reserved n = is_zero n
alone_by kind.Nobody n = is_zero n
alone_by kind.Listed n = true
alone_by kind.FirstLast n = is_zero n

unfoldable pub is_alone : Meaning → Bool
is_alone m = alone_by m.kind m.count

back_by : (k : Kind) (n : ℕ) → meaning_ok_by k n ≡ true → alone_by k n ≡ true → meaning_of (byte_by k n) ≡ record { kind = k; count = n }
unfolding meaning_of
back_by kind.Reserved n e z = ap (λ (c : ℕ). record { kind = kind.Reserved; count = c }) (sym (zero_is n z))
back_by kind.Nobody n e z = ap (λ (c : ℕ). record { kind = kind.Nobody; count = c }) (sym (zero_is n z))
back_by kind.FirstLast n e z = ap (λ (c : ℕ). record { kind = kind.FirstLast; count = c }) (sym (zero_is n z))
back_by kind.Listed n e z =
    let a = leb-true 1 n (both_left _ _ e) in
    let b = leb-true n 15 (both_right (leb 1 n) _ e) in
    rw (ne_eqb n 0 (λ d. omega arith), ne_eqb n 16 (λ d. omega arith), ne_eqb n 17 (λ d. omega arith))

-- ---- profiles

-- the bytes after the home extension, and after the meanings
abbrev after_meanings : Profile → List ℕ
after_meanings p = p.shares.posts ∷ (rows_bytes share_bytes p.shares.share ++ (p.air.unrecorded ∷ (p.air.elsewhere ∷ [])))

abbrev after_home : Profile → List ℕ
after_home p = p.air.unknown ∷ (p.air.other ∷ (rows_bytes meaning_bytes p.air.meanings ++ after_meanings p))

profile_is : (p : Profile) → profile_bytes p ≡ p.air.ss ∷ (number_bytes 3 p.air.home ++ after_home p)
unfolding profile_bytes
profile_is p = simp append_assoc

-- what is taken from a profile's bytes is written as those bytes
pub profile_there : (l : List ℕ) → AreBytes l → is_profile l ≡ true → profile_bytes (profile_from l) ≡ l
unfolding profile_from air_from shares_from is_profile
profile_there l h e =
    let n : length l ≡ 41 = eqb-true _ _ (both_left _ _ e) in
    let known = every_at 16 _ (both_left _ _ (both_right (eqb (length l) 41) _ e)) in
    let rows = rows_there share_from share_bytes 2 8 (drop 23 l) (λ i k. share_there (drop (2 * i) (drop 23 l)) (omega (arith, length-drop (2 * i) (drop 23 l), length-drop 23 l))) in
    let meanings = rows_there meaning_from meaning_bytes 1 16 (drop 6 l) (λ i k. meaning_there (drop (1 * i) (drop 6 l)) (omega (arith, length-drop (1 * i) (drop 6 l), length-drop 6 l)) (small i (known i k))) in
    let home = number_there 3 (drop 1 l) (bytes_drop 1 l h) (omega (arith, length-drop 1 l)) in
    let d41 : [] ≡ drop 41 l = sym (drop_of_length-le l {i = 41} (omega arith)) in
    let d23 = run_front l 23 16 _ _ rows (byte_front l 39 _ _ (omega arith) refl (byte_front l 40 _ _ (omega arith) refl d41)) in
    let d6 = run_front l 6 16 _ _ meanings (byte_front l 22 _ _ (omega arith) refl d23) in
    let d4 = byte_front l 4 _ _ (omega arith) refl (byte_front l 5 _ _ (omega arith) refl d6) in
    profile_is (profile_from l) ∙ byte_front l 0 _ _ (omega arith) refl (run_front l 1 3 _ _ home d4)
  where
    small : (i : ℕ) → leb (get_or l (6 + i) 0) 17 ≡ true → get_or (drop (1 * i) (drop 6 l)) 0 0 ≤ 17
    small i t =
        let z : 6 + 1 * i ≡ 6 + i = omega arith in
        rw (drop-drop (1 * i) 6 l, z, byte_here l (6 + i)) (leb-true _ _ t)

-- as a profile comes from its bytes: sixteen meanings, eight rows, and a length only beside a list
pub record Plain (p : Profile) : Type 0 where
  pub meanings : length p.air.meanings ≡ 16
  pub rows : length p.shares.share ≡ 8
  pub alone : every 16 (λ r. is_alone (meaning_in p.air.meanings r)) ≡ true

-- one that keeps every rule has sixteen good meanings
air_meanings : (p : Profile) → profile_ok p ≡ true → every 16 (λ r. meaning_ok (meaning_in p.air.meanings r)) ≡ true
unfolding profile_ok air_ok
air_meanings p ok =
    let air = both_right (leb p.air.ss 63) _ (both_left _ _ ok) in
    both_right (leb p.air.elsewhere 7) _ (both_right (leb p.air.unrecorded 7) _
    (both_right (leb p.air.other 127) _ (both_right (leb p.air.unknown 127) _ (both_right (leb p.air.home 0xFF_FFFF) _ air))))

-- such a profile that keeps every rule is taken from its bytes as it was
pub profile_back : (p : Profile) → profile_ok p ≡ true → Plain p → profile_from (profile_bytes p) ≡ p
unfolding profile_from air_from shares_from profile_ok air_ok meaning_in meaning_ok meaning_bytes is_alone
profile_back p ok plain =
    let h = number_bytes 3 p.air.home in
    let t = after_home p in
    let m = rows_bytes meaning_bytes p.air.meanings in
    let x = after_meanings p in
    let s = rows_bytes share_bytes p.shares.share in
    let nh = length_number 3 p.air.home in
    let nm : length m ≡ 16 = rows_length meaning_from meaning_bytes 1 length_meaning p.air.meanings ∙ ap (λ (k : ℕ). k * 1) plain.meanings in
    let air = both_right (leb p.air.ss 63) _ (both_left _ _ ok) in
    let small = leb-true p.air.home 0xFF_FFFF (both_left _ _ air) in
    let good = every_at 16 _ (air_meanings p ok) in
    let alone = every_at 16 _ plain.alone in
    let each = all_of (λ (a : Meaning). meaning_of (byte_by a.kind a.count) ≡ a) reserved p.air.meanings (λ i k. back_by _ _ (good i (omega (arith, plain.meanings))) (alone i (omega (arith, plain.meanings)))) in
    let eh : number_from 3 (h ++ t) ≡ p.air.home = number_back 3 p.air.home t (omega arith) in
    let eu : get_or (h ++ t) 3 0 ≡ p.air.unknown = past_byte 3 h t nh 0 in
    let en : get_or (h ++ t) 4 0 ≡ p.air.other = past_byte 3 h t nh 1 in
    let em : rows_from meaning_from 1 16 (drop 5 (h ++ t)) ≡ p.air.meanings =
    ap (λ (y : List ℕ). rows_from meaning_from 1 16 y) (past_run 3 h t nh 2)
    ∙ rows_back meaning_from meaning_bytes 1 (λ (a : Meaning). meaning_of (byte_by a.kind a.count) ≡ a) length_meaning (λ a ys q. q) 16 p.air.meanings x plain.meanings each in
    let r = p.air.unrecorded ∷ (p.air.elsewhere ∷ []) in
    let nq : length s ≡ 16 = rows_length share_from share_bytes 2 length_share p.shares.share ∙ ap (λ (k : ℕ). k * 2) plain.rows in
    let er : get_or (h ++ t) 38 0 ≡ p.air.unrecorded = past_byte 3 h t nh 35 ∙ past_byte 16 m x nm 17 ∙ past_byte 16 s r nq 0 in
    let ew : get_or (h ++ t) 39 0 ≡ p.air.elsewhere = past_byte 3 h t nh 36 ∙ past_byte 16 m x nm 18 ∙ past_byte 16 s r nq 1 in
    let ep : get_or (h ++ t) 21 0 ≡ p.shares.posts = past_byte 3 h t nh 18 ∙ past_byte 16 m x nm 0 in
    let es : rows_from share_from 2 8 (drop 22 (h ++ t)) ≡ p.shares.share =
    ap (λ (y : List ℕ). rows_from share_from 2 8 y) (past_run 3 h t nh 19 ∙ past_run 16 m x nm 1)
    ∙ rows_back share_from share_bytes 2 (λ (a : Share). Unit {0}) length_share share_back 8 p.shares.share r plain.rows (all_of (λ (a : Share). Unit {0}) no_share p.shares.share (λ i k. tt)) in
    ap (λ (y : List ℕ). profile_from y) (profile_is p) ∙ rw (eh, eu, en, em, ep, es, er, ew)

-- ---- and its bytes are taken

-- the bytes of the meanings, one each
meaning_at : (l : List Meaning) (ys : List ℕ) (r : ℕ) → r < length l → get_or (rows_bytes meaning_bytes l ++ ys) r 0 ≡ byte_by (get_or l r reserved).kind (get_or l r reserved).count
unfolding rows_bytes meaning_bytes
meaning_at [] ys r h = absurd (omega arith)
meaning_at (m ∷ l) ys zero h = refl
meaning_at (m ∷ l) ys (suc r) h = meaning_at l ys r (omega arith)

byte_small : (k : Kind) (n : ℕ) → meaning_ok_by k n ≡ true → leb (byte_by k n) 17 ≡ true
byte_small kind.Reserved n e = refl
byte_small kind.Nobody n e = refl
byte_small kind.FirstLast n e = refl
byte_small kind.Listed n e = let b = leb-true n 15 (both_right (leb 1 n) _ e) in le-leb n 17 (omega arith)

-- the rows from the k-th on
rows_drop : (k : ℕ) (l : List Share) → drop (2 * k) (rows_bytes share_bytes l) ≡ rows_bytes share_bytes (drop k l)
unfolding rows_bytes share_bytes
rows_drop zero l = refl
rows_drop (suc k) [] = drop-nil (2 * suc k)
rows_drop (suc k) (s ∷ l) = let z : 2 * suc k ≡ suc (suc (2 * k)) = omega arith in rw z (rows_drop k l)

-- the rows past the posts are zero
pub is_spare : Profile → Bool
is_spare p = are_zero (rows_bytes share_bytes (drop p.shares.posts p.shares.share))

-- the bytes up to the last row
rows_cut : (p : Profile) → length (number_bytes 3 p.air.home) ≡ 3 → length (rows_bytes meaning_bytes p.air.meanings) ≡ 16 → length (rows_bytes share_bytes p.shares.share) ≡ 16
    → take 39 (profile_bytes p)
    ≡ p.air.ss ∷ (number_bytes 3 p.air.home ++ (p.air.unknown ∷ (p.air.other ∷ (rows_bytes meaning_bytes p.air.meanings ++ (p.shares.posts ∷ rows_bytes share_bytes p.shares.share)))))
unfolding profile_bytes
rows_cut p nh nm ns =
    let h = number_bytes 3 p.air.home in
    let m = rows_bytes meaning_bytes p.air.meanings in
    let s = rows_bytes share_bytes p.shares.share in
    let r = p.air.unrecorded ∷ (p.air.elsewhere ∷ []) in
    let front = p.air.ss ∷ (h ++ (p.air.unknown ∷ (p.air.other ∷ (m ++ (p.shares.posts ∷ s))))) in
    let whole : profile_bytes p ≡ front ++ r = simp append_assoc in
    ap (λ (y : List ℕ). take 39 y) whole
    ∙ take_at front r 39
    (omega (arith, length-append h (p.air.unknown ∷ (p.air.other ∷ (m ++ (p.shares.posts ∷ s)))), length-append m (p.shares.posts ∷ s), nh, nm, ns))

pub profile_taken : (p : Profile) → profile_ok p ≡ true → Plain p → is_spare p ≡ true → is_profile (profile_bytes p) ≡ true
unfolding is_profile spare_zero meaning_in meaning_ok is_spare
profile_taken p ok plain spare =
    let h = number_bytes 3 p.air.home in
    let t = after_home p in
    let m = rows_bytes meaning_bytes p.air.meanings in
    let x = after_meanings p in
    let s = rows_bytes share_bytes p.shares.share in
    let b = profile_bytes p in
    let nh = length_number 3 p.air.home in
    let nm : length m ≡ 16 = rows_length meaning_from meaning_bytes 1 length_meaning p.air.meanings ∙ ap (λ (k : ℕ). k * 1) plain.meanings in
    let ns : length s ≡ 16 = rows_length share_from share_bytes 2 length_share p.shares.share ∙ ap (λ (k : ℕ). k * 2) plain.rows in
    let good = every_at 16 _ (air_meanings p ok) in
    let long : length b ≡ 41 = ap (λ (y : List ℕ). length y) (profile_is p) ∙ omega (arith, length-append h t, length-append m x, length-append s (p.air.unrecorded ∷ (p.air.elsewhere ∷ [])), nh, nm, ns) in
    let r = p.air.unrecorded ∷ (p.air.elsewhere ∷ []) in
    let c = take 39 b in
    let cut : c ≡ p.air.ss ∷ (h ++ (p.air.unknown ∷ (p.air.other ∷ (m ++ (p.shares.posts ∷ s))))) = rows_cut p nh nm ns in
    let rows : (k : ℕ) → drop (23 + k) c ≡ drop k s =
    λ k. sym (drop-drop k 23 c) ∙ ap (λ (y : List ℕ). drop k y) (ap (λ (y : List ℕ). drop 23 y) cut ∙ past_run 3 h _ nh 19 ∙ past_run 16 m (p.shares.posts ∷ s) nm 1) in
    let posts : get_or c 22 0 ≡ p.shares.posts = ap (λ (y : List ℕ). get_or y 22 0) cut ∙ past_byte 3 h _ nh 18 ∙ past_byte 16 m (p.shares.posts ∷ s) nm 0 in
    let known : (r : ℕ) → r < 16 → leb (get_or b (6 + r) 0) 17 ≡ true =
    λ r k. ap (λ (c : ℕ). leb c 17)
    (sym (get_or-drop 6 b r 0) ∙ ap (λ (y : List ℕ). get_or y r 0) (ap (λ (y : List ℕ). drop 6 y) (profile_is p) ∙ past_run 3 h t nh 2) ∙ meaning_at p.air.meanings x r (omega (arith, plain.meanings)))
    ∙ byte_small (get_or p.air.meanings r reserved).kind (get_or p.air.meanings r reserved).count (good r k) in
    let zero_rest : are_zero (drop (23 + 2 * get_or c 22 0) c) ≡ true =
    ap (λ (k : ℕ). are_zero (drop (23 + 2 * k) c)) posts
    ∙ ap (λ (y : List ℕ). are_zero y) (rows (2 * p.shares.posts) ∙ rows_drop p.shares.posts p.shares.share)
    ∙ spare in
    both_true _ _ (eq-eqb _ _ long) (both_true _ _ (every_of 16 _ known) zero_rest)
