-- The numbers that reading gives: 1, 3 to 13 without 8, and 27. Assumes nothing.
use Prim.Native.Nat.{ℕ, suc}
use mathlib.Core.Path.{◌≡◌, refl, subst}
use mathlib.Core.Bool.{Bool, true, false, not, cond, ◌&&◌, ◌||◌}
use mathlib.Core.List.{List, [], ◌∷◌}
use native.Mathlib.Omega.{arith}
use lib.Dec.{eqb, leb}
use borrow.Author.Tests.{le-leb, leb-true, eqb-true}
use Rattle.bits.specs.Fields.{bit_at}
use Rattle.codec.specs.Stops.{refusal, published}
use Rattle.codec.specs.Codec.{Read, no, both, number, pure, guard, seq, choose}
use Rattle.codec.specs.Options.{optional}
use Rattle.codec.specs.declared.Stop.{Stop}
use Rattle.codec.proofs.Good.{both_left, both_right}
use Rattle.codec.proofs.StopLaws.{StopsBy, Only, bind_only, test_only, only_number, only_pure, only_guard, only_seq, only_map, only_choose, only_vec, only_given, only_optional, only_options}
use Rattle.profile.specs.Rules.{profile_ok, meaning_in}
use Rattle.profile.specs.declared.Air.{Air}
use Rattle.profile.specs.declared.Meaning.{Meaning}
use Rattle.profile.specs.declared.Profile.{Profile}
use Rattle.message.specs.Elements as element
use Rattle.message.specs.Addresses.{is_zero, is_kind, is_internal, kind_c, extension_c, address_c}
use Rattle.message.specs.Groups.{places_c, addresses_in, addresses_c, allowed_in, ends_ok, range_c, group_c}
use Rattle.message.specs.Areas.{rises, area_places_c, area_list_c, areas_c}
use Rattle.message.specs.Acks.{mask_c, masked_c, result_c, why_not_c, if_accepted_c, state_c}
use Rattle.message.specs.Values.{blank}
use Rattle.message.specs.Numbers.{element_of, width_of}
use Rattle.message.specs.Rows.{row_of, part_c, put, parts_c, puts, put_option, some_of, none_of, each_c, options_c, parts_of, options_of}
use Rattle.message.specs.declared.Part.{Part}
use Rattle.message.specs.declared.Part.TheVariants as part
use Rattle.message.specs.Messages.{body_c, is_known, is_carried, header_c, message_c}
use Rattle.message.specs.Reading.{whole_of, length_ok, read_bits, read_of, is_reading}
use Rattle.message.specs.declared.Value.{Value}

-- the numbers themselves
three : is_reading 3 ≡ true
unfolding is_reading both
three = refl

four : is_reading 4 ≡ true
unfolding is_reading both
four = refl

five : is_reading 5 ≡ true
unfolding is_reading both
five = refl

six : is_reading 6 ≡ true
unfolding is_reading both
six = refl

seven : is_reading 7 ≡ true
unfolding is_reading both
seven = refl

nine : is_reading 9 ≡ true
unfolding is_reading both
nine = refl

ten : is_reading 10 ≡ true
unfolding is_reading both
ten = refl

eleven : is_reading 11 ≡ true
unfolding is_reading both
eleven = refl

twelve : is_reading 12 ≡ true
unfolding is_reading both
twelve = refl

thirteen : is_reading 13 ≡ true
unfolding is_reading both
thirteen = refl

twenty_seven : is_reading 27 ≡ true
unfolding is_reading both
twenty_seven = refl

-- ---- element by element

only_kind : (external : Bool) → Only is_reading (kind_c external)
unfolding kind_c
only_kind external =
    only_guard is_reading 10 is_kind _ ten
    (only_choose is_reading external (guard 27 is_internal (number element.kind 2)) (number element.kind 2)
    (only_guard is_reading 27 is_internal (number element.kind 2) twenty_seven (only_number is_reading four element.kind 2))
    (only_number is_reading four element.kind 2))

only_address : (external : Bool) → Only is_reading (address_c external)
unfolding address_c extension_c
only_address external =
    only_map is_reading _ _ _ _
    (only_seq is_reading (kind_c external) (λ k. seq (number element.ssi 24) (λ s. extension_c k)) (only_kind external)
    (λ k. only_seq is_reading (number element.ssi 24) (λ s. extension_c k) (only_number is_reading four element.ssi 24)
    (λ s. only_choose is_reading (eqb k 1) (pure 0 is_zero) (number element.extension 24) (only_pure is_reading 0 is_zero) (only_number is_reading four element.extension 24))))

only_addresses : (external : Bool) (m : Meaning) → Only is_reading (addresses_c external m)
unfolding addresses_c places_c
only_addresses external m =
    only_guard is_reading 11 (λ l. ends_ok m l) (places_c external (addresses_in m)) eleven
    (only_map is_reading _ _ _ _ (only_vec is_reading (addresses_in m) (address_c external) (only_address external)))

only_range : (air : Air) (none : Bool) → Only is_reading (range_c air none)
unfolding range_c
only_range air none =
    only_guard is_reading 9 (λ r. allowed_in none (meaning_in air.meanings r)) (number element.range 4) nine (only_number is_reading four element.range 4)

only_group : (air : Air) (none external : Bool) → Only is_reading (group_c air none external)
unfolding group_c
only_group air none external =
    only_map is_reading _ _ _ _
    (only_seq is_reading (range_c air none) (λ r. addresses_c external (meaning_in air.meanings r)) (only_range air none)
    (λ r. only_addresses external (meaning_in air.meanings r)))

only_areas : (air : Air) → Only is_reading (areas_c air)
unfolding areas_c area_list_c area_places_c
only_areas air =
    only_map is_reading _ _ _ _
    (only_seq is_reading (range_c air true) (λ r. area_list_c (meaning_in air.meanings r)) (only_range air true)
    (λ r. only_guard is_reading 11 (λ l. rises (meaning_in air.meanings r) l) (area_places_c (addresses_in (meaning_in air.meanings r))) eleven
    (only_map is_reading _ _ _ _
    (only_vec is_reading (addresses_in (meaning_in air.meanings r)) (number element.area 4) (only_number is_reading four element.area 4)))))

only_masked : (n : ℕ) → Only is_reading (masked_c n)
unfolding masked_c mask_c
only_masked n = only_given is_reading four element.mask_present 0 is_zero (mask_c n) (only_map is_reading _ _ _ _ (only_number is_reading four element.mask n))

only_result : Only is_reading result_c
unfolding result_c
only_result =
    only_seq is_reading (number element.result 1) (λ r. choose (eqb r 1) (pure 0 is_zero) (number element.reason 7)) (only_number is_reading four element.result 1)
    (λ r. only_choose is_reading (eqb r 1) (pure 0 is_zero) (number element.reason 7) (only_pure is_reading 0 is_zero) (only_number is_reading four element.reason 7))

-- ---- part by part

only_if_accepted : (r e w : ℕ) → Only is_reading (if_accepted_c r e w)
unfolding if_accepted_c
only_if_accepted r e w = only_choose is_reading (eqb r 1) (number e w) (pure 0 is_zero) (only_number is_reading four e w) (only_pure is_reading 0 is_zero)

only_why_not : (r : ℕ) → Only is_reading (why_not_c r)
unfolding why_not_c
only_why_not r = only_choose is_reading (eqb r 1) (pure 0 is_zero) (number element.reason 3) (only_pure is_reading 0 is_zero) (only_number is_reading four element.reason 3)

only_state : Only is_reading state_c
unfolding state_c
only_state =
    only_map is_reading _ _ _ _
    (only_seq is_reading (number element.result 1) _ (only_number is_reading four element.result 1)
    (λ r. only_seq is_reading (why_not_c r) _ (only_why_not r)
    (λ _. only_seq is_reading (if_accepted_c r element.activation_type 1) _ (only_if_accepted r element.activation_type 1)
    (λ _. only_seq is_reading (if_accepted_c r element.interception_type 1) _ (only_if_accepted r element.interception_type 1)
    (λ _. only_seq is_reading (if_accepted_c r element.basic_service 2) _ (only_if_accepted r element.basic_service 2)
    (λ _. only_if_accepted r element.basic_service 2))))))

only_nothing : Only is_reading (pure {A = Unit} tt (λ _. true))
only_nothing = only_pure is_reading tt (λ _. true)

only_part : (air : Air) (v : Value) (p : Part) → Only is_reading (part_c air v p)
only_part air v part.Nothing = only_nothing
only_part air v (part.Number k) = only_number is_reading four (element_of k) (width_of k)
only_part air v part.Users = only_group air false false
only_part air v (part.User i) = only_address false
only_part air v part.Masked = only_masked _
only_part air v part.Result = only_result
only_part air v part.Dispatchers = only_group air true false
only_part air v part.Dispatcher = only_address false
only_part air v part.Interrogation = only_state
only_part air v part.Sources = only_group air true false
only_part air v part.Destinations = only_group air true true
only_part air v part.Areas = only_areas air

only_parts : (air : Air) (v : Value) (ps : List Part) → Only is_reading (parts_c air v ps)
unfolding parts_c
only_parts air v [] = only_nothing
only_parts air v (p ∷ ps) = only_seq is_reading (part_c air v p) (λ x. parts_c air (put p x v) ps) (only_part air v p) (λ x. only_parts air (put p x v) ps)

only_each : (air : Air) (i : ℕ) (v : Value) (qs : List Part) → Only is_reading (each_c air i v qs)
unfolding each_c
only_each air i v [] = only_nothing
only_each air i v (q ∷ qs) =
    only_seq is_reading (optional element.p_bit (part_c air v q)) (λ x. each_c air (suc i) (put_option i q x v) qs)
    (only_optional is_reading four element.p_bit (part_c air v q) (only_part air v q)) (λ x. only_each air (suc i) (put_option i q x v) qs)

only_row_options : (air : Air) (v : Value) (qs : List Part) → Only is_reading (options_c air v qs)
unfolding options_c
only_row_options air v [] = only_nothing
only_row_options air v (q ∷ qs) =
    only_options is_reading four element.o_bit (none_of (q ∷ qs)) (λ x. not (some_of (q ∷ qs) x)) (some_of (q ∷ qs)) (each_c air 0 v (q ∷ qs)) twelve (only_each air 0 v (q ∷ qs))

only_body : (air : Air) (t : ℕ) → Only is_reading (body_c air t)
unfolding body_c
only_body air t =
    let ps = parts_of (row_of t) in
    let qs = options_of (row_of t) in
    only_map is_reading _ _ _ _
    (only_seq is_reading (parts_c air (blank t) ps) (λ x. options_c air (puts ps x (blank t)) qs) (only_parts air (blank t) ps) (λ x. only_row_options air (puts ps x (blank t)) qs))

only_header : (ss : ℕ) → Only is_reading (header_c ss)
unfolding header_c
only_header ss =
    only_guard is_reading 7 (λ (x : ℕ × ℕ). is_carried x.1) _ seven
    (only_guard is_reading 6 (λ (x : ℕ × ℕ). is_known x.1) _ six
    (only_guard is_reading 5 (λ (x : ℕ × ℕ). eqb x.0 ss) _ five
    (only_seq is_reading (number element.ss_type 6) (λ _. number element.pdu_type 5) (only_number is_reading four element.ss_type 6) (λ _. only_number is_reading four element.pdu_type 5))))

only_message : (air : Air) → Only is_reading (message_c air)
unfolding message_c
only_message air =
    only_map is_reading _ _ _ _ (only_seq is_reading (header_c air.ss) (λ h. body_c air h.1) (only_header air.ss) (λ h. only_body air h.1))

-- ---- reading

reading_published : (c : ℕ) → is_reading c ≡ true → published c ≡ true
unfolding is_reading published
reading_published c e = go (both (both (leb 3 c) (leb c 13)) (not (eqb c 8))) refl e
  where
    go : (b : Bool) → both (both (leb 3 c) (leb c 13)) (not (eqb c 8)) ≡ b → b || eqb c 27 ≡ true → (leb 1 c && leb c 24) || (leb 26 c && leb c 27) ≡ true
    go true t _ =
        let b = both_left (both (leb 3 c) (leb c 13)) _ t in
        let low = leb-true 3 c (both_left _ _ b) in
        let high = leb-true c 13 (both_right (leb 3 c) _ b) in
        rw (le-leb 1 c (omega arith), le-leb c 24 (omega arith))
    go false _ z = rw (eqb-true c 27 z)

only_bits : (air : Air) (l : List ℕ) (n : ℕ) → StopsBy is_reading (read_bits air l n)
unfolding read_bits whole_of refusal
only_bits air l n = go (length_ok l n)
  where
    go : (b : Bool) → StopsBy is_reading (cond b (whole_of air (bit_at l) n) (no (refusal 3)))
    go true = bind_only is_reading ((message_c air).read (bit_at l) n 0) _ ((only_message air).stops (bit_at l) n 0) (λ a p. test_only is_reading (eqb p n) 13 a p thirteen)
    go false = three

-- a profile that passes: 3 to 13 without 8, and 27
pub read_known : (p : Profile) (l : List ℕ) (n : ℕ) (s : Stop) → profile_ok p ≡ true → read_of p l n ≡ no s → is_reading s.number ≡ true
unfolding read_of
read_known p l n s ok e = subst (λ (r : Read Value). StopsBy is_reading r) ((rw ok at e)) (only_bits p.air l n)

-- every profile: the number is in the table
pub read_published : (p : Profile) (l : List ℕ) (n : ℕ) (s : Stop) → read_of p l n ≡ no s → published s.number ≡ true
unfolding read_of refusal published
read_published p l n s e = go (profile_ok p) refl e
  where
    go : (b : Bool) → profile_ok p ≡ b → cond b (read_bits p.air l n) (no (refusal 1)) ≡ no s → published s.number ≡ true
    go true ok z = reading_published s.number (read_known p l n s ok e)
    go false ok z = subst (λ (r : Read Value). StopsBy published r) z refl
