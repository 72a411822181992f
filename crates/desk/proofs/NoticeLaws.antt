-- What the desk sends beside the ACKs can be sent: REQUEST, REJECTED and CANCEL whose numbers fit, and INTERROGATE ACK of an address that was
-- read. Assumes nothing.
use Prim.Native.Nat.{ℕ, ◌^◌, ◌≤◌, ◌<◌}
use mathlib.Core.Path.{◌≡◌, refl, subst}
use mathlib.Core.Bool.{Bool, true, false, cond}
use native.Mathlib.Omega.{arith}
use lib.Dec.{eqb, leb}
use lib.ListN.{length, set, length-append}
use borrow.Author.Tests.{lt-ltb, ltb-true, le-leb}
use Rattle.bits.proofs.PutLaws.{length_binary}
use Rattle.codec.specs.Codec.{both, number}
use Rattle.codec.specs.Options.{flag}
use Rattle.codec.proofs.Good.{both_true, both_left, both_right}
use Rattle.profile.specs.Counting.{one}
use Rattle.profile.specs.Rules.{meaning_in, list_of_one, profile_ok}
use Rattle.profile.specs.declared.Kind.TheVariants as kind
use Rattle.profile.specs.declared.Meaning.{Meaning}
use Rattle.profile.proofs.ProfileLaws.{list_of_one_means}
use Rattle.profile.specs.declared.Air.{Air}
use Rattle.profile.specs.declared.Profile.{Profile}
use Rattle.message.specs.Addresses.{is_nobody, address_c}
use Rattle.message.specs.Numbers as place
use Rattle.message.specs.Numbers.{elements, element_of, widths, width_of}
use Rattle.message.specs.Groups.{addresses_in, allowed_in, nobodies, are_none, places_c, ends_ok, addresses_c, range_c, group_c, no_group, first_of, span_in, span_of}
use Rattle.message.specs.Areas.{no_areas}
use Rattle.message.specs.Acks.{masked_c, state_c}
use Rattle.message.specs.Values.{no_lists, blank, number_at}
use Rattle.message.specs.Rows.{table, row_in, row_of, parts_c, puts, gets, put_options, get_options, each_c, options_c, first_parts}
use Rattle.message.specs.Messages.{body_c, is_carried, header_c, message_c}
use Rattle.message.specs.declared.Address.{Address}
use Rattle.message.specs.declared.Value.{Value}
use Rattle.message.proofs.ValueLaws.{value_self}
use Rattle.validity.specs.Parts.{accepted_ok, not_accepted_ok}
use Rattle.validity.specs.Validity.{valid_of}
use Rattle.validity.proofs.ValidLaws.{state_by_lem}
use Rattle.writing.specs.Writing.{bits_of}
use Rattle.writing.proofs.LengthLaws.{valid_body, header_length, one_state_most, interrogate_ack_body}
use Rattle.sending.proofs.SentLaws.{Sends}
use Rattle.sending.proofs.AckLaws.{unrecorded_most, elsewhere_most, value_sends}
use Rattle.desk.specs.Notices.{request_with, rejected_with, cancel_of, one_user, not_accepted, is_active, told_of, state_ack}

-- ---- each is a body of its type

request_body : (air : Air) (identifier cause : ℕ) → identifier < 2 ^ 14 → cause < 2 ^ 5 → (body_c air 11).ok (request_with identifier cause) ≡ true
unfolding body_c row_of row_in table first_parts gets puts get_options put_options parts_c options_c each_c elements element_of widths width_of blank no_lists no_areas no_group nobodies flag number both
request_body air identifier cause h k =
    both_true _ _ (value_self (request_with identifier cause)) (both_true _ _ (both_true _ _ (lt-ltb identifier (2 ^ 14) h) (both_true _ _ (lt-ltb cause (2 ^ 5) k) refl)) refl)

rejected_body : (air : Air) (cause : ℕ) → cause < 2 ^ 5 → (body_c air 18).ok (rejected_with cause) ≡ true
unfolding body_c row_of row_in table first_parts gets puts get_options put_options parts_c options_c each_c elements element_of widths width_of blank no_lists no_areas no_group nobodies flag number both
rejected_body air cause k = both_true _ _ (value_self (rejected_with cause)) (both_true _ _ (both_true _ _ (lt-ltb cause (2 ^ 5) k) refl) refl)

cancel_body : (air : Air) (identifier : ℕ) → identifier < 2 ^ 14 → (body_c air 14).ok (cancel_of identifier) ≡ true
unfolding body_c row_of row_in table first_parts gets puts get_options put_options parts_c options_c each_c elements element_of widths width_of blank no_lists no_areas no_group nobodies flag number both
cancel_body air identifier h = both_true _ _ (value_self (cancel_of identifier)) (both_true _ _ (both_true _ _ (lt-ltb identifier (2 ^ 14) h) refl) refl)

module _ (p : Profile) (passes : profile_ok p ≡ true) where
  pub request_sends : (identifier cause : ℕ) → identifier < 2 ^ 14 → cause < 2 ^ 5 → Sends p (request_with identifier cause)
  unfolding is_carried body_c row_of row_in table first_parts gets puts get_options put_options parts_c options_c each_c elements element_of widths width_of blank no_lists no_areas no_group nobodies flag number both bits_of message_c header_c
  request_sends identifier cause h k =
      value_sends p passes (request_with identifier cause) refl (request_body p.air identifier cause h k) (simp (length-append, length_binary) (omega arith))

  pub rejected_sends : (cause : ℕ) → cause < 2 ^ 5 → Sends p (rejected_with cause)
  unfolding is_carried body_c row_of row_in table first_parts gets puts get_options put_options parts_c options_c each_c elements element_of widths width_of blank no_lists no_areas no_group nobodies flag number both bits_of message_c header_c
  rejected_sends cause k = value_sends p passes (rejected_with cause) refl (rejected_body p.air cause k) (simp (length-append, length_binary) (omega arith))

  pub cancel_sends : (identifier : ℕ) → identifier < 2 ^ 14 → Sends p (cancel_of identifier)
  unfolding is_carried body_c row_of row_in table first_parts gets puts get_options put_options parts_c options_c each_c elements element_of widths width_of blank no_lists no_areas no_group nobodies flag number both bits_of message_c header_c
  cancel_sends identifier h = value_sends p passes (cancel_of identifier) refl (cancel_body p.air identifier h) (simp (length-append, length_binary) (omega arith))

-- ---- a REJECT that was read has a cause of 5 bits

body_cause : (air : Air) (v : Value) → (body_c air 17).ok v ≡ true → number_at place.cause v < 2 ^ 5
unfolding body_c row_of row_in table first_parts parts_c gets elements element_of widths width_of number
body_cause air v z = ltb-true _ _ (both_left _ _ (both_right _ _ (both_left _ _ (both_right _ _ z))))

pub reject_cause : (air : Air) (v : Value) → valid_of air v ≡ true → v.pdu ≡ 17 → number_at place.cause v < 2 ^ 5
reject_cause air v ok e = body_cause air v (subst (λ (t : ℕ). (body_c air t).ok v ≡ true) e (valid_body air v ok))

-- ---- INTERROGATE ACK

-- an INTERROGATE that was read asks for a good address
body_user : (air : Air) (v : Value) → (body_c air 8).ok v ≡ true → (address_c false).ok (first_of v.users) ≡ true
unfolding body_c row_of row_in table first_parts parts_c gets
body_user air v z = both_left _ _ (both_left _ _ (both_right _ _ z))

pub asked_user : (air : Air) (v : Value) → valid_of air v ≡ true → v.pdu ≡ 8 → (address_c false).ok (first_of v.users) ≡ true
asked_user air v ok e = body_user air v (subst (λ (t : ℕ). (body_c air t).ok v ≡ true) e (valid_body air v ok))

abbrev is_list_of_one : Meaning
is_list_of_one = record { kind = kind.Listed; count = 1 }

module _ (p : Profile) (passes : profile_ok p ≡ true) (has : list_of_one p.air.meanings < 16) (a : Address) (good : (address_c false).ok a ≡ true) where
  abbrev r : ℕ
  r = list_of_one p.air.meanings

  means : meaning_in p.air.meanings r ≡ is_list_of_one
  means = list_of_one_means p.air.meanings has

  one_allowed : both (leb 1 1) (leb 1 15) ≡ true
  unfolding both
  one_allowed = refl

  range_good : (range_c p.air false).ok r ≡ true
  unfolding range_c number allowed_in
  range_good = both_true _ _ (lt-ltb r (2 ^ 4) has) (rw means one_allowed)

  list_good : (addresses_c false is_list_of_one).ok (set nobodies 0 a) ≡ true
  unfolding addresses_c places_c addresses_in ends_ok are_none is_nobody nobodies both
  list_good = rw good

  users_good : (group_c p.air false false).ok (one_user p.air a) ≡ true
  unfolding group_c one_user
  users_good = both_true _ _ refl (both_true _ _ range_good (rw means list_good))

  span_one : span_of p.air (one_user p.air a) ≡ 1
  unfolding span_of span_in one_user
  span_one = rw means

  addresses_one : addresses_in (meaning_in p.air.meanings r) ≡ 1
  unfolding addresses_in
  addresses_one = rw means

  told_by : (b c e : Bool) → state_c.ok (cond b (not_accepted p.air.unrecorded) (cond c (not_accepted p.air.elsewhere) (is_active (one e)))) ≡ true
  unfolding accepted_ok not_accepted_ok both
  told_by true c e = rw (state_by_lem (not_accepted p.air.unrecorded), le-leb p.air.unrecorded 7 (unrecorded_most p passes))
  told_by false true e = rw (state_by_lem (not_accepted p.air.elsewhere), le-leb p.air.elsewhere 7 (elsewhere_most p passes))
  told_by false false true = state_by_lem (is_active 1)
  told_by false false false = state_by_lem (is_active 0)

  told_good : (k : ℕ) → state_c.ok (told_of p.air k) ≡ true
  unfolding told_of
  told_good k = told_by (eqb k 0) (eqb k 1) (eqb k 2)

  state_body : (k : ℕ) → (body_c p.air 9).ok (state_ack p.air a k) ≡ true
  unfolding body_c row_of row_in table first_parts gets puts get_options put_options parts_c options_c blank masked_c flag number both
  state_body k =
      both_true _ _ (value_self (state_ack p.air a k))
      (both_true _ _ (both_true _ _ users_good (both_true _ _ refl (both_true _ _ (told_good k) refl))) refl)

  state_short : (k : ℕ) → length ((body_c p.air 9).bits (state_ack p.air a k)) ≤ 64
  unfolding get_options blank one_user
  state_short k =
      rw (interrogate_ack_body p.air)
      (one_state_most p.air 9 (state_ack p.air a k) (few_one addresses_one) (few_one span_one) refl)
    where
      few_one : {n : ℕ} → n ≡ 1 → n ≤ 1
      few_one e = omega arith

  state_carried : is_carried 9 ≡ true
  unfolding is_carried row_of row_in table
  state_carried = refl

  pub state_sends : (k : ℕ) → Sends p (state_ack p.air a k)
  unfolding blank
  state_sends k = value_sends p passes (state_ack p.air a k) state_carried (state_body k) (omega (arith, header_length p.air (state_ack p.air a k), state_short k))
