-- What the desk sends can be sent: its ACKs, of a valid request, and the messages that say nothing but their type. Assumes nothing.
use Prim.Native.Nat.{ℕ, zero, suc, ◌+◌, ◌≤◌, ◌<◌, min}
use mathlib.Core.Path.{◌≡◌, refl, sym, ap, ◌∙◌, subst}
use mathlib.Core.Bool.{Bool, true, false, cond}
use mathlib.Core.List.{List, [], ◌∷◌, ◌++◌}
use native.Mathlib.Omega.{arith}
use lib.ListN.{length, length-append}
use Rattle.bits.proofs.PutLaws.{length_binary}
use borrow.Author.Tests.{lt-ltb, ne_eqb, leb-true}
use Rattle.codec.specs.Codec.{Codec, both, number}
use Rattle.codec.specs.Options.{flag}
use Rattle.codec.proofs.Good.{both_true, both_left, both_right}
use Rattle.profile.specs.Rules.{air_ok, profile_ok}
use Rattle.profile.specs.declared.Profile.{Profile}
use Rattle.message.specs.Numbers.{elements, element_of, widths, width_of}
use Rattle.message.specs.Groups.{group_c, span_of, no_group, nobodies}
use Rattle.message.specs.Areas.{no_areas}
use Rattle.message.specs.Acks.{mask_c, masked_c, result_c}
use Rattle.message.specs.Values.{no_lists, blank, same_bools, same_numbers, same_address, same_addresses, same_group, same_areas, same_lists, same_value}
use Rattle.message.specs.Rows.{ack_row, table, row_in, row_of, parts_c, puts, gets, put_options, get_options, each_c, options_c, first_parts, parts_of, options_of}
use Rattle.message.specs.Messages.{holds_just, body_c, is_carried, header_c, message_c}
use Rattle.message.proofs.GroupLaws.{few_identities}
use Rattle.message.proofs.ValueLaws.{value_self}
use Rattle.message.specs.declared.Group.{Group}
use Rattle.message.specs.declared.Row.{Row}
use Rattle.message.specs.declared.Value.{Value}
use Rattle.validity.specs.Validity.{valid_of}
use Rattle.validity.proofs.ValidLaws.{carried_ok}
use Rattle.writing.specs.Writing.{bits_of}
use Rattle.writing.proofs.LengthLaws.{ack_body, ack_bytes_most}
use Rattle.records.specs.declared.Sorted.{Sorted}
use Rattle.sending.specs.Acks.{is_there, mask_at, result_of, reason_of, several_in, ack_v, ack_of, acks_of}
use Rattle.sending.proofs.SentLaws.{Sends, AllSend}

-- ---- what a profile that passes says of its numbers

module _ (p : Profile) (passes : profile_ok p ≡ true) where
  air_ok_lem : air_ok p.air ≡ true
  unfolding profile_ok
  air_ok_lem = both_left _ _ passes

  ss_most : p.air.ss ≤ 63
  unfolding air_ok
  ss_most = leb-true _ _ (both_left _ _ air_ok_lem)

  unknown_most : p.air.unknown ≤ 127
  unfolding air_ok
  unknown_most = leb-true _ _ (both_left _ _ (both_right _ _ (both_right _ _ air_ok_lem)))

  pub unrecorded_most : p.air.unrecorded ≤ 7
  unfolding air_ok
  unrecorded_most = leb-true _ _ (both_left _ _ (both_right _ _ (both_right _ _ (both_right _ _ (both_right _ _ air_ok_lem)))))

  pub elsewhere_most : p.air.elsewhere ≤ 7
  unfolding air_ok
  elsewhere_most = leb-true _ _ (both_left _ _ (both_right _ _ (both_right _ _ (both_right _ _ (both_right _ _ (both_right _ _ air_ok_lem))))))

  other_most : p.air.other ≤ 127
  unfolding air_ok
  other_most = leb-true _ _ (both_left _ _ (both_right _ _ (both_right _ _ (both_right _ _ air_ok_lem))))

-- ---- the ACKs

-- a type whose row is an ACK's is carried
ack_carried : (t : ℕ) → row_of t ≡ ack_row → is_carried t ≡ true
unfolding is_carried
ack_carried t e = ap (λ (r : Row). r.carried) e

-- the result and the reason of a class
result_valid : (p : Profile) → profile_ok p ≡ true → (class : ℕ) → result_c.ok (result_of class, reason_of p.air class) ≡ true
unfolding result_c result_of reason_of number both
result_valid p passes zero = refl
result_valid p passes (suc zero) = lt-ltb p.air.unknown 128 (omega (arith, unknown_most p passes))
result_valid p passes (suc (suc c)) =
    let two : suc (suc c) ≡ 0 → ⊥ = λ z. omega arith in
    let three : suc (suc c) ≡ 1 → ⊥ = λ z. omega arith in
    rw (ne_eqb (suc (suc c)) 0 two, ne_eqb (suc (suc c)) 1 three) (lt-ltb p.air.other 128 (omega (arith, other_most p passes)))

masked_valid : (n : ℕ) (b : Bool) (m : ℕ) → (mask_c n).ok m ≡ true → (masked_c n).ok (b, cond b m 0) ≡ true
unfolding masked_c flag number both
masked_valid n true m e = e
masked_valid n false m e = refl

-- of type t, whatever it is: the type of a value is the one that it was made of
ack_pdu_is : (t : ℕ) (users : Group) (b : Bool) (m r w : ℕ) → (ack_v t users b m r w).pdu ≡ t
unfolding ack_v blank
ack_pdu_is t users b m r w = refl

-- an ACK holds its three parts and nothing else
ack_holds : (t : ℕ) (users : Group) (b : Bool) (m r w : ℕ) → holds_just t (parts_of ack_row) (options_of ack_row) (ack_v t users b m r w) ≡ true
unfolding ack_v first_parts gets puts get_options put_options blank
ack_holds t users b m r w = value_self (ack_v t users b m r w)

module _ (p : Profile) (passes : profile_ok p ≡ true) (t : ℕ) (is : row_of t ≡ ack_row) where
  ack_valid : (users : Group) → (group_c p.air false false).ok users ≡ true → (b : Bool) (m : ℕ) → (mask_c (span_of p.air users)).ok m ≡ true
      → (class : ℕ) → valid_of p.air (ack_v t users b (cond b m 0) (result_of class) (reason_of p.air class)) ≡ true
  unfolding valid_of message_c ack_v first_parts gets get_options parts_c options_c blank
  ack_valid users g b m e class =
      let few : min (span_of p.air users) 64 ≡ span_of p.air users = omega (arith, few_identities p.air false false users g) in
      let v = ack_v t users b (cond b m 0) (result_of class) (reason_of p.air class) in
      both_true true _ refl
      (both_true _ _ (carried_ok p.air.ss t (omega (arith, ss_most p passes)) (ack_carried t is))
      (subst (λ (c : Codec Value). c.ok v ≡ true) (sym (ack_body p.air t is))
      (both_true _ _ (ack_holds t users b (cond b m 0) (result_of class) (reason_of p.air class))
      (both_true _ _
      (both_true _ _ g (both_true _ _ (subst (λ (n : ℕ). (masked_c n).ok (b, cond b m 0) ≡ true) (sym few) (masked_valid (span_of p.air users) b m e)) (both_true _ _ (result_valid p passes class) refl)))
      refl))))

-- ---- what is sent of a request

-- the type of an ACK, a group that was read, and masks of its identities
pub record Request (p : Profile) (t : ℕ) (users : Group) (s : Sorted) : Type 0 where
  pub ack : row_of t ≡ ack_row
  pub valid : (group_c p.air false false).ok users ≡ true
  pub masks : (class : ℕ) → class < 3 → (mask_c (span_of p.air users)).ok (mask_at s class) ≡ true

module _ (p : Profile) (passes : profile_ok p ≡ true) (t : ℕ) (users : Group) (s : Sorted) (r : Request p t users s) where
  ack_sends : (class : ℕ) → class < 3 → Sends p (ack_of p.air t users s class)
  unfolding ack_of
  ack_sends class h =
      let ok = ack_valid p passes t r.ack users r.valid (several_in s.some) (mask_at s class) (r.masks class h) class in
      record { valid = ok; short = omega (arith, ack_bytes_most p.air _ ok (ap row_of (ack_pdu_is t _ _ _ _ _) ∙ r.ack)) }

  ack_if_sends : (class : ℕ) → class < 3 → (b : Bool) (vs : List Value) → AllSend p vs → AllSend p (cond b (ack_of p.air t users s class ∷ []) [] ++ vs)
  ack_if_sends class h true vs all = (ack_sends class h, all)
  ack_if_sends class h false vs all = all

  ack_if_few : (class : ℕ) (b : Bool) (vs : List Value) (n : ℕ) → length vs ≤ n → length (cond b (ack_of p.air t users s class ∷ []) [] ++ vs) ≤ n + 1
  ack_if_few class true vs n h = omega arith
  ack_if_few class false vs n h = omega arith

  last_sends : (b : Bool) → AllSend p (cond b (ack_of p.air t users s 2 ∷ []) [])
  last_sends true = (ack_sends 2 (omega arith), tt)
  last_sends false = tt

  last_few : (b : Bool) → length (cond b (ack_of p.air t users s 2 ∷ []) []) ≤ 1
  last_few true = omega arith
  last_few false = omega arith

  pub acks_send : AllSend p (acks_of p.air t users s)
  unfolding acks_of
  acks_send = ack_if_sends 0 (omega arith) (is_there s 0) _ (ack_if_sends 1 (omega arith) (is_there s 1) _ (last_sends (is_there s 2)))

  -- at most three
  pub acks_few : length (acks_of p.air t users s) ≤ 3
  unfolding acks_of
  acks_few = ack_if_few 0 (is_there s 0) _ 2 (ack_if_few 1 (is_there s 1) _ 1 (last_few (is_there s 2)))

-- ---- any other message that is short

pub value_sends : (p : Profile) → profile_ok p ≡ true → (v : Value) → is_carried v.pdu ≡ true → (body_c p.air v.pdu).ok v ≡ true
    → length (bits_of p.air v) ≤ 100 → Sends p v
unfolding valid_of message_c
value_sends p passes v carried body short =
    record { valid = both_true true _ refl (both_true _ _ (carried_ok p.air.ss v.pdu (omega (arith, ss_most p passes)) carried) body); short = omega arith }

-- ---- INTERCEPTED, ACCEPTED, DIVERTED

module _ (p : Profile) (passes : profile_ok p ≡ true) where
  pub intercepted_sends : Sends p (blank 10)
  unfolding is_carried row_of row_in table both body_c first_parts gets puts get_options put_options parts_c options_c each_c elements element_of widths width_of same_value same_numbers same_bools same_group same_addresses same_address same_areas same_lists blank no_lists no_areas no_group nobodies flag number bits_of message_c header_c
  intercepted_sends = value_sends p passes (blank 10) refl refl (simp (length-append, length_binary) (omega arith))

  pub accepted_sends : Sends p (blank 13)
  unfolding is_carried row_of row_in table both body_c first_parts gets puts get_options put_options parts_c options_c same_value same_numbers same_bools same_group same_addresses same_address same_areas same_lists blank no_lists no_areas no_group nobodies number bits_of message_c header_c
  accepted_sends = value_sends p passes (blank 13) refl refl (simp (length-append, length_binary) (omega arith))

  pub diverted_sends : Sends p (blank 16)
  unfolding is_carried row_of row_in table both body_c first_parts gets puts get_options put_options parts_c options_c each_c elements element_of widths width_of same_value same_numbers same_bools same_group same_addresses same_address same_areas same_lists blank no_lists no_areas no_group nobodies flag number bits_of message_c header_c
  diverted_sends = value_sends p passes (blank 16) refl refl (simp (length-append, length_binary) (omega arith))
