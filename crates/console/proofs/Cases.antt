-- The two layouts and the orders on examples, computed: the sample profile's bytes, the bytes of worked cases' values, and what `cad_read`
-- and `cad_write` answer, each ground before the next. Assumes nothing.
use Rattle.std.proofs.Common.{◌≡◌, ℕ, ◌-◌, ◌*◌, ◌^◌, true, false, List, [], ◌∷◌, ◌++◌, length, set, replicate, refl}
use mathlib.Core.List as list
use Rattle.bits.specs.Fields.{bit_at, field_at}
use Rattle.bits.specs.Puts.{with_digit, set_bit, put_bits, binary, spare}
use Rattle.codec.specs.Stops.{short, refusal, no_stop}
use Rattle.codec.specs.Codec.{both, number, vec_read}
use Rattle.codec.specs.Options.{flag}
use Rattle.profile.specs.Counting.{every, sum}
use Rattle.profile.specs.Rules.{meaning_of, meaning_ok, meaning_in, air_ok, share_ok, share_in, shares_ok, profile_ok}
use Rattle.profile.specs.Sample.{sample, sample_meanings, sample_share}
use Rattle.message.specs.Addresses.{nobody, is_nobody, kind_c, extension_c, address_c}
use Rattle.message.specs.Groups.{addresses_in, allowed_in, nobodies, are_none, places_c, range_ok, ends_ok, addresses_c, range_c, group_c, no_group, one_group, span_in, span_of}
use Rattle.message.specs.Areas.{area_places_c, rises, area_list_c, areas_c, no_areas}
use Rattle.message.specs.Acks.{mask_c, masked_c, result_c, why_not_c, if_accepted_c, state_c}
use Rattle.message.specs.Numbers as place
use Rattle.message.specs.Numbers.{elements, element_of, widths, width_of}
use Rattle.message.specs.Values.{blank, with_number, with_dispatchers, with_given, same_bools, same_numbers, same_address, same_addresses, same_group, same_value, no_lists, same_areas, same_lists}
use Rattle.message.specs.Rows.{table, row_in, row_of, parts_c, puts, gets, each_c, options_c, put_options, get_options, first_parts}
use Rattle.message.specs.Messages.{body_c, is_known, is_carried, header_c, message_c}
use Rattle.message.specs.Reading.{whole_of, length_ok, read_bits, read_of}
use Rattle.message.proofs.Cases.{request, and, all, not_accepted, all_four}
use Rattle.message.proofs.Cases as message
use Rattle.message.specs.declared.Value.{Value}
use Rattle.validity.specs.Validity.{valid_of}
use Rattle.validity.proofs.Cases.{home, abroad, two, four, activate_v, deactivate, ack_of, ack_v, plain_v, call}
use Rattle.writing.specs.Writing.{bits_of, padded, lay_of, lay_in, write_valid, write_of}
use Rattle.layouts.specs.Bytes.{number_from, number_bytes, rows_from, rows_bytes, are_zero}
use Rattle.layouts.specs.Profiles.{meaning_bytes, share_bytes, share_from, profile_bytes, air_from, shares_from, profile_from, spare_zero, is_profile, passes}
use Rattle.layouts.specs.Values.{address_bytes, address_from, group_bytes, group_from, areas_bytes, areas_from, first_bytes, more_bytes, type_bytes, lists_bytes, lists_from, value_bytes, value_from, is_value}
use Rattle.console.specs.Console.{room_for, cad_read, read_number, read_stop, cad_read_stop, cad_read_of, tells, cad_read_position, cad_read_element, cad_write, write_number, cad_write_of}

abbrev zeros : ℕ → List ℕ
zeros n = replicate n 0

-- ---- the sample profile

abbrev sample_bytes : List ℕ
sample_bytes =
    (9 ∷ 0 ∷ 0 ∷ 0 ∷ 1 ∷ 2 ∷ [])
    ++ (16 ∷ 1 ∷ 2 ∷ 3 ∷ 0 ∷ 0 ∷ 0 ∷ 0 ∷ 0 ∷ 0 ∷ 0 ∷ 0 ∷ 0 ∷ 0 ∷ 0 ∷ 17 ∷ [])
    ++ (2 ∷ 2 ∷ 30 ∷ 4 ∷ 8 ∷ [])
    ++ zeros 12
    ++ (1 ∷ 2 ∷ [])

pub sample_written : profile_bytes sample ≡ sample_bytes
unfolding profile_bytes number_bytes rows_bytes meaning_bytes share_bytes sample sample_meanings sample_share
sample_written = refl

pub sample_taken : profile_from sample_bytes ≡ sample
unfolding profile_from air_from shares_from number_from rows_from meaning_of share_from sample sample_meanings sample_share
sample_taken = refl

-- ---- values

-- a value and its bytes, of which zeros at the end may be left out
pub data Row : Type 0 where
  row : Value → List ℕ → Row

-- the addresses of 1,001 and 1,004
abbrev ends : List ℕ
ends = 1 ∷ 0 ∷ 3 ∷ 0xE9 ∷ 0 ∷ 0 ∷ 0 ∷ 1 ∷ 0 ∷ 3 ∷ 0xEC ∷ 0 ∷ 0 ∷ 0 ∷ []

abbrev rows : List Row
rows =
    -- DIVERT of worked case 3: the identifier stands in bytes 119 and 120
    row (call 15 16383) ((15 ∷ []) ++ zeros 118 ++ (0x3F ∷ 0xFF ∷ []) ++ zeros 120)
    -- ACTIVATE of worked case 8
    ∷ row (activate_v four false no_group) ((2 ∷ 15 ∷ []) ++ ends ++ zeros 225)
    -- the first ACK of worked case 9: identities 0 and 1 have the top bits of byte 108
    ∷ row (ack_v four true (12 * 2 ^ 60) 1 0) ((3 ∷ 15 ∷ []) ++ ends ++ zeros 91 ++ (1 ∷ 0xC0 ∷ []) ++ zeros 7 ++ (1 ∷ []) ++ zeros 124)
    -- a mask of 64 identities, of kind 2; a reason
    ∷ row (ack_v (two 15 (abroad 64 9) (abroad 127 9)) true 0x0123456789ABCDEF 0 127)
    ((3 ∷ 15 ∷ 2 ∷ 0 ∷ 0 ∷ 64 ∷ 0 ∷ 0 ∷ 9 ∷ 2 ∷ 0 ∷ 0 ∷ 127 ∷ 0 ∷ 0 ∷ 9 ∷ []) ++ zeros 91 ++ (1 ∷ 0x01 ∷ 0x23 ∷ 0x45 ∷ 0x67 ∷ 0x89 ∷ 0xAB ∷ 0xCD ∷ 0xEF ∷ 0 ∷ 127 ∷ []) ++ zeros 123)
    -- INTERCEPTED with an option: the dispatcher's address begins at byte 123
    ∷ row (with_given 0 true (with_dispatchers (one_group (home 1)) (with_number place.cause 2 (blank 10)))) ((10 ∷ []) ++ zeros 117 ++ (2 ∷ 0 ∷ 0 ∷ 1 ∷ 0 ∷ 1 ∷ 0 ∷ 0 ∷ 1 ∷ []) ++ zeros 114)
    -- REQUEST without an option; with all seven: their bytes stand at 121 and from 228 on; with the last alone
    ∷ row (request 2) ((11 ∷ []) ++ zeros 117 ++ (2 ∷ 0 ∷ 5 ∷ []) ++ zeros 120)
    ∷ row (all (home 1001))
    ((11 ∷ 0 ∷ 1 ∷ 0 ∷ 3 ∷ 0xE9 ∷ 0 ∷ 0 ∷ 0 ∷ 2 ∷ 0 ∷ 3 ∷ 0xEC ∷ 0 ∷ 0 ∷ 5 ∷ []) ++ zeros 102 ++ (2 ∷ 0 ∷ 5 ∷ 1 ∷ []) ++ zeros 106 ++ (1 ∷ 1 ∷ 1 ∷ 1 ∷ 1 ∷ 1 ∷ 0 ∷ 0 ∷ 5 ∷ 1 ∷ 2 ∷ 1 ∷ 2 ∷ []))
    ∷ row (and 6 place.called_service 3 (request 0)) ((11 ∷ []) ++ zeros 118 ++ (0 ∷ 5 ∷ []) ++ zeros 112 ++ (1 ∷ 0 ∷ 0 ∷ 0 ∷ 0 ∷ 0 ∷ 0 ∷ 3 ∷ []))
    -- INTERROGATE ACK: not accepted; with all four groups: their bytes stand at 121 and from 228 on, the types at 241, the lists from 243 on
    ∷ row (message.told (not_accepted 1)) ((9 ∷ 1 ∷ 1 ∷ 0 ∷ 3 ∷ 0xE9 ∷ []) ++ zeros 111 ++ (1 ∷ []))
    ∷ row all_four
    ((9 ∷ 1 ∷ 1 ∷ 0 ∷ 3 ∷ 0xE9 ∷ []) ++ zeros 110 ++ (1 ∷ 0 ∷ 0 ∷ 0 ∷ 0 ∷ 1 ∷ 1 ∷ 1 ∷ 0 ∷ 3 ∷ 0xEC ∷ []) ++ zeros 101 ++ (1 ∷ 1 ∷ 1 ∷ []) ++ zeros 8 ++ (3 ∷ 0 ∷ 1 ∷ 0 ∷ [])
    ++ (2 ∷ 2 ∷ 0 ∷ 3 ∷ 0xE9 ∷ 0 ∷ 0 ∷ 5 ∷ 1 ∷ 0 ∷ 3 ∷ 0xEC ∷ 0 ∷ 0 ∷ 0 ∷ []) ++ zeros 91 ++ (15 ∷ []) ++ ends ++ zeros 91 ++ (3 ∷ 1 ∷ 15 ∷ []))
    -- CANCEL; REJECT; REJECTED with a dispatcher
    ∷ row (call 14 5) ((14 ∷ []) ++ zeros 118 ++ (0 ∷ 5 ∷ []) ++ zeros 120)
    ∷ row (plain_v 17 nobody 2 5 false nobody) ((17 ∷ []) ++ zeros 117 ++ (2 ∷ 0 ∷ 5 ∷ []) ++ zeros 120)
    -- DEACTIVATE of worked case 8's users; the last of its three ACKs by case 9's outcomes
    ∷ row (deactivate four) ((4 ∷ 15 ∷ []) ++ ends ++ zeros 225)
    ∷ row (ack_of 5 four true (2 ^ 60) 0 2) ((5 ∷ 15 ∷ []) ++ ends ++ zeros 91 ++ (1 ∷ 0x10 ∷ []) ++ zeros 7 ++ (0 ∷ 2 ∷ []) ++ zeros 123)
    ∷ row (plain_v 18 nobody 2 0 true (home 1001)) ((18 ∷ []) ++ zeros 117 ++ (2 ∷ 0 ∷ 0 ∷ 1 ∷ 0 ∷ 1 ∷ 0 ∷ 3 ∷ 0xE9 ∷ []) ++ zeros 114)
    ∷ []

abbrev bytes_in : Row → List ℕ
bytes_in (row v l) = l ++ zeros (471 - length l)

abbrev value_in : Row → Value
value_in (row v l) = v

pub rows_written : list.map (λ r. value_bytes (value_in r)) rows ≡ list.map bytes_in rows
unfolding value_bytes first_bytes more_bytes type_bytes lists_bytes areas_bytes group_bytes address_bytes number_bytes rows_bytes no_lists no_areas blank nobodies no_group one_group
rows_written = refl

pub rows_taken : list.map (λ r. value_from (bytes_in r)) rows ≡ list.map value_in rows
unfolding value_from lists_from areas_from group_from address_from number_from rows_from no_lists no_areas blank nobodies no_group one_group
rows_taken = refl

-- ---- answers

-- from the profile's bytes, the message, so many bits, and a value area of so many bytes: the number
pub data Asked : Type 0 where
  asked : List ℕ → List ℕ → ℕ → ℕ → ℕ → Asked

abbrev accepted : List ℕ
accepted = 0x25 ∷ 0xA0 ∷ []

abbrev questions : List Asked
questions =
    asked sample_bytes accepted 11 471 0
    -- 14 comes last: 13 and 3 before it
    ∷ asked sample_bytes accepted 11 470 14
    ∷ asked sample_bytes accepted 12 470 13
    ∷ asked sample_bytes accepted 17 0 3
    -- 1 before all: too few bytes, a byte too many, a meaning of 18, a row past the posts, nine posts, a ceiling of 0, a reason
    -- of four bits
    ∷ asked (9 ∷ []) accepted 17 0 1
    ∷ asked (sample_bytes ++ (0 ∷ [])) accepted 17 0 1
    ∷ asked (set sample_bytes 10 18) accepted 17 0 1
    ∷ asked (set sample_bytes 38 1) accepted 17 0 1
    ∷ asked (set sample_bytes 22 9) accepted 17 0 1
    ∷ asked (set sample_bytes 24 0) accepted 17 0 1
    ∷ asked (set sample_bytes 39 8) accepted 17 0 1
    ∷ asked (set sample_bytes 40 8) accepted 17 0 1
    ∷ []

abbrev gives : Asked → ℕ
gives (asked p m n k c) = cad_read_of p m n (zeros k)

abbrev wants : Asked → ℕ
wants (asked p m n k c) = c

pub answers_right : list.map gives questions ≡ list.map wants questions
unfolding bit_at field_at short refusal both number vec_read flag every sum meaning_ok meaning_in air_ok share_ok share_in shares_ok profile_ok is_nobody kind_c extension_c address_c addresses_in allowed_in nobodies are_none places_c range_ok ends_ok addresses_c range_c group_c no_group one_group span_in span_of mask_c masked_c result_c elements element_of widths width_of area_places_c rises area_list_c areas_c no_areas why_not_c if_accepted_c state_c no_lists blank same_bools same_numbers same_address same_addresses same_group same_areas same_lists same_value row_of row_in table parts_c puts gets each_c options_c put_options get_options first_parts body_c is_known is_carried header_c message_c whole_of length_ok read_bits read_of number_from rows_from are_zero meaning_of share_from air_from shares_from profile_from spare_zero is_profile passes room_for cad_read read_number cad_read_of
answers_right = refl

-- where a message broke off, and what stood in the two numbers before, 7 and 9: an ACCEPT of 24 bits, cut in its identifier, which begins at
-- bit 11, into an area of any size; whole; with a bit left over; no length; no profile
abbrev accept : List ℕ
accept = 0x25 ∷ 0x80 ∷ 0x02 ∷ 0x80 ∷ []

abbrev broken : List Asked
broken =
    asked sample_bytes accept 24 471 4 ∷ asked sample_bytes accept 24 0 4 ∷ asked sample_bytes accept 25 471 0 ∷ asked sample_bytes accept 26 471 13
    ∷ asked sample_bytes accept 33 471 3 ∷ asked (9 ∷ []) accept 24 471 1 ∷ []

abbrev tells_of : Asked → ℕ × ℕ
tells_of (asked p m n k c) = (cad_read_position p m n (zeros k) 7, cad_read_element p m n (zeros k) 9)

pub broken_right : list.map tells_of broken ≡ (11, 12) ∷ (11, 12) ∷ (7, 9) ∷ (7, 9) ∷ (7, 9) ∷ (7, 9) ∷ []
unfolding bit_at field_at short refusal both number vec_read flag every sum meaning_ok meaning_in air_ok share_ok share_in shares_ok profile_ok is_nobody kind_c extension_c address_c addresses_in allowed_in nobodies are_none places_c range_ok ends_ok addresses_c range_c group_c no_group one_group span_in span_of mask_c masked_c result_c elements element_of widths width_of area_places_c rises area_list_c areas_c no_areas why_not_c if_accepted_c state_c no_lists blank same_bools same_numbers same_address same_addresses same_group same_areas same_lists same_value row_of row_in table parts_c puts gets each_c options_c put_options get_options first_parts body_c is_known is_carried header_c message_c whole_of length_ok read_bits read_of number_from rows_from are_zero meaning_of share_from air_from shares_from profile_from spare_zero is_profile passes room_for cad_read read_stop no_stop cad_read_stop tells cad_read_position cad_read_element
broken_right = refl

-- of a value's bytes, into a message area of so many bytes
pub data Told : Type 0 where
  told : List ℕ → List ℕ → ℕ → ℕ → Told

abbrev accepted_bytes : List ℕ
accepted_bytes = (13 ∷ []) ++ zeros 470

abbrev orders : List Told
orders =
    told sample_bytes accepted_bytes 2 0
    -- 1, then 22 (by the shape, by a byte of 2 that says what is there, by a value that is not valid), then 14
    ∷ told sample_bytes accepted_bytes 1 14
    ∷ told sample_bytes (13 ∷ []) 1 22
    ∷ told sample_bytes (set accepted_bytes 107 2) 1 22
    ∷ told sample_bytes (set accepted_bytes 121 1) 1 22
    ∷ told sample_bytes (set accepted_bytes 233 2) 1 22
    ∷ told sample_bytes (set accepted_bytes 470 1) 1 22
    ∷ told (set sample_bytes 22 0) (13 ∷ []) 1 1
    ∷ []

abbrev says : Told → ℕ
says (told p v k c) = cad_write_of p v (zeros k)

abbrev expects : Told → ℕ
expects (told p v k c) = c

pub orders_right : list.map says orders ≡ list.map expects orders
unfolding with_digit set_bit put_bits binary spare refusal both number flag every sum meaning_ok meaning_in air_ok share_ok share_in shares_ok profile_ok is_nobody kind_c extension_c address_c addresses_in allowed_in nobodies are_none places_c range_ok ends_ok addresses_c range_c group_c no_group one_group span_in span_of mask_c masked_c result_c elements element_of widths width_of area_places_c rises area_list_c areas_c no_areas why_not_c if_accepted_c state_c no_lists blank same_bools same_numbers same_address same_addresses same_group same_areas same_lists same_value row_of row_in table parts_c puts gets each_c options_c put_options get_options first_parts body_c is_known is_carried header_c message_c valid_of bits_of padded lay_of lay_in write_valid write_of number_from rows_from are_zero meaning_of share_from air_from shares_from profile_from spare_zero is_profile passes address_from group_from lists_from areas_from value_from is_value cad_write write_number cad_write_of
orders_right = refl
