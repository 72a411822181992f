-- Values of each message, with and without option, mask and reason, written and read back: the rows of docs/ROUNDS.md that the program
-- `rounds` runs, and document 02's messages, computed on the definitions of `write` and `read`. The bytes are the papers' or the
-- independent model's. Assumes nothing.
use Rattle.std.proofs.Common.{◌≡◌, ℕ, ◌+◌, ◌*◌, ◌^◌, true, false, List, [], ◌∷◌, ◌++◌, length, set, replicate, refl}
use mathlib.Core.List as list
use Rattle.bits.specs.Fields.{bit_at, field_at}
use Rattle.bits.specs.Puts.{with_digit, set_bit, put_bits, binary, spare}
use Rattle.codec.specs.Stops.{refusal}
use Rattle.codec.specs.Codec.{Read, got, both, number, vec_read}
use Rattle.codec.specs.Options.{flag}
use Rattle.profile.specs.Counting.{every, sum}
use Rattle.profile.specs.Rules.{meaning_ok, meaning_in, air_ok, share_ok, share_in, shares_ok, profile_ok}
use Rattle.profile.specs.Sample.{sample, sample_meanings, sample_share}
use Rattle.message.specs.Addresses.{nobody, is_nobody, kind_c, extension_c, address_c}
use Rattle.message.specs.Groups.{addresses_in, allowed_in, nobodies, are_none, places_c, range_ok, ends_ok, addresses_c, range_c, group_c, no_group, one_group, span_in, span_of}
use Rattle.message.specs.Areas.{area_places_c, rises, area_list_c, areas_c, no_areas}
use Rattle.message.specs.Acks.{mask_c, masked_c, result_c, why_not_c, if_accepted_c, state_c}
use Rattle.message.specs.Numbers as place
use Rattle.message.specs.Numbers.{elements, element_of, widths, width_of}
use Rattle.message.specs.Values.{blank, same_bools, same_numbers, same_address, same_addresses, same_group, same_value, no_lists, same_areas, same_lists, with_users, with_mask, with_given}
use Rattle.message.specs.Rows.{table, row_in, row_of, parts_c, puts, gets, each_c, options_c, put_options, get_options, first_parts, put}
use Rattle.message.specs.Messages.{body_c, is_known, is_carried, header_c, message_c}
use Rattle.message.specs.Reading.{whole_of, length_ok, read_bits, read_of}
use Rattle.message.proofs.Cases.{request, and, all, whole, longest, told, accepted, not_accepted, covers, all_four}
use Rattle.message.specs.declared.Address.{Address}
use Rattle.message.specs.declared.Group.{Group}
use Rattle.message.specs.declared.Part.TheVariants as part
use Rattle.message.specs.declared.Value.{Value}
use Rattle.validity.specs.Validity.{valid_of}
use Rattle.validity.proofs.Cases.{home, abroad, none, one, two, four, activate_v, deactivate, ack_of, ack_v, plain_v, activate, interrogate, intercepted, call}
use Rattle.writing.specs.Writing.{Write, laid, refused, bits_of, padded, lay_of, lay_in, write_valid, write_of}

abbrev three : ℕ → Address → Address → Address → Group
three r a b c = record { range = r; addresses = set (set (set nobodies 0 a) 1 b) 2 c }

-- under the sample profile the value is written as these bytes, so many bits
pub data Row : Type 0 where
  row : Value → ℕ → List ℕ → Row

abbrev pub rows : List Row
rows =
    -- ACTIVATE: worked case 8
    row (activate four) 68
    (0x24 ∷ 0x5E ∷ 0x80 ∷ 0x01 ∷ 0xF4 ∷ 0xA0 ∷ 0x00 ∷ 0x7D ∷ 0x80 ∷ [])
    -- a list of two, one of kind 2; an option of one dispatcher
    ∷ row (activate_v (two 2 (home 1001) (abroad 7 5)) true (one 1 (home 9))) 123
    (0x24 ∷ 0x44 ∷ 0x80 ∷ 0x01 ∷ 0xF4 ∷ 0xC0 ∷ 0x00 ∷ 0x00 ∷ 0xE0 ∷ 0x00 ∷ 0x00 ∷ 0xB8 ∷ 0xA0 ∷ 0x00 ∷ 0x01 ∷ 0x20 ∷ [])
    -- an option that means "none"
    ∷ row (activate_v (one 1 (home 1)) true (none 0)) 47
    (0x24 ∷ 0x42 ∷ 0x80 ∷ 0x00 ∷ 0x00 ∷ 0xE0 ∷ [])
    -- a list of three; an option that is a range
    ∷ row (activate_v (three 3 (abroad 16777215 16777215) (home 0) (abroad 1 0)) true (two 15 (abroad 100 3) (abroad 163 3))) 247
    (0x24 ∷ 0x47 ∷ 0x7F ∷ 0xFF ∷ 0xFF ∷ 0xFF ∷ 0xFF ∷ 0xFF ∷ 0xA0 ∷ 0x00 ∷ 0x00 ∷ 0x10 ∷ 0x00 ∷ 0x00 ∷ 0x08 ∷ 0x00 ∷ 0x00 ∷ 0x07 ∷ 0xF0 ∷ 0x00 ∷ 0x03 ∷ 0x20 ∷ 0x00 ∷ 0x00 ∷ 0x1C ∷ 0x00 ∷ 0x01 ∷ 0x46 ∷ 0x00 ∷ 0x00 ∷ 0x06 ∷ [])
    -- ACTIVATE ACK: with a mask, accepted; with a mask and a reason
    ∷ row (ack_v four true (12 * 2 ^ 60) 1 0) 73
    (0x24 ∷ 0x7E ∷ 0x80 ∷ 0x01 ∷ 0xF4 ∷ 0xA0 ∷ 0x00 ∷ 0x7D ∷ 0x9C ∷ 0x80 ∷ [])
    ∷ row (ack_v four true (2 * 2 ^ 60) 0 1) 80
    (0x24 ∷ 0x7E ∷ 0x80 ∷ 0x01 ∷ 0xF4 ∷ 0xA0 ∷ 0x00 ∷ 0x7D ∷ 0x92 ∷ 0x01 ∷ [])
    -- without a mask, accepted; without a mask, with a reason
    ∷ row (ack_v four false 0 1 0) 69
    (0x24 ∷ 0x7E ∷ 0x80 ∷ 0x01 ∷ 0xF4 ∷ 0xA0 ∷ 0x00 ∷ 0x7D ∷ 0x88 ∷ [])
    ∷ row (ack_v (three 3 (home 1) (home 1) (abroad 2 4)) false 0 0 127) 126
    (0x24 ∷ 0x66 ∷ 0x80 ∷ 0x00 ∷ 0x00 ∷ 0xA0 ∷ 0x00 ∷ 0x00 ∷ 0x30 ∷ 0x00 ∷ 0x00 ∷ 0x10 ∷ 0x00 ∷ 0x00 ∷ 0x21 ∷ 0xFC ∷ [])
    -- 64 identities, every other one in the mask
    ∷ row (ack_v (two 15 (abroad 64 9) (abroad 127 9)) true 0xAAAAAAAAAAAAAAAA 0 2) 188
    (0x24 ∷ 0x7F ∷ 0x00 ∷ 0x00 ∷ 0x20 ∷ 0x00 ∷ 0x00 ∷ 0x04 ∷ 0xC0 ∷ 0x00 ∷ 0x0F ∷ 0xE0 ∷ 0x00 ∷ 0x01 ∷ 0x3A ∷ 0xAA ∷ 0xAA ∷ 0xAA ∷ 0xAA ∷ 0xAA ∷ 0xAA ∷ 0xAA ∷ 0xA0 ∷ 0x20 ∷ [])
    -- INTERROGATE: worked case 7; kind 2
    ∷ row (interrogate (home 1001)) 37
    (0x25 ∷ 0x08 ∷ 0x00 ∷ 0x1F ∷ 0x48 ∷ [])
    ∷ row (interrogate (abroad 1001 77)) 61
    (0x25 ∷ 0x10 ∷ 0x00 ∷ 0x1F ∷ 0x48 ∷ 0x00 ∷ 0x02 ∷ 0x68 ∷ [])
    -- INTERCEPTED: worked cases 4 and 6
    ∷ row (intercepted 0 false nobody) 17
    (0x25 ∷ 0x40 ∷ 0x00 ∷ [])
    ∷ row (intercepted 2 true (home 1)) 44
    (0x25 ∷ 0x42 ∷ 0xD0 ∷ 0x00 ∷ 0x00 ∷ 0x10 ∷ [])
    -- ACCEPT, ACCEPTED, DIVERT: worked cases 2, 1 and 3
    ∷ row (call 12 5) 25
    (0x25 ∷ 0x80 ∷ 0x02 ∷ 0x80 ∷ [])
    ∷ row (call 13 0) 11
    (0x25 ∷ 0xA0 ∷ [])
    ∷ row (call 15 16383) 25
    (0x25 ∷ 0xFF ∷ 0xFF ∷ 0x80 ∷ [])
    -- DIVERTED: worked case 5; with an option
    ∷ row (plain_v 16 nobody 0 0 false nobody) 17
    (0x26 ∷ 0x00 ∷ 0x00 ∷ [])
    ∷ row (plain_v 16 nobody 31 0 true (abroad 16777215 1)) 68
    (0x26 ∷ 0x1F ∷ 0xEF ∷ 0xFF ∷ 0xFF ∷ 0xF0 ∷ 0x00 ∷ 0x00 ∷ 0x10 ∷ [])
    -- REQUEST: without an option; with all seven, and both addresses of kind 2; with the last alone
    ∷ row (request 2) 31
    (0x25 ∷ 0x60 ∷ 0x02 ∷ 0x88 ∷ [])
    ∷ row (all (home 1001)) 150 whole
    ∷ row (all (abroad 1001 16777215)) 174 longest
    ∷ row (and 6 place.called_service 3 (request 0)) 40
    (0x25 ∷ 0x60 ∷ 0x02 ∷ 0x82 ∷ 0x07 ∷ [])
    -- INTERROGATE ACK of 1,001: active, not active; not accepted, reason 1; with areas 3 to 5; with all four groups; with each "none"; of four by a mask
    ∷ row (told (accepted 1 0 0 0)) 50
    (0x25 ∷ 0x22 ∷ 0x80 ∷ 0x01 ∷ 0xF4 ∷ 0xB0 ∷ 0x00 ∷ [])
    ∷ row (told (accepted 0 0 0 0)) 50
    (0x25 ∷ 0x22 ∷ 0x80 ∷ 0x01 ∷ 0xF4 ∷ 0xA0 ∷ 0x00 ∷ [])
    ∷ row (told (not_accepted 1)) 47
    (0x25 ∷ 0x22 ∷ 0x80 ∷ 0x01 ∷ 0xF4 ∷ 0x84 ∷ [])
    ∷ row (covers 15 (3 ∷ 5 ∷ [])) 63
    (0x25 ∷ 0x22 ∷ 0x80 ∷ 0x01 ∷ 0xF4 ∷ 0x86 ∷ 0x3E ∷ 0x6A ∷ [])
    ∷ row all_four 236
    (0x25 ∷ 0x22 ∷ 0x80 ∷ 0x01 ∷ 0xF4 ∷ 0xB1 ∷ 0xE2 ∷ 0x80 ∷ 0x01 ∷ 0xF6 ∷ 0x4A ∷ 0x00 ∷ 0x03 ∷ 0xE9 ∷ 0x00 ∷ 0x00 ∷ 0x05 ∷ 0x40 ∷ 0x00 ∷ 0xFB ∷ 0x3E ∷ 0x80 ∷ 0x01 ∷ 0xF4 ∷ 0xA0 ∷ 0x00 ∷ 0x7D ∷ 0x93 ∷ 0x1F ∷ 0x00 ∷ [])
    ∷ row (with_given 3 true (with_given 2 true (with_given 1 true (with_given 0 true (told (accepted 0 1 2 1)))))) 70
    (0x25 ∷ 0x22 ∷ 0x80 ∷ 0x01 ∷ 0xF4 ∷ 0xAC ∷ 0xE1 ∷ 0x08 ∷ 0x40 ∷ [])
    ∷ row (put part.Interrogation (accepted 1 1 3 2) (with_mask true (5 * 2 ^ 60) (with_users four (blank 9)))) 80
    (0x25 ∷ 0x3E ∷ 0x80 ∷ 0x01 ∷ 0xF4 ∷ 0xA0 ∷ 0x00 ∷ 0x7D ∷ 0x95 ∷ 0xFC ∷ [])
    -- CANCEL; REJECT; REJECTED, without and with an option
    ∷ row (call 14 5) 25
    (0x25 ∷ 0xC0 ∷ 0x02 ∷ 0x80 ∷ [])
    ∷ row (plain_v 17 nobody 2 5 false nobody) 30
    (0x26 ∷ 0x20 ∷ 0x02 ∷ 0x88 ∷ [])
    ∷ row (plain_v 18 nobody 2 0 false nobody) 17
    (0x26 ∷ 0x42 ∷ 0x00 ∷ [])
    ∷ row (plain_v 18 nobody 2 0 true (home 1001)) 44
    (0x26 ∷ 0x42 ∷ 0xD0 ∷ 0x00 ∷ 0x3E ∷ 0x90 ∷ [])
    -- DEACTIVATE of 1,001 to 1,004, of a list; its ACKs with a mask, and without
    ∷ row (deactivate four) 67
    (0x24 ∷ 0x9E ∷ 0x80 ∷ 0x01 ∷ 0xF4 ∷ 0xA0 ∷ 0x00 ∷ 0x7D ∷ 0x80 ∷ [])
    ∷ row (deactivate (two 2 (home 1001) (abroad 7 5))) 91
    (0x24 ∷ 0x84 ∷ 0x80 ∷ 0x01 ∷ 0xF4 ∷ 0xC0 ∷ 0x00 ∷ 0x00 ∷ 0xE0 ∷ 0x00 ∷ 0x00 ∷ 0xA0 ∷ [])
    ∷ row (ack_of 5 four true 0xC000_0000_0000_0000 1 0) 73
    (0x24 ∷ 0xBE ∷ 0x80 ∷ 0x01 ∷ 0xF4 ∷ 0xA0 ∷ 0x00 ∷ 0x7D ∷ 0x9C ∷ 0x80 ∷ [])
    ∷ row (ack_of 5 four true 0x1000_0000_0000_0000 0 2) 80
    (0x24 ∷ 0xBE ∷ 0x80 ∷ 0x01 ∷ 0xF4 ∷ 0xA0 ∷ 0x00 ∷ 0x7D ∷ 0x91 ∷ 0x02 ∷ [])
    ∷ row (ack_of 5 four false 0 1 0) 69
    (0x24 ∷ 0xBE ∷ 0x80 ∷ 0x01 ∷ 0xF4 ∷ 0xA0 ∷ 0x00 ∷ 0x7D ∷ 0x88 ∷ [])
    ∷ []

-- ---- written: into an area with a byte to spare, whose bytes are AA; that one stays

abbrev pub area : List ℕ → List ℕ
area bytes = replicate (length bytes + 1) 0xAA

abbrev pub writes : Row → Write
writes (row v n bytes) = write_of sample v (area bytes) 0

abbrev pub written : Row → Write
written (row v n bytes) = laid (bytes ++ (0xAA ∷ [])) n

pub rows_written : list.map writes rows ≡ list.map written rows
unfolding with_digit set_bit put_bits binary spare both number flag every sum meaning_ok meaning_in air_ok share_ok share_in shares_ok profile_ok sample sample_meanings sample_share is_nobody kind_c extension_c address_c addresses_in allowed_in nobodies are_none places_c range_ok ends_ok addresses_c range_c group_c no_group one_group span_in span_of mask_c masked_c result_c area_places_c rises area_list_c areas_c no_areas why_not_c if_accepted_c state_c no_lists blank same_bools same_numbers same_address same_addresses same_group same_areas same_lists same_value row_of row_in table elements element_of widths width_of parts_c puts gets each_c options_c put_options get_options first_parts body_c is_known is_carried header_c message_c valid_of bits_of padded lay_of lay_in write_valid write_of
rows_written = refl

-- ---- and read back

abbrev pub reads : Row → Read Value
reads (row v n bytes) = read_of sample bytes n

abbrev pub found : Row → Read Value
found (row v n bytes) = got v n

pub rows_read : list.map reads rows ≡ list.map found rows
unfolding area_places_c rises area_list_c areas_c no_areas why_not_c if_accepted_c state_c no_lists blank row_of row_in table elements element_of widths width_of parts_c puts gets each_c options_c put_options get_options first_parts bit_at field_at both number vec_read flag every sum meaning_ok meaning_in air_ok share_ok share_in shares_ok profile_ok sample sample_meanings sample_share kind_c extension_c address_c addresses_in allowed_in nobodies places_c range_ok ends_ok addresses_c range_c group_c no_group one_group span_in span_of mask_c masked_c result_c body_c is_known is_carried header_c message_c whole_of length_ok read_bits read_of
rows_read = refl

-- ---- one byte too few, and from another byte of the area on

pub sizes_right : list.map (λ (l : List ℕ). write_of sample (call 13 0) l 0) ((0xAA ∷ 0xAA ∷ []) ∷ (0xAA ∷ []) ∷ [] ∷ [])
    ≡ laid (0x25 ∷ 0xA0 ∷ []) 11 ∷ refused (refusal 14) ∷ refused (refusal 14) ∷ []
unfolding with_digit set_bit put_bits binary spare both number flag every sum meaning_ok meaning_in air_ok share_ok share_in shares_ok profile_ok sample sample_meanings sample_share is_nobody kind_c extension_c address_c addresses_in allowed_in nobodies are_none places_c range_ok ends_ok addresses_c range_c group_c no_group one_group span_in span_of mask_c masked_c result_c area_places_c rises area_list_c areas_c no_areas why_not_c if_accepted_c state_c no_lists blank same_bools same_numbers same_address same_addresses same_group same_areas same_lists same_value row_of row_in table elements element_of widths width_of parts_c puts gets each_c options_c put_options get_options first_parts body_c is_known is_carried header_c message_c valid_of bits_of padded lay_of lay_in write_valid write_of
sizes_right = refl

pub start_right : list.map (λ (b : ℕ). write_of sample (call 13 0) (0xAA ∷ 0xAA ∷ 0xAA ∷ []) b) (0 ∷ 1 ∷ 2 ∷ [])
    ≡ laid (0x25 ∷ 0xA0 ∷ 0xAA ∷ []) 11 ∷ laid (0xAA ∷ 0x25 ∷ 0xA0 ∷ []) 11 ∷ refused (refusal 14) ∷ []
unfolding with_digit set_bit put_bits binary spare both number flag every sum meaning_ok meaning_in air_ok share_ok share_in shares_ok profile_ok sample sample_meanings sample_share is_nobody kind_c extension_c address_c addresses_in allowed_in nobodies are_none places_c range_ok ends_ok addresses_c range_c group_c no_group one_group span_in span_of mask_c masked_c result_c area_places_c rises area_list_c areas_c no_areas why_not_c if_accepted_c state_c no_lists blank same_bools same_numbers same_address same_addresses same_group same_areas same_lists same_value row_of row_in table elements element_of widths width_of parts_c puts gets each_c options_c put_options get_options first_parts body_c is_known is_carried header_c message_c valid_of bits_of padded lay_of lay_in write_valid write_of
start_right = refl
