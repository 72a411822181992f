-- Document 01's worked cases 1 to 8 and those of document 02's messages as one checked list, with the values that they say; the kinds, and 5
-- before 6 and 7. Assumes nothing.
use Prim.Native.Nat.{ℕ, ◌*◌, ◌^◌}
use mathlib.Core.Path.{◌≡◌, refl}
use mathlib.Core.Bool.{Bool, true, false}
use mathlib.Core.List as list
use mathlib.Core.List.{List, [], ◌∷◌}
use lib.ListN.{set, replicate}
use lib.Seq.{sets}
use Rattle.bits.specs.Fields.{bit_at, field_at}
use Rattle.codec.specs.Stops.{short, refusal}
use Rattle.codec.specs.Codec.{Ground, grounds_of, Read, got, no, both, number, vec_read, vec_order}
use Rattle.codec.specs.Options.{flag}
use Rattle.profile.specs.Counting.{every, sum}
use Rattle.profile.specs.Rules.{meaning_ok, meaning_in, air_ok, share_ok, share_in, shares_ok, profile_ok}
use Rattle.profile.specs.Sample.{sample, sample_meanings, sample_share}
use Rattle.message.specs.Elements as element
use Rattle.message.specs.Addresses.{kind_c, extension_c, address_c}
use Rattle.message.specs.Groups.{addresses_in, allowed_in, nobodies, places_c, range_ok, ends_ok, addresses_c, range_c, group_c, no_group, one_group, span_in, span_of}
use Rattle.message.specs.Areas.{area_places_c, rises, area_list_c, areas_c, no_areas}
use Rattle.message.specs.Acks.{mask_c, masked_c, result_c, why_not_c, if_accepted_c, state_c}
use Rattle.message.specs.Numbers as place
use Rattle.message.specs.Numbers.{elements, element_of, widths, width_of}
use Rattle.message.specs.Values.{no_lists, blank, with_number, with_users, with_mask, with_dispatchers, with_sources, with_destinations, with_areas, with_given}
use Rattle.message.specs.Rows.{table, row_in, row_of, put, parts_c, puts, each_c, options_c, put_options, first_parts}
use Rattle.message.specs.Messages.{body_c, is_known, is_carried, header_c, message_c}
use Rattle.message.specs.Reading.{whole_of, length_ok, read_bits, read_of, bits_order, reading_order}
use Rattle.message.specs.declared.Value.{Value}
use Rattle.message.specs.declared.Address.{Address}
use Rattle.message.specs.declared.Group.{Group}
use Rattle.message.specs.declared.State.{State}
use Rattle.message.specs.declared.Part.TheVariants as part

-- these bytes, so many bits, are read as this under the sample profile
pub data Case : Type 0 where
  reads : List ℕ → ℕ → Read Value → Case

abbrev pub gives : Case → Read Value
gives (reads l n r) = read_of sample l n

abbrev pub wants : Case → Read Value
wants (reads l n r) = r

-- kind 1
abbrev pub home : ℕ → Address
home s = record { kind = 1; ssi = s; extension = 0 }

-- range 15, SSI 1,001 to 1,004
abbrev pub four : Group
four = record { range = 15; addresses = set (set nobodies 0 (home 1001)) 1 (home 1004) }

-- an ACK of theirs
abbrev pub ack : ℕ → Bool → ℕ → ℕ → ℕ → Value
ack t masked mask result reason = put part.Result (result, reason) (with_mask masked mask (with_users four (blank t)))

-- a message with an identifier or with nothing
abbrev pub call : ℕ → ℕ → Value
call t i = with_number place.identifier i (blank t)

abbrev pub caused : ℕ → ℕ → Value
caused t c = with_number place.cause c (blank t)

-- REQUEST of call 5 with a cause; with a number as its i-th option
abbrev pub request : ℕ → Value
request c = with_number place.cause c (call 11 5)

abbrev pub and : ℕ → ℕ → ℕ → Value → Value
and i k n v = with_given i true (with_number k n v)

-- with all seven: a calling, called 1,004 with extension 5, MNI 5, areas 1 and 2, services 1 and 2
abbrev pub all : Address → Value
all calling =
    and 6 place.called_service 2 (and 5 place.calling_service 1 (and 4 place.called_area 2 (and 3 place.calling_area 1 (and 2 place.mni 5
    (with_given 1 true (put (part.User 1) (record { kind = 2; ssi = 1004; extension = 5 }) (with_given 0 true (put (part.User 0) calling (request 2)))))))))

-- INTERROGATE ACK of 1,001
abbrev pub told : State → Value
told s = put part.Interrogation s (with_users (record { range = 1; addresses = set nobodies 0 (home 1001) }) (blank 9))

abbrev pub accepted : ℕ → ℕ → ℕ → ℕ → State
accepted a i called calling = record { result = 1; reason = 0; activation = a; interception = i; called = called; calling = calling }

abbrev pub not_accepted : ℕ → State
not_accepted r = record { result = 0; reason = r; activation = 0; interception = 0; called = 0; calling = 0 }

-- not accepted, reason 1, with these areas
abbrev pub covers : ℕ → List ℕ → Value
covers range l = with_given 3 true (with_areas (record { range = range; areas = sets (replicate 15 0) 0 l }) (told (not_accepted 1)))

-- active, basic service of the calling 3, dispatcher 1,004, sources 1,001 with extension 5 and 1,004, destinations 1,001 to 1,004, areas 1, 15, 0
abbrev pub all_four : Value
all_four =
    with_given 3 true (with_areas (record { range = 3; areas = sets (replicate 15 0) 0 (1 ∷ 15 ∷ 0 ∷ []) })
    (with_given 2 true (with_destinations four
    (with_given 1 true (with_sources (record { range = 2; addresses = set (set nobodies 0 (record { kind = 2; ssi = 1001; extension = 5 })) 1 (home 1004) })
    (with_given 0 true (with_dispatchers (record { range = 1; addresses = set nobodies 0 (home 1004) }) (told (accepted 1 0 0 3)))))))))

abbrev pub whole : List ℕ
whole = 0x25 ∷ 0x60 ∷ 0x02 ∷ 0x8B ∷ 0x40 ∷ 0x00 ∷ 0xFA ∷ 0x70 ∷ 0x00 ∷ 0x1F ∷ 0x60 ∷ 0x00 ∷ 0x00 ∷ 0x2C ∷ 0x00 ∷ 0x00 ∷ 0x16 ∷ 0x32 ∷ 0xB8 ∷ []

abbrev pub longest : List ℕ
longest = 0x25 ∷ 0x60 ∷ 0x02 ∷ 0x8B ∷ 0x80 ∷ 0x00 ∷ 0xFA ∷ 0x7F ∷ 0xFF ∷ 0xFF ∷ 0xF0 ∷ 0x00 ∷ 0x1F ∷ 0x60 ∷ 0x00 ∷ 0x00 ∷ 0x2C ∷ 0x00 ∷ 0x00 ∷ 0x16 ∷ 0x32 ∷ 0xB8 ∷ []

abbrev pub cases : List Case
cases =
    -- 1: ACCEPTED; one bit left over; one bit missing
    reads (0x25 ∷ 0xA0 ∷ []) 11 (got (call 13 0) 11)
    ∷ reads (0x25 ∷ 0xA0 ∷ []) 12 (no (refusal 13))
    ∷ reads (0x25 ∷ 0xA0 ∷ []) 10 (no (short element.pdu_type 6))
    -- 2, 3: ACCEPT, identifier 5; DIVERT, 16,383
    ∷ reads (0x25 ∷ 0x80 ∷ 0x02 ∷ 0x80 ∷ []) 25 (got (call 12 5) 25)
    ∷ reads (0x25 ∷ 0xFF ∷ 0xFF ∷ 0x80 ∷ []) 25 (got (call 15 16383) 25)
    -- 4, 5, 6: INTERCEPTED, cause 0, no option; DIVERTED likewise; INTERCEPTED, cause 2, kind 1, SSI 1
    ∷ reads (0x25 ∷ 0x40 ∷ 0x00 ∷ []) 17 (got (blank 10) 17)
    ∷ reads (0x26 ∷ 0x00 ∷ 0x00 ∷ []) 17 (got (blank 16) 17)
    ∷ reads (0x25 ∷ 0x42 ∷ 0xD0 ∷ 0x00 ∷ 0x00 ∷ 0x10 ∷ []) 44 (got (with_given 0 true (with_dispatchers (one_group (home 1)) (caused 10 2))) 44)
    -- 7: INTERROGATE, SSI 1,001
    ∷ reads (0x25 ∷ 0x08 ∷ 0x00 ∷ 0x1F ∷ 0x48 ∷ []) 37 (got (with_users (one_group (home 1001)) (blank 8)) 37)
    -- 8: ACTIVATE, range 15, SSI 1,001 to 1,004, no option
    ∷ reads (0x24 ∷ 0x5E ∷ 0x80 ∷ 0x01 ∷ 0xF4 ∷ 0xA0 ∷ 0x00 ∷ 0x7D ∷ 0x80 ∷ []) 68
    (got (with_users four (blank 2)) 68)
    -- kinds: 2 with an extension of 5; 3 and 0 are refused, though nothing follows
    ∷ reads (0x25 ∷ 0x10 ∷ 0x00 ∷ 0x1F ∷ 0x48 ∷ 0x00 ∷ 0x00 ∷ 0x28 ∷ []) 61 (got (with_users (one_group (record { kind = 2; ssi = 1001; extension = 5 })) (blank 8)) 61)
    ∷ reads (0x25 ∷ 0x18 ∷ []) 13 (no (refusal 10))
    ∷ reads (0x25 ∷ 0x00 ∷ []) 13 (no (refusal 10))
    -- SS type 10 with PDU type 1 and with type 6: 5 comes before 6 and 7
    ∷ reads (0x28 ∷ 0x20 ∷ []) 11 (no (refusal 5))
    ∷ reads (0x28 ∷ 0xC0 ∷ []) 11 (no (refusal 5))
    -- 6: types 0, 1, 19 and 31; 7: types 6 and 7, which are known and not carried; 9 is carried, and its range is missing
    ∷ reads (0x24 ∷ 0x00 ∷ []) 11 (no (refusal 6))
    ∷ reads (0x24 ∷ 0x20 ∷ []) 11 (no (refusal 6))
    ∷ reads (0x26 ∷ 0x60 ∷ []) 11 (no (refusal 6))
    ∷ reads (0x27 ∷ 0xE0 ∷ []) 11 (no (refusal 6))
    ∷ reads (0x24 ∷ 0xC0 ∷ []) 11 (no (refusal 7))
    ∷ reads (0x24 ∷ 0xE0 ∷ []) 11 (no (refusal 7))
    ∷ reads (0x25 ∷ 0x20 ∷ []) 11 (no (short element.range 11))
    -- 9: ACTIVATE with a reserved range, 4, and with "none" for its users, 0
    ∷ reads (0x24 ∷ 0x48 ∷ []) 15 (no (refusal 9))
    ∷ reads (0x24 ∷ 0x40 ∷ []) 15 (no (refusal 9))
    -- 11: first and last fall, 1,004 to 1,001; of 65 identities, 1,001 to 1,065; of 64 it is read as far as the O-bit, which is missing
    ∷ reads (0x24 ∷ 0x5E ∷ 0x80 ∷ 0x01 ∷ 0xF6 ∷ 0x20 ∷ 0x00 ∷ 0x7D ∷ 0x20 ∷ []) 67 (no (refusal 11))
    ∷ reads (0x24 ∷ 0x5E ∷ 0x80 ∷ 0x01 ∷ 0xF4 ∷ 0xA0 ∷ 0x00 ∷ 0x85 ∷ 0x20 ∷ []) 67 (no (refusal 11))
    ∷ reads (0x24 ∷ 0x5E ∷ 0x80 ∷ 0x01 ∷ 0xF4 ∷ 0xA0 ∷ 0x00 ∷ 0x85 ∷ 0x00 ∷ []) 67 (no (short element.o_bit 67))
    -- 12: INTERCEPTED, its O-bit 1 and its P-bit 0
    ∷ reads (0x25 ∷ 0x40 ∷ 0x80 ∷ []) 18 (no (refusal 12))
    -- REQUEST of call 5 with no option, cause 0 and cause 2; with all seven, of 150 bits and, both of kind 2, of 174; with the called's service alone
    ∷ reads (0x25 ∷ 0x60 ∷ 0x02 ∷ 0x80 ∷ []) 31 (got (request 0) 31)
    ∷ reads (0x25 ∷ 0x60 ∷ 0x02 ∷ 0x88 ∷ []) 31 (got (request 2) 31)
    ∷ reads whole 150 (got (all (home 1001)) 150)
    ∷ reads longest 174 (got (all (record { kind = 2; ssi = 1001; extension = 16777215 })) 174)
    ∷ reads (0x25 ∷ 0x60 ∷ 0x02 ∷ 0x82 ∷ 0x07 ∷ []) 40 (got (and 6 place.called_service 3 (request 0)) 40)
    -- 12: seven P-bits that are 0; cut in the last of them; 13: a bit after an O-bit of 0; 10: kinds 0 and 3; cut in the called's SSI
    ∷ reads (0x25 ∷ 0x60 ∷ 0x02 ∷ 0x82 ∷ 0x00 ∷ []) 38 (no (refusal 12))
    ∷ reads (0x25 ∷ 0x60 ∷ 0x02 ∷ 0x82 ∷ 0x00 ∷ []) 37 (no (short element.p_bit 37))
    ∷ reads (0x25 ∷ 0x60 ∷ 0x02 ∷ 0x80 ∷ []) 32 (no (refusal 13))
    ∷ reads (0x25 ∷ 0x60 ∷ 0x02 ∷ 0x83 ∷ 0x00 ∷ []) 34 (no (refusal 10))
    ∷ reads (0x25 ∷ 0x60 ∷ 0x02 ∷ 0x83 ∷ 0xC0 ∷ []) 34 (no (refusal 10))
    ∷ reads whole 80 (no (short element.ssi 61))
    -- INTERROGATE ACK of 1,001: active, not active; not accepted, reason 1, and its O-bit missing; with areas 3 to 5; with all four groups
    ∷ reads (0x25 ∷ 0x22 ∷ 0x80 ∷ 0x01 ∷ 0xF4 ∷ 0xB0 ∷ 0x00 ∷ []) 50 (got (told (accepted 1 0 0 0)) 50)
    ∷ reads (0x25 ∷ 0x22 ∷ 0x80 ∷ 0x01 ∷ 0xF4 ∷ 0xA0 ∷ 0x00 ∷ []) 50 (got (told (accepted 0 0 0 0)) 50)
    ∷ reads (0x25 ∷ 0x22 ∷ 0x80 ∷ 0x01 ∷ 0xF4 ∷ 0x84 ∷ []) 47 (got (told (not_accepted 1)) 47)
    ∷ reads (0x25 ∷ 0x22 ∷ 0x80 ∷ 0x01 ∷ 0xF4 ∷ 0x84 ∷ []) 46 (no (short element.o_bit 46))
    ∷ reads (0x25 ∷ 0x22 ∷ 0x80 ∷ 0x01 ∷ 0xF4 ∷ 0x86 ∷ 0x3E ∷ 0x6A ∷ []) 63 (got (covers 15 (3 ∷ 5 ∷ [])) 63)
    ∷ reads (0x25 ∷ 0x22 ∷ 0x80 ∷ 0x01 ∷ 0xF4 ∷ 0xB1 ∷ 0xE2 ∷ 0x80 ∷ 0x01 ∷ 0xF6 ∷ 0x4A ∷ 0x00 ∷ 0x03 ∷ 0xE9 ∷ 0x00 ∷ 0x00 ∷ 0x05 ∷ 0x40 ∷ 0x00 ∷ 0xFB ∷ 0x3E ∷ 0x80 ∷ 0x01 ∷ 0xF4 ∷ 0xA0 ∷ 0x00 ∷ 0x7D ∷ 0x93 ∷ 0x1F ∷ 0x00 ∷ []) 236 (got all_four 236)
    -- 1,002 and 1,004 of four by the mask, each element its own value; all four groups there, and each "none"
    ∷ reads (0x25 ∷ 0x3E ∷ 0x80 ∷ 0x01 ∷ 0xF4 ∷ 0xA0 ∷ 0x00 ∷ 0x7D ∷ 0x95 ∷ 0xFC ∷ []) 80 (got (put part.Interrogation (accepted 1 1 3 2) (with_mask true (5 * 2 ^ 60) (with_users four (blank 9)))) 80)
    ∷ reads (0x25 ∷ 0x22 ∷ 0x80 ∷ 0x01 ∷ 0xF4 ∷ 0xAC ∷ 0xE1 ∷ 0x08 ∷ 0x40 ∷ []) 70 (got (with_given 3 true (with_given 2 true (with_given 1 true (with_given 0 true (told (accepted 0 1 2 1)))))) 70)
    -- kind 3: 27 of a destination, the first or the second; 10 of a source and of a dispatcher; kind 0 of a destination is 10
    ∷ reads (0x25 ∷ 0x22 ∷ 0x80 ∷ 0x01 ∷ 0xF4 ∷ 0x86 ∷ 0x47 ∷ []) 56 (no (refusal 27))
    ∷ reads (0x25 ∷ 0x22 ∷ 0x80 ∷ 0x01 ∷ 0xF4 ∷ 0x86 ∷ 0x49 ∷ 0x00 ∷ 0x03 ∷ 0xE9 ∷ 0xC0 ∷ []) 82 (no (refusal 27))
    ∷ reads (0x25 ∷ 0x22 ∷ 0x80 ∷ 0x01 ∷ 0xF4 ∷ 0x86 ∷ 0x8E ∷ []) 55 (no (refusal 10))
    ∷ reads (0x25 ∷ 0x22 ∷ 0x80 ∷ 0x01 ∷ 0xF4 ∷ 0x87 ∷ 0x1C ∷ []) 54 (no (refusal 10))
    ∷ reads (0x25 ∷ 0x22 ∷ 0x80 ∷ 0x01 ∷ 0xF4 ∷ 0x86 ∷ 0x44 ∷ []) 56 (no (refusal 10))
    -- areas: 5 to 3 fall; 0 to 15 and 3 to 3 are good; a reserved range; users that are "none"; four P-bits that are 0
    ∷ reads (0x25 ∷ 0x22 ∷ 0x80 ∷ 0x01 ∷ 0xF4 ∷ 0x86 ∷ 0x3E ∷ 0xA6 ∷ []) 63 (no (refusal 11))
    ∷ reads (0x25 ∷ 0x22 ∷ 0x80 ∷ 0x01 ∷ 0xF4 ∷ 0x86 ∷ 0x3E ∷ 0x1E ∷ []) 63 (got (covers 15 (0 ∷ 15 ∷ [])) 63)
    ∷ reads (0x25 ∷ 0x22 ∷ 0x80 ∷ 0x01 ∷ 0xF4 ∷ 0x86 ∷ 0x3E ∷ 0x66 ∷ []) 63 (got (covers 15 (3 ∷ 3 ∷ [])) 63)
    ∷ reads (0x25 ∷ 0x22 ∷ 0x80 ∷ 0x01 ∷ 0xF4 ∷ 0x86 ∷ 0x28 ∷ []) 55 (no (refusal 9))
    ∷ reads (0x25 ∷ 0x20 ∷ []) 15 (no (refusal 9))
    ∷ reads (0x25 ∷ 0x22 ∷ 0x80 ∷ 0x01 ∷ 0xF4 ∷ 0x86 ∷ 0x00 ∷ []) 51 (no (refusal 12))
    -- cut in the reason, the activation type, the interception type, the basic service of the called, of the calling, the second area
    ∷ reads (0x25 ∷ 0x22 ∷ 0x80 ∷ 0x01 ∷ 0xF4 ∷ 0x84 ∷ []) 45 (no (short element.reason 43))
    ∷ reads (0x25 ∷ 0x22 ∷ 0x80 ∷ 0x01 ∷ 0xF4 ∷ 0xB0 ∷ 0x00 ∷ []) 43 (no (short element.activation_type 43))
    ∷ reads (0x25 ∷ 0x22 ∷ 0x80 ∷ 0x01 ∷ 0xF4 ∷ 0xB0 ∷ 0x00 ∷ []) 44 (no (short element.interception_type 44))
    ∷ reads (0x25 ∷ 0x22 ∷ 0x80 ∷ 0x01 ∷ 0xF4 ∷ 0xB0 ∷ 0x00 ∷ []) 46 (no (short element.basic_service 45))
    ∷ reads (0x25 ∷ 0x22 ∷ 0x80 ∷ 0x01 ∷ 0xF4 ∷ 0xB0 ∷ 0x00 ∷ []) 48 (no (short element.basic_service 47))
    ∷ reads (0x25 ∷ 0x22 ∷ 0x80 ∷ 0x01 ∷ 0xF4 ∷ 0x86 ∷ 0x3E ∷ 0x6A ∷ []) 62 (no (short element.area 59))
    -- CANCEL, call 5; REJECT, call 5, cause 2; REJECTED, cause 2, without and with dispatcher 1,001
    ∷ reads (0x25 ∷ 0xC0 ∷ 0x02 ∷ 0x80 ∷ []) 25 (got (call 14 5) 25)
    ∷ reads (0x26 ∷ 0x20 ∷ 0x02 ∷ 0x88 ∷ []) 30 (got (with_number place.cause 2 (call 17 5)) 30)
    ∷ reads (0x26 ∷ 0x42 ∷ 0x00 ∷ []) 17 (got (caused 18 2) 17)
    ∷ reads (0x26 ∷ 0x42 ∷ 0xD0 ∷ 0x00 ∷ 0x3E ∷ 0x90 ∷ []) 44 (got (with_given 0 true (with_dispatchers (one_group (home 1001)) (caused 18 2))) 44)
    -- DEACTIVATE of 1,001 to 1,004: no option, so what would be ACTIVATE's O-bit is left over; cut in the last SSI, in the range
    ∷ reads (0x24 ∷ 0x9E ∷ 0x80 ∷ 0x01 ∷ 0xF4 ∷ 0xA0 ∷ 0x00 ∷ 0x7D ∷ 0x80 ∷ []) 67 (got (with_users four (blank 4)) 67)
    ∷ reads (0x24 ∷ 0x9E ∷ 0x80 ∷ 0x01 ∷ 0xF4 ∷ 0xA0 ∷ 0x00 ∷ 0x7D ∷ 0x80 ∷ []) 68 (no (refusal 13))
    ∷ reads (0x24 ∷ 0x9E ∷ 0x80 ∷ 0x01 ∷ 0xF4 ∷ 0xA0 ∷ 0x00 ∷ 0x7D ∷ 0x80 ∷ []) 66 (no (short element.ssi 43))
    ∷ reads (0x24 ∷ 0x80 ∷ []) 11 (no (short element.range 11))
    -- its range is 4, reserved, and 0, "none"; it falls
    ∷ reads (0x24 ∷ 0x88 ∷ []) 15 (no (refusal 9))
    ∷ reads (0x24 ∷ 0x80 ∷ []) 15 (no (refusal 9))
    ∷ reads (0x24 ∷ 0x9E ∷ 0x80 ∷ 0x01 ∷ 0xF6 ∷ 0x20 ∷ 0x00 ∷ 0x7D ∷ 0x20 ∷ []) 67 (no (refusal 11))
    -- its ACKs by case 9's outcomes; one without a mask; cut in the mask, in the reason
    ∷ reads (0x24 ∷ 0xBE ∷ 0x80 ∷ 0x01 ∷ 0xF4 ∷ 0xA0 ∷ 0x00 ∷ 0x7D ∷ 0x9C ∷ 0x80 ∷ []) 73 (got (ack 5 true (12 * 2 ^ 60) 1 0) 73)
    ∷ reads (0x24 ∷ 0xBE ∷ 0x80 ∷ 0x01 ∷ 0xF4 ∷ 0xA0 ∷ 0x00 ∷ 0x7D ∷ 0x92 ∷ 0x01 ∷ []) 80 (got (ack 5 true (2 * 2 ^ 60) 0 1) 80)
    ∷ reads (0x24 ∷ 0xBE ∷ 0x80 ∷ 0x01 ∷ 0xF4 ∷ 0xA0 ∷ 0x00 ∷ 0x7D ∷ 0x91 ∷ 0x02 ∷ []) 80 (got (ack 5 true (2 ^ 60) 0 2) 80)
    ∷ reads (0x24 ∷ 0xBE ∷ 0x80 ∷ 0x01 ∷ 0xF4 ∷ 0xA0 ∷ 0x00 ∷ 0x7D ∷ 0x88 ∷ []) 69 (got (ack 5 false 0 1 0) 69)
    ∷ reads (0x24 ∷ 0xBE ∷ 0x80 ∷ 0x01 ∷ 0xF4 ∷ 0xA0 ∷ 0x00 ∷ 0x7D ∷ 0x9C ∷ 0x80 ∷ []) 71 (no (short element.mask 68))
    ∷ reads (0x24 ∷ 0xBE ∷ 0x80 ∷ 0x01 ∷ 0xF4 ∷ 0xA0 ∷ 0x00 ∷ 0x7D ∷ 0x92 ∷ 0x01 ∷ []) 79 (no (short element.reason 73))
    -- each element once, broken off: the lines of docs/REFUSALS.md that do not stand above
    ∷ reads (0x24 ∷ []) 5 (no (short element.ss_type 0))
    ∷ reads (0x24 ∷ 0x9E ∷ []) 14 (no (short element.range 11))
    ∷ reads (0x25 ∷ 0x08 ∷ []) 12 (no (short element.kind 11))
    ∷ reads (0x25 ∷ 0x08 ∷ 0x00 ∷ 0x1F ∷ 0x48 ∷ []) 36 (no (short element.ssi 13))
    ∷ reads (0x25 ∷ 0x10 ∷ 0x00 ∷ 0x1F ∷ 0x48 ∷ 0x00 ∷ 0x02 ∷ 0x68 ∷ []) 60 (no (short element.extension 37))
    ∷ reads (0x24 ∷ 0x62 ∷ 0x80 ∷ 0x01 ∷ 0xF4 ∷ 0xA0 ∷ []) 41 (no (short element.mask_present 41))
    ∷ reads (0x24 ∷ 0xBE ∷ 0x80 ∷ 0x01 ∷ 0xF4 ∷ 0xA0 ∷ 0x00 ∷ 0x7D ∷ 0x9C ∷ 0x80 ∷ []) 72 (no (short element.result 72))
    ∷ reads (0x25 ∷ 0x40 ∷ 0x00 ∷ []) 15 (no (short element.cause 11))
    ∷ reads (0x25 ∷ 0x80 ∷ 0x02 ∷ 0x80 ∷ []) 24 (no (short element.identifier 11))
    ∷ reads (0x25 ∷ 0x40 ∷ 0x00 ∷ []) 16 (no (short element.o_bit 16))
    ∷ reads (0x25 ∷ 0x40 ∷ 0x80 ∷ []) 17 (no (short element.p_bit 17))
    ∷ reads (0x25 ∷ 0x60 ∷ 0x02 ∷ 0x82 ∷ 0x40 ∷ 0x00 ∷ 0x00 ∷ 0x00 ∷ []) 57 (no (short element.mni 34))
    ∷ reads (0x25 ∷ 0x60 ∷ 0x02 ∷ 0x82 ∷ 0x20 ∷ []) 38 (no (short element.area 35))
    ∷ reads (0x25 ∷ 0x60 ∷ 0x02 ∷ 0x82 ∷ 0x07 ∷ []) 39 (no (short element.basic_service 38))
    ∷ []

pub cases_right : list.map gives cases ≡ list.map wants cases
unfolding bit_at field_at both number vec_read flag every sum meaning_ok meaning_in air_ok share_ok share_in shares_ok profile_ok sample sample_meanings sample_share kind_c extension_c address_c addresses_in allowed_in nobodies places_c range_ok ends_ok addresses_c range_c group_c no_group one_group span_in span_of area_places_c rises area_list_c areas_c no_areas mask_c masked_c result_c why_not_c if_accepted_c state_c elements element_of widths width_of no_lists blank row_of row_in table parts_c puts each_c options_c put_options first_parts body_c is_known is_carried header_c message_c whole_of length_ok read_bits read_of
cases_right = refl

-- ---- the grounds along the bits

-- of worked case 8: 1, 3; SS type and PDU type; 5, 6, 7; the range and 9; of each address the kind, 10, the SSI; 11; the O-bit; 13; and with
-- each element where it begins
pub order_right : list.map (λ (g : Ground). g.0) (reading_order sample (0x24 ∷ 0x5E ∷ 0x80 ∷ 0x01 ∷ 0xF4 ∷ 0xA0 ∷ 0x00 ∷ 0x7D ∷ 0x80 ∷ []) 68)
    ≡ refusal 1 ∷ refusal 3 ∷ short element.ss_type 0 ∷ short element.pdu_type 6 ∷ refusal 5 ∷ refusal 6 ∷ refusal 7 ∷ short element.range 11 ∷ refusal 9
    ∷ short element.kind 15 ∷ refusal 10 ∷ short element.ssi 17 ∷ short element.kind 41 ∷ refusal 10 ∷ short element.ssi 43 ∷ refusal 11
    ∷ short element.o_bit 67 ∷ refusal 13 ∷ []
unfolding bit_at field_at both number vec_read vec_order flag every sum meaning_ok meaning_in air_ok share_ok share_in shares_ok profile_ok sample sample_meanings sample_share kind_c extension_c address_c addresses_in allowed_in nobodies places_c range_ok ends_ok addresses_c range_c group_c no_group one_group span_in span_of area_places_c rises area_list_c areas_c no_areas mask_c masked_c result_c why_not_c if_accepted_c state_c elements element_of widths width_of no_lists blank row_of row_in table parts_c puts each_c options_c put_options first_parts body_c is_known is_carried header_c message_c whole_of length_ok read_bits read_of bits_order reading_order grounds_of
order_right = refl
