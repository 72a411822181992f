-- Values that are valid and values that are not, one for each rule of document 01 and for document 02's messages, as one checked list.
-- Assumes nothing.
use Prim.Native.Nat.{ℕ}
use mathlib.Core.Path.{◌≡◌, refl}
use mathlib.Core.Bool.{Bool, true, false}
use mathlib.Core.List as list
use mathlib.Core.List.{List, [], ◌∷◌}
use lib.ListN.{set, replicate}
use lib.Seq.{sets}
use Rattle.codec.specs.Codec.{both, number}
use Rattle.codec.specs.Options.{flag}
use Rattle.profile.specs.Rules.{meaning_in}
use Rattle.profile.specs.Sample.{sample, sample_meanings}
use Rattle.profile.specs.declared.Kind.TheVariants as kind
use Rattle.profile.specs.declared.Air.{Air}
use Rattle.message.specs.Addresses.{nobody, is_nobody, kind_c, extension_c, address_c}
use Rattle.message.specs.Groups.{addresses_in, allowed_in, nobodies, are_none, places_c, range_ok, ends_ok, addresses_c, range_c, group_c, no_group, one_group, span_in, span_of}
use Rattle.message.specs.Areas.{area_places_c, rises, area_list_c, areas_c, no_areas}
use Rattle.message.specs.Acks.{mask_c, masked_c, result_c, why_not_c, if_accepted_c, state_c}
use Rattle.message.specs.Numbers as place
use Rattle.message.specs.Numbers.{widths, width_of}
use Rattle.message.specs.Values.{blank, with_number, with_users, with_mask, with_dispatchers, with_given, same_bools, same_numbers, same_address, same_addresses, same_group, same_value, no_lists, same_areas, same_lists, with_sources, with_destinations, with_areas}
use Rattle.message.specs.Rows.{table, row_in, row_of, parts_c, puts, gets, each_c, options_c, put_options, get_options, first_parts}
use Rattle.message.specs.Messages.{body_c, is_known, is_carried, header_c, message_c}
use Rattle.message.proofs.Cases.{request, and, all, told, accepted, not_accepted, covers, all_four}
use Rattle.message.specs.declared.Address.{Address}
use Rattle.message.specs.declared.Group.{Group}
use Rattle.message.specs.declared.Value.{Value}
use Rattle.validity.specs.Validity.{valid_of}

-- under the sample profile
pub data Case : Type 0 where
  good : Value → Case
  bad : Value → Case

abbrev pub gives : Case → Bool
gives (good v) = valid_of sample.air v
gives (bad v) = valid_of sample.air v

abbrev pub wants : Case → Bool
wants (good v) = true
wants (bad v) = false

-- ---- addresses and groups

-- kind 1
abbrev pub home : ℕ → Address
home s = record { kind = 1; ssi = s; extension = 0 }

-- kind 2
abbrev pub abroad : ℕ → ℕ → Address
abroad s e = record { kind = 2; ssi = s; extension = e }

-- a range number with no address, with one, with two
abbrev pub none : ℕ → Group
none r = record { range = r; addresses = nobodies }

abbrev pub one : ℕ → Address → Group
one r a = record { range = r; addresses = set nobodies 0 a }

abbrev pub two : ℕ → Address → Address → Group
two r a b = record { range = r; addresses = set (set nobodies 0 a) 1 b }

-- worked case 8's four identities, 1,001 to 1,004
abbrev pub four : Group
four = two 15 (home 1001) (home 1004)

-- a list of one, and an address in the last of the fifteen places
abbrev pub last : Group
last = record { range = 1; addresses = set (set nobodies 0 (home 1001)) 14 (home 1) }

-- ---- values

abbrev pub activate_v : Group → Bool → Group → Value
activate_v u o d = with_given 0 o (with_dispatchers d (with_users u (blank 2)))

-- an ACK of this type; an ACTIVATE ACK
abbrev pub ack_of : ℕ → Group → Bool → ℕ → ℕ → ℕ → Value
ack_of t u k m r w = with_number place.reason w (with_number place.result r (with_mask k m (with_users u (blank t))))

abbrev pub ack_v : Group → Bool → ℕ → ℕ → ℕ → Value
ack_v u k m r w = ack_of 3 u k m r w

abbrev pub plain_v : ℕ → Address → ℕ → ℕ → Bool → Address → Value
plain_v t a c i o d = with_given 0 o (with_dispatchers (one_group d) (with_number place.identifier i (with_number place.cause c (with_users (one_group a) (blank t)))))

-- users alone in an ACTIVATE; a user in an INTERROGATE; a dispatcher in an INTERCEPTED; an identifier in an ACCEPT
abbrev pub activate : Group → Value
activate u = activate_v u false no_group

abbrev pub interrogate : Address → Value
interrogate a = plain_v 8 a 0 0 false nobody

abbrev pub intercepted : ℕ → Bool → Address → Value
intercepted c o a = plain_v 10 nobody c 0 o a

abbrev pub call : ℕ → ℕ → Value
call t i = plain_v t nobody 0 i false nobody

-- users in a DEACTIVATE
abbrev pub deactivate : Group → Value
deactivate u = with_users u (blank 4)

-- a value by all its fields
abbrev pub value : ℕ → Group → Bool → ℕ → ℕ → ℕ → ℕ → ℕ → Bool → Group → Value
value t u k m r w c i o d =
    with_given 0 o (with_dispatchers d (with_number place.identifier i (with_number place.cause c
    (with_number place.reason w (with_number place.result r (with_mask k m (with_users u (blank t))))))))

abbrev pub cases : List Case
cases =
    -- worked cases 1 to 8
    good (call 13 0)
    ∷ good (call 12 5)
    ∷ good (call 15 16383)
    ∷ good (intercepted 0 false nobody)
    ∷ good (plain_v 16 nobody 0 0 false nobody)
    ∷ good (intercepted 2 true (home 1))
    ∷ good (interrogate (home 1001))
    ∷ good (activate four)
    -- PDU types 0, 6, and 2 with a bit too many
    ∷ bad (call 0 0)
    ∷ bad (call 6 0)
    ∷ bad (value 34 four false 0 0 0 0 0 false no_group)
    -- kinds 2, 3 and 0; an SSI and an extension of 24 bits, and of more; an extension with kind 1
    ∷ good (interrogate (abroad 0xFF_FFFF 0xFF_FFFF))
    ∷ bad (interrogate (record { kind = 3; ssi = 1001; extension = 0 }))
    ∷ bad (interrogate (record { kind = 0; ssi = 1001; extension = 0 }))
    ∷ bad (interrogate (home 0x100_0000))
    ∷ bad (interrogate (abroad 1001 0x100_0000))
    ∷ bad (interrogate (record { kind = 1; ssi = 1001; extension = 5 }))
    -- a list; an address too few, one too many, one in the last place
    ∷ good (activate (two 2 (home 1001) (abroad 7 5)))
    ∷ bad (activate (one 2 (home 1001)))
    ∷ bad (activate (two 1 (home 1001) (home 1002)))
    ∷ bad (activate last)
    -- for users a reserved range, "none", a range number of 5 bits
    ∷ bad (activate (none 4))
    ∷ bad (activate (none 0))
    ∷ bad (activate (one 17 (home 1001)))
    -- a range of one identity, of 64, of 65; one that falls; ends of two kinds and of two extensions
    ∷ good (activate (two 15 (home 1001) (home 1001)))
    ∷ good (activate (two 15 (abroad 1 5) (abroad 64 5)))
    ∷ bad (activate (two 15 (home 1) (home 65)))
    ∷ bad (activate (two 15 (home 1004) (home 1001)))
    ∷ bad (activate (two 15 (home 1001) (abroad 1004 0)))
    ∷ bad (activate (two 15 (abroad 1001 1) (abroad 1004 2)))
    -- ACTIVATE's option: a list, "none", a reserved range; no option and an address or a range number
    ∷ good (activate_v four true (one 1 (home 1)))
    ∷ good (activate_v four true (none 0))
    ∷ bad (activate_v four true (none 4))
    ∷ bad (activate_v four false (one 0 (home 1)))
    ∷ bad (activate_v four false (none 1))
    -- what an ACTIVATE doesn't carry: mask, result, reason, cause, identifier
    ∷ bad (value 2 four true 0 0 0 0 0 false no_group)
    ∷ bad (value 2 four false 1 0 0 0 0 false no_group)
    ∷ bad (value 2 four false 0 1 0 0 0 false no_group)
    ∷ bad (value 2 four false 0 0 1 0 0 false no_group)
    ∷ bad (value 2 four false 0 0 0 1 0 false no_group)
    ∷ bad (value 2 four false 0 0 0 0 1 false no_group)
    -- nor a second option, nor REQUEST's network
    ∷ bad (with_given 1 true (activate four))
    ∷ bad (with_number place.mni 1 (activate four))
    -- ACK: accepted, with masks 1100, 1111 and 0000 and with none; not accepted, with mask 0010 and with none
    ∷ good (ack_v four true 0xC000_0000_0000_0000 1 0)
    ∷ good (ack_v four true 0xF000_0000_0000_0000 1 0)
    ∷ good (ack_v four true 0 1 0)
    ∷ good (ack_v four false 0 1 0)
    ∷ good (ack_v four true 0x2000_0000_0000_0000 0 1)
    ∷ good (ack_v four false 0 0 127)
    -- a mask of 64 bits; a bit beyond the fourth identity, at the other end; a mask where none is present
    ∷ good (ack_v (two 15 (home 1) (home 64)) true 0xFFFF_FFFF_FFFF_FFFF 1 0)
    ∷ bad (ack_v four true 0xC800_0000_0000_0000 1 0)
    ∷ bad (ack_v four true 0xC000_0000_0000_0001 1 0)
    ∷ bad (ack_v four false 0xC000_0000_0000_0000 1 0)
    -- result 2; reason 128; a reason with result 1
    ∷ bad (ack_v four false 0 2 0)
    ∷ bad (ack_v four false 0 0 128)
    ∷ bad (ack_v four false 0 1 1)
    -- what an ACK doesn't carry: cause, identifier, option, dispatchers; "none" is no good for its users either
    ∷ bad (value 3 four false 0 1 0 1 0 false no_group)
    ∷ bad (value 3 four false 0 1 0 0 1 false no_group)
    ∷ bad (value 3 four false 0 1 0 0 0 true no_group)
    ∷ bad (value 3 four false 0 1 0 0 0 false (one 0 (home 1)))
    ∷ bad (ack_v (none 0) false 0 1 0)
    -- INTERROGATE: a range number, a second address, a cause, an identifier, an option, a dispatcher
    ∷ bad (value 8 (one 1 (home 1001)) false 0 0 0 0 0 false no_group)
    ∷ bad (value 8 (two 0 (home 1001) (home 1002)) false 0 0 0 0 0 false no_group)
    ∷ bad (value 8 (one 0 (home 1001)) false 0 0 0 1 0 false no_group)
    ∷ bad (value 8 (one 0 (home 1001)) false 0 0 0 0 1 false no_group)
    ∷ bad (value 8 (one 0 (home 1001)) false 0 0 0 0 0 true no_group)
    ∷ bad (value 8 (one 0 (home 1001)) false 0 0 0 0 0 false (one 0 (home 1)))
    -- INTERCEPTED: causes 31 and 32; an option without an address, an address without an option; a range number; a user
    ∷ good (intercepted 31 true (abroad 1 5))
    ∷ bad (intercepted 32 false nobody)
    ∷ bad (intercepted 0 true nobody)
    ∷ bad (intercepted 0 false (home 1))
    ∷ bad (value 10 no_group false 0 0 0 0 0 true (one 1 (home 1)))
    ∷ bad (value 10 (one 0 (home 1001)) false 0 0 0 0 0 false no_group)
    -- ACCEPT: an identifier of 15 bits, a cause, an option, a user, a dispatcher
    ∷ bad (call 12 16384)
    ∷ bad (value 12 no_group false 0 0 0 1 5 false no_group)
    ∷ bad (value 12 no_group false 0 0 0 0 5 true no_group)
    ∷ bad (value 12 (one 0 (home 1001)) false 0 0 0 0 5 false no_group)
    ∷ bad (value 12 no_group false 0 0 0 0 5 false (one 0 (home 1)))
    -- ACCEPTED with an identifier; DIVERTED with a mask, a result, a reason
    ∷ bad (call 13 1)
    ∷ bad (value 16 no_group true 0 0 0 0 0 false no_group)
    ∷ bad (value 16 no_group false 0 1 0 0 0 false no_group)
    ∷ bad (value 16 no_group false 0 0 1 0 0 false no_group)
    -- REQUEST: without an option, with all seven, with the last alone
    ∷ good (request 2)
    ∷ good (all (home 1001))
    ∷ good (and 6 place.called_service 3 (request 0))
    -- causes 31 and 32, an identifier of 15 bits
    ∷ good (request 31)
    ∷ bad (request 32)
    ∷ bad (with_number place.identifier 16384 (request 0))
    -- an MNI of 24 bits, of 25, and one that is not said to be there; areas 15 and 16; basic services 3 and 4
    ∷ good (and 2 place.mni 0xFF_FFFF (request 0))
    ∷ bad (and 2 place.mni 0x100_0000 (request 0))
    ∷ bad (with_number place.mni 5 (request 0))
    ∷ good (and 3 place.calling_area 15 (request 0))
    ∷ bad (and 3 place.calling_area 16 (request 0))
    ∷ bad (and 4 place.called_area 16 (request 0))
    ∷ bad (and 5 place.calling_service 4 (request 0))
    ∷ bad (and 6 place.called_service 4 (request 0))
    -- a calling that is said to be there and is not, a called that is not said to be; a range number; a dispatcher
    ∷ bad (with_given 0 true (request 0))
    ∷ bad (with_users (two 0 nobody (home 1004)) (request 0))
    ∷ bad (with_users (none 1) (request 0))
    ∷ bad (with_dispatchers (one 0 (home 1)) (request 0))
    -- CANCEL, with a cause, with an option
    ∷ good (call 14 5)
    ∷ bad (plain_v 14 nobody 1 5 false nobody)
    ∷ bad (plain_v 14 nobody 0 5 true nobody)
    -- REJECT, with a cause of 6 bits, with an option
    ∷ good (plain_v 17 nobody 2 5 false nobody)
    ∷ bad (plain_v 17 nobody 32 5 false nobody)
    ∷ bad (plain_v 17 nobody 2 5 true nobody)
    -- REJECTED, without and with a dispatcher, with a cause of 6 bits, with an identifier
    ∷ good (plain_v 18 nobody 2 0 false nobody)
    ∷ good (plain_v 18 nobody 2 0 true (home 1001))
    ∷ bad (plain_v 18 nobody 32 0 false nobody)
    ∷ bad (plain_v 18 nobody 0 5 false nobody)
    -- DEACTIVATE: of a range, of a list; of nobody, of a range that falls, with an address beyond the count
    ∷ good (deactivate four)
    ∷ good (deactivate (two 2 (home 1001) (abroad 7 5)))
    ∷ bad (deactivate (none 0))
    ∷ bad (deactivate (two 15 (home 1004) (home 1001)))
    ∷ bad (deactivate (two 1 (home 1001) (home 1002)))
    -- what it doesn't carry: an option, "none" as one, dispatchers, a mask, a result, a reason, a cause, an identifier
    ∷ bad (value 4 four false 0 0 0 0 0 true (one 1 (home 1)))
    ∷ bad (value 4 four false 0 0 0 0 0 true (none 0))
    ∷ bad (value 4 four false 0 0 0 0 0 false (one 1 (home 1)))
    ∷ bad (value 4 four true 0xC000_0000_0000_0000 0 0 0 0 false no_group)
    ∷ bad (value 4 four false 0 1 0 0 0 false no_group)
    ∷ bad (value 4 four false 0 0 1 0 0 false no_group)
    ∷ bad (value 4 four false 0 0 0 1 0 false no_group)
    ∷ bad (value 4 four false 0 0 0 0 1 false no_group)
    -- INTERROGATE ACK: accepted, active and not, each element at its most; not accepted
    ∷ good (told (accepted 1 0 0 0))
    ∷ good (told (accepted 0 0 0 0))
    ∷ good (told (accepted 1 1 3 3))
    ∷ good (told (not_accepted 7))
    -- a result of 2; a reason of 4 bits, or with result 1; elements too wide, or with result 0
    ∷ bad (told (record { result = 2; reason = 0; activation = 0; interception = 0; called = 0; calling = 0 }))
    ∷ bad (told (not_accepted 8))
    ∷ bad (told (record { result = 1; reason = 1; activation = 1; interception = 0; called = 0; calling = 0 }))
    ∷ bad (told (accepted 2 0 0 0))
    ∷ bad (told (accepted 0 2 0 0))
    ∷ bad (told (accepted 0 0 4 0))
    ∷ bad (told (accepted 0 0 0 4))
    ∷ bad (told (record { result = 0; reason = 1; activation = 1; interception = 0; called = 0; calling = 0 }))
    ∷ bad (told (record { result = 0; reason = 1; activation = 0; interception = 0; called = 0; calling = 1 }))
    -- its groups: all four; each "none"; areas 0 to 15, that fall, of 5 bits, past their count, without the option; a destination of kind 3
    ∷ good all_four
    ∷ good (with_given 3 true (with_given 2 true (with_given 1 true (with_given 0 true (told (accepted 0 0 0 0))))))
    ∷ good (covers 15 (0 ∷ 15 ∷ []))
    ∷ good (covers 3 (15 ∷ 1 ∷ 0 ∷ []))
    ∷ bad (covers 15 (5 ∷ 3 ∷ []))
    ∷ bad (covers 15 (0 ∷ 16 ∷ []))
    ∷ bad (covers 1 (1 ∷ 1 ∷ []))
    ∷ bad (covers 4 [])
    ∷ bad (with_areas (record { range = 0; areas = sets (replicate 15 0) 0 (1 ∷ []) }) (told (not_accepted 1)))
    ∷ bad (with_sources (one 1 (home 1001)) (told (not_accepted 1)))
    ∷ bad (with_given 2 true (with_destinations (one 1 (record { kind = 3; ssi = 1001; extension = 0 })) (told (not_accepted 1))))
    ∷ good (with_given 2 true (with_destinations (one 1 (abroad 1001 5)) (told (not_accepted 1))))
    -- an ACTIVATE with sources; a fifth option; a type of restriction
    ∷ bad (with_sources (one 1 (home 1001)) (activate four))
    ∷ bad (with_given 4 true (told (not_accepted 1)))
    ∷ bad (with_number 11 1 (told (not_accepted 1)))
    -- its ACK: accepted, not accepted; a bit beyond the fourth identity, a mask where none is present, a reason with result 1, an option
    ∷ good (ack_of 5 four true 0xC000_0000_0000_0000 1 0)
    ∷ good (ack_of 5 four false 0 0 127)
    ∷ bad (ack_of 5 four true 0xC800_0000_0000_0000 1 0)
    ∷ bad (ack_of 5 four false 0xC000_0000_0000_0000 1 0)
    ∷ bad (ack_of 5 four false 0 1 1)
    ∷ bad (value 5 four false 0 1 0 0 0 true no_group)
    ∷ []

pub cases_right : list.map gives cases ≡ list.map wants cases
unfolding both number flag meaning_in sample sample_meanings is_nobody kind_c extension_c address_c addresses_in allowed_in nobodies are_none places_c range_ok ends_ok addresses_c range_c group_c no_group one_group span_in span_of mask_c masked_c result_c area_places_c rises area_list_c areas_c no_areas why_not_c if_accepted_c state_c no_lists blank same_bools same_numbers same_address same_addresses same_group same_areas same_lists same_value row_of row_in table widths width_of parts_c puts gets each_c options_c put_options get_options first_parts body_c is_known is_carried header_c message_c valid_of
cases_right = refl

-- ---- profiles that break a rule: a list of 200, an SS type of 7 bits

abbrev pub wide : ℕ → Air
wide ss =
    record { ss = ss; home = 0; meanings = record { kind = kind.Listed; count = 200 } ∷ record { kind = kind.Listed; count = 1 } ∷ []; unknown = 1; other = 2; unrecorded = 1; elsewhere = 2 }

pub wide_right : valid_of (wide 9) (activate (one 0 (home 1001))) ∷ valid_of (wide 9) (activate (one 1 (home 1001))) ∷ valid_of (wide 64) (activate (one 1 (home 1001))) ∷ []
    ≡ false ∷ true ∷ false ∷ []
unfolding both number flag meaning_in is_nobody kind_c extension_c address_c addresses_in allowed_in nobodies are_none places_c range_ok ends_ok addresses_c range_c group_c no_group area_places_c rises area_list_c areas_c no_areas why_not_c if_accepted_c state_c no_lists blank same_bools same_numbers same_address same_addresses same_group same_areas same_lists same_value row_of row_in table widths width_of parts_c puts gets each_c options_c put_options get_options first_parts body_c is_known is_carried header_c message_c valid_of
wide_right = refl
