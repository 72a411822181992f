-- Worked cases 9, 11 and 12 of document 01, and those of document 02's (i), (iii) and (iv), through the definition of a step, as one checked list.
-- Assumes nothing.
use Prim.Native.Nat.{ℕ, zero, suc, ◌-◌}
use mathlib.Core.Path.{◌≡◌, refl}
use mathlib.Core.Bool.{Bool, true, false}
use mathlib.Core.List as list
use mathlib.Core.List.{List, [], ◌∷◌, ◌++◌}
use lib.ListN.{length, take, replicate}
use Rattle.bits.specs.Fields.{bit_at, field_at}
use Rattle.bits.specs.Puts.{with_digit, binary, set_bit, put_bits, spare}
use Rattle.codec.specs.Stops.{short, refusal}
use Rattle.codec.specs.Codec.{both, number, vec_read}
use Rattle.codec.specs.Options.{flag}
use Rattle.profile.specs.Counting.{every, sum}
use Rattle.profile.specs.Rules.{meaning_ok, meaning_in, air_ok, share_ok, share_in, shares_ok, profile_ok}
use Rattle.profile.specs.Sample.{sample, sample_meanings, sample_share}
use Rattle.message.specs.Elements as element
use Rattle.message.specs.Addresses.{kind_c, extension_c, address_c}
use Rattle.message.specs.Groups.{addresses_in, allowed_in, nobodies, places_c, range_ok, ends_ok, addresses_c, range_c, group_c, no_group, one_group, span_in, span_of}
use Rattle.message.specs.Areas.{area_places_c, rises, area_list_c, areas_c, no_areas}
use Rattle.message.specs.Acks.{mask_c, masked_c, result_c, why_not_c, if_accepted_c, state_c}
use Rattle.message.specs.Numbers.{elements, element_of, widths, width_of}
use Rattle.message.specs.Values.{blank, no_lists}
use Rattle.message.specs.Rows as row
use Rattle.message.specs.Rows.{table, row_in, parts_c, puts, gets, each_c, options_c, put_options, get_options, first_parts}
use Rattle.message.specs.Messages.{body_c, is_known, is_carried, header_c, message_c}
use Rattle.message.specs.Reading.{whole_of, length_ok, read_bits, read_of}
use Rattle.writing.specs.Writing.{bits_of, padded, lay_of}
use Rattle.places.specs.Held.{no_place, place_in, no_places, waits_at, held_of, used_of, free_of, owed_of, owed_all, owed_others, load_of, admits_of}
use Rattle.places.specs.Grounds.{second_ok, call_ok, apart, alone_at, under_ceiling, places_ok}
use Rattle.places.specs.Spots.{lowest_from, has_call, place_of, lowest_free, take_of, clear_of, move_of}
use Rattle.places.specs.declared.Place.{Place}
use Rattle.records.specs.Identities.{identity_of, later, identity_in, identity_at, count_of, each, identities_of}
use Rattle.records.specs.Records.{no_record, row_of, is, record_from, record_of, record_ok, all_ok, records_ok, state_of, restricts, party_of, restricted_of, is_restricted, post_for, second_of}
use Rattle.records.specs.Outcomes.{outcome_of, outcomes_of, has, mask_of, some_of, sorted_of}
use Rattle.records.specs.Marking.{accepted_of, unmarked, nobody_marked, no_marks, with_mark, mark_all, marks_of}
use Rattle.records.specs.declared.Marks.{Marks}
use Rattle.records.specs.declared.Record.{Record}
use Rattle.sending.specs.Sending.{lay_from, lay_all, no_laid, laid_from, laid_of}
use Rattle.sending.specs.Acks.{result_of, reason_of, several_in, ack_v, ack_of, acks_of}
use Rattle.desk.specs.Desks.{desk_ok}
use Rattle.desk.specs.Orders.{names_dispatchers, marking_answer, end_answer, move_answer, accept_answer, decide_answer, sent_answer, message_answer, party_ok, set_up_ok, admit_answer, set_up_answer, reject_answer, cancel_answer, answer_of}
use Rattle.desk.specs.Steps.{ack_for, sets_mark, desk_after, plain_step, plain_area, acks_for, acks_step, acks_area, step_by, area_by, step_of, area_after}
use Rattle.desk.specs.declared.Answer.{Answer}
use Rattle.desk.specs.declared.Answer.TheVariants as answer
use Rattle.desk.specs.declared.Desk.{Desk}
use Rattle.desk.specs.declared.Event.{Event}
use Rattle.desk.specs.declared.Event.TheVariants as event
use Rattle.desk.specs.declared.Stepped.{Stepped}

-- ---- records, desks, areas

-- a user of a post, whose mark is set or not
abbrev pub user : ℕ → ℕ → Bool → Record
user s p m = record { in_use = true; ssi = s; extension = 0; post = p; active = m }

abbrev pub rows : List Record → List Record
rows l = l ++ replicate (128 - length l) no_record

-- as many calls, waiting at a post, with identifiers from k on
abbrev pub calls : ℕ → ℕ → ℕ → List Place
calls zero post k = []
calls (suc n) post k = record { used = true; identifier = k; post = post; more = false; second = 0; cause = 0 } ∷ calls n post (suc k)

abbrev pub desk : List Place → Desk
desk l = record { profile = sample; places = record { place = l ++ replicate (32 - length l) no_place } }

-- the output area holds AA in every byte before the call
abbrev pub untouched : ℕ → List ℕ
untouched n = replicate n 0xAA

-- 1,001 of post 0 and 1,004 of post 1 are restricted, and one of them calls another user, with an identifier that no call has
abbrev pub restricted : List Record
restricted = user 1001 0 true ∷ user 1004 1 true ∷ []

abbrev pub set_up : ℕ → ℕ → Event
set_up caller called = event.SetUp (record { ssi = caller; extension = 0 }) (record { ssi = called; extension = 0 }) 100 0

-- 1,001 calls 1,004, identifier 5, with a cause
abbrev pub set_up_5 : ℕ → Event
set_up_5 cause = event.SetUp (record { ssi = 1001; extension = 0 }) (record { ssi = 1004; extension = 0 }) 5 cause

-- call 5, which waits at a post and has a second, with a cause; the same without a second
abbrev pub then_5 : ℕ → ℕ → ℕ → Place
then_5 post second cause = record { used = true; identifier = 5; post = post; more = true; second = second; cause = cause }

abbrev pub at_5 : ℕ → ℕ → Place
at_5 post cause = record { used = true; identifier = 5; post = post; more = false; second = 0; cause = cause }

-- ACCEPT of call 5; REJECT of it, cause 2
abbrev pub accept_5 : List ℕ
accept_5 = 0x25 ∷ 0x80 ∷ 0x02 ∷ 0x80 ∷ []

abbrev pub reject_5 : List ℕ
reject_5 = 0x26 ∷ 0x20 ∷ 0x02 ∷ 0x88 ∷ []

-- DEACTIVATE of 1,001 to 1,004
abbrev pub deactivate_four : List ℕ
deactivate_four = 0x24 ∷ 0x9E ∷ 0x80 ∷ 0x01 ∷ 0xF4 ∷ 0xA0 ∷ 0x00 ∷ 0x7D ∷ 0x80 ∷ []

-- INTERCEPTED, cause 0; REQUEST of call 100, cause 0, of call 5, causes 0 and 2
abbrev pub intercepted : List ℕ
intercepted = 0x25 ∷ 0x40 ∷ 0x00 ∷ []

abbrev pub request_100 : List ℕ
request_100 = 0x25 ∷ 0x60 ∷ 0x32 ∷ 0x00 ∷ []

abbrev pub request_5 : List ℕ
request_5 = 0x25 ∷ 0x60 ∷ 0x02 ∷ 0x80 ∷ []

abbrev pub request_5_2 : List ℕ
request_5_2 = 0x25 ∷ 0x60 ∷ 0x02 ∷ 0x88 ∷ []

-- of the first records these are marked, and none beyond; and what the mark becomes
abbrev pub marked : Bool → List Bool → Marks
marked to ms = record { at = ms ++ replicate (128 - length ms) false; mark = to }

-- none
abbrev pub none_marked : Marks
none_marked = marked false []

-- ---- the cases

-- a call on a desk with these records and this message, then what it must be answered, the messages' bit lengths, the desk afterwards,
-- the marks of all records, and the output area
pub data Case : Type 0 where
  on : Desk → List Record → List ℕ → Event → Answer → List ℕ → Desk → Marks → List ℕ → Case

abbrev pub Outcome : Type 0
Outcome = Answer × (List ℕ × (Desk × (Marks × List ℕ)))

-- the step of a case, and the area after it
abbrev pub step_for : Case → Stepped
step_for (on d r l e a lengths after marks area) = step_of d (rows r) (length r) l (untouched 300) e

abbrev pub area_for : Case → List ℕ
area_for (on d r l e a lengths after marks area) = area_after d (rows r) (length r) l (untouched 300) e

abbrev pub gives : Case → Outcome
gives c = ((step_for c).answer, (take (step_for c).laid.count (step_for c).laid.lengths, ((step_for c).desk, ((step_for c).marks, area_for c))))

abbrev pub wants : Case → Outcome
wants (on d r l e a lengths after marks area) = (a, (lengths, (after, (marks, area))))

abbrev pub cases : List Case
cases =
    -- 9: case 8 from post 0; 1,001 and 1,002 at post 0, 1,003 without record, 1,004 at post 1
    on (desk []) (user 1001 0 false ∷ user 1002 0 false ∷ user 1004 1 false ∷ [])
    (0x24 ∷ 0x5E ∷ 0x80 ∷ 0x01 ∷ 0xF4 ∷ 0xA0 ∷ 0x00 ∷ 0x7D ∷ 0x80 ∷ []) (event.Message 0 68)
    answer.Acks (73 ∷ 80 ∷ 80 ∷ []) (desk []) (marked true (true ∷ true ∷ []))
    ((0x24 ∷ 0x7E ∷ 0x80 ∷ 0x01 ∷ 0xF4 ∷ 0xA0 ∷ 0x00 ∷ 0x7D ∷ 0x9C ∷ 0x80 ∷ []) ++ untouched 90
    ++ (0x24 ∷ 0x7E ∷ 0x80 ∷ 0x01 ∷ 0xF4 ∷ 0xA0 ∷ 0x00 ∷ 0x7D ∷ 0x92 ∷ 0x01 ∷ []) ++ untouched 90
    ++ (0x24 ∷ 0x7E ∷ 0x80 ∷ 0x01 ∷ 0xF4 ∷ 0xA0 ∷ 0x00 ∷ 0x7D ∷ 0x91 ∷ 0x02 ∷ []) ++ untouched 90)
    -- 11: post 0 holds 28, post 1 none: a call for post 0 gets 18, one for post 1 is admitted
    ∷ on (desk (calls 28 0 0)) restricted [] (set_up 1001 2000) (answer.Refused (refusal 18)) [] (desk (calls 28 0 0)) none_marked (untouched 300)
    ∷ on (desk (calls 28 0 0)) restricted [] (set_up 1004 2000) (answer.Admitted 1 28) (17 ∷ 31 ∷ []) (desk (calls 28 0 0 ++ calls 1 1 100)) none_marked (intercepted ++ untouched 97 ++ request_100 ++ untouched 196)
    -- 12: post 1 holds 8, post 0 none: 18 for post 1, by its ceiling
    ∷ on (desk (calls 8 1 0)) restricted [] (set_up 1004 2000) (answer.Refused (refusal 18)) [] (desk (calls 8 1 0)) none_marked (untouched 300)
    -- document 02, (iii) and (iv): both are restricted, at different posts; post 0's ACCEPT moves the call, with REQUEST, its second gets 20,
    -- post 1's lets it proceed
    ∷ on (desk []) restricted [] (set_up_5 2) (answer.Admitted 0 0) (17 ∷ 31 ∷ []) (desk (then_5 0 1 2 ∷ [])) none_marked (intercepted ++ untouched 97 ++ request_5_2 ++ untouched 196)
    ∷ on (desk (then_5 0 1 2 ∷ [])) [] accept_5 (event.Message 0 25) (answer.Moved 1) (31 ∷ []) (desk (at_5 1 2 ∷ [])) none_marked (request_5_2 ++ untouched 296)
    ∷ on (desk (at_5 1 2 ∷ [])) [] accept_5 (event.Message 0 25) (answer.Refused (refusal 20)) [] (desk (at_5 1 2 ∷ [])) none_marked (untouched 300)
    ∷ on (desk (at_5 1 2 ∷ [])) [] accept_5 (event.Message 1 25) answer.Proceed (11 ∷ []) (desk []) none_marked ((0x25 ∷ 0xA0 ∷ []) ++ untouched 298)
    -- a second post that is the call's own, as only a lent desk has it: its ACCEPT moves
    ∷ on (desk (then_5 1 1 0 ∷ [])) [] accept_5 (event.Message 1 25) (answer.Moved 1) (31 ∷ []) (desk (at_5 1 0 ∷ [])) none_marked (request_5 ++ untouched 296)
    -- 18 at a move, by the second post's ceiling: the call stays, and nothing is written
    ∷ on (desk (then_5 0 1 2 ∷ calls 8 1 100)) [] accept_5 (event.Message 0 25) (answer.Refused (refusal 18)) [] (desk (then_5 0 1 2 ∷ calls 8 1 100)) none_marked (untouched 300)
    -- REJECT with cause 2, and a reject, of a call whose own cause is 7; a cancel names the post
    ∷ on (desk (at_5 1 7 ∷ [])) [] reject_5 (event.Message 1 30) answer.Rejected (17 ∷ []) (desk []) none_marked ((0x26 ∷ 0x42 ∷ 0x00 ∷ []) ++ untouched 297)
    ∷ on (desk (at_5 1 7 ∷ [])) [] [] (event.Reject 1 5) answer.Rejected (17 ∷ []) (desk []) none_marked ((0x26 ∷ 0x40 ∷ 0x00 ∷ []) ++ untouched 297)
    ∷ on (desk (at_5 1 7 ∷ [])) [] [] (event.Cancel 5) (answer.Cancelled 1) (25 ∷ []) (desk []) none_marked ((0x25 ∷ 0xC0 ∷ 0x02 ∷ 0x80 ∷ []) ++ untouched 296)
    -- 8: REQUEST, CANCEL and REJECTED from a post; 16: a cause of 6 bits; 1: a waiting call that has one
    ∷ on (desk []) [] request_5 (event.Message 0 31) (answer.Refused (refusal 8)) [] (desk []) none_marked (untouched 300)
    ∷ on (desk []) [] (0x25 ∷ 0xC0 ∷ 0x02 ∷ 0x80 ∷ []) (event.Message 0 25) (answer.Refused (refusal 8)) [] (desk []) none_marked (untouched 300)
    ∷ on (desk []) [] (0x26 ∷ 0x40 ∷ 0x00 ∷ []) (event.Message 0 17) (answer.Refused (refusal 8)) [] (desk []) none_marked (untouched 300)
    ∷ on (desk []) restricted [] (set_up_5 32) (answer.Refused (refusal 16)) [] (desk []) none_marked (untouched 300)
    ∷ on (desk (at_5 1 32 ∷ [])) [] [] (event.Cancel 5) (answer.Refused (refusal 1)) [] (desk (at_5 1 32 ∷ [])) none_marked (untouched 300)
    -- document 02, (i): DEACTIVATE of case 9's users with its records, of which 1,001 and 1,004 are active and have a call that waits: the
    -- same masks in DEACTIVATE ACKs, the marks of 1,001 and 1,002 become clear, and the calls stay
    ∷ on (desk (then_5 0 1 2 ∷ [])) (user 1001 0 true ∷ user 1002 0 false ∷ user 1004 1 true ∷ []) deactivate_four (event.Message 0 67)
    answer.Acks (73 ∷ 80 ∷ 80 ∷ []) (desk (then_5 0 1 2 ∷ [])) (marked false (true ∷ true ∷ []))
    ((0x24 ∷ 0xBE ∷ 0x80 ∷ 0x01 ∷ 0xF4 ∷ 0xA0 ∷ 0x00 ∷ 0x7D ∷ 0x9C ∷ 0x80 ∷ []) ++ untouched 90
    ++ (0x24 ∷ 0xBE ∷ 0x80 ∷ 0x01 ∷ 0xF4 ∷ 0xA0 ∷ 0x00 ∷ 0x7D ∷ 0x92 ∷ 0x01 ∷ []) ++ untouched 90
    ++ (0x24 ∷ 0xBE ∷ 0x80 ∷ 0x01 ∷ 0xF4 ∷ 0xA0 ∷ 0x00 ∷ 0x7D ∷ 0x91 ∷ 0x02 ∷ []) ++ untouched 90)
    -- from post 1 only 1,004 is accepted; of nobody's records all four have one outcome, so one ACK without a mask
    ∷ on (desk []) (user 1001 0 true ∷ user 1002 0 false ∷ user 1004 1 true ∷ []) deactivate_four (event.Message 1 67)
    answer.Acks (73 ∷ 80 ∷ 80 ∷ []) (desk []) (marked false (false ∷ false ∷ true ∷ []))
    ((0x24 ∷ 0xBE ∷ 0x80 ∷ 0x01 ∷ 0xF4 ∷ 0xA0 ∷ 0x00 ∷ 0x7D ∷ 0x91 ∷ 0x80 ∷ []) ++ untouched 90
    ++ (0x24 ∷ 0xBE ∷ 0x80 ∷ 0x01 ∷ 0xF4 ∷ 0xA0 ∷ 0x00 ∷ 0x7D ∷ 0x92 ∷ 0x01 ∷ []) ++ untouched 90
    ++ (0x24 ∷ 0xBE ∷ 0x80 ∷ 0x01 ∷ 0xF4 ∷ 0xA0 ∷ 0x00 ∷ 0x7D ∷ 0x9C ∷ 0x02 ∷ []) ++ untouched 90)
    ∷ on (desk []) [] deactivate_four (event.Message 0 67) answer.Acks (76 ∷ []) (desk []) (marked false [])
    ((0x24 ∷ 0xBE ∷ 0x80 ∷ 0x01 ∷ 0xF4 ∷ 0xA0 ∷ 0x00 ∷ 0x7D ∷ 0x80 ∷ 0x10 ∷ []) ++ untouched 290)
    -- 13: what would be ACTIVATE's O-bit; 15 where a record is not good; 8: DEACTIVATE ACK from a post
    ∷ on (desk []) [] deactivate_four (event.Message 0 68) (answer.Refused (refusal 13)) [] (desk []) none_marked (untouched 300)
    ∷ on (desk []) (user 1001 2 true ∷ []) deactivate_four (event.Message 0 67) (answer.Refused (refusal 15)) [] (desk []) none_marked (untouched 300)
    ∷ on (desk []) [] (0x24 ∷ 0xBE ∷ 0x80 ∷ 0x01 ∷ 0xF4 ∷ 0xA0 ∷ 0x00 ∷ 0x7D ∷ 0x88 ∷ []) (event.Message 0 69) (answer.Refused (refusal 8)) [] (desk []) none_marked (untouched 300)
    -- document 02, (ii): an ACCEPT one bit short, from the post where its call waits; a DEACTIVATE ACK cut in its mask, before 8
    ∷ on (desk (at_5 0 2 ∷ [])) [] accept_5 (event.Message 0 24) (answer.Refused (short element.identifier 11)) [] (desk (at_5 0 2 ∷ [])) none_marked (untouched 300)
    ∷ on (desk []) [] (0x24 ∷ 0xBE ∷ 0x80 ∷ 0x01 ∷ 0xF4 ∷ 0xA0 ∷ 0x00 ∷ 0x7D ∷ 0x9C ∷ 0x80 ∷ []) (event.Message 0 71) (answer.Refused (short element.mask 68)) [] (desk []) none_marked (untouched 300)
    ∷ []

pub cases_right : list.map gives cases ≡ list.map wants cases
unfolding bit_at field_at with_digit binary set_bit put_bits spare both number vec_read flag every sum meaning_ok meaning_in air_ok share_ok share_in shares_ok profile_ok sample sample_meanings sample_share kind_c extension_c address_c addresses_in allowed_in nobodies places_c range_ok ends_ok addresses_c range_c group_c no_group one_group span_in span_of mask_c masked_c result_c elements element_of widths width_of area_places_c rises area_list_c areas_c no_areas why_not_c if_accepted_c state_c no_lists blank ack_v table row_in row.row_of parts_c puts gets each_c options_c put_options get_options first_parts body_c is_known is_carried header_c message_c whole_of length_ok read_bits read_of bits_of padded lay_of place_in no_places waits_at held_of used_of free_of owed_of owed_all owed_others load_of admits_of second_ok call_ok apart alone_at under_ceiling places_ok lowest_from has_call place_of lowest_free take_of clear_of move_of identity_of later identity_in identity_at count_of each identities_of row_of is record_from record_of record_ok all_ok records_ok state_of restricts party_of restricted_of is_restricted post_for second_of outcome_of outcomes_of has mask_of some_of sorted_of accepted_of unmarked nobody_marked no_marks with_mark mark_all marks_of lay_from lay_all no_laid laid_from laid_of result_of reason_of several_in ack_of acks_of desk_ok names_dispatchers marking_answer end_answer move_answer accept_answer decide_answer sent_answer message_answer party_ok set_up_ok admit_answer set_up_answer reject_answer cancel_answer answer_of ack_for sets_mark desk_after plain_step plain_area acks_for acks_step acks_area step_by area_by step_of area_after
cases_right = refl
