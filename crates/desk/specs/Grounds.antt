-- Each call's order, as document 01 lists it: its refusals, first to last, each with whether its ground holds. A number comes exactly
-- when its ground holds and no earlier one of that call's order does (proofs/Exactly). Reading's own stand along the bits (`reading_order`).
use Rattle.std.specs.Prelude.{ℕ, Bool, false, not, cond, ◌||◌, List, [], ◌∷◌, ◌++◌, eqb, ltb, take}
use Rattle.codec.specs.Stops.{refusal}
use Rattle.codec.specs.Codec.{Ground, both, none_of, afterwards}
use Rattle.message.specs.Values.{identifier_in}
use Rattle.message.specs.Reading.{read_of, reading_order}
use Rattle.message.specs.declared.Value.{Value}
use Rattle.places.specs.Held.{place_in, admits_of}
use Rattle.places.specs.Spots.{place_of, clear_of}
use Rattle.records.specs.Records.{records_ok, restricted_of, is_restricted}
use Rattle.records.specs.declared.Identity.{Identity}
use Rattle.records.specs.declared.Party.{Party}
use Rattle.records.specs.declared.Record.{Record}
use Rattle.desk.specs.Desks.{desk_ok}
use Rattle.desk.specs.Orders.{posts_of, places_of, names_dispatchers, has_one, identifier_ok, set_up_ok}
use Rattle.desk.specs.declared.Desk.{Desk}
use Rattle.desk.specs.declared.Event.{Event}
use Rattle.desk.specs.declared.Event.TheVariants as event

-- ---- the grounds, row by row of document 01's table

-- post number not below the number of posts
abbrev pub no_such_post : Desk → ℕ → Ground
no_such_post d post = (refusal 2, not (ltb post (posts_of d)))

-- a type that posts don't send: 3, 10, 13, 16; of document 02, (i) 5, (iv) 11, 14, 18, (viii) 9
abbrev pub not_sent : Value → Ground
not_sent v =
    (refusal 8, eqb v.pdu 3 || (eqb v.pdu 5 || (eqb v.pdu 9 || (eqb v.pdu 10 || (eqb v.pdu 11 || (eqb v.pdu 13 || (eqb v.pdu 14 || (eqb v.pdu 16 || eqb v.pdu 18))))))))

-- output shorter than 300 bytes
abbrev pub short_area : ℕ → Ground
short_area room = (refusal 14, ltb room 300)

-- over 128 records, or one in use with a post not below the number of posts, or an SSI or extension over 24 bits
abbrev pub bad_records : Desk → List Record → ℕ → Ground
bad_records d rows n = (refusal 15, not (records_ok rows n (posts_of d)))

-- no range value of the profile means a list of one
abbrev pub no_list_of_one : Desk → Ground
no_list_of_one d = (refusal 26, not (has_one d.profile.air))

-- identifier over 14 bits
abbrev pub wide_identifier : ℕ → Ground
wide_identifier identifier = (refusal 16, not (identifier_ok identifier))

-- the same, or an interception cause over 5, or a party's SSI or extension over 24
abbrev pub wide_call : Identity → Identity → ℕ → ℕ → Ground
wide_call caller called identifier cause = (refusal 16, not (set_up_ok caller called identifier cause))

-- the call waits; a call that waits does so at this post
abbrev pub waits : Desk → ℕ → Bool
waits d identifier = (place_of (places_of d) identifier).found

abbrev pub waits_here : Desk → ℕ → ℕ → Bool
waits_here d post identifier = eqb (place_in (places_of d) (place_of (places_of d) identifier).place).post post

-- identifier waiting already
abbrev pub waits_already : Desk → ℕ → Ground
waits_already d identifier = (refusal 17, waits d identifier)

-- the party that a call being set up is for
abbrev pub party_for : List Record → ℕ → Identity → Identity → Party
party_for rows n caller called = restricted_of (take n rows) (caller ∷ called ∷ [])

-- the places rule says no, for a call that is not free
abbrev pub no_place_for : Desk → Party → List Ground
no_place_for d party = cond party.found ((refusal 18, not (admits_of d.profile.shares (places_of d) party.post)) ∷ []) []

-- identifier not waiting
abbrev pub not_waiting : Desk → ℕ → Ground
not_waiting d identifier = (refusal 19, not (waits d identifier))

-- waiting at another post
abbrev pub waits_elsewhere : Desk → ℕ → ℕ → Ground
waits_elsewhere d post identifier = (refusal 20, not (waits_here d post identifier))

-- the places rule says no for the second post of a call that has one, its own place taken as free
abbrev pub no_place_there : Desk → ℕ → List Ground
no_place_there d place =
    cond (place_in (places_of d) place).more
    ((refusal 18, not (admits_of d.profile.shares (clear_of (places_of d) place) (place_in (places_of d) place).second)) ∷ []) []

-- dispatcher addresses given
abbrev pub dispatchers_given : Desk → Value → Ground
dispatchers_given d v = (refusal 21, names_dispatchers d.profile.air v)

-- ---- the orders, call by call

-- after the type: ACTIVATE 14, 15, 21; DEACTIVATE 14, 15; INTERROGATE 14, 15, 26; ACCEPT 14, 19, 20, and 18 for a move; DIVERT and REJECT 14,
-- 19, 20
abbrev pub type_order : Desk → List Record → ℕ → ℕ → ℕ → Value → List Ground
type_order d rows n room post v =
    cond (eqb v.pdu 2) (short_area room ∷ bad_records d rows n ∷ dispatchers_given d v ∷ [])
    (cond (eqb v.pdu 4) (short_area room ∷ bad_records d rows n ∷ [])
    (cond (eqb v.pdu 8) (short_area room ∷ bad_records d rows n ∷ no_list_of_one d ∷ [])
    (cond (eqb v.pdu 12)
    (short_area room ∷ not_waiting d (identifier_in v) ∷ waits_elsewhere d post (identifier_in v) ∷ no_place_there d (place_of (places_of d) (identifier_in v)).place)
    (cond (eqb v.pdu 15) (short_area room ∷ not_waiting d (identifier_in v) ∷ waits_elsewhere d post (identifier_in v) ∷ [])
    (cond (eqb v.pdu 17) (short_area room ∷ not_waiting d (identifier_in v) ∷ waits_elsewhere d post (identifier_in v) ∷ []) [])))))

-- a post's message: 2, reading, 8, then by its type
unfoldable pub message_order : Desk → List Record → ℕ → List ℕ → ℕ → ℕ → ℕ → List Ground
message_order d rows n l room post bits =
    no_such_post d post
    ∷ (reading_order d.profile l bits ++ afterwards (read_of d.profile l bits) (λ v p. not_sent v ∷ type_order d rows n room post v))

-- set-up: 16, 14, 15, 17, "free", 18
unfoldable pub set_up_order : Desk → List Record → ℕ → ℕ → Identity → Identity → ℕ → ℕ → List Ground
set_up_order d rows n room caller called identifier cause =
    wide_call caller called identifier cause ∷ short_area room ∷ bad_records d rows n ∷ waits_already d identifier
    ∷ no_place_for d (party_for rows n caller called)

-- reject: 2, 16, 14, 19, 20
unfoldable pub reject_order : Desk → ℕ → ℕ → ℕ → List Ground
reject_order d room post identifier =
    no_such_post d post ∷ wide_identifier identifier ∷ short_area room ∷ not_waiting d identifier ∷ waits_elsewhere d post identifier ∷ []

-- cancel: 16, 14, 19
unfoldable pub cancel_order : Desk → ℕ → ℕ → List Ground
cancel_order d room identifier = wide_identifier identifier ∷ short_area room ∷ not_waiting d identifier ∷ []

abbrev pub event_order : Desk → List Record → ℕ → List ℕ → ℕ → Event → List Ground
event_order d rows n l room (event.Message post bits) = message_order d rows n l room post bits
event_order d rows n l room (event.SetUp caller called identifier cause) = set_up_order d rows n room caller called identifier cause
event_order d rows n l room (event.Reject post identifier) = reject_order d room post identifier
event_order d rows n l room (event.Cancel identifier) = cancel_order d room identifier

-- every call: 1 before all else
unfoldable pub order_of : Desk → List Record → ℕ → List ℕ → ℕ → Event → List Ground
order_of d rows n l room e = (refusal 1, not (desk_ok d)) ∷ event_order d rows n l room e

-- ---- call set-up, before the places rule

abbrev pub set_up_grounds : Desk → List Record → ℕ → ℕ → Identity → Identity → ℕ → ℕ → List Ground
set_up_grounds d rows n room caller called identifier cause =
    (refusal 1, not (desk_ok d)) ∷ wide_call caller called identifier cause ∷ short_area room ∷ bad_records d rows n ∷ waits_already d identifier ∷ []

-- a well-formed new call: 1, 16, 14, 15 and 17 do not come
unfoldable pub is_new : Desk → List Record → ℕ → ℕ → Identity → Identity → ℕ → ℕ → Bool
is_new d rows n room caller called identifier cause = none_of (set_up_grounds d rows n room caller called identifier cause)

-- it is free if neither party is restricted
abbrev pub is_free_call : Desk → List Record → ℕ → ℕ → Event → Bool
is_free_call d rows n room (event.SetUp caller called identifier cause) =
    both (is_new d rows n room caller called identifier cause) (both (not (is_restricted (take n rows) caller)) (not (is_restricted (take n rows) called)))
is_free_call d rows n room (event.Message post bits) = false
is_free_call d rows n room (event.Reject post identifier) = false
is_free_call d rows n room (event.Cancel identifier) = false
