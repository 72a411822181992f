-- What each call does, once it is answered: the answer decides it. A refusal does nothing.
use Rattle.std.specs.Prelude.{ℕ, Bool, true, false, cond, List, [], ◌∷◌, eqb, take, length, Result, Ok, Err}
use Rattle.codec.specs.Codec.{Read, got, no}
use Rattle.codec.specs.Stops.{refusal}
use Rattle.codec.specs.declared.Stop.{Stop}
use Rattle.profile.specs.declared.Profile.{Profile}
use Rattle.message.specs.Addresses.{nobody}
use Rattle.message.specs.Groups.{first_of}
use Rattle.message.specs.Numbers as place
use Rattle.message.specs.Values.{no_value, identifier_in, number_at}
use Rattle.message.specs.Reading.{read_of}
use Rattle.message.specs.declared.Address.{Address}
use Rattle.message.specs.declared.Value.{Value}
use Rattle.places.specs.Held.{place_in, admits_of}
use Rattle.places.specs.Spots.{place_of, lowest_free, take_of, clear_of, moved_on, move_of}
use Rattle.places.specs.declared.Call.{Call}
use Rattle.places.specs.declared.Place.{Place}
use Rattle.records.specs.Identities.{identities_of}
use Rattle.records.specs.Outcomes.{outcomes_of, sorted_of}
use Rattle.records.specs.Marking.{marks_of, no_marks}
use Rattle.records.specs.Records.{no_party, second_of}
use Rattle.records.specs.declared.Party.{Party}
use Rattle.records.specs.declared.Record.{Record}
use Rattle.sending.specs.Sending.{lay_all, no_laid, laid_of}
use Rattle.sending.specs.declared.Laid.{Laid}
use Rattle.sending.specs.Acks.{acks_of}
use Rattle.desk.specs.Notices.{intercepted, accepted, diverted, request_of, rejected_with, cancel_of, state_ack}
use Rattle.desk.specs.Orders.{places_of, answer_of}
use Rattle.desk.specs.declared.Answer.{Answer}
use Rattle.desk.specs.declared.Answer.TheVariants as answer
use Rattle.desk.specs.declared.Desk.{Desk}
use Rattle.desk.specs.declared.Event.{Event}
use Rattle.desk.specs.declared.Event.TheVariants as event
use Rattle.desk.specs.declared.marking.Asked.{Asked}
use Rattle.desk.specs.declared.Stepped.{Stepped}

-- ---- the desk afterwards

-- what a call does to the waiting calls
pub data Effect : Type 0 where
  nothing : Effect
  begins : Call → Effect  -- this call waits from now on
  moves : ℕ → Effect  -- the call with this identifier waits at its second post from now on
  ends : ℕ → Effect  -- the call with this identifier waits no more

-- the message that was read
abbrev pub value_by : Read Value → Value
value_by (got v n) = v
value_by (no s) = no_value

-- a request to change marks: ACTIVATE is answered by ACTIVATE ACKs and sets the mark, DEACTIVATE by DEACTIVATE ACKs and clears it
unfoldable pub ack_for : ℕ → ℕ
ack_for t = cond (eqb t 2) 3 5

unfoldable pub sets_mark : ℕ → Bool
sets_mark t = eqb t 2

-- what such a message asks: of these users, answered by ACKs of this type, that the mark of the accepted ones becomes this
abbrev pub asked_in : Value → Asked
asked_in v = record { users = v.users; ack = ack_for v.pdu; mark = sets_mark v.pdu }

-- what an event asks
abbrev pub asked_of : Profile → List ℕ → Event → Asked
asked_of p l (event.Message post bits) = asked_in (value_by (read_of p l bits))
asked_of p l (event.SetUp caller called identifier cause) = asked_in no_value
asked_of p l (event.Reject post identifier) = asked_in no_value
asked_of p l (event.Cancel identifier) = asked_in no_value

-- the call that an event speaks of
abbrev pub identifier_of : Profile → List ℕ → Event → ℕ
identifier_of p l (event.Message post bits) = identifier_in (value_by (read_of p l bits))
identifier_of p l (event.SetUp caller called identifier cause) = identifier
identifier_of p l (event.Reject post identifier) = identifier
identifier_of p l (event.Cancel identifier) = identifier

-- what an event says: of a call its identifier, of one being set up the post that is asked second and the interception cause, of a REJECT
-- the rejection cause; of an INTERROGATE the user that it asks for
pub record Spoken : Type 0 where
  pub identifier : ℕ
  pub second : Party
  pub cause : ℕ
  pub user : Address

abbrev pub spoken_by : ℕ → ℕ → Address → Spoken
spoken_by identifier cause user = record { identifier = identifier; second = no_party; cause = cause; user = user }

abbrev pub named : ℕ → Spoken
named identifier = spoken_by identifier 0 nobody

-- what a message says
abbrev pub said_in : Value → Spoken
said_in v = spoken_by (identifier_in v) (number_at place.cause v) (first_of v.users)

abbrev pub second_for : List Record → Event → Party
second_for rows (event.Message post bits) = no_party
second_for rows (event.SetUp caller called identifier cause) = second_of rows caller called
second_for rows (event.Reject post identifier) = no_party
second_for rows (event.Cancel identifier) = no_party

abbrev pub cause_for : Profile → List ℕ → Event → ℕ
cause_for p l (event.Message post bits) = number_at place.cause (value_by (read_of p l bits))
cause_for p l (event.SetUp caller called identifier cause) = cause
cause_for p l (event.Reject post identifier) = 0
cause_for p l (event.Cancel identifier) = 0

abbrev pub user_for : Profile → List ℕ → Event → Address
user_for p l (event.Message post bits) = first_of (value_by (read_of p l bits)).users
user_for p l (event.SetUp caller called identifier cause) = nobody
user_for p l (event.Reject post identifier) = nobody
user_for p l (event.Cancel identifier) = nobody

abbrev pub spoken_of : Profile → List Record → List ℕ → Event → Spoken
spoken_of p rows l e = record { identifier = identifier_of p l e; second = second_for rows e; cause = cause_for p l e; user = user_for p l e }

-- the call that begins to wait at a post
abbrev pub call_for : Spoken → ℕ → Call
call_for s post = record { identifier = s.identifier; post = post; more = s.second.found; second = s.second.post; cause = s.cause }

-- an admission begins, a move moves, an accept, a divert, a reject, a cancel that was answered so ends; everything else changes nothing
abbrev pub effect_by : Spoken → Answer → Effect
effect_by s (answer.Refused t) = nothing
effect_by s answer.Acks = nothing
effect_by s (answer.State k) = nothing
effect_by s answer.Free = nothing
effect_by s (answer.Admitted post place) = begins (call_for s post)
effect_by s answer.Proceed = ends s.identifier
effect_by s answer.Diverted = ends s.identifier
effect_by s answer.Rejected = ends s.identifier
effect_by s (answer.Cancelled post) = ends s.identifier
effect_by s (answer.Moved post) = moves s.identifier

unfoldable pub effect_of : Profile → List Record → List ℕ → Event → Answer → Effect
effect_of p rows l e a = effect_by (spoken_of p rows l e) a

-- the lowest free place is taken; a place that is kept at a move, or freed, is the one of the identifier
abbrev pub places_after : List Place → Effect → List Place
places_after places nothing = places
places_after places (begins x) = take_of places (lowest_free places).place x
places_after places (moves identifier) = move_of places (place_of places identifier).place
places_after places (ends identifier) = clear_of places (place_of places identifier).place

unfoldable pub desk_after : Desk → Effect → Desk
desk_after d x = record { profile = d.profile; places = record { place = places_after (places_of d) x } }

-- ---- every answer but ACKs

-- the messages that go with it: an admitted call's INTERCEPTED and REQUEST, a moved one's REQUEST, as its place has it; REJECTED with the
-- cause that was said; CANCEL; a state's INTERROGATE ACK
abbrev pub messages_by : Desk → Spoken → Answer → List Value
messages_by d s (answer.Refused t) = []
messages_by d s answer.Acks = []
messages_by d s (answer.State k) = state_ack d.profile.air s.user k ∷ []
messages_by d s answer.Free = []
messages_by d s (answer.Admitted post place) = intercepted ∷ request_of (call_for s post) ∷ []
messages_by d s answer.Proceed = accepted ∷ []
messages_by d s answer.Diverted = diverted ∷ []
messages_by d s answer.Rejected = rejected_with s.cause ∷ []
messages_by d s (answer.Cancelled post) = cancel_of s.identifier ∷ []
messages_by d s (answer.Moved post) = request_of (moved_on (place_in (places_of d) (place_of (places_of d) s.identifier).place)) ∷ []

unfoldable pub plain_step : Desk → Spoken → Answer → Stepped
plain_step d s a = record { answer = a; laid = laid_of d.profile.air (messages_by d s a); desk = desk_after d (effect_by s a); marks = no_marks }

unfoldable pub plain_area : Desk → Spoken → List ℕ → Answer → List ℕ
plain_area d s area a = lay_all d.profile.air area (messages_by d s a)

-- ---- a request to change marks that is carried out: its ACKs, and the marks of the accepted ones

unfoldable pub acks_for : Desk → List Record → ℕ → Asked → List Value
acks_for d rows post asked = acks_of d.profile.air asked.ack asked.users (sorted_of (outcomes_of d.profile.air asked.users rows post))

unfoldable pub acks_step : Desk → List Record → ℕ → Asked → Stepped
acks_step d rows post asked =
    record {
      answer = answer.Acks;
      laid = laid_of d.profile.air (acks_for d rows post asked);
      desk = d;
      marks = marks_of asked.mark rows post (identities_of d.profile.air asked.users);
    }

unfoldable pub acks_area : Desk → List Record → ℕ → Asked → List ℕ → List ℕ
acks_area d rows post asked area = lay_all d.profile.air area (acks_for d rows post asked)

-- ---- what follows from an answer

abbrev pub is_acks : Answer → Bool
is_acks (answer.Refused s) = false
is_acks answer.Acks = true
is_acks (answer.State k) = false
is_acks answer.Free = false
is_acks (answer.Admitted post place) = false
is_acks answer.Proceed = false
is_acks answer.Diverted = false
is_acks answer.Rejected = false
is_acks (answer.Cancelled post) = false
is_acks (answer.Moved post) = false

-- to a call from a post that asks this, or speaks of this call
unfoldable pub step_by : Desk → List Record → ℕ → Asked → Spoken → Answer → Stepped
step_by d rows post asked s a = cond (is_acks a) (acks_step d rows post asked) (plain_step d s a)

unfoldable pub area_by : Desk → List Record → ℕ → Asked → Spoken → List ℕ → Answer → List ℕ
area_by d rows post asked s area a = cond (is_acks a) (acks_area d rows post asked area) (plain_area d s area a)

-- ---- every call

abbrev pub post_of : Event → ℕ
post_of (event.Message post bits) = post
post_of (event.SetUp caller called identifier cause) = 0
post_of (event.Reject post identifier) = post
post_of (event.Cancel identifier) = 0

unfoldable pub step_of : Desk → List Record → ℕ → List ℕ → List ℕ → Event → Stepped
step_of d rows n l area e =
    step_by d (take n rows) (post_of e) (asked_of d.profile l e) (spoken_of d.profile (take n rows) l e) (answer_of d rows n l (length area) e)

unfoldable pub area_after : Desk → List Record → ℕ → List ℕ → List ℕ → Event → List ℕ
area_after d rows n l area e =
    area_by d (take n rows) (post_of e) (asked_of d.profile l e) (spoken_of d.profile (take n rows) l e) area (answer_of d rows n l (length area) e)

-- ---- the same, as the code has it

-- an answer that changes nothing
unfoldable pub keeps : Desk → Answer → Stepped
keeps d a = record { answer = a; laid = no_laid; desk = d; marks = no_marks }

-- a step, or a refusal, which changes nothing
abbrev pub settled : Desk → Result Stepped Stop → Stepped
settled d (Ok s) = s
settled d (Err s) = keeps d (answer.Refused s)

-- an answer that frees a place
unfoldable pub ended_step : Desk → ℕ → Answer → Laid → Stepped
ended_step d place a x = record { answer = a; laid = x; desk = record { profile = d.profile; places = record { place = clear_of (places_of d) place } }; marks = no_marks }

-- the call p in the place moves to its second post, with a REQUEST, or is refused with 18 and stays
unfoldable pub moved_step : Desk → ℕ → Place → Stepped
moved_step d place p =
    cond (admits_of d.profile.shares (clear_of (places_of d) place) p.second)
    (record {
      answer = answer.Moved p.second;
      laid = laid_of d.profile.air (request_of (moved_on p) ∷ []);
      desk = record { profile = d.profile; places = record { place = move_of (places_of d) place } };
      marks = no_marks;
    })
    (keeps d (answer.Refused (refusal 18)))

unfoldable pub moved_area : Desk → ℕ → Place → List ℕ → List ℕ
moved_area d place p area =
    cond (admits_of d.profile.shares (clear_of (places_of d) place) p.second) (lay_all d.profile.air area (request_of (moved_on p) ∷ [])) area

-- the post where it waits accepts the call in the place
unfoldable pub accepted_step : Desk → ℕ → Stepped
accepted_step d place =
    cond (place_in (places_of d) place).more (moved_step d place (place_in (places_of d) place))
    (ended_step d place answer.Proceed (laid_of d.profile.air (accepted ∷ [])))

unfoldable pub accepted_area : Desk → ℕ → List ℕ → List ℕ
accepted_area d place area =
    cond (place_in (places_of d) place).more (moved_area d place (place_in (places_of d) place) area) (lay_all d.profile.air area (accepted ∷ []))
