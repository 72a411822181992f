-- What each call is answered: document 01's section "Refusal numbers", its Order, call by call. A ground is tested where it stands in
-- the order, and the first that holds gives the answer. The answer decides all that the call does (Steps).
use Rattle.std.specs.Prelude.{ℕ, ◌^◌, Bool, true, false, not, cond, List, [], ◌∷◌, eqb, ltb, take, Result, Ok, Err}
use Rattle.codec.specs.Stops.{refusal}
use Rattle.codec.specs.declared.Stop.{Stop}
use Rattle.codec.specs.Codec.{Read, got, no, both}
use Rattle.profile.specs.Rules.{meaning_in, list_of_one}
use Rattle.profile.specs.declared.Kind.{Kind}
use Rattle.profile.specs.declared.Kind.TheVariants as kind
use Rattle.profile.specs.declared.Air.{Air}
use Rattle.message.specs.Groups.{first_of}
use Rattle.message.specs.Values.{identifier_in, given_at}
use Rattle.message.specs.Reading.{read_of}
use Rattle.message.specs.declared.Value.{Value}
use Rattle.places.specs.Held.{place_in, admits_of}
use Rattle.places.specs.Spots.{place_of, lowest_free, clear_of}
use Rattle.places.specs.declared.Place.{Place}
use Rattle.records.specs.Identities.{identity_of}
use Rattle.records.specs.Records.{records_ok, state_of, restricted_of}
use Rattle.records.specs.declared.Identity.{Identity}
use Rattle.records.specs.declared.Party.{Party}
use Rattle.records.specs.declared.Record.{Record}
use Rattle.desk.specs.Desks.{desk_ok}
use Rattle.desk.specs.declared.Answer.{Answer}
use Rattle.desk.specs.declared.Answer.TheVariants as answer
use Rattle.desk.specs.declared.Desk.{Desk}
use Rattle.desk.specs.declared.Event.{Event}
use Rattle.desk.specs.declared.Event.TheVariants as event

-- the number c where the ground holds, else what comes after it in the order
abbrev pub unless : Bool → ℕ → Answer → Answer
unless holds c after = cond holds (answer.Refused (refusal c)) after

abbrev pub posts_of : Desk → ℕ
posts_of d = d.profile.shares.posts

abbrev pub places_of : Desk → List Place
places_of d = d.places.place

-- ---- a post's message

abbrev pub someone_by : Kind → Bool
someone_by kind.Reserved = true
someone_by kind.Nobody = false
someone_by kind.Listed = true
someone_by kind.FirstLast = true

-- dispatcher addresses are given; an option with range meaning "none" is as no option
unfoldable pub names_dispatchers : Air → Value → Bool
names_dispatchers air v = both (given_at 0 v) (someone_by (meaning_in air.meanings v.dispatchers.range).kind)

-- a request to change marks, ACTIVATE or DEACTIVATE: 14, 15, and 21 where dispatcher addresses are given
unfoldable pub marking_answer : Desk → List Record → ℕ → ℕ → Bool → Answer
marking_answer d rows n room given =
    unless (ltb room 300) 14 (unless (not (records_ok rows n (posts_of d))) 15 (unless given 21 answer.Acks))

-- the profile has a range value that means a list of one
abbrev pub has_one : Air → Bool
has_one air = ltb (list_of_one air.meanings) 16

-- INTERROGATE: 14, 15, and 26 where no range value means a list of one
unfoldable pub interrogate_answer : Desk → List Record → ℕ → ℕ → ℕ → Value → Answer
interrogate_answer d rows n room post v =
    unless (ltb room 300) 14
    (unless (not (records_ok rows n (posts_of d))) 15
    (unless (not (has_one d.profile.air)) 26 (answer.State (state_of (take n rows) post (identity_of d.profile.air (first_of v.users))))))

-- the end of a call that waits at the post: 19, 20
unfoldable pub end_answer : Desk → ℕ → ℕ → Answer → Answer
end_answer d post identifier ended =
    unless (not (place_of (places_of d) identifier).found) 19
    (unless (not (eqb (place_in (places_of d) (place_of (places_of d) identifier).place).post post)) 20 ended)

-- an ACCEPT of the call in this place by the post where it waits: it proceeds. If it has a second post it moves there; 18 where the places
-- rule says no for that post, the call's own place taken as free (document 02, iii)
unfoldable pub move_answer : Desk → ℕ → ℕ → Answer
move_answer d place second = unless (not (admits_of d.profile.shares (clear_of (places_of d) place) second)) 18 (answer.Moved second)

unfoldable pub accept_answer : Desk → ℕ → Answer
accept_answer d place =
    cond (place_in (places_of d) place).more (move_answer d place (place_in (places_of d) place).second) answer.Proceed

-- ACCEPT, DIVERT, REJECT: 14, 19, 20, and then what the post decided
unfoldable pub decide_answer : Desk → ℕ → ℕ → ℕ → Answer → Answer
decide_answer d room post identifier ended = unless (ltb room 300) 14 (end_answer d post identifier ended)

-- by the type; 8 for those that posts don't send. DEACTIVATE has no option, so it names no dispatcher
unfoldable pub sent_answer : Desk → List Record → ℕ → ℕ → ℕ → Value → Answer
sent_answer d rows n room post v =
    cond (eqb v.pdu 2) (marking_answer d rows n room (names_dispatchers d.profile.air v))
    (cond (eqb v.pdu 4) (marking_answer d rows n room false)
    (cond (eqb v.pdu 8) (interrogate_answer d rows n room post v)
    (cond (eqb v.pdu 12) (decide_answer d room post (identifier_in v) (accept_answer d (place_of (places_of d) (identifier_in v)).place))
    (cond (eqb v.pdu 15) (decide_answer d room post (identifier_in v) answer.Diverted)
    (cond (eqb v.pdu 17) (decide_answer d room post (identifier_in v) answer.Rejected) (answer.Refused (refusal 8)))))))

abbrev pub read_answer : Read Value → (Value → Answer) → Answer
read_answer (got v n) after = after v
read_answer (no s) after = answer.Refused s

-- 2, reading, then by the type
unfoldable pub message_answer : Desk → List Record → ℕ → List ℕ → ℕ → ℕ → ℕ → Answer
message_answer d rows n l room post bits =
    unless (not (ltb post (posts_of d))) 2 (read_answer (read_of d.profile l bits) (λ v. sent_answer d rows n room post v))

-- ---- set-up: 16, 14, 15, 17, "free", 18

-- the identifier has 14 bits
abbrev pub identifier_ok : ℕ → Bool
identifier_ok i = ltb i (2 ^ 14)

-- a party's SSI and extension have 24 each
unfoldable pub party_ok : Identity → Bool
party_ok x = both (ltb x.ssi (2 ^ 24)) (ltb x.extension (2 ^ 24))

-- the interception cause has 5
abbrev pub cause_ok : ℕ → Bool
cause_ok c = ltb c (2 ^ 5)

unfoldable pub set_up_ok : Identity → Identity → ℕ → ℕ → Bool
set_up_ok caller called identifier cause = both (identifier_ok identifier) (both (cause_ok cause) (both (party_ok caller) (party_ok called)))

-- the places rule for the post: 18, or the lowest free place
unfoldable pub admit_answer : Desk → ℕ → Answer
admit_answer d post =
    unless (not (admits_of d.profile.shares (places_of d) post)) 18 (answer.Admitted post (lowest_free (places_of d)).place)

-- neither party is restricted: free
abbrev pub party_answer : Desk → Party → Answer
party_answer d party = cond party.found (admit_answer d party.post) answer.Free

unfoldable pub set_up_answer : Desk → List Record → ℕ → ℕ → Identity → Identity → ℕ → ℕ → Answer
set_up_answer d rows n room caller called identifier cause =
    unless (not (set_up_ok caller called identifier cause)) 16
    (unless (ltb room 300) 14
    (unless (not (records_ok rows n (posts_of d))) 15
    (unless (place_of (places_of d) identifier).found 17 (party_answer d (restricted_of (take n rows) (caller ∷ called ∷ []))))))

-- ---- reject: 2, 16, 14, 19, 20; cancel: 16, 14, 19, and it names the post where the call waited

unfoldable pub reject_answer : Desk → ℕ → ℕ → ℕ → Answer
reject_answer d room post identifier =
    unless (not (ltb post (posts_of d))) 2 (unless (not (identifier_ok identifier)) 16 (decide_answer d room post identifier answer.Rejected))

-- the post where a call waits
abbrev pub post_at : Desk → ℕ → ℕ
post_at d identifier = (place_in (places_of d) (place_of (places_of d) identifier).place).post

unfoldable pub cancel_answer : Desk → ℕ → ℕ → Answer
cancel_answer d room identifier =
    unless (not (identifier_ok identifier)) 16
    (unless (ltb room 300) 14 (unless (not (place_of (places_of d) identifier).found) 19 (answer.Cancelled (post_at d identifier))))

-- ---- every call: 1 before all else

abbrev pub event_answer : Desk → List Record → ℕ → List ℕ → ℕ → Event → Answer
event_answer d rows n l room (event.Message post bits) = message_answer d rows n l room post bits
event_answer d rows n l room (event.SetUp caller called identifier cause) = set_up_answer d rows n room caller called identifier cause
event_answer d rows n l room (event.Reject post identifier) = reject_answer d room post identifier
event_answer d rows n l room (event.Cancel identifier) = cancel_answer d room identifier

unfoldable pub answer_of : Desk → List Record → ℕ → List ℕ → ℕ → Event → Answer
answer_of d rows n l room e = unless (not (desk_ok d)) 1 (event_answer d rows n l room e)

-- ---- the same, as the code has it

-- the place of a call that waits at the post, or 19 or 20
unfoldable pub ending_of : Desk → ℕ → ℕ → Result ℕ Stop
ending_of d post identifier =
    cond (place_of (places_of d) identifier).found
    (cond (eqb (place_in (places_of d) (place_of (places_of d) identifier).place).post post)
    (Ok (place_of (places_of d) identifier).place)
    (Err (refusal 20)))
    (Err (refusal 19))
