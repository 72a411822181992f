-- A history is what an outsider could have written down: each call with all that was lent, each change of the shares with what was asked
-- for, and the answer. No desk is in it. Which calls wait, and so what each post holds and is owed, and which shares are in force, is
-- counted from it alone, and not as the desk counts.
use Rattle.std.specs.Prelude.{ℕ, ◌+◌, ◌-◌, ◌<◌, ◌≤◌, max, ◌≡◌, Bool, true, false, not, cond, List, [], ◌∷◌, eqb, leb, ltb, length, take}
use Rattle.codec.specs.Codec.{Read, got, no, both}
use Rattle.profile.specs.Counting.{every, one, sum}
use Rattle.profile.specs.Rules.{share_in}
use Rattle.profile.specs.declared.Profile.{Profile}
use Rattle.profile.specs.declared.Share.{Share}
use Rattle.profile.specs.declared.Shares.{Shares}
use Rattle.message.specs.Numbers as place
use Rattle.message.specs.Values.{number_at, identifier_in}
use Rattle.message.specs.Reading.{read_of}
use Rattle.message.specs.declared.Value.{Value}
use Rattle.records.specs.Records.{records_ok, no_party, second_of}
use Rattle.records.specs.declared.Identity.{Identity}
use Rattle.records.specs.declared.Party.{Party}
use Rattle.records.specs.declared.Record.{Record}
use Rattle.desk.specs.Changes.{new_shares, change_of}
use Rattle.desk.specs.Grounds.{party_for}
use Rattle.desk.specs.Orders.{set_up_ok}
use Rattle.desk.specs.Steps.{step_of}
use Rattle.desk.specs.declared.Answer.{Answer}
use Rattle.desk.specs.declared.Answer.TheVariants as answer
use Rattle.desk.specs.declared.Change.{Change}
use Rattle.desk.specs.declared.Desk.{Desk}
use Rattle.desk.specs.declared.Event.{Event}
use Rattle.desk.specs.declared.Event.TheVariants as event
use Rattle.desk.specs.declared.Stepped.{Stepped}

-- ---- histories

-- a call, with all that is lent for it: the records, of which so many count, a message, and the output area as it stands
pub record Call : Type 0 where
  pub rows : List Record
  pub count : ℕ
  pub message : List ℕ
  pub area : List ℕ
  pub event : Event

-- what comes to a desk: a call, or new shares, a row for each post
pub data Turn : Type 0 where
  one_call : Call → Turn
  one_change : List Share → Turn

-- what was written down of it
pub data Noted : Type 0 where
  call_noted : Call → Answer → Noted
  change_noted : List Share → Change → Noted

abbrev pub History : Type 0
History = List Noted

-- the call on a desk
abbrev pub step_for : Desk → Call → Stepped
step_for d c = step_of d c.rows c.count c.message c.area c.event

-- what is written down of a turn on a desk, and the desk that it leaves
abbrev pub note_for : Desk → Turn → Noted
note_for d (one_call c) = call_noted c (step_for d c).answer
note_for d (one_change rows) = change_noted rows (change_of d rows).change

abbrev pub desk_by : Desk → Turn → Desk
desk_by d (one_call c) = (step_for d c).desk
desk_by d (one_change rows) = (change_of d rows).desk

-- some turns, the first one first, each on the desk that the one before left, refused ones included; the records, the message and the
-- area are new for each call. What was written down, and the desk that is left
unfoldable pub run_of : Desk → List Turn → History
run_of d [] = []
run_of d (t ∷ turns) = note_for d t ∷ run_of (desk_by d t) turns

unfoldable pub left_by : Desk → List Turn → Desk
left_by d [] = d
left_by d (t ∷ turns) = left_by (desk_by d t) turns

-- ---- which shares are in force

-- a change that was taken puts its rows in force, for as many posts as there were; nothing else changes them
abbrev pub shares_after : Shares → Noted → Shares
shares_after s (call_noted c a) = s
shares_after s (change_noted rows x) = cond x.taken (new_shares s.posts rows) s

unfoldable pub shares_by : Shares → History → Shares
shares_by s [] = s
shares_by s (x ∷ h) = shares_by (shares_after s x) h

-- no change of the shares was taken in a history
abbrev pub takes_it : Noted → Bool
takes_it (call_noted c a) = false
takes_it (change_noted rows x) = x.taken

unfoldable pub takes_none : History → Bool
takes_none [] = true
takes_none (x ∷ h) = both (not (takes_it x)) (takes_none h)

-- from an opened desk, on which they are the profile's
abbrev pub shares_of : Profile → History → Shares
shares_of p h = shares_by p.shares h

-- ---- which calls wait

-- a waiting call: its identifier, the post where it waits now, the post that is asked after that one, if there is such, and its
-- interception cause
pub record Waiting : Type 0 where
  pub identifier : ℕ
  pub post : ℕ
  pub second : Party
  pub cause : ℕ

unfoldable pub without : ℕ → List Waiting → List Waiting
without identifier [] = []
without identifier (x ∷ w) = cond (eqb x.identifier identifier) (without identifier w) (x ∷ without identifier w)

-- the call that a post's message names; of one that reads as none no call is meant, and it is refused
abbrev pub named_by : Read Value → ℕ
named_by (got v n) = identifier_in v
named_by (no s) = 0

-- the call that an event means
abbrev pub meant_by : Profile → List ℕ → Event → ℕ
meant_by p l (event.Message post bits) = named_by (read_of p l bits)
meant_by p l (event.SetUp caller called identifier cause) = identifier
meant_by p l (event.Reject post identifier) = identifier
meant_by p l (event.Cancel identifier) = identifier

-- the post that is asked second about a call being set up, by the records that are lent with it
abbrev pub asked_second : List Record → Event → Party
asked_second rows (event.Message post bits) = no_party
asked_second rows (event.SetUp caller called identifier cause) = second_of rows caller called
asked_second rows (event.Reject post identifier) = no_party
asked_second rows (event.Cancel identifier) = no_party

-- the cause that an event gives: a set-up the interception cause, a post's message its own
abbrev pub cause_by : Read Value → ℕ
cause_by (got v n) = number_at place.cause v
cause_by (no s) = 0

abbrev pub given_cause : Profile → List ℕ → Event → ℕ
given_cause p l (event.Message post bits) = cause_by (read_of p l bits)
given_cause p l (event.SetUp caller called identifier cause) = cause
given_cause p l (event.Reject post identifier) = 0
given_cause p l (event.Cancel identifier) = 0

-- the cause with which a call waits
unfoldable pub cause_of : List Waiting → ℕ → ℕ
cause_of [] identifier = 0
cause_of (x ∷ w) identifier = cond (eqb x.identifier identifier) x.cause (cause_of w identifier)

-- the call that an event means, and what it says of it: the post that is asked second, and the cause
pub record Meant : Type 0 where
  pub identifier : ℕ
  pub second : Party
  pub cause : ℕ

-- what an answer means for the waiting calls w, where the event meant this one: admitted, it begins to wait at the post that the answer
-- names; moved, it ends where it waited and begins to wait at the post that the answer names, with none after that and with the same
-- cause; accepted, diverted, rejected or cancelled, it waits no more; by every other answer nothing changes
abbrev pub answered : Meant → Answer → List Waiting → List Waiting
answered m (answer.Admitted post place) w = record { identifier = m.identifier; post = post; second = m.second; cause = m.cause } ∷ w
answered m (answer.Moved post) w =
    record { identifier = m.identifier; post = post; second = no_party; cause = cause_of w m.identifier } ∷ without m.identifier w
answered m answer.Proceed w = without m.identifier w
answered m answer.Diverted w = without m.identifier w
answered m answer.Rejected w = without m.identifier w
answered m (answer.Cancelled post) w = without m.identifier w
answered m (answer.Refused s) w = w
answered m answer.Acks w = w
answered m (answer.State k) w = w
answered m answer.Free w = w

-- the calls that wait after a call that was answered so, where these waited before it
unfoldable pub afterwards : Profile → List Waiting → Call → Answer → List Waiting
afterwards p w c a =
    answered
    (record { identifier = meant_by p c.message c.event; second = asked_second (take c.count c.rows) c.event; cause = given_cause p c.message c.event })
    a w

-- after anything that was written down: no change of the shares makes a call wait or go away
abbrev pub after_note : Profile → List Waiting → Noted → List Waiting
after_note p w (call_noted c a) = afterwards p w c a
after_note p w (change_noted rows x) = w

-- and after a history
unfoldable pub waiting_after : Profile → List Waiting → History → List Waiting
waiting_after p w [] = w
waiting_after p w (x ∷ h) = waiting_after p (after_note p w x) h

-- from an opened desk, on which none waits
abbrev pub waiting_of : Profile → History → List Waiting
waiting_of p h = waiting_after p [] h

-- ---- what is counted

unfoldable pub count_by : (Waiting → Bool) → List Waiting → ℕ
count_by test [] = 0
count_by test (x ∷ w) = one (test x) + count_by test w

-- a call with this identifier waits
unfoldable pub is_waiting : List Waiting → ℕ → Bool
is_waiting w identifier = ltb 0 (count_by (λ x. eqb x.identifier identifier) w)

-- held: a post's number of waiting calls
unfoldable pub held_by : List Waiting → ℕ → ℕ
held_by w post = count_by (λ x. eqb x.post post) w

-- free: 32 less all held
unfoldable pub free_by : List Waiting → ℕ
free_by w = 32 - length w

-- owed to a post: its reserved number less its held, or 0 if that is negative; and the sum owed to all other posts
unfoldable pub owed_by : Shares → List Waiting → ℕ → ℕ
owed_by shares w post = (share_in shares.share post).reserved - held_by w post

unfoldable pub owed_to_others : Shares → List Waiting → ℕ → ℕ
owed_to_others shares w post = sum shares.posts (λ q. cond (eqb q post) 0 (owed_by shares w q))

-- ---- shares that fit what is held

-- no post holds more than its ceiling, and 32 places are enough for the larger of reserved number and held of every post
unfoldable pub fits_by : Shares → List Waiting → Bool
fits_by shares w =
    both (every shares.posts (λ q. leb (held_by w q) (share_in shares.share q).ceiling))
    (leb (sum shares.posts (λ q. max (share_in shares.share q).reserved (held_by w q))) 32)

-- ---- a well-formed new restricted call

-- it passes 16, 14, 15 and 17, and is not free; 1 never comes along a history (never_one)
unfoldable pub is_restricted_call : Profile → List Waiting → Call → Identity → Identity → ℕ → ℕ → Bool
is_restricted_call p w c caller called identifier cause =
    both (set_up_ok caller called identifier cause)
    (both (not (ltb (length c.area) 300))
    (both (records_ok c.rows c.count p.shares.posts)
    (both (not (is_waiting w identifier)) (party_for c.rows c.count caller called).found)))

-- ---- a call that waits, and an ACCEPT of it

-- a call with this identifier waits at this post, and this one is asked second; and one after which none is asked
unfoldable pub is_asked_next : List Waiting → ℕ → ℕ → ℕ → Bool
is_asked_next w identifier post second =
    ltb 0 (count_by (λ x. both (eqb x.identifier identifier) (both (eqb x.post post) (both x.second.found (eqb x.second.post second)))) w)

unfoldable pub is_asked_last : List Waiting → ℕ → ℕ → Bool
is_asked_last w identifier post = ltb 0 (count_by (λ x. both (eqb x.identifier identifier) (both (eqb x.post post) (not x.second.found))) w)

-- a well-formed message of this type from a post, which means this call: it passes 2, reading and 14; 1 never comes along a history
pub record IsSent (p : Profile) (type : ℕ) (c : Call) (post identifier : ℕ) : Type 0 where
  pub bits : ℕ
  pub value : Value
  pub next : ℕ
  pub event_is : c.event ≡ event.Message post bits
  pub below : post < p.shares.posts
  pub reads : read_of p c.message bits ≡ got value next
  pub type_is : value.pdu ≡ type
  pub names : identifier_in value ≡ identifier
  pub room : 300 ≤ length c.area

-- the calls of a history admit no call with this identifier
abbrev pub is_admission : Answer → Bool
is_admission (answer.Refused s) = false
is_admission answer.Acks = false
is_admission (answer.State k) = false
is_admission answer.Free = false
is_admission (answer.Admitted post place) = true
is_admission answer.Proceed = false
is_admission answer.Diverted = false
is_admission answer.Rejected = false
is_admission (answer.Cancelled post) = false
is_admission (answer.Moved post) = false

abbrev pub admits_it : Profile → ℕ → Noted → Bool
admits_it p identifier (call_noted c a) = both (is_admission a) (eqb (meant_by p c.message c.event) identifier)
admits_it p identifier (change_noted rows x) = false

unfoldable pub admits_none : Profile → ℕ → History → Bool
admits_none p identifier [] = true
admits_none p identifier (x ∷ h) = both (not (admits_it p identifier x)) (admits_none p identifier h)
