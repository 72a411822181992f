-- The messages that the desk sends beside the ACKs, none with an option: INTERCEPTED and DIVERTED with cause 0, ACCEPTED, and those of
-- document 02, (iv): REQUEST to the post where a call comes to wait, REJECTED, CANCEL; (viii): INTERROGATE ACK.
use Rattle.std.specs.Prelude.{ℕ, cond, eqb, set}
use Rattle.profile.specs.Counting.{one}
use Rattle.profile.specs.Rules.{list_of_one}
use Rattle.profile.specs.declared.Air.{Air}
use Rattle.message.specs.Groups.{nobodies}
use Rattle.message.specs.Numbers as place
use Rattle.message.specs.Values.{blank, with_number, with_users}
use Rattle.message.specs.Rows.{put}
use Rattle.message.specs.declared.Address.{Address}
use Rattle.message.specs.declared.Group.{Group}
use Rattle.message.specs.declared.Part.TheVariants as part
use Rattle.message.specs.declared.State.{State}
use Rattle.message.specs.declared.Value.{Value}
use Rattle.places.specs.declared.Call.{Call}

abbrev pub intercepted : Value
intercepted = blank 10

abbrev pub accepted : Value
accepted = blank 13

abbrev pub diverted : Value
diverted = blank 16

-- an identifier and an interception cause
abbrev pub request_with : ℕ → ℕ → Value
request_with identifier cause = with_number place.cause cause (with_number place.identifier identifier (blank 11))

-- of the call that comes to wait
abbrev pub request_of : Call → Value
request_of x = request_with x.identifier x.cause

-- a rejection cause
abbrev pub rejected_with : ℕ → Value
rejected_with cause = with_number place.cause cause (blank 18)

-- an identifier
abbrev pub cancel_of : ℕ → Value
cancel_of identifier = with_number place.identifier identifier (blank 14)

-- ---- INTERROGATE ACK: the lowest range value that means a list of one, the request's address, no mask, no group

unfoldable pub one_user : Air → Address → Group
one_user air a = record { range = list_of_one air.meanings; addresses = set nobodies 0 a }

abbrev pub not_accepted : ℕ → State
not_accepted reason = record { result = 0; reason = reason; activation = 0; interception = 0; called = 0; calling = 0 }

-- what the desk does not know of a restriction is 0, the lowest value of each
abbrev pub is_active : ℕ → State
is_active active = record { result = 1; reason = 0; activation = active; interception = 0; called = 0; calling = 0 }

-- by the plain answer: no record and another post's are not accepted, each with the profile's reason; 2 is active, 3 is not
unfoldable pub told_of : Air → ℕ → State
told_of air k = cond (eqb k 0) (not_accepted air.unrecorded) (cond (eqb k 1) (not_accepted air.elsewhere) (is_active (one (eqb k 2))))

abbrev pub state_ack : Air → Address → ℕ → Value
state_ack air a k = put part.Interrogation (told_of air k) (with_users (one_user air a) (blank 9))
