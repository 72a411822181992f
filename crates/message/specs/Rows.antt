-- The messages as rows of parts: document 01's table, "Bits on the air". What a part holds is taken out of a value and put into one here,
-- and nowhere else is a message's content listed.
use Rattle.std.specs.Prelude.{ℕ, zero, suc, min, Bool, true, false, not, cond, ◌||◌, List, [], ◌∷◌, eqb, length}
use Rattle.codec.specs.Codec.{Codec, number, pure, seq}
use Rattle.codec.specs.Options.{Optional, absent, there, is_there, optional, options}
use Rattle.profile.specs.declared.Air.{Air}
use Rattle.message.specs.Elements as element
use Rattle.message.specs.Numbers as place
use Rattle.message.specs.Numbers.{element_of, width_of}
use Rattle.message.specs.Addresses.{address_c}
use Rattle.message.specs.Groups.{group_c, span_of, address_at, with_address}
use Rattle.message.specs.Areas.{areas_c}
use Rattle.message.specs.Acks.{masked_c, result_c, state_c}
use Rattle.message.specs.Values.{number_at, given_at, with_number, with_users, with_mask, with_dispatchers, with_sources, with_destinations, with_areas, with_given}
use Rattle.message.specs.declared.Address.{Address}
use Rattle.message.specs.declared.Group.{Group}
use Rattle.message.specs.declared.Areas.{Areas}
use Rattle.message.specs.declared.State.{State}
use Rattle.message.specs.declared.Value.{Value}
use Rattle.message.specs.declared.Part.{Part}
use Rattle.message.specs.declared.Part.TheVariants as part
use Rattle.message.specs.declared.Slot.{Slot}
use Rattle.message.specs.declared.Row.{Row}

-- ---- the table

-- so many slots, with these parts in the first ones
abbrev pub slots : ℕ → List Part → List Slot
slots zero ps = []
slots (suc k) [] = record { part = part.Nothing } ∷ slots k []
slots (suc k) (p ∷ ps) = record { part = p } ∷ slots k ps

-- parts one after the other, and options under one O-bit
abbrev pub row : List Part → List Part → Row
row ps qs = record { carried = true; count = length ps; parts = slots 6 ps; options = length qs; optional = slots 7 qs }

abbrev pub no_row : Row
no_row = record { carried = false; count = 0; parts = slots 6 []; options = 0; optional = slots 7 [] }

abbrev pub users : Part
users = part.Users

abbrev pub user : Part
user = part.User 0

abbrev pub masked : Part
masked = part.Masked

abbrev pub result : Part
result = part.Result

abbrev pub cause : Part
cause = part.Number place.cause

abbrev pub identifier : Part
identifier = part.Number place.identifier

abbrev pub dispatchers : Part
dispatchers = part.Dispatchers

abbrev pub dispatcher : Part
dispatcher = part.Dispatcher

-- REQUEST's options: the calling, the called, the network, the areas and the basic services of both
abbrev pub of_request : List Part
of_request =
    part.User 0 ∷ part.User 1 ∷ part.Number place.mni ∷ part.Number place.calling_area ∷ part.Number place.called_area
    ∷ part.Number place.calling_service ∷ part.Number place.called_service ∷ []

-- what every ACK has: the request's users, a mask, a result
abbrev pub ack_row : Row
ack_row = row (users ∷ masked ∷ result ∷ []) []

-- what a restriction of a user covers: for which dispatchers, sources, destinations, areas
abbrev pub of_restriction : List Part
of_restriction = dispatchers ∷ part.Sources ∷ part.Destinations ∷ part.Areas ∷ []

-- document 01's table and those of document 02, by PDU type
unfoldable pub table : List (ℕ × Row)
table =
    -- ACTIVATE
    (2, row (users ∷ []) (dispatchers ∷ []))
    -- ACTIVATE ACK
    ∷ (3, ack_row)
    -- DEACTIVATE
    ∷ (4, row (users ∷ []) [])
    -- DEACTIVATE ACK
    ∷ (5, ack_row)
    -- INTERROGATE
    ∷ (8, row (user ∷ []) [])
    -- INTERROGATE ACK
    ∷ (9, row (users ∷ masked ∷ part.Interrogation ∷ []) of_restriction)
    -- INTERCEPTED
    ∷ (10, row (cause ∷ []) (dispatcher ∷ []))
    -- REQUEST
    ∷ (11, row (identifier ∷ cause ∷ []) of_request)
    -- ACCEPT
    ∷ (12, row (identifier ∷ []) [])
    -- ACCEPTED
    ∷ (13, row [] [])
    -- CANCEL
    ∷ (14, row (identifier ∷ []) [])
    -- DIVERT
    ∷ (15, row (identifier ∷ []) [])
    -- DIVERTED
    ∷ (16, row (cause ∷ []) (dispatcher ∷ []))
    -- REJECT
    ∷ (17, row (identifier ∷ cause ∷ []) [])
    -- REJECTED
    ∷ (18, row (cause ∷ []) (dispatcher ∷ []))
    ∷ []

-- any other type is not carried
unfoldable pub row_in : List (ℕ × Row) → ℕ → Row
row_in [] t = no_row
row_in ((k, r) ∷ rest) t = cond (eqb t k) r (row_in rest t)

unfoldable pub row_of : ℕ → Row
row_of t = row_in table t

-- ---- the parts

-- what a part holds
abbrev pub Holds : Part → Type 0
Holds part.Nothing = Unit
Holds (part.Number k) = ℕ
Holds part.Users = Group
Holds (part.User i) = Address
Holds part.Masked = Bool × ℕ
Holds part.Result = ℕ × ℕ
Holds part.Dispatchers = Group
Holds part.Dispatcher = Address
Holds part.Interrogation = State
Holds part.Sources = Group
Holds part.Destinations = Group
Holds part.Areas = Areas

-- its format; v is the value so far, whose users say how long the mask is
abbrev pub part_c : Air → Value → (p : Part) → Codec (Holds p)
part_c air v part.Nothing = pure tt (λ _. true)
part_c air v (part.Number k) = number (element_of k) (width_of k)
part_c air v part.Users = group_c air false false
part_c air v (part.User i) = address_c false
part_c air v part.Masked = masked_c (min (span_of air v.users) 64)
part_c air v part.Result = result_c
part_c air v part.Dispatchers = group_c air true false
part_c air v part.Dispatcher = address_c false
part_c air v part.Interrogation = state_c
part_c air v part.Sources = group_c air true false
part_c air v part.Destinations = group_c air true true
part_c air v part.Areas = areas_c air

-- put into a value, and taken out of one
abbrev pub put : (p : Part) → Holds p → Value → Value
put part.Nothing x v = v
put (part.Number k) x v = with_number k x v
put part.Users x v = with_users x v
put (part.User i) x v = with_users (with_address i x v.users) v
put part.Masked x v = with_mask x.0 x.1 v
put part.Result x v = with_number place.reason x.1 (with_number place.result x.0 v)
put part.Dispatchers x v = with_dispatchers x v
put part.Dispatcher x v = with_dispatchers (with_address 0 x v.dispatchers) v
put part.Interrogation x v =
    with_number place.calling_service x.calling (with_number place.called_service x.called (with_number place.interception_type x.interception
    (with_number place.activation_type x.activation (with_number place.reason x.reason (with_number place.result x.result v)))))
put part.Sources x v = with_sources x v
put part.Destinations x v = with_destinations x v
put part.Areas x v = with_areas x v

abbrev pub get : (p : Part) → Value → Holds p
get part.Nothing v = tt
get (part.Number k) v = number_at k v
get part.Users v = v.users
get (part.User i) v = address_at i v.users
get part.Masked v = (v.masked, v.mask)
get part.Result v = (number_at place.result v, number_at place.reason v)
get part.Dispatchers v = v.dispatchers
get part.Dispatcher v = address_at 0 v.dispatchers
get part.Interrogation v =
    record {
      result = number_at place.result v;
      reason = number_at place.reason v;
      activation = number_at place.activation_type v;
      interception = number_at place.interception_type v;
      called = number_at place.called_service v;
      calling = number_at place.calling_service v;
    }
get part.Sources v = v.lists.sources
get part.Destinations v = v.lists.destinations
get part.Areas v = v.lists.areas

-- what a part holds in v, put into w
unfoldable pub copy_of : Part → Value → Value → Value
copy_of p v w = put p (get p v) w

-- ---- some of them, one after the other

abbrev pub Tuple : List Part → Type 0
Tuple [] = Unit
Tuple (p ∷ ps) = Holds p × Tuple ps

unfoldable pub parts_c : Air → Value → (ps : List Part) → Codec (Tuple ps)
parts_c air v [] = pure tt (λ _. true)
parts_c air v (p ∷ ps) = seq (part_c air v p) (λ x. parts_c air (put p x v) ps)

unfoldable pub puts : (ps : List Part) → Tuple ps → Value → Value
puts [] x v = v
puts (p ∷ ps) x v = puts ps x.1 (put p x.0 v)

unfoldable pub gets : (ps : List Part) → Value → Tuple ps
gets [] v = tt
gets (p ∷ ps) v = (get p v, gets ps v)

-- ---- some of them as options under one O-bit

abbrev pub Options : List Part → Type 0
Options [] = Unit
Options (q ∷ qs) = Optional (Holds q) × Options qs

-- what is there, or what was there before
abbrev pub or_else : {A : Type 0} → Optional A → A → A
or_else absent b = b
or_else (there a) b = a

-- a, where it is given
abbrev pub if_given : {A : Type 0} → Bool → A → Optional A
if_given true a = there a
if_given false a = absent

-- the i-th option of a row: put into a value, which is as before where it is absent; and taken out of one
abbrev pub put_option : ℕ → (q : Part) → Optional (Holds q) → Value → Value
put_option i q x v = with_given i (is_there x || given_at i v) (put q (or_else x (get q v)) v)

abbrev pub get_option : ℕ → (q : Part) → Value → Optional (Holds q)
get_option i q v = if_given (given_at i v) (get q v)

-- the i-th option in v, put into w
unfoldable pub copy_option : ℕ → Part → Value → Value → Value
copy_option i q v w = put_option i q (get_option i q v) w

unfoldable pub put_options : ℕ → (qs : List Part) → Options qs → Value → Value
put_options i [] x v = v
put_options i (q ∷ qs) x v = put_options (suc i) qs x.1 (put_option i q x.0 v)

unfoldable pub get_options : ℕ → (qs : List Part) → Value → Options qs
get_options i [] v = tt
get_options i (q ∷ qs) v = (get_option i q v, get_options (suc i) qs v)

-- one of them is there; none is
abbrev pub some_of : (qs : List Part) → Options qs → Bool
some_of [] x = false
some_of (q ∷ qs) x = is_there x.0 || some_of qs x.1

abbrev pub none_of : (qs : List Part) → Options qs
none_of [] = tt
none_of (q ∷ qs) = (absent, none_of qs)

-- each behind its P-bit, from the i-th of the row on
unfoldable pub each_c : Air → ℕ → Value → (qs : List Part) → Codec (Options qs)
each_c air i v [] = pure tt (λ _. true)
each_c air i v (q ∷ qs) = seq (optional element.p_bit (part_c air v q)) (λ x. each_c air (suc i) (put_option i q x v) qs)

-- one O-bit before them all; a message without an option has none
unfoldable pub options_c : Air → Value → (qs : List Part) → Codec (Options qs)
options_c air v [] = pure tt (λ _. true)
options_c air v (q ∷ qs) = options element.o_bit (none_of (q ∷ qs)) (λ x. not (some_of (q ∷ qs) x)) (some_of (q ∷ qs)) (each_c air 0 v (q ∷ qs))

-- ---- a row

-- the first n of some slots
unfoldable pub first_parts : ℕ → List Slot → List Part
first_parts zero l = []
first_parts (suc n) [] = []
first_parts (suc n) (s ∷ l) = s.part ∷ first_parts n l

abbrev pub parts_of : Row → List Part
parts_of r = first_parts r.count r.parts

abbrev pub options_of : Row → List Part
options_of r = first_parts r.options r.optional
