-- One flat value for all messages. `blank` is a message of a type with nothing in it, and each `with..` puts one thing in.
use Rattle.std.specs.Prelude.{ℕ, Bool, true, false, not, List, [], ◌∷◌, eqb, get_or, set, replicate}
use Rattle.codec.specs.Codec.{both}
use Rattle.message.specs.Numbers as place
use Rattle.message.specs.Groups.{no_group}
use Rattle.message.specs.Areas.{no_areas}
use Rattle.message.specs.declared.Address.{Address}
use Rattle.message.specs.declared.Group.{Group}
use Rattle.message.specs.declared.Areas.{Areas}
use Rattle.message.specs.declared.Lists.{Lists}
use Rattle.message.specs.declared.Value.{Value}

unfoldable pub no_lists : Lists
no_lists = record { sources = no_group; destinations = no_group; areas = no_areas }

unfoldable pub blank : ℕ → Value
blank t =
    record { pdu = t; numbers = replicate 12 0; users = no_group; masked = false; mask = 0; given = replicate 7 false; dispatchers = no_group; lists = no_lists }

-- what stands beside a refusal
abbrev pub no_value : Value
no_value = blank 0

-- ---- what is in a value

-- the number at a place (Numbers)
abbrev pub number_at : ℕ → Value → ℕ
number_at k v = get_or v.numbers k 0

-- the call that it speaks of
abbrev pub identifier_in : Value → ℕ
identifier_in v = number_at place.identifier v

-- the i-th option of its row is there
abbrev pub given_at : ℕ → Value → Bool
given_at i v = get_or v.given i false

-- ---- a value with one thing in it changed

abbrev pub with_numbers : List ℕ → Value → Value
with_numbers l v =
    record { pdu = v.pdu; numbers = l; users = v.users; masked = v.masked; mask = v.mask; given = v.given; dispatchers = v.dispatchers; lists = v.lists }

abbrev pub with_number : ℕ → ℕ → Value → Value
with_number k n v = with_numbers (set v.numbers k n) v

abbrev pub with_users : Group → Value → Value
with_users g v =
    record { pdu = v.pdu; numbers = v.numbers; users = g; masked = v.masked; mask = v.mask; given = v.given; dispatchers = v.dispatchers; lists = v.lists }

abbrev pub with_mask : Bool → ℕ → Value → Value
with_mask b m v =
    record { pdu = v.pdu; numbers = v.numbers; users = v.users; masked = b; mask = m; given = v.given; dispatchers = v.dispatchers; lists = v.lists }

abbrev pub with_dispatchers : Group → Value → Value
with_dispatchers g v =
    record { pdu = v.pdu; numbers = v.numbers; users = v.users; masked = v.masked; mask = v.mask; given = v.given; dispatchers = g; lists = v.lists }

abbrev pub with_givens : List Bool → Value → Value
with_givens l v =
    record { pdu = v.pdu; numbers = v.numbers; users = v.users; masked = v.masked; mask = v.mask; given = l; dispatchers = v.dispatchers; lists = v.lists }

abbrev pub with_given : ℕ → Bool → Value → Value
with_given i b v = with_givens (set v.given i b) v

abbrev pub with_lists : Lists → Value → Value
with_lists x v =
    record { pdu = v.pdu; numbers = v.numbers; users = v.users; masked = v.masked; mask = v.mask; given = v.given; dispatchers = v.dispatchers; lists = x }

abbrev pub with_sources : Group → Value → Value
with_sources g v = with_lists (record { sources = g; destinations = v.lists.destinations; areas = v.lists.areas }) v

abbrev pub with_destinations : Group → Value → Value
with_destinations g v = with_lists (record { sources = v.lists.sources; destinations = g; areas = v.lists.areas }) v

abbrev pub with_areas : Areas → Value → Value
with_areas a v = with_lists (record { sources = v.lists.sources; destinations = v.lists.destinations; areas = a }) v

-- ---- two values are one

abbrev pub same_bool : Bool → Bool → Bool
same_bool true b = b
same_bool false b = not b

unfoldable pub same_bools : List Bool → List Bool → Bool
same_bools [] [] = true
same_bools [] (y ∷ ys) = false
same_bools (x ∷ xs) [] = false
same_bools (x ∷ xs) (y ∷ ys) = both (same_bool x y) (same_bools xs ys)

unfoldable pub same_numbers : List ℕ → List ℕ → Bool
same_numbers [] [] = true
same_numbers [] (y ∷ ys) = false
same_numbers (x ∷ xs) [] = false
same_numbers (x ∷ xs) (y ∷ ys) = both (eqb x y) (same_numbers xs ys)

unfoldable pub same_address : Address → Address → Bool
same_address a b = both (eqb a.kind b.kind) (both (eqb a.ssi b.ssi) (eqb a.extension b.extension))

unfoldable pub same_addresses : List Address → List Address → Bool
same_addresses [] [] = true
same_addresses [] (y ∷ ys) = false
same_addresses (x ∷ xs) [] = false
same_addresses (x ∷ xs) (y ∷ ys) = both (same_address x y) (same_addresses xs ys)

unfoldable pub same_group : Group → Group → Bool
same_group g h = both (eqb g.range h.range) (same_addresses g.addresses h.addresses)

unfoldable pub same_areas : Areas → Areas → Bool
same_areas a b = both (eqb a.range b.range) (same_numbers a.areas b.areas)

unfoldable pub same_lists : Lists → Lists → Bool
same_lists x y = both (same_group x.sources y.sources) (both (same_group x.destinations y.destinations) (same_areas x.areas y.areas))

unfoldable pub same_value : Value → Value → Bool
same_value v w =
    both (eqb v.pdu w.pdu)
    (both (same_numbers v.numbers w.numbers)
    (both (same_group v.users w.users)
    (both (same_bool v.masked w.masked)
    (both (eqb v.mask w.mask)
    (both (same_bools v.given w.given) (both (same_group v.dispatchers w.dispatchers) (same_lists v.lists w.lists)))))))
