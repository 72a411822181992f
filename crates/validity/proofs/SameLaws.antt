-- The derived equality of two values is the definition's, `same_value`. Assumes nothing.
use mathlib.Core.Path.{◌≡◌, refl}
use mathlib.Core.Bool.{Bool, true, false, beq, ◌&&◌}
use mathlib.Core.List.{List, [], ◌∷◌}
use lib.Pointwise.{pointwise}
use Rattle.std.specs.Prelude.{ℕ, nat_eq}
use Rattle.codec.specs.Codec.{both}
use Rattle.message.specs.Values.{same_bool, same_bools, same_numbers, same_address, same_addresses, same_group, same_areas, same_lists, same_value}
use Rattle.message.specs.declared.Address.{Address}
use Rattle.message.specs.declared.Group.{Group}
use Rattle.message.specs.declared.Areas.{Areas}
use Rattle.message.specs.declared.Lists.{Lists}
use Rattle.message.specs.declared.Value.{Value}
use Rattle.validity.proofs.ValidLaws.{and_both}

-- ---- as the derives have it

abbrev equal_address : Address → Address → Bool
equal_address a b = nat_eq a.kind b.kind && (nat_eq a.ssi b.ssi && nat_eq a.extension b.extension)

abbrev equal_group : Group → Group → Bool
equal_group g h = nat_eq g.range h.range && pointwise equal_address g.addresses h.addresses

abbrev equal_areas : Areas → Areas → Bool
equal_areas a b = nat_eq a.range b.range && pointwise nat_eq a.areas b.areas

abbrev equal_lists : Lists → Lists → Bool
equal_lists x y = equal_group x.sources y.sources && (equal_group x.destinations y.destinations && equal_areas x.areas y.areas)

abbrev pub equal_value : Value → Value → Bool
equal_value v w =
    nat_eq v.pdu w.pdu
    && (pointwise nat_eq v.numbers w.numbers
    && (equal_group v.users w.users
    && (beq v.masked w.masked
    && (nat_eq v.mask w.mask
    && (pointwise beq v.given w.given && (equal_group v.dispatchers w.dispatchers && equal_lists v.lists w.lists))))))

-- ---- and as the definition has it

and_is : {a b c d : Bool} → a ≡ b → c ≡ d → (a && c) ≡ both b d
and_is e h = rw (e, h) (and_both _ _)

bool_same : (a b : Bool) → beq a b ≡ same_bool a b
bool_same true true = refl
bool_same true false = refl
bool_same false true = refl
bool_same false false = refl

bools_same : (l m : List Bool) → pointwise beq l m ≡ same_bools l m
unfolding same_bools
bools_same [] [] = refl
bools_same [] (y ∷ m) = refl
bools_same (x ∷ l) [] = refl
bools_same (x ∷ l) (y ∷ m) = and_is (bool_same x y) (bools_same l m)

numbers_same : (l m : List ℕ) → pointwise nat_eq l m ≡ same_numbers l m
unfolding same_numbers
numbers_same [] [] = refl
numbers_same [] (y ∷ m) = refl
numbers_same (x ∷ l) [] = refl
numbers_same (x ∷ l) (y ∷ m) = and_is refl (numbers_same l m)

address_same : (a b : Address) → equal_address a b ≡ same_address a b
unfolding same_address
address_same a b = and_is refl (and_both _ _)

addresses_same : (l m : List Address) → pointwise equal_address l m ≡ same_addresses l m
unfolding same_addresses
addresses_same [] [] = refl
addresses_same [] (y ∷ m) = refl
addresses_same (x ∷ l) [] = refl
addresses_same (x ∷ l) (y ∷ m) = and_is (address_same x y) (addresses_same l m)

group_same : (g h : Group) → equal_group g h ≡ same_group g h
unfolding same_group
group_same g h = and_is refl (addresses_same g.addresses h.addresses)

areas_same : (a b : Areas) → equal_areas a b ≡ same_areas a b
unfolding same_areas
areas_same a b = and_is refl (numbers_same a.areas b.areas)

lists_same : (x y : Lists) → equal_lists x y ≡ same_lists x y
unfolding same_lists
lists_same x y = and_is (group_same x.sources y.sources) (and_is (group_same x.destinations y.destinations) (areas_same x.areas y.areas))

pub value_same : (v w : Value) → equal_value v w ≡ same_value v w
unfolding same_value
value_same v w =
    and_is refl
    (and_is (numbers_same v.numbers w.numbers)
    (and_is (group_same v.users w.users)
    (and_is (bool_same v.masked w.masked)
    (and_is refl
    (and_is (bools_same v.given w.given) (and_is (group_same v.dispatchers w.dispatchers) (lists_same v.lists w.lists)))))))
