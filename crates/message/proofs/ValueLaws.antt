-- The test that two values are one, both ways. Assumes nothing.
use Prim.Native.Nat.{ℕ}
use mathlib.Core.Path.{◌≡◌, refl, ◌∙◌, ap}
use mathlib.Core.Bool.{Bool, true, false}
use mathlib.Core.List.{List, [], ◌∷◌}
use lib.Dec.{eqb}
use borrow.Author.Tests.{eqb-true, eq-eqb}
use Rattle.codec.proofs.Good.{both_true, both_left, both_right, not_both}
use Rattle.message.specs.Values.{same_bool, same_bools, same_numbers, same_address, same_addresses, same_group, same_areas, same_lists, same_value, with_lists}
use Rattle.message.specs.declared.Address.{Address}
use Rattle.message.specs.declared.Group.{Group}
use Rattle.message.specs.declared.Areas.{Areas}
use Rattle.message.specs.declared.Lists.{Lists}
use Rattle.message.specs.declared.Value.{Value}

-- ---- one value is the same as itself

self : (n : ℕ) → eqb n n ≡ true
self n = eq-eqb n n refl

bool_self : (b : Bool) → same_bool b b ≡ true
bool_self true = refl
bool_self false = refl

numbers_self : (l : List ℕ) → same_numbers l l ≡ true
unfolding same_numbers
numbers_self [] = refl
numbers_self (x ∷ l) = both_true _ _ (self x) (numbers_self l)

address_self : (a : Address) → same_address a a ≡ true
unfolding same_address
address_self a = both_true _ _ (self a.kind) (both_true _ _ (self a.ssi) (self a.extension))

addresses_self : (l : List Address) → same_addresses l l ≡ true
unfolding same_addresses
addresses_self [] = refl
addresses_self (a ∷ l) = both_true _ _ (address_self a) (addresses_self l)

group_self : (g : Group) → same_group g g ≡ true
unfolding same_group
group_self g = both_true _ _ (self g.range) (addresses_self g.addresses)

bools_self : (l : List Bool) → same_bools l l ≡ true
unfolding same_bools
bools_self [] = refl
bools_self (b ∷ l) = both_true _ _ (bool_self b) (bools_self l)

areas_self : (a : Areas) → same_areas a a ≡ true
unfolding same_areas
areas_self a = both_true _ _ (self a.range) (numbers_self a.areas)

lists_self : (x : Lists) → same_lists x x ≡ true
unfolding same_lists
lists_self x = both_true _ _ (group_self x.sources) (both_true _ _ (group_self x.destinations) (areas_self x.areas))

pub value_self : (v : Value) → same_value v v ≡ true
unfolding same_value
value_self v =
    both_true _ _ (self v.pdu)
    (both_true _ _ (numbers_self v.numbers)
    (both_true _ _ (group_self v.users)
    (both_true _ _ (bool_self v.masked)
    (both_true _ _ (self v.mask)
    (both_true _ _ (bools_self v.given) (both_true _ _ (group_self v.dispatchers) (lists_self v.lists)))))))

-- ---- what passes the test is one

bool_one : (a b : Bool) → same_bool a b ≡ true → a ≡ b
bool_one true true e = refl
bool_one true false e = not_both e
bool_one false true e = not_both e
bool_one false false e = refl

numbers_one : (l m : List ℕ) → same_numbers l m ≡ true → l ≡ m
unfolding same_numbers
numbers_one [] [] e = refl
numbers_one [] (y ∷ m) e = not_both e
numbers_one (x ∷ l) [] e = not_both e
numbers_one (x ∷ l) (y ∷ m) e = rw (eqb-true x y (both_left _ _ e), numbers_one l m (both_right (eqb x y) _ e))

address_one : (a b : Address) → same_address a b ≡ true → a ≡ b
unfolding same_address
address_one a b e =
    let r = both_right (eqb a.kind b.kind) _ e in
    eq a b (eqb-true _ _ (both_left _ _ e)) (eqb-true _ _ (both_left _ _ r)) (eqb-true _ _ (both_right (eqb a.ssi b.ssi) _ r))
  where
    eq : (a b : Address) → a.kind ≡ b.kind → a.ssi ≡ b.ssi → a.extension ≡ b.extension
        → ◌≡◌ {A = Address} (record { kind = a.kind; ssi = a.ssi; extension = a.extension }) (record { kind = b.kind; ssi = b.ssi; extension = b.extension })
    eq a b e d c = rw (e, d, c)

addresses_one : (l m : List Address) → same_addresses l m ≡ true → l ≡ m
unfolding same_addresses
addresses_one [] [] e = refl
addresses_one [] (y ∷ m) e = not_both e
addresses_one (x ∷ l) [] e = not_both e
addresses_one (x ∷ l) (y ∷ m) e = rw (address_one x y (both_left _ _ e), addresses_one l m (both_right (same_address x y) _ e))

group_one : (g h : Group) → same_group g h ≡ true → g ≡ h
unfolding same_group
group_one g h e = eq g h (eqb-true _ _ (both_left _ _ e)) (addresses_one _ _ (both_right (eqb g.range h.range) _ e))
  where
    eq : (g h : Group) → g.range ≡ h.range → g.addresses ≡ h.addresses
        → ◌≡◌ {A = Group} (record { range = g.range; addresses = g.addresses }) (record { range = h.range; addresses = h.addresses })
    eq g h e d = rw (e, d)

bools_one : (l m : List Bool) → same_bools l m ≡ true → l ≡ m
unfolding same_bools
bools_one [] [] e = refl
bools_one [] (y ∷ m) e = not_both e
bools_one (x ∷ l) [] e = not_both e
bools_one (x ∷ l) (y ∷ m) e = rw (bool_one x y (both_left _ _ e), bools_one l m (both_right (same_bool x y) _ e))

areas_one : (a b : Areas) → same_areas a b ≡ true → a ≡ b
unfolding same_areas
areas_one a b e = eq a b (eqb-true _ _ (both_left _ _ e)) (numbers_one _ _ (both_right (eqb a.range b.range) _ e))
  where
    eq : (a b : Areas) → a.range ≡ b.range → a.areas ≡ b.areas
        → ◌≡◌ {A = Areas} (record { range = a.range; areas = a.areas }) (record { range = b.range; areas = b.areas })
    eq a b e d = rw (e, d)

lists_one : (x y : Lists) → same_lists x y ≡ true → x ≡ y
unfolding same_lists
lists_one x y e =
    let r = both_right (same_group x.sources y.sources) _ e in
    eq x y (group_one _ _ (both_left _ _ e)) (group_one _ _ (both_left _ _ r)) (areas_one _ _ (both_right (same_group x.destinations y.destinations) _ r))
  where
    eq : (x y : Lists) → x.sources ≡ y.sources → x.destinations ≡ y.destinations → x.areas ≡ y.areas
        → ◌≡◌ {A = Lists}
        (record { sources = x.sources; destinations = x.destinations; areas = x.areas })
        (record { sources = y.sources; destinations = y.destinations; areas = y.areas })
    eq x y e d c = rw (e, d, c)

module _ (v w : Value) where
  -- w's fields, with v's lists
  value_eq : (x : Lists) → v.pdu ≡ w.pdu → v.numbers ≡ w.numbers → v.users ≡ w.users → v.masked ≡ w.masked → v.mask ≡ w.mask → v.given ≡ w.given → v.dispatchers ≡ w.dispatchers
      → ◌≡◌ {A = Value}
      (record { pdu = v.pdu; numbers = v.numbers; users = v.users; masked = v.masked; mask = v.mask; given = v.given; dispatchers = v.dispatchers; lists = x })
      (record { pdu = w.pdu; numbers = w.numbers; users = w.users; masked = w.masked; mask = w.mask; given = w.given; dispatchers = w.dispatchers; lists = x })
  value_eq x e₀ e₁ e₂ e₃ e₄ e₅ e₆ = rw (e₀, e₁, e₂, e₃, e₄, e₅, e₆)

  pub value_one : same_value v w ≡ true → v ≡ w
  unfolding same_value
  value_one e =
      let r₁ = both_right (eqb v.pdu w.pdu) _ e in
      let r₂ = both_right (same_numbers v.numbers w.numbers) _ r₁ in
      let r₃ = both_right (same_group v.users w.users) _ r₂ in
      let r₄ = both_right (same_bool v.masked w.masked) _ r₃ in
      let r₅ = both_right (eqb v.mask w.mask) _ r₄ in
      let r₆ = both_right (same_bools v.given w.given) _ r₅ in
      value_eq v.lists (eqb-true _ _ (both_left _ _ e)) (numbers_one _ _ (both_left _ _ r₁)) (group_one _ _ (both_left _ _ r₂)) (bool_one _ _ (both_left _ _ r₃))
      (eqb-true _ _ (both_left _ _ r₄)) (bools_one _ _ (both_left _ _ r₅)) (group_one _ _ (both_left _ _ r₆))
      ∙ ap (λ (x : Lists). with_lists x w) (lists_one _ _ (both_right (same_group v.dispatchers w.dispatchers) _ r₆))
