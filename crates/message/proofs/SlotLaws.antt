-- A walk over the first k of some slots: at the i-th, what is left are the first k - i of those from there on. Assumes nothing.
use Prim.Native.Nat.{ℕ, zero, suc, ◌+◌, ◌-◌, ◌≤◌, ◌<◌}
use mathlib.Core.Path.{◌≡◌, refl}
use mathlib.Core.List.{List, [], ◌∷◌}
use native.Mathlib.Nat.{sub-zero}
use native.Mathlib.Numerals.{add-one}
use native.Mathlib.Omega.{arith}
use lib.ListN.{length, drop, get_or, drop_of_length-le}
use lib.Seq.{drop-cons}
use Rattle.message.specs.Rows.{first_parts}
use Rattle.message.specs.declared.Part.{Part}
use Rattle.message.specs.declared.Part.TheVariants as part
use Rattle.message.specs.declared.Slot.{Slot}

module _ (k : ℕ) (l : List Slot) (i : ℕ) where
  abbrev pub part_left : List Part
  part_left = first_parts (k - i) (drop i l)

  -- one more
  pub slot_more : i < k → i < length l → part_left ≡ (get_or l i (record { part = part.Nothing })).part ∷ first_parts (k - (i + 1)) (drop (i + 1) l)
  unfolding first_parts
  slot_more h m =
      let e : k - i ≡ suc (k - (i + 1)) = omega arith in
      rw (e, add-one, drop-cons l i (record { part = part.Nothing }) m)

  -- no more: all k are done, or there is no slot
  pub slot_end : k ≤ i → part_left ≡ []
  unfolding first_parts
  slot_end h = let z : k - i ≡ 0 = omega arith in rw z

  slot_none : (j : ℕ) → first_parts j [] ≡ []
  unfolding first_parts
  slot_none zero = refl
  slot_none (suc j) = refl

  pub slot_past : length l ≤ i → part_left ≡ []
  slot_past h = rw (drop_of_length-le l h) (slot_none (k - i))

pub slot_start : (k : ℕ) (l : List Slot) → first_parts k l ≡ first_parts (k - 0) (drop 0 l)
slot_start k l = rw sub-zero
