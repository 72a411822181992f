-- The walk over the identities: the masks of those passed, a law for its turn, and what it comes to. Assumes nothing.
use Prim.Native.Nat.{ℕ, zero, suc, ◌+◌, ◌-◌, ◌*◌, ◌^◌, ◌<◌, ◌≤◌}
use mathlib.Core.Path.{◌≡◌, refl, sym, ap, ◌∙◌, subst}
use mathlib.Core.Bool.{Bool, false}
use mathlib.Core.List.{List, [], ◌∷◌}
use native.Mathlib.Nat.{add-zero, add-mul, mul_assoc, mul_comm, one-mul, pow-suc, zero-add, zero-mul}
use native.Mathlib.Numerals.{add-one}
use native.Mathlib.Omega.{arith}
use lib.Dec.{eqb}
use lib.ListN.{length, get_or, set, replicate}
use lib.Pow.{shl_lt}
use borrow.Author.Tests.{lt-ltb, eq-eqb}
use Rattle.std.proofs.Common.{Option}
use Rattle.bits.specs.Fields.{field_at}
use Rattle.bits.proofs.FieldLaws.{field_lt}
use Rattle.codec.specs.Codec.{both}
use Rattle.profile.specs.Counting.{one}
use Rattle.profile.specs.declared.Air.{Air}
use Rattle.message.specs.declared.Group.{Group}
use Rattle.records.specs.declared.Record.{Record}
use Rattle.records.specs.declared.Identity.{Identity}
use Rattle.records.specs.declared.Judged.{Judged}
use Rattle.records.specs.declared.Marks.{Marks}
use Rattle.records.specs.declared.Sorted.{Sorted}
use Rattle.records.specs.Identities.{identity_at, count_of, identities_of}
use Rattle.records.specs.Outcomes.{outcome_of, outcomes_of, has, mask_of, sorted_of, sorted_by}
use Rattle.records.specs.Marking.{accepted_of, unmarked, nobody_marked, with_by, with_mark, marks_of}
use Rattle.records.specs.Judging.{judged_of}
use Rattle.records.proofs.IdentityLaws.{count_le}
use Rattle.records.proofs.OutcomeLaws.{one_lt, outcomes_count, outcomes_le, outcome_at, outcome_lt}
use Rattle.records.proofs.MarkLaws.{marks_left, marks_start, marks_more, marks_end}
use Rattle.records.proofs.MaskLaws.{by_count, some_mask}

-- ---- the mask of an outcome over the first i identities

unfoldable pub part_to : ℕ → List ℕ → ℕ → ℕ
part_to class os i = field_at (λ k. one (has class os k)) 0 i * 2 ^ (64 - i)

twice : (a y p : ℕ) → (a * 2 + y) * p ≡ a * (p * 2) + y * p
twice a y p = add-mul (a * 2) y p ∙ ap (λ (x : ℕ). x + y * p) (mul_assoc a 2 p ∙ ap (λ (x : ℕ). a * x) (mul_comm 2 p))

module _ (class : ℕ) (os : List ℕ) where
  part_lt : (i : ℕ) → i ≤ 64 → part_to class os i < 2 ^ 64
  unfolding part_to
  part_lt i h =
      let w : i + (64 - i) ≡ 64 = omega arith in
      let b = field_lt (λ k. one (has class os k)) (λ k. one_lt (has class os k)) 0 i in
      subst (λ (x : ℕ). field_at (λ k. one (has class os k)) 0 i * 2 ^ (64 - i) < 2 ^ x) w (shl_lt i (64 - i) b)

  -- identity i has its bit in the mask of its own outcome, and in no other
  part_more : (i : ℕ) → i < length os → i < 64 → part_to class os (i + 1) ≡ part_to class os i + one (eqb (get_or os i 0) class) * 2 ^ (63 - i)
  unfolding part_to field_at has both
  part_more i h k =
      let s : 64 - suc i ≡ 63 - i = omega arith in
      let t : 64 - i ≡ suc (63 - i) = omega arith in
      rw (add-one, s, t, pow-suc, zero-add i, lt-ltb i (length os) h) (twice _ _ _)

  part_end : (i : ℕ) → length os ≡ i → i ≤ 64 → part_to class os i ≡ mask_of class os
  unfolding part_to
  part_end i e h = sym (by_count class os i e h)

-- ---- all three: the masks when i identities are passed

unfoldable pub masks_to : List ℕ → ℕ → List ℕ
masks_to os i = part_to 0 os i ∷ part_to 1 os i ∷ part_to 2 os i ∷ []

pub masks_start : (os : List ℕ) → replicate 3 0 ≡ masks_to os 0
unfolding masks_to part_to field_at
masks_start os = refl

-- one of three numbers is raised by the bit
raised : (a b c o bit : ℕ) → o < 3
    → set (a ∷ b ∷ c ∷ []) o (get_or (a ∷ b ∷ c ∷ []) o 0 + bit) ≡ (a + one (eqb o 0) * bit) ∷ (b + one (eqb o 1) * bit) ∷ (c + one (eqb o 2) * bit) ∷ []
raised a b c zero bit h = rw (one-mul bit, zero-mul bit, add-zero b, add-zero c) refl
raised a b c (suc zero) bit h = rw (one-mul bit, zero-mul bit, add-zero a, add-zero c) refl
raised a b c (suc (suc zero)) bit h = rw (one-mul bit, zero-mul bit, add-zero a, add-zero b) refl
raised a b c (suc (suc (suc o))) bit h = absurd (omega arith)

module _ (os : List ℕ) (i : ℕ) (h : i < length os) (l : length os ≤ 64) where
  one_more : (o : ℕ) → o ≡ get_or os i 0 → o < 3 → set (masks_to os i) o (get_or (masks_to os i) o 0 + 2 ^ (63 - i)) ≡ masks_to os (i + 1)
  unfolding masks_to
  one_more o d t =
      let k : i < 64 = omega arith in
      raised (part_to 0 os i) (part_to 1 os i) (part_to 2 os i) o (2 ^ (63 - i)) t
      ∙ rw (d, ← part_more 0 os i h k, ← part_more 1 os i h k, ← part_more 2 os i h k) refl

  own_room : (class : ℕ) → class ≡ get_or os i 0 → part_to class os i + 2 ^ (63 - i) < 2 ^ 64
  own_room class d =
      let e : part_to class os (i + 1) ≡ part_to class os i + 2 ^ (63 - i) =
      part_more class os i h (omega arith) ∙ rw (eq-eqb (get_or os i 0) class (sym d), one-mul) refl in
      rw (← e) (part_lt class os (i + 1) (omega arith))

  one_room : (o : ℕ) → o ≡ get_or os i 0 → o < 3 → get_or (masks_to os i) o 0 + 2 ^ (63 - i) < 2 ^ 64
  unfolding masks_to
  one_room zero d t = own_room 0 d
  one_room (suc zero) d t = own_room 1 d
  one_room (suc (suc zero)) d t = own_room 2 d
  one_room (suc (suc (suc o))) d t = absurd (omega arith)

-- ---- the turn: identity i has the outcome o

module _ (air : Air) (g : Group) (rows : List Record) (post i n : ℕ) (m : n ≡ count_of air g) (h : i < n) (id : Identity) (d : id ≡ identity_at air g i)
    (o : ℕ) (e : o ≡ outcome_of rows post (eqb air.unknown air.other) id) (ms : List ℕ) (v : ms ≡ masks_to (outcomes_of air g rows post) i)
    (bit : ℕ) (b : bit ≡ 2 ^ (63 - i)) where
  few : o < 3
  few = rw e (outcome_lt rows post (eqb air.unknown air.other) id)

  its_outcome : o ≡ get_or (outcomes_of air g rows post) i 0
  its_outcome = e ∙ rw d (sym (outcome_at air g rows post i (omega arith)))

  there : i < length (outcomes_of air g rows post)
  there = rw (outcomes_count air g rows post) (omega arith)

  pub masks_more : set ms o (get_or ms o 0 + bit) ≡ masks_to (outcomes_of air g rows post) (i + 1)
  masks_more = rw (v, b) (one_more (outcomes_of air g rows post) i there (outcomes_le air g rows post) o its_outcome few)

  pub masks_room : get_or ms o 0 + bit < 2 ^ 64
  masks_room = rw (v, b) (one_room (outcomes_of air g rows post) i there (outcomes_le air g rows post) o its_outcome few)

-- ---- the walk: what is known when i identities are passed

pub record Passed (to : Bool) (air : Air) (g : Group) (rows : List Record) (post : ℕ) (masks : List ℕ) (at : List Bool) (i : ℕ) : Type 0 where
  pub sums : masks ≡ masks_to (outcomes_of air g rows post) i
  pub marks : marks_of to rows post (identities_of air g) ≡ marks_left air g rows post (record { at = at; mark = to }) i

pub passed_none : (to : Bool) (air : Air) (g : Group) (rows : List Record) (post : ℕ) → Passed to air g rows post (replicate 3 0) (replicate 128 false) 0
unfolding nobody_marked unmarked
passed_none to air g rows post = record { sums = masks_start (outcomes_of air g rows post); marks = marks_start air g rows post to _ refl }

-- identity i has the outcome o
module _ {to : Bool} {air : Air} {g : Group} {rows : List Record} {post : ℕ} {masks : List ℕ} {at : List Bool} {i : ℕ} (p : Passed to air g rows post masks at i)
    {n : ℕ} (m : n ≡ count_of air g) (h : i < n) {id : Identity} (d : id ≡ identity_at air g i) {bit : ℕ} (b : bit ≡ 2 ^ (63 - i))
    {o : ℕ} (e : o ≡ outcome_of rows post (eqb air.unknown air.other) id) where
  pub mask_room : get_or masks o 0 + bit < 2 ^ 64
  mask_room = masks_room air g rows post i n m h id d o e masks p.sums bit b

  pub passed_more : {f : Option ℕ} → f ≡ accepted_of rows post id → {more : List ℕ} → more ≡ set masks o (get_or masks o 0 + bit)
      → {next : List Bool} → next ≡ with_by at f
      → Passed to air g rows post more next (i + 1)
  unfolding with_mark
  passed_more {f} a {more} s {next} w =
      record {
        sums = s ∙ masks_more air g rows post i n m h id d o e masks p.sums bit b;
        marks = marks_more _ air g rows post (record { at = at; mark = to }) i p.marks n m id f (record { at = next; mark = to }) h d a (rw w refl);
      }

-- ---- the end

sorted_so : (os : List ℕ) → length os ≤ 64 → sorted_by (mask_of 0 os ∷ mask_of 1 os ∷ mask_of 2 os ∷ []) ≡ sorted_of os
unfolding sorted_by sorted_of
sorted_so os l = rw (some_mask 0 os l, some_mask 1 os l, some_mask 2 os l)

pub judged_end : (to : Bool) (air : Air) (g : Group) (rows : List Record) (post : ℕ) (ms : List ℕ) (i n : ℕ) → i ≤ n → n ≤ i → n ≡ count_of air g
    → ms ≡ masks_to (outcomes_of air g rows post) i
    → (s : Sorted) → s ≡ sorted_by ms
    → (marks : Marks) → marks ≡ marks_of to rows post (identities_of air g)
    → ◌≡◌ {A = Judged} (record { sorted = s; marks = marks }) (judged_of to air g rows post)
unfolding judged_of masks_to
judged_end to air g rows post ms i n p q m v s z marks w =
    let os = outcomes_of air g rows post in
    let c : length os ≡ i = outcomes_count air g rows post ∙ omega arith in
    let k : i ≤ 64 = omega (arith, count_le air g) in
    let y : s ≡ sorted_of os = z ∙ rw (v, part_end 0 os i c k, part_end 1 os i c k, part_end 2 os i c k) (sorted_so os (outcomes_le air g rows post)) in
    rw (y, w)

pub passed_all : {to : Bool} {air : Air} {g : Group} {rows : List Record} {post : ℕ} {masks : List ℕ} {at : List Bool} {i n : ℕ} → Passed to air g rows post masks at i
    → i ≤ n → n ≤ i → n ≡ count_of air g
    → (s : Sorted) → s ≡ sorted_by masks
    → ◌≡◌ {A = Judged} (record { sorted = s; marks = record { at = at; mark = to } }) (judged_of to air g rows post)
passed_all {to} {air} {g} {rows} {post} {masks} {at} {i} {n} w p q m s z =
    judged_end to air g rows post masks i n p q m w.sums s z _ (marks_end _ air g rows post (record { at = at; mark = to }) i w.marks n m q)

-- ---- what was judged, taken apart

module _ (to : Bool) (air : Air) (g : Group) (rows : List Record) (post : ℕ) (x : Judged) (e : x ≡ judged_of to air g rows post) where
  pub judged_sorted : x.sorted ≡ sorted_of (outcomes_of air g rows post)
  unfolding judged_of
  judged_sorted = ap (λ (y : Judged). y.sorted) e

  pub judged_marks : x.marks ≡ marks_of to rows post (identities_of air g)
  unfolding judged_of
  judged_marks = ap (λ (y : Judged). y.marks) e
