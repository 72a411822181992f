-- A group is a good codec, and a valid one has at most 15 addresses and 64 identities. Assumes nothing.
use Prim.Native.Nat.{ℕ, zero, suc, ◌+◌, ◌-◌, ◌≤◌}
use mathlib.Core.Path.{◌≡◌, refl, sym, ap, ◌∙◌}
use mathlib.Core.Bool.{Bool, true}
use mathlib.Core.List.{List, [], ◌∷◌, ◌++◌}
use native.Mathlib.Nat.{suc-sub-suc, sub-zero}
use native.Mathlib.Omega.{arith}
use lib.Dec.{eqb, leb}
use lib.ListN.{length, take, drop, get_or, replicate, take-append-drop}
use lib.Seq.{sets, sets-eq, take_at, drop_at}
use borrow.Author.Tests.{leb-true}
use Rattle.codec.specs.Codec.{Codec, number, vec, vec_ok}
use Rattle.codec.proofs.Good.{Good, both_true, both_left, both_right, not_both}
use Rattle.codec.proofs.Combinators.{good_number, good_guard, good_seq, good_map, good_iso, good_vec}
use Rattle.profile.specs.Rules.{meaning_in}
use Rattle.profile.specs.declared.Kind.{Kind}
use Rattle.profile.specs.declared.Kind.TheVariants as kind
use Rattle.profile.specs.declared.Meaning.{Meaning}
use Rattle.profile.specs.declared.Air.{Air}
use Rattle.message.specs.Elements as element
use Rattle.message.specs.Addresses.{nobody, is_nobody, address_c}
use Rattle.message.specs.Groups.{addresses_by, addresses_in, allowed_by, allowed_in, are_none, fifteen_c, places_c, range_ok, ends_by, ends_ok, addresses_c, range_c, group_c, span_by, span_in, span_of}
use Rattle.message.specs.declared.Address.{Address}
use Rattle.message.specs.declared.Group.{Group}
use Rattle.message.proofs.AddressLaws.{good_address, is_nobody_lem, nobody_is}

-- ---- fifteen places of one kind of thing

module _ {A : Type 0} (none : A) (isNone : A → Bool) (C : Codec A) (is-none : (a : A) → isNone a ≡ true → a ≡ none) (none_is : isNone none ≡ true) (good : Good C) where
  valid_length : (k : ℕ) (xs : List A) → vec_ok C k xs ≡ true → length xs ≡ k
  valid_length zero [] v = refl
  valid_length zero (a ∷ xs) v = not_both v
  valid_length (suc k) [] v = not_both v
  valid_length (suc k) (a ∷ xs) v = ap suc (valid_length k xs (both_right _ _ v))

  are_none_lem : (k : ℕ) (l : List A) → are_none isNone k l ≡ true → l ≡ replicate k none
  unfolding are_none
  are_none_lem zero [] e = refl
  are_none_lem zero (a ∷ l) e = not_both e
  are_none_lem (suc k) [] e = not_both e
  are_none_lem (suc k) (a ∷ l) e = rw (is-none a (both_left _ _ e), are_none_lem k l (both_right (isNone a) _ e))

  none_are : (k : ℕ) → are_none isNone k (replicate k none) ≡ true
  unfolding are_none
  none_are zero = refl
  none_are (suc k) = both_true _ _ none_is (none_are k)

  drop_same : (n k : ℕ) → drop k (replicate n none) ≡ replicate (n - k) none
  drop_same n zero = rw sub-zero
  drop_same zero (suc k) = let z : 0 - suc k ≡ 0 = omega arith in rw z
  drop_same (suc n) (suc k) = drop_same n k ∙ ap (λ (m : ℕ). replicate m none) (sym (suc-sub-suc n k))

  sets_is : (k : ℕ) (xs : List A) → k ≤ 15 → length xs ≡ k → sets (replicate 15 none) 0 xs ≡ xs ++ replicate (15 - k) none
  sets_is k xs h e =
      let z : 0 + length xs ≡ k = omega arith in
      sets-eq xs (replicate 15 none) 0 (omega arith) ∙ ap (λ (m : ℕ). xs ++ drop m (replicate 15 none)) z ∙ ap (λ (r : List A). xs ++ r) (drop_same 15 k)

  take_sets : (k : ℕ) (xs : List A) → k ≤ 15 → length xs ≡ k → take k (sets (replicate 15 none) 0 xs) ≡ xs
  take_sets k xs h e = rw (sets_is k xs h e) (take_at xs _ k e)

  sets_fits : (k : ℕ) (xs : List A) → k ≤ 15 → length xs ≡ k → are_none isNone (15 - k) (drop k (sets (replicate 15 none) 0 xs)) ≡ true
  sets_fits k xs h e = rw (sets_is k xs h e, drop_at xs (replicate (15 - k) none) k e) (none_are (15 - k))

  sets_there : (k : ℕ) (l : List A) → k ≤ 15 → are_none isNone (15 - k) (drop k l) ≡ true → length (take k l) ≡ k → sets (replicate 15 none) 0 (take k l) ≡ l
  sets_there k l h e n = sets_is k (take k l) h n ∙ ap (λ (r : List A). take k l ++ r) (sym (are_none_lem (15 - k) (drop k l) e)) ∙ take-append-drop k l

  pub good_fifteen : (k : ℕ) → k ≤ 15 → Good (fifteen_c none isNone C k)
  good_fifteen k h =
      good_map (λ xs. sets (replicate 15 none) 0 xs) (λ l. take k l) (λ l. are_none isNone (15 - k) (drop k l)) (vec k C)
      (λ xs v. take_sets k xs h (valid_length k xs v))
      (λ xs v. sets_fits k xs h (valid_length k xs v))
      (λ l e v. sets_there k l h e (valid_length k (take k l) v))
      (good_vec C good k)

good_places : (external : Bool) (k : ℕ) → k ≤ 15 → Good (places_c external k)
unfolding places_c
good_places external k h = good_fifteen nobody is_nobody (address_c external) is_nobody_lem nobody_is (good_address external) k h

-- ---- the group

few_by : (k : Kind) (n : ℕ) (none : Bool) → allowed_by k n none ≡ true → addresses_by k n ≤ 15
few_by kind.Reserved n none e = omega arith
few_by kind.Nobody n none e = omega arith
few_by kind.Listed n none e = leb-true n 15 (both_right (leb 1 n) (leb n 15) e)
few_by kind.FirstLast n none e = omega arith

-- a meaning that is allowed has at most 15 addresses
pub few_addresses : (none : Bool) (m : Meaning) → allowed_in none m ≡ true → addresses_in m ≤ 15
unfolding addresses_in allowed_in
few_addresses none m e = few_by m.kind m.count none e

good_addresses : (external : Bool) (m : Meaning) → addresses_in m ≤ 15 → Good (addresses_c external m)
unfolding addresses_c
good_addresses external m h = good_guard 11 (λ l. ends_ok m l) (places_c external (addresses_in m)) refl (good_places external (addresses_in m) h)

pub good_range : (air : Air) (none : Bool) → Good (range_c air none)
unfolding range_c
good_range air none = good_guard 9 (λ r. allowed_in none (meaning_in air.meanings r)) (number element.range 4) refl (good_number element.range 4)

pub range_allowed : (air : Air) (none : Bool) (r : ℕ) → (range_c air none).ok r ≡ true → allowed_in none (meaning_in air.meanings r) ≡ true
unfolding range_c
range_allowed air none r v = both_right _ _ v

pub good_group : (air : Air) (none external : Bool) → Good (group_c air none external)
unfolding group_c
good_group air none external =
    good_iso _ _ _ (λ x v. refl) (λ b _. refl)
    (good_seq (range_c air none) (λ r. addresses_c external (meaning_in air.meanings r)) (good_range air none)
    (λ r v. good_addresses external (meaning_in air.meanings r) (few_addresses none (meaning_in air.meanings r) (range_allowed air none r v))))

-- ---- what a valid group names

range_span : (a b : Address) → range_ok a b ≡ true → b.ssi - a.ssi + 1 ≤ 64
unfolding range_ok
range_span a b t =
    let u = both_right (eqb a.kind b.kind) _ t in
    let w = both_right (eqb a.extension b.extension) _ u in
    leb-true (b.ssi - a.ssi + 1) 64 (both_right (leb a.ssi b.ssi) _ w)

span_by_lem : (k : Kind) (n : ℕ) (none : Bool) (l : List Address) → allowed_by k n none ≡ true → ends_by k l ≡ true → span_by k n l ≤ 64
span_by_lem kind.Reserved n none l e t = omega arith
span_by_lem kind.Nobody n none l e t = omega arith
span_by_lem kind.Listed n none l e t = let h = leb-true n 15 (both_right (leb 1 n) (leb n 15) e) in omega arith
span_by_lem kind.FirstLast n none l e t = range_span (get_or l 0 nobody) (get_or l 1 nobody) t

module _ (air : Air) (none external : Bool) (g : Group) (v : (group_c air none external).ok g ≡ true) where
  range_valid : (range_c air none).ok g.range ≡ true
  unfolding group_c
  range_valid = both_left _ _ (both_right true _ v)

  -- at most 64 identities
  pub few_identities : span_of air g ≤ 64
  unfolding group_c addresses_c ends_ok allowed_in span_of span_in
  few_identities =
      span_by_lem (meaning_in air.meanings g.range).kind (meaning_in air.meanings g.range).count none g.addresses
      (range_allowed air none g.range range_valid) (both_right _ _ (both_right _ _ (both_right true _ v)))
