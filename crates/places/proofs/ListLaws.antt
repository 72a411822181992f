-- What the code's chains over the places find, said of the places' numbers. Assumes nothing.
use Prim.Native.Nat.{ℕ, zero, suc, ◌+◌}
use mathlib.Core.Path.{◌≡◌, refl, sym, ◌∙◌, ap}
use mathlib.Core.Bool.{Bool, true, false, not, cond}
use mathlib.Core.List.{List}
use native.Mathlib.Omega.{arith}
use lib.ListN.{length}
use Rattle.std.specs.Option.{unwrap_or}
use Rattle.std.specs.List.{list_all, count_by, position}
use Rattle.profile.specs.Counting as counting
use Rattle.profile.proofs.CountLaws.{every_listed, sum_listed, lowest_listed}
use Rattle.places.specs.Held.{no_place, place_in, waits_at, held_of, used_of}
use Rattle.places.specs.Grounds.{call_ok}
use Rattle.places.specs.Spots.{spot_at, lowest_from, lowest, has_call, place_of, lowest_free, number_in, spot_of}
use Rattle.places.specs.declared.Place.{Place}
use Rattle.places.proofs.SpotLaws.{spot_back}

pub all_calls : (posts : ℕ) (l : List Place) → length l ≡ 32 → list_all (λ (p : Place). call_ok posts p) l ≡ counting.every 32 (λ i. call_ok posts (place_in l i))
unfolding place_in
all_calls posts l e = every_listed l no_place (λ (p : Place). call_ok posts p) 32 (sym e)

pub held_listed : (l : List Place) (post : ℕ) → length l ≡ 32 → count_by (λ (p : Place). waits_at p post) l ≡ held_of l post
unfolding held_of place_in
held_listed l post e = sum_listed l no_place (λ (p : Place). counting.one (waits_at p post)) 32 (sym e)

pub used_listed : (l : List Place) → length l ≡ 32 → count_by (λ (p : Place). p.used) l ≡ used_of l
unfolding used_of place_in
used_listed l e = sum_listed l no_place (λ (p : Place). counting.one p.used) 32 (sym e)

-- ---- the spot of the position that a search found

-- the number of the lowest that passes is that of its spot
number_from : (n i : ℕ) (test : ℕ → Bool) → i + n ≡ 32 → counting.lowest_from n i test ≡ number_in (lowest_from n i test)
unfolding counting.lowest_from lowest_from
number_from zero i test e = omega arith
number_from (suc n) i test e = go (test i) (number_from n (suc i) test (omega arith))
  where
    go : (b : Bool) → counting.lowest_from n (suc i) test ≡ number_in (lowest_from n (suc i) test) → cond b i (counting.lowest_from n (suc i) test) ≡ number_in (cond b (spot_at i) (lowest_from n (suc i) test))
    go true h = refl
    go false h = h

spot_listed : (test : Place → Bool) (l : List Place) → length l ≡ 32 → spot_of (unwrap_or (position test l) 32) ≡ lowest 32 (λ i. test (place_in l i))
unfolding place_in
spot_listed test l e =
    ap spot_of (lowest_listed test no_place l 32 (sym e) ∙ number_from 32 0 (λ i. test (place_in l i)) refl) ∙ spot_back (λ i. test (place_in l i))

pub free_spot : (l : List Place) → length l ≡ 32 → spot_of (unwrap_or (position (λ (p : Place). not p.used) l) 32) ≡ lowest_free l
unfolding lowest_free
free_spot l e = spot_listed (λ (p : Place). not p.used) l e

pub call_spot : (l : List Place) (identifier : ℕ) → length l ≡ 32 → spot_of (unwrap_or (position (λ (p : Place). has_call p identifier) l) 32) ≡ place_of l identifier
unfolding place_of
call_spot l identifier e = spot_listed (λ (p : Place). has_call p identifier) l e
