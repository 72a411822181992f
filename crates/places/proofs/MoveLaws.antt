-- A call moves to its second post: as it ends at the one and is taken, in the same place, at the other. Assumes nothing.
use Prim.Native.Nat.{ℕ}
use mathlib.Core.Path.{◌≡◌, refl, sym, ap, ◌∙◌, subst}
use mathlib.Core.Bool.{true}
use mathlib.Core.List.{List}
use lib.ListN.{length}
use lib.Seq.{set-set}
use borrow.Author.Tests.{eq-eqb}
use Rattle.codec.proofs.Good.{not_both}
use Rattle.profile.specs.declared.Shares.{Shares}
use Rattle.places.specs.Held.{no_place, place_in, admits_of}
use Rattle.places.specs.Grounds.{places_ok}
use Rattle.places.specs.Spots.{spot_at, place_of, place_for, take_of, clear_of, moved_on, move_of}
use Rattle.places.specs.declared.Call.{Call}
use Rattle.places.specs.declared.Place.{Place}
use Rattle.places.specs.declared.Places.{Places}
use Rattle.places.proofs.SpotLaws.{place_of_exactly}
use Rattle.places.proofs.HeldLaws.{used_clear, length_take, length_clear}
use Rattle.places.proofs.PlaceLaws.{passes, take_keeps_at, clear_keeps}
use Rattle.places.proofs.CallLaws.{place_clear_own}

-- a place that is cleared first is taken as it would be
take_cleared : (l : List Place) (i : ℕ) (x : Call) → take_of (clear_of l i) i x ≡ take_of l i x
unfolding take_of clear_of
take_cleared l i x = set-set l i no_place (place_for x)

pub move_is : (l : List Place) (i : ℕ) → move_of l i ≡ take_of (clear_of l i) i (moved_on (place_in l i))
unfolding move_of
move_is l i = sym (take_cleared l i (moved_on (place_in l i)))

pub length_move : (l : List Place) (i : ℕ) → length (move_of l i) ≡ length l
unfolding move_of
length_move l i = length_take l i (moved_on (place_in l i))

-- as the code has it
pub moved_place : (l : List Place) (i : ℕ) (p : Place) (r : Places) → p ≡ place_in l i → r ≡ record { place = take_of l i (moved_on p) } → r ≡ record { place = move_of l i }
unfolding move_of
moved_place l i p r z e = e ∙ ap (λ (q : Place). record { place = take_of l i (moved_on q) }) z

pub clear_free : (l : List Place) (i : ℕ) → place_in (clear_of l i) i ≡ no_place
clear_free l i = used_clear l i i ∙ rw (eq-eqb i i refl) refl

-- where the places rule says yes for the second post, the call's own place taken as free, a move keeps the places good
pub move_keeps : (shares : Shares) (l : List Place) → length l ≡ 32 → (identifier i : ℕ) → places_ok shares l ≡ true → place_of l identifier ≡ spot_at i
    → (place_in l i).more ≡ true → admits_of shares (clear_of l i) (place_in l i).second ≡ true → places_ok shares (move_of l i) ≡ true
move_keeps shares l n identifier i ok at two a =
    let f = place_of_exactly l identifier i at in
    let w = (passes shares l ok).calls i f.inside f.used in
    subst (λ (m : List Place). places_ok shares m ≡ true) (sym (move_is l i))
    (take_keeps_at shares (clear_of l i) (length_clear l i ∙ n) i (moved_on (place_in l i)) (clear_keeps shares l n i ok)
    (record { small = w.small; below = w.second two; second = λ z. not_both z; cause = w.cause })
    (ap (λ (k : ℕ). (place_of (clear_of l i) k).found) f.same ∙ place_clear_own l i shares ok identifier at)
    a f.inside (ap (λ (p : Place). p.used) (clear_free l i)))
