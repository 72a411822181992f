-- What taking and clearing a place do to the places, to held and to all held. Assumes nothing.
use Prim.Native.Nat.{ℕ, zero, suc, ◌+◌, ◌≤◌, ◌<◌}
use mathlib.Core.Path.{◌≡◌, refl, sym, ◌∙◌, subst}
use mathlib.Core.Bool.{Bool, true, false, cond}
use mathlib.Core.List.{List}
use mathlib.Core.Logic.{◌⊎◌, inl, inr, ⊎_elim}
use native.Mathlib.Omega.{arith}
use mir.Val.{bool_byte}
use lib.Dec.{eqb, leb}
use lib.ListN.{length, get_or, set, length-set, replicate, get_or-eq_default}
use lib.Seq.{get_or-set_same, get_or-set_other, set_out}
use borrow.Author.Tests.{leb-true, leb-false, eqb-true, eqb-false, eq-eqb, ne_eqb}
use Rattle.codec.specs.Codec.{both}
use Rattle.codec.proofs.Good.{both_none, not_both}
use Rattle.profile.specs.Counting.{sum, one}
use Rattle.places.specs.Held.{no_place, place_in, no_places, waits_at, held_of, used_of}
use Rattle.places.specs.Spots.{place_for, take_of, clear_of}
use Rattle.places.specs.declared.Call.{Call}
use Rattle.places.specs.declared.Place.{Place}
use Rattle.places.proofs.SumLaws.{sum_same, sum_bump, sum_few, sum_full, sum_zero, sum_swap}

pub one_few : (b : Bool) → one b ≤ 1
one_few true = omega arith
one_few false = omega arith

-- a bool as a number, as `u8::from` makes it
pub one_byte : (b : Bool) → bool_byte b ≡ one b
one_byte true = refl
one_byte false = refl

le_or_lt : (a b : ℕ) → (a ≤ b) ⊎ (b < a)
le_or_lt a b = go (leb a b) refl
  where
    go : (t : Bool) → leb a b ≡ t → (a ≤ b) ⊎ (b < a)
    go true e = inl (leb-true a b e)
    go false e = inr (leb-false a b e)

-- ---- one place changed

module _ (l : List Place) (i : ℕ) (p : Place) (h : i < length l) where
  pub set_here : place_in (set l i p) i ≡ p
  unfolding place_in
  set_here = get_or-set_same l i p no_place h

  -- a fact of the place at j afterwards
  pub set_by : (P : Place → Type 0) (j : ℕ) → (j ≡ i → P p) → ((j ≡ i → ⊥) → P (place_in l j)) → P (place_in (set l i p) j)
  unfolding place_in
  set_by P j f g = go (eqb j i) refl
    where
      go : (b : Bool) → eqb j i ≡ b → P (get_or (set l i p) j no_place)
      go true e = let d = eqb-true j i e in subst (λ (k : ℕ). P (get_or (set l i p) k no_place)) (sym d) (subst P (sym (get_or-set_same l i p no_place h)) (f d))
      go false e = let d = eqb-false j i e in subst P (sym (get_or-set_other l i j p no_place d)) (g d)

  pub set_is : (j : ℕ) → place_in (set l i p) j ≡ cond (eqb j i) p (place_in l j)
  set_is j = set_by (λ (q : Place). q ≡ cond (eqb j i) p (place_in l j)) j (λ d. rw (eq-eqb j i d)) (λ d. rw (ne_eqb j i d))

pub set_there : (l : List Place) (i j : ℕ) (p : Place) → (j ≡ i → ⊥) → place_in (set l i p) j ≡ place_in l j
unfolding place_in
set_there l i j p d = get_or-set_other l i j p no_place d

pub past_free : (l : List Place) (i : ℕ) → length l ≤ i → place_in l i ≡ no_place
unfolding place_in
past_free l i h = get_or-eq_default l no_place h

pub set_nowhere : (l : List Place) (i : ℕ) (p : Place) → length l ≡ 32 → 32 ≤ i → set l i p ≡ l
set_nowhere l i p n h = set_out l i p (omega arith)

-- a call waits in one of the 32
pub waiting_inside : (l : List Place) → length l ≡ 32 → (i : ℕ) → (place_in l i).used ≡ true → i < 32
waiting_inside l n i u =
    ⊎_elim
    (λ h. not_both (rw (past_free l i (omega arith)) at u))
    (λ h. h)
    (le_or_lt 32 i)

-- a count over the places, with one place changed
module _ (F : Place → ℕ) (l : List Place) (n : length l ≡ 32) where
  pub count_set : (i : ℕ) (p : Place) → i < 32 → sum 32 (λ j. F (place_in (set l i p) j)) + F (place_in l i) ≡ sum 32 (λ j. F (place_in l j)) + F p
  count_set i p h =
      let e = sum_bump 32 i (λ j. F (place_in l j)) (λ j. F (place_in (set l i p) j)) h (λ j d. rw (set_there l i j p d)) in
      rw (set_here l i p (omega arith)) at e

  pub count_clear : (i : ℕ) → F no_place ≡ 0 → sum 32 (λ j. F (place_in (set l i no_place) j)) + F (place_in l i) ≡ sum 32 (λ j. F (place_in l j))
  count_clear i z =
      ⊎_elim
      (λ h. rw (set_out l i no_place (omega arith), past_free l i (omega arith)) (omega (arith, z)))
      (λ h. omega (arith, count_set i no_place h, z))
      (le_or_lt 32 i)

-- ---- the place at j after take and after clear

pub used_take : (l : List Place) (i : ℕ) (x : Call) → i < length l
    → (j : ℕ) → place_in (take_of l i x) j ≡ cond (eqb j i) (place_for x) (place_in l j)
unfolding take_of
used_take l i x h j = set_is l i (place_for x) h j

pub used_clear : (l : List Place) (i j : ℕ) → place_in (clear_of l i) j ≡ cond (eqb j i) no_place (place_in l j)
unfolding clear_of
used_clear l i j =
    ⊎_elim
    (λ h. rw (set_out l i no_place h) (by_eqb (eqb j i) refl h))
    (λ h. set_is l i no_place h j)
    (le_or_lt (length l) i)
  where
    by_eqb : (b : Bool) → eqb j i ≡ b → length l ≤ i → place_in l j ≡ cond b no_place (place_in l j)
    by_eqb true e h = let d = eqb-true j i e in past_free l j (rw d h)
    by_eqb false e h = refl

pub length_take : (l : List Place) (i : ℕ) (x : Call) → length (take_of l i x) ≡ length l
unfolding take_of
length_take l i x = length-set l i (place_for x)

pub length_clear : (l : List Place) (i : ℕ) → length (clear_of l i) ≡ length l
unfolding clear_of
length_clear l i = length-set l i no_place

-- ---- held

pub waits_not : (p : Place) (post : ℕ) → p.used ≡ false → waits_at p post ≡ false
unfolding waits_at both
waits_not p post e = rw e

pub waits_call : (x : Call) (q : ℕ) → waits_at (place_for x) q ≡ eqb x.post q
unfolding waits_at both
waits_call x q = refl

pub waits_other : (p : Place) (q : ℕ) → (q ≡ p.post → ⊥) → waits_at p q ≡ false
unfolding waits_at
waits_other p q d = rw (ne_eqb p.post q (λ z. d (sym z))) (both_none p.used)

pub waits_own : (p : Place) → p.used ≡ true → waits_at p p.post ≡ true
unfolding waits_at both
waits_own p u = rw (u, eq-eqb p.post p.post refl)

pub held_few : (l : List Place) (q : ℕ) → held_of l q ≤ 32
unfolding held_of
held_few l q = sum_few 32 (λ i. one (waits_at (place_in l i) q)) (λ i. one_few (waits_at (place_in l i) q))

pub used_few : (l : List Place) → used_of l ≤ 32
unfolding used_of
used_few l = sum_few 32 (λ i. one (place_in l i).used) (λ i. one_few (place_in l i).used)

pub used_all : (l : List Place) → ((j : ℕ) → j < 32 → (place_in l j).used ≡ true) → used_of l ≡ 32
unfolding used_of
used_all l h = sum_full 32 (λ i. one (place_in l i).used) (λ j k. rw (h j k))

module _ (l : List Place) (n : length l ≡ 32) (i : ℕ) where
  -- a free place taken
  module _ (h : i < 32) (free : (place_in l i).used ≡ false) (x : Call) where
    pub held_take : (q : ℕ) → held_of (take_of l i x) q ≡ held_of l q + one (eqb x.post q)
    unfolding held_of take_of
    held_take q =
        let e = count_set (λ (p : Place). one (waits_at p q)) l n i (place_for x) h in
        let z : one (waits_at (place_in l i) q) ≡ 0 = rw (waits_not (place_in l i) q free) in
        let w : one (waits_at (place_for x) q) ≡ one (eqb x.post q) = rw (waits_call x q) in
        omega (arith, e, z, w)

    pub held_take_own : held_of (take_of l i x) x.post ≡ held_of l x.post + 1
    held_take_own = let z : one (eqb x.post x.post) ≡ 1 = rw (eq-eqb x.post x.post refl) in omega (arith, held_take x.post, z)

    pub held_take_other : (q : ℕ) → (q ≡ x.post → ⊥) → held_of (take_of l i x) q ≡ held_of l q
    held_take_other q d =
        let z : one (eqb x.post q) ≡ 0 = rw (ne_eqb x.post q (λ k. d (sym k))) in
        omega (arith, held_take q, z)

    pub all_take : used_of (take_of l i x) ≡ used_of l + 1
    unfolding used_of take_of
    all_take =
        let e = count_set (λ (p : Place). one p.used) l n i (place_for x) h in
        let z : one (place_in l i).used ≡ 0 = rw free in
        omega (arith, e, z)

  -- any place cleared
  pub held_clear : (q : ℕ) → held_of (clear_of l i) q + one (waits_at (place_in l i) q) ≡ held_of l q
  unfolding held_of clear_of
  held_clear q = count_clear (λ (p : Place). one (waits_at p q)) l n i (rw (waits_not no_place q refl))

  pub all_clear : used_of (clear_of l i) + one (place_in l i).used ≡ used_of l
  unfolding used_of clear_of
  all_clear = count_clear (λ (p : Place). one p.used) l n i refl

-- ---- all 32 places free

zeros_at : (n i : ℕ) → get_or (replicate n no_place) i no_place ≡ no_place
zeros_at zero i = refl
zeros_at (suc n) zero = refl
zeros_at (suc n) (suc i) = zeros_at n i

pub none_at : (i : ℕ) → place_in no_places i ≡ no_place
unfolding place_in no_places
none_at i = zeros_at 32 i

pub length_none : length no_places ≡ 32
unfolding no_places
length_none = refl

pub none_held : (q : ℕ) → held_of no_places q ≡ 0
unfolding held_of
none_held q = sum_zero 32 (λ i. one (waits_at (place_in no_places i) q)) (λ i. rw (none_at i, waits_not no_place q refl))

pub none_used : used_of no_places ≡ 0
unfolding used_of
none_used = sum_zero 32 (λ i. one (place_in no_places i).used) (λ i. rw (none_at i))

-- ---- all held is the sum of what the posts hold, where every waiting call has a post below n

held_once : (p : Place) (n : ℕ) → (p.used ≡ true → p.post < n) → sum n (λ q. one (waits_at p q)) ≡ one p.used
held_once p n h = go p.used refl
  where
    go : (b : Bool) → p.used ≡ b → sum n (λ q. one (waits_at p q)) ≡ one b
    go true e =
        let z = sum_zero n (λ (q : ℕ). 0) (λ q. refl) in
        let k = sum_bump n p.post (λ (q : ℕ). 0) (λ q. one (waits_at p q)) (h e) (λ q d. rw (waits_other p q d)) in
        let w : one (waits_at p p.post) ≡ 1 = rw (waits_own p e) in
        omega (arith, z, k, w)
    go false e = sum_zero n (λ q. one (waits_at p q)) (λ q. rw (waits_not p q e))

pub all_held : (l : List Place) (n : ℕ) → ((i : ℕ) → i < 32 → (place_in l i).used ≡ true → (place_in l i).post < n) → used_of l ≡ sum n (λ q. held_of l q)
unfolding used_of held_of
all_held l n h =
    sym (sum_swap n 32 (λ q i. one (waits_at (place_in l i) q))
    ∙ sum_same 32 (λ i. one (place_in l i).used) (λ i. sum n (λ q. one (waits_at (place_in l i) q))) (λ i k. held_once (place_in l i) n (h i k)))
