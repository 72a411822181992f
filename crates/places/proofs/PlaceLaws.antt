-- The laws that demand 3 rests on: taking and clearing a place keep the desk's places good, an admitted call has a place, and a post below
-- its reserved number is admitted. Assumes nothing.
use Prim.Native.Nat.{ℕ, ◌+◌, ◌^◌, ◌≤◌, ◌<◌}
use mathlib.Core.Path.{◌≡◌, refl, sym, ap, ◌∙◌}
use mathlib.Core.Bool.{Bool, true, false, not, cond, ◌||◌, or-true}
use mathlib.Core.List.{List}
use mathlib.Core.Logic.{◌⊎◌, inl, inr, ⊎_elim}
use native.Mathlib.Omega.{arith}
use lib.Dec.{eqb, leb, ltb}
use lib.ListN.{length, set}
use borrow.Author.Tests.{eq-eqb, eqb-true, ltb-true, lt-ltb, leb-true, le-leb}
use Rattle.codec.specs.Codec.{both}
use Rattle.codec.proofs.Good.{both_true, both_left, both_right, not_both}
use Rattle.profile.specs.Counting.{every, sum, one}
use Rattle.profile.specs.Rules.{share_ok, share_in, shares_ok}
use Rattle.profile.specs.declared.Shares.{Shares}
use Rattle.profile.proofs.CountLaws.{every_at}
use Rattle.places.specs.Held.{no_place, place_in, no_places, waits_at, held_of, used_of, free_of, owed_of, owed_all, owed_others, load_of, admits_of}
use Rattle.places.specs.Grounds.{second_ok, waiting_ok, call_ok, apart, alone_at, under_ceiling, places_ok}
use Rattle.places.specs.Spots.{spot_at, place_of, lowest_free, place_for, take_of, clear_of}
use Rattle.places.specs.declared.Call.{Call}
use Rattle.places.specs.declared.Place.{Place}
use Rattle.places.proofs.SumLaws.{every_all, sum_same, sum_bump, sum_without}
use Rattle.places.proofs.SpotLaws.{lowest_free_exactly, none_free_exactly, no_place_exactly}
use Rattle.places.proofs.HeldLaws.{one_few, set_by, waits_not, waits_other, waiting_inside, used_all, used_clear, held_take_own, held_take_other, all_take, held_clear, all_clear, none_at, none_held, none_used, all_held}

-- ---- the tests, as facts

-- a call that 1 passes
pub record Sound (posts : ℕ) (p : Place) : Type 0 where
  pub small : p.identifier < 2 ^ 14
  pub below : p.post < posts
  pub second : p.more ≡ true → p.second < posts
  pub cause : p.cause < 2 ^ 5

second_ok_lem : (posts : ℕ) (p : Place) → (p.more ≡ true → p.second < posts) → second_ok posts p ≡ true
unfolding second_ok
second_ok_lem posts p h = go p.more refl
  where
    go : (b : Bool) → p.more ≡ b → cond b (ltb p.second posts) true ≡ true
    go true e = lt-ltb _ _ (h e)
    go false e = refl

second_fact : (posts : ℕ) (p : Place) → second_ok posts p ≡ true → p.more ≡ true → p.second < posts
unfolding second_ok
second_fact posts p e h = ltb-true _ _ (rw h at e)

call_ok_lem : (posts : ℕ) (p : Place) → (p.used ≡ true → Sound posts p) → call_ok posts p ≡ true
unfolding call_ok
call_ok_lem posts p h = go p.used refl
  where
    go : (b : Bool) → p.used ≡ b → cond b (waiting_ok posts p) true ≡ true
    go true e = let w = h e in both_true _ _ (lt-ltb _ _ w.small) (both_true _ _ (lt-ltb _ _ w.below) (both_true _ _ (second_ok_lem posts p w.second) (lt-ltb _ _ w.cause)))
    go false e = refl

call_fact : (posts : ℕ) (p : Place) → call_ok posts p ≡ true → p.used ≡ true → Sound posts p
unfolding call_ok
call_fact posts p e u =
    let k : waiting_ok posts p ≡ true =
    ap (λ (b : Bool). cond b (waiting_ok posts p) true) (sym u) ∙ e in
    let m = both_right (ltb p.identifier (2 ^ 14)) _ k in
    let o = both_right (ltb p.post posts) _ m in
    record { small = ltb-true _ _ (both_left _ _ k); below = ltb-true _ _ (both_left _ _ m); second = second_fact posts p (both_left _ _ o); cause = ltb-true _ _ (both_right (second_ok posts p) _ o) }

abbrev Differ : Place → Place → Type 0
Differ p q = p.used ≡ true → q.used ≡ true → p.identifier ≡ q.identifier → ⊥

apart_ok : (p q : Place) → Differ p q → apart p q ≡ true
unfolding apart both
apart_ok p q h = go p.used refl q.used refl (eqb p.identifier q.identifier) refl
  where
    go : (b : Bool) → p.used ≡ b → (d : Bool) → q.used ≡ d → (t : Bool) → eqb p.identifier q.identifier ≡ t → not (both b (both d t)) ≡ true
    go true e true f true k = absurd (h e f (eqb-true _ _ k))
    go true e true f false k = refl
    go true e false f t k = refl
    go false e d f t k = refl

apart_fact : (p q : Place) → apart p q ≡ true → Differ p q
unfolding apart both
apart_fact p q e u v d = not_both (rw (u, v, eq-eqb _ _ d) at e)

-- what `places_ok` says, as facts
pub record Passes (shares : Shares) (l : List Place) : Type 0 where
  pub calls : (i : ℕ) → i < 32 → (place_in l i).used ≡ true → Sound shares.posts (place_in l i)
  pub alone : (i j : ℕ) → i < 32 → j < i → (place_in l i).used ≡ true → (place_in l j).used ≡ true → (place_in l i).identifier ≡ (place_in l j).identifier → ⊥
  pub under : (p : ℕ) → p < shares.posts → held_of l p ≤ (share_in shares.share p).ceiling
  pub load : load_of shares l ≤ 32

module _ (shares : Shares) (l : List Place) where
  abbrev ok_calls : Bool
  ok_calls = every 32 (λ i. call_ok shares.posts (place_in l i))

  abbrev ok_alone : Bool
  ok_alone = every 32 (λ i. alone_at l i)

  abbrev ok_under : Bool
  ok_under = every shares.posts (λ p. under_ceiling shares l p)

  pub passes : places_ok shares l ≡ true → Passes shares l
  unfolding places_ok alone_at under_ceiling
  passes e =
      let a = both_right ok_calls _ e in
      let b = both_right ok_alone _ a in
      record {
        calls = λ i h. call_fact shares.posts (place_in l i) (every_at 32 _ (both_left ok_calls _ e) i h);
        alone = λ i j h k. apart_fact (place_in l i) (place_in l j) (every_at i _ (every_at 32 _ (both_left ok_alone _ a) i h) j k);
        under = λ p h. leb-true _ _ (every_at shares.posts _ (both_left ok_under _ b) p h);
        load = leb-true _ _ (both_right ok_under _ b);
      }

  pub passed : Passes shares l → places_ok shares l ≡ true
  unfolding places_ok alone_at under_ceiling
  passed w =
      both_true _ _ (every_all 32 _ (λ i h. call_ok_lem shares.posts (place_in l i) (w.calls i h)))
      (both_true _ _ (every_all 32 _ (λ i h. every_all i _ (λ j k. apart_ok (place_in l i) (place_in l j) (w.alone i j h k))))
      (both_true _ _ (every_all shares.posts _ (λ p h. le-leb _ _ (w.under p h))) (le-leb _ _ w.load)))

  -- the places rule, as orders
  pub admits_rule : (p : ℕ) → admits_of shares l p ≡ true
      → (held_of l p < (share_in shares.share p).ceiling) × ((held_of l p < (share_in shares.share p).reserved) ⊎ (owed_others shares l p < free_of l))
  unfolding admits_of
  admits_rule p e =
      let c = both_left (ltb (held_of l p) (share_in shares.share p).ceiling) _ e in
      let r = both_right (ltb (held_of l p) (share_in shares.share p).ceiling) _ e in
      (ltb-true _ _ c, either (ltb (held_of l p) (share_in shares.share p).reserved) refl r)
    where
      either : (b : Bool) → ltb (held_of l p) (share_in shares.share p).reserved ≡ b → (b || ltb (owed_others shares l p) (free_of l)) ≡ true
          → (held_of l p < (share_in shares.share p).reserved) ⊎ (owed_others shares l p < free_of l)
      either true k f = inl (ltb-true _ _ k)
      either false k f = inr (ltb-true _ _ f)

  pub rule_admits : (p : ℕ) → held_of l p < (share_in shares.share p).ceiling
      → (held_of l p < (share_in shares.share p).reserved) ⊎ (owed_others shares l p < free_of l) → admits_of shares l p ≡ true
  unfolding admits_of
  rule_admits p c r =
      both_true _ _ (lt-ltb _ _ c)
      (⊎_elim
      (λ k. rw (lt-ltb (held_of l p) (share_in shares.share p).reserved k))
      (λ k. rw (lt-ltb (owed_others shares l p) (free_of l) k) (or-true (ltb (held_of l p) (share_in shares.share p).reserved)))
      r)

  -- what all are owed is what the others are owed, and the post's own part
  owed_parts : (p : ℕ) → p < shares.posts → owed_others shares l p + owed_of shares l p ≡ owed_all shares l
  unfolding owed_others owed_all
  owed_parts p h = sum_without shares.posts p (λ q. owed_of shares l q) h

  -- an admitted call leaves no more than 31 waiting
  admitted_room : (p : ℕ) → p < shares.posts → Passes shares l → admits_of shares l p ≡ true → used_of l < 32
  unfolding load_of owed_of free_of
  admitted_room p h w a =
      ⊎_elim
      (λ k. omega (arith, w.load, owed_parts p h))
      (λ k. omega (arith, k))
      (admits_rule p a).1

  pub admitted_has_place : (p : ℕ) → p < shares.posts → places_ok shares l ≡ true → admits_of shares l p ≡ true → (lowest_free l).found ≡ true
  admitted_has_place p h e a = go (lowest_free l).found refl
    where
      go : (b : Bool) → (lowest_free l).found ≡ b → b ≡ true
      go true f = refl
      go false f = absurd (let k = admitted_room p h (passes e) a in omega (arith, used_all l (none_free_exactly l f)))

  -- a post below its reserved number is admitted
  pub reserved_admitted : shares_ok shares ≡ true → (p : ℕ) → p < shares.posts → held_of l p < (share_in shares.share p).reserved → admits_of shares l p ≡ true
  unfolding shares_ok share_ok
  reserved_admitted e p h k =
      let a = both_right (leb shares.posts 8) _ (both_right (leb 1 shares.posts) _ e) in
      let s : share_ok (share_in shares.share p) ≡ true = every_at shares.posts _ (both_left _ _ a) p h in
      let c = both_right (leb (share_in shares.share p).ceiling 32) _ (both_right (leb 1 (share_in shares.share p).ceiling) _ s) in
      let m = leb-true (share_in shares.share p).reserved (share_in shares.share p).ceiling c in
      rule_admits p (omega arith) (inl k)

-- ---- a call takes a place

module _ (shares : Shares) (l : List Place) (n : length l ≡ 32) where
  module _ (i : ℕ) (x : Call) (h : i < 32) (free : (place_in l i).used ≡ false) (a : admits_of shares l x.post ≡ true) (s : Sound shares.posts (place_for x)) (w : Passes shares l) where
    take_under : (q : ℕ) → q < shares.posts → held_of (take_of l i x) q ≤ (share_in shares.share q).ceiling
    take_under q k = go (eqb q x.post) refl
      where
        go : (b : Bool) → eqb q x.post ≡ b → held_of (take_of l i x) q ≤ (share_in shares.share q).ceiling
        go true e =
            let d = eqb-true q x.post e in
            let c = (admits_rule shares l x.post a).0 in
            rw (d, held_take_own l n i h free x) (omega arith)
        go false e = rw (held_take_other l n i h free x q (λ d. not_both (sym e ∙ eq-eqb q x.post d))) (w.under q k)

    take_owed : owed_all shares (take_of l i x) + owed_of shares l x.post ≡ owed_all shares l + owed_of shares (take_of l i x) x.post
    unfolding owed_all owed_of
    take_owed =
        sum_bump shares.posts x.post (λ q. owed_of shares l q) (λ q. owed_of shares (take_of l i x) q) s.below
        (λ q d. rw (held_take_other l n i h free x q d))

    take_load : load_of shares (take_of l i x) ≤ 32
    unfolding load_of owed_of free_of
    take_load =
        let o = held_take_own l n i h free x in
        let u = all_take l n i h free x in
        ⊎_elim
        (λ k. omega (arith, k, o, u, take_owed, w.load))
        (λ k. omega (arith, k, o, u, take_owed, w.load, owed_parts shares l x.post s.below))
        (admits_rule shares l x.post a).1

    take_calls : (j : ℕ) → j < 32 → (place_in (take_of l i x) j).used ≡ true → Sound shares.posts (place_in (take_of l i x) j)
    unfolding take_of
    take_calls j k = set_by l i (place_for x) (omega arith) (λ (q : Place). q.used ≡ true → Sound shares.posts q) j (λ d u. s) (λ d. w.calls j k)

    take_alone : ((j : ℕ) → j < 32 → (place_in l j).used ≡ true → (place_in l j).identifier ≡ x.identifier → ⊥)
        → (j k : ℕ) → j < 32 → k < j → Differ (place_in (take_of l i x) j) (place_in (take_of l i x) k)
    unfolding take_of
    take_alone none j k s t =
        set_by l i (place_for x) (omega arith) (λ (q : Place). Differ q (place_in (set l i (place_for x)) k)) j
        (λ d. set_by l i (place_for x) (omega arith) (λ (q : Place). Differ (place_for x) q) k
        (λ f. absurd (omega arith))
        (λ f u v z. none k (omega arith) v (sym z)))
        (λ d. set_by l i (place_for x) (omega arith) (λ (q : Place). Differ (place_in l j) q) k
        (λ f u v z. none j s u z)
        (λ f. w.alone j k s t))

  -- an admitted call at any free place, and at the lowest
  pub take_keeps_at : (i : ℕ) (x : Call) → places_ok shares l ≡ true → Sound shares.posts (place_for x) → (place_of l x.identifier).found ≡ false
      → admits_of shares l x.post ≡ true → i < 32 → (place_in l i).used ≡ false → places_ok shares (take_of l i x) ≡ true
  take_keeps_at i x e s none a h free =
      let w = passes shares l e in
      passed shares (take_of l i x)
      (record {
        calls = take_calls i x h free a s w;
        alone = take_alone i x h free a s w (no_place_exactly l x.identifier none);
        under = take_under i x h free a s w;
        load = take_load i x h free a s w;
      })

  pub take_keeps : (i : ℕ) (x : Call) → places_ok shares l ≡ true → Sound shares.posts (place_for x) → (place_of l x.identifier).found ≡ false
      → admits_of shares l x.post ≡ true → lowest_free l ≡ spot_at i → places_ok shares (take_of l i x) ≡ true
  take_keeps i x e s none a at =
      let f = lowest_free_exactly l i at in
      take_keeps_at i x e s none a f.inside f.free

  -- ---- a place is freed

  -- a fact of the place at j afterwards
  clear_by : (i : ℕ) (P : Place → Type 0) (j : ℕ) → P no_place → P (place_in l j) → P (place_in (clear_of l i) j)
  clear_by i P j f g = rw (used_clear l i j) (go (eqb j i))
    where
      go : (b : Bool) → P (cond b no_place (place_in l j))
      go true = f
      go false = g

  module _ (i : ℕ) (w : Passes shares l) where
    clear_calls : (j : ℕ) → j < 32 → (place_in (clear_of l i) j).used ≡ true → Sound shares.posts (place_in (clear_of l i) j)
    clear_calls j k = clear_by i (λ (q : Place). q.used ≡ true → Sound shares.posts q) j (λ u. not_both u) (w.calls j k)

    clear_alone : (j k : ℕ) → j < 32 → k < j → Differ (place_in (clear_of l i) j) (place_in (clear_of l i) k)
    clear_alone j k s t =
        clear_by i (λ (q : Place). Differ q (place_in (clear_of l i) k)) j (λ u v z. not_both u)
        (clear_by i (λ (q : Place). Differ (place_in l j) q) k (λ u v z. not_both v) (w.alone j k s t))

    clear_under : (q : ℕ) → q < shares.posts → held_of (clear_of l i) q ≤ (share_in shares.share q).ceiling
    clear_under q k = omega (arith, held_clear l n i q, w.under q k)

    clear_other : (q : ℕ) → (q ≡ (place_in l i).post → ⊥) → held_of (clear_of l i) q ≡ held_of l q
    clear_other q d =
        let z : one (waits_at (place_in l i) q) ≡ 0 = rw (waits_other (place_in l i) q d) in
        omega (arith, held_clear l n i q, z)

    clear_nothing : (place_in l i).used ≡ false → (q : ℕ) → held_of (clear_of l i) q ≡ held_of l q
    clear_nothing u q =
        let z : one (waits_at (place_in l i) q) ≡ 0 = rw (waits_not (place_in l i) q u) in
        omega (arith, held_clear l n i q, z)

    -- a waiting call ends: its post is owed at most one more, the others as much as before
    clear_load_used : (place_in l i).used ≡ true → i < 32 → load_of shares (clear_of l i) ≤ 32
    unfolding load_of owed_all owed_of
    clear_load_used u h =
        let c = (w.calls i h u).below in
        let o = sum_bump shares.posts (place_in l i).post (λ q. owed_of shares l q) (λ q. owed_of shares (clear_of l i) q) c (λ q d. rw (clear_other q d)) in
        let z : one (place_in l i).used ≡ 1 = rw u in
        let m = one_few (waits_at (place_in l i) (place_in l i).post) in
        omega (arith, w.load, all_clear l n i, held_clear l n i (place_in l i).post, o, z, m)

    clear_load_free : (place_in l i).used ≡ false → load_of shares (clear_of l i) ≤ 32
    unfolding load_of owed_all owed_of
    clear_load_free u =
        let o = sum_same shares.posts (λ q. owed_of shares l q) (λ q. owed_of shares (clear_of l i) q) (λ q d. rw (clear_nothing u q)) in
        omega (arith, w.load, all_clear l n i, o)

    clear_load : load_of shares (clear_of l i) ≤ 32
    clear_load = go (place_in l i).used refl
      where
        go : (b : Bool) → (place_in l i).used ≡ b → load_of shares (clear_of l i) ≤ 32
        go true u = clear_load_used u (waiting_inside l n i u)
        go false u = clear_load_free u

  -- any place cleared, also a free one and one that is not there
  pub clear_keeps : (i : ℕ) → places_ok shares l ≡ true → places_ok shares (clear_of l i) ≡ true
  clear_keeps i e =
      let w = passes shares l e in
      passed shares (clear_of l i)
      (record { calls = clear_calls i w; alone = clear_alone i w; under = clear_under i w; load = clear_load i w })

-- ---- an opened desk

module _ (shares : Shares) (e : shares_ok shares ≡ true) where
  shares_fit : sum shares.posts (λ p. (share_in shares.share p).reserved) ≤ 32
  unfolding shares_ok
  shares_fit =
      let a = both_right (leb shares.posts 8) _ (both_right (leb 1 shares.posts) _ e) in
      leb-true _ _ (both_right (every shares.posts (λ p. share_ok (share_in shares.share p))) _ a)

  none_owed : owed_all shares no_places ≡ sum shares.posts (λ p. (share_in shares.share p).reserved)
  unfolding owed_all owed_of
  none_owed =
      sum_same shares.posts (λ p. (share_in shares.share p).reserved) (λ p. owed_of shares no_places p) (λ p h. omega (arith, none_held p))

  none_load : load_of shares no_places ≤ 32
  unfolding load_of
  none_load = omega (arith, shares_fit, none_used, none_owed)

  pub none_waiting_ok : places_ok shares no_places ≡ true
  none_waiting_ok =
      passed shares no_places
      (record {
        calls = λ i h u. not_both (rw (none_at i) at u);
        alone = λ i j h k u. not_both (rw (none_at i) at u);
        under = λ p h. rw (none_held p) (omega arith);
        load = none_load;
      })

-- ---- on a desk that passes, all held is the sum of what its posts hold

pub used_is_held : (shares : Shares) (l : List Place) → places_ok shares l ≡ true → used_of l ≡ sum shares.posts (λ q. held_of l q)
used_is_held shares l e = let w = passes shares l e in all_held l shares.posts (λ i h u. (w.calls i h u).below)
