-- New shares on a desk where calls may wait: what each number says, that a refusal does nothing, and that the desk afterwards passes 1.
-- Assumes nothing.
use Prim.Native.Nat.{ℕ, zero, suc, ◌≤◌, ◌<◌, max}
use mathlib.Core.Path.{◌≡◌, refl, sym, ap, ◌∙◌, subst}
use mathlib.Core.Bool.{Bool, true, false, not, cond}
use mathlib.Core.List.{List}
use native.Mathlib.Omega.{arith}
use lib.Dec.{leb, ltb}
use borrow.Author.Tests.{ltb-true, lt-ltb, le-ltb}
use Rattle.codec.specs.Codec.{both, first_of}
use Rattle.codec.specs.Stops.{refusal, no_stop, published}
use Rattle.codec.specs.declared.Stop.{Stop}
use Rattle.codec.proofs.Good.{both_true, both_left, both_right, not_both}
use Rattle.profile.specs.Counting.{every, sum}
use Rattle.profile.specs.Rules.{no_share, share_ok, share_in, shares_ok, profile_ok}
use Rattle.profile.specs.declared.Share.{Share}
use Rattle.profile.specs.declared.Shares.{Shares}
use Rattle.places.specs.Fits.{claim_of, claims_of, fits_of}
use Rattle.places.specs.Grounds.{under_ceiling, places_ok}
use Rattle.places.specs.Held.{held_of}
use Rattle.places.proofs.SumLaws.{every_same, sum_same}
use Rattle.places.proofs.FitLaws.{fits_pass, pass_fits}
use Rattle.desk.specs.Changes.{row_for, new_shares, shares_for, refused_change, taken_change, refused_if, change_order, change_of}
use Rattle.desk.specs.Desks.{desk_ok}
use Rattle.desk.specs.Orders.{posts_of, places_of}
use Rattle.desk.specs.declared.Changed.{Changed}
use Rattle.desk.specs.declared.Desk.{Desk}
use Rattle.desk.proofs.Exactly.{Comes, first_comes, comes_first}

-- ---- each number comes exactly when its ground holds and no earlier one does

before : (b : Bool) (c : ℕ) (d : Desk) (x : Changed) (s : Stop) → x.change.stop ≡ s → (refused_if b c d x).change.stop ≡ cond b (refusal c) s
before true c d x s e = refl
before false c d x s e = e

module _ (d : Desk) (rows : List Share) where
  change_first : (change_of d rows).change.stop ≡ first_of (change_order d rows)
  unfolding change_of change_order first_of
  change_first =
      before (not (desk_ok d)) 1 d _ _
      (before (not (shares_ok (shares_for d rows))) 23 d _ _
      (before (not (fits_of (shares_for d rows) (places_of d))) 24 d (taken_change d (shares_for d rows)) no_stop refl))

  abbrev pub ExactChange : ℕ → Type 0
  ExactChange c = ((change_of d rows).change.stop.number ≡ c → Comes c (change_order d rows)) × (Comes c (change_order d rows) → (change_of d rows).change.stop.number ≡ c)

  pub exact_change : (c : ℕ) → 0 < c → ExactChange c
  exact_change c h = (
    λ z. first_comes c (change_order d rows) h (ap (λ (s : Stop). s.number) (sym change_first) ∙ z),
    λ w. ap (λ (s : Stop). s.number) change_first ∙ comes_first c (change_order d rows) w,
  )

  pub exact_23 : ExactChange 23
  exact_23 = exact_change 23 (omega arith)

  pub exact_24 : ExactChange 24
  exact_24 = exact_change 24 (omega arith)

  -- ---- what a change comes to: it is refused with a number of the table, or it is taken

  data Outcome : Type 0 where
    stays : (c : ℕ) → published c ≡ true → change_of d rows ≡ refused_change d (refusal c) → Outcome
    changes : desk_ok d ≡ true → shares_ok (shares_for d rows) ≡ true → fits_of (shares_for d rows) (places_of d) ≡ true
        → change_of d rows ≡ taken_change d (shares_for d rows) → Outcome

  pub changed_by : (a b c : Bool) → desk_ok d ≡ a → shares_ok (shares_for d rows) ≡ b → fits_of (shares_for d rows) (places_of d) ≡ c
      → change_of d rows ≡ refused_if (not a) 1 d (refused_if (not b) 23 d (refused_if (not c) 24 d (taken_change d (shares_for d rows))))
  unfolding change_of
  changed_by a b c e f g = rw (e, f, g) refl

  outcome : Outcome
  unfolding published
  outcome = go (desk_ok d) refl (shares_ok (shares_for d rows)) refl (fits_of (shares_for d rows) (places_of d)) refl
    where
      go : (a : Bool) → desk_ok d ≡ a → (b : Bool) → shares_ok (shares_for d rows) ≡ b → (c : Bool) → fits_of (shares_for d rows) (places_of d) ≡ c → Outcome
      go false e b f c g = stays 1 refl (changed_by false b c e f g)
      go true e false f c g = stays 23 refl (changed_by true false c e f g)
      go true e true f false g = stays 24 refl (changed_by true true false e f g)
      go true e true f true g = changes e f g (changed_by true true true e f g)

  -- a refusal leaves the desk as it stood, and its number is in the table
  pub record RefusedSo : Type 0 where
    pub desk : (change_of d rows).desk ≡ d
    pub known : published (change_of d rows).change.stop.number ≡ true

  pub refused_so : (change_of d rows).change.taken ≡ false → RefusedSo
  unfolding refusal
  refused_so z = go outcome
    where
      go : Outcome → RefusedSo
      go (stays c k e) = record { desk = ap (λ (x : Changed). x.desk) e; known = ap (λ (x : Changed). published x.change.stop.number) e ∙ k }
      go (changes a b c e) = not_both (sym z ∙ ap (λ (x : Changed). x.change.taken) e)

  -- a change that is taken: the shares are the new ones, and the waiting calls, what goes by the air and the number of posts stay
  pub record TakenSo : Type 0 where
    pub sound : desk_ok d ≡ true
    pub lawful : shares_ok (shares_for d rows) ≡ true
    pub fitting : fits_of (shares_for d rows) (places_of d) ≡ true
    pub whole : change_of d rows ≡ taken_change d (shares_for d rows)

  pub taken_so : (change_of d rows).change.taken ≡ true → TakenSo
  taken_so z = go outcome
    where
      go : Outcome → TakenSo
      go (stays c k e) = not_both (sym (ap (λ (x : Changed). x.change.taken) e) ∙ z)
      go (changes a b c e) = record { sound = a; lawful = b; fitting = c; whole = e }

  -- what holds of the desk that stays, and of the desk with the new shares, holds afterwards
  either_way : (P : Changed → Type 0) → ((s : Stop) → P (refused_change d s))
      → (shares_ok (shares_for d rows) ≡ true → fits_of (shares_for d rows) (places_of d) ≡ true → P (taken_change d (shares_for d rows))) → P (change_of d rows)
  either_way P one other = go outcome
    where
      go : Outcome → P (change_of d rows)
      go (stays c k e) = subst P (sym e) (one (refusal c))
      go (changes a b c e) = subst P (sym e) (other b c)

  -- whatever was asked, the waiting calls stay, and so does what goes by the air
  pub change_places : (change_of d rows).desk.places ≡ d.places
  change_places = either_way (λ (x : Changed). x.desk.places ≡ d.places) (λ s. refl) (λ b c. refl)

  pub change_air : (change_of d rows).desk.profile.air ≡ d.profile.air
  change_air = either_way (λ (x : Changed). x.desk.profile.air ≡ d.profile.air) (λ s. refl) (λ b c. refl)

  -- the shares afterwards, by the answer alone
  pub change_shares : (change_of d rows).desk.profile.shares ≡ cond (change_of d rows).change.taken (shares_for d rows) d.profile.shares
  change_shares =
      either_way (λ (x : Changed). x.desk.profile.shares ≡ cond x.change.taken (shares_for d rows) d.profile.shares) (λ s. refl) (λ b c. refl)

  -- ---- the desk afterwards passes 1

  -- the number of posts is fixed
  pub new_posts : (shares_for d rows).posts ≡ posts_of d
  unfolding new_shares
  new_posts = refl

  pub change_lawful : profile_ok d.profile ≡ true → profile_ok (change_of d rows).desk.profile ≡ true
  unfolding profile_ok
  change_lawful ok = either_way (λ (x : Changed). profile_ok x.desk.profile ≡ true) (λ s. ok) (λ b c. both_true _ _ (both_left _ _ ok) b)

  pub change_fits : places_ok d.profile.shares (places_of d) ≡ true → places_ok (change_of d rows).desk.profile.shares (places_of (change_of d rows).desk) ≡ true
  change_fits ok =
      either_way (λ (x : Changed). places_ok x.desk.profile.shares (places_of x.desk) ≡ true) (λ s. ok)
      (λ b c. fits_pass d.profile.shares (shares_for d rows) (places_of d) new_posts ok c)

  pub change_passes : desk_ok d ≡ true → desk_ok (change_of d rows).desk ≡ true
  unfolding desk_ok
  change_passes ok = both_true _ _ (change_lawful (both_left _ _ ok)) (change_fits (both_right (profile_ok d.profile) _ ok))

  -- 24 comes where the desk with the new shares would not pass
  pub fits_exactly : desk_ok d ≡ true → fits_of (shares_for d rows) (places_of d) ≡ places_ok (shares_for d rows) (places_of d)
  unfolding desk_ok
  fits_exactly ok = go (fits_of (shares_for d rows) (places_of d)) refl (places_ok (shares_for d rows) (places_of d)) refl
    where
      passes : places_ok d.profile.shares (places_of d) ≡ true
      passes = both_right (profile_ok d.profile) _ ok

      go : (a : Bool) → fits_of (shares_for d rows) (places_of d) ≡ a → (b : Bool) → places_ok (shares_for d rows) (places_of d) ≡ b → a ≡ b
      go true e true f = refl
      go true e false f = not_both (sym f ∙ fits_pass d.profile.shares (shares_for d rows) (places_of d) new_posts passes e)
      go false e true f = not_both (sym e ∙ pass_fits d.profile.shares (shares_for d rows) (places_of d) new_posts passes f)
      go false e false f = refl

-- ---- the rows that were given

pub new_row : (posts : ℕ) (rows : List Share) (p : ℕ) → p < 8 → share_in (new_shares posts rows).share p ≡ row_for posts rows p
unfolding new_shares share_in
new_row posts rows zero h = refl
new_row posts rows (suc zero) h = refl
new_row posts rows (suc (suc zero)) h = refl
new_row posts rows (suc (suc (suc zero))) h = refl
new_row posts rows (suc (suc (suc (suc zero)))) h = refl
new_row posts rows (suc (suc (suc (suc (suc zero))))) h = refl
new_row posts rows (suc (suc (suc (suc (suc (suc zero)))))) h = refl
new_row posts rows (suc (suc (suc (suc (suc (suc (suc zero))))))) h = refl
new_row posts rows (suc (suc (suc (suc (suc (suc (suc (suc p)))))))) h = absurd (omega arith)

-- a post's row is the one that was given, and rows past the posts are stored as 0
pub row_given : (posts : ℕ) (rows : List Share) (p : ℕ) → posts ≤ 8 → p < posts → share_in (new_shares posts rows).share p ≡ share_in rows p
row_given posts rows p h k = new_row posts rows p (omega arith) ∙ rw (lt-ltb p posts k) refl

pub row_past : (posts : ℕ) (rows : List Share) (p : ℕ) → posts ≤ p → p < 8 → share_in (new_shares posts rows).share p ≡ no_share
row_past posts rows p h k = new_row posts rows p k ∙ rw (le-ltb p posts h) refl

module _ (posts : ℕ) (rows others : List Share) (same : (p : ℕ) → p < posts → share_in rows p ≡ share_in others p) where
  row_same : (p : ℕ) → row_for posts rows p ≡ row_for posts others p
  row_same p = go (ltb p posts) refl
    where
      go : (b : Bool) → ltb p posts ≡ b → cond b (share_in rows p) no_share ≡ cond b (share_in others p) no_share
      go true e = same p (ltb-true p posts e)
      go false e = refl

  new_same : new_shares posts rows ≡ new_shares posts others
  unfolding new_shares
  new_same = rw (row_same 0, row_same 1, row_same 2, row_same 3, row_same 4, row_same 5, row_same 6, row_same 7) refl

-- rows past the posts are not looked at
pub change_same : (d : Desk) (rows others : List Share) → ((p : ℕ) → p < posts_of d → share_in rows p ≡ share_in others p) → change_of d rows ≡ change_of d others
unfolding change_of
change_same d rows others same = rw (new_same (posts_of d) rows others same) refl

-- the two grounds, of the numbers as they were given
abbrev pub as_given : Desk → List Share → Shares
as_given d rows = record { posts = posts_of d; share = rows }

module _ (d : Desk) (rows : List Share) (few : posts_of d ≤ 8) where
  given : (p : ℕ) → p < posts_of d → share_in (shares_for d rows).share p ≡ share_in rows p
  given p h = row_given (posts_of d) rows p few h

  pub lawful_given : shares_ok (shares_for d rows) ≡ shares_ok (as_given d rows)
  unfolding shares_ok new_shares
  lawful_given =
      ap (λ (b : Bool). both (leb 1 (posts_of d)) (both (leb (posts_of d) 8) (both b (leb (sum (posts_of d) (λ p. (share_in (shares_for d rows).share p).reserved)) 32))))
      (every_same (posts_of d) (λ p. share_ok (share_in (shares_for d rows).share p)) (λ p. share_ok (share_in rows p)) (λ p h. ap share_ok (given p h)))
      ∙ ap (λ (k : ℕ). both (leb 1 (posts_of d)) (both (leb (posts_of d) 8) (both (every (posts_of d) (λ p. share_ok (share_in rows p))) (leb k 32))))
      (sum_same (posts_of d) (λ p. (share_in rows p).reserved) (λ p. (share_in (shares_for d rows).share p).reserved) (λ p h. ap (λ (s : Share). s.reserved) (given p h)))

  pub fitting_given : fits_of (shares_for d rows) (places_of d) ≡ fits_of (as_given d rows) (places_of d)
  unfolding fits_of claims_of claim_of under_ceiling new_shares
  fitting_given =
      ap (λ (b : Bool). both b (leb (sum (posts_of d) (λ q. max (share_in (shares_for d rows).share q).reserved (held_of (places_of d) q))) 32))
      (every_same (posts_of d) (λ p. leb (held_of (places_of d) p) (share_in (shares_for d rows).share p).ceiling) (λ p. leb (held_of (places_of d) p) (share_in rows p).ceiling)
      (λ p h. ap (λ (s : Share). leb (held_of (places_of d) p) s.ceiling) (given p h)))
      ∙ ap (λ (k : ℕ). both (every (posts_of d) (λ p. leb (held_of (places_of d) p) (share_in rows p).ceiling)) (leb k 32))
      (sum_same (posts_of d) (λ q. max (share_in rows q).reserved (held_of (places_of d) q)) (λ q. max (share_in (shares_for d rows).share q).reserved (held_of (places_of d) q))
      (λ q h. ap (λ (s : Share). max s.reserved (held_of (places_of d) q)) (given q h)))
