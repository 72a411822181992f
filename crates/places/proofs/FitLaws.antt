-- Shares that fit what is held are shares under which the same places pass 1, and no others are. Assumes nothing.
use Prim.Native.Nat.{ℕ, ◌+◌, ◌≤◌, ◌<◌, max}
use mathlib.Core.Path.{◌≡◌, sym, ap, ◌∙◌, subst}
use mathlib.Core.Bool.{true}
use mathlib.Core.List.{List}
use native.Mathlib.Omega.{arith}
use borrow.Author.Tests.{leb-true, le-leb}
use Rattle.codec.proofs.Good.{both_true, both_left, both_right}
use Rattle.profile.specs.Counting.{every, sum}
use Rattle.profile.specs.Rules.{share_in}
use Rattle.profile.specs.declared.Share.{Share}
use Rattle.profile.specs.declared.Shares.{Shares}
use Rattle.profile.proofs.CountLaws.{every_at}
use Rattle.places.specs.Held.{place_in, held_of, used_of, owed_of, owed_all, load_of}
use Rattle.places.specs.Fits.{claim_of, claims_of, fits_of}
use Rattle.places.specs.Grounds.{under_ceiling, places_ok}
use Rattle.places.specs.declared.Place.{Place}
use Rattle.places.proofs.SumLaws.{every_all, sum_same, sum_add}
use Rattle.places.proofs.HeldLaws.{all_held}
use Rattle.places.proofs.PlaceLaws.{Sound, passes, passed}

pub claim_is : (shares : Shares) (l : List Place) (post : ℕ) (s : Share) (held r : ℕ) → s ≡ share_in shares.share post → held ≡ held_of l post → r ≡ max s.reserved held
    → r ≡ claim_of shares l post
unfolding claim_of
claim_is shares l post s held r a b e = e ∙ ap (λ (x : Share). max x.reserved held) a ∙ ap (λ (k : ℕ). max (share_in shares.share post).reserved k) b

-- where every call waits at one of the posts, all claims are all held plus all owed
claims_load : (shares : Shares) (l : List Place) → used_of l ≡ sum shares.posts (λ q. held_of l q) → claims_of shares l ≡ load_of shares l
unfolding claims_of claim_of load_of owed_all owed_of
claims_load shares l e =
    sum_same shares.posts (λ q. held_of l q + owed_of shares l q) (λ q. claim_of shares l q) (λ q h. omega arith)
    ∙ sum_add shares.posts (λ q. held_of l q) (λ q. owed_of shares l q)
    ∙ ap (λ (k : ℕ). k + owed_all shares l) (sym e)

-- other shares for the same posts, on places that pass
module _ (old new : Shares) (l : List Place) (posts : new.posts ≡ old.posts) (ok : places_ok old l ≡ true) where
  sound : (i : ℕ) → i < 32 → (place_in l i).used ≡ true → Sound new.posts (place_in l i)
  sound i h u = subst (λ (k : ℕ). Sound k (place_in l i)) (sym posts) ((passes old l ok).calls i h u)

  load_is : claims_of new l ≡ load_of new l
  load_is = claims_load new l (all_held l new.posts (λ i h u. (sound i h u).below))

  pub fits_pass : fits_of new l ≡ true → places_ok new l ≡ true
  unfolding fits_of under_ceiling
  fits_pass e =
      passed new l
      (record {
        calls = sound;
        alone = (passes old l ok).alone;
        under = λ p h. leb-true _ _ (every_at new.posts _ (both_left _ _ e) p h);
        load = subst (λ (k : ℕ). k ≤ 32) load_is (leb-true _ _ (both_right (every new.posts (λ p. under_ceiling new l p)) _ e));
      })

  pub pass_fits : places_ok new l ≡ true → fits_of new l ≡ true
  unfolding fits_of under_ceiling
  pass_fits e =
      let w = passes new l e in
      both_true _ _ (every_all new.posts _ (λ p h. le-leb _ _ (w.under p h))) (le-leb _ _ (subst (λ (k : ℕ). k ≤ 32) (sym load_is) w.load))
