-- New shares, return by return. Assumes nothing.
use Prim.Native.Nat.{ℕ, zero, suc, ◌<◌, ◌≤◌, min}
use native.Mathlib.Omega.{arith}
use lib.ListN.{length, take, drop, replicate}
use borrow.Author.Tests.{lt-ltb}
use Rattle.bits.proofs.SetLaws.{lt_or}
use mathlib.Core.Path.{◌≡◌, refl, sym, ap, ◌∙◌}
use mathlib.Core.Bool.{Bool, true, false}
use mathlib.Core.List.{List, [], ◌∷◌, ◌++◌}
use mathlib.Core.Logic.{inl, inr}
use Rattle.codec.specs.Stops.{refusal}
use Rattle.codec.specs.declared.Stop.{Stop}
use Rattle.profile.specs.Rules.{no_share, share_in, shares_ok}
use Rattle.profile.specs.declared.Share.{Share}
use Rattle.profile.specs.declared.Shares.{Shares}
use Rattle.places.specs.Fits.{fits_of}
use Rattle.desk.specs.Changes.{new_shares, shares_for, refused_change, taken_change, change_of}
use Rattle.desk.specs.Desks.{desk_ok}
use Rattle.desk.specs.Orders.{places_of}
use Rattle.desk.specs.declared.Changed.{Changed}
use Rattle.desk.specs.declared.Desk.{Desk}

refused_is : (d : Desk) (c : ℕ) (s : Stop) (r : Changed) → r ≡ refused_change d s → s ≡ refusal c → r ≡ refused_change d (refusal c)
refused_is d c s r e z = e ∙ ap (λ (x : Stop). refused_change d x) z

module _ (d : Desk) (rows : List Share) (new : Shares) (are : new ≡ shares_for d rows) (sound lawful fitting : Bool)
    (s : sound ≡ desk_ok d) (l : lawful ≡ shares_ok new) (f : fitting ≡ fits_of new (places_of d)) where
  lawful_is : lawful ≡ shares_ok (shares_for d rows)
  lawful_is = l ∙ ap shares_ok are

  fitting_is : fitting ≡ fits_of (shares_for d rows) (places_of d)
  fitting_is = f ∙ ap (λ (x : Shares). fits_of x (places_of d)) are

  pub change_1 : sound ≡ false → (t : Stop) (r : Changed) → r ≡ refused_change d t → t ≡ refusal 1 → r ≡ change_of d rows
  unfolding change_of
  change_1 a t r e z = refused_is d 1 t r e z ∙ sym (rw (sym s ∙ a) refl)

  pub change_23 : sound ≡ true → lawful ≡ false → (t : Stop) (r : Changed) → r ≡ refused_change d t → t ≡ refusal 23 → r ≡ change_of d rows
  unfolding change_of
  change_23 a b t r e z = refused_is d 23 t r e z ∙ sym (rw (sym s ∙ a, sym lawful_is ∙ b) refl)

  pub change_24 : sound ≡ true → lawful ≡ true → fitting ≡ false → (t : Stop) (r : Changed) → r ≡ refused_change d t → t ≡ refusal 24 → r ≡ change_of d rows
  unfolding change_of
  change_24 a b c t r e z = refused_is d 24 t r e z ∙ sym (rw (sym s ∙ a, sym lawful_is ∙ b, sym fitting_is ∙ c) refl)

  pub change_taken : sound ≡ true → lawful ≡ true → fitting ≡ true → (r : Changed) → r ≡ taken_change d new → r ≡ change_of d rows
  unfolding change_of
  change_taken a b c r e = e ∙ ap (λ (x : Shares). taken_change d x) are ∙ sym (rw (sym s ∙ a, sym lawful_is ∙ b, sym fitting_is ∙ c) refl)

-- ---- the rows that are given, and none past the posts

module _ (a b c d e f g h : Share) where
  abbrev eight : List Share
  eight = a ∷ b ∷ c ∷ d ∷ e ∷ f ∷ g ∷ h ∷ []

  some_given : (posts : ℕ) → posts < 8 → take posts eight ++ drop posts (replicate 8 no_share) ≡ (new_shares posts eight).share
  unfolding new_shares share_in
  some_given zero z = refl
  some_given (suc zero) z = refl
  some_given (suc (suc zero)) z = refl
  some_given (suc (suc (suc zero))) z = refl
  some_given (suc (suc (suc (suc zero)))) z = refl
  some_given (suc (suc (suc (suc (suc zero))))) z = refl
  some_given (suc (suc (suc (suc (suc (suc zero)))))) z = refl
  some_given (suc (suc (suc (suc (suc (suc (suc zero))))))) z = refl
  some_given (suc (suc (suc (suc (suc (suc (suc (suc n)))))))) z = absurd (omega arith)

  all_given : (posts : ℕ) → 8 ≤ posts → take 8 eight ++ drop 8 (replicate 8 no_share) ≡ (new_shares posts eight).share
  unfolding new_shares share_in
  all_given posts z =
      rw (lt-ltb 0 posts (omega arith), lt-ltb 1 posts (omega arith), lt-ltb 2 posts (omega arith), lt-ltb 3 posts (omega arith), lt-ltb 4 posts (omega arith), lt-ltb 5 posts (omega arith), lt-ltb 6 posts (omega arith), lt-ltb 7 posts (omega arith)) refl

  eight_given : (posts m : ℕ) → m ≡ min posts 8 → take m eight ++ drop m (replicate 8 no_share) ≡ (new_shares posts eight).share
  eight_given posts m z =
      elim (lt_or posts 8) [
        | inl k ↦ let q : m ≡ posts = omega arith in rw q (some_given posts k)
        | inr k ↦ let q : m ≡ 8 = omega arith in rw q (all_given posts k)
      ]

pub new_is : (posts m : ℕ) (rows copied : List Share) → length rows ≡ 8 → m ≡ min posts 8 → copied ≡ take m rows
    → record { posts = posts; share = copied ++ drop m (replicate 8 no_share) } ≡ new_shares posts rows
unfolding new_shares
new_is posts m rows copied n z e = rw e (ap (λ (l : List Share). record { posts = posts; share = l }) (go rows n))
  where
    go : (rows : List Share) → length rows ≡ 8 → take m rows ++ drop m (replicate 8 no_share) ≡ (new_shares posts rows).share
    go (a ∷ b ∷ c ∷ d ∷ e ∷ f ∷ g ∷ h ∷ []) k = eight_given a b c d e f g h posts m z
    go (a ∷ b ∷ c ∷ d ∷ e ∷ f ∷ g ∷ h ∷ i ∷ rows) k = absurd (omega arith)
    go [] k = absurd (omega arith)
    go (a ∷ []) k = absurd (omega arith)
    go (a ∷ b ∷ []) k = absurd (omega arith)
    go (a ∷ b ∷ c ∷ []) k = absurd (omega arith)
    go (a ∷ b ∷ c ∷ d ∷ []) k = absurd (omega arith)
    go (a ∷ b ∷ c ∷ d ∷ e ∷ []) k = absurd (omega arith)
    go (a ∷ b ∷ c ∷ d ∷ e ∷ f ∷ []) k = absurd (omega arith)
    go (a ∷ b ∷ c ∷ d ∷ e ∷ f ∷ g ∷ []) k = absurd (omega arith)
