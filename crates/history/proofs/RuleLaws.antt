-- The places rule, counted from the waiting calls: one rule, for a call being set up and for one that moves. Assumes nothing.
use Prim.Native.Nat.{ℕ, ◌<◌, ◌≤◌}
use mathlib.Core.Path.{◌≡◌, refl, sym, ◌∙◌}
use mathlib.Core.Bool.{Bool, true, false}
use mathlib.Core.List.{List}
use mathlib.Core.Logic.{◌⊎◌, inl, inr, ⊎_elim}
use native.Mathlib.Omega.{arith}
use lib.ListN.{length}
use Rattle.bits.proofs.SetLaws.{lt_or}
use Rattle.codec.proofs.Good.{not_both}
use Rattle.profile.specs.Rules.{share_in, shares_ok}
use Rattle.profile.specs.declared.Share.{Share}
use Rattle.profile.specs.declared.Shares.{Shares}
use Rattle.places.specs.Held.{admits_of, held_of, owed_others, free_of}
use Rattle.places.specs.Grounds.{places_ok}
use Rattle.places.specs.declared.Place.{Place}
use Rattle.places.proofs.PlaceLaws.{passes, admits_rule, rule_admits, reserved_admitted}
use Rattle.history.specs.Histories.{Waiting, held_by, free_by, owed_to_others}
use Rattle.history.proofs.WaitingLaws.{Same, held_same, free_same, owed_same}

module _ (shares : Shares) (fit : shares_ok shares ≡ true) (l : List Place) (w : List Waiting) (n : length l ≡ 32) (ok : places_ok shares l ≡ true) (s : Same l w) (post : ℕ)
    (below : post < shares.posts) where
  abbrev share : Share
  share = share_in shares.share post

  -- the post is at its ceiling, or the free places are no more than the other posts are owed
  abbrev pub NoPlace : Type 0
  NoPlace = (held_by w post ≡ share.ceiling) ⊎ (free_by w ≤ owed_to_others shares w post)

  held : held_by w post ≡ held_of l post
  held = held_same shares l w n ok s post

  free : free_by w ≡ free_of l
  free = free_same shares l w n ok s

  owed : owed_to_others shares w post ≡ owed_others shares l post
  owed = owed_same shares l w n ok s post

  under : held_of l post ≤ share.ceiling
  under = (passes shares l ok).under post below

  -- below its reserved number
  pub reserved_yes : held_by w post < share.reserved → admits_of shares l post ≡ true
  reserved_yes h = reserved_admitted shares l fit post below (omega (arith, h, held))

  -- at it or above
  pub none_no : share.reserved ≤ held_by w post → NoPlace → admits_of shares l post ≡ false
  none_no h k = go (admits_of shares l post) refl
    where
      go : (b : Bool) → admits_of shares l post ≡ b → b ≡ false
      go true e =
          let r = admits_rule shares l post e in
          let lt = r.0 in
          ⊎_elim
          (λ a. absurd (omega (arith, a, lt, held)))
          (λ a. ⊎_elim (λ g. absurd (omega (arith, g, h, held))) (λ g. absurd (omega (arith, a, g, free, owed))) r.1)
          k
      go false e = refl

  pub else_yes : share.reserved ≤ held_by w post → (NoPlace → ⊥) → admits_of shares l post ≡ true
  else_yes h k = rule_admits shares l post room (inr more)
    where
      room : held_of l post < share.ceiling
      room = ⊎_elim (λ a. a) (λ a. absurd (k (inl (omega (arith, a, held, under))))) (lt_or (held_of l post) share.ceiling)

      more : owed_others shares l post < free_of l
      more = ⊎_elim (λ a. a) (λ a. absurd (k (inr (omega (arith, a, free, owed))))) (lt_or (owed_others shares l post) (free_of l))

  pub no_none : admits_of shares l post ≡ false → (share.reserved ≤ held_by w post) × NoPlace
  no_none e = (enough, go (lt_or (held_of l post) share.ceiling))
    where
      not_yes : admits_of shares l post ≡ true → ⊥
      not_yes z = not_both (sym e ∙ z)

      enough : share.reserved ≤ held_by w post
      enough = ⊎_elim (λ h. absurd (not_yes (reserved_yes h))) (λ h. h) (lt_or (held_by w post) share.reserved)

      go : (held_of l post < share.ceiling) ⊎ (share.ceiling ≤ held_of l post) → NoPlace
      go (inl h) =
          ⊎_elim
          (λ k. absurd (not_yes (rule_admits shares l post h (inr k))))
          (λ k. inr (omega (arith, k, free, owed)))
          (lt_or (owed_others shares l post) (free_of l))
      go (inr h) = inl (omega (arith, h, held, under))
