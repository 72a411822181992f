-- Over histories in which no change of the shares is taken, as those of calls alone, demand 3 reads the shares that the desk was opened with:
-- the statements of document 01 follow from those of Sharing and Moving. Assumes nothing.
use Prim.Native.Nat.{ℕ, ◌<◌, ◌≤◌}
use mathlib.Core.Path.{◌≡◌, refl, sym, subst}
use mathlib.Core.Bool.{true}
use mathlib.Core.List as list
use mathlib.Core.List.{List, [], ◌∷◌}
use mathlib.Core.Logic.{◌⊎◌}
use Rattle.codec.specs.Stops.{refusal}
use Rattle.codec.proofs.Good.{both_true}
use Rattle.profile.specs.Rules.{share_in, profile_ok}
use Rattle.profile.specs.declared.Profile.{Profile}
use Rattle.profile.specs.declared.Shares.{Shares}
use Rattle.records.specs.declared.Identity.{Identity}
use Rattle.desk.specs.declared.Answer.TheVariants as answer
use Rattle.desk.specs.declared.Desk.{Desk}
use Rattle.desk.specs.declared.Event.TheVariants as event
use Rattle.history.specs.Histories.{Call, Turn, one_call, step_for, run_of, takes_none, Waiting, held_by, free_by, owed_to_others, is_restricted_call, is_asked_next, IsSent}
use Rattle.history.proofs.RunLaws.{shares_stay}
use Rattle.history.proofs.Sharing as step
use Rattle.history.proofs.Moving as move

-- calls alone take no change
pub calls_take_none : (calls : List Call) (d : Desk) → takes_none (run_of d (list.map one_call calls)) ≡ true
unfolding run_of takes_none
calls_take_none [] d = refl
calls_take_none (c ∷ calls) d = both_true true _ refl (calls_take_none calls (step_for d c).desk)

module _ (p : Profile) (opens : profile_ok p ≡ true) (turns : List Turn) (none : takes_none (step.history p opens turns) ≡ true) where
  -- the shares in force are the profile's
  pub as_opened : step.in_force p opens turns ≡ p.shares
  as_opened = shares_stay (step.history p opens turns) p.shares none

  abbrev waiting : List Waiting
  waiting = step.waiting p opens turns

  pub under_ceiling_lem : (post : ℕ) → post < p.shares.posts → held_by waiting post ≤ (share_in p.shares.share post).ceiling
  under_ceiling_lem post h = subst (λ (s : Shares). held_by waiting post ≤ (share_in s.share post).ceiling) as_opened (step.under_ceiling_lem p opens turns post h)

  -- ---- a well-formed new restricted call

  module _ (c : Call) (caller called : Identity) (identifier cause : ℕ) (event_is : c.event ≡ event.SetUp caller called identifier cause)
      (formed : is_restricted_call p waiting c caller called identifier cause ≡ true) where
    abbrev post : ℕ
    post = step.post p opens turns c caller called identifier cause event_is formed

    abbrev NoPlaceBy : Shares → Type 0
    NoPlaceBy s = (held_by waiting post ≡ (share_in s.share post).ceiling) ⊎ (free_by waiting ≤ owed_to_others s waiting post)

    pub reserved_never_refused : held_by waiting post < (share_in p.shares.share post).reserved → step.IsAdmitted p opens turns c caller called identifier cause event_is formed
    reserved_never_refused h =
        step.reserved_never_refused p opens turns c caller called identifier cause event_is formed
        (subst (λ (s : Shares). held_by waiting post < (share_in s.share post).reserved) (sym as_opened) h)

    pub refused_exactly : (share_in p.shares.share post).reserved ≤ held_by waiting post
        → (NoPlaceBy p.shares → (step_for (step.next p opens turns) c).answer ≡ answer.Refused (refusal 18))
        × ((step_for (step.next p opens turns) c).answer ≡ answer.Refused (refusal 18) → NoPlaceBy p.shares)
    refused_exactly h =
        let e =
        step.refused_exactly p opens turns c caller called identifier cause event_is formed
        (subst (λ (s : Shares). (share_in s.share post).reserved ≤ held_by waiting post) (sym as_opened) h) in
        (λ k. e.0 (subst NoPlaceBy (sym as_opened) k), λ z. subst NoPlaceBy as_opened (e.1 z))

    pub admitted_else : (share_in p.shares.share post).reserved ≤ held_by waiting post → (NoPlaceBy p.shares → ⊥)
        → step.IsAdmitted p opens turns c caller called identifier cause event_is formed
    admitted_else h k =
        step.admitted_else p opens turns c caller called identifier cause event_is formed
        (subst (λ (s : Shares). (share_in s.share post).reserved ≤ held_by waiting post) (sym as_opened) h)
        (λ r. k (subst NoPlaceBy as_opened r))

  -- ---- a move

  module _ (c : Call) (at identifier : ℕ) (sent : IsSent p 12 c at identifier) (second : ℕ) (asked : is_asked_next waiting identifier at second ≡ true) where
    abbrev others : List Waiting
    others = move.others p opens turns c at identifier sent second asked

    abbrev NoPlaceThereBy : Shares → Type 0
    NoPlaceThereBy s = (held_by others second ≡ (share_in s.share second).ceiling) ⊎ (free_by others ≤ owed_to_others s others second)

    pub move_reserved : held_by others second < (share_in p.shares.share second).reserved → (step_for (step.next p opens turns) c).answer ≡ answer.Moved second
    move_reserved h =
        move.move_reserved p opens turns c at identifier sent second asked
        (subst (λ (s : Shares). held_by others second < (share_in s.share second).reserved) (sym as_opened) h)

    pub move_refused_exactly : (share_in p.shares.share second).reserved ≤ held_by others second
        → (NoPlaceThereBy p.shares → (step_for (step.next p opens turns) c).answer ≡ answer.Refused (refusal 18))
        × ((step_for (step.next p opens turns) c).answer ≡ answer.Refused (refusal 18) → NoPlaceThereBy p.shares)
    move_refused_exactly h =
        let e =
        move.move_refused_exactly p opens turns c at identifier sent second asked
        (subst (λ (s : Shares). (share_in s.share second).reserved ≤ held_by others second) (sym as_opened) h) in
        (λ k. e.0 (subst NoPlaceThereBy (sym as_opened) k), λ z. subst NoPlaceThereBy as_opened (e.1 z))

    pub move_else : (share_in p.shares.share second).reserved ≤ held_by others second → (NoPlaceThereBy p.shares → ⊥)
        → (step_for (step.next p opens turns) c).answer ≡ answer.Moved second
    move_else h k =
        move.move_else p opens turns c at identifier sent second asked
        (subst (λ (s : Shares). (share_in s.share second).reserved ≤ held_by others second) (sym as_opened) h)
        (λ r. k (subst NoPlaceThereBy as_opened r))
