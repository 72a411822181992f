-- Demand 3 of what a host does: over any calls of `host::call` and `host::change_shares` on an opened desk, whose outcomes are known by
-- their contracts alone, the 32 places are shared as paid for, counted from what was written down of those calls. Assumes nothing.
use Prim.Native.Nat.{ℕ, ◌<◌, ◌≤◌}
use mathlib.Core.Path.{◌≡◌, refl, sym, ap, ◌∙◌, subst}
use mathlib.Core.Bool.{true}
use mathlib.Core.List as list
use mathlib.Core.List.{List, [], ◌∷◌}
use mathlib.Core.Logic.{◌⊎◌}
use Rattle.codec.specs.Stops.{refusal}
use Rattle.codec.proofs.Good.{both_true}
use Rattle.profile.specs.Rules.{share_in, profile_ok}
use Rattle.std.specs.Prelude.{Ok}
use Rattle.profile.specs.declared.Profile.{Profile}
use Rattle.profile.specs.declared.Share.{Share}
use Rattle.profile.specs.declared.Shares.{Shares}
use Rattle.records.specs.declared.Identity.{Identity}
use Rattle.desk.specs.Desks.{desk_with, open_of}
use Rattle.desk.specs.Grounds.{party_for}
use Rattle.desk.specs.Numbers.{number_of}
use Rattle.desk.specs.declared.Answer.{Answer}
use Rattle.desk.specs.declared.Answer.TheVariants as answer
use Rattle.desk.specs.declared.Change.{Change}
use Rattle.desk.specs.declared.Desk.{Desk}
use Rattle.desk.specs.declared.Event.TheVariants as event
use Rattle.host.specs.declared.Told.{Told}
use Rattle.host.specs.contracts.call as call
use Rattle.host.specs.contracts.change_shares as change
use Rattle.contracts.specs.Outcomes.{Contract, saying_of}
use Rattle.history.specs.Histories.{Turn, Noted, call_noted, change_noted, History, step_for, note_for, desk_by, run_of, left_by, takes_none, shares_of, Waiting, without, waiting_of, held_by, free_by, owed_to_others, is_restricted_call, is_asked_next, IsSent}
use Rattle.history.specs.Hosts.{Made, Promised, PromisedSale, Deed, made, sold, PromisedDeed, leaves, AllPromised, desk_left, call_of, note_of, history_of, turn_of}
use Rattle.history.proofs.RunLaws.{shares_stay, opened}
use Rattle.history.proofs.Sharing as step
use Rattle.history.proofs.Moving as move

-- ---- what is promised of a call is the contract of `host::call`: of what is lent at entry, the answer, and what stands at exit

pub promised_by_contract : ◌≡◌ {A = Contract call.ended} (λ M 𝓤. call.spec)
    (saying_of call.ended (λ κs a x e. Promised a.0.now (record {
      rows = a.1.0.now;
      message = a.1.1.1.0.now;
      area = a.1.1.1.1.0.now;
      event = a.1.1.0;
      told = x;
      desk = e.0.now;
      records = e.1.0.now;
      output = e.1.1.1.1.0.now;
    })))
promised_by_contract = refl

-- and of a change, that of `host::change_shares`
pub sale_by_contract : ◌≡◌ {A = Contract change.ended} (λ M 𝓤. change.spec)
    (saying_of change.ended (λ κs a x e. PromisedSale a.0.now (record { rows = a.1.0; told = x; desk = e.0.now })))
sale_by_contract = refl

-- ---- what was written down is the history of the turns, and the desk that is left is theirs

told_step : (d : Desk) (m : Made) → Promised d m → m.told.answer ≡ (step_for d (call_of m)).answer
told_step d m c = ap (λ (t : Told). t.answer) c.told

noted_turn : (d : Desk) (x : Deed) → PromisedDeed d x → note_of x ≡ note_for d (turn_of x)
noted_turn d (made m) c = ap (λ (y : Answer). call_noted (call_of m) y) (told_step d m c)
noted_turn d (sold m) c = ap (λ (y : Change). change_noted m.rows y) c.told

left_turn : (d : Desk) (x : Deed) → PromisedDeed d x → leaves x ≡ desk_by d (turn_of x)
left_turn d (made m) c = c.desk
left_turn d (sold m) c = c.desk

pub written_down : (deeds : List Deed) (d : Desk) → AllPromised d deeds → history_of deeds ≡ run_of d (list.map turn_of deeds)
unfolding history_of run_of
written_down [] d a = refl
written_down (x ∷ deeds) d a =
    ap (λ (n : Noted). n ∷ history_of deeds) (noted_turn d x a.0)
    ∙ ap (λ (h : History). note_for d (turn_of x) ∷ h) (written_down deeds (leaves x) a.1)
    ∙ ap (λ (y : Desk). note_for d (turn_of x) ∷ run_of y (list.map turn_of deeds)) (left_turn d x a.0)

pub desk_left_lem : (deeds : List Deed) (d : Desk) → AllPromised d deeds → desk_left d deeds ≡ left_by d (list.map turn_of deeds)
unfolding desk_left left_by
desk_left_lem [] d a = refl
desk_left_lem (x ∷ deeds) d a = desk_left_lem deeds (leaves x) a.1 ∙ ap (λ (y : Desk). left_by y (list.map turn_of deeds)) (left_turn d x a.0)

-- calls of `host::call` alone take no change
pub made_take_none : (calls : List Made) → takes_none (history_of (list.map made calls)) ≡ true
unfolding history_of takes_none
made_take_none [] = refl
made_take_none (m ∷ calls) = both_true true _ refl (made_take_none calls)

-- ---- from what `Desk::open` gave

module _ (p : Profile) (d : Desk) (opening : open_of p ≡ Ok d) (deeds : List Deed) (promised : AllPromised d deeds) where
  -- the calls that wait by what was written down
  abbrev pub waiting : List Waiting
  waiting = waiting_of p (history_of deeds)

  -- and the shares that are in force
  abbrev pub in_force : Shares
  in_force = shares_of p (history_of deeds)

  abbrev share_by : History → ℕ → Share
  share_by h post = share_in (shares_of p h).share post

  abbrev pub share : ℕ → Share
  share post = share_by (history_of deeds) post

  is_open : (profile_ok p ≡ true) × (d ≡ desk_with p)
  is_open = opened p d opening

  pub opens : profile_ok p ≡ true
  opens = is_open.0

  pub desk_is : d ≡ desk_with p
  desk_is = is_open.1

  abbrev turns : List Turn
  turns = list.map turn_of deeds

  pub history_is : step.history p opens turns ≡ history_of deeds
  history_is = ap (λ (d : Desk). run_of d turns) (sym desk_is) ∙ sym (written_down deeds d promised)

  pub waiting_is : step.waiting p opens turns ≡ waiting
  waiting_is = ap (λ (h : History). waiting_of p h) history_is

  pub left_is : desk_left d deeds ≡ step.next p opens turns
  left_is = desk_left_lem deeds d promised ∙ ap (λ (d : Desk). left_by d turns) desk_is

  -- where no change is taken they are the profile's, and what follows is said of those
  pub call_as_opened : takes_none (history_of deeds) ≡ true → in_force ≡ p.shares
  call_as_opened none = shares_stay (history_of deeds) p.shares none

  -- no post passes its ceiling
  pub call_under_ceiling : (post : ℕ) → post < p.shares.posts → held_by waiting post ≤ (share post).ceiling
  call_under_ceiling post h = subst (λ (k : History). held_by (waiting_of p k) post ≤ (share_by k post).ceiling) history_is (step.under_ceiling_lem p opens turns post h)

  -- ---- the next call

  module _ (m : Made) (next : Promised (desk_left d deeds) m) where
    pub told_is : m.told.answer ≡ (step_for (step.next p opens turns) (call_of m)).answer
    told_is = told_step (desk_left d deeds) m next ∙ ap (λ (d : Desk). (step_for d (call_of m)).answer) left_is

    -- it does not get 1
    pub call_never_one : number_of m.told.answer ≡ 1 → ⊥
    call_never_one z = step.never_one p opens turns (call_of m) (ap number_of (sym told_is) ∙ z)

    -- if it is a well-formed new restricted one
    module _ (caller called : Identity) (identifier cause : ℕ) (event_is : m.event ≡ event.SetUp caller called identifier cause)
        (formed : is_restricted_call p waiting (call_of m) caller called identifier cause ≡ true) where
      -- the post that it is for
      abbrev pub post : ℕ
      post = (party_for (call_of m).rows (call_of m).count caller called).post

      -- the host is told that it is admitted for its post, at some place
      pub record ToldAdmitted : Type 0 where
        pub place : ℕ
        pub answer_is : m.told.answer ≡ answer.Admitted post place

      -- by a history: the post is below its reserved number, or not; it is at its ceiling, or the free places are no more than the other posts
      -- are owed
      abbrev Below : History → Type 0
      Below h = held_by (waiting_of p h) post < (share_by h post).reserved

      abbrev Enough : History → Type 0
      Enough h = (share_by h post).reserved ≤ held_by (waiting_of p h) post

      abbrev pub NoPlaceBy : History → Type 0
      NoPlaceBy h = (held_by (waiting_of p h) post ≡ (share_by h post).ceiling) ⊎ (free_by (waiting_of p h) ≤ owed_to_others (shares_of p h) (waiting_of p h) post)

      abbrev pub NoPlace : Type 0
      NoPlace = NoPlaceBy (history_of deeds)

      pub formed_so : is_restricted_call p (step.waiting p opens turns) (call_of m) caller called identifier cause ≡ true
      formed_so = ap (λ (w : List Waiting). is_restricted_call p w (call_of m) caller called identifier cause) waiting_is ∙ formed

      -- below its reserved number a post is never refused for want of a place, whatever the other posts did
      pub call_reserved : held_by waiting post < (share post).reserved → ToldAdmitted
      call_reserved h =
          let a = step.reserved_never_refused p opens turns (call_of m) caller called identifier cause event_is formed_so (subst Below (sym history_is) h) in
          record { place = a.place; answer_is = told_is ∙ a.answer_is }

      -- at its reserved number or above, a call gets 18 exactly if there is no place for it
      pub call_refused_exactly : (share post).reserved ≤ held_by waiting post
          → (NoPlace → m.told.answer ≡ answer.Refused (refusal 18)) × (m.told.answer ≡ answer.Refused (refusal 18) → NoPlace)
      call_refused_exactly h =
          let e = step.refused_exactly p opens turns (call_of m) caller called identifier cause event_is formed_so (subst Enough (sym history_is) h) in
          (λ k. told_is ∙ e.0 (subst NoPlaceBy (sym history_is) k), λ z. subst NoPlaceBy history_is (e.1 (sym told_is ∙ z)))

      -- and is admitted else
      pub call_admitted_else : (share post).reserved ≤ held_by waiting post → (NoPlace → ⊥) → ToldAdmitted
      call_admitted_else h k =
          let a =
          step.admitted_else p opens turns (call_of m) caller called identifier cause event_is formed_so (subst Enough (sym history_is) h)
          (λ r. k (subst NoPlaceBy history_is r)) in
          record { place = a.place; answer_is = told_is ∙ a.answer_is }

    -- if it is a well-formed ACCEPT of a call that waits at this post, for which another is asked second
    module _ (post identifier second : ℕ) (sent : IsSent p 12 (call_of m) post identifier) (asked : is_asked_next waiting identifier post second ≡ true) where
      asked_so : is_asked_next (step.waiting p opens turns) identifier post second ≡ true
      asked_so = ap (λ (w : List Waiting). is_asked_next w identifier post second) waiting_is ∙ asked

      -- the waiting calls without this one: its own place is taken as free
      abbrev pub others : List Waiting
      others = without identifier waiting

      -- by a history, the same of the second post
      abbrev BelowThere : History → Type 0
      BelowThere h = held_by (without identifier (waiting_of p h)) second < (share_by h second).reserved

      abbrev EnoughThere : History → Type 0
      EnoughThere h = (share_by h second).reserved ≤ held_by (without identifier (waiting_of p h)) second

      abbrev pub NoPlaceThereBy : History → Type 0
      NoPlaceThereBy h =
          (held_by (without identifier (waiting_of p h)) second ≡ (share_by h second).ceiling)
          ⊎ (free_by (without identifier (waiting_of p h)) ≤ owed_to_others (shares_of p h) (without identifier (waiting_of p h)) second)

      abbrev pub NoPlaceThere : Type 0
      NoPlaceThere = NoPlaceThereBy (history_of deeds)

      -- a move to a post below its reserved number is never refused for want of a place
      pub call_move_reserved : held_by others second < (share second).reserved → m.told.answer ≡ answer.Moved second
      call_move_reserved h = told_is ∙ move.move_reserved p opens turns (call_of m) post identifier sent second asked_so (subst BelowThere (sym history_is) h)

      -- at its reserved number or above, it gets 18 exactly if there is no place for it there
      pub call_move_refused_exactly : (share second).reserved ≤ held_by others second
          → (NoPlaceThere → m.told.answer ≡ answer.Refused (refusal 18)) × (m.told.answer ≡ answer.Refused (refusal 18) → NoPlaceThere)
      call_move_refused_exactly h =
          let e = move.move_refused_exactly p opens turns (call_of m) post identifier sent second asked_so (subst EnoughThere (sym history_is) h) in
          (λ k. told_is ∙ e.0 (subst NoPlaceThereBy (sym history_is) k), λ z. subst NoPlaceThereBy history_is (e.1 (sym told_is ∙ z)))

      -- and is moved else
      pub call_move_else : (share second).reserved ≤ held_by others second → (NoPlaceThere → ⊥) → m.told.answer ≡ answer.Moved second
      call_move_else h k =
          told_is
          ∙ move.move_else p opens turns (call_of m) post identifier sent second asked_so (subst EnoughThere (sym history_is) h)
          (λ r. k (subst NoPlaceThereBy history_is r))
