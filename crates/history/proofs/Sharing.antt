-- Demand 3: the 32 places are shared as paid for, over any history from an opened desk, counted from the history alone; each call is judged
-- by the shares that the history has in force (document 02, vi). Assumes nothing.
use Prim.Native.Nat.{ℕ, ◌<◌, ◌≤◌}
use mathlib.Core.Path.{◌≡◌, refl, sym, ap, ◌∙◌, subst}
use mathlib.Core.Bool.{Bool, true, false, not, ◌||◌}
use mathlib.Core.List.{List}
use mathlib.Core.Logic.{◌⊎◌}
use native.Mathlib.Omega.{arith}
use lib.Dec.{eqb, leb, ltb}
use lib.ListN.{length}
use borrow.Author.Tests.{ne_eqb, leb-true}
use Rattle.codec.specs.Codec.{both, none_of}
use Rattle.codec.specs.Stops.{refusal}
use Rattle.codec.proofs.Good.{both_left, both_right, both_true, not_both}
use Rattle.profile.specs.Rules.{air_ok, share_in, shares_ok, profile_ok}
use Rattle.profile.specs.declared.Profile.{Profile}
use Rattle.profile.specs.declared.Share.{Share}
use Rattle.profile.specs.declared.Shares.{Shares}
use Rattle.places.specs.Held.{admits_of, held_of}
use Rattle.places.specs.Grounds.{places_ok}
use Rattle.places.specs.Spots.{lowest_free}
use Rattle.places.proofs.PlaceLaws.{passes}
use Rattle.records.specs.Records.{records_ok}
use Rattle.records.specs.declared.Identity.{Identity}
use Rattle.records.proofs.PartyLaws.{party_below}
use Rattle.desk.specs.Desks.{desk_with, desk_ok}
use Rattle.desk.specs.Grounds.{waits, party_for, is_new}
use Rattle.desk.specs.Numbers.{number_of}
use Rattle.desk.specs.Orders.{posts_of, places_of, set_up_ok, admit_answer, answer_of}
use Rattle.desk.specs.declared.Answer.{Answer}
use Rattle.desk.specs.declared.Answer.TheVariants as answer
use Rattle.desk.specs.declared.Desk.{Desk}
use Rattle.desk.specs.declared.Event.{Event}
use Rattle.desk.specs.declared.Event.TheVariants as event
use Rattle.desk.proofs.AnswerLaws.{step_answer, past_one, Can, event_ok}
use Rattle.desk.proofs.SetUps.{is_refused, new_call}
use Rattle.history.specs.Histories.{Call, Turn, History, step_for, run_of, left_by, Waiting, waiting_of, is_waiting, held_by, free_by, owed_to_others, is_restricted_call}
use Rattle.history.proofs.WaitingLaws.{Same, held_same, waiting_same}
use Rattle.history.proofs.RuleLaws.{reserved_yes, none_no, else_yes, no_none}
use Rattle.history.proofs.RunLaws.{Suits, in_force_by, stands, along, posts_fixed}

-- ---- past 1

abbrev not_one : Answer → Bool
not_one a = not (eqb (number_of a) 1)

past_not_one : (c : ℕ) → past_one c ≡ true → not (eqb c 1) ≡ true
unfolding past_one
past_not_one c e = go (both (leb 2 c) (leb c 22)) refl e
  where
    go : (b : Bool) → both (leb 2 c) (leb c 22) ≡ b → b || both (leb 26 c) (leb c 27) ≡ true → not (eqb c 1) ≡ true
    go true t _ = let low = leb-true 2 c (both_left _ _ t) in rw (ne_eqb c 1 (λ k. absurd (omega (arith, k)))) refl
    go false _ z = let low = leb-true 26 c (both_left _ _ z) in rw (ne_eqb c 1 (λ k. absurd (omega (arith, k)))) refl

can_not_one : (e : Event) → Can not_one e
can_not_one (event.Message post bits) = (refl, ((λ k. refl), (refl, (refl, (refl, λ k. refl)))))
can_not_one (event.SetUp caller called identifier cause) = (refl, λ post place. refl)
can_not_one (event.Reject post identifier) = refl
can_not_one (event.Cancel identifier) = λ k. refl

-- on a desk that passes, 1 is not given
passes_not_one : (d : Desk) (c : Call) → desk_ok d ≡ true → not_one (step_for d c).answer ≡ true
unfolding answer_of desk_ok
passes_not_one d c ok =
    ap not_one (step_answer d c.rows c.count c.message c.area c.event)
    ∙ rw ok (event_ok not_one (λ s e. past_not_one s.number e) d c.rows c.count c.message (length c.area) c.event (both_left _ _ ok) (can_not_one c.event))

-- ---- the places rule, as numbers

-- which answer the rule gives to a call for a post
rule_yes : (d : Desk) (post : ℕ) → admits_of d.profile.shares (places_of d) post ≡ true → admit_answer d post ≡ answer.Admitted post (lowest_free (places_of d)).place
unfolding admit_answer
rule_yes d post e = rw e refl

rule_no : (d : Desk) (post : ℕ) → admits_of d.profile.shares (places_of d) post ≡ false → admit_answer d post ≡ answer.Refused (refusal 18)
unfolding admit_answer
rule_no d post e = rw e refl

-- ---- the history, its desk and its waiting calls

module _ (p : Profile) (opens : profile_ok p ≡ true) (turns : List Turn) where
  -- what was written down, the calls that wait by it, and the shares that are in force
  abbrev pub history : History
  history = run_of (desk_with p) turns

  abbrev pub waiting : List Waiting
  waiting = waiting_of p history

  abbrev pub in_force : Shares
  in_force = in_force_by p history

  -- the desk on which the next call comes
  abbrev pub next : Desk
  next = left_by (desk_with p) turns

  abbrev pub share : ℕ → Share
  share post = share_in in_force.share post

  -- what is read does not depend on the shares
  pub suits : Suits p next
  suits = (stands p opens turns).suits

  -- the desk's shares are those in force, for the posts that it was opened with
  pub in_force_lem : next.profile.shares ≡ in_force
  in_force_lem = (stands p opens turns).shares

  pub posts_are : in_force.posts ≡ p.shares.posts
  posts_are = posts_fixed history p.shares

  pub posts_next : posts_of next ≡ p.shares.posts
  posts_next = ap (λ (x : Shares). x.posts) in_force_lem ∙ posts_are

  pub there : (post : ℕ) → post < p.shares.posts → post < in_force.posts
  there post h = subst (λ (k : ℕ). post < k) (sym posts_are) h

  -- they keep the profile's rules
  pub fit : shares_ok in_force ≡ true
  unfolding profile_ok
  fit = ap shares_ok (sym in_force_lem) ∙ both_right (air_ok next.profile.air) _ suits.passes

  pub sound : places_ok in_force (places_of next) ≡ true
  sound = subst (λ (x : Shares). places_ok x (places_of next) ≡ true) in_force_lem (along p opens turns).sound

  pub held : (post : ℕ) → held_by waiting post ≡ held_of (places_of next) post
  held post = held_same in_force (places_of next) waiting (along p opens turns).size sound (along p opens turns).same post

  -- the waiting calls of the history are those of the desk
  pub waiting_is : (identifier : ℕ) → is_waiting waiting identifier ≡ waits next identifier
  waiting_is identifier = waiting_same in_force (places_of next) waiting (along p opens turns).size sound (along p opens turns).same identifier

  pub stays_ok : desk_ok next ≡ true
  unfolding desk_ok
  stays_ok = both_true _ _ suits.passes (along p opens turns).sound

  -- no call along a history gets 1
  pub never_one : (c : Call) → number_of (step_for next c).answer ≡ 1 → ⊥
  never_one c z = not_both (sym (ap (λ (k : ℕ). not (eqb k 1)) z) ∙ passes_not_one next c stays_ok)

  -- no post passes its ceiling
  pub under_ceiling_lem : (post : ℕ) → post < p.shares.posts → held_by waiting post ≤ (share post).ceiling
  under_ceiling_lem post h = omega (arith, held post, (passes in_force (places_of next) sound).under post (there post h))

  -- ---- the next call, if it is a well-formed new restricted one

  module _ (c : Call) (caller called : Identity) (identifier cause : ℕ) (event_is : c.event ≡ event.SetUp caller called identifier cause)
      (formed : is_restricted_call p waiting c caller called identifier cause ≡ true) where
    -- the post that it is for
    abbrev pub post : ℕ
    post = (party_for c.rows c.count caller called).post

    pub record Formed : Type 0 where
      pub call : set_up_ok caller called identifier cause ≡ true
      pub area : not (ltb (length c.area) 300) ≡ true
      pub records : records_ok c.rows c.count p.shares.posts ≡ true
      pub new : not (is_waiting waiting identifier) ≡ true
      pub restricted : (party_for c.rows c.count caller called).found ≡ true

    facts : Formed
    unfolding is_restricted_call
    facts =
        let a = both_right (set_up_ok caller called identifier cause) _ formed in
        let b = both_right (not (ltb (length c.area) 300)) _ a in
        let e = both_right (records_ok c.rows c.count p.shares.posts) _ b in
        record { call = both_left _ _ formed; area = both_left _ _ a; records = both_left _ _ b; new = both_left _ _ e; restricted = both_right (not (is_waiting waiting identifier)) _ e }

    pub below : post < p.shares.posts
    below = party_below c.rows c.count p.shares.posts caller called facts.records facts.restricted

    is_new_lem : is_new next c.rows c.count (length c.area) caller called identifier cause ≡ true
    unfolding is_new none_of both
    is_new_lem =
        rw (stays_ok, facts.call, facts.area, ap (λ (k : ℕ). records_ok c.rows c.count k) posts_next ∙ facts.records, ap not (sym (waiting_is identifier)) ∙ facts.new) refl

    -- it goes by the places rule
    by_rule : (step_for next c).answer ≡ admit_answer next post
    by_rule =
        step_answer next c.rows c.count c.message c.area c.event
        ∙ ap (λ (e : Event). answer_of next c.rows c.count c.message (length c.area) e) event_is
        ∙ new_call next c.rows c.count c.message (length c.area) caller called identifier cause is_new_lem
        ∙ rw facts.restricted refl

    yes : admits_of in_force (places_of next) post ≡ true → (step_for next c).answer ≡ answer.Admitted post (lowest_free (places_of next)).place
    yes e = by_rule ∙ rule_yes next post (ap (λ (x : Shares). admits_of x (places_of next) post) in_force_lem ∙ e)

    no : admits_of in_force (places_of next) post ≡ false → (step_for next c).answer ≡ answer.Refused (refusal 18)
    no e = by_rule ∙ rule_no next post (ap (λ (x : Shares). admits_of x (places_of next) post) in_force_lem ∙ e)

    -- the call is admitted for its post, at some place
    pub record IsAdmitted : Type 0 where
      pub place : ℕ
      pub answer_is : (step_for next c).answer ≡ answer.Admitted post place

    abbrev waits_there : Same (places_of next) waiting
    waits_there = (along p opens turns).same

    abbrev places_are : length (places_of next) ≡ 32
    places_are = (along p opens turns).size

    -- below its reserved number a post is never refused for want of a place, whatever the other posts did
    pub reserved_never_refused : held_by waiting post < (share post).reserved → IsAdmitted
    reserved_never_refused h =
        record { place = (lowest_free (places_of next)).place; answer_is = yes (reserved_yes in_force fit (places_of next) waiting places_are sound waits_there post (there post below) h) }

    -- the post is at its ceiling, or the free places are no more than the other posts are owed
    abbrev pub NoPlace : Type 0
    NoPlace = (held_by waiting post ≡ (share post).ceiling) ⊎ (free_by waiting ≤ owed_to_others in_force waiting post)

    -- otherwise it gets 18 if there is no place for it
    pub refused_18 : (share post).reserved ≤ held_by waiting post → NoPlace → (step_for next c).answer ≡ answer.Refused (refusal 18)
    refused_18 h k = no (none_no in_force fit (places_of next) waiting places_are sound waits_there post (there post below) h k)

    -- it gets 18 only then: not below its reserved number, and with no place for it
    pub only_then_18 : (step_for next c).answer ≡ answer.Refused (refusal 18) → ((share post).reserved ≤ held_by waiting post) × NoPlace
    only_then_18 z = no_none in_force fit (places_of next) waiting places_are sound waits_there post (there post below) (go (admits_of in_force (places_of next) post) refl)
      where
        go : (b : Bool) → admits_of in_force (places_of next) post ≡ b → b ≡ false
        go true e = not_both (ap (λ (a : Answer). is_refused a) (sym (yes e) ∙ z))
        go false e = refl

    -- and is admitted else
    pub admitted_else : (share post).reserved ≤ held_by waiting post → (NoPlace → ⊥) → IsAdmitted
    admitted_else h k =
        record { place = (lowest_free (places_of next)).place; answer_is = yes (else_yes in_force fit (places_of next) waiting places_are sound waits_there post (there post below) h k) }

    -- so: at its reserved number or above, a call gets 18 exactly if there is no place for it
    pub refused_exactly : (share post).reserved ≤ held_by waiting post
        → (NoPlace → (step_for next c).answer ≡ answer.Refused (refusal 18)) × ((step_for next c).answer ≡ answer.Refused (refusal 18) → NoPlace)
    refused_exactly h = (refused_18 h, λ z. (only_then_18 z).1)
