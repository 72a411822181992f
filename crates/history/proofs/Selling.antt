-- New shares along a history (document 02, vi): when they are taken, counted from the history alone; that no waiting call goes away by them;
-- and that from then on, until others are taken, a post below its new reserved number is never refused for want of a place. Assumes nothing.
use Prim.Native.Nat.{ℕ, ◌<◌, ◌≤◌, max}
use mathlib.Core.Path.{◌≡◌, refl, sym, ap, ◌∙◌, subst}
use mathlib.Core.Bool.{Bool, true, false, not, cond}
use mathlib.Core.List.{List, [], ◌∷◌, ◌++◌}
use lib.Dec.{leb}
use borrow.Author.Tests.{leb-true}
use Rattle.codec.specs.Codec.{both}
use Rattle.codec.specs.Stops.{refusal, no_stop}
use Rattle.codec.proofs.Good.{both_left, both_right}
use Rattle.profile.specs.Counting.{every, sum}
use Rattle.profile.specs.Rules.{air_ok, share_in, shares_ok, profile_ok}
use Rattle.profile.specs.declared.Profile.{Profile}
use Rattle.profile.specs.declared.Share.{Share}
use Rattle.profile.specs.declared.Shares.{Shares}
use Rattle.places.specs.Fits.{claim_of, claims_of, fits_of}
use Rattle.places.specs.Grounds.{under_ceiling}
use Rattle.places.specs.Held.{held_of}
use Rattle.places.proofs.SumLaws.{every_same, sum_same}
use Rattle.records.specs.declared.Identity.{Identity}
use Rattle.desk.specs.Changes.{new_shares, shares_for, taken_change, refused_if, change_of}
use Rattle.desk.specs.Desks.{desk_with}
use Rattle.desk.specs.Orders.{posts_of, places_of}
use Rattle.desk.specs.declared.Answer.TheVariants as answer
use Rattle.desk.specs.declared.Change.{Change}
use Rattle.desk.specs.declared.Changed.{Changed}
use Rattle.desk.specs.declared.Desk.{Desk}
use Rattle.desk.specs.declared.Event.TheVariants as event
use Rattle.desk.proofs.Changes.{changed_by, row_given, as_given, lawful_given, fitting_given}
use Rattle.history.specs.Histories.{Call, Turn, one_change, change_noted, History, step_for, run_of, shares_by, takes_none, shares_of, Waiting, waiting_after, waiting_of, held_by, fits_by, is_restricted_call, is_asked_next, IsSent}
use Rattle.history.proofs.RunLaws.{run_parts, shares_parts, posts_fixed, shares_stay}
use Rattle.history.proofs.Sharing.{history, waiting, next, share, posts_are, posts_next, held, stays_ok, post, below, IsAdmitted, reserved_never_refused}
use Rattle.history.proofs.Moving as move
use Rattle.history.proofs.AfterMoves.{waiting_parts}

few_posts : (p : Profile) → profile_ok p ≡ true → p.shares.posts ≤ 8
unfolding profile_ok shares_ok
few_posts p e = leb-true _ _ (both_left _ _ (both_right (leb 1 p.shares.posts) _ (both_right (air_ok p.air) _ e)))

-- ---- new shares as the next turn

module _ (p : Profile) (opens : profile_ok p ≡ true) (turns : List Turn) (rows : List Share) where
  abbrev desk : Desk
  desk = next p opens turns

  -- what is answered
  abbrev pub told : Change
  told = (change_of desk rows).change

  -- the calls that wait
  abbrev pub waits : List Waiting
  waits = waiting p opens turns

  -- the shares that are asked for, for the posts that there are
  abbrev pub asked : Shares
  asked = record { posts = p.shares.posts; share = rows }

  few : posts_of desk ≤ 8
  few = subst (λ (k : ℕ). k ≤ 8) (sym (posts_next p opens turns)) (few_posts p opens)

  given_is : as_given desk rows ≡ asked
  given_is = ap (λ (k : ℕ). record { posts = k; share = rows }) (posts_next p opens turns)

  lawful : shares_ok (shares_for desk rows) ≡ shares_ok asked
  lawful = lawful_given desk rows few ∙ ap shares_ok given_is

  -- what is held is counted from the history
  counted : fits_of asked (places_of desk) ≡ fits_by asked waits
  unfolding fits_of fits_by claims_of claim_of under_ceiling
  counted =
      ap (λ (b : Bool). both b (leb (sum p.shares.posts (λ q. max (share_in rows q).reserved (held_of (places_of desk) q))) 32))
      (every_same p.shares.posts (λ q. leb (held_of (places_of desk) q) (share_in rows q).ceiling) (λ q. leb (held_by (waiting p opens turns) q) (share_in rows q).ceiling)
      (λ q h. ap (λ (k : ℕ). leb k (share_in rows q).ceiling) (sym (held p opens turns q))))
      ∙ ap (λ (k : ℕ). both (every p.shares.posts (λ q. leb (held_by (waiting p opens turns) q) (share_in rows q).ceiling)) (leb k 32))
      (sum_same p.shares.posts (λ q. max (share_in rows q).reserved (held_by (waiting p opens turns) q)) (λ q. max (share_in rows q).reserved (held_of (places_of desk) q))
      (λ q h. ap (λ (k : ℕ). max (share_in rows q).reserved k) (sym (held p opens turns q))))

  fitting : fits_of (shares_for desk rows) (places_of desk) ≡ fits_by asked waits
  fitting = fitting_given desk rows few ∙ ap (λ (x : Shares). fits_of x (places_of desk)) given_is ∙ counted

  by_counts : (b c : Bool) → shares_ok asked ≡ b → fits_by asked waits ≡ c
      → told ≡ (refused_if (not b) 23 desk (refused_if (not c) 24 desk (taken_change desk (shares_for desk rows)))).change
  by_counts b c e f = ap (λ (x : Changed). x.change) (changed_by desk rows true b c (stays_ok p opens turns) (lawful ∙ e) (fitting ∙ f))

  -- 23 if the numbers break a rule of the profile for that many posts
  pub sale_23 : shares_ok asked ≡ false → told ≡ record { taken = false; stop = refusal 23 }
  sale_23 e = by_counts false _ e refl

  -- 24 if they keep the rules and some post holds more than its new ceiling, or the larger of new reserved number and held, summed, is over 32
  pub sale_24 : shares_ok asked ≡ true → fits_by asked waits ≡ false → told ≡ record { taken = false; stop = refusal 24 }
  sale_24 e f = by_counts true false e f

  -- and taken else: no other number comes along a history
  pub sale_taken : shares_ok asked ≡ true → fits_by asked waits ≡ true → told ≡ record { taken = true; stop = no_stop }
  sale_taken e f = by_counts true true e f

  -- no waiting call goes away, and none comes
  pub none_goes_away : waiting p opens (turns ++ (one_change rows ∷ [])) ≡ waiting p opens turns
  unfolding run_of waiting_after
  none_goes_away = ap (λ (h : History). waiting_of p h) (run_parts turns (one_change rows ∷ []) (desk_with p)) ∙ waiting_parts p (run_of (desk_with p) turns) _ []

-- ---- after a change that was taken, until the next that is

module _ (p : Profile) (opens : profile_ok p ≡ true) (before since : History) (rows : List Share) (x : Change) (taken : x.taken ≡ true) (none : takes_none since ≡ true) where
  abbrev pub whole : History
  whole = before ++ (change_noted rows x ∷ since)

  -- the shares in force are those of the change
  pub shares_since : shares_of p whole ≡ new_shares p.shares.posts rows
  unfolding shares_by
  shares_since =
      shares_parts before (change_noted rows x ∷ since) p.shares
      ∙ shares_stay since _ none
      ∙ ap (λ (b : Bool). cond b (new_shares (shares_by p.shares before).posts rows) (shares_by p.shares before)) taken
      ∙ ap (λ (k : ℕ). new_shares k rows) (posts_fixed before p.shares)

  -- a post's share is the row that was given for it
  pub row_since : (post : ℕ) → post < p.shares.posts → share_in (shares_of p whole).share post ≡ share_in rows post
  row_since post h = ap (λ (s : Shares). share_in s.share post) shares_since ∙ row_given p.shares.posts rows post (few_posts p opens) h

  module _ (turns : List Turn) (is : history p opens turns ≡ whole) where
    row_is : (post : ℕ) → post < p.shares.posts → share p opens turns post ≡ share_in rows post
    row_is post h = ap (λ (k : History). share_in (shares_of p k).share post) is ∙ row_since post h

    -- a well-formed new restricted call for a post below its new reserved number is admitted
    pub bought_never_refused : (c : Call) (caller called : Identity) (identifier cause : ℕ) (event_is : c.event ≡ event.SetUp caller called identifier cause)
        (formed : is_restricted_call p (waiting p opens turns) c caller called identifier cause ≡ true)
        → held_by (waiting p opens turns) (post p opens turns c caller called identifier cause event_is formed)
        < (share_in rows (post p opens turns c caller called identifier cause event_is formed)).reserved
        → IsAdmitted p opens turns c caller called identifier cause event_is formed
    bought_never_refused c caller called identifier cause event_is formed h =
        reserved_never_refused p opens turns c caller called identifier cause event_is formed
        (subst (λ (s : Share). held_by (waiting p opens turns) (post p opens turns c caller called identifier cause event_is formed) < s.reserved)
        (sym (row_is (post p opens turns c caller called identifier cause event_is formed) (below p opens turns c caller called identifier cause event_is formed))) h)

    -- and a call moves to such a post
    pub bought_never_kept_out : (c : Call) (at identifier : ℕ) (sent : IsSent p 12 c at identifier) (second : ℕ) (asked : is_asked_next (waiting p opens turns) identifier at second ≡ true)
        → held_by (move.others p opens turns c at identifier sent second asked) second < (share_in rows second).reserved
        → (step_for (next p opens turns) c).answer ≡ answer.Moved second
    bought_never_kept_out c at identifier sent second asked h =
        move.move_reserved p opens turns c at identifier sent second asked
        (subst (λ (s : Share). held_by (move.others p opens turns c at identifier sent second asked) second < s.reserved)
        (sym (row_is second (subst (λ (k : ℕ). second < k) (posts_are p opens turns) (move.below p opens turns c at identifier sent second asked)))) h)
