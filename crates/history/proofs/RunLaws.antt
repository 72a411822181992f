-- Along any history the desk stays one that 1 passes, its used places are the calls that the history has waiting, and its shares are those
-- that the history has in force. Assumes nothing.
use Prim.Native.Nat.{ℕ, ◌<◌}
use mathlib.Core.Path.{◌≡◌, refl, sym, ap, ◌∙◌, subst}
use mathlib.Core.Bool.{Bool, true, false, not, cond}
use mathlib.Core.List.{List, [], ◌∷◌, ◌++◌}
use native.Mathlib.Omega.{arith}
use lib.ListN.{length, take, set}
use borrow.Author.Tests.{eqb-true}
use Rattle.codec.specs.Codec.{Read, got, no}
use Rattle.std.specs.Prelude.{Ok, Err}
use Rattle.codec.specs.Stops.{refusal}
use Rattle.codec.proofs.Good.{both_left, both_right, not_both}
use Rattle.profile.specs.Rules.{profile_ok}
use Rattle.profile.specs.declared.Profile.{Profile}
use Rattle.profile.specs.declared.Share.{Share}
use Rattle.profile.specs.declared.Shares.{Shares}
use Rattle.message.specs.Reading.{read_of}
use Rattle.message.specs.Numbers as numbers
use Rattle.message.specs.Values.{blank, identifier_in, number_at}
use Rattle.message.specs.declared.Value.{Value}
use Rattle.places.specs.Held.{no_place, place_in, admits_of}
use Rattle.places.specs.Grounds.{places_ok}
use Rattle.places.specs.Spots.{spot_at, place_of, lowest_free, place_for, take_of, clear_of, moved_on, move_of}
use Rattle.places.specs.declared.Place.{Place}
use Rattle.places.specs.declared.Places.{Places}
use Rattle.places.specs.declared.Spot.{Spot}
use Rattle.places.proofs.HeldLaws.{set_by, none_at, length_take, length_clear, length_none}
use Rattle.places.proofs.SpotLaws.{WaitsFirst, spot_found, lowest_free_exactly, place_of_exactly}
use Rattle.places.proofs.MoveLaws.{move_is, length_move, clear_free, move_keeps}
use Rattle.records.specs.Records.{no_party}
use Rattle.places.proofs.PlaceLaws.{take_keeps, clear_keeps, none_waiting_ok}
use Rattle.desk.specs.Changes.{new_shares, change_of}
use Rattle.desk.specs.Desks.{desk_with, open_of}
use Rattle.desk.specs.Orders.{places_of}
use Rattle.desk.specs.Steps.{nothing, begins, moves, ends, effect_by, effect_of, value_by, identifier_of, Spoken, second_for, cause_for, spoken_of, call_for, post_of, desk_after}
use Rattle.desk.specs.declared.Answer.{Answer}
use Rattle.desk.specs.declared.Answer.TheVariants as answer
use Rattle.desk.specs.declared.Desk.{Desk}
use Rattle.desk.specs.declared.Event.{Event}
use Rattle.desk.specs.declared.Event.TheVariants as event
use Rattle.desk.proofs.Changes.{change_places, change_air, change_shares, change_lawful, change_fits}
use Rattle.desk.proofs.SetUps.{step_desk, admitted_so}
use Rattle.desk.proofs.Endings.{is_ending, ended_waits}
use Rattle.desk.proofs.Moves.{MovedCall, moved_so}
use Rattle.history.specs.Histories.{Call, Turn, one_call, one_change, call_noted, change_noted, History, step_for, note_for, desk_by, run_of, left_by, shares_after, shares_by, takes_none, shares_of, Waiting, without, named_by, meant_by, asked_second, cause_by, given_cause, cause_of, answered, afterwards, after_note, waiting_after, waiting_of}
use Rattle.history.proofs.WaitingLaws.{waiting_for, Same, same_none, same_take, same_clear, cause_same}

-- a second post is another than the one where the call waits
abbrev pub Other : Place → Type 0
Other p = p.used ≡ true → p.more ≡ true → p.post ≡ p.second → ⊥

-- a desk along a history: 32 places that 1 passes, and the calls w wait in them
pub record Along (d : Desk) (w : List Waiting) : Type 0 where
  pub size : length (places_of d) ≡ 32
  pub sound : places_ok d.profile.shares (places_of d) ≡ true
  pub same : Same (places_of d) w
  pub other : (i : ℕ) → i < 32 → Other (place_in (places_of d) i)

-- one place changed to one that keeps that
other_set : (l : List Place) → length l ≡ 32 → (i : ℕ) (p : Place) → i < 32 → Other p → ((j : ℕ) → j < 32 → Other (place_in l j))
    → (j : ℕ) → j < 32 → Other (place_in (set l i p) j)
other_set l n i p h o all j k = set_by l i p (omega (arith, n, h)) Other j (λ d. o) (λ d. all j k)

-- ---- one call

module _ (d : Desk) (w : List Waiting) (a : Along d w) (c : Call) where
  abbrev pub spoken : Spoken
  spoken = spoken_of d.profile (take c.count c.rows) c.message c.event

  abbrev pub identifier : ℕ
  identifier = identifier_of d.profile c.message c.event

  along_ends : is_ending (step_for d c).answer ≡ true → Along (desk_after d (ends identifier)) (without identifier w)
  unfolding desk_after clear_of
  along_ends z =
      let at = spot_found (place_of (places_of d) identifier) (ended_waits d c.rows c.count c.message c.area c.event z) in
      let f = place_of_exactly (places_of d) identifier (place_of (places_of d) identifier).place at in
      record {
        size = length_clear (places_of d) _ ∙ a.size;
        sound = clear_keeps d.profile.shares (places_of d) a.size _ a.sound;
        same = same_clear d.profile.shares (places_of d) w a.size a.sound a.same _ identifier at;
        other = other_set (places_of d) a.size _ no_place f.inside (λ u. not_both u) a.other;
      }

  along_begins : (post place : ℕ) → (step_for d c).answer ≡ answer.Admitted post place
      → Along (desk_after d (begins (call_for spoken post))) (record { identifier = identifier; post = post; second = spoken.second; cause = spoken.cause } ∷ w)
  unfolding desk_after take_of
  along_begins post place z =
      let k = admitted_so d c.rows c.count c.message c.area post place c.event z in
      let at = spot_found (lowest_free (places_of d)) (ap (λ (s : Spot). s.found) k.spot) in
      let f = lowest_free_exactly (places_of d) (lowest_free (places_of d)).place at in
      record {
        size = length_take (places_of d) _ _ ∙ a.size;
        sound = take_keeps d.profile.shares (places_of d) a.size _ _ a.sound (record { small = k.small; below = k.below; second = k.second; cause = k.caused }) k.new k.admits at;
        same = same_take (places_of d) w a.size a.same _ (call_for spoken post) f.inside f.free;
        other = other_set (places_of d) a.size _ (place_for (call_for spoken post)) f.inside (λ u m e. k.other m e) a.other;
      }

  -- a move: an end at one post and an admission, in the same place, at the other
  module _ (post : ℕ) (z : (step_for d c).answer ≡ answer.Moved post) where
    abbrev pub place : ℕ
    place = (place_of (places_of d) identifier).place

    moved : MovedCall d identifier (post_of c.event) post
    moved = moved_so d c.rows c.count c.message c.area post c.event z

    at : place_of (places_of d) identifier ≡ spot_at place
    at = spot_found (place_of (places_of d) identifier) moved.waiting

    pub first : WaitsFirst (places_of d) identifier place
    first = place_of_exactly (places_of d) identifier place at

    same_moved : Same (move_of (places_of d) place) (waiting_for (moved_on (place_in (places_of d) place)) ∷ without identifier w)
    same_moved =
        subst (λ (l : List Place). Same l (waiting_for (moved_on (place_in (places_of d) place)) ∷ without identifier w)) (sym (move_is (places_of d) place))
        (same_take (clear_of (places_of d) place) (without identifier w) (length_clear (places_of d) place ∙ a.size)
        (same_clear d.profile.shares (places_of d) w a.size a.sound a.same place identifier at)
        place (moved_on (place_in (places_of d) place)) first.inside (ap (λ (p : Place). p.used) (clear_free (places_of d) place)))

    -- with the cause that it had
    pub moved_cause : cause_of w identifier ≡ (place_in (places_of d) place).cause
    moved_cause = cause_same d.profile.shares (places_of d) w a.size a.sound a.same place identifier at

    moved_as : waiting_for (moved_on (place_in (places_of d) place)) ≡ record { identifier = identifier; post = post; second = no_party; cause = cause_of w identifier }
    moved_as =
        ap (λ (i : ℕ). record { identifier = i; post = (place_in (places_of d) place).second; second = no_party; cause = (place_in (places_of d) place).cause }) first.same
        ∙ ap (λ (q : ℕ). record { identifier = identifier; post = q; second = no_party; cause = (place_in (places_of d) place).cause }) moved.second
        ∙ ap (λ (k : ℕ). record { identifier = identifier; post = post; second = no_party; cause = k }) (sym moved_cause)

    along_moves : Along (desk_after d (moves identifier)) (record { identifier = identifier; post = post; second = no_party; cause = cause_of w identifier } ∷ without identifier w)
    unfolding desk_after move_of take_of
    along_moves =
        record {
          size = length_move (places_of d) place ∙ a.size;
          sound = move_keeps d.profile.shares (places_of d) a.size identifier place a.sound at moved.two
              (ap (λ (q : ℕ). admits_of d.profile.shares (clear_of (places_of d) place) q) moved.second ∙ moved.admits);
          same = subst (λ (x : Waiting). Same (move_of (places_of d) place) (x ∷ without identifier w)) moved_as same_moved;
          other = other_set (places_of d) a.size place (place_for (moved_on (place_in (places_of d) place))) first.inside (λ u m. not_both m) a.other;
        }

    -- the post that it moves to is another than the one that accepted it
    pub moved_other : post_of c.event ≡ post → ⊥
    moved_other e =
        a.other place first.inside first.used moved.two
        (eqb-true _ _ moved.here ∙ e ∙ sym moved.second)

  along_nothing : Along (desk_after d nothing) w
  unfolding desk_after
  along_nothing = record { size = a.size; sound = a.sound; same = a.same; other = a.other }

  along_answer : (x : Answer) → (step_for d c).answer ≡ x → Along (desk_after d (effect_by spoken x)) (answered (record { identifier = identifier; second = spoken.second; cause = spoken.cause }) x w)
  along_answer (answer.Refused s) z = along_nothing
  along_answer answer.Acks z = along_nothing
  along_answer (answer.State k) z = along_nothing
  along_answer answer.Free z = along_nothing
  along_answer (answer.Admitted post place) z = along_begins post place z
  along_answer answer.Proceed z = along_ends (ap is_ending z)
  along_answer answer.Diverted z = along_ends (ap is_ending z)
  along_answer answer.Rejected z = along_ends (ap is_ending z)
  along_answer (answer.Cancelled p) z = along_ends (ap is_ending z)
  along_answer (answer.Moved post) z = along_moves post z

  -- the event means one call, to the history and to the desk, the same post is asked second, and the same cause given
  pub meant_same : (e : Event) → meant_by d.profile c.message e ≡ identifier_of d.profile c.message e
  unfolding blank
  meant_same (event.Message post bits) = go (read_of d.profile c.message bits)
    where
      go : (r : Read Value) → named_by r ≡ identifier_in (value_by r)
      go (got v n) = refl
      go (no s) = refl
  meant_same (event.SetUp caller called identifier cause) = refl
  meant_same (event.Reject post identifier) = refl
  meant_same (event.Cancel identifier) = refl

  asked_same : (e : Event) → asked_second (take c.count c.rows) e ≡ second_for (take c.count c.rows) e
  asked_same (event.Message post bits) = refl
  asked_same (event.SetUp caller called identifier cause) = refl
  asked_same (event.Reject post identifier) = refl
  asked_same (event.Cancel identifier) = refl

  given_same : (e : Event) → given_cause d.profile c.message e ≡ cause_for d.profile c.message e
  unfolding blank
  given_same (event.Message post bits) = go (read_of d.profile c.message bits)
    where
      go : (r : Read Value) → cause_by r ≡ number_at numbers.cause (value_by r)
      go (got v n) = refl
      go (no s) = refl
  given_same (event.SetUp caller called identifier cause) = refl
  given_same (event.Reject post identifier) = refl
  given_same (event.Cancel identifier) = refl

  -- what waits afterwards, in the desk's words
  pub afterwards_is : (x : Answer) → afterwards d.profile w c x ≡ answered (record { identifier = identifier; second = spoken.second; cause = spoken.cause }) x w
  unfolding afterwards
  afterwards_is x = rw (meant_same c.event, asked_same c.event, given_same c.event) refl

  -- the desk does with its places just what the history takes the answer to mean
  pub along_step : Along (step_for d c).desk (afterwards d.profile w c (step_for d c).answer)
  unfolding effect_of
  along_step =
      rw (afterwards_is (step_for d c).answer, step_desk d c.rows c.count c.message c.area c.event) (along_answer (step_for d c).answer refl)

-- a call leaves the profile as it is
pub step_profile : (d : Desk) (c : Call) → (step_for d c).desk.profile ≡ d.profile
unfolding desk_after
step_profile d c = ap (λ (x : Desk). x.profile) (step_desk d c.rows c.count c.message c.area c.event)

-- ---- one change of the shares

-- the same calls wait, and the desk stays one that passes
pub along_change : (d : Desk) (w : List Waiting) → Along d w → (rows : List Share) → Along (change_of d rows).desk w
along_change d w a rows =
    record {
      size = subst (λ (x : Places). length x.place ≡ 32) same_places a.size;
      sound = change_fits d rows a.sound;
      same = subst (λ (x : Places). Same x.place w) same_places a.same;
      other = subst (λ (x : Places). (i : ℕ) → i < 32 → Other (place_in x.place i)) same_places a.other;
    }
  where
    same_places : d.places ≡ (change_of d rows).desk.places
    same_places = sym (change_places d rows)

-- ---- what does not change: the part of the profile that goes by the air, and that the profile keeps the rules

pub record Suits (p : Profile) (d : Desk) : Type 0 where
  pub air : d.profile.air ≡ p.air
  pub passes : profile_ok d.profile ≡ true
  pub opens : profile_ok p ≡ true

-- so a message reads the same, by the profile at the opening and by the one in force
module _ (p : Profile) (d : Desk) (s : Suits p d) where
  pub read_air : (l : List ℕ) (n : ℕ) → read_of d.profile l n ≡ read_of p l n
  unfolding read_of
  read_air l n = rw (s.passes, s.opens, s.air) refl

  pub meant_air : (l : List ℕ) (e : Event) → meant_by d.profile l e ≡ meant_by p l e
  meant_air l (event.Message post bits) = ap named_by (read_air l bits)
  meant_air l (event.SetUp caller called identifier cause) = refl
  meant_air l (event.Reject post identifier) = refl
  meant_air l (event.Cancel identifier) = refl

  given_air : (l : List ℕ) (e : Event) → given_cause d.profile l e ≡ given_cause p l e
  given_air l (event.Message post bits) = ap cause_by (read_air l bits)
  given_air l (event.SetUp caller called identifier cause) = refl
  given_air l (event.Reject post identifier) = refl
  given_air l (event.Cancel identifier) = refl

  pub afterwards_air : (w : List Waiting) (c : Call) (x : Answer) → afterwards d.profile w c x ≡ afterwards p w c x
  unfolding afterwards
  afterwards_air w c x = rw (meant_air c.message c.event, given_air c.message c.event) refl

pub suits_step : (p : Profile) (d : Desk) → Suits p d → (c : Call) → Suits p (step_for d c).desk
suits_step p d s c =
    record { air = ap (λ (x : Profile). x.air) (step_profile d c) ∙ s.air; passes = ap profile_ok (step_profile d c) ∙ s.passes; opens = s.opens }

pub suits_change : (p : Profile) (d : Desk) → Suits p d → (rows : List Share) → Suits p (change_of d rows).desk
suits_change p d s rows = record { air = change_air d rows ∙ s.air; passes = change_lawful d rows s.passes; opens = s.opens }

-- ---- any number of turns

-- what is known of a desk along a history that was opened with this profile, has these shares in force, and these calls waiting
pub record Stands (p : Profile) (d : Desk) (s : Shares) (w : List Waiting) : Type 0 where
  pub along : Along d w
  pub suits : Suits p d
  pub shares : d.profile.shares ≡ s

pub stands_turn : (p : Profile) (d : Desk) (s : Shares) (w : List Waiting) → Stands p d s w → (t : Turn) → Stands p (desk_by d t) (shares_after s (note_for d t)) (after_note p w (note_for d t))
stands_turn p d s w z (one_call c) =
    record {
      along = subst (λ (v : List Waiting). Along (step_for d c).desk v) (afterwards_air p d z.suits w c (step_for d c).answer) (along_step d w z.along c);
      suits = suits_step p d z.suits c;
      shares = ap (λ (x : Profile). x.shares) (step_profile d c) ∙ z.shares;
    }
stands_turn p d s w z (one_change rows) =
    record {
      along = along_change d w z.along rows;
      suits = suits_change p d z.suits rows;
      shares =
          change_shares d rows ∙ ap (λ (x : Shares). cond (change_of d rows).change.taken (new_shares x.posts rows) x) z.shares;
    }

pub stands_run : (p : Profile) (turns : List Turn) (d : Desk) (s : Shares) (w : List Waiting) → Stands p d s w
    → Stands p (left_by d turns) (shares_by s (run_of d turns)) (waiting_after p w (run_of d turns))
unfolding left_by run_of waiting_after shares_by
stands_run p [] d s w z = z
stands_run p (t ∷ turns) d s w z = stands_run p turns (desk_by d t) _ _ (stands_turn p d s w z t)

-- the number of posts is fixed
pub posts_fixed : (h : History) (s : Shares) → (shares_by s h).posts ≡ s.posts
unfolding shares_by new_shares
posts_fixed [] s = refl
posts_fixed (call_noted c a ∷ h) s = posts_fixed h s
posts_fixed (change_noted rows x ∷ h) s = posts_fixed h (cond x.taken (new_shares s.posts rows) s) ∙ go x.taken
  where
    go : (b : Bool) → (cond b (new_shares s.posts rows) s).posts ≡ s.posts
    go true = refl
    go false = refl

-- where no change is taken the shares stay
pub shares_stay : (h : History) (s : Shares) → takes_none h ≡ true → shares_by s h ≡ s
unfolding shares_by takes_none
shares_stay [] s e = refl
shares_stay (call_noted c a ∷ h) s e = shares_stay h s (both_right true _ e)
shares_stay (change_noted rows x ∷ h) s e = go x.taken refl (both_left _ _ e) (shares_stay h s (both_right (not x.taken) _ e))
  where
    go : (b : Bool) → x.taken ≡ b → not x.taken ≡ true → shares_by s h ≡ s → shares_by (cond b (new_shares s.posts rows) s) h ≡ s
    go true k n r = not_both (ap not (sym k) ∙ n)
    go false k n r = r

-- the history of the first turns is the first part of the history: what holds of any turns holds after each prefix of them
pub run_parts : (xs ys : List Turn) (d : Desk) → run_of d (xs ++ ys) ≡ run_of d xs ++ run_of (left_by d xs) ys
unfolding run_of left_by
run_parts [] ys d = refl
run_parts (t ∷ xs) ys d = ap (λ (h : History). note_for d t ∷ h) (run_parts xs ys (desk_by d t))

pub shares_parts : (h k : History) (s : Shares) → shares_by s (h ++ k) ≡ shares_by (shares_by s h) k
unfolding shares_by
shares_parts [] k s = refl
shares_parts (x ∷ h) k s = shares_parts h k (shares_after s x)

-- ---- from an opened desk

-- a profile that opens is one that passes, and its desk has every place free
pub opened : (p : Profile) (d : Desk) → open_of p ≡ Ok d → (profile_ok p ≡ true) × (d ≡ desk_with p)
unfolding open_of
opened p d = go (profile_ok p)
  where
    go : (b : Bool) → cond b (Ok (desk_with p)) (Err (refusal 1)) ≡ Ok d → (b ≡ true) × (d ≡ desk_with p)
    go true e = (refl, cc)
    go false e = (cc, cc)

-- the shares that a history has in force, by which each call is judged
abbrev pub in_force_by : Profile → History → Shares
in_force_by p history = shares_of p history

module _ (p : Profile) (opens : profile_ok p ≡ true) where
  pub along_open : Along (desk_with p) []
  unfolding profile_ok
  along_open = record { size = length_none; sound = none_waiting_ok p.shares (both_right _ _ opens); same = same_none; other = λ i h u. not_both (rw (none_at i) at u) }

  pub stands_open : Stands p (desk_with p) p.shares []
  stands_open = record { along = along_open; suits = record { air = refl; passes = opens; opens = opens }; shares = refl }

  pub stands : (turns : List Turn) → Stands p (left_by (desk_with p) turns) (shares_of p (run_of (desk_with p) turns)) (waiting_of p (run_of (desk_with p) turns))
  stands turns = stands_run p turns (desk_with p) p.shares [] stands_open

  pub along : (turns : List Turn) → Along (left_by (desk_with p) turns) (waiting_of p (run_of (desk_with p) turns))
  along turns = (stands turns).along
