-- A freed place is used again, and so is its identifier: after a call that ended a waiting one. Assumes nothing.
use Prim.Native.Nat.{ℕ, ◌<◌}
use mathlib.Core.Path.{◌≡◌, refl, sym, ap, ◌∙◌}
use mathlib.Core.Bool.{Bool, true, false, not, cond}
use mathlib.Core.List.{List}
use native.Mathlib.Omega.{arith}
use lib.Dec.{eqb, ltb}
use lib.ListN.{length, take}
use borrow.Author.Tests.{ne_eqb}
use Rattle.codec.specs.Stops.{refusal}
use Rattle.codec.proofs.Good.{both_right, not_both}
use Rattle.places.specs.Held.{place_in, admits_of}
use Rattle.places.specs.Spots.{spot_at, place_of, lowest_free, clear_of}
use Rattle.places.specs.declared.Place.{Place}
use Rattle.places.proofs.HeldLaws.{used_clear}
use Rattle.places.proofs.CallLaws.{place_clear_own}
use Rattle.places.proofs.MoveLaws.{clear_free}
use Rattle.places.proofs.SpotLaws.{lowest_found, spot_found, place_of_exactly}
use Rattle.records.specs.Records.{records_ok}
use Rattle.records.specs.declared.Identity.{Identity}
use Rattle.records.specs.declared.Record.{Record}
use Rattle.desk.specs.Desks.{desk_ok}
use Rattle.desk.specs.Grounds.{waits, party_for}
use Rattle.desk.specs.Numbers.{number_of}
use Rattle.desk.specs.Orders.{unless, posts_of, places_of, set_up_ok, admit_answer, set_up_answer, answer_of}
use Rattle.desk.specs.Steps.{Spoken, spoken_of, ends, effect_by, effect_of, identifier_of, desk_after, step_of}
use Rattle.desk.specs.declared.Answer.{Answer}
use Rattle.desk.specs.declared.Answer.TheVariants as answer
use Rattle.desk.specs.declared.Desk.{Desk}
use Rattle.desk.specs.declared.Event.{Event}
use Rattle.desk.specs.declared.Event.TheVariants as event
use Rattle.desk.proofs.AnswerLaws.{step_answer}
use Rattle.desk.proofs.SetUps.{step_desk}
use Rattle.desk.proofs.Endings.{is_ending, ended_waits}

-- ---- a place that is cleared

module _ (l : List Place) (i : ℕ) where
  cleared_there : (j : ℕ) → (j ≡ i → ⊥) → place_in (clear_of l i) j ≡ place_in l j
  cleared_there j d = used_clear l i j ∙ rw (ne_eqb j i d) refl

  -- it is the lowest free one if every lower one is used
  cleared_lowest : i < 32 → ((j : ℕ) → j < i → (place_in l j).used ≡ true) → lowest_free (clear_of l i) ≡ spot_at i
  unfolding lowest_free
  cleared_lowest h lower =
      lowest_found 32 i (λ j. not (place_in (clear_of l i) j).used)
      (record {
        inside = h;
        passes = rw (clear_free l i) refl;
        before = λ j k. let d : j ≡ i → ⊥ = λ e. absurd (omega (arith, e, k)) in rw (cleared_there j d, lower j k) refl;
      })

-- ---- after a call that ended one

ending_ends : (spoken : Spoken) (a : Answer) → is_ending a ≡ true → effect_by spoken a ≡ ends spoken.identifier
ending_ends spoken (answer.Refused s) e = not_both e
ending_ends spoken answer.Acks e = not_both e
ending_ends spoken (answer.State k) e = not_both e
ending_ends spoken answer.Free e = not_both e
ending_ends spoken (answer.Admitted post place) e = not_both e
ending_ends spoken answer.Proceed e = refl
ending_ends spoken answer.Diverted e = refl
ending_ends spoken answer.Rejected e = refl
ending_ends spoken (answer.Cancelled post) e = refl
ending_ends spoken (answer.Moved post) e = not_both e

-- the call with the identifier is gone: its place is free, the lowest free one if every lower one is used, and the identifier is not waiting
pub record Freed (d after : Desk) (identifier place : ℕ) : Type 0 where
  pub was : place_of (places_of d) identifier ≡ spot_at place
  pub free : (place_in (places_of after) place).used ≡ false
  pub lowest : ((j : ℕ) → j < place → (place_in (places_of d) j).used ≡ true) → lowest_free (places_of after) ≡ spot_at place
  pub new : waits after identifier ≡ false

module _ (d : Desk) (rows : List Record) (n : ℕ) (l area : List ℕ) (e : Event) (ended : is_ending (step_of d rows n l area e).answer ≡ true) where
  -- the call that it ended, the place where that waited, and the desk afterwards
  abbrev pub identifier : ℕ
  identifier = identifier_of d.profile l e

  abbrev pub place : ℕ
  place = (place_of (places_of d) identifier).place

  abbrev pub after : Desk
  after = (step_of d rows n l area e).desk

  passed : desk_ok d ≡ true
  unfolding answer_of
  passed = go (desk_ok d) refl
    where
      go : (b : Bool) → desk_ok d ≡ b → b ≡ true
      go true z = refl
      go false z =
          let one : answer_of d rows n l (length area) e ≡ answer.Refused (refusal 1) = rw z refl in
          not_both (sym (ap is_ending (step_answer d rows n l area e ∙ one)) ∙ ended)

  after_is : places_of after ≡ clear_of (places_of d) place
  unfolding effect_of desk_after
  after_is = ap (λ (x : Desk). places_of x) (step_desk d rows n l area e) ∙ rw (ending_ends (spoken_of d.profile (take n rows) l e) (step_of d rows n l area e).answer ended) refl

  pub freed : Freed d after identifier place
  unfolding desk_ok
  freed =
      let at = spot_found (place_of (places_of d) identifier) (ended_waits d rows n l area e ended) in
      let f = place_of_exactly (places_of d) identifier place at in
      record {
        was = at;
        free = ap (λ (ps : List Place). (place_in ps place).used) after_is ∙ ap (λ (x : Place). x.used) (clear_free (places_of d) place);
        lowest = λ lower. ap lowest_free after_is ∙ cleared_lowest (places_of d) place f.inside lower;
        new = ap (λ (ps : List Place). (place_of ps identifier).found) after_is ∙ place_clear_own (places_of d) place d.profile.shares (both_right _ _ passed) identifier at;
      }

-- ---- a set-up of an identifier that is not waiting does not get 17

abbrev not_again : Answer → Bool
not_again a = not (eqb (number_of a) 17)

unless_again : (b : Bool) (c : ℕ) (a : Answer) → eqb c 17 ≡ false → not_again a ≡ true → not_again (unless b c a) ≡ true
unfolding refusal
unless_again true c a h e = rw h refl
unless_again false c a h e = e

pub new_not_17 : (d : Desk) (rows : List Record) (n : ℕ) (l area : List ℕ) (caller called : Identity) (identifier cause : ℕ) → waits d identifier ≡ false
    → number_of (step_of d rows n l area (event.SetUp caller called identifier cause)).answer ≡ 17 → ⊥
unfolding answer_of set_up_answer admit_answer
new_not_17 d rows n l area caller called identifier cause w z =
    not_both (sym (ap (λ (k : ℕ). not (eqb k 17)) z) ∙ ap not_again (step_answer d rows n l area (event.SetUp caller called identifier cause))
    ∙ unless_again (not (desk_ok d)) 1 _ refl
    (unless_again (not (set_up_ok caller called identifier cause)) 16 _ refl
    (unless_again (ltb (length area) 300) 14 _ refl
    (unless_again (not (records_ok rows n (posts_of d))) 15 _ refl (rw w (party (party_for rows n caller called).found))))))
  where
    party : (b : Bool) → not_again (cond b (admit_answer d (party_for rows n caller called).post) answer.Free) ≡ true
    party true = unless_again (not (admits_of d.profile.shares (places_of d) (party_for rows n caller called).post)) 18 _ refl refl
    party false = refl

-- so the identifier of a call that was ended can be set up again, whatever is lent then
pub identifier_again : (d : Desk) (rows : List Record) (n : ℕ) (l area : List ℕ) (e : Event) (ended : is_ending (step_of d rows n l area e).answer ≡ true)
    → (rows₁ : List Record) (n₁ : ℕ) (l₁ area₁ : List ℕ) (caller called : Identity) (cause : ℕ)
    → number_of (step_of (step_of d rows n l area e).desk rows₁ n₁ l₁ area₁ (event.SetUp caller called (identifier_of d.profile l e) cause)).answer ≡ 17 → ⊥
identifier_again d rows n l area e ended rows₁ n₁ l₁ area₁ caller called cause =
    new_not_17 (step_of d rows n l area e).desk rows₁ n₁ l₁ area₁ caller called (identifier_of d.profile l e) cause (freed d rows n l area e ended).new
