-- Call set-up: when it is free, which place it takes, and what any call does to the desk. Assumes nothing.
use Prim.Native.Nat.{ℕ, ◌<◌, ◌^◌}
use mathlib.Core.Path.{◌≡◌, refl, sym, ap, ◌∙◌}
use mathlib.Core.Bool.{Bool, true, false, not, cond}
use mathlib.Core.List.{List, [], ◌∷◌}
use lib.Dec.{ltb}
use lib.ListN.{length, take}
use Rattle.codec.specs.Codec.{both, Ground, none_of}
use Rattle.codec.proofs.Good.{both_left, both_right, not_both}
use Rattle.places.specs.Held.{admits_of}
use Rattle.places.specs.Spots.{spot_at, place_of, lowest_free, take_of}
use Rattle.places.proofs.SpotLaws.{FreeFirst, lowest_free_exactly, spot_found}
use Rattle.places.proofs.PlaceLaws.{admitted_has_place}
use Rattle.records.specs.Records.{records_ok, is_restricted, no_party, post_for}
use Rattle.records.specs.declared.Identity.{Identity}
use Rattle.records.specs.declared.Party.{Party}
use Rattle.records.specs.declared.Record.{Record}
use Rattle.records.proofs.PartyLaws.{restricted_is, party_below, second_other, second_below}
use Rattle.desk.specs.Desks.{desk_ok}
use Rattle.desk.specs.Grounds.{waits, party_for, set_up_grounds, is_new, is_free_call}
use Rattle.desk.specs.Orders.{unless, posts_of, places_of, set_up_ok, admit_answer, party_answer, set_up_answer, answer_of}
use Rattle.desk.specs.Steps.{Spoken, spoken_of, call_for, effect_by, effect_of, desk_after, plain_step, acks_step, step_by, step_of}
use Rattle.desk.specs.declared.Answer.{Answer}
use Rattle.desk.specs.declared.Answer.TheVariants as answer
use Rattle.desk.specs.declared.Desk.{Desk}
use Rattle.desk.specs.declared.Event.{Event}
use Rattle.desk.specs.declared.Event.TheVariants as event
use Rattle.desk.specs.declared.marking.Asked.{Asked}
use Rattle.desk.proofs.AnswerLaws.{step_answer, answer_ok}
use Rattle.desk.proofs.SetUpLaws.{setup_identifier, setup_cause}

-- ---- the desk after any call: what the answer says of the waiting calls, and nothing else

by_desk : (d : Desk) (rows : List Record) (post : ℕ) (asked : Asked) (spoken : Spoken) (a : Answer)
    → (step_by d rows post asked spoken a).desk ≡ desk_after d (effect_by spoken a)
unfolding step_by plain_step acks_step desk_after
by_desk d rows post asked spoken (answer.Refused s) = refl
by_desk d rows post asked spoken answer.Acks = refl
by_desk d rows post asked spoken (answer.State k) = refl
by_desk d rows post asked spoken answer.Free = refl
by_desk d rows post asked spoken (answer.Admitted p i) = refl
by_desk d rows post asked spoken answer.Proceed = refl
by_desk d rows post asked spoken answer.Diverted = refl
by_desk d rows post asked spoken answer.Rejected = refl
by_desk d rows post asked spoken (answer.Cancelled p) = refl
by_desk d rows post asked spoken (answer.Moved p) = refl

order_desk : (d : Desk) (rows : List Record) (n : ℕ) (l area : List ℕ) (e : Event)
    → (step_of d rows n l area e).desk ≡ desk_after d (effect_by (spoken_of d.profile (take n rows) l e) (answer_of d rows n l (length area) e))
unfolding step_of
order_desk d rows n l area e = by_desk d (take n rows) _ _ _ (answer_of d rows n l (length area) e)

pub step_desk : (d : Desk) (rows : List Record) (n : ℕ) (l area : List ℕ) (e : Event)
    → (step_of d rows n l area e).desk ≡ desk_after d (effect_of d.profile (take n rows) l e (step_of d rows n l area e).answer)
unfolding effect_of
step_desk d rows n l area e =
    order_desk d rows n l area e ∙ ap (λ (a : Answer). desk_after d (effect_by (spoken_of d.profile (take n rows) l e) a)) (sym (step_answer d rows n l area e))

-- ---- a row of grounds

unfoldable unless_any : List Ground → Answer → Answer
unless_any [] a = a
unless_any ((s, b) ∷ rest) a = cond b (answer.Refused s) (unless_any rest a)

none_holds : (gs : List Ground) (a : Answer) → none_of gs ≡ true → unless_any gs a ≡ a
unfolding none_of unless_any
none_holds [] a e = refl
none_holds ((s, true) ∷ rest) a e = not_both (both_left false _ e)
none_holds ((s, false) ∷ rest) a e = none_holds rest a (both_right true _ e)

abbrev pub is_refused : Answer → Bool
is_refused (answer.Refused s) = true
is_refused answer.Acks = false
is_refused (answer.State k) = false
is_refused answer.Free = false
is_refused (answer.Admitted post place) = false
is_refused answer.Proceed = false
is_refused answer.Diverted = false
is_refused answer.Rejected = false
is_refused (answer.Cancelled post) = false
is_refused (answer.Moved post) = false

some_holds : (gs : List Ground) (a : Answer) → none_of gs ≡ false → is_refused (unless_any gs a) ≡ true
unfolding both none_of unless_any
some_holds [] a e = not_both (sym e)
some_holds ((s, true) ∷ rest) a e = refl
some_holds ((s, false) ∷ rest) a e = some_holds rest a e

abbrev pub is_free : Answer → Bool
is_free (answer.Refused s) = false
is_free answer.Acks = false
is_free (answer.State k) = false
is_free answer.Free = true
is_free (answer.Admitted post place) = false
is_free answer.Proceed = false
is_free answer.Diverted = false
is_free answer.Rejected = false
is_free (answer.Cancelled post) = false
is_free (answer.Moved post) = false

refused_not_free : (a : Answer) → is_refused a ≡ true → is_free a ≡ false
refused_not_free (answer.Refused s) e = refl
refused_not_free answer.Acks e = refl
refused_not_free (answer.State k) e = refl
refused_not_free answer.Free e = not_both e
refused_not_free (answer.Admitted post place) e = refl
refused_not_free answer.Proceed e = refl
refused_not_free answer.Diverted e = refl
refused_not_free answer.Rejected e = refl
refused_not_free (answer.Cancelled post) e = refl
refused_not_free (answer.Moved post) e = refl

pub not_true : (b : Bool) → not b ≡ true → b ≡ false
not_true true e = not_both e
not_true false e = refl

admit_not_free : (d : Desk) (post : ℕ) → is_free (admit_answer d post) ≡ false
unfolding admit_answer
admit_not_free d post = go (admits_of d.profile.shares (places_of d) post)
  where
    go : (b : Bool) → is_free (unless (not b) 18 (answer.Admitted post (lowest_free (places_of d)).place)) ≡ false
    go true = refl
    go false = refl

-- ---- the answer to a party that is restricted, or to none

abbrev is_admitted : Answer → Bool
is_admitted (answer.Refused s) = false
is_admitted answer.Acks = false
is_admitted (answer.State k) = false
is_admitted answer.Free = false
is_admitted (answer.Admitted post place) = true
is_admitted answer.Proceed = false
is_admitted answer.Diverted = false
is_admitted answer.Rejected = false
is_admitted (answer.Cancelled post) = false
is_admitted (answer.Moved post) = false

abbrev never : Answer → Bool
never a = not (is_admitted a)

-- the post and the place of an admission
abbrev admission : Answer → ℕ × ℕ
admission (answer.Refused s) = (0, 0)
admission answer.Acks = (0, 0)
admission (answer.State k) = (0, 0)
admission answer.Free = (0, 0)
admission (answer.Admitted post place) = (post, place)
admission answer.Proceed = (0, 0)
admission answer.Diverted = (0, 0)
admission answer.Rejected = (0, 0)
admission (answer.Cancelled post) = (0, 0)
admission (answer.Moved post) = (0, 0)

not_not : (b : Bool) → not (not b) ≡ true → b ≡ true
not_not true e = refl
not_not false e = e

party_admitted : (d : Desk) (p : Party) (post place : ℕ) → party_answer d p ≡ answer.Admitted post place
    → (p ≡ record { found = true; post = post }) × ((admits_of d.profile.shares (places_of d) post ≡ true) × ((lowest_free (places_of d)).place ≡ place))
unfolding admit_answer
party_admitted d p post place = found p.found refl
  where
    rule : (b : Bool) → admits_of d.profile.shares (places_of d) p.post ≡ b
        → unless (not b) 18 (answer.Admitted p.post (lowest_free (places_of d)).place) ≡ answer.Admitted post place
        → (p.post ≡ post) × ((admits_of d.profile.shares (places_of d) post ≡ true) × ((lowest_free (places_of d)).place ≡ place))
    rule true e z =
        let q : p.post ≡ post = ap (λ (a : Answer). (admission a).0) z in
        (q, (rw q at e, ap (λ (a : Answer). (admission a).1) z))
    rule false e z = not_both (ap is_admitted z)

    found : (b : Bool) → p.found ≡ b → cond b (admit_answer d p.post) answer.Free ≡ answer.Admitted post place
        → (p ≡ record { found = true; post = post }) × ((admits_of d.profile.shares (places_of d) post ≡ true) × ((lowest_free (places_of d)).place ≡ place))
    found true e z =
        let r = rule (admits_of d.profile.shares (places_of d) p.post) refl z in
        (rw (← e, ← r.0) refl, r.1)
    found false e z = not_both (ap is_admitted z)

-- ---- a call being set up

module _ (d : Desk) (rows : List Record) (n : ℕ) (l : List ℕ) (room : ℕ) (caller called : Identity) (identifier cause : ℕ) where
  abbrev pub party : Party
  party = party_for rows n caller called

  setup_is : answer_of d rows n l room (event.SetUp caller called identifier cause) ≡ unless_any (set_up_grounds d rows n room caller called identifier cause) (party_answer d party)
  unfolding answer_of set_up_answer unless_any
  setup_is = refl

  -- a well-formed new call is free or goes by the places rule
  pub new_call : is_new d rows n room caller called identifier cause ≡ true → answer_of d rows n l room (event.SetUp caller called identifier cause) ≡ party_answer d party
  unfolding is_new
  new_call e = setup_is ∙ none_holds (set_up_grounds d rows n room caller called identifier cause) (party_answer d party) e

  -- any other is refused
  pub not_new : is_new d rows n room caller called identifier cause ≡ false → is_refused (answer_of d rows n l room (event.SetUp caller called identifier cause)) ≡ true
  unfolding is_new
  not_new e = ap is_refused setup_is ∙ some_holds (set_up_grounds d rows n room caller called identifier cause) (party_answer d party) e

  -- ---- free

  party_free : is_free (party_answer d party) ≡ both (not (is_restricted (take n rows) caller)) (not (is_restricted (take n rows) called))
  unfolding both
  party_free = ap (λ (p : Party). is_free (party_answer d p)) (restricted_is (take n rows) caller called) ∙ go (is_restricted (take n rows) caller) (is_restricted (take n rows) called)
    where
      for : ℕ → Party
      for p = record { found = true; post = p }

      go : (a b : Bool) → is_free (party_answer d (cond a (for (post_for (take n rows) caller)) (cond b (for (post_for (take n rows) called)) no_party))) ≡ both (not a) (not b)
      go true b = admit_not_free d (post_for (take n rows) caller)
      go false true = admit_not_free d (post_for (take n rows) called)
      go false false = refl

  setup_free : is_free (answer_of d rows n l room (event.SetUp caller called identifier cause)) ≡ is_free_call d rows n room (event.SetUp caller called identifier cause)
  unfolding both
  setup_free = go (is_new d rows n room caller called identifier cause) refl
    where
      go : (b : Bool) → is_new d rows n room caller called identifier cause ≡ b
          → is_free (answer_of d rows n l room (event.SetUp caller called identifier cause)) ≡ both b (both (not (is_restricted (take n rows) caller)) (not (is_restricted (take n rows) called)))
      go true e = ap is_free (new_call e) ∙ party_free
      go false e = refused_not_free (answer_of d rows n l room (event.SetUp caller called identifier cause)) (not_new e)

  -- ---- admitted

  -- what a well-formed new call passes
  pub record NewCall : Type 0 where
    pub desk : desk_ok d ≡ true
    pub call : set_up_ok caller called identifier cause ≡ true
    pub area : ltb room 300 ≡ false
    pub records : records_ok rows n (posts_of d) ≡ true
    pub waiting : (place_of (places_of d) identifier).found ≡ false

  pub new_passes : is_new d rows n room caller called identifier cause ≡ true → NewCall
  unfolding is_new none_of
  new_passes e =
      let a = both_right (not (not (desk_ok d))) _ e in
      let b = both_right (not (not (set_up_ok caller called identifier cause))) _ a in
      let c = both_right (not (ltb room 300)) _ b in
      record {
        desk = not_not (desk_ok d) (both_left _ _ e);
        call = not_not (set_up_ok caller called identifier cause) (both_left _ _ a);
        area = not_true (ltb room 300) (both_left _ _ b);
        records = not_not (records_ok rows n (posts_of d)) (both_left _ _ c);
        waiting = not_true (place_of (places_of d) identifier).found (both_left _ _ (both_right (not (not (records_ok rows n (posts_of d)))) _ c));
      }

  -- an admission: a well-formed new call, restricted, for this post, which the places rule admits and for which this is the lowest free place
  pub record Admission (post place : ℕ) : Type 0 where
    pub new : NewCall
    pub restricted : party ≡ record { found = true; post = post }
    pub below : post < posts_of d
    pub admits : admits_of d.profile.shares (places_of d) post ≡ true
    pub spot : lowest_free (places_of d) ≡ spot_at place

  pub setup_admitted : (post place : ℕ) → answer_of d rows n l room (event.SetUp caller called identifier cause) ≡ answer.Admitted post place → Admission post place
  unfolding desk_ok
  setup_admitted post place z = go (is_new d rows n room caller called identifier cause) refl
    where
      go : (b : Bool) → is_new d rows n room caller called identifier cause ≡ b → Admission post place
      go true e =
          let w = new_passes e in
          let by = party_admitted d party post place (sym (new_call e) ∙ z) in
          let p : party ≡ record { found = true; post = post } = by.0 in
          let h : post < posts_of d = rw (ap (λ (x : Party). x.post) p) at (party_below rows n (posts_of d) caller called w.records (ap (λ (x : Party). x.found) p)) in
          let s = admitted_has_place d.profile.shares (places_of d) post h (both_right _ _ w.desk) by.1.0 in
          record { new = w; restricted = p; below = h; admits = by.1.0; spot = spot_found (lowest_free (places_of d)) s ∙ ap spot_at by.1.1 }
      go false e = not_both (sym (ap is_refused z) ∙ not_new e)

-- ---- "free", and the lowest free place, of any call

module _ (d : Desk) (rows : List Record) (n : ℕ) (l area : List ℕ) (e : Event) where
  pub free_exactly : is_free (step_of d rows n l area e).answer ≡ is_free_call d rows n (length area) e
  free_exactly = ap is_free (step_answer d rows n l area e) ∙ go e
    where
      never : Answer → Bool
      never a = not (is_free a)

      go : (x : Event) → is_free (answer_of d rows n l (length area) x) ≡ is_free_call d rows n (length area) x
      go (event.Message post bits) = not_true _ (answer_ok never (λ s p. refl) d rows n l (length area) refl (event.Message post bits) (refl, ((λ k. refl), (refl, (refl, (refl, λ k. refl))))))
      go (event.SetUp caller called identifier cause) = setup_free d rows n l (length area) caller called identifier cause
      go (event.Reject post identifier) = not_true _ (answer_ok never (λ s p. refl) d rows n l (length area) refl (event.Reject post identifier) refl)
      go (event.Cancel identifier) = not_true _ (answer_ok never (λ s p. refl) d rows n l (length area) refl (event.Cancel identifier) (λ k. refl))

-- an admission, of whatever call: a new identifier of 14 bits and a cause of 5, for a post that the places rule admits, at the lowest free place; a post
-- that is asked second is another one
pub record AdmittedCall (d : Desk) (spoken : Spoken) (post place : ℕ) : Type 0 where
  pub small : spoken.identifier < 2 ^ 14
  pub caused : spoken.cause < 2 ^ 5
  pub new : waits d spoken.identifier ≡ false
  pub below : post < posts_of d
  pub second : spoken.second.found ≡ true → spoken.second.post < posts_of d
  pub other : spoken.second.found ≡ true → post ≡ spoken.second.post → ⊥
  pub admits : admits_of d.profile.shares (places_of d) post ≡ true
  pub spot : lowest_free (places_of d) ≡ spot_at place

-- what it takes: the lowest free place, with the identifier, the post, the post that is asked second and the cause
pub record Taken (d : Desk) (spoken : Spoken) (post place : ℕ) (after : Desk) : Type 0 where
  pub first : FreeFirst (places_of d) place
  pub desk : after ≡ record { profile = d.profile; places = record { place = take_of (places_of d) place (call_for spoken post) } }

module _ (d : Desk) (rows : List Record) (n : ℕ) (l area : List ℕ) (post place : ℕ) where
  not_admitted : {A : Type 0} (e : Event) → never (answer_of d rows n l (length area) e) ≡ true → (step_of d rows n l area e).answer ≡ answer.Admitted post place → A
  not_admitted e h z = not_both (ap never (sym (sym (step_answer d rows n l area e) ∙ z)) ∙ h)

  pub admitted_so : (e : Event) → (step_of d rows n l area e).answer ≡ answer.Admitted post place → AdmittedCall d (spoken_of d.profile (take n rows) l e) post place
  admitted_so (event.SetUp caller called identifier cause) z =
      let a = setup_admitted d rows n l (length area) caller called identifier cause post place (sym (step_answer d rows n l area (event.SetUp caller called identifier cause)) ∙ z) in
      record {
        small = setup_identifier caller called identifier cause a.new.call;
        caused = setup_cause caller called identifier cause a.new.call;
        new = a.new.waiting;
        below = a.below;
        second = λ z. second_below rows n (posts_of d) caller called a.new.records z;
        other = λ z e. second_other (take n rows) caller called z (ap (λ (p : Party). p.post) a.restricted ∙ e);
        admits = a.admits;
        spot = a.spot;
      }
  admitted_so (event.Message p bits) z = not_admitted (event.Message p bits) (answer_ok never (λ s p. refl) d rows n l (length area) refl (event.Message p bits) (refl, ((λ k. refl), (refl, (refl, (refl, λ k. refl)))))) z
  admitted_so (event.Reject p identifier) z = not_admitted (event.Reject p identifier) (answer_ok never (λ s p. refl) d rows n l (length area) refl (event.Reject p identifier) refl) z
  admitted_so (event.Cancel identifier) z = not_admitted (event.Cancel identifier) (answer_ok never (λ s p. refl) d rows n l (length area) refl (event.Cancel identifier) (λ k. refl)) z

  pub place_lowest : (e : Event) → (step_of d rows n l area e).answer ≡ answer.Admitted post place → Taken d (spoken_of d.profile (take n rows) l e) post place (step_of d rows n l area e).desk
  unfolding effect_of desk_after
  place_lowest e z =
      let a = admitted_so e z in
      record {
        first = lowest_free_exactly (places_of d) place a.spot;
        desk = step_desk d rows n l area e ∙ rw (z, a.spot) refl;
      }
