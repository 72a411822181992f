-- How a waiting call ends. Assumes nothing.
use Prim.Native.Nat.{ℕ, ◌^◌, ◌≤◌, ◌<◌}
use mathlib.Core.Path.{◌≡◌, refl, sym, ap, ◌∙◌, subst}
use mathlib.Core.Bool.{Bool, true, false, not, cond}
use mathlib.Core.List.{List, [], ◌∷◌}
use lib.Dec.{eqb}
use borrow.Author.Tests.{eq-eqb, ne_eqb, lt-ltb, le-ltb}
use Rattle.codec.specs.Stops.{refusal}
use Rattle.codec.proofs.Good.{both_right}
use Rattle.profile.specs.Rules.{profile_ok}
use Rattle.places.specs.Held.{place_in, admits_of}
use Rattle.places.specs.Spots.{place_of, clear_of, moved_on, move_of}
use Rattle.places.proofs.PlaceLaws.{passes}
use Rattle.places.proofs.SpotLaws.{WaitsFirst, place_of_exactly, spot_found}
use Rattle.places.specs.declared.Place.{Place}
use Rattle.places.specs.declared.Places.{Places}
use Rattle.places.specs.declared.Spot.{Spot}
use lib.ListN.{length}
use Rattle.message.specs.declared.Value.{Value}
use Rattle.records.specs.Marking.{no_marks}
use Rattle.records.specs.declared.Marks.{Marks}
use Rattle.codec.specs.declared.Stop.{Stop}
use Rattle.sending.specs.Sending.{lay_from, lay_all, laid_from, laid_of, no_laid, send_laid, send_area}
use Rattle.sending.specs.declared.Laid.{Laid}
use Rattle.desk.specs.Desks.{desk_ok}
use Rattle.desk.specs.Notices.{accepted, request_of}
use Rattle.desk.specs.Orders.{unless, posts_of, places_of, end_answer, move_answer, accept_answer, decide_answer, reject_answer, cancel_answer, ending_of}
use Rattle.desk.specs.Steps.{Spoken, ends, effect_by, messages_by, is_acks, desk_after, plain_step, plain_area, keeps, ended_step, moved_step, moved_area, accepted_step, accepted_area}
use Rattle.desk.specs.declared.Answer.{Answer}
use Rattle.desk.specs.declared.Answer.TheVariants as answer
use Rattle.desk.specs.declared.Desk.{Desk}
use Rattle.desk.specs.declared.Stepped.{Stepped}
use Rattle.std.specs.Prelude.{Ok, Err}
use Rattle.sending.proofs.AckLaws.{accepted_sends}
use Rattle.sending.proofs.SentLaws.{Sends, one_sent}

module _ (d : Desk) (post identifier : ℕ) (a : Answer) where
  -- the post's call was found, or not: by 19 or 20
  pub end_found : (place : ℕ) → Ok place ≡ ending_of d post identifier
      → (end_answer d post identifier a ≡ a) × ((place ≡ (place_of (places_of d) identifier).place) × ((place_of (places_of d) identifier).found ≡ true))
  unfolding end_answer ending_of
  end_found place z = go (place_of (places_of d) identifier).found (eqb (place_in (places_of d) (place_of (places_of d) identifier).place).post post) z
    where
      i : ℕ
      i = (place_of (places_of d) identifier).place

      go : (f g : Bool) → Ok place ≡ cond f (cond g (Ok i) (Err (refusal 20))) (Err (refusal 19))
          → (cond (not f) (answer.Refused (refusal 19)) (cond (not g) (answer.Refused (refusal 20)) a) ≡ a) × ((place ≡ i) × (f ≡ true))
      go true true z = (refl, (cc, refl))
      go true false z = cc
      go false g z = cc

  pub end_not : (s : Stop) → Err s ≡ ending_of d post identifier → end_answer d post identifier a ≡ answer.Refused s
  unfolding end_answer ending_of
  end_not s z = go (place_of (places_of d) identifier).found (eqb (place_in (places_of d) (place_of (places_of d) identifier).place).post post) z
    where
      i : ℕ
      i = (place_of (places_of d) identifier).place

      go : (f g : Bool) → Err s ≡ cond f (cond g (Ok i) (Err (refusal 20))) (Err (refusal 19))
          → cond (not f) (answer.Refused (refusal 19)) (cond (not g) (answer.Refused (refusal 20)) a) ≡ answer.Refused s
      go true true z = cc
      go true false z = cc
      go false g z = cc

-- where a call waits
pub waits_first : (d : Desk) (identifier : ℕ) → (place_of (places_of d) identifier).found ≡ true → WaitsFirst (places_of d) identifier (place_of (places_of d) identifier).place
waits_first d identifier e = place_of_exactly (places_of d) identifier _ (spot_found (place_of (places_of d) identifier) e)

-- an answer that ends a call frees its place
ended_is : (d : Desk) (s : Spoken) (place : ℕ) (a : Answer) (x : Laid) → effect_by s a ≡ ends s.identifier → place ≡ (place_of (places_of d) s.identifier).place
    → x ≡ laid_of d.profile.air (messages_by d s a) → ended_step d place a x ≡ plain_step d s a
unfolding ended_step plain_step desk_after
ended_is d s place a x e h z = rw (e, h, z) refl

-- ---- the orders, ground by ground

module _ (d : Desk) (room post identifier : ℕ) (a : Answer) where
  pub decide_14 : room < 300 → decide_answer d room post identifier a ≡ answer.Refused (refusal 14)
  unfolding decide_answer
  decide_14 h = rw (lt-ltb room 300 h) refl

  pub decide_end : 300 ≤ room → decide_answer d room post identifier a ≡ end_answer d post identifier a
  unfolding decide_answer
  decide_end h = rw (le-ltb room 300 h) refl

module _ (d : Desk) (room post identifier : ℕ) where
  pub reject_2 : posts_of d ≤ post → reject_answer d room post identifier ≡ answer.Refused (refusal 2)
  unfolding reject_answer
  reject_2 h = rw (le-ltb post (posts_of d) h) refl

  pub reject_16 : post < posts_of d → 2 ^ 14 ≤ identifier → reject_answer d room post identifier ≡ answer.Refused (refusal 16)
  unfolding reject_answer
  reject_16 h k = rw (lt-ltb post (posts_of d) h, le-ltb identifier (2 ^ 14) k) refl

  pub reject_decide : post < posts_of d → identifier < 2 ^ 14 → reject_answer d room post identifier ≡ decide_answer d room post identifier answer.Rejected
  unfolding reject_answer
  reject_decide h k = rw (lt-ltb post (posts_of d) h, lt-ltb identifier (2 ^ 14) k) refl

module _ (d : Desk) (room identifier : ℕ) where
  pub cancel_16 : 2 ^ 14 ≤ identifier → cancel_answer d room identifier ≡ answer.Refused (refusal 16)
  unfolding cancel_answer
  cancel_16 h = rw (le-ltb identifier (2 ^ 14) h) refl

  module _ (h : identifier < 2 ^ 14) where
    pub cancel_14 : room < 300 → cancel_answer d room identifier ≡ answer.Refused (refusal 14)
    unfolding cancel_answer
    cancel_14 k = rw (lt-ltb identifier (2 ^ 14) h, lt-ltb room 300 k) refl

    module _ (k : 300 ≤ room) (s : Spot) (z : s ≡ place_of (places_of d) identifier) where
      pub cancel_19 : s.found ≡ false → cancel_answer d room identifier ≡ answer.Refused (refusal 19)
      unfolding cancel_answer
      cancel_19 e = rw (lt-ltb identifier (2 ^ 14) h, le-ltb room 300 k, ap (λ (x : Spot). x.found) (sym z) ∙ e) refl

      -- it names the post of the call in the place that was found
      pub cancel_done : s.found ≡ true → (p : Place) → p ≡ place_in (places_of d) s.place
          → (cancel_answer d room identifier ≡ answer.Cancelled p.post) × (s.place ≡ (place_of (places_of d) identifier).place)
      unfolding cancel_answer
      cancel_done e p q = (
        rw (lt-ltb identifier (2 ^ 14) h, le-ltb room 300 k, ap (λ (x : Spot). x.found) (sym z) ∙ e)
            (ap answer.Cancelled (ap (λ (x : Spot). (place_in (places_of d) x.place).post) (sym z) ∙ ap (λ (x : Place). x.post) (sym q))),
        ap (λ (x : Spot). x.place) z,
      )

-- ---- the search, as the code answers it

module _ (d : Desk) (post identifier : ℕ) (s : Spot) (z : s ≡ place_of (places_of d) identifier) where
  pub ending_here : s.found ≡ true → (q : ℕ) → q ≡ (place_in (places_of d) s.place).post → q ≡ post → Ok s.place ≡ ending_of d post identifier
  unfolding ending_of
  ending_here e q h k =
      let f : (place_of (places_of d) identifier).found ≡ true = ap (λ (x : Spot). x.found) (sym z) ∙ e in
      let p : (place_in (places_of d) (place_of (places_of d) identifier).place).post ≡ post = ap (λ (x : Spot). (place_in (places_of d) x.place).post) (sym z) ∙ sym h ∙ k in
      rw (f, eq-eqb _ post p) (ap (λ (x : Spot). Ok x.place) z)

  pub ending_20 : s.found ≡ true → (q : ℕ) → q ≡ (place_in (places_of d) s.place).post → (q ≡ post → ⊥) → (t : Stop) → t ≡ refusal 20 → Err t ≡ ending_of d post identifier
  unfolding ending_of
  ending_20 f q h k t y =
      let g : (place_of (places_of d) identifier).found ≡ true = ap (λ (x : Spot). x.found) (sym z) ∙ f in
      let p : (place_in (places_of d) (place_of (places_of d) identifier).place).post ≡ post → ⊥ = λ u. k (h ∙ ap (λ (x : Spot). (place_in (places_of d) x.place).post) z ∙ u) in
      rw (g, ne_eqb _ post p) (ap (λ (x : Stop). Err x) y)

  pub ending_19 : s.found ≡ false → (t : Stop) → t ≡ refusal 19 → Err t ≡ ending_of d post identifier
  unfolding ending_of
  ending_19 f t y =
      let g : (place_of (places_of d) identifier).found ≡ false = ap (λ (x : Spot). x.found) (sym z) ∙ f in
      rw g (ap (λ (x : Stop). Err x) y)

-- ---- a call that ends, with its message

-- the answer, and its message, which is all that is sent
pub decided : (d : Desk) (s : Spoken) (place : ℕ) (a b : Answer) (v w : Value) (r : Stepped) (l m : List ℕ) → b ≡ a → effect_by s a ≡ ends s.identifier
    → messages_by d s a ≡ v ∷ [] → place ≡ (place_of (places_of d) s.identifier).place → profile_ok d.profile ≡ true → Sends d.profile v → 300 ≤ length l → w ≡ v
    → (r ≡ ended_step d place a (send_laid d.profile no_laid l w)) × (m ≡ send_area d.profile no_laid l w)
    → (r ≡ plain_step d s b) × (m ≡ plain_area d s l b)
unfolding plain_area
decided d s place a b v w r l m q e one h sound sends room u z =
    let x : Laid = send_laid d.profile no_laid l w in
    let k = one_sent d.profile sound l m v w no_laid x sends room refl u (refl, z.1) in
    let laid : x ≡ laid_of d.profile.air (messages_by d s a) = k.0 ∙ ap (λ (vs : List Value). laid_of d.profile.air vs) (sym one) in (
      z.0 ∙ ended_is d s place a x e h laid ∙ ap (λ (y : Answer). plain_step d s y) (sym q),
      k.1 ∙ ap (λ (vs : List Value). lay_all d.profile.air l vs) (sym one) ∙ ap (λ (y : Answer). lay_all d.profile.air l (messages_by d s y)) (sym q),
    )

-- ---- an ACCEPT by the post where the call waits: it proceeds, or moves

-- on a desk that passes, the numbers of a call that waits fit their widths
pub ending_sound : (d : Desk) (post identifier : ℕ) → desk_ok d ≡ true → (place : ℕ) → Ok place ≡ ending_of d post identifier
    → ((place_in (places_of d) place).identifier < 2 ^ 14) × ((place_in (places_of d) place).cause < 2 ^ 5)
unfolding desk_ok
ending_sound d post identifier ok place z =
    let f = end_found d post identifier answer.Proceed place z in
    let w = waits_first d identifier f.1.1 in
    let c = (passes d.profile.shares (places_of d) (both_right (profile_ok d.profile) _ ok)).calls _ w.inside w.used in
    subst (λ (i : ℕ). ((place_in (places_of d) i).identifier < 2 ^ 14) × ((place_in (places_of d) i).cause < 2 ^ 5)) (sym f.1.0) (c.small, c.cause)

-- the same of a place that was read
pub same_fits : (p q : Place) → p ≡ q → q.identifier < 2 ^ 14 → q.cause < 2 ^ 5 → (p.identifier < 2 ^ 14) × (p.cause < 2 ^ 5)
same_fits p q e h k = (subst (λ (x : Place). x.identifier < 2 ^ 14) (sym e) h, subst (λ (x : Place). x.cause < 2 ^ 5) (sym e) k)

module _ (d : Desk) (place : ℕ) where
  pub accept_plain : is_acks (accept_answer d place) ≡ false
  unfolding accept_answer move_answer
  accept_plain = go (place_in (places_of d) place).more (admits_of d.profile.shares (clear_of (places_of d) place) (place_in (places_of d) place).second)
    where
      go : (b c : Bool) → is_acks (cond b (unless (not c) 18 (answer.Moved (place_in (places_of d) place).second)) answer.Proceed) ≡ false
      go true true = refl
      go true false = refl
      go false c = refl

  -- 18, or the call is moved
  module _ (p : Place) (rest : Places) (b : Bool) (cleared : rest ≡ record { place = clear_of (places_of d) place }) (rule : b ≡ admits_of d.profile.shares rest.place p.second) where
    by_rule : admits_of d.profile.shares (clear_of (places_of d) place) p.second ≡ b
    by_rule = ap (λ (x : Places). admits_of d.profile.shares x.place p.second) (sym cleared) ∙ sym rule

    pub moved_18 : b ≡ false → (s : Stop) (r : Stepped) (l : List ℕ) → r ≡ keeps d (answer.Refused s) → s ≡ refusal 18
        → (r ≡ moved_step d place p) × (l ≡ moved_area d place p l)
    unfolding moved_step moved_area
    moved_18 e s r l z q = (rw (by_rule ∙ e) (z ∙ ap (λ (x : Stop). keeps d (answer.Refused x)) q), rw (by_rule ∙ e) refl)

    pub moved_is : b ≡ true → (x : Laid) (next : Places) (marks : Marks) (l m : List ℕ)
        → (x ≡ laid_of d.profile.air (request_of (moved_on p) ∷ [])) × (m ≡ lay_all d.profile.air l (request_of (moved_on p) ∷ []))
        → next ≡ record { place = move_of (places_of d) place } → marks ≡ no_marks
        → (record { answer = answer.Moved p.second; laid = x; desk = record { profile = d.profile; places = next }; marks = marks } ≡ moved_step d place p)
        × (m ≡ moved_area d place p l)
    unfolding moved_step moved_area
    moved_is e x next marks l m w z q = (rw (by_rule ∙ e, z, q, w.0) refl, rw (by_rule ∙ e) w.1)

  module _ (p : Place) (z : p ≡ place_in (places_of d) place) (area : List ℕ) where
    pub accepted_moves : p.more ≡ true → (r : Stepped) (m : List ℕ) → (r ≡ moved_step d place p) × (m ≡ moved_area d place p area)
        → (r ≡ accepted_step d place) × (m ≡ accepted_area d place area)
    unfolding accepted_step accepted_area
    accepted_moves h r m e =
        let two : (place_in (places_of d) place).more ≡ true = ap (λ (x : Place). x.more) (sym z) ∙ h in
        let q = place_in (places_of d) place in
        let one = ended_step d place answer.Proceed (laid_of d.profile.air (accepted ∷ [])) in (
          e.0 ∙ ap (λ (x : Place). moved_step d place x) z ∙ sym (ap (λ (b : Bool). cond b (moved_step d place q) one) two),
          e.1 ∙ ap (λ (x : Place). moved_area d place x area) z ∙ sym (ap (λ (b : Bool). cond b (moved_area d place q area) (lay_all d.profile.air area (accepted ∷ []))) two),
        )

    pub accepted_proceeds : p.more ≡ false → (w : Value) (m : List ℕ) (r : Stepped) → profile_ok d.profile ≡ true → 300 ≤ length area → w ≡ accepted
        → (r ≡ ended_step d place answer.Proceed (send_laid d.profile no_laid area w)) × (m ≡ send_area d.profile no_laid area w)
        → (r ≡ accepted_step d place) × (m ≡ accepted_area d place area)
    unfolding accepted_step accepted_area
    accepted_proceeds h w m r sound room u e =
        let one : (place_in (places_of d) place).more ≡ false = ap (λ (y : Place). y.more) (sym z) ∙ h in
        let k = one_sent d.profile sound area m accepted w no_laid (send_laid d.profile no_laid area w) (accepted_sends d.profile sound) room refl u (refl, e.1) in
        (rw one (e.0 ∙ ap (λ (y : Laid). ended_step d place answer.Proceed y) k.0), rw one k.1)

-- what it does is what its answer says
module _ (d : Desk) (s : Spoken) where
  abbrev place_there : ℕ
  place_there = (place_of (places_of d) s.identifier).place

  abbrev second : ℕ
  second = (place_in (places_of d) place_there).second

  accepted_step_lem : accepted_step d place_there ≡ plain_step d s (accept_answer d place_there)
  unfolding accepted_step moved_step ended_step keeps accept_answer move_answer plain_step desk_after laid_of laid_from
  accepted_step_lem = go (place_in (places_of d) place_there).more (admits_of d.profile.shares (clear_of (places_of d) place_there) second)
    where
      moving : Bool → Stepped
      moving c =
          cond c
          (record {
            answer = answer.Moved second;
            laid = laid_of d.profile.air (request_of (moved_on (place_in (places_of d) place_there)) ∷ []);
            desk = record { profile = d.profile; places = record { place = move_of (places_of d) place_there } };
            marks = no_marks;
          })
          (keeps d (answer.Refused (refusal 18)))

      go : (b c : Bool)
          → cond b (moving c) (ended_step d place_there answer.Proceed (laid_of d.profile.air (accepted ∷ [])))
          ≡ plain_step d s (cond b (unless (not c) 18 (answer.Moved second)) answer.Proceed)
      go true true = refl
      go true false = refl
      go false c = refl

  accepted_area_lem : (area : List ℕ) → accepted_area d place_there area ≡ plain_area d s area (accept_answer d place_there)
  unfolding accepted_area moved_area accept_answer move_answer plain_area lay_all lay_from
  accepted_area_lem area = go (place_in (places_of d) place_there).more (admits_of d.profile.shares (clear_of (places_of d) place_there) second)
    where
      go : (b c : Bool)
          → cond b (cond c (lay_all d.profile.air area (request_of (moved_on (place_in (places_of d) place_there)) ∷ [])) area) (lay_all d.profile.air area (accepted ∷ []))
          ≡ plain_area d s area (cond b (unless (not c) 18 (answer.Moved second)) answer.Proceed)
      go true true = refl
      go true false = refl
      go false c = refl

  pub accepted_by_lem : (place : ℕ) (b : Answer) (r : Stepped) (l m : List ℕ) → b ≡ accept_answer d (place_of (places_of d) s.identifier).place
      → place ≡ (place_of (places_of d) s.identifier).place → (r ≡ accepted_step d place) × (m ≡ accepted_area d place l)
      → (r ≡ plain_step d s b) × (m ≡ plain_area d s l b)
  accepted_by_lem place b r l m q h z = (
    z.0 ∙ ap (λ (i : ℕ). accepted_step d i) h ∙ accepted_step_lem ∙ ap (λ (y : Answer). plain_step d s y) (sym q),
    z.1 ∙ ap (λ (i : ℕ). accepted_area d i l) h ∙ accepted_area_lem l ∙ ap (λ (y : Answer). plain_area d s l y) (sym q),
  )
