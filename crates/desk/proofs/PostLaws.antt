-- A post's message: what follows from an answer, whichever it is, and the order up to the type. Assumes nothing.
use Prim.Native.Nat.{ℕ, ◌≤◌, ◌<◌}
use native.Mathlib.Omega.{arith}
use Rattle.std.specs.Prelude.{Result, Ok, Err}
use mathlib.Core.Path.{◌≡◌, refl, sym, ap, ◌∙◌}
use mathlib.Core.Bool.{Bool, true, false, not, cond}
use mathlib.Core.List.{List, [], ◌∷◌}
use lib.Dec.{ltb, eqb}
use borrow.Author.Tests.{lt-ltb, le-ltb}
use Rattle.codec.specs.Stops.{refusal}
use Rattle.codec.specs.declared.Stop.{Stop}
use lib.ListN.{take}
use Rattle.codec.specs.Codec.{Read, got, no}
use Rattle.codec.proofs.Good.{both_left, not_both}
use Rattle.profile.specs.Rules.{profile_ok, list_of_one}
use Rattle.message.specs.Groups.{first_of}
use Rattle.message.specs.Reading.{read_of}
use Rattle.message.specs.declared.Address.{Address}
use Rattle.message.specs.declared.Value.{Value}
use Rattle.reading.specs.Answers.{reading_of}
use Rattle.records.specs.Identities.{identity_of}
use Rattle.records.specs.Records.{records_ok, state_of, restricted_of}
use Rattle.records.specs.declared.Identity.{Identity}
use Rattle.records.specs.declared.Party.{Party}
use Rattle.records.specs.declared.Record.{Record}
use Rattle.places.specs.Held.{place_in, admits_of}
use Rattle.places.specs.Spots.{place_of}
use Rattle.desk.specs.Desks.{desk_ok}
use Rattle.desk.specs.Orders.{posts_of, places_of, unless, has_one, interrogate_answer, end_answer, decide_answer, sent_answer, read_answer, message_answer, identifier_ok, set_up_ok, admit_answer, party_answer, set_up_answer, reject_answer, cancel_answer}
use Rattle.desk.specs.Steps.{Spoken, spoken_by, asked_in, said_in, value_by, is_acks, plain_step, plain_area, acks_step, acks_area, step_by, area_by, keeps}
use Rattle.desk.specs.declared.Answer.{Answer}
use Rattle.desk.specs.declared.Answer.TheVariants as answer
use Rattle.desk.specs.declared.Desk.{Desk}
use Rattle.desk.specs.declared.marking.Asked.{Asked}
use Rattle.desk.specs.declared.Stepped.{Stepped}
use Rattle.desk.proofs.KeepLaws.{refused_plain}

module _ (d : Desk) (rows : List Record) (post : ℕ) (asked : Asked) (spoken : Spoken) (area m : List ℕ) (a : Answer) (r : Stepped) where
  pub plain_by : is_acks a ≡ false → (r ≡ plain_step d spoken a) × (m ≡ plain_area d spoken area a) → (r ≡ step_by d rows post asked spoken a) × (m ≡ area_by d rows post asked spoken area a)
  unfolding step_by area_by
  plain_by e z = rw e z

  pub acks_by : a ≡ answer.Acks → (r ≡ acks_step d rows post asked) × (m ≡ acks_area d rows post asked area)
      → (r ≡ step_by d rows post asked spoken a) × (m ≡ area_by d rows post asked spoken area a)
  unfolding step_by area_by
  acks_by e z = rw e z

-- a refusal, of whatever call
pub refused_by : (d : Desk) (rows : List Record) (post : ℕ) (asked : Asked) (spoken : Spoken) (area : List ℕ) (a : Answer) (s t : Stop) (r : Stepped)
    → r ≡ keeps d (answer.Refused s) → s ≡ t → a ≡ answer.Refused t
    → (r ≡ step_by d rows post asked spoken a) × (area ≡ area_by d rows post asked spoken area a)
refused_by d rows post asked spoken area a s t r e z q =
    plain_by d rows post asked spoken area area a r (ap is_acks q) (refused_plain d spoken area a s t r e z q)

-- ---- answers that are no ACKs

pub unless_plain : (b : Bool) (c : ℕ) (a : Answer) → is_acks a ≡ false → is_acks (unless b c a) ≡ false
unless_plain true c a e = refl
unless_plain false c a e = e

pub decide_plain : (d : Desk) (room post identifier : ℕ) (a : Answer) → is_acks a ≡ false → is_acks (decide_answer d room post identifier a) ≡ false
unfolding decide_answer end_answer
decide_plain d room post identifier a e =
    unless_plain (ltb room 300) 14 _
    (unless_plain (not (place_of (places_of d) identifier).found) 19 _
    (unless_plain (not (eqb (place_in (places_of d) (place_of (places_of d) identifier).place).post post)) 20 a e))

-- ---- INTERROGATE

module _ (d : Desk) (rows : List Record) (n room post : ℕ) (v : Value) where
  pub interrogate_14 : room < 300 → interrogate_answer d rows n room post v ≡ answer.Refused (refusal 14)
  unfolding interrogate_answer
  interrogate_14 h = rw (lt-ltb room 300 h) refl

  module _ (h : 300 ≤ room) where
    pub interrogate_15 : records_ok rows n (posts_of d) ≡ false → interrogate_answer d rows n room post v ≡ answer.Refused (refusal 15)
    unfolding interrogate_answer
    interrogate_15 e = rw (le-ltb room 300 h, e) refl

    module _ (e : records_ok rows n (posts_of d) ≡ true) (r : ℕ) (q : r ≡ list_of_one d.profile.air.meanings) where
      pub interrogate_26 : 16 ≤ r → interrogate_answer d rows n room post v ≡ answer.Refused (refusal 26)
      unfolding interrogate_answer
      interrogate_26 m = rw (le-ltb room 300 h, e, ap (λ (x : ℕ). ltb x 16) (sym q) ∙ le-ltb r 16 m) refl

      pub interrogate_state : (k : ℕ) → r < 16 → k ≡ state_of (take n rows) post (identity_of d.profile.air (first_of v.users))
          → interrogate_answer d rows n room post v ≡ answer.State k
      unfolding interrogate_answer
      interrogate_state k m z = rw (le-ltb room 300 h, e, ap (λ (x : ℕ). ltb x 16) (sym q) ∙ lt-ltb r 16 m, z) refl

  pub interrogate_plain : is_acks (interrogate_answer d rows n room post v) ≡ false
  unfolding interrogate_answer
  interrogate_plain =
      unless_plain (ltb room 300) 14 _ (unless_plain (not (records_ok rows n (posts_of d))) 15 _ (unless_plain (not (has_one d.profile.air)) 26 _ refl))

-- ---- no answer but a state speaks of the user that was asked for

abbrev is_state : Answer → Bool
is_state (answer.Refused s) = false
is_state answer.Acks = false
is_state (answer.State k) = true
is_state answer.Free = false
is_state (answer.Admitted post place) = false
is_state answer.Proceed = false
is_state answer.Diverted = false
is_state answer.Rejected = false
is_state (answer.Cancelled post) = false
is_state (answer.Moved post) = false

module _ (d : Desk) (identifier cause : ℕ) (u w : Address) (area : List ℕ) where
  user_unsaid : (a : Answer) → is_state a ≡ false
      → (plain_step d (spoken_by identifier cause u) a ≡ plain_step d (spoken_by identifier cause w) a) × (plain_area d (spoken_by identifier cause u) area a ≡ plain_area d (spoken_by identifier cause w) area a)
  unfolding plain_step plain_area
  user_unsaid (answer.Refused s) e = (refl, refl)
  user_unsaid answer.Acks e = (refl, refl)
  user_unsaid (answer.State k) e = not_both (sym e)
  user_unsaid answer.Free e = (refl, refl)
  user_unsaid (answer.Admitted post place) e = (refl, refl)
  user_unsaid answer.Proceed e = (refl, refl)
  user_unsaid answer.Diverted e = (refl, refl)
  user_unsaid answer.Rejected e = (refl, refl)
  user_unsaid (answer.Cancelled post) e = (refl, refl)
  user_unsaid (answer.Moved post) e = (refl, refl)

  unless_told : (b : Bool) (c : ℕ) (a : Answer) → is_state a ≡ false → is_state (unless b c a) ≡ false
  unless_told true c a e = refl
  unless_told false c a e = e

  decide_told : (room post : ℕ) → is_state (decide_answer d room post identifier answer.Rejected) ≡ false
  unfolding decide_answer end_answer
  decide_told room post =
      unless_told (ltb room 300) 14 _
      (unless_told (not (place_of (places_of d) identifier).found) 19 _
      (unless_told (not (eqb (place_in (places_of d) (place_of (places_of d) identifier).place).post post)) 20 answer.Rejected refl))

  -- a REJECT is answered as the plain reject is, whatever else it says
  pub rejected_said : (room post : ℕ) (m : List ℕ) (r : Stepped)
      → (r ≡ plain_step d (spoken_by identifier cause u) (decide_answer d room post identifier answer.Rejected)) × (m ≡ plain_area d (spoken_by identifier cause u) area (decide_answer d room post identifier answer.Rejected))
      → (r ≡ plain_step d (spoken_by identifier cause w) (decide_answer d room post identifier answer.Rejected)) × (m ≡ plain_area d (spoken_by identifier cause w) area (decide_answer d room post identifier answer.Rejected))
  rejected_said room post m r z =
      let q = user_unsaid (decide_answer d room post identifier answer.Rejected) (decide_told room post) in
      (z.0 ∙ q.0, z.1 ∙ q.1)

-- ---- 2, reading, and then by the type

module _ (d : Desk) (rows : List Record) (n : ℕ) (l : List ℕ) (room post bits : ℕ) where
  pub message_2 : posts_of d ≤ post → message_answer d rows n l room post bits ≡ answer.Refused (refusal 2)
  unfolding message_answer
  message_2 h = rw (le-ltb post (posts_of d) h) refl

  module _ (h : post < posts_of d) (r : Result Value Stop) (z : r ≡ reading_of (read_of d.profile l bits)) where
    pub message_unread : (t : Stop) → r ≡ Err t → message_answer d rows n l room post bits ≡ answer.Refused t
    unfolding message_answer reading_of
    message_unread t f = rw (lt-ltb post (posts_of d) h) (go (read_of d.profile l bits) (sym z ∙ f))
      where
        go : (x : Read Value) → reading_of x ≡ Err t → read_answer x (λ v. sent_answer d rows n room post v) ≡ answer.Refused t
        go (got v q) e = let y : ◌≡◌ {A = ℕ} 0 1 = cc in absurd (omega arith)
        go (no s) e = let y : s ≡ t = cc in ap answer.Refused y

    -- what was read is answered by its type
    pub message_sent : (v : Value) → r ≡ Ok v → (area m : List ℕ) (s : Stepped)
        → (s ≡ step_by d (take n rows) post (asked_in v) (said_in v) (sent_answer d rows n room post v))
        × (m ≡ area_by d (take n rows) post (asked_in v) (said_in v) area (sent_answer d rows n room post v))
        → (s ≡ step_by d (take n rows) post (asked_in (value_by (read_of d.profile l bits))) (said_in (value_by (read_of d.profile l bits))) (message_answer d rows n l room post bits))
        × (m ≡ area_by d (take n rows) post (asked_in (value_by (read_of d.profile l bits))) (said_in (value_by (read_of d.profile l bits))) area (message_answer d rows n l room post bits))
    unfolding message_answer reading_of
    message_sent v f area m s = rw (lt-ltb post (posts_of d) h) (go (read_of d.profile l bits) (sym z ∙ f))
      where
        go : (x : Read Value) → reading_of x ≡ Ok v
            → (s ≡ step_by d (take n rows) post (asked_in v) (said_in v) (sent_answer d rows n room post v))
            × (m ≡ area_by d (take n rows) post (asked_in v) (said_in v) area (sent_answer d rows n room post v))
            → (s ≡ step_by d (take n rows) post (asked_in (value_by x)) (said_in (value_by x)) (read_answer x (λ v. sent_answer d rows n room post v)))
            × (m ≡ area_by d (take n rows) post (asked_in (value_by x)) (said_in (value_by x)) area (read_answer x (λ v. sent_answer d rows n room post v)))
        go (got u q) e p = let uv : v ≡ u = cc in rw uv at p
        go (no t) e p = let y : ◌≡◌ {A = ℕ} 0 1 = cc in absurd (omega arith)

-- ---- the other calls

pub reject_plain : (d : Desk) (room post identifier : ℕ) → is_acks (reject_answer d room post identifier) ≡ false
unfolding reject_answer
reject_plain d room post identifier =
    unless_plain (not (ltb post (posts_of d))) 2 _ (unless_plain (not (identifier_ok identifier)) 16 _ (decide_plain d room post identifier answer.Rejected refl))

pub cancel_plain : (d : Desk) (room identifier : ℕ) → is_acks (cancel_answer d room identifier) ≡ false
unfolding cancel_answer
cancel_plain d room identifier =
    unless_plain (not (identifier_ok identifier)) 16 _ (unless_plain (ltb room 300) 14 _ (unless_plain (not (place_of (places_of d) identifier).found) 19 _ refl))

party_plain : (d : Desk) (p : Party) → is_acks (party_answer d p) ≡ false
unfolding admit_answer
party_plain d p = go p.found
  where
    go : (b : Bool) → is_acks (cond b (admit_answer d p.post) answer.Free) ≡ false
    go true = unless_plain (not (admits_of d.profile.shares (places_of d) p.post)) 18 _ refl
    go false = refl

pub setup_plain : (d : Desk) (rows : List Record) (n room : ℕ) (caller called : Identity) (identifier cause : ℕ) → is_acks (set_up_answer d rows n room caller called identifier cause) ≡ false
unfolding set_up_answer
setup_plain d rows n room caller called identifier cause =
    unless_plain (not (set_up_ok caller called identifier cause)) 16 _
    (unless_plain (ltb room 300) 14 _
    (unless_plain (not (records_ok rows n (posts_of d))) 15 _
    (unless_plain (place_of (places_of d) identifier).found 17 _ (party_plain d (restricted_of (take n rows) (caller ∷ called ∷ []))))))

-- 1 does not come, so the profile passes
pub desk_profile : (d : Desk) → desk_ok d ≡ true → profile_ok d.profile ≡ true
unfolding desk_ok
desk_profile d e = both_left _ _ e

pub desk_passes : (d : Desk) (b : Bool) → b ≡ desk_ok d → b ≡ true → profile_ok d.profile ≡ true
desk_passes d b z e = desk_profile d (sym z ∙ e)
