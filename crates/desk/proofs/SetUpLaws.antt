-- Call set-up: its order, ground by ground, and an admission. Assumes nothing.
use Prim.Native.Nat.{ℕ, ◌^◌, ◌≤◌, ◌<◌}
use mathlib.Core.Path.{◌≡◌, refl, sym, ap, ◌∙◌}
use mathlib.Core.Bool.{true, false}
use mathlib.Core.List.{List, [], ◌∷◌}
use lib.ListN.{take}
use borrow.Author.Tests.{lt-ltb, le-ltb, ltb-true}
use Rattle.codec.proofs.Good.{both_left, both_right}
use Rattle.codec.specs.Stops.{refusal}
use Rattle.places.specs.Held.{admits_of}
use Rattle.places.specs.Spots.{place_of, lowest_free, take_of}
use Rattle.places.specs.declared.Places.{Places}
use Rattle.places.specs.declared.Spot.{Spot}
use Rattle.records.specs.Records.{records_ok, restricted_of}
use Rattle.records.specs.Marking.{no_marks}
use Rattle.records.specs.declared.Identity.{Identity}
use Rattle.records.specs.declared.Marks.{Marks}
use Rattle.records.specs.declared.Party.{Party}
use Rattle.records.specs.declared.Record.{Record}
use Rattle.sending.specs.Sending.{lay_all, laid_of}
use Rattle.sending.specs.declared.Laid.{Laid}
use Rattle.desk.specs.Notices.{intercepted, request_of}
use Rattle.desk.specs.Orders.{posts_of, places_of, identifier_ok, set_up_ok, admit_answer, party_answer, set_up_answer}
use Rattle.desk.specs.Steps.{Spoken, call_for, desk_after, plain_step, plain_area}
use Rattle.desk.specs.declared.Answer.TheVariants as answer
use Rattle.desk.specs.declared.Desk.{Desk}

module _ (d : Desk) (rows : List Record) (n room : ℕ) (caller called : Identity) (identifier cause : ℕ) where
  pub setup_16 : set_up_ok caller called identifier cause ≡ false → set_up_answer d rows n room caller called identifier cause ≡ answer.Refused (refusal 16)
  unfolding set_up_answer
  setup_16 e = rw e refl

  module _ (good : set_up_ok caller called identifier cause ≡ true) where
    pub setup_14 : room < 300 → set_up_answer d rows n room caller called identifier cause ≡ answer.Refused (refusal 14)
    unfolding set_up_answer
    setup_14 h = rw (good, lt-ltb room 300 h) refl

    module _ (roomy : 300 ≤ room) where
      pub setup_15 : records_ok rows n (posts_of d) ≡ false → set_up_answer d rows n room caller called identifier cause ≡ answer.Refused (refusal 15)
      unfolding set_up_answer
      setup_15 e = rw (good, le-ltb room 300 roomy, e) refl

      module _ (sound : records_ok rows n (posts_of d) ≡ true) where
        pub setup_17 : (s : Spot) → s ≡ place_of (places_of d) identifier → s.found ≡ true → set_up_answer d rows n room caller called identifier cause ≡ answer.Refused (refusal 17)
        unfolding set_up_answer
        setup_17 s z e = rw (good, le-ltb room 300 roomy, sound, ap (λ (x : Spot). x.found) (sym z) ∙ e) refl

        pub setup_party : (s : Spot) → s ≡ place_of (places_of d) identifier → s.found ≡ false → (p : Party) → p ≡ restricted_of (take n rows) (caller ∷ called ∷ [])
            → set_up_answer d rows n room caller called identifier cause ≡ party_answer d p
        unfolding set_up_answer
        setup_party s z e p q =
            rw (good, le-ltb room 300 roomy, sound, ap (λ (x : Spot). x.found) (sym z) ∙ e) (ap (λ (x : Party). party_answer d x) (sym q))

pub party_free : (d : Desk) (p : Party) → p.found ≡ false → party_answer d p ≡ answer.Free
party_free d p e = rw e refl

pub party_admit : (d : Desk) (p : Party) → p.found ≡ true → party_answer d p ≡ admit_answer d p.post
party_admit d p e = rw e refl

-- ---- the places rule

pub admit_18 : (d : Desk) (post : ℕ) → admits_of d.profile.shares (places_of d) post ≡ false → admit_answer d post ≡ answer.Refused (refusal 18)
unfolding admit_answer
admit_18 d post e = rw e refl

module _ (d : Desk) (post : ℕ) (spoken : Spoken) where
  pub admitted_is : (at : Spot) (x : Laid) (l m : List ℕ) (next : Places) (marks : Marks) → admits_of d.profile.shares (places_of d) post ≡ true
      → at ≡ lowest_free (places_of d)
      → (x ≡ laid_of d.profile.air (intercepted ∷ request_of (call_for spoken post) ∷ [])) × (m ≡ lay_all d.profile.air l (intercepted ∷ request_of (call_for spoken post) ∷ []))
      → next ≡ record { place = take_of (places_of d) at.place (call_for spoken post) } → marks ≡ no_marks
      → (record { answer = answer.Admitted post at.place; laid = x; desk = record { profile = d.profile; places = next }; marks = marks }
      ≡ plain_step d spoken (admit_answer d post))
      × (m ≡ plain_area d spoken l (admit_answer d post))
  unfolding admit_answer plain_step plain_area desk_after
  admitted_is at x l m next marks e z s q r = rw (e, sym z) (rw (s.0, q, r) refl, s.1)

-- 16 did not come, so the identifier has 14 bits and the cause 5
pub setup_identifier : (caller called : Identity) (identifier cause : ℕ) → set_up_ok caller called identifier cause ≡ true → identifier < 2 ^ 14
unfolding set_up_ok
setup_identifier caller called identifier cause e = ltb-true identifier (2 ^ 14) (both_left _ _ e)

pub setup_cause : (caller called : Identity) (identifier cause : ℕ) → set_up_ok caller called identifier cause ≡ true → cause < 2 ^ 5
unfolding set_up_ok
setup_cause caller called identifier cause e = ltb-true cause (2 ^ 5) (both_left _ _ (both_right (identifier_ok identifier) _ e))
