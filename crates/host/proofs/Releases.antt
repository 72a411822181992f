-- Two requests of the same users from one post, one after the other, of `call` on what is lent: the accepted ones have the mark that the
-- second asks, and every other record is as it was before both. So a DEACTIVATE after an ACTIVATE of the same list releases just those that
-- it accepted, and it is carried out wherever that was. Assumes nothing.
use Prim.Native.Nat.{ℕ, zero, suc, ◌<◌, ◌≤◌}
use mathlib.Core.Path.{◌≡◌, refl, sym, ap, ◌∙◌, subst}
use mathlib.Core.Bool.{Bool, true, false, cond}
use mathlib.Core.List.{List, [], ◌∷◌}
use native.Mathlib.Omega.{arith}
use lib.Dec.{eqb, ltb}
use lib.ListN.{length, take}
use borrow.Author.Tests.{ne_eqb}
use Rattle.codec.specs.Codec.{Read, got, both}
use Rattle.message.specs.Reading.{read_of}
use Rattle.message.specs.declared.Group.{Group}
use Rattle.message.specs.declared.Value.{Value}
use Rattle.records.specs.Identities.{identities_of}
use Rattle.records.specs.Marking.{accepted_by, accepted_of, wanted}
use Rattle.records.specs.Records.{row_of, is, record_from, record_of, record_ok, all_ok, records_ok}
use Rattle.records.specs.declared.Identity.{Identity}
use Rattle.records.specs.declared.Record.{Record}
use Rattle.std.proofs.Common.{Option, Some, None}
use Rattle.desk.specs.Desks.{desk_ok}
use Rattle.desk.specs.Orders.{posts_of}
use Rattle.desk.specs.Steps.{value_by, sets_mark, asked_of, is_acks}
use Rattle.desk.specs.declared.Answer.TheVariants as answer
use Rattle.desk.specs.declared.Desk.{Desk}
use Rattle.desk.specs.declared.Event.TheVariants as event
use Rattle.desk.proofs.AnswerLaws.{step_answer}
use Rattle.desk.proofs.Requests.{acks_sound, deactivate_acks}
use Rattle.host.specs.Lending.{loaded_of, mark_as, marked_as, Called}
use Rattle.host.specs.declared.Told.{Told}
use Rattle.host.proofs.LendLaws.{length_marked}
use Rattle.host.proofs.HostLaws.{loaded_lent}
use Rattle.host.proofs.CallLaws.{accepted_in, call_marks, call_stays}

-- ---- nothing that is looked up depends on a mark

-- the records with every mark clear
abbrev bare : List Record → List Record
bare [] = []
bare (r ∷ rows) = mark_as false r ∷ bare rows

bare_marked : (to : Bool) (n : ℕ) (rows : List Record) (ms : List Bool) → bare (take n (marked_as to rows ms)) ≡ bare (take n rows)
unfolding marked_as
bare_marked to zero [] ms = refl
bare_marked to zero (r ∷ rows) [] = refl
bare_marked to zero (r ∷ rows) (m ∷ ms) = refl
bare_marked to (suc n) [] ms = refl
bare_marked to (suc n) (r ∷ rows) [] = refl
bare_marked to (suc n) (r ∷ rows) (true ∷ ms) = ap (λ (l : List Record). mark_as false r ∷ l) (bare_marked to n rows ms)
bare_marked to (suc n) (r ∷ rows) (false ∷ ms) = ap (λ (l : List Record). mark_as false r ∷ l) (bare_marked to n rows ms)

from_bare : (i : ℕ) (rows : List Record) (id : Identity) → record_from i (bare rows) id ≡ record_from i rows id
unfolding record_from is
from_bare i [] id = refl
from_bare i (r ∷ rows) id = rw (from_bare (suc i) rows id) refl

post_bare : (rows : List Record) (i : ℕ) → (row_of (bare rows) i).post ≡ (row_of rows i).post
unfolding row_of
post_bare [] i = refl
post_bare (r ∷ rows) zero = refl
post_bare (r ∷ rows) (suc i) = post_bare rows i

accepted_bare : (rows : List Record) (post : ℕ) (id : Identity) → accepted_of (bare rows) post id ≡ accepted_of rows post id
unfolding accepted_of record_of
accepted_bare rows post id = ap (accepted_by (bare rows) post) (from_bare 0 rows id) ∙ by (record_from 0 rows id)
  where
    by : (f : Option ℕ) → accepted_by (bare rows) post f ≡ accepted_by rows post f
    by None = refl
    by (Some i) = ap (λ (p : ℕ). cond (eqb p post) (Some i) None) (post_bare rows i)

wanted_bare : (rows : List Record) (post : ℕ) (ids : List Identity) (j : ℕ) → wanted (bare rows) post ids j ≡ wanted rows post ids j
unfolding wanted
wanted_bare rows post [] j = refl
wanted_bare rows post (id ∷ ids) j = rw (accepted_bare rows post id, wanted_bare rows post ids j) refl

ok_bare : (posts : ℕ) (rows : List Record) → all_ok posts (bare rows) ≡ all_ok posts rows
unfolding all_ok record_ok
ok_bare posts [] = refl
ok_bare posts (r ∷ rows) = rw (ok_bare posts rows) refl

module _ (to : Bool) (rows : List Record) (ms : List Bool) where
  -- who is accepted
  wanted_marked : (post : ℕ) (ids : List Identity) (j : ℕ) → wanted (take 128 (marked_as to rows ms)) post ids j ≡ wanted (take 128 rows) post ids j
  wanted_marked post ids j =
      sym (wanted_bare (take 128 (marked_as to rows ms)) post ids j)
      ∙ ap (λ (rs : List Record). wanted rs post ids j) (bare_marked to 128 rows ms)
      ∙ wanted_bare (take 128 rows) post ids j

  -- whether 15 comes
  ok_marked : (posts : ℕ) → all_ok posts (take 128 (marked_as to rows ms)) ≡ all_ok posts (take 128 rows)
  ok_marked posts =
      sym (ok_bare posts (take 128 (marked_as to rows ms))) ∙ ap (all_ok posts) (bare_marked to 128 rows ms) ∙ ok_bare posts (take 128 rows)

  sound_marked : (posts : ℕ) → records_ok (loaded_of rows) (length rows) posts ≡ true → records_ok (loaded_of (marked_as to rows ms)) (length (marked_as to rows ms)) posts ≡ true
  unfolding records_ok
  sound_marked posts h =
      rw (loaded_lent (marked_as to rows ms), length_marked to rows ms, ok_marked posts)
      (rw (loaded_lent rows) at h)

-- ---- one after the other

module _ (d : Desk) (rows : List Record) (l₁ area₁ : List ℕ) (post bits₁ : ℕ) (t₁ : Told) (d₁ : Desk) (rows₁ : List Record) (out₁ : List ℕ)
    (c₁ : Called d rows l₁ area₁ (event.Message post bits₁) t₁ d₁ rows₁ out₁) (done₁ : is_acks t₁.answer ≡ true) where
  -- the records after the first
  first_row : (i : ℕ) → i < length rows
      → row_of rows₁ i ≡ cond (accepted_in d rows l₁ (event.Message post bits₁) i) (mark_as (asked_of d.profile l₁ (event.Message post bits₁)).mark (row_of rows i)) (row_of rows i)
  unfolding both
  first_row i h = rw done₁ at (call_marks d rows l₁ area₁ (event.Message post bits₁) t₁ d₁ rows₁ out₁ c₁ i h)

  module _ (l₂ area₂ : List ℕ) (bits₂ : ℕ) (t₂ : Told) (d₂ : Desk) (rows₂ : List Record) (out₂ : List ℕ)
      (c₂ : Called d rows₁ l₂ area₂ (event.Message post bits₂) t₂ d₂ rows₂ out₂) (done₂ : is_acks t₂.answer ≡ true)
      (same : (asked_of d.profile l₂ (event.Message post bits₂)).users ≡ (asked_of d.profile l₁ (event.Message post bits₁)).users) where
    accepted_same : (i : ℕ) → accepted_in d rows₁ l₂ (event.Message post bits₂) i ≡ accepted_in d rows l₁ (event.Message post bits₁) i
    accepted_same i =
        ap (λ (g : Group). both (ltb i 128) (wanted (take 128 rows₁) post (identities_of d.profile.air g) i)) same
        ∙ ap (λ (rs : List Record). both (ltb i 128) (wanted (take 128 rs) post (identities_of d.profile.air (asked_of d.profile l₁ (event.Message post bits₁)).users) i)) c₁.records
        ∙ ap (both (ltb i 128)) (wanted_marked _ rows _ post (identities_of d.profile.air (asked_of d.profile l₁ (event.Message post bits₁)).users) i)

    -- record i has the mark that the second asks, where it is accepted, and is as it was before both elsewhere
    pub marked_again : (i : ℕ) → i < length rows
        → row_of rows₂ i ≡ cond (accepted_in d rows l₁ (event.Message post bits₁) i) (mark_as (asked_of d.profile l₂ (event.Message post bits₂)).mark (row_of rows i)) (row_of rows i)
    unfolding both
    marked_again i h =
        (rw (done₂, accepted_same i) at (call_marks d rows₁ l₂ area₂ (event.Message post bits₂) t₂ d₂ rows₂ out₂ c₂ i inside))
        ∙ go (accepted_in d rows l₁ (event.Message post bits₁) i) (row_of rows₁ i) (first_row i h)
      where
        inside : i < length rows₁
        inside = subst (λ (n : ℕ). i < n) (sym (ap (λ (rs : List Record). length rs) c₁.records ∙ length_marked _ rows _)) h

        m₁ : Bool
        m₁ = (asked_of d.profile l₁ (event.Message post bits₁)).mark

        m₂ : Bool
        m₂ = (asked_of d.profile l₂ (event.Message post bits₂)).mark

        go : (b : Bool) (r : Record) → r ≡ cond b (mark_as m₁ (row_of rows i)) (row_of rows i) → cond b (mark_as m₂ r) r ≡ cond b (mark_as m₂ (row_of rows i)) (row_of rows i)
        go true r e = ap (mark_as m₂) e
        go false r e = e

-- ---- ACTIVATE, then DEACTIVATE

module _ (d : Desk) (rows : List Record) (l₁ area₁ : List ℕ) (post bits₁ : ℕ) (t₁ : Told) (d₁ : Desk) (rows₁ : List Record) (out₁ : List ℕ)
    (c₁ : Called d rows l₁ area₁ (event.Message post bits₁) t₁ d₁ rows₁ out₁) (done : t₁.answer ≡ answer.Acks)
    (v : Value) (q₁ : ℕ) (activate : read_of d.profile l₁ bits₁ ≡ got v q₁)
    (l₂ area₂ : List ℕ) (bits₂ : ℕ) (t₂ : Told) (d₂ : Desk) (rows₂ : List Record) (out₂ : List ℕ) (c₂ : Called d₁ rows₁ l₂ area₂ (event.Message post bits₂) t₂ d₂ rows₂ out₂)
    (w : Value) (q₂ : ℕ) (deactivate : read_of d.profile l₂ bits₂ ≡ got w q₂) (type-4 : w.pdu ≡ 4) (same : w.users ≡ v.users) (room : 300 ≤ length area₂) where
  done₁ : is_acks t₁.answer ≡ true
  done₁ = ap is_acks done

  stays : d₁ ≡ d
  stays = call_stays d rows l₁ area₁ (event.Message post bits₁) t₁ d₁ rows₁ out₁ c₁ done₁

  called : Called d rows₁ l₂ area₂ (event.Message post bits₂) t₂ d₂ rows₂ out₂
  called = subst (λ (x : Desk). Called x rows₁ l₂ area₂ (event.Message post bits₂) t₂ d₂ rows₂ out₂) stays c₂

  -- the DEACTIVATE of a list that an ACTIVATE from the same post was carried out for is carried out, where 300 bytes are lent for its ACKs
  pub release_done : t₂.answer ≡ answer.Acks
  release_done =
      ap (λ (x : Told). x.answer) called.told ∙ step_answer d (loaded_of rows₁) (length rows₁) l₂ area₂ (event.Message post bits₂)
      ∙ deactivate_acks d (loaded_of rows₁) (length rows₁) (length area₂) post l₂ bits₂ sound.0 sound.1.0 sound₂ room w q₂ deactivate type-4
    where
      sound : (desk_ok d ≡ true) × ((ltb post (posts_of d) ≡ true) × (records_ok (loaded_of rows) (length rows) (posts_of d) ≡ true))
      sound =
          acks_sound d (loaded_of rows) (length rows) (length area₁) post l₁ bits₁
          (sym (ap is_acks (ap (λ (x : Told). x.answer) c₁.told ∙ step_answer d (loaded_of rows) (length rows) l₁ area₁ (event.Message post bits₁))) ∙ done₁)

      sound₂ : records_ok (loaded_of rows₁) (length rows₁) (posts_of d) ≡ true
      sound₂ = subst (λ (rs : List Record). records_ok (loaded_of rs) (length rs) (posts_of d) ≡ true) (sym c₁.records) (sound_marked _ rows _ (posts_of d) sound.1.1)

  -- the waiting calls are those from before both
  pub release_stays : d₂ ≡ d
  release_stays = call_stays d rows₁ l₂ area₂ (event.Message post bits₂) t₂ d₂ rows₂ out₂ called (ap is_acks release_done)

  -- the accepted records are clear, and every other one is as it was before both
  pub released : (i : ℕ) → i < length rows
      → row_of rows₂ i ≡ cond (both (ltb i 128) (wanted (take 128 rows) post (identities_of d.profile.air v.users) i)) (mark_as false (row_of rows i)) (row_of rows i)
  unfolding sets_mark
  released i h =
      marked_again d rows l₁ area₁ post bits₁ t₁ d₁ rows₁ out₁ c₁ done₁ l₂ area₂ bits₂ t₂ d₂ rows₂ out₂ called (ap is_acks release_done) users_same i h
      ∙ ap (λ (g : Group). cond (both (ltb i 128) (wanted (take 128 rows) post (identities_of d.profile.air g) i)) (mark_as mark (row_of rows i)) (row_of rows i)) users_first
      ∙ ap (λ (m : Bool). cond (both (ltb i 128) (wanted (take 128 rows) post (identities_of d.profile.air v.users) i)) (mark_as m (row_of rows i)) (row_of rows i)) clears
    where
      mark : Bool
      mark = (asked_of d.profile l₂ (event.Message post bits₂)).mark

      users_first : (asked_of d.profile l₁ (event.Message post bits₁)).users ≡ v.users
      users_first = ap (λ (r : Read Value). (value_by r).users) activate

      users_same : (asked_of d.profile l₂ (event.Message post bits₂)).users ≡ (asked_of d.profile l₁ (event.Message post bits₁)).users
      users_same = ap (λ (r : Read Value). (value_by r).users) deactivate ∙ same ∙ sym users_first

      two : w.pdu ≡ 2 → ⊥
      two z = omega (arith, z, type-4)

      clears : mark ≡ false
      clears = ap (λ (r : Read Value). eqb (value_by r).pdu 2) deactivate ∙ ne_eqb w.pdu 2 two
