-- What is proved of a step, of `call` on what is lent: bytes that no message fills stay, each message is read back, and whose mark becomes
-- what, by the identities that a request names. Assumes nothing.
use Prim.Native.Nat.{ℕ, ◌<◌}
use mathlib.Core.Path.{◌≡◌, refl, sym, ap, ◌∙◌, subst}
use mathlib.Core.Bool.{Bool, true, false, cond}
use mathlib.Core.List.{List}
use lib.Dec.{ltb}
use lib.ListN.{length, get_or, take}
use Rattle.codec.specs.Codec.{both}
use Rattle.records.specs.Identities.{identities_of}
use Rattle.records.specs.Marking.{wanted}
use Rattle.records.specs.Records.{row_of}
use Rattle.records.specs.declared.Record.{Record}
use Rattle.sending.specs.declared.Laid.{Laid}
use Rattle.desk.specs.Outputs.{sent_by, Unfilled, ReadBack}
use Rattle.desk.specs.Steps.{asked_of, is_acks, post_of}
use Rattle.desk.specs.declared.Answer.{Answer}
use Rattle.desk.specs.declared.Desk.{Desk}
use Rattle.desk.specs.declared.Event.{Event}
use Rattle.desk.specs.declared.marking.Asked.{Asked}
use Rattle.desk.proofs.Marked.{marked_exactly, marked_to}
use Rattle.desk.proofs.Outputs.{unfilled_stays, sent_read}
use Rattle.desk.proofs.Requests.{acks_stay}
use Rattle.host.specs.Lending.{loaded_of, mark_as, step_on, Called}
use Rattle.host.specs.declared.Told.{Told}
use Rattle.host.proofs.HostLaws.{loaded_lent, marked_at}

-- record i, one of the first 128, is the accepted record of one of the identities that a call names
abbrev pub accepted_in : Desk → List Record → List ℕ → Event → ℕ → Bool
accepted_in d rows l e i = both (ltb i 128) (wanted (take 128 rows) (post_of e) (identities_of d.profile.air (asked_of d.profile l e).users) i)

module _ (d : Desk) (rows : List Record) (l area : List ℕ) (e : Event) (t : Told) (d₁ : Desk) (rows₁ : List Record) (area₁ : List ℕ) (c : Called d rows l area e t d₁ rows₁ area₁) where
  laid_is : t.laid ≡ (step_on d rows l area e).laid
  laid_is = ap (λ (x : Told). x.laid) c.told

  -- a byte that none of the messages fills is as it was lent
  pub call_unfilled_stays : (i : ℕ) → Unfilled t.laid i → get_or area₁ i 0 ≡ get_or area i 0
  call_unfilled_stays i out =
      ap (λ (m : List ℕ). get_or m i 0) c.output
      ∙ unfilled_stays d (loaded_of rows) (length rows) l area e i (subst (λ (x : Laid). Unfilled x i) laid_is out)

  -- each message that the host is told of is read from its place as the value that was sent
  pub call_sent_read : ReadBack d.profile t.laid area₁ 0 (sent_by d (loaded_of rows) (length rows) l (length area) e)
  call_sent_read =
      subst (λ (x : Laid). ReadBack d.profile x area₁ 0 (sent_by d (loaded_of rows) (length rows) l (length area) e)) (sym laid_is)
      (subst (λ (m : List ℕ). ReadBack d.profile (step_on d rows l area e).laid m 0 (sent_by d (loaded_of rows) (length rows) l (length area) e)) (sym c.output) (sent_read d (loaded_of rows) (length rows) l area e))

  -- the waiting calls stay where a request is carried out
  pub call_stays : is_acks t.answer ≡ true → d₁ ≡ d
  call_stays h = c.desk ∙ acks_stay d (loaded_of rows) (length rows) l area e (sym (ap (λ (x : Told). is_acks x.answer) c.told) ∙ h)

  abbrev asked : Asked
  asked = asked_of d.profile l e

  -- record i is the one at entry, with its mark as the call asks exactly if the call is a request that was carried out and i is the accepted
  -- record of one of the identities that it names
  pub call_marks : (i : ℕ) → i < length rows → row_of rows₁ i ≡ cond (both (is_acks t.answer) (accepted_in d rows l e i)) (mark_as (asked_of d.profile l e).mark (row_of rows i)) (row_of rows i)
  unfolding both
  call_marks i h =
      marked_at d rows l area e t d₁ rows₁ area₁ c i h
      ∙ ap (λ (b : Bool). cond b (mark_as (step_on d rows l area e).marks.mark (row_of rows i)) (row_of rows i))
      (marked_exactly d (loaded_of rows) (length rows) l area e i
      ∙ ap (λ (a : Answer). named a (take (length rows) (loaded_of rows))) (sym answer_is)
      ∙ ap (λ (rs : List Record). named t.answer rs) (loaded_lent rows))
      ∙ go (is_acks t.answer) refl
    where
      answer_is : t.answer ≡ (step_on d rows l area e).answer
      answer_is = ap (λ (x : Told). x.answer) c.told

      named : Answer → List Record → Bool
      named a rs = both (is_acks a) (both (ltb i 128) (wanted rs (post_of e) (identities_of d.profile.air asked.users) i))

      go : (b : Bool) → is_acks t.answer ≡ b
          → cond (both b (accepted_in d rows l e i)) (mark_as (step_on d rows l area e).marks.mark (row_of rows i)) (row_of rows i)
          ≡ cond (both b (accepted_in d rows l e i)) (mark_as asked.mark (row_of rows i)) (row_of rows i)
      go true z =
          ap (λ (m : Bool). cond (accepted_in d rows l e i) (mark_as m (row_of rows i)) (row_of rows i)) (marked_to d (loaded_of rows) (length rows) l area e (sym (ap is_acks answer_is) ∙ z))
      go false z = refl
