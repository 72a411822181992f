-- Answers that change nothing. Assumes nothing.
use Prim.Native.Nat.{ℕ}
use mathlib.Core.Path.{◌≡◌, refl, sym, ap, ◌∙◌}
use mathlib.Core.List.{List, [], ◌∷◌}
use Rattle.codec.specs.declared.Stop.{Stop}
use Rattle.records.specs.Marking.{no_marks}
use Rattle.records.specs.declared.Marks.{Marks}
use Rattle.sending.specs.Sending.{lay_from, lay_all, laid_from, laid_of}
use Rattle.sending.specs.declared.Laid.{Laid}
use Rattle.desk.specs.Notices.{state_ack}
use Rattle.desk.specs.Steps.{Spoken, plain_step, plain_area, desk_after, keeps}
use Rattle.desk.specs.declared.Answer.{Answer}
use Rattle.desk.specs.declared.Answer.TheVariants as answer
use Rattle.desk.specs.declared.Desk.{Desk}
use Rattle.desk.specs.declared.Stepped.{Stepped}

module _ (d : Desk) (spoken : Spoken) where
  pub refused_step : (s : Stop) → plain_step d spoken (answer.Refused s) ≡ keeps d (answer.Refused s)
  unfolding plain_step keeps laid_of laid_from desk_after
  refused_step s = refl

  pub free_step : plain_step d spoken answer.Free ≡ keeps d answer.Free
  unfolding plain_step keeps laid_of laid_from desk_after
  free_step = refl

  -- a refusal, of whatever call
  pub refused_plain : (area : List ℕ) (a : Answer) (s t : Stop) (r : Stepped) → r ≡ keeps d (answer.Refused s) → s ≡ t → a ≡ answer.Refused t
      → (r ≡ plain_step d spoken a) × (area ≡ plain_area d spoken area a)
  unfolding plain_area lay_all lay_from
  refused_plain area a s t r e z q = (
    e ∙ ap (λ (x : Stop). keeps d (answer.Refused x)) z ∙ sym (refused_step t) ∙ ap (λ (x : Answer). plain_step d spoken x) (sym q),
    ap (λ (x : Answer). plain_area d spoken area x) (sym q),
  )

  pub free_plain : (area : List ℕ) (a : Answer) (r : Stepped) → r ≡ keeps d answer.Free → a ≡ answer.Free → (r ≡ plain_step d spoken a) × (area ≡ plain_area d spoken area a)
  unfolding plain_area lay_all lay_from
  free_plain area a r e q = (e ∙ sym free_step ∙ ap (λ (x : Answer). plain_step d spoken x) (sym q), ap (λ (x : Answer). plain_area d spoken area x) (sym q))

  -- a state leaves all but the area, where its INTERROGATE ACK stands
  pub state_plain : (area m : List ℕ) (a : Answer) (k : ℕ) (x : Laid) (marks : Marks) → a ≡ answer.State k
      → (x ≡ laid_of d.profile.air (state_ack d.profile.air spoken.user k ∷ [])) × (m ≡ lay_all d.profile.air area (state_ack d.profile.air spoken.user k ∷ []))
      → marks ≡ no_marks → (record { answer = answer.State k; laid = x; desk = d; marks = marks } ≡ plain_step d spoken a) × (m ≡ plain_area d spoken area a)
  unfolding plain_step plain_area desk_after
  state_plain area m a k x marks q z w = rw (q, z.0, w) (refl, z.1)

  -- the same answer under another name
  pub same_plain : (area m : List ℕ) (a b : Answer) (r : Stepped) → b ≡ a → (r ≡ plain_step d spoken a) × (m ≡ plain_area d spoken area a)
      → (r ≡ plain_step d spoken b) × (m ≡ plain_area d spoken area b)
  same_plain area m a b r q z = rw q z
