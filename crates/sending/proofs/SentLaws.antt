-- Of valid messages of up to 100 bytes, at most three, none is left out: the area is the one that the paper describes. Assumes nothing.
use Prim.Native.Nat.{ℕ, ◌+◌, ◌*◌, ◌≤◌, ◌<◌}
use mathlib.Core.Path.{◌≡◌, refl, ◌∙◌}
use mathlib.Core.Bool.{true}
use mathlib.Core.List.{List, [], ◌∷◌}
use native.Mathlib.Omega.{arith}
use lib.ListN.{length}
use borrow.Author.Tests.{lt-ltb}
use Rattle.profile.specs.Rules.{profile_ok}
use Rattle.profile.specs.declared.Profile.{Profile}
use Rattle.message.specs.declared.Value.{Value}
use Rattle.validity.specs.Validity.{valid_of}
use Rattle.writing.specs.Writing.{laid, bits_of, bytes_for, lay_of, write_of, area_of}
use Rattle.writing.proofs.RoundTrips.{can_write, laid_length}
use Rattle.sending.specs.Sending.{lay_from, lay_all, no_laid, laid_more, laid_from, laid_of, send_laid, send_area, all_laid, all_area}
use Rattle.sending.specs.declared.Laid.{Laid}

-- a message that can be sent
pub record Sends (p : Profile) (v : Value) : Type 0 where
  pub valid : valid_of p.air v ≡ true
  pub short : bytes_for (length (bits_of p.air v)) ≤ 100

abbrev pub AllSend : Profile → List Value → Type 0
AllSend p [] = Unit
AllSend p (v ∷ vs) = Sends p v × AllSend p vs

module _ (p : Profile) (passes : profile_ok p ≡ true) where
  module _ (x : Laid) (l : List ℕ) (v : Value) (few : x.count < 3) (room : 300 ≤ length l) (s : Sends p v) where
    wrote : write_of p v l (100 * x.count) ≡ laid (lay_of l (100 * x.count) (bits_of p.air v)) (length (bits_of p.air v))
    wrote = can_write p v l (100 * x.count) (record { passes = passes; valid = s.valid; room = omega (arith, s.short) })

    laid_one : send_laid p x l v ≡ laid_more x (length (bits_of p.air v))
    unfolding send_laid
    laid_one = rw (lt-ltb x.count 3 few, wrote) refl

    area_one : send_area p x l v ≡ lay_of l (100 * x.count) (bits_of p.air v)
    unfolding send_area area_of
    area_one = rw (lt-ltb x.count 3 few, wrote) refl

  sent : (x : Laid) (l : List ℕ) (vs : List Value) → x.count + length vs ≤ 3 → 300 ≤ length l → AllSend p vs
      → (all_laid p x l vs ≡ laid_from p.air x vs) × (all_area p x l vs ≡ lay_from p.air x.count l vs)
  unfolding all_laid all_area laid_from lay_from
  sent x l [] few room s = (refl, refl)
  sent x l (v ∷ vs) few room s =
      let one = laid_one x l v (omega arith) room s.0 in
      let area = area_one x l v (omega arith) room s.0 in
      rw (one, area)
      (sent (laid_more x (length (bits_of p.air v))) (lay_of l (100 * x.count) (bits_of p.air v)) vs (omega arith) (omega (arith, laid_length l (100 * x.count) (bits_of p.air v))) s.1)

  -- what a call sends, all of it
  pub all_sent : (l : List ℕ) (vs : List Value) → length vs ≤ 3 → 300 ≤ length l → AllSend p vs
      → (all_laid p no_laid l vs ≡ laid_of p.air vs) × (all_area p no_laid l vs ≡ lay_all p.air l vs)
  unfolding no_laid laid_of lay_all
  all_sent l vs few room s = sent no_laid l vs (omega arith) room s

  -- a call that sends one message
  pub one_sent : (l m : List ℕ) (v w : Value) (x y : Laid) → Sends p v → 300 ≤ length l → x ≡ no_laid → w ≡ v
      → (y ≡ send_laid p x l w) × (m ≡ send_area p x l w) → (y ≡ laid_of p.air (v ∷ [])) × (m ≡ lay_all p.air l (v ∷ []))
  unfolding all_laid all_area
  one_sent l m v w x y s room ex ew e =
      let all = all_sent l (v ∷ []) (omega arith) room (s, tt) in
      ((rw (ex, ew) at e.0) ∙ all.0, (rw (ex, ew) at e.1) ∙ all.1)

  -- a call that sends two
  pub two_sent : (l k m : List ℕ) (v₁ v₂ w₁ w₂ : Value) (x y z : Laid) → Sends p v₁ → Sends p v₂ → 300 ≤ length l → x ≡ no_laid → w₁ ≡ v₁ → w₂ ≡ v₂
      → (y ≡ send_laid p x l w₁) × (k ≡ send_area p x l w₁) → (z ≡ send_laid p y k w₂) × (m ≡ send_area p y k w₂)
      → (z ≡ laid_of p.air (v₁ ∷ v₂ ∷ [])) × (m ≡ lay_all p.air l (v₁ ∷ v₂ ∷ []))
  unfolding all_laid all_area
  two_sent l k m v₁ v₂ w₁ w₂ x y z s t room ex e₁ e₂ a b =
      let all = all_sent l (v₁ ∷ v₂ ∷ []) (omega arith) room (s, (t, tt)) in
      let y₁ : y ≡ send_laid p no_laid l v₁ = rw (ex, e₁) at a.0 in
      let k₁ : k ≡ send_area p no_laid l v₁ = rw (ex, e₁) at a.1 in
      ((rw (y₁, k₁, e₂) at b.0) ∙ all.0, (rw (y₁, k₁, e₂) at b.1) ∙ all.1)
