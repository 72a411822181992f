-- Where a post's message broke off, in the desk's answer (document 02, (ii)): a 4 is the answer to a message, with the first element along its
-- bits that reaches past its length, and any other refusal has neither element nor position. Assumes nothing.
use Prim.Native.Nat.{ℕ}
use mathlib.Core.Path.{◌≡◌, refl, sym, ap, ◌∙◌, subst}
use mathlib.Core.Bool.{Bool, true, false, not, cond}
use mathlib.Core.List.{List, [], ◌∷◌, ◌++◌}
use lib.Dec.{eqb, ltb}
use lib.ListN.{length}
use Rattle.codec.specs.Stops.{refusal, no_stop}
use Rattle.codec.specs.Codec.{Ground, first_of, Read, got, no, afterwards}
use Rattle.codec.specs.declared.Stop.{Stop}
use Rattle.codec.proofs.Good.{not_both, Told, Plain}
use Rattle.codec.proofs.GroundLaws.{none_join, some_join}
use Rattle.codec.proofs.BreakLaws.{plain_refusal}
use Rattle.message.specs.Values.{identifier_in}
use Rattle.message.specs.Reading.{read_of, reading_order}
use Rattle.message.specs.declared.Value.{Value}
use Rattle.message.proofs.OrderLaws.{reading_exact}
use Rattle.message.proofs.BreakLaws.{Broke, broke_off, carries_neither}
use Rattle.places.specs.Held.{place_in}
use Rattle.places.specs.Spots.{place_of}
use Rattle.records.specs.declared.Record.{Record}
use Rattle.desk.specs.Grounds.{not_sent, party_for, type_order, message_order, set_up_order, reject_order, cancel_order, event_order, order_of}
use Rattle.desk.specs.Numbers.{stop_of}
use Rattle.desk.specs.Orders.{posts_of, places_of}
use Rattle.desk.specs.Steps.{step_of}
use Rattle.desk.specs.declared.Answer.TheVariants as answer
use Rattle.desk.specs.declared.Desk.{Desk}
use Rattle.desk.specs.declared.Event.{Event}
use Rattle.desk.specs.declared.Event.TheVariants as event
use Rattle.desk.proofs.AnswerLaws.{step_answer}
use Rattle.desk.proofs.Exactly.{stop_first}

-- ---- orders of which no refusal is a 4

abbrev Others : List Ground → Type 0
Others [] = Unit
Others ((s, holds) ∷ rest) = Plain s × Others rest

others_cond : (b : Bool) (g h : List Ground) → Others g → Others h → Others (cond b g h)
others_cond true g h x y = x
others_cond false g h x y = y

no_stop_plain : Plain no_stop
unfolding no_stop refusal
no_stop_plain = (refl, refl)

first_plain : (g : List Ground) → Others g → Plain (first_of g)
unfolding first_of
first_plain [] o = no_stop_plain
first_plain ((s, true) ∷ rest) o = o.0
first_plain ((s, false) ∷ rest) o = first_plain rest o.1

-- ---- what the first ground of a call's order gives: a refusal that is no 4, or reading's own

-- this call's message gives s when it is read
abbrev Reads : Desk → List ℕ → Event → Stop → Type 0
Reads d l (event.Message post bits) s = read_of d.profile l bits ≡ no s
Reads d l (event.SetUp caller called identifier cause) s = ⊥
Reads d l (event.Reject post identifier) s = ⊥
Reads d l (event.Cancel identifier) s = ⊥

data Gives (d : Desk) (l : List ℕ) (e : Event) (s : Stop) : Type 0 where
  itself : Plain s → Gives d l e s
  reading : Reads d l e s → Gives d l e s

module _ (d : Desk) (rows : List Record) (n : ℕ) (l : List ℕ) (room : ℕ) where
  type_others : (post : ℕ) (v : Value) → Others (type_order d rows n room post v)
  type_others post v =
      others_cond (eqb v.pdu 2) _ _ (plain_refusal 14 refl, (plain_refusal 15 refl, (plain_refusal 21 refl, tt)))
      (others_cond (eqb v.pdu 4) _ _ (plain_refusal 14 refl, (plain_refusal 15 refl, tt))
      (others_cond (eqb v.pdu 8) _ _ (plain_refusal 14 refl, (plain_refusal 15 refl, (plain_refusal 26 refl, tt)))
      (others_cond (eqb v.pdu 12) _ _
      (plain_refusal 14 refl, (plain_refusal 19 refl, (plain_refusal 20 refl, others_cond (place_in (places_of d) (place_of (places_of d) (identifier_in v)).place).more _ _ (plain_refusal 18 refl, tt) tt)))
      (others_cond (eqb v.pdu 15) _ _ (plain_refusal 14 refl, (plain_refusal 19 refl, (plain_refusal 20 refl, tt)))
      (others_cond (eqb v.pdu 17) _ _ (plain_refusal 14 refl, (plain_refusal 19 refl, (plain_refusal 20 refl, tt))) tt)))))

  -- after reading: what was read goes on by its type, and a refusal of reading is handed on
  after_gives : (post bits : ℕ) (g : List Ground) (r : Read Value) → read_of d.profile l bits ≡ r → Told g r
      → Gives d l (event.Message post bits) (first_of (g ++ afterwards r (λ v p. not_sent v ∷ type_order d rows n room post v)))
  after_gives post bits g (got v p) e t =
      itself (subst Plain (sym (none_join _ g t).1) (first_plain (not_sent v ∷ type_order d rows n room post v) (plain_refusal 8 refl, type_others post v)))
  after_gives post bits g (no s) e t = reading (e ∙ ap no (sym ((some_join [] g t.0).1 ∙ t.1)))

  -- one ground before them
  before_gives : (e : Event) (c : ℕ) (holds : Bool) (rest : List Ground) → eqb c 4 ≡ false → Gives d l e (first_of rest) → Gives d l e (first_of ((refusal c, holds) ∷ rest))
  unfolding first_of
  before_gives e c true rest z w = itself (plain_refusal c z)
  before_gives e c false rest z w = w

  event_gives : (e : Event) → Gives d l e (first_of (event_order d rows n l room e))
  unfolding message_order set_up_order reject_order cancel_order
  event_gives (event.Message post bits) =
      before_gives (event.Message post bits) 2 (not (ltb post (posts_of d))) _ refl
      (after_gives post bits (reading_order d.profile l bits) (read_of d.profile l bits) refl (reading_exact d.profile l bits))
  event_gives (event.SetUp caller called identifier cause) =
      itself
      (first_plain (set_up_order d rows n room caller called identifier cause)
      (plain_refusal 16 refl, (plain_refusal 14 refl, (plain_refusal 15 refl, (plain_refusal 17 refl, others_cond (party_for rows n caller called).found _ _ (plain_refusal 18 refl, tt) tt)))))
  event_gives (event.Reject post identifier) =
      itself (first_plain (reject_order d room post identifier) (plain_refusal 2 refl, (plain_refusal 16 refl, (plain_refusal 14 refl, (plain_refusal 19 refl, (plain_refusal 20 refl, tt))))))
  event_gives (event.Cancel identifier) = itself (first_plain (cancel_order d room identifier) (plain_refusal 16 refl, (plain_refusal 14 refl, (plain_refusal 19 refl, tt))))

  order_gives : (e : Event) → Gives d l e (first_of (order_of d rows n l room e))
  unfolding order_of
  order_gives e = before_gives e 1 _ _ refl (event_gives e)

-- ---- so of the answers

-- the call was a message, and it broke off with s
abbrev pub BrokeOff : Desk → List ℕ → Event → Stop → Type 0
BrokeOff d l (event.Message post bits) s = Broke d.profile l bits s
BrokeOff d l (event.SetUp caller called identifier cause) s = ⊥
BrokeOff d l (event.Reject post identifier) s = ⊥
BrokeOff d l (event.Cancel identifier) s = ⊥

read_broke : (d : Desk) (l : List ℕ) (e : Event) (s : Stop) → Reads d l e s → s.number ≡ 4 → BrokeOff d l e s
read_broke d l (event.Message post bits) s r four = broke_off d.profile l bits s r four
read_broke d l (event.SetUp caller called identifier cause) s r four = r
read_broke d l (event.Reject post identifier) s r four = r
read_broke d l (event.Cancel identifier) s r four = r

read_neither : (d : Desk) (l : List ℕ) (e : Event) (s : Stop) → Reads d l e s → eqb s.number 4 ≡ false → s ≡ refusal s.number
read_neither d l (event.Message post bits) s r other = carries_neither d.profile l bits s r other
read_neither d l (event.SetUp caller called identifier cause) s r other = absurd r
read_neither d l (event.Reject post identifier) s r other = absurd r
read_neither d l (event.Cancel identifier) s r other = absurd r

module _ (d : Desk) (rows : List Record) (n : ℕ) (l area : List ℕ) (e : Event) (s : Stop) (h : (step_of d rows n l area e).answer ≡ answer.Refused s) where
  gives : Gives d l e s
  gives =
      subst (Gives d l e)
      (sym (stop_first d rows n l (length area) e) ∙ ap stop_of (sym (step_answer d rows n l area e) ∙ h))
      (order_gives d rows n l (length area) e)

  pub answer_broke : s.number ≡ 4 → BrokeOff d l e s
  answer_broke four = go gives
    where
      go : Gives d l e s → BrokeOff d l e s
      go (itself z) = not_both (sym z.0 ∙ rw four)
      go (reading r) = read_broke d l e s r four

  pub answer_neither : eqb s.number 4 ≡ false → s ≡ refusal s.number
  answer_neither other = go gives
    where
      go : Gives d l e s → s ≡ refusal s.number
      go (itself z) = z.1
      go (reading r) = read_neither d l e s r other
