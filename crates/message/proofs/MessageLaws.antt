-- Each message is a good codec, and so is the whole of them under their header; any row is one that puts no two things into one place.
-- Assumes nothing.
use Prim.Native.Nat.{ℕ, suc}
use mathlib.Core.Path.{◌≡◌, refl, sym, ap, ◌∙◌, subst}
use mathlib.Core.Bool.{Bool, true, false, not, cond}
use mathlib.Core.List.{List, [], ◌∷◌}
use lib.Dec.{eqb}
use borrow.Author.Tests.{eqb-true}
use Rattle.codec.specs.Codec.{number, pure, seq}
use Rattle.codec.specs.Options.{Optional, optional}
use Rattle.codec.proofs.Good.{Good, both_left, both_right}
use Rattle.codec.proofs.Combinators.{good_number, good_pure, good_guard, good_seq, good_map, good_iso}
use Rattle.codec.proofs.OptionLaws.{good_optional, good_options}
use Rattle.profile.specs.declared.Air.{Air}
use Rattle.message.specs.Elements as element
use Rattle.message.specs.Numbers.{element_of, width_of}
use Rattle.message.specs.Groups.{no_group, nobodies}
use Rattle.message.specs.Areas.{no_areas}
use Rattle.message.specs.Values.{no_lists, blank, same_value}
use Rattle.message.specs.Rows.{identifier, cause, users, masked, of_request, of_restriction, table, row_in, row_of, Holds, part_c, put, get, Tuple, parts_c, puts, gets, Options, or_else, put_option, put_options, get_options, some_of, none_of, each_c, options_c, first_parts, parts_of, options_of}
use Rattle.message.specs.Messages.{fill, taken, holds_just, message_of, body_c, is_known, is_carried, header_c, message_c}
use Rattle.message.specs.declared.Address.{Address}
use Rattle.message.specs.declared.Group.{Group}
use Rattle.message.specs.declared.Part.{Part}
use Rattle.message.specs.declared.Part.TheVariants as part
use Rattle.message.specs.declared.Row.{Row}
use Rattle.message.specs.declared.Value.{Value}
use Rattle.message.proofs.AddressLaws.{good_address}
use Rattle.message.proofs.GroupLaws.{good_group}
use Rattle.message.proofs.AreaLaws.{good_areas}
use Rattle.message.proofs.AckLaws.{good_masked, good_result, good_state}
use Rattle.message.proofs.ValueLaws.{value_self, value_one}
use Rattle.message.proofs.RowLaws.{given_back, none_none, none_only}

-- ---- each part, and some of them

good_nothing : Good (pure {A = Unit} tt (λ _. true))
good_nothing = good_pure tt (λ _. true) refl (λ b e. refl)

pub good_part : (air : Air) (v : Value) (p : Part) → Good (part_c air v p)
good_part air v part.Nothing = good_nothing
good_part air v (part.Number k) = good_number (element_of k) (width_of k)
good_part air v part.Users = good_group air false false
good_part air v (part.User i) = good_address false
good_part air v part.Masked = good_masked _
good_part air v part.Result = good_result
good_part air v part.Dispatchers = good_group air true false
good_part air v part.Dispatcher = good_address false
good_part air v part.Interrogation = good_state
good_part air v part.Sources = good_group air true false
good_part air v part.Destinations = good_group air true true
good_part air v part.Areas = good_areas air

pub good_parts : (air : Air) (v : Value) (ps : List Part) → Good (parts_c air v ps)
unfolding parts_c
good_parts air v [] = good_nothing
good_parts air v (p ∷ ps) = good_seq (part_c air v p) (λ x. parts_c air (put p x v) ps) (good_part air v p) (λ x _. good_parts air (put p x v) ps)

good_each : (air : Air) (i : ℕ) (v : Value) (qs : List Part) → Good (each_c air i v qs)
unfolding each_c
good_each air i v [] = good_nothing
good_each air i v (q ∷ qs) =
    good_seq (optional element.p_bit (part_c air v q)) (λ x. each_c air (suc i) (put_option i q x v) qs)
    (good_optional element.p_bit (part_c air v q) (good_part air v q)) (λ x _. good_each air (suc i) (put_option i q x v) qs)

-- any options under one O-bit, of addresses, groups and numbers
pub good_row_options : (air : Air) (v : Value) (qs : List Part) → Good (options_c air v qs)
unfolding options_c
good_row_options air v [] = good_nothing
good_row_options air v (q ∷ qs) =
    good_options element.o_bit (none_of (q ∷ qs)) (λ x. not (some_of (q ∷ qs) x)) (some_of (q ∷ qs)) (each_c air 0 v (q ∷ qs))
    (ap not (none_none (q ∷ qs))) (none_only (q ∷ qs)) (none_none (q ∷ qs)) (good_each air 0 v (q ∷ qs))

-- ---- what is put into a blank value is taken out of it again: no two parts of a row share a place

abbrev pub Back : ℕ → List Part → List Part → Type 0
Back t ps qs = (x : Tuple ps) (y : Options qs) → taken t ps qs (fill t ps qs (x, y)) ≡ (x, y)

module _ (air : Air) (t : ℕ) (ps qs : List Part) (back : Back t ps qs) where
  -- such a row is a good codec
  pub good_row : Good (message_of t ps qs air)
  good_row =
      good_map (fill t ps qs) (taken t ps qs) (holds_just t ps qs) (seq (parts_c air (blank t) ps) (λ x. options_c air (puts ps x (blank t)) qs))
      (λ x _. back x.0 x.1)
      (λ x _. subst (λ (y : Tuple ps × Options qs). same_value (fill t ps qs y) (fill t ps qs x) ≡ true) (sym (back x.0 x.1)) (value_self (fill t ps qs x)))
      (λ v e _. value_one (fill t ps qs (taken t ps qs v)) v e)
      (good_seq (parts_c air (blank t) ps) (λ x. options_c air (puts ps x (blank t)) qs) (good_parts air (blank t) ps) (λ x _. good_row_options air (puts ps x (blank t)) qs))

pair_eq : {A B : Type 0} {a c : A} {b d : B} → a ≡ c → b ≡ d → ◌≡◌ {A = A × B} (a, b) (c, d)
pair_eq {A} {B} {a} {c} {b} {d} e h = ap (λ (x : A). (x, b)) e ∙ ap (λ (y : B). (c, y)) h

-- REQUEST is, with its seven options
request_back : (t : ℕ) → Back t (identifier ∷ cause ∷ []) of_request
unfolding gets puts get_options put_options blank no_lists no_group no_areas nobodies
request_back t x y =
    pair_eq refl
    (pair_eq (given_back y.0 _)
    (pair_eq (given_back y.1.0 _)
    (pair_eq (given_back y.1.1.0 _)
    (pair_eq (given_back y.1.1.1.0 _)
    (pair_eq (given_back y.1.1.1.1.0 _) (pair_eq (given_back y.1.1.1.1.1.0 _) (pair_eq (given_back y.1.1.1.1.1.1.0 _) refl)))))))

-- INTERROGATE ACK is, with its four
interrogate_ack_back : (t : ℕ) → Back t (users ∷ masked ∷ part.Interrogation ∷ []) of_restriction
unfolding gets puts get_options put_options blank no_lists no_group no_areas nobodies
interrogate_ack_back t x y =
    pair_eq refl
    (pair_eq (given_back y.0 _)
    (pair_eq (given_back y.1.0 _) (pair_eq (given_back y.1.1.0 _) (pair_eq (given_back y.1.1.1.0 _) refl))))

-- every row of the table is one: each in its turn
arm : (b : Bool) (t : ℕ) (r s : Row) → Back t (parts_of r) (options_of r) → Back t (parts_of s) (options_of s) → Back t (parts_of (cond b r s)) (options_of (cond b r s))
arm true t r s h k = h
arm false t r s h k = k

back_of : (t : ℕ) → Back t (parts_of (row_of t)) (options_of (row_of t))
unfolding row_of row_in table first_parts gets puts get_options put_options blank no_lists no_group no_areas nobodies
back_of t =
    arm (eqb t 2) t _ _ (λ x y. ap (λ (o : Optional Group). (x, (o, tt))) (given_back y.0 _))
    (arm (eqb t 3) t _ _ (λ x y. refl)
    (arm (eqb t 4) t _ _ (λ x y. refl)
    (arm (eqb t 5) t _ _ (λ x y. refl)
    (arm (eqb t 8) t _ _ (λ x y. refl)
    (arm (eqb t 9) t _ _ (interrogate_ack_back t)
    (arm (eqb t 10) t _ _ (λ x y. ap (λ (o : Optional Address). (x, (o, tt))) (given_back y.0 _))
    (arm (eqb t 11) t _ _ (request_back t)
    (arm (eqb t 12) t _ _ (λ x y. refl)
    (arm (eqb t 13) t _ _ (λ x y. refl)
    (arm (eqb t 14) t _ _ (λ x y. refl)
    (arm (eqb t 15) t _ _ (λ x y. refl)
    (arm (eqb t 16) t _ _ (λ x y. ap (λ (o : Optional Address). (x, (o, tt))) (given_back y.0 _))
    (arm (eqb t 17) t _ _ (λ x y. refl)
    (arm (eqb t 18) t _ _ (λ x y. ap (λ (o : Optional Address). (x, (o, tt))) (given_back y.0 _))
    (λ x y. refl)))))))))))))))

good_body : (air : Air) (t : ℕ) → Good (body_c air t)
unfolding body_c
good_body air t = good_row air t (parts_of (row_of t)) (options_of (row_of t)) (back_of t)

-- ---- a body's value has the header's type

put_pdu : (p : Part) (x : Holds p) (v : Value) → (put p x v).pdu ≡ v.pdu
put_pdu part.Nothing x v = refl
put_pdu (part.Number k) x v = refl
put_pdu part.Users x v = refl
put_pdu (part.User i) x v = refl
put_pdu part.Masked x v = refl
put_pdu part.Result x v = refl
put_pdu part.Dispatchers x v = refl
put_pdu part.Dispatcher x v = refl
put_pdu part.Interrogation x v = refl
put_pdu part.Sources x v = refl
put_pdu part.Destinations x v = refl
put_pdu part.Areas x v = refl

puts_pdu : (ps : List Part) (x : Tuple ps) (v : Value) → (puts ps x v).pdu ≡ v.pdu
unfolding puts
puts_pdu [] x v = refl
puts_pdu (p ∷ ps) x v = puts_pdu ps x.1 (put p x.0 v) ∙ put_pdu p x.0 v

options_pdu : (i : ℕ) (qs : List Part) (y : Options qs) (v : Value) → (put_options i qs y v).pdu ≡ v.pdu
unfolding put_options
options_pdu i [] y v = refl
options_pdu i (q ∷ qs) y v = options_pdu (suc i) qs y.1 (put_option i q y.0 v) ∙ put_pdu q (or_else y.0 (get q v)) v

body_pdu : (air : Air) (t : ℕ) (v : Value) → (body_c air t).ok v ≡ true → v.pdu ≡ t
unfolding body_c blank
body_pdu air t v e =
    let ps = parts_of (row_of t) in
    let qs = options_of (row_of t) in
    sym (ap (λ (w : Value). w.pdu) (value_one (fill t ps qs (taken t ps qs v)) v (both_left _ _ e)))
    ∙ options_pdu 0 qs (get_options 0 qs v) (puts ps (gets ps v) (blank t)) ∙ puts_pdu ps (gets ps v) (blank t)

-- ---- the header and the message

pub good_header : (ss : ℕ) → Good (header_c ss)
unfolding header_c
good_header ss =
    good_guard 7 (λ x. is_carried x.1) _ refl
    (good_guard 6 (λ x. is_known x.1) _ refl
    (good_guard 5 (λ x. eqb x.0 ss) _ refl
    (good_seq (number element.ss_type 6) (λ _. number element.pdu_type 5) (good_number element.ss_type 6) (λ _ _. good_number element.pdu_type 5))))

header_ss : (ss : ℕ) (h : ℕ × ℕ) → (header_c ss).ok h ≡ true → h.0 ≡ ss
unfolding header_c
header_ss ss h v = eqb-true h.0 ss (both_right _ _ (both_left _ _ (both_left _ _ v)))

pub good_message : (air : Air) → Good (message_c air)
unfolding message_c
good_message air =
    good_iso _ _ _
    (λ x v. ap (λ (s : ℕ). ((s, x.1.pdu), x.1)) (sym (header_ss air.ss x.0 (both_left _ _ v)))
    ∙ ap (λ (t : ℕ). ((x.0.0, t), x.1)) (body_pdu air x.0.1 x.1 (both_right _ _ v)))
    (λ b _. refl)
    (good_seq (header_c air.ss) (λ h. body_c air h.1) (good_header air.ss) (λ h _. good_body air h.1))
