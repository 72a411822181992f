-- Each combinator makes good codecs of good ones. Assumes nothing.
use Prim.Native.Nat.{ℕ, zero, suc, ◌+◌, ◌≤◌, ◌<◌, ◌^◌}
use mathlib.Core.Path.{◌≡◌, refl, sym, ap, ◌∙◌, subst}
use mathlib.Core.Bool.{Bool, true, false, not, cond}
use mathlib.Core.List.{List, [], ◌∷◌}
use mathlib.Core.Logic.{⊎_elim}
use native.Mathlib.Nat.{add-zero}
use native.Mathlib.Omega.{arith}
use lib.Dec.{eqb, leb}
use lib.ListN.{length, length-append}
use borrow.Author.Tests.{le-leb, lt-leb, ltb-true, lt-ltb}
use Rattle.bits.specs.Fields.{field_at}
use Rattle.bits.proofs.FieldLaws.{field_lt, field_same}
use Rattle.bits.proofs.PutLaws.{length_binary}
use Rattle.bits.proofs.SetLaws.{lt_or}
use Rattle.bits.proofs.Stands.{AreBits, Stands, stands_left, stands_right, stands_join, bits_join}
use Rattle.bits.proofs.RoundLaws.{binary_bits, binary_read, read_binary}
use Rattle.codec.specs.Stops.{short, refusal}
use Rattle.codec.specs.Codec.{both, first_of, none_of, grounds_of, Read, got, no, bind, Codec, number, pure, guard, seq, map, choose, vec, vec_read, vec_order, vec_bits, vec_ok, vec_then}
use Rattle.codec.proofs.Good.{both_true, both_left, both_right, not_both, Binary, Agree, Found, View, refused, found, Told, Ended, came, Good}
use Rattle.codec.proofs.GroundLaws.{told_then, told_map, told_test}
use Rattle.codec.proofs.BreakLaws.{number_ended, guard_ended, map_ended, seq_ended}
use Rattle.codec.specs.Breaks.{first_past}

-- ---- number

pub number_short : (e : ℕ) (f : ℕ → ℕ) (n at w : ℕ) → n < at + w → (number e w).read f n at ≡ no (short e at)
unfolding number
number_short e f n at w h = rw (lt-leb (at + w) n h)

pub number_got : (e : ℕ) (f : ℕ → ℕ) (n at w : ℕ) → at + w ≤ n → (number e w).read f n at ≡ got (field_at f at w) (at + w)
unfolding number
number_got e f n at w h = rw (le-leb (at + w) n h)

module _ (e w : ℕ) where
  number_view : (f : ℕ → ℕ) (n : ℕ) → Binary f → (at : ℕ) → View (number e w) f n at ((number e w).read f n at)
  unfolding number
  number_view f n hf at =
      ⊎_elim
      (λ h. rw (lt-leb (at + w) n h) (refused (short e at)))
      (λ h.
      rw (le-leb (at + w) n h)
      (found (field_at f at w) (at + w)
      (record { valid = lt-ltb _ _ (field_lt f hf at w); next = rw length_binary; within = λ _. h; stands = binary_read f hf at w })))
      (lt_or n (at + w))

  number_alike : (f g : ℕ → ℕ) (n at : ℕ) → Agree f g n → (number e w).read f n at ≡ (number e w).read g n at
  number_alike f g n at a =
      ⊎_elim
      (λ h. number_short e f n at w h ∙ sym (number_short e g n at w h))
      (λ h. number_got e f n at w h ∙ ap (λ (v : ℕ). got v (at + w)) (field_same f g at w (λ i _ k. a i (omega arith))) ∙ sym (number_got e g n at w h))
      (lt_or n (at + w))

  number_told : (f : ℕ → ℕ) (n at : ℕ) → Told (grounds_of n ((number e w).order f n at)) ((number e w).read f n at)
  unfolding number grounds_of none_of first_of both
  number_told f n at = go (leb (at + w) n)
    where
      go : (b : Bool) → Told {A = ℕ} ((short e at, not b) ∷ []) (cond b (got (field_at f at w) (at + w)) (no (short e at)))
      go true = refl
      go false = (refl, refl)

  pub good_number : Good (number e w)
  unfolding number
  good_number =
      record {
        are_bits = λ v h. binary_bits w v;
        forward = λ f n at v h s k.
            let l : at + w ≤ n = omega (arith, length_binary w v) in
            rw (le-leb (at + w) n l, read_binary f at w v (ltb-true v (2 ^ w) h) s, length_binary);
        backward = number_view;
        alike = λ f g n at hf a. number_alike f g n at a;
        told = λ f n hf at. number_told f n at;
        ended = λ f n hf at. number_ended e w f n at;
      }

-- ---- pure

pub good_pure : {A : Type 0} (a : A) (same : A → Bool) → same a ≡ true → ((b : A) → same b ≡ true → b ≡ a) → Good (pure a same)
unfolding grounds_of none_of first_past
good_pure a same self only =
    record {
      are_bits = λ b e. tt;
      forward = λ f n at b e s k. rw (only b e, add-zero);
      backward = λ f n hf at. found a at (record { valid = self; next = sym (add-zero at); within = λ k. k; stands = tt });
      alike = λ f g n at hf e. refl;
      told = λ f n hf at. refl;
      ended = λ f n hf at. came a at (record { after = omega arith; within = λ k. k; first = refl; same = λ m k. refl });
    }

-- ---- guard

-- 4 is the number of an element that reaches past the end, and of no test
module _ {A : Type 0} (c : ℕ) (test : A → Bool) (C : Codec A) (other : eqb c 4 ≡ false) (G : Good C) where
  guard_view : (f : ℕ → ℕ) (n at : ℕ) (r : Read A) → View C f n at r → View (guard c test C) f n at (bind r (λ a p. cond (test a) (got a p) (no (refusal c))))
  guard_view f n at (no s) (refused _) = refused s
  guard_view f n at (got a p) (found _ _ w) = go (test a) refl
    where
      go : (b : Bool) → test a ≡ b → View (guard c test C) f n at (cond b (got a p) (no (refusal c)))
      go true z = found a p (record { valid = both_true (C.ok a) (test a) w.valid z; next = w.next; within = w.within; stands = w.stands })
      go false z = refused (refusal c)

  pub good_guard : Good (guard c test C)
  good_guard =
      record {
        are_bits = λ a v. G.are_bits a (both_left (C.ok a) (test a) v);
        forward = λ f n at a v s k. rw (G.forward f n at a (both_left (C.ok a) (test a) v) s k, both_right (C.ok a) (test a) v);
        backward = λ f n hf at. guard_view f n at (C.read f n at) (G.backward f n hf at);
        alike = λ f g n at hf e. rw (G.alike f g n at hf e);
        told = λ f n hf at. told_then n (C.order f n at) _ _ (C.read f n at) (G.told f n hf at) (λ a p e. told_test n c (test a) a p);
        ended = λ f n hf at. guard_ended c test C other f n at (C.order f n at) (C.read f n at) (G.ended f n hf at);
      }

-- ---- seq

module _ {A B : Type 0} (C : Codec A) (D : A → Codec B) (G : Good C) (H : (a : A) → C.ok a ≡ true → Good (D a)) where
  second_view : (f : ℕ → ℕ) (n at : ℕ) (a : A) (p : ℕ) → Found C f n at a p → (r : Read B) → View (D a) f n p r → View (seq C D) f n at (bind r (λ b q. got (a, b) q))
  second_view f n at a p w (no s) (refused _) = refused s
  second_view f n at a p w (got b q) (found _ _ v) =
      found (a, b) q
      (record {
        valid = both_true (C.ok a) ((D a).ok b) w.valid v.valid;
        next = omega (arith, w.next, v.next, length-append (C.bits a) ((D a).bits b));
        within = λ k. v.within (w.within k);
        stands = stands_join f at (C.bits a) ((D a).bits b) w.stands (rw w.next at v.stands);
      })

  first_view : (f : ℕ → ℕ) (n at : ℕ) → Binary f → (r : Read A) → View C f n at r → View (seq C D) f n at (bind r (λ a p. bind ((D a).read f n p) (λ b q. got (a, b) q)))
  first_view f n at hf (no s) (refused _) = refused s
  first_view f n at hf (got a p) (found _ _ w) = second_view f n at a p w ((D a).read f n p) ((H a w.valid).backward f n hf p)

  second_alike : (f g : ℕ → ℕ) (n at : ℕ) → Binary f → Agree f g n → (r : Read A) → View C f n at r
      → bind r (λ a p. bind {B = A × B} ((D a).read f n p) (λ b q. got (a, b) q)) ≡ bind r (λ a p. bind {B = A × B} ((D a).read g n p) (λ b q. got (a, b) q))
  second_alike f g n at hf e (no s) (refused _) = refl
  second_alike f g n at hf e (got a p) (found _ _ w) = rw ((H a w.valid).alike f g n p hf e)

  -- what was read first is valid
  read_valid : (f : ℕ → ℕ) (n at : ℕ) (r : Read A) → View C f n at r → (a : A) (p : ℕ) → r ≡ got a p → C.ok a ≡ true
  read_valid f n at (no s) (refused _) a p e = let z : ◌≡◌ {A = ℕ} 0 1 = cc in absurd (omega arith)
  read_valid f n at (got b q) (found _ _ w) a p e = let ab : b ≡ a = cc in subst (λ (x : A). C.ok x ≡ true) ab w.valid

  seq_told : (f : ℕ → ℕ) (n : ℕ) → Binary f → (at : ℕ) → Told (grounds_of n ((seq C D).order f n at)) ((seq C D).read f n at)
  seq_told f n hf at =
      told_then n (C.order f n at) _ _ (C.read f n at) (G.told f n hf at)
      (λ a p e. told_map (grounds_of n ((D a).order f n p)) _ ((D a).read f n p) ((H a (read_valid f n at (C.read f n at) (G.backward f n hf at) a p e)).told f n hf p))

  first_ok : (x : A × B) → (seq C D).ok x ≡ true → C.ok x.0 ≡ true
  first_ok x v = both_left (C.ok x.0) ((D x.0).ok x.1) v

  second_ok_lem : (x : A × B) → (seq C D).ok x ≡ true → (D x.0).ok x.1 ≡ true
  second_ok_lem x v = both_right (C.ok x.0) ((D x.0).ok x.1) v

  pub good_seq : Good (seq C D)
  good_seq =
      record {
        are_bits = λ x v. bits_join (C.bits x.0) ((D x.0).bits x.1) (G.are_bits x.0 (first_ok x v)) ((H x.0 (first_ok x v)).are_bits x.1 (second_ok_lem x v));
        forward = λ f n at x v s k.
            let a = x.0 in
            let b = x.1 in
            let e = length-append (C.bits a) ((D a).bits b) in
            let p = at + length (C.bits a) in
            let r₁ = G.forward f n at a (first_ok x v) (stands_left f at (C.bits a) ((D a).bits b) s) (omega (arith, e)) in
            let r₂ = (H a (first_ok x v)).forward f n p b (second_ok_lem x v) (stands_right f at (C.bits a) ((D a).bits b) s) (omega (arith, e)) in
            rw (r₁, r₂) (ap (λ (q : ℕ). got (a, b) q) (omega (arith, e)));
        backward = λ f n hf at. first_view f n at hf (C.read f n at) (G.backward f n hf at);
        alike = λ f g n at hf e. second_alike f g n at hf e (C.read f n at) (G.backward f n hf at) ∙ rw (G.alike f g n at hf e);
        told = seq_told;
        ended = λ f n hf at.
            seq_ended C D (λ a b. (a, b)) (seq C D) f n at (C.order f n at) (λ m. refl) (C.read f n at) (G.ended f n hf at) (G.backward f n hf at)
            (λ a p v. (H a v).ended f n hf p);
      }

-- ---- map: a value that was read goes there and back, and has nothing else; one that has nothing else comes back whole

module _ {A B : Type 0} (to : A → B) (from : B → A) (just : B → Bool) (C : Codec A)
    (back : (a : A) → C.ok a ≡ true → from (to a) ≡ a) (holds : (a : A) → C.ok a ≡ true → just (to a) ≡ true) (there : (b : B) → just b ≡ true → C.ok (from b) ≡ true → to (from b) ≡ b) (G : Good C) where
  map_view : (f : ℕ → ℕ) (n at : ℕ) (r : Read A) → View C f n at r → View (map to from just C) f n at (bind r (λ a p. got (to a) p))
  map_view f n at (no s) (refused _) = refused s
  map_view f n at (got a p) (found _ _ w) =
      let e : a ≡ from (to a) = sym (back a w.valid) in
      found (to a) p
      (record {
        valid = both_true (just (to a)) (C.ok (from (to a))) (holds a w.valid) (subst (λ (x : A). C.ok x ≡ true) e w.valid);
        next = subst (λ (x : A). p ≡ at + length (C.bits x)) e w.next;
        within = w.within;
        stands = subst (λ (x : A). Stands f at (C.bits x)) e w.stands;
      })

  pub good_map : Good (map to from just C)
  good_map =
      record {
        are_bits = λ b v. G.are_bits (from b) (both_right (just b) (C.ok (from b)) v);
        forward = λ f n at b v s k.
            let w = both_right (just b) (C.ok (from b)) v in
            rw (G.forward f n at (from b) w s k) (ap (λ (x : B). got x (at + length (C.bits (from b)))) (there b (both_left (just b) (C.ok (from b)) v) w));
        backward = λ f n hf at. map_view f n at (C.read f n at) (G.backward f n hf at);
        alike = λ f g n at hf e. rw (G.alike f g n at hf e);
        told = λ f n hf at. told_map (grounds_of n (C.order f n at)) to (C.read f n at) (G.told f n hf at);
        ended = λ f n hf at. map_ended to C (map to from just C) f n at (C.order f n at) (λ m. refl) (C.read f n at) (G.ended f n hf at);
      }

-- where all of the other type is carried, every value passes
pub good_iso : {A B : Type 0} (to : A → B) (from : B → A) (C : Codec A) → ((a : A) → C.ok a ≡ true → from (to a) ≡ a) → ((b : B) → C.ok (from b) ≡ true → to (from b) ≡ b) → Good C
    → Good (map to from (λ _. true) C)
good_iso to from C back there G = good_map to from (λ _. true) C back (λ a v. refl) (λ b _ v. there b v) G

-- ---- choose

pub good_choose : {A : Type 0} (b : Bool) {C D : Codec A} → Good C → Good D → Good (choose b C D)
good_choose true G H = G
good_choose false G H = H

-- ---- vec

module _ {A : Type 0} (C : Codec A) (G : Good C) where
  vec_bits_lem : (k : ℕ) (xs : List A) → vec_ok C k xs ≡ true → AreBits (vec_bits C xs)
  vec_bits_lem k [] v = tt
  vec_bits_lem zero (a ∷ xs) v = not_both v
  vec_bits_lem (suc k) (a ∷ xs) v =
      bits_join (C.bits a) (vec_bits C xs) (G.are_bits a (both_left (C.ok a) (vec_ok C k xs) v)) (vec_bits_lem k xs (both_right (C.ok a) (vec_ok C k xs) v))

  vec_forward : (k : ℕ) (f : ℕ → ℕ) (n at : ℕ) (xs : List A) → vec_ok C k xs ≡ true → Stands f at (vec_bits C xs) → at + length (vec_bits C xs) ≤ n
      → vec_read C k f n at ≡ got xs (at + length (vec_bits C xs))
  unfolding vec_read
  vec_forward zero f n at [] v s h = rw add-zero
  vec_forward zero f n at (a ∷ xs) v s h = not_both v
  vec_forward (suc k) f n at [] v s h = not_both v
  vec_forward (suc k) f n at (a ∷ xs) v s h =
      let e = length-append (C.bits a) (vec_bits C xs) in
      let p = at + length (C.bits a) in
      let r₁ = G.forward f n at a (both_left (C.ok a) (vec_ok C k xs) v) (stands_left f at (C.bits a) (vec_bits C xs) s) (omega (arith, e)) in
      let r₂ = vec_forward k f n p xs (both_right (C.ok a) (vec_ok C k xs) v) (stands_right f at (C.bits a) (vec_bits C xs) s) (omega (arith, e)) in
      rw (r₁, r₂) (ap (λ (q : ℕ). got (a ∷ xs) q) (omega (arith, e)))

  rest_view : (k : ℕ) (f : ℕ → ℕ) (n at : ℕ) (a : A) (p : ℕ) → Found C f n at a p → (r : Read (List A)) → View (vec k C) f n p r
      → View (vec (suc k) C) f n at (bind r (λ xs q. got (a ∷ xs) q))
  rest_view k f n at a p w (no s) (refused _) = refused s
  rest_view k f n at a p w (got xs q) (found _ _ v) =
      found (a ∷ xs) q
      (record {
        valid = both_true (C.ok a) (vec_ok C k xs) w.valid v.valid;
        next = omega (arith, w.next, v.next, length-append (C.bits a) (vec_bits C xs));
        within = λ m. v.within (w.within m);
        stands = stands_join f at (C.bits a) (vec_bits C xs) w.stands (rw w.next at v.stands);
      })

  one_view : (k : ℕ) (f : ℕ → ℕ) (n at : ℕ) → ((p : ℕ) → View (vec k C) f n p (vec_read C k f n p)) → (r : Read A) → View C f n at r
      → View (vec (suc k) C) f n at (vec_then C (vec_read C k f n) r)
  one_view k f n at rest (no s) (refused _) = refused s
  one_view k f n at rest (got a p) (found _ _ w) = rest_view k f n at a p w (vec_read C k f n p) (rest p)

  vec_view : (k : ℕ) (f : ℕ → ℕ) (n : ℕ) → Binary f → (at : ℕ) → View (vec k C) f n at (vec_read C k f n at)
  unfolding vec_read
  vec_view zero f n hf at = found [] at (record { valid = refl; next = sym (add-zero at); within = λ h. h; stands = tt })
  vec_view (suc k) f n hf at = one_view k f n at (vec_view k f n hf) (C.read f n at) (G.backward f n hf at)

  then_alike : (k m : ℕ → Read (List A)) → ((p : ℕ) → k p ≡ m p) → (r : Read A) → vec_then C k r ≡ vec_then C m r
  then_alike k m e (got a p) = rw (e p)
  then_alike k m e (no s) = refl

  vec_alike : (k : ℕ) (f g : ℕ → ℕ) (n at : ℕ) → Binary f → Agree f g n → vec_read C k f n at ≡ vec_read C k g n at
  unfolding vec_read
  vec_alike zero f g n at hf e = refl
  vec_alike (suc k) f g n at hf e = rw (G.alike f g n at hf e) (then_alike (vec_read C k f n) (vec_read C k g n) (λ p. vec_alike k f g n p hf e) (C.read g n at))

  vec_told : (k : ℕ) (f : ℕ → ℕ) (n : ℕ) → Binary f → (at : ℕ) → Told (grounds_of n (vec_order C k f n at)) (vec_read C k f n at)
  unfolding vec_read vec_order grounds_of none_of
  vec_told zero f n hf at = refl
  vec_told (suc k) f n hf at =
      told_then n (C.order f n at) _ _ (C.read f n at) (G.told f n hf at)
      (λ a p e. told_map (grounds_of n (vec_order C k f n p)) _ (vec_read C k f n p) (vec_told k f n hf p))

  vec_ended : (k : ℕ) (f : ℕ → ℕ) (n : ℕ) → Binary f → (at : ℕ) → Ended (vec k C) f n at (vec_order C k f n at) (vec_read C k f n at)
  unfolding vec_read vec_order first_past
  vec_ended zero f n hf at = came [] at (record { after = omega arith; within = λ h. h; first = refl; same = λ m h. refl })
  vec_ended (suc k) f n hf at =
      seq_ended C (λ _. vec k C) (λ a xs. a ∷ xs) (vec (suc k) C) f n at (C.order f n at) (λ m. refl) (C.read f n at) (G.ended f n hf at) (G.backward f n hf at)
      (λ a p v. vec_ended k f n hf p)

  pub good_vec : (k : ℕ) → Good (vec k C)
  good_vec k = record { are_bits = vec_bits_lem k; forward = vec_forward k; backward = vec_view k; alike = vec_alike k; told = vec_told k; ended = vec_ended k }
