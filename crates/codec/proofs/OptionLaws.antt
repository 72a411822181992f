-- Optional elements make good codecs. Assumes nothing.
use Prim.Native.Nat.{ℕ, zero, suc, ◌+◌, ◌≤◌, ◌<◌, ◌^◌}
use mathlib.Core.Path.{◌≡◌, refl, ap, ◌∙◌}
use mathlib.Core.Bool.{Bool, true, false, cond}
use native.Mathlib.Omega.{arith}
use lib.Dec.{eqb}
use lib.ListN.{length}
use borrow.Author.Tests.{ltb-true}
use Rattle.codec.specs.Codec.{grounds_of, Read, got, no, bind, Codec, number, pure, guard, choose}
use Rattle.codec.specs.Options.{flag, given, Optional, absent, there, is_there, is_absent, there_bits, there_ok, there_c, optional, options}
use Rattle.bits.proofs.Stands.{AreBits, Stands}
use Rattle.codec.proofs.Good.{both_right, not_both, View, refused, found, Good}
use Rattle.codec.proofs.GroundLaws.{told_map}
use Rattle.codec.proofs.BreakLaws.{map_ended}
use Rattle.codec.proofs.Combinators.{good_number, good_pure, good_guard, good_seq, good_iso, good_choose}

-- ---- a flag

flag_back : (v : ℕ) → v < 2 ^ 1 → cond (eqb v 1) 1 0 ≡ v
flag_back zero h = refl
flag_back (suc zero) h = refl
flag_back (suc (suc v)) h = absurd (omega arith)

flag_there : (b : Bool) → eqb (cond b 1 0) 1 ≡ b
flag_there true = refl
flag_there false = refl

pub good_flag : (e : ℕ) → Good (flag e)
unfolding flag number
good_flag e = good_iso (λ v. eqb v 1) (λ b. cond b 1 0) (number e 1) (λ v h. flag_back v (ltb-true v 2 h)) (λ b _. flag_there b) (good_number e 1)

-- ---- one element behind a bit

module _ {A : Type 0} (p : ℕ) (none : A) (is_none : A → Bool) (C : Codec A) (self : is_none none ≡ true) (only : (a : A) → is_none a ≡ true → a ≡ none) (G : Good C) where
  pub good_given : Good (given p none is_none C)
  good_given = good_seq (flag p) (λ b. choose b C (pure none is_none)) (good_flag p) (λ b _. good_choose b G (good_pure none is_none self only))

-- ---- one optional element behind its P-bit

module _ {A : Type 0} (C : Codec A) (G : Good C) where
  there_view : (f : ℕ → ℕ) (n at : ℕ) (r : Read A) → View C f n at r → View (there_c C) f n at (bind r (λ a p. got (there a) p))
  there_view f n at (no s) (refused _) = refused s
  there_view f n at (got a p) (found _ _ w) = found (there a) p (record { valid = w.valid; next = w.next; within = w.within; stands = w.stands })

  there_forward : (f : ℕ → ℕ) (n at : ℕ) (x : Optional A) → there_ok C x ≡ true → Stands f at (there_bits C x) → at + length (there_bits C x) ≤ n
      → (there_c C).read f n at ≡ got x (at + length (there_bits C x))
  there_forward f n at absent v s k = not_both v
  there_forward f n at (there a) v s k = rw (G.forward f n at a v s k)

  there_are_bits : (x : Optional A) → there_ok C x ≡ true → AreBits (there_bits C x)
  there_are_bits absent v = tt
  there_are_bits (there a) v = G.are_bits a v

  good_there : Good (there_c C)
  good_there =
      record {
        are_bits = there_are_bits;
        forward = there_forward;
        backward = λ f n hf at. there_view f n at (C.read f n at) (G.backward f n hf at);
        alike = λ f g n at hf e. rw (G.alike f g n at hf e);
        told = λ f n hf at. told_map (grounds_of n (C.order f n at)) there (C.read f n at) (G.told f n hf at);
        ended = λ f n hf at. map_ended there C (there_c C) f n at (C.order f n at) (λ m. refl) (C.read f n at) (G.ended f n hf at);
      }

absent_is : {A : Type 0} (x : Optional A) → is_absent x ≡ true → x ≡ absent
absent_is absent e = refl
absent_is (there a) e = not_both e

module _ {A : Type 0} (p : ℕ) (C : Codec A) (G : Good C) where
  -- the P-bit says whether the element is there
  p_bit_lem : (b : Bool) (x : Optional A) → (choose b (there_c C) (pure absent is_absent)).ok x ≡ true → is_there x ≡ b
  p_bit_lem true absent v = not_both v
  p_bit_lem true (there a) v = refl
  p_bit_lem false absent v = refl
  p_bit_lem false (there a) v = not_both v

  pub good_optional : Good (optional p C)
  good_optional =
      good_iso _ _ _
      (λ x v. ap (λ (b : Bool). (b, x.1)) (p_bit_lem x.0 x.1 (both_right ((flag p).ok x.0) _ v)))
      (λ x v. refl)
      (good_seq (flag p) (λ b. choose b (there_c C) (pure absent is_absent)) (good_flag p) (λ b _. good_choose b (good_there C G) (good_pure absent is_absent refl absent_is)))

-- ---- the elements behind the O-bit

module _ {A : Type 0} (o : ℕ) (none : A) (is_none some : A → Bool) (D : Codec A)
    (self : is_none none ≡ true) (only : (a : A) → is_none a ≡ true → a ≡ none) (nothing : some none ≡ false) (G : Good D) where
  -- the O-bit says whether there are some
  o_bit_lem : (b : Bool) (a : A) → (choose b (guard 12 some D) (pure none is_none)).ok a ≡ true → some a ≡ b
  o_bit_lem true a v = both_right (D.ok a) (some a) v
  o_bit_lem false a v = ap some (only a v) ∙ nothing

  pub good_options : Good (options o none is_none some D)
  good_options =
      good_iso _ _ _
      (λ x v. ap (λ (b : Bool). (b, x.1)) (o_bit_lem x.0 x.1 (both_right ((flag o).ok x.0) _ v)))
      (λ a v. refl)
      (good_seq (flag o) (λ b. choose b (guard 12 some D) (pure none is_none)) (good_flag o) (λ b _. good_choose b (good_guard 12 some D refl G) (good_pure none is_none self only)))
