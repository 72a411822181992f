-- Of every good codec, on bytes:
--     written_read    what is written reads back as the value
--     read_found      what reads as a value is valid, and its bits are the ones that stood there
--     read-rewritten  so writing it there again changes no byte
--     past-unread     buffers that agree on the first n bits read alike
-- Assumes nothing.
use Prim.Native.Nat.{ℕ, ◌+◌, ◌*◌, ◌≤◌, ◌<◌, ◌^◌}
use mathlib.Core.Path.{◌≡◌, subst}
use mathlib.Core.Bool.{true}
use mathlib.Core.List.{List}
use native.Mathlib.Omega.{arith}
use lib.ListN.{length}
use borrow.Author.Tests.{ltb-true}
use Rattle.bits.specs.Fields.{bit_at}
use Rattle.bits.specs.Puts.{put_bits}
use Rattle.bits.proofs.FieldLaws.{bit_lt}
use Rattle.bits.proofs.Stands.{put_stands, put_standing}
use Rattle.codec.specs.Codec.{Read, got, no, Codec, number}
use Rattle.codec.proofs.Good.{Agree, Found, View, refused, found, Good}
use Rattle.codec.proofs.Combinators.{good_number}

module _ {A : Type 0} (C : Codec A) (G : Good C) (l : List ℕ) (n at : ℕ) where
  pub written_read : (a : A) → C.ok a ≡ true → at + length (C.bits a) ≤ n → n ≤ 8 * length l
      → C.read (bit_at (put_bits l at (C.bits a))) n at ≡ got a (at + length (C.bits a))
  written_read a v h k = G.forward _ n at a v (put_stands l at (C.bits a) (G.are_bits a v) (omega arith)) h

  was_found : (r : Read A) → View C (bit_at l) n at r → (a : A) (p : ℕ) → r ≡ got a p → Found C (bit_at l) n at a p
  was_found (no s) (refused _) a p e = let z : ◌≡◌ {A = ℕ} 0 1 = cc in absurd (omega arith)
  was_found (got b q) (found _ _ w) a p e =
      let ab : b ≡ a = cc in
      let qp : q ≡ p = cc in
      subst (λ (x : A). Found C (bit_at l) n at x p) ab (subst (λ (y : ℕ). Found C (bit_at l) n at b y) qp w)

  pub read_found : (a : A) (p : ℕ) → C.read (bit_at l) n at ≡ got a p → Found C (bit_at l) n at a p
  read_found a p e = was_found (C.read (bit_at l) n at) (G.backward (bit_at l) n (bit_lt l) at) a p e

  pub read_rewritten : (a : A) (p : ℕ) → C.read (bit_at l) n at ≡ got a p → put_bits l at (C.bits a) ≡ l
  read_rewritten a p e = put_standing l at (C.bits a) (read_found a p e).stands

  pub past_unread : (m : List ℕ) → Agree (bit_at l) (bit_at m) n → C.read (bit_at l) n at ≡ C.read (bit_at m) n at
  past_unread m e = G.alike (bit_at l) (bit_at m) n at (bit_lt l) e

-- a number that was read is below 2 ^ w
pub number_lt : (e : ℕ) (l : List ℕ) (n at w v p : ℕ) → (number e w).read (bit_at l) n at ≡ got v p → v < 2 ^ w
unfolding number
number_lt e l n at w v p h = ltb-true v (2 ^ w) (read_found (number e w) (good_number e w) l n at v p h).valid
