-- Laws of `take`. Assumes nothing.
use Prim.Native.Nat.{ℕ, ◌+◌, ◌≤◌, ◌<◌}
use mathlib.Core.Path.{◌≡◌, ◌∙◌}
use mathlib.Core.List.{List}
use borrow.Author.Tests.{le-leb, lt-leb}
use Rattle.bits.specs.Fields.{bit_at, field_of}
use Rattle.bits.proofs.FieldLaws.{field_is}
use Rattle.codec.specs.Stops.{short}
use Rattle.codec.specs.Codec.{got, no, number}
use Rattle.codec.specs.Taking.{take_of}
use Rattle.codec.proofs.Combinators.{number_short, number_got}

module _ (e : ℕ) (l : List ℕ) (n at w : ℕ) where
  pub take_wide : 64 < w → take_of e l n at w ≡ no (short e at)
  unfolding take_of
  take_wide h = rw (lt-leb w 64 h)

  -- what a caller with a width goes by
  pub take_number : w ≤ 64 → take_of e l n at w ≡ (number e w).read (bit_at l) n at
  unfolding take_of
  take_number h = rw (le-leb w 64 h)

  pub take_past : w ≤ 64 → n < at + w → take_of e l n at w ≡ no (short e at)
  take_past h k = take_number h ∙ number_short e (bit_at l) n at w k

  pub take_there : w ≤ 64 → at + w ≤ n → take_of e l n at w ≡ got (field_of l at w) (at + w)
  take_there h k = take_number h ∙ rw (field_is l at w h) (number_got e (bit_at l) n at w k)
