-- Reading never looks at a bit past the length. Assumes nothing.
use Prim.Native.Nat.{ℕ, ◌*◌, ◌≤◌}
use mathlib.Core.Path.{◌≡◌}
use mathlib.Core.List.{List}
use lib.ListN.{length}
use borrow.Author.Tests.{le-leb}
use Rattle.bits.specs.Fields.{bit_at}
use Rattle.codec.proofs.Good.{Agree}
use Rattle.codec.proofs.RoundTrips as codec
use Rattle.profile.specs.declared.Profile.{Profile}
use Rattle.message.specs.Messages.{message_c}
use Rattle.message.specs.Reading.{whole_of, length_ok, read_bits, read_of}
use Rattle.message.proofs.MessageLaws.{good_message}

-- two buffers that hold n bits and agree on them are read alike
pub past_unread : (p : Profile) (l m : List ℕ) (n : ℕ) → n ≤ 8 * length l → n ≤ 8 * length m → Agree (bit_at l) (bit_at m) n → read_of p l n ≡ read_of p m n
unfolding read_of read_bits length_ok whole_of
past_unread p l m n h k a =
    rw (le-leb n (8 * length l) h, le-leb n (8 * length m) k, codec.past_unread (message_c p.air) (good_message p.air) l n 0 m a)
