-- Writing a message: document 01's order, 1, then 22, then 14. The bits go from the top bit of a byte on, the spare bits of the last
-- byte are zero, and all other bytes stay.
use Rattle.std.specs.Prelude.{ℕ, ◌+◌, ◌*◌, ◌/◌, cond, List, ◌++◌, length, nat_le, Result, Ok, Err}
use Rattle.bits.specs.Puts.{put_bits, binary, spare}
use Rattle.codec.specs.Stops.{refusal}
use Rattle.profile.specs.Rules.{profile_ok}
use Rattle.profile.specs.declared.Air.{Air}
use Rattle.profile.specs.declared.Profile.{Profile}
use Rattle.message.specs.Messages.{message_c}
use Rattle.message.specs.declared.Value.{Value}
use Rattle.validity.specs.Validity.{valid_of}
use Rattle.codec.specs.declared.Stop.{Stop}

-- the bits of a message
unfoldable pub bits_of : Air → Value → List ℕ
bits_of air v = (message_c air).bits v

-- n bits take so many bytes
abbrev pub bytes_for : ℕ → ℕ
bytes_for n = (n + 7) / 8

-- bits up to the end of their last byte, the spare ones zero
unfoldable pub padded : List ℕ → List ℕ
padded bs = bs ++ binary (spare (length bs)) 0

-- the area l with the bits bs from byte b on
unfoldable pub lay_of : List ℕ → ℕ → List ℕ → List ℕ
lay_of l b bs = put_bits l (8 * b) (padded bs)

-- the area afterwards and the message's length in bits, or a refusal
pub data Write : Type 0 where
  laid : List ℕ → ℕ → Write
  refused : Stop → Write

-- 14: the area has fewer bytes from byte b on than the message needs
unfoldable pub lay_in : List ℕ → ℕ → List ℕ → Write
lay_in l b bs = cond (nat_le (b + bytes_for (length bs)) (length l)) (laid (lay_of l b bs) (length bs)) (refused (refusal 14))

unfoldable pub write_valid : Air → Value → List ℕ → ℕ → Write
write_valid air v l b = cond (valid_of air v) (lay_in l b (bits_of air v)) (refused (refusal 22))

unfoldable pub write_of : Profile → Value → List ℕ → ℕ → Write
write_of p v l b = cond (profile_ok p) (write_valid p.air v l b) (refused (refusal 1))

-- ---- what the code answers and leaves

unfoldable pub written_of : Write → Result ℕ Stop
written_of (laid m n) = Ok n
written_of (refused s) = Err s

-- a refusal leaves the area as it stood
unfoldable pub area_of : List ℕ → Write → List ℕ
area_of l (laid m n) = m
area_of l (refused s) = l
