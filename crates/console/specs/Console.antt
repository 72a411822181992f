-- The C interface: what `cad_read`, `cad_read_at` and `cad_write` answer and leave. 0, or the refusal's number; a refusal leaves everything but
-- the two numbers that tell of a 4.
use Rattle.std.specs.Prelude.{◌≡◌, ℕ, cond, List, length, ◌==◌, nat_le, Result, Ok, Err, ⊤}
use Rattle.std.proofs.lemmas.List.Edits.{sets}
use Rattle.codec.specs.Stops.{refusal, no_stop}
use Rattle.codec.specs.declared.Stop.{Stop}
use Rattle.codec.specs.Codec.{Read, got, no}
use Rattle.message.specs.Reading.{read_of}
use Rattle.message.specs.declared.Value.{Value}
use Rattle.writing.specs.Writing.{Write, laid, refused, write_of, area_of}
use Rattle.layouts.specs.Profiles.{passes, profile_from}
use Rattle.layouts.specs.Values.{value_size, value_bytes, value_from, is_value}

-- ---- reading: 1, then reading's own refusals, and 14 last

-- 14: the value area has fewer bytes than a value
unfoldable pub room_for : ℕ → Read Value → Read Value
room_for k (got v p) = cond (nat_le value_size k) (got v p) (no (refusal 14))
room_for k (no s) = no s

-- from the profile's bytes, a message of n bits, and a value area of k bytes
unfoldable pub cad_read : List ℕ → List ℕ → ℕ → ℕ → Read Value
cad_read profile message n k = cond (passes profile) (room_for k (read_of (profile_from profile) message n)) (no (refusal 1))

-- the message is refused, however long the area is
abbrev pub Refused : List ℕ → List ℕ → ℕ → Stop → Type 0
Refused profile message n s = (k : ℕ) → cad_read profile message n k ≡ no s

unfoldable pub read_number : Read Value → ℕ
read_number (got v p) = 0
read_number (no s) = s.number

-- the refusal whole
unfoldable pub read_stop : Read Value → Stop
read_stop (got v p) = no_stop
read_stop (no s) = s

-- by what reads into an area: the refusal, or none where the value's bytes are laid
abbrev pub stop_of : Result ⊤ Stop → Stop
stop_of (Ok done) = no_stop
stop_of (Err s) = s

-- the value's bytes from byte 0 on; what the area has beyond them stays
unfoldable pub read_area : List ℕ → Read Value → List ℕ
read_area area (got v p) = sets area 0 (value_bytes v)
read_area area (no s) = area

unfoldable pub cad_read_of : List ℕ → List ℕ → ℕ → List ℕ → ℕ
cad_read_of profile message n area = read_number (cad_read profile message n (length area))

unfoldable pub cad_read_area : List ℕ → List ℕ → ℕ → List ℕ → List ℕ
cad_read_area profile message n area = read_area area (cad_read profile message n (length area))

unfoldable pub cad_read_stop : List ℕ → List ℕ → ℕ → List ℕ → Stop
cad_read_stop profile message n area = read_stop (cad_read profile message n (length area))

-- what tells of a 4, where x stood before: with any other answer it stays
unfoldable pub tells : Stop → ℕ → ℕ → ℕ
tells s new x = cond (s.number == 4) new x

-- where the element that did not fit begins, and which one it is
unfoldable pub cad_read_position : List ℕ → List ℕ → ℕ → List ℕ → ℕ → ℕ
cad_read_position profile message n area x = tells (cad_read_stop profile message n area) (cad_read_stop profile message n area).at x

unfoldable pub cad_read_element : List ℕ → List ℕ → ℕ → List ℕ → ℕ → ℕ
cad_read_element profile message n area x = tells (cad_read_stop profile message n area) (cad_read_stop profile message n area).element x

-- ---- writing: 1, 22, 14

-- the message from byte 0 of the area on
unfoldable pub cad_write : List ℕ → List ℕ → List ℕ → Write
cad_write profile value area =
    cond (passes profile) (cond (is_value value) (write_of (profile_from profile) (value_from value) area 0) (refused (refusal 22))) (refused (refusal 1))

unfoldable pub write_number : Write → ℕ
write_number (laid m n) = 0
write_number (refused s) = s.number

unfoldable pub write_bits : ℕ → Write → ℕ
write_bits bits (laid m n) = n
write_bits bits (refused s) = bits

unfoldable pub cad_write_of : List ℕ → List ℕ → List ℕ → ℕ
cad_write_of profile value area = write_number (cad_write profile value area)

unfoldable pub cad_write_area : List ℕ → List ℕ → List ℕ → List ℕ
cad_write_area profile value area = area_of area (cad_write profile value area)

unfoldable pub cad_write_bits : List ℕ → List ℕ → List ℕ → ℕ → ℕ
cad_write_bits profile value area bits = write_bits bits (cad_write profile value area)
