-- What a reading that was found, and one that was refused, come to; what is said of a line after its bit length; and that the bits read
-- from a room which has the bytes for them, and anything behind, say what the line says. Assumes nothing.
use Rattle.std.proofs.Common.{◌≡◌, ℕ, ◌+◌, ◌-◌, ◌*◌, ◌/◌, ◌%◌, ◌^◌, ◌<◌, ◌≤◌, Bool, true, false, leb, List, length, get_or, take, sym, ap, ◌∙◌, arith, length-take-le, get_or-take}
use Rattle.std.specs.Prelude.{Result, Ok, Err}
use borrow.Author.Tests.{lt-leb}
use Rattle.bits.specs.Fields.{bit_at}
use Rattle.codec.specs.Codec.{Read, got, no, both}
use Rattle.codec.specs.Stops.{refusal}
use Rattle.codec.specs.declared.Stop.{Stop}
use Rattle.codec.proofs.Good.{Agree, both_none}
use Rattle.profile.specs.Sample.{sample}
use Rattle.profile.specs.declared.Air.{Air}
use Rattle.profile.specs.declared.Profile.{Profile}
use Rattle.profile.proofs.ProfileLaws.{sample_passes}
use Rattle.message.specs.Reading.{whole_of, length_ok, read_bits, read_of}
use Rattle.message.specs.declared.Value.{Value}
use Rattle.message.proofs.ReadingLaws.{past_unread}
use Rattle.reading.specs.Walks.{type_in, type_of}
use Rattle.reading.proofs.WalkLaws.{length_good}
use Rattle.lines.specs.Shape.{no_bytes, no_hex, hex_at, line_with}
use Rattle.lines.specs.Saying.{name_of, refused_of, stop_of, answer_of, say_of}
use Rattle.lines.specs.Parsing.{pairs_in, Enough}
use Rattle.lines.proofs.HexLaws.{length_pairs, pair_at_lem, hex_room, hex_is, hex_none}

-- ---- what a reading comes to

pub said_found : (rd : Read Value) (t : ℕ) → Ok t ≡ type_of (type_in rd) → answer_of rd ≡ name_of t
unfolding type_of answer_of
said_found (got v p) t e = let z : t ≡ v.pdu = cc in rw z
said_found (no s) t e = let z : ◌≡◌ {A = ℕ} 0 1 = cc in absurd (omega arith)

pub said_refused : (rd : Read Value) (t : Stop) → Err t ≡ type_of (type_in rd) → answer_of rd ≡ stop_of t
unfolding type_of answer_of
said_refused (got v p) t e = let z : ◌≡◌ {A = ℕ} 0 1 = cc in absurd (omega arith)
said_refused (no s) t e = let z : t ≡ s = cc in rw z

-- ---- reading where the length is in order

pub bits_whole : (air : Air) (l : List ℕ) (n : ℕ) → 1 ≤ n → n ≤ 4096 → n ≤ 8 * length l → read_bits air l n ≡ whole_of air (bit_at l) n
unfolding read_bits
bits_whole air l n some most held = rw (length_good l n some most held)

read_whole : (l : List ℕ) (n : ℕ) → 1 ≤ n → n ≤ 4096 → n ≤ 8 * length l → read_of sample l n ≡ whole_of sample.air (bit_at l) n
unfolding read_of
read_whole l n some most held = rw sample_passes (bits_whole sample.air l n some most held)

pub type_sample : (r : Result ℕ Stop) (p : Profile) (l : List ℕ) (n : ℕ) → p ≡ sample → r ≡ type_of (type_in (read_bits p.air l n)) → 1 ≤ n → n ≤ 4096 → n ≤ 8 * length l
    → r ≡ type_of (type_in (whole_of sample.air (bit_at l) n))
type_sample r p l n e k some most held =
    k
    ∙ ap (λ (q : Profile). type_of (type_in (read_bits q.air l n))) e
    ∙ ap (λ (x : Read Value). type_of (type_in x)) (bits_whole sample.air l n some most held)

read_not : (l : List ℕ) (n : ℕ) → length_ok l n ≡ false → answer_of (read_of sample l n) ≡ refused_of 3
unfolding read_of read_bits answer_of stop_of refusal
read_not l n e = rw (sample_passes, e)

-- ---- what is said of a line after its bit length

module _ (l : List ℕ) (from bits : ℕ) where
  abbrev left : ℕ
  left = length l - from

  abbrev said_there : List ℕ
  said_there = say_of (line_with bits (hex_at l from))

  abbrev message : List ℕ
  message = take (left / 2) (pairs_in no_bytes l from (left / 2))

  pub say_none : (hex_at l from).good ≡ false → said_there ≡ refused_of 3
  unfolding line_with no_hex
  say_none e = rw (hex_none l from e)

  module _ (inside : from ≤ length l) (good : (hex_at l from).good ≡ true) where
    say_message : said_there ≡ answer_of (read_of sample message bits)
    unfolding line_with
    say_message = rw (hex_is l from inside good)

    message_long : length message ≡ left / 2
    unfolding no_bytes
    message_long = length-take-le _ _ (omega (arith, length_pairs no_bytes l from (left / 2), hex_room l from good))

    pub say_no_bits : bits < 1 → said_there ≡ refused_of 3
    unfolding length_ok both
    say_no_bits h = say_message ∙ read_not message bits (rw (lt-leb 1 bits h))

    pub say_many_bits : 4096 < bits → said_there ≡ refused_of 3
    unfolding length_ok both
    say_many_bits h = say_message ∙ read_not message bits (rw (lt-leb bits 4096 h) (both_none (leb 1 bits)))

    pub say_few_bytes : left / 2 < (bits + 7) / 8 → said_there ≡ refused_of 3
    unfolding length_ok
    say_few_bytes h = say_message ∙ read_not message bits (rw (message_long, lt-leb bits (8 * (left / 2)) (omega (arith, h)), both_none (leb bits 4096)) (both_none (leb 1 bits)))

  -- in the room are the bytes that the bits stand in
  module _ (e : Enough l from bits) (room : List ℕ) (h : (bits + 7) / 8 ≤ length room) where
    abbrev filled : List ℕ
    filled = pairs_in room l from ((bits + 7) / 8)

    same_byte : (k : ℕ) → k < (bits + 7) / 8 → get_or message k 0 ≡ get_or filled k 0
    unfolding no_bytes
    same_byte k i =
        get_or-take (left / 2) _ k 0 (omega (arith, i, e.held))
        ∙ pair_at_lem no_bytes l from (left / 2) k (omega (arith, i, e.held)) (omega (arith, hex_room l from e.hex))
        ∙ sym (pair_at_lem room l from ((bits + 7) / 8) k i h)

    same_bits : Agree (bit_at message) (bit_at filled) bits
    unfolding bit_at
    same_bits i b = ap (λ (x : ℕ). x / 2 ^ (7 - i % 8) % 2) (same_byte (i / 8) (omega (arith, b)))

    pub say_read : said_there ≡ answer_of (whole_of sample.air (bit_at filled) bits)
    say_read =
        say_message e.inside e.hex
        ∙ ap (λ (r : Read Value). answer_of r) (past_unread sample message filled bits (omega (arith, message_long e.inside e.hex, e.held)) held same_bits)
        ∙ ap (λ (r : Read Value). answer_of r) (read_whole filled bits e.some e.most held)
      where
        held : bits ≤ 8 * length filled
        held = omega (arith, h, length_pairs room l from ((bits + 7) / 8))
