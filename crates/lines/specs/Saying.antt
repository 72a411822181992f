-- What is printed for a line after its number, under the sample profile: the message's name in capitals, or `refused` and the number, and with a
-- 4 `at` and the position where the element that did not fit begins.
use Rattle.std.specs.Prelude.{ℕ, ◌+◌, ◌/◌, ◌%◌, cond, List, [], ◌∷◌, ◌++◌, codes, length, replicate, ◌==◌, nat_le, nat_lt}
use Rattle.std.proofs.lemmas.List.Edits.{sets}
use Rattle.codec.specs.Codec.{Read, got, no}
use Rattle.codec.specs.declared.Stop.{Stop}
use Rattle.profile.specs.Sample.{sample}
use Rattle.message.specs.Reading.{read_of}
use Rattle.message.specs.declared.Value.{Value}
use Rattle.lines.specs.Shape.{Line, good, other, line_of}
use Rattle.lines.specs.declared.Text.{Text}

-- the name of a message of PDU type t: every type that is carried has one (proofs/NameLaws)
unfoldable pub name_of : ℕ → List ℕ
name_of t =
    cond (t == 2) (codes "ACTIVATE")
    (cond (t == 3) (codes "ACTIVATE ACK")
    (cond (t == 4) (codes "DEACTIVATE")
    (cond (t == 5) (codes "DEACTIVATE ACK")
    (cond (t == 8) (codes "INTERROGATE")
    (cond (t == 9) (codes "INTERROGATE ACK")
    (cond (t == 10) (codes "INTERCEPTED")
    (cond (t == 11) (codes "REQUEST")
    (cond (t == 12) (codes "ACCEPT")
    (cond (t == 13) (codes "ACCEPTED")
    (cond (t == 14) (codes "CANCEL")
    (cond (t == 15) (codes "DIVERT")
    (cond (t == 16) (codes "DIVERTED")
    (cond (t == 17) (codes "REJECT")
    (cond (t == 18) (codes "REJECTED")
    []))))))))))))))

-- a number below 256 in decimal
abbrev pub decimal_of : ℕ → List ℕ
decimal_of n =
    cond (nat_lt n 10) ((48 + n) ∷ [])
    (cond (nat_lt n 100) ((48 + n / 10) ∷ (48 + n % 10) ∷ []) ((48 + n / 100) ∷ (48 + n / 10 % 10) ∷ (48 + n % 10) ∷ []))

-- `refused ` and the number
unfoldable pub refused_of : ℕ → List ℕ
refused_of n = codes "refused " ++ decimal_of n

-- a position in decimal: reading gives none over 4,096 (`position_most`, message), so four digits are enough
unfoldable pub digit_of : ℕ → ℕ
digit_of n = n % 10 + 48

abbrev pub position_of : ℕ → List ℕ
position_of n =
    cond (nat_le 10 n)
    (cond (nat_le 100 n)
    (cond (nat_le 1000 n) (digit_of (n / 1000) ∷ digit_of (n / 100) ∷ digit_of (n / 10) ∷ digit_of n ∷ []) (digit_of (n / 100) ∷ digit_of (n / 10) ∷ digit_of n ∷ []))
    (digit_of (n / 10) ∷ digit_of n ∷ [])) (digit_of n ∷ [])

-- how many of four digits stand before the first that a number has
abbrev pub zeros_before : ℕ → ℕ
zeros_before n = cond (nat_le 10 n) (cond (nat_le 100 n) (cond (nat_le 1000 n) 0 1) 2) 3

-- `refused 4 at ` and these digits
abbrev pub broke_with : List ℕ → List ℕ
broke_with digits = codes "refused 4 at " ++ digits

unfoldable pub broke_of : ℕ → List ℕ
broke_of at = broke_with (position_of at)

unfoldable pub stop_of : Stop → List ℕ
stop_of s = cond (s.number == 4) (broke_of s.at) (refused_of s.number)

-- what a reading comes to
unfoldable pub answer_of : Read Value → List ℕ
answer_of (got v p) = name_of v.pdu
answer_of (no s) = stop_of s

-- a line of another shape is `refused 3`
abbrev pub say_of : Line → List ℕ
say_of (good bits bytes) = answer_of (read_of sample bytes bits)
say_of other = refused_of 3

unfoldable pub said_of : List ℕ → List ℕ
said_of line = say_of (line_of line)

-- the bytes of a text at the front of twenty: no name has more than fifteen, and `refused 4 at 4096` has seventeen
unfoldable pub text_of : List ℕ → Text
text_of xs = record { len = length xs; bytes = sets (replicate 20 0) 0 xs }
