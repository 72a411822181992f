-- What is printed for an answer, after the line's number; and each part of a dump.
use Rattle.std.specs.Prelude.{ℕ, zero, suc, ◌+◌, ◌*◌, ◌/◌, ◌%◌, ◌^◌, min, Bool, true, false, not, cond, List, [], ◌∷◌, ◌++◌, eqb, ltb, get_or}
use Rattle.codec.specs.declared.Stop.{Stop}
use Rattle.profile.specs.Counting.{one}
use Rattle.message.specs.Elements as element
use Rattle.places.specs.declared.Place.{Place}
use Rattle.records.specs.declared.Record.{Record}
use Rattle.sending.specs.declared.Laid.{Laid}
use Rattle.desk.specs.declared.Answer.{Answer}
use Rattle.desk.specs.declared.Answer.TheVariants as answer
use Rattle.desk.specs.declared.Change.{Change}

-- ---- numbers in decimal, up to ten digits, without zeros at the front

-- the digit worth 10 ^ k
unfoldable pub digit_in : ℕ → ℕ → ℕ
digit_in k n = n / 10 ^ k % 10

-- it is printed if a digit was, or it is the last, or it is not 0
unfoldable pub shown : Bool → ℕ → ℕ → Bool
shown seen k d = cond seen true (cond (eqb k 0) true (not (eqb d 0)))

unfoldable pub digit_if : Bool → ℕ → List ℕ
digit_if show d = cond show ((48 + d) ∷ []) []

-- the last k digits, where one before them was seen or not
unfoldable pub digits_from : Bool → ℕ → ℕ → List ℕ
digits_from seen zero n = []
digits_from seen (suc k) n = digit_if (shown seen k (digit_in k n)) (digit_in k n) ++ digits_from (shown seen k (digit_in k n)) k n

unfoldable pub decimal_of : ℕ → List ℕ
decimal_of n = digits_from false 10 n

-- ---- bytes in hex

-- 0 to 9, A to F
unfoldable pub hex_digit : ℕ → ℕ
hex_digit x = cond (ltb x 10) (48 + x) (55 + x)

unfoldable pub hex_pair : ℕ → List ℕ
hex_pair b = hex_digit (b / 16) ∷ hex_digit (b % 16) ∷ []

-- n bytes of the area from one on
unfoldable pub hex_from : ℕ → List ℕ → ℕ → List ℕ
hex_from zero area at = []
hex_from (suc n) area at = hex_pair (get_or area at 0) ++ hex_from n area (at + 1)

-- the bytes of the message of so many bits that was laid at byte 100 × k
unfoldable pub message_hex : List ℕ → ℕ → ℕ → List ℕ
message_hex area k bits = hex_from ((bits + 7) / 8) area (100 * k)

-- how many bits message k has
unfoldable pub bits_in : Laid → ℕ → ℕ
bits_in laid k = get_or laid.lengths k 0

-- ---- the answers

-- `refused ` and the number
unfoldable pub refused_of : ℕ → List ℕ
refused_of n = (114 ∷ 101 ∷ 102 ∷ 117 ∷ 115 ∷ 101 ∷ 100 ∷ 32 ∷ []) ++ decimal_of n

-- the elements' names, by number
unfoldable pub element_words : List (ℕ × List ℕ)
element_words =
    -- ss-type
    (element.ss_type, 115 ∷ 115 ∷ 45 ∷ 116 ∷ 121 ∷ 112 ∷ 101 ∷ [])
    -- pdu-type
    ∷ (element.pdu_type, 112 ∷ 100 ∷ 117 ∷ 45 ∷ 116 ∷ 121 ∷ 112 ∷ 101 ∷ [])
    -- range
    ∷ (element.range, 114 ∷ 97 ∷ 110 ∷ 103 ∷ 101 ∷ [])
    -- kind
    ∷ (element.kind, 107 ∷ 105 ∷ 110 ∷ 100 ∷ [])
    -- ssi
    ∷ (element.ssi, 115 ∷ 115 ∷ 105 ∷ [])
    -- extension
    ∷ (element.extension, 101 ∷ 120 ∷ 116 ∷ 101 ∷ 110 ∷ 115 ∷ 105 ∷ 111 ∷ 110 ∷ [])
    -- mask-present
    ∷ (element.mask_present, 109 ∷ 97 ∷ 115 ∷ 107 ∷ 45 ∷ 112 ∷ 114 ∷ 101 ∷ 115 ∷ 101 ∷ 110 ∷ 116 ∷ [])
    -- mask
    ∷ (element.mask, 109 ∷ 97 ∷ 115 ∷ 107 ∷ [])
    -- result
    ∷ (element.result, 114 ∷ 101 ∷ 115 ∷ 117 ∷ 108 ∷ 116 ∷ [])
    -- reason
    ∷ (element.reason, 114 ∷ 101 ∷ 97 ∷ 115 ∷ 111 ∷ 110 ∷ [])
    -- cause
    ∷ (element.cause, 99 ∷ 97 ∷ 117 ∷ 115 ∷ 101 ∷ [])
    -- identifier
    ∷ (element.identifier, 105 ∷ 100 ∷ 101 ∷ 110 ∷ 116 ∷ 105 ∷ 102 ∷ 105 ∷ 101 ∷ 114 ∷ [])
    -- o-bit
    ∷ (element.o_bit, 111 ∷ 45 ∷ 98 ∷ 105 ∷ 116 ∷ [])
    -- p-bit
    ∷ (element.p_bit, 112 ∷ 45 ∷ 98 ∷ 105 ∷ 116 ∷ [])
    -- mni
    ∷ (element.mni, 109 ∷ 110 ∷ 105 ∷ [])
    -- area
    ∷ (element.area, 97 ∷ 114 ∷ 101 ∷ 97 ∷ [])
    -- basic-service
    ∷ (element.basic_service, 98 ∷ 97 ∷ 115 ∷ 105 ∷ 99 ∷ 45 ∷ 115 ∷ 101 ∷ 114 ∷ 118 ∷ 105 ∷ 99 ∷ 101 ∷ [])
    -- activation-type
    ∷ (element.activation_type, 97 ∷ 99 ∷ 116 ∷ 105 ∷ 118 ∷ 97 ∷ 116 ∷ 105 ∷ 111 ∷ 110 ∷ 45 ∷ 116 ∷ 121 ∷ 112 ∷ 101 ∷ [])
    -- interception-type
    ∷ (element.interception_type, 105 ∷ 110 ∷ 116 ∷ 101 ∷ 114 ∷ 99 ∷ 101 ∷ 112 ∷ 116 ∷ 105 ∷ 111 ∷ 110 ∷ 45 ∷ 116 ∷ 121 ∷ 112 ∷ 101 ∷ [])
    -- type-of-restriction
    ∷ (element.type_of_restriction, 116 ∷ 121 ∷ 112 ∷ 101 ∷ 45 ∷ 111 ∷ 102 ∷ 45 ∷ 114 ∷ 101 ∷ 115 ∷ 116 ∷ 114 ∷ 105 ∷ 99 ∷ 116 ∷ 105 ∷ 111 ∷ 110 ∷ [])
    ∷ []

unfoldable pub word_in : List (ℕ × List ℕ) → ℕ → List ℕ
word_in [] e = []
word_in ((k, word) ∷ rest) e = cond (eqb e k) word (word_in rest e)

-- no other number is an element's
unfoldable pub element_word : ℕ → List ℕ
element_word e = word_in element_words e

-- with a 4 ` at `, the position where the element that did not fit begins, a space and its name; reading gives no position over 4,096
-- (`position_most`, message), so 32 bits are enough
unfoldable pub broke_words : Stop → List ℕ
broke_words s = cond (eqb s.number 4) ((32 ∷ 97 ∷ 116 ∷ 32 ∷ []) ++ (decimal_of (min s.at 4294967295) ++ ((32 ∷ []) ++ element_word s.element))) []

-- no-record, other-post, active, not-active
unfoldable pub state_word : ℕ → List ℕ
state_word k =
    cond (eqb k 0) (110 ∷ 111 ∷ 45 ∷ 114 ∷ 101 ∷ 99 ∷ 111 ∷ 114 ∷ 100 ∷ [])
    (cond (eqb k 1) (111 ∷ 116 ∷ 104 ∷ 101 ∷ 114 ∷ 45 ∷ 112 ∷ 111 ∷ 115 ∷ 116 ∷ [])
    (cond (eqb k 2) (97 ∷ 99 ∷ 116 ∷ 105 ∷ 118 ∷ 101 ∷ []) (110 ∷ 111 ∷ 116 ∷ 45 ∷ 97 ∷ 99 ∷ 116 ∷ 105 ∷ 118 ∷ 101 ∷ [])))

-- the word, and INTERROGATE ACK: its bits and its bytes
unfoldable pub state_words : ℕ → Laid → List ℕ → List ℕ
state_words k laid area =
    (115 ∷ 116 ∷ 97 ∷ 116 ∷ 101 ∷ 32 ∷ [])
    ++ (state_word k ++ ((32 ∷ []) ++ (decimal_of (bits_in laid 0) ++ ((32 ∷ []) ++ message_hex area 0 (bits_in laid 0)))))

-- ACK k, if there are that many: a space and its bits, a space and its bytes
unfoldable pub ack_bits : Laid → ℕ → List ℕ
ack_bits laid k = cond (ltb k laid.count) ((32 ∷ []) ++ decimal_of (bits_in laid k)) []

unfoldable pub ack_hex : Laid → List ℕ → ℕ → List ℕ
ack_hex laid area k = cond (ltb k laid.count) ((32 ∷ []) ++ message_hex area k (bits_in laid k)) []

-- `acks K`, the bits of each, the bytes of each
unfoldable pub acks_words : Laid → List ℕ → List ℕ
acks_words laid area =
    (97 ∷ 99 ∷ 107 ∷ 115 ∷ 32 ∷ [])
    ++ (decimal_of laid.count
    ++ ((ack_bits laid 0 ++ (ack_bits laid 1 ++ ack_bits laid 2)) ++ (ack_hex laid area 0 ++ (ack_hex laid area 1 ++ ack_hex laid area 2))))

-- `admitted POST PLACE ` and the two messages
unfoldable pub admitted_words : ℕ → ℕ → Laid → List ℕ → List ℕ
admitted_words post place laid area =
    (97 ∷ 100 ∷ 109 ∷ 105 ∷ 116 ∷ 116 ∷ 101 ∷ 100 ∷ 32 ∷ [])
    ++ (decimal_of post ++ ((32 ∷ []) ++ (decimal_of place ++ ((32 ∷ []) ++ (message_hex area 0 (bits_in laid 0) ++ ((32 ∷ []) ++ message_hex area 1 (bits_in laid 1)))))))

-- the post and the message
unfoldable pub post_words : ℕ → Laid → List ℕ → List ℕ
post_words post laid area = decimal_of post ++ ((32 ∷ []) ++ message_hex area 0 (bits_in laid 0))

unfoldable pub words_of : Answer → Laid → List ℕ → List ℕ
words_of (answer.Refused s) laid area = refused_of s.number ++ broke_words s
words_of answer.Acks laid area = acks_words laid area
words_of (answer.State k) laid area = state_words k laid area
-- `free`
words_of answer.Free laid area = 102 ∷ 114 ∷ 101 ∷ 101 ∷ []
words_of (answer.Admitted post place) laid area = admitted_words post place laid area
-- `proceed `
words_of answer.Proceed laid area = (112 ∷ 114 ∷ 111 ∷ 99 ∷ 101 ∷ 101 ∷ 100 ∷ 32 ∷ []) ++ message_hex area 0 (bits_in laid 0)
-- `diverted `
words_of answer.Diverted laid area = (100 ∷ 105 ∷ 118 ∷ 101 ∷ 114 ∷ 116 ∷ 101 ∷ 100 ∷ 32 ∷ []) ++ message_hex area 0 (bits_in laid 0)
-- `rejected `
words_of answer.Rejected laid area = (114 ∷ 101 ∷ 106 ∷ 101 ∷ 99 ∷ 116 ∷ 101 ∷ 100 ∷ 32 ∷ []) ++ message_hex area 0 (bits_in laid 0)
-- `cancelled `
words_of (answer.Cancelled post) laid area = (99 ∷ 97 ∷ 110 ∷ 99 ∷ 101 ∷ 108 ∷ 108 ∷ 101 ∷ 100 ∷ 32 ∷ []) ++ post_words post laid area
-- `moved `
words_of (answer.Moved post) laid area = (109 ∷ 111 ∷ 118 ∷ 101 ∷ 100 ∷ 32 ∷ []) ++ post_words post laid area

-- new shares: `taken`, or the refusal
unfoldable pub change_words : Change → List ℕ
change_words x = cond x.taken (116 ∷ 97 ∷ 107 ∷ 101 ∷ 110 ∷ []) (refused_of x.stop.number)

-- ---- a dump's parts: each with a space before it, and nothing for what is not used

-- `:` and a number
unfoldable pub field_of : ℕ → List ℕ
field_of n = (58 ∷ []) ++ decimal_of n

-- `>` and the second post, if there is one
unfoldable pub second_words : Bool → ℕ → List ℕ
second_words more second = cond more ((62 ∷ []) ++ decimal_of second) []

-- `!` and the cause, if it is not 0
unfoldable pub cause_words : ℕ → List ℕ
cause_words cause = cond (eqb cause 0) [] ((33 ∷ []) ++ decimal_of cause)

-- I:ID:POST, with >SECOND and !CAUSE behind it where they are
unfoldable pub place_words : ℕ → Place → List ℕ
place_words i p =
    cond p.used ((32 ∷ []) ++ (decimal_of i ++ (field_of p.identifier ++ (field_of p.post ++ (second_words p.more p.second ++ cause_words p.cause))))) []

-- I:SSI:EXT:POST:ACTIVE
unfoldable pub record_words : ℕ → Record → List ℕ
record_words i r =
    cond r.in_use ((32 ∷ []) ++ (decimal_of i ++ (field_of r.ssi ++ (field_of r.extension ++ (field_of r.post ++ field_of (one r.active)))))) []
